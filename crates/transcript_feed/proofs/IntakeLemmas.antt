-- Bytes that wait behind those that are read.
use Rattle.std.proofs.Common.{◌≡◌, ◌∙◌, ℕ, List, [], ◌++◌, Result, Ok, Err, sym, ap, subst, append-nil, append_assoc}
use Rattle.std.specs.Prelude.{IfOk}
use Rattle.std.specs.declared.alloc.AllocError.{AllocError}
use Rattle.event_schedule.specs.declared.Entry.{Entry}
use Rattle.group_plan.specs.Plans.{PlanView}
use Rattle.transcript_text.specs.declared.fault.ReadError.{ReadError}
use Rattle.transcript_text.specs.declared.version.Version.{Version}
use Rattle.transcript_feed.specs.declared.body.Body.{Body}
use Rattle.transcript_feed.specs.declared.intake.Intake.{Intake}
use Rattle.transcript_feed.specs.Feeds.{FeedEnds, IsBodyOf, IsIntakeOf}

module _ {R S : Type 0} (has : S → PlanView → List Entry → Type 0) where
  -- none wait
  pub none_wait : (version : Version) (text waiting : List ℕ) (b : Body R S) → waiting ≡ [] → IsBodyOf has version text b
      → (front : List ℕ) × (text ≡ front ++ waiting) × IsBodyOf has version front b
  none_wait version text waiting b none is = (text, sym (ap (λ (xs : List ℕ). text ++ xs) none ∙ append-nil text), is)

  -- the bytes that wait and those that come are read
  pub all_read : (old : Intake R S) (bytes all : List ℕ) (r : Result (Intake R S) AllocError) → all ≡ old.waiting.items ++ bytes
      → IfOk r (λ new. (version : Version) (before : List ℕ) → IsBodyOf has version before old.body → IsIntakeOf has version (before ++ all) new)
      → IfOk r (λ new. (version : Version) (before : List ℕ) → IsIntakeOf has version before old → IsIntakeOf has version (before ++ bytes) new)
  all_read old bytes all (Ok new) all_is reads = λ version text is.
      let so : is.0 ++ all ≡ text ++ bytes
      = ap (λ (xs : List ℕ). is.0 ++ xs) all_is ∙ sym (append_assoc is.0 old.waiting.items bytes) ∙ ap (λ (xs : List ℕ). xs ++ bytes) (sym is.1) in
      subst (λ (xs : List ℕ). IsIntakeOf has version xs new) so (reads version is.0 is.2)
  all_read old bytes all (Err e) all_is reads = tt

  -- the bytes that wait are the last
  pub last_wait : (version : Version) (text : List ℕ) (i : Intake R S) (result : Result S ReadError) (is : IsIntakeOf has version text i)
      → FeedEnds has version (is.0 ++ i.waiting.items) result → FeedEnds has version text result
  last_wait version text i result is ends = subst (λ (xs : List ℕ). FeedEnds has version xs result) (sym is.1) ends
