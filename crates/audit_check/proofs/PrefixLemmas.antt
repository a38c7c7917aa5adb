-- What the first lines of a transcript say of its presence.
use Rattle.std.proofs.Common.{◌≡◌, ℕ, Bool, true, false, ◌&&◌, ◌||◌, List, [], ◌∷◌, ◌++◌, refl, sym, ap, ◌∙◌}
use Rattle.std.specs.Prelude.{if◌then◌else◌, is_some}
use Rattle.std.specs.List.{list_any}
use Rattle.std.proofs.lemmas.Bool.{false≢true}
use Rattle.group_plan.specs.declared.Kind.TheVariants.{Reading}
use Rattle.group_plan.specs.Plans.{Group, is_member}
use Rattle.event_schedule.specs.declared.Event.{Event}
use Rattle.event_schedule.specs.declared.Line.{Line}
use Rattle.event_schedule.specs.Events.{once, event_of, frame_of, is_send}
use Rattle.event_schedule.specs.Frames.{first_frame, shape_of_lines}
use Rattle.event_schedule.specs.Journal.{past_of}
use Rattle.event_schedule.proofs.ScheduleLemmas.{once-cons}
use Rattle.event_schedule.proofs.ShapeLemmas.{AgreeOn}
use Rattle.group_book.proofs.LineLemmas.{past_of-push}
use Rattle.audit_check.proofs.TellLemmas.{line_by_line}

any-push : (p : Line → Bool) (j : List Line) (l : Line) → list_any p (j ++ l ∷ []) ≡ (p l || list_any p j)
any-push p [] l = refl
any-push p (x ∷ j) l = ap (λ q. p x || q) (any-push p j l) ∙ swap (p x) (p l) (list_any p j)
  where
    swap : (a b c : Bool) → (a || (b || c)) ≡ (b || (a || c))
    swap true true c = refl
    swap true false c = refl
    swap false b c = refl

none_once : (p : Event → Bool) → once (λ e _. p e) [] ≡ false
unfolding once
none_once p = refl

-- an event of the past is that of a line
pub once-any : (p : Event → Bool) (j : List Line) → once (λ e _. p e) (past_of j) ≡ list_any (λ l. p (event_of l)) j
once-any p j = line_by_line (λ x. once (λ e _. p e) (past_of x) ≡ list_any (λ l. p (event_of l)) x) (none_once p)
    (λ x l same. ap (once (λ e _. p e)) (past_of-push x l) ∙ once-cons (λ e _. p e) (event_of l) (past_of x) ∙ ap (λ q. p (event_of l) || q) same ∙ sym (any-push (λ y. p (event_of y)) x l)) j

-- the first Send of a reading that is among these lines is the first of more lines too
first_frame-more : (g r i : ℕ) (j rest : List Line) → list_any (λ l. is_send g r i Reading (event_of l)) j ≡ true → first_frame g r i (j ++ rest) ≡ first_frame g r i j
first_frame-more g r i [] rest any = absurd (false≢true any)
first_frame-more g r i (l ∷ j) rest any = by_case (is_send g r i Reading (event_of l)) any (first_frame-more g r i j rest)
  where
    by_case : (q : Bool) → (q || list_any (λ x. is_send g r i Reading (event_of x)) j) ≡ true
        → (list_any (λ x. is_send g r i Reading (event_of x)) j ≡ true → first_frame g r i (j ++ rest) ≡ first_frame g r i j)
        → (if q then frame_of l else first_frame g r i (j ++ rest)) ≡ (if q then frame_of l else first_frame g r i j)
    by_case true any later = refl
    by_case false any later = later any

pub more_agree : (groups : List Group) (j rest : List Line) → AgreeOn (shape_of_lines groups (j ++ rest)) (shape_of_lines groups j) (past_of j)
unfolding AgreeOn
more_agree groups j rest g r i sent =
    ap (λ f. is_member groups g r i && is_some f) (first_frame-more g r i j rest (sym (once-any (is_send g r i Reading) j) ∙ sent))

pub agree-sym : (groups : List Group) (a b : List Line) (p : List Event) → AgreeOn (shape_of_lines groups a) (shape_of_lines groups b) p → AgreeOn (shape_of_lines groups b) (shape_of_lines groups a) p
unfolding AgreeOn
agree-sym groups a b p agree g r i sent = sym (agree g r i sent)
