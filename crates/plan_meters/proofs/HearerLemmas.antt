-- The meters that hear, frame by frame.
use Rattle.std.proofs.Common.{◌≡◌, ℕ, Bool, true, false, cond, ◌||◌, ◌&&◌, List, [], ◌∷◌, ◌++◌, length, refl, sym, ap, ◌∙◌, subst, ⊎_elim}
use Rattle.std.specs.Prelude.{◌==◌}
use Rattle.std.proofs.lemmas.Bool.{false≢true, and_from, eq-eqb, cases_eq, ne_eqb, or_right}
use Rattle.std.specs.List.{list_all}
use Rattle.std.proofs.lemmas.List.{map-append}
use Rattle.missing_round.specs.Sets.{is_member, joined}
use Rattle.missing_round.proofs.SetLemmas.{is_member-joined}
use Rattle.group_plan.specs.declared.Kind.TheVariants.{Announcement}
use Rattle.group_plan.specs.declared.Tag.{Tag}
use Rattle.meter_frames.specs.declared.Frame.{Frame}
use Rattle.run_rows.specs.Ticks.{tag_of}
use Rattle.plan_meters.specs.Came.{same_tag, tags_of}
use Rattle.group_plan.specs.Plans.{PlanView}
use Rattle.blind_core.specs.Blind.{are_places}
use Rattle.plan_meters.specs.TickFrames.{was_taken, announced_set, IsHeardIn, is_announcement_in, CanAnswer}
use Rattle.plan_meters.specs.declared.group.Hearers.{Hearers}
use Rattle.plan_meters.specs.Hearers.{AreHearers, StayAlike, IsAlike, HearsToo}
use Rattle.plan_meters.proofs.GroupLemmas.{heard-more, heard-same, same_at}

-- a set that came stays, whatever comes later
set-kept : (z : Tag) (came : List Frame) (f : Frame) → was_taken (tags_of came) z ≡ true → announced_set (came ++ f ∷ []) z ≡ announced_set came z
set-kept z [] f taken = absurd (false≢true taken)
set-kept z (x ∷ came) f taken = step (same_tag z x.tag) taken (set-kept z came f)
  where
    step : (b : Bool) → (b || was_taken (tags_of came) z) ≡ true → (was_taken (tags_of came) z ≡ true → announced_set (came ++ f ∷ []) z ≡ announced_set came z)
        → cond b x.missing (announced_set (came ++ f ∷ []) z) ≡ cond b x.missing (announced_set came z)
    step true taken later = refl
    step false taken later = later taken

-- the first announcement says the set
set-new : (z : Tag) (came : List Frame) (f : Frame) → was_taken (tags_of came) z ≡ false → same_tag z f.tag ≡ true → announced_set (came ++ f ∷ []) z ≡ f.missing
set-new z [] f none same = ap (λ b. cond b f.missing []) same
set-new z (x ∷ came) f none same = step (same_tag z x.tag) none (λ n. set-new z came f n same)
  where
    step : (b : Bool) → (b || was_taken (tags_of came) z) ≡ false → (was_taken (tags_of came) z ≡ false → announced_set (came ++ f ∷ []) z ≡ f.missing)
        → cond b x.missing (announced_set (came ++ f ∷ []) z) ≡ f.missing
    step true none later = absurd (false≢true (sym none))
    step false none later = later none

tags-more : (came : List Frame) (f : Frame) → tags_of came ++ f.tag ∷ [] ≡ tags_of (came ++ f ∷ [])
tags-more came f = sym (map-append (λ (x : Frame). x.tag) came (f ∷ []))

-- a meter that was alike is so still
still-alike : (g r i : ℕ) (h : Hearers) (meters : List ℕ) (f : Frame) (came : List Frame) → AreHearers came g r h → (is_member i h.meters ≡ true → is_member i meters ≡ true) → is_member i h.alike ≡ true
    → (is_member i meters ≡ true) × (announced_set (came ++ f ∷ []) (tag_of Announcement g r i) ≡ h.missing)
still-alike g r i h meters f came are more member =
    let before = are.alike i member in
    (more before.0, set-kept (tag_of Announcement g r i) came f (sym (are.meters i) ∙ before.0) ∙ before.1)

joined-keeps : (i meter : ℕ) (xs : List ℕ) → is_member i xs ≡ true → is_member i (joined meter xs) ≡ true
joined-keeps i meter xs member = is_member-joined i meter xs ∙ or_right (meter == i) (is_member i xs) member

-- the meter that hears first of a set
is-alike : (g r : ℕ) (h k : Hearers) (f : Frame) (came : List Frame) → is_announcement_in g r f.tag ≡ true → AreHearers came g r h → k.meters ≡ joined f.tag.meter h.meters
    → IsAlike h f.tag.meter f.missing k → (i : ℕ) → f.tag.meter ≡ i
    → (is_member i k.meters ≡ true) × (announced_set (came ++ f ∷ []) (tag_of Announcement g r i) ≡ k.missing)
is-alike g r h k f came here are meters is i e =
    let this : (f.tag.meter == i) ≡ true = eq-eqb f.tag.meter i e in (
      ap (is_member i) meters ∙ is_member-joined i f.tag.meter h.meters ∙ ap (λ b. b || is_member i h.meters) this,
      set-new (tag_of Announcement g r i) came f (sym (are.meters i) ∙ subst (λ j. is_member j h.meters ≡ false) e is.new)
          (same_at g r i f.tag ∙ ap (λ b. b && is_announcement_in g r f.tag) this ∙ here) ∙ sym is.missing,
    )

-- an announcement that comes
pub hearers-more : (g r : ℕ) (h k : Hearers) (f : Frame) → is_announcement_in g r f.tag ≡ true → HearsToo h f.tag.meter f.missing k → (came : List Frame) → AreHearers came g r h
    → AreHearers (came ++ f ∷ []) g r k
hearers-more g r h k f here too came are = record {
  meters = subst (λ l. IsHeardIn l g r k.meters) (tags-more came f)
      (subst (λ l. IsHeardIn (tags_of came ++ f.tag ∷ []) g r l) (sym too.meters) (heard-more g r h.meters f.tag here (tags_of came) are.meters));
  alike = λ i member. ⊎_elim
      (λ (stay : StayAlike h k).
      let after = still-alike g r i h k.meters f came are (λ m. ap (is_member i) too.meters ∙ joined-keeps i f.tag.meter h.meters m) (sym (ap (is_member i) stay.alike) ∙ member) in
      (after.0, after.1 ∙ sym stay.missing))
      (λ (is : IsAlike h f.tag.meter f.missing k). ⊎_elim
      (λ e. is-alike g r h k f came here are too.meters is i e)
      (λ ne.
      let old : is_member i h.alike ≡ true = sym (is_member-joined i f.tag.meter h.alike ∙ ap (λ b. b || is_member i h.alike) (ne_eqb f.tag.meter i ne)) ∙ sym (ap (is_member i) is.alike) ∙ member in
      let after = still-alike g r i h k.meters f came are (λ m. ap (is_member i) too.meters ∙ joined-keeps i f.tag.meter h.meters m) old in
      ⊎_elim
      (λ none. absurd (false≢true (sym (ap (is_member i) none) ∙ old)))
      (λ same. (after.0, after.1 ∙ same ∙ sym is.missing))
      is.same)
      (cases_eq f.tag.meter i))
      too.alike;
}

-- any other frame
pub hearers-same : (g r : ℕ) (h : Hearers) (f : Frame) → is_announcement_in g r f.tag ≡ false → (came : List Frame) → AreHearers came g r h → AreHearers (came ++ f ∷ []) g r h
hearers-same g r h f other came are = record {
  meters = subst (λ l. IsHeardIn l g r h.meters) (tags-more came f) (heard-same g r h.meters f.tag other (tags_of came) are.meters);
  alike = λ i member. still-alike g r i h h.meters f came are (λ m. m) member;
}

-- none has heard before a frame came
pub hearers-none : (g r : ℕ) (h : Hearers) → h ≡ record { meters = []; alike = []; missing = [] } → AreHearers [] g r h
hearers-none g r h none = subst (AreHearers [] g r) (sym none) (record { meters = λ i. refl; alike = λ i member. absurd (false≢true member) })

-- ---- the meters that are alike

-- what passes for each member passes for all
pub all-members : (p : ℕ → Bool) (xs : List ℕ) → ((i : ℕ) → is_member i xs ≡ true → p i ≡ true) → list_all p xs ≡ true
all-members p [] each = refl
all-members p (x ∷ xs) each =
    and_from (p x) (list_all p xs) (each x (ap (λ b. b || is_member x xs) (eq-eqb x x refl)))
    (all-members p xs (λ i member. each i (or_right (x == i) (is_member i xs) member)))

-- their set is one of places
pub alike-places : (plan : PlanView) (g r : ℕ) (alike missing : List ℕ) → ((i : ℕ) → is_member i alike ≡ true → CanAnswer plan g r i missing) → (length alike ≡ 0 → ⊥) → are_places plan g r missing ≡ true
alike-places plan g r [] missing can some = absurd (some refl)
alike-places plan g r (x ∷ xs) missing can some = (can x (ap (λ b. b || is_member x xs) (eq-eqb x x refl))).places
