-- One more line of a meter's journal, and the frames that a meter says.
use Rattle.std.proofs.Common.{◌≡◌, ℕ, Bool, true, false, List, [], ◌∷◌, ◌++◌, take, drop, refl, sym, ap, ◌∙◌, inl, inr}
use Rattle.std.proofs.lemmas.List.{take-append-drop}
use Rattle.std.specs.Prelude.{◌⊎◌, ◌==◌, if◌then◌else◌, Option, Some, None, Result, Ok, Err}
use Rattle.std.proofs.lemmas.Bool.{eqb-true}
use Rattle.missing_round.specs.Masks.{Masks}
use Rattle.meter_core.specs.declared.Heard.{Heard}
use Rattle.meter_core.specs.declared.Heard.TheVariants as hears
use Rattle.meter_frames.specs.declared.Frame.{Frame}
use Rattle.meter_apart.specs.declared.answers.Noted.{Noted}
use Rattle.meter_apart.specs.declared.answers.Noted.TheVariants.{Read, Kept}
use Rattle.meter_apart.specs.declared.answers.ReadingRefusal.{ReadingRefusal}
use Rattle.meter_apart.specs.declared.answers.ReadingRefusal.TheVariants as unread
use Rattle.meter_apart.specs.declared.answers.FrameRefusal.TheVariants as unanswered
use Rattle.meter_apart.specs.declared.part.Part.{Part}
use Rattle.meter_apart.specs.Journal.{marked, kept}
use Rattle.meter_apart.specs.Parts.{is_to_me}
use Rattle.meter_apart.specs.Replies.{reading_frame, standing, said_after, to_reading, answer_frame, said_to, heard, to_frame}

-- ---- journals

either : {A : Type 0} (b : Bool) (here x : A) (old new : Option A) → (if b then Some here else old) ≡ Some x → (old ≡ Some x → new ≡ Some x) → (if b then Some here else new) ≡ Some x
either true here x old new is later = is
either false here x old new is later = later is

-- a reading that was marked stays marked
pub marked_later : (j : List Noted) (line : Noted) (r v : ℕ) → marked j r ≡ Some v → marked (j ++ line ∷ []) r ≡ Some v
unfolding marked
marked_later [] line r v is = absurd cc
marked_later (Read q x ∷ j) line r v is = either (q == r) x v (marked j r) (marked (j ++ line ∷ []) r) is (marked_later j line r v)
marked_later (Kept q set ∷ j) line r v is = marked_later j line r v is

pub marked_further : (j more : List Noted) (r v : ℕ) → marked j r ≡ Some v → marked (j ++ more) r ≡ Some v
unfolding marked
marked_further [] more r v is = absurd cc
marked_further (Read q x ∷ j) more r v is = either (q == r) x v (marked j r) (marked (j ++ more) r) is (marked_further j more r v)
marked_further (Kept q set ∷ j) more r v is = marked_further j more r v is

pub kept_further : (j more : List Noted) (r : ℕ) (set : List ℕ) → kept j r ≡ Some set → kept (j ++ more) r ≡ Some set
unfolding kept
kept_further [] more r set is = absurd cc
kept_further (Read q x ∷ j) more r set is = kept_further j more r set is
kept_further (Kept q here ∷ j) more r set is = either (q == r) here set (kept j r) (kept (j ++ more) r) is (kept_further j more r set)

-- what the first lines say, all of them say
pub marked_in_all : (k : ℕ) (j : List Noted) (r v : ℕ) → marked (take k j) r ≡ Some v → marked j r ≡ Some v
marked_in_all k j r v is = ap (λ l. marked l r) (sym (take-append-drop k j)) ∙ marked_further (take k j) (drop k j) r v is

pub kept_in_all : (k : ℕ) (j : List Noted) (r : ℕ) (set : List ℕ) → kept (take k j) r ≡ Some set → kept j r ≡ Some set
kept_in_all k j r set is = ap (λ l. kept l r) (sym (take-append-drop k j)) ∙ kept_further (take k j) (drop k j) r set is

-- a set that is kept was kept before, or is that of the line
split : (b : Bool) (here set : List ℕ) (old new : Option (List ℕ)) (line : Noted) (r : ℕ) → (if b then Some here else new) ≡ Some set
    → (new ≡ Some set → (old ≡ Some set) ⊎ (line ≡ Kept r set)) → ((if b then Some here else old) ≡ Some set) ⊎ (line ≡ Kept r set)
split true here set old new line r is later = inl is
split false here set old new line r is later = later is

pub kept_split : (j : List Noted) (line : Noted) (r : ℕ) (set : List ℕ) → kept (j ++ line ∷ []) r ≡ Some set → (kept j r ≡ Some set) ⊎ (line ≡ Kept r set)
unfolding kept
kept_split [] (Read q x) r set is = absurd cc
kept_split [] (Kept q other) r set is = by (q == r) refl is
  where
    by : (b : Bool) → (q == r) ≡ b → (if b then Some other else None) ≡ Some set → (kept [] r ≡ Some set) ⊎ (Kept q other ≡ Kept r set)
    by true same is =
        let e : other ≡ set = cc in
        inr (ap (λ n. Kept n other) (eqb-true q r same) ∙ ap (Kept r) e)
    by false differs is = absurd cc
kept_split (Read q x ∷ j) line r set is = kept_split j line r set is
kept_split (Kept q here ∷ j) line r set is = split (q == r) here set (kept j r) (kept (j ++ line ∷ []) r) line r is (kept_split j line r set)

-- ---- frames

pub frame_of_reading : (part : Part) (m : Masks) (j : List Noted) (r v : ℕ) (f : Frame) → to_reading part m j r v ≡ Ok f → f ≡ reading_frame part m r v
frame_of_reading part m j r v f is = by (standing part (marked j r) r v) is
  where
    by_value : (b : Bool) → (if b then Ok (reading_frame part m r v) else Err unread.Twice) ≡ Ok f → f ≡ reading_frame part m r v
    by_value true is = let e : reading_frame part m r v ≡ f = cc in sym e
    by_value false is = absurd cc

    by : (found : Result (Option ℕ) ReadingRefusal) → said_after part m found r v ≡ Ok f → f ≡ reading_frame part m r v
    by (Err refusal) is = absurd cc
    by (Ok None) is = let e : reading_frame part m r v ≡ f = cc in sym e
    by (Ok (Some before)) is = by_value (before == v) is

pub frame_of_answer : (part : Part) (m : Masks) (j : List Noted) (told f : Frame) → to_frame part m j told ≡ Ok f → f ≡ answer_frame part m told.tag.round told.missing
frame_of_answer part m j told f is = by (is_to_me part told.tag) is
  where
    by_heard : (h : Heard) → said_to part m h told.tag.round told.missing ≡ Ok f → f ≡ answer_frame part m told.tag.round told.missing
    by_heard hears.Answer is = let e : answer_frame part m told.tag.round told.missing ≡ f = cc in sym e
    by_heard hears.AnswerAgain is = let e : answer_frame part m told.tag.round told.missing ≡ f = cc in sym e
    by_heard (hears.Refused why) is = absurd cc

    by : (b : Bool) → (if b then said_to part m (heard part j told.tag.round told.missing) told.tag.round told.missing else Err unanswered.Tag) ≡ Ok f → f ≡ answer_frame part m told.tag.round told.missing
    by true is = by_heard (heard part j told.tag.round told.missing) is
    by false is = absurd cc
