-- What is left of a run, and what a cut's entries leave of it.
use Rattle.std.specs.Prelude.{◌≡◌, ℕ, ◌^◌, ◌<◌, ◌≤◌, Bool, true, false, List, [], ◌∷◌, ◌++◌, length, drop, take, slice_index_or, All, Option, Some, None, Result, Ok, Err, ⊤}
use Rattle.std.specs.List.{flat_map}
use Rattle.event_schedule.specs.declared.Entry.{Entry}
use Rattle.event_schedule.specs.Transcripts.{TranscriptView}
use Rattle.transcript_text.specs.EntryLines.{entry_line}
use Rattle.cut_resume.specs.declared.errors.ResumeError.{ResumeError}
use Rattle.cut_resume.specs.declared.errors.ResumeError.TheVariants.{NotThis, Memory}
use Rattle.cut_resume.specs.declared.left.Left.{Left}
use Rattle.cut_resume.specs.Order.{IsPicked, may_pass}

-- it holds, or it doesn't
abbrev pub Decides : Type 0 → Bool → Type 0
Decides P true = P
Decides P false = ¬ P

-- the entries at these places
abbrev pub at_places : List Entry → List ℕ → List Entry
at_places entries places = flat_map (λ k. take 1 (drop k entries)) places

-- the entries that are left: those that were passed, and the run's from a place on
abbrev pub entries_left : Left → List Entry
entries_left l = at_places l.run.entries l.passed.items ++ drop l.next l.run.entries

-- the places are in the run
pub record IsLeft (l : Left) : Type 0 where
  pub within : l.next ≤ length l.run.entries
  pub few : length l.run.entries < 2 ^ 63
  pub places : All (λ k. k < length l.run.entries) l.passed.items

-- the entry may not be picked among these
abbrev pub IsNotThere : Entry → List Entry → Type 0
IsNotThere e entries = (others : List Entry) → ¬ IsPicked e entries others

-- the entry may pass all that were passed
abbrev pub MayPassAll : Entry → Left → Type 0
MayPassAll e l = All (λ x. may_pass e x ≡ true) (at_places l.run.entries l.passed.items)

-- the entry at the first of these places that the entry may not pass is that of place number k
abbrev pub StopsAt : Entry → List Entry → List ℕ → Option ℕ → Type 0
StopsAt e run places None = All (λ x. may_pass e x ≡ true) (at_places run places)
StopsAt e run places (Some k) =
    (k < length places) × All (λ x. may_pass e x ≡ true) (at_places run (take k places)) × ((d : ℕ) (x : Entry) → may_pass e (slice_index_or run (slice_index_or places k d) x) ≡ false)

-- the entry is picked out of those that are left; or it may not be picked
abbrev pub Picks : Entry → List Entry → Bool → List Entry → Type 0
Picks e old true new = IsPicked e old new
Picks e old false new = IsNotThere e old

-- want of memory is free
abbrev pub PickEnds : {E : Type 0} → Entry → List Entry → Result Bool E → List Entry → Type 0
PickEnds e old (Ok answer) new = Picks e old answer new
PickEnds e old (Err _) new = ⊤

-- these entries are picked out of a run one after another, and these are left
abbrev pub Leaves : List Entry → List Entry → List Entry → Type 0
Leaves [] run left = run ≡ left
Leaves (e ∷ more) run left = (others : List Entry) × IsPicked e run others × Leaves more others left

-- entry k of the cut, counted from 0, may not be picked out of what those before it leave of the run
pub record IsNoneOf (cut run : List Entry) (k : ℕ) : Type 0 where
  pub there : k < length cut
  pub left : List Entry
  pub before : Leaves (take k cut) run left
  pub here : (d : Entry) → IsNotThere (slice_index_or cut k d) left

-- all entries of the cut are picked out of the run's; or the first that may not be picked is that of this line; want of memory is free
abbrev pub PicksEnd : TranscriptView → List Entry → Result Left ResumeError → Type 0
PicksEnd cut run (Ok left) = Leaves cut.entries run (entries_left left)
PicksEnd cut run (Err (NotThis n)) = (k : ℕ) × (n ≡ entry_line cut.plan k) × IsNoneOf cut.entries run k
PicksEnd cut run (Err Memory) = ⊤
