-- The opened rounds, one after another, by the book of the lines so far.
use Rattle.std.specs.Prelude.{◌≡◌, ℕ, ◌+◌, ◌≤◌, ◌⊎◌, Bool, true, false, ◌&&◌, not, List, length, if◌then◌else◌, Option, Some, None}
use Rattle.std.specs.List.{count_by, range_with_len}
use Rattle.group_plan.specs.Plans.{PlanView}
use Rattle.event_schedule.specs.Schedule.{is_opened, is_published, survivors}
use Rattle.group_book.specs.Books.{BookView, shape_of, past}
use Rattle.group_book.specs.Places.{is_round}
use Rattle.ideal_masks.specs.OffsetEnds.{is_earlier_round}
use Rattle.audit_check.specs.declared.opened.OpenedRounds.{OpenedRounds}
use Rattle.audit_check.specs.Opened.{count_rounds, IsFewest}

-- a round is opened by the lines of a book, and how many survivors it has
abbrev pub opened_by : BookView → ℕ → ℕ → Bool
opened_by b g r = is_opened (shape_of b) g r (past b)

abbrev pub size_by : BookView → ℕ → ℕ → ℕ
size_by b g r = length (survivors (shape_of b) g r (past b))

-- the survivors of a round, where it is opened
abbrev pub IsOpenedBy : BookView → ℕ → ℕ → Option (List ℕ) → Type 0
IsOpenedBy b g r (Some set) = (opened_by b g r ≡ true) × (set ≡ survivors (shape_of b) g r (past b))
IsOpenedBy b g r None = opened_by b g r ≡ false

-- its total is published
abbrev pub published_by : BookView → ℕ → ℕ → Bool
published_by b g r = is_published (shape_of b) g r (past b)

-- it is opened, and has no total
abbrev pub lacks_by : BookView → ℕ → ℕ → Bool
lacks_by b g r = opened_by b g r && not (published_by b g r)

-- a round of the plan that comes before round r of group g
abbrev pub is_before : PlanView → ℕ → ℕ → ℕ → ℕ → Bool
is_before plan g r a c = is_round plan a c && is_earlier_round a c g r

-- the fewer of some survivors, where there are any, and of n
abbrev pub IsFewer : Option ℕ → ℕ → ℕ → Type 0
IsFewer None n m = m ≡ n
IsFewer (Some k) n m = (m ≤ k) × (m ≤ n) × ((m ≡ k) ⊎ (m ≡ n))

-- a round that is opened is counted
pub record CountsOpened (b : BookView) (g r : ℕ) (old new : OpenedRounds) : Type 0 where
  pub opened : opened_by b g r ≡ true
  pub without_total : new.without_total ≡ old.without_total + (if published_by b g r then 0 else 1)
  pub fewest : (m : ℕ) × (new.fewest ≡ Some m) × IsFewer old.fewest (size_by b g r) m

-- a round is counted where it is opened
abbrev pub CountsRound : BookView → ℕ → ℕ → OpenedRounds → OpenedRounds → Type 0
CountsRound b g r old new = ((opened_by b g r ≡ false) × (new ≡ old)) ⊎ CountsOpened b g r old new

-- the fewest survivors of any opened round before round r of group g
abbrev pub HasFewest : BookView → ℕ → ℕ → Option ℕ → Type 0
HasFewest b g r fewest = IsFewest (is_before b.presence.plan g r) (opened_by b) (size_by b) fewest

-- the rounds of a group are counted
pub record CountsGroup (b : BookView) (g : ℕ) (old new : OpenedRounds) : Type 0 where
  pub without_total : new.without_total ≡ old.without_total + count_by (lacks_by b g) (range_with_len 0 b.presence.plan.rounds)
  pub few : new.without_total ≤ old.without_total + 4096
  pub fewest : HasFewest b (g + 1) 0 new.fewest

-- all rounds are counted
pub record AreCountedBy (b : BookView) (found : OpenedRounds) : Type 0 where
  pub without_total : found.without_total ≡ count_rounds b.presence.plan (lacks_by b)
  pub fewest : IsFewest (is_round b.presence.plan) (opened_by b) (size_by b) found.fewest
