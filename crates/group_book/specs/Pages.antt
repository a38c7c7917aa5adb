-- One round as a book keeps it: the round itself, and the meters that took its announcement.
use Rattle.std.specs.Prelude.{◌≡◌, ℕ, Bool, true, false, not, ◌&&◌, if◌then◌else◌, List, [], ◌∷◌, Option, Some, None}
use Rattle.missing_round.specs.Sets.{is_member, joined}
use Rattle.group_plan.specs.declared.Kind.{Kind}
use Rattle.group_plan.specs.declared.Kind.TheVariants.{Reading, Announcement, Answer}
use Rattle.round_machine.specs.declared.Verdict.{Verdict}
use Rattle.round_machine.specs.declared.Verdict.TheVariants.{Fresh, Again, Late, Void}
use Rattle.round_machine.specs.Rounds.{RoundView, missing, has_floor, is_announced, is_asked, lacking, total, with_reading, with_answer}
use Rattle.group_book.specs.declared.answers.OutcomeState.{OutcomeState}
use Rattle.group_book.specs.declared.answers.OutcomeState.TheVariants as states

-- a round, and who was told of its missing set
pub record PageView : Type 0 where
  pub round : RoundView
  -- the meters whose announcement was taken Fresh
  pub told : List ℕ

-- the missing set, where it was announced
abbrev pub announced_in : RoundView → Option (List ℕ)
announced_in round = if is_announced round then Some (missing round) else None

-- the total, where no answer lacks
abbrev pub total_or_lacking : List ℕ → ℕ → OutcomeState
total_or_lacking [] sum = states.Total sum
total_or_lacking (i ∷ rest) sum = states.Lacking (i ∷ rest)

-- what the round has come to
abbrev pub state_in : RoundView → OutcomeState
state_in round =
    if not round.ended then states.Running else
    if not (has_floor round) then states.Thin else
    total_or_lacking (lacking round) (total round)

-- the meters whose frame of this kind was taken Fresh
abbrev pub taken_in : Kind → PageView → List ℕ
taken_in Reading page = page.round.taken
taken_in Announcement page = page.told
taken_in Answer page = page.round.answered

-- whether a frame of this kind comes too late
abbrev pub is_past : Kind → PageView → Bool
is_past Reading page = page.round.closed
is_past Announcement page = false
is_past Answer page = page.round.ended

-- whether a frame of this kind may be taken of meter i
abbrev pub can_take : Kind → PageView → ℕ → Bool
can_take Reading page i = is_member i page.round.members
can_take Announcement page i = true
can_take Answer page i = is_member i page.round.members && is_asked page.round i

-- the page once a frame of meter i with word w was taken Fresh
abbrev pub with_taken : Kind → ℕ → ℕ → PageView → PageView
with_taken Reading i w page = record page { round = with_reading page.round i w }
with_taken Announcement i w page = record page { told = joined i page.told }
with_taken Answer i w page = record page { round = with_answer page.round i w }

-- take of a frame of meter i with word w
abbrev pub PageTakes : PageView → Kind → ℕ → ℕ → Verdict → PageView → Type 0
PageTakes page k i w Again new = (is_member i (taken_in k page) ≡ true) × (new ≡ page)
PageTakes page k i w Late new = (is_member i (taken_in k page) ≡ false) × (is_past k page ≡ true) × (new ≡ page)
PageTakes page k i w Fresh new = (is_member i (taken_in k page) ≡ false) × (is_past k page ≡ false) × (new ≡ with_taken k i w page)
PageTakes page k i w Void new = ⊥

-- what a page keeps beside its round says what the round says; no round ends before it is closed
pub record Keeps (round : RoundView) (set : Option (List ℕ)) (come_to : OutcomeState) : Type 0 where
  pub announced : announced_in round ≡ set
  pub state : state_in round ≡ come_to
  pub closed : round.ended ≡ true → round.closed ≡ true
