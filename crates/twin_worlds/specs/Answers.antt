-- The words that the meters of a plan answer after the events of a book.
use Rattle.std.specs.Prelude.{◌≡◌, ℕ, ◌+◌, ◌*◌, ◌/◌, ◌%◌, ◌<◌, true, List, [], length, map, slice_get, slice_index_or, Some, Vec}
use Rattle.std.specs.declared.alloc.Global.{Global}
use Rattle.std.specs.List.{AllZip, range_with_len}
use Rattle.missing_round.specs.Masks.{Masks}
use Rattle.missing_round.specs.Sets.{is_member as is_in}
use Rattle.missing_round.specs.Words.{answer_word}
use Rattle.group_plan.specs.Plans.{PlanView}
use Rattle.event_schedule.specs.Schedule.{survivors, missing, is_announced}
use Rattle.group_book.specs.Books.{BookView, shape_of, past}
use Rattle.twin_worlds.specs.declared.answer_words.AnswerWords.{AnswerWords}

-- where round r of group g is announced, these are the words that its survivors answer, each at its meter's place
abbrev pub AreAnswers : Masks → BookView → ℕ → ℕ → List ℕ → Type 0
AreAnswers m b g r words =
    is_announced (shape_of b) g r (past b) ≡ true → (i : ℕ) → is_in i (survivors (shape_of b) g r (past b)) ≡ true
    → slice_get words i ≡ Some (answer_word (m.own g r) (m.pair g r) i (missing (shape_of b) g r (past b)))

-- these are the words of the row at a place: rounds follow one another, and in each the groups
abbrev pub AreAnswersAt : Masks → BookView → ℕ → List ℕ → Type 0
AreAnswersAt m b place words = AreAnswers m b (place % length b.presence.plan.groups) (place / length b.presence.plan.groups) words

-- the masks are of the book's plan, and the place has a row
pub record CanAnswer (plan : PlanView) (b : BookView) (place : ℕ) : Type 0 where
  pub masks : plan ≡ b.presence.plan
  pub within : place < b.presence.plan.rounds * length b.presence.plan.groups

-- these are the rows of all places, one after another
pub record AreAllAnswers (m : Masks) (b : BookView) (rows : List (Vec ℕ Global)) : Type 0 where
  pub each : AllZip (λ place (row : Vec ℕ Global). AreAnswersAt m b place row.items) (range_with_len 0 (b.presence.plan.rounds * length b.presence.plan.groups)) rows

-- the row of group g in round r
abbrev pub answers_in : AnswerWords → ℕ → ℕ → List ℕ
answers_in a g r = slice_index_or (map (λ (row : Vec ℕ Global). row.items) a.rows.items) (r * a.groups + g) []
