-- What the laws of this crate say. Each is proved for every plan, table and journal.
use Rattle.std.specs.Prelude.{◌≡◌, ◌<◌, ◌++◌, ℕ, true, List, [], None}
use Rattle.missing_round.specs.Words.{reading_word, answer_word}
use Rattle.group_plan.specs.declared.Kind.TheVariants.{Reading, Answer}
use Rattle.group_plan.specs.Plans.{PlanView, members}
use Rattle.event_schedule.specs.Tables.{Readings, Masks, IsBounded, reading_at, plain_sum}
use Rattle.head_end.specs.declared.answers.Logged.{Logged}
use Rattle.head_end.specs.Journal.{passed, is_taken, word_taken, survivors, missing, lacking, total}
use Rattle.head_end.specs.Replies.{first_wrong}
use Rattle.head_end.specs.Lines.{tick_lines}

-- the frames that were taken have the words of these tables: each reading its reading word, and each answer its answer word to the missing set
pub record HasWordsOf (plan : PlanView) (x : Readings) (m : Masks) (journal : List Logged) : Type 0 where
  pub readings : (g r i : ℕ) → is_taken g r Reading journal i ≡ true →
      word_taken g r Reading journal i ≡ reading_word (m.own g r) (m.pair g r) (members plan.groups g r) i (reading_at x g r i)
  pub answers : (g r i : ℕ) → is_taken g r Answer journal i ≡ true →
      word_taken g r Answer journal i ≡ answer_word (m.own g r) (m.pair g r) i (missing plan journal g r)

-- then the total of a round in which no answer lacks is the plain sum of its survivors' readings
abbrev pub TotalsAreExact : Type 0
TotalsAreExact = (plan : PlanView) (x : Readings) (m : Masks) (journal : List Logged) → IsBounded plan.groups x → HasWordsOf plan x m journal →
    (g r : ℕ) → lacking plan journal g r ≡ [] → total journal g r (survivors plan journal g r) ≡ plain_sum x g r (survivors plan journal g r)

-- the lines of a tick that has passed are the same after any lines that can follow
abbrev pub LinesStay : Type 0
LinesStay = (plan : PlanView) (journal more : List Logged) (t : ℕ) → first_wrong plan journal more ≡ None → t < passed journal → tick_lines plan (journal ++ more) t ≡ tick_lines plan journal t
