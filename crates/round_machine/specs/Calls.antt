-- Lists of calls on a round, each with its answer, and the law of the total.
use Rattle.std.specs.Prelude.{◌≡◌, ℕ, ◌==◌, Bool, false, if◌then◌else◌, List, [], ◌∷◌, sum_by, count_by}
use Rattle.missing_round.specs.Words.{frame_total}
use Rattle.missing_round.specs.Sets.{is_member}
use Rattle.round_machine.specs.declared.Verdict.{Verdict}
use Rattle.round_machine.specs.declared.Verdict.TheVariants.{Fresh}
use Rattle.round_machine.specs.declared.Closing.{Closing}
use Rattle.round_machine.specs.declared.Ending.{Ending}
use Rattle.round_machine.specs.declared.Ending.TheVariants.{Total}
use Rattle.round_machine.specs.Rounds.{RoundView, new_round, lacking, total, TakesReading, Closes, TakesAnswer, Ends}

-- a call on a round and its answer; readings and answers with meter and word
pub data Call : Type 0 where
  TookReading : (i w : ℕ) (verdict : Verdict) → Call
  Closed : (closing : Closing) → Call
  TookAnswer : (i w : ℕ) (verdict : Verdict) → Call
  Ended : (ending : Ending) → Call

-- the call leads from s to t
abbrev pub Step : RoundView → Call → RoundView → Type 0
Step s (TookReading i w verdict) t = TakesReading s i w verdict t
Step s (Closed closing) t = Closes s closing t
Step s (TookAnswer i w verdict) t = TakesAnswer s i w verdict t
Step s (Ended ending) t = Ends s ending t

-- the calls lead from s to t
unfoldable pub Run : RoundView → List Call → RoundView → Type 0
Run s [] t = t ≡ s
Run s (call ∷ rest) t = (m : RoundView) × Step s call m × Run m rest t

-- whether the call takes a reading of meter i Fresh
abbrev pub takes_reading : ℕ → Call → Bool
takes_reading i (TookReading j w Fresh) = j == i
takes_reading i call = false

-- the word of that reading, or 0
abbrev pub fresh_reading : ℕ → Call → ℕ
fresh_reading i (TookReading j w Fresh) = if j == i then w else 0
fresh_reading i call = 0

-- whether the call takes an answer of meter i Fresh
abbrev pub takes_answer : ℕ → Call → Bool
takes_answer i (TookAnswer j w Fresh) = j == i
takes_answer i call = false

-- the word of that answer, or 0
abbrev pub fresh_answer : ℕ → Call → ℕ
fresh_answer i (TookAnswer j w Fresh) = if j == i then w else 0
fresh_answer i call = 0

-- the reading word that the calls took Fresh of meter i, or 0
abbrev pub reading_of : List Call → ℕ → ℕ
reading_of calls i = sum_by (fresh_reading i) calls

-- the answer word that the calls took Fresh of meter i, or 0
abbrev pub answer_of : List Call → ℕ → ℕ
answer_of calls i = sum_by (fresh_answer i) calls

-- what holds of a round after these calls on a new one
pub record IsOfFresh (calls : List Call) (s : RoundView) : Type 0 where
  -- of each survivor, and of no other meter, a reading was taken Fresh, and that once
  pub readings : (i : ℕ) → count_by (takes_reading i) calls ≡ (if is_member i s.taken then 1 else 0)
  pub answers : (i : ℕ) → count_by (takes_answer i) calls ≡ (if is_member i s.answered then 1 else 0)
  -- the two sums give the frame total of these words over the survivors
  pub sums : total s ≡ frame_total (reading_of calls) (answer_of calls) s.taken
  -- and so does an ending with a total, where each survivor has answered
  pub ends : (sum : ℕ) (t : RoundView) → Ends s (Total sum) t
      → (lacking s ≡ []) × (sum ≡ frame_total (reading_of calls) (answer_of calls) s.taken)

-- over any calls on a new round, a total is the frame total of the words that were taken Fresh
abbrev pub TotalsAreOfFresh : Type 0
TotalsAreOfFresh = (members : List ℕ) (floor : ℕ) (calls : List Call) (s : RoundView)
    → Run (new_round members floor) calls s → IsOfFresh calls s
