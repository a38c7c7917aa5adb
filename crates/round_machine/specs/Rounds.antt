-- One round of a group as the collector keeps it, and what each call does to it.
use Rattle.std.specs.Prelude.{◌≡◌, ℕ, ◌+◌, ◌≢◌, Bool, true, false, ◌&&◌, nat_le, List, [], length}
use Rattle.missing_round.specs.Words.{word, minus}
use Rattle.missing_round.specs.Sets.{is_member, joined, less}
use Rattle.round_machine.specs.declared.Verdict.{Verdict}
use Rattle.round_machine.specs.declared.Verdict.TheVariants.{Fresh, Again, Late, Void}
use Rattle.round_machine.specs.declared.Closing.{Closing}
use Rattle.round_machine.specs.declared.Closing.TheVariants as closings
use Rattle.round_machine.specs.declared.Ending.{Ending}
use Rattle.round_machine.specs.declared.Ending.TheVariants as endings

-- a round, as its contracts see it
pub record RoundView : Type 0 where
  pub members : List ℕ
  pub floor : ℕ
  -- the meters whose reading was taken Fresh: the survivors
  pub taken : List ℕ
  -- the meters whose answer was taken Fresh
  pub answered : List ℕ
  pub closed : Bool
  pub ended : Bool
  -- the sum modulo 2^64 of the reading words taken Fresh
  pub reading_sum : ℕ
  -- the sum modulo 2^64 of the answer words taken Fresh
  pub answer_sum : ℕ

-- a round in which nothing was taken yet
abbrev pub new_round : List ℕ → ℕ → RoundView
new_round members floor = record {
  members = members;
  floor = floor;
  taken = [];
  answered = [];
  closed = false;
  ended = false;
  reading_sum = 0;
  answer_sum = 0;
}

-- the members that are no survivors
abbrev pub missing : RoundView → List ℕ
missing s = less s.members s.taken

-- whether there are as many survivors as the floor asks
abbrev pub has_floor : RoundView → Bool
has_floor s = nat_le s.floor (length s.taken)

-- whether the missing set was announced to the survivors
abbrev pub is_announced : RoundView → Bool
is_announced s = s.closed && has_floor s

-- whether an answer of meter i is asked for: the round is announced and i a survivor
abbrev pub is_asked : RoundView → ℕ → Bool
is_asked s i = is_announced s && is_member i s.taken

-- the survivors whose answer was not taken
abbrev pub lacking : RoundView → List ℕ
lacking s = less s.taken s.answered

-- the sum of the reading words less the sum of the answer words, modulo 2^64
abbrev pub total : RoundView → ℕ
total s = word (s.reading_sum + minus s.answer_sum)

-- ---- the calls: what each answers for a round s, line by line, and the round t that it leaves

-- the round with the reading word w of meter i
abbrev pub with_reading : RoundView → ℕ → ℕ → RoundView
with_reading s i w = record s { taken = joined i s.taken; reading_sum = word (s.reading_sum + w) }

-- take_reading of word w of meter i
abbrev pub TakesReading : RoundView → ℕ → ℕ → Verdict → RoundView → Type 0
TakesReading s i w Again t = (is_member i s.taken ≡ true) × (t ≡ s)
TakesReading s i w Late t = (is_member i s.taken ≡ false) × (s.closed ≡ true) × (t ≡ s)
TakesReading s i w Fresh t = (is_member i s.taken ≡ false) × (s.closed ≡ false) × (t ≡ with_reading s i w)
TakesReading s i w Void t = ⊥

-- the round once it is closed to readings
abbrev pub closed_round : RoundView → RoundView
closed_round s = record s { closed = true }

-- close
abbrev pub Closes : RoundView → Closing → RoundView → Type 0
Closes s closings.Already t = (s.closed ≡ true) × (t ≡ s)
Closes s (closings.Thin set) t = (s.closed ≡ false) × (has_floor s ≡ false) × (set ≡ missing s) × (t ≡ closed_round s)
Closes s (closings.Announced set) t = (s.closed ≡ false) × (has_floor s ≡ true) × (set ≡ missing s) × (t ≡ closed_round s)

-- the round with the answer word w of meter i
abbrev pub with_answer : RoundView → ℕ → ℕ → RoundView
with_answer s i w = record s { answered = joined i s.answered; answer_sum = word (s.answer_sum + w) }

-- take_answer of word w of meter i
abbrev pub TakesAnswer : RoundView → ℕ → ℕ → Verdict → RoundView → Type 0
TakesAnswer s i w Void t = (is_asked s i ≡ false) × (t ≡ s)
TakesAnswer s i w Again t = (is_asked s i ≡ true) × (is_member i s.answered ≡ true) × (t ≡ s)
TakesAnswer s i w Late t = (is_asked s i ≡ true) × (is_member i s.answered ≡ false) × (s.ended ≡ true) × (t ≡ s)
TakesAnswer s i w Fresh t = (is_asked s i ≡ true) × (is_member i s.answered ≡ false) × (s.ended ≡ false) × (t ≡ with_answer s i w)

-- the round once it has ended
abbrev pub ended_round : RoundView → RoundView
ended_round s = record s { ended = true }

-- end
abbrev pub Ends : RoundView → Ending → RoundView → Type 0
Ends s endings.NotClosed t = (s.closed ≡ false) × (t ≡ s)
Ends s endings.Already t = (s.closed ≡ true) × (s.ended ≡ true) × (t ≡ s)
Ends s endings.Thin t = (s.closed ≡ true) × (s.ended ≡ false) × (has_floor s ≡ false) × (t ≡ ended_round s)
Ends s (endings.Lacking set) t = (is_announced s ≡ true) × (s.ended ≡ false) × (set ≡ lacking s) × (set ≢ []) × (t ≡ ended_round s)
Ends s (endings.Total sum) t = (is_announced s ≡ true) × (s.ended ≡ false) × (lacking s ≡ []) × (sum ≡ total s) × (t ≡ ended_round s)
