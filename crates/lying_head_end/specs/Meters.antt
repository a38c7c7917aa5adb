-- The rule of the acts is that of `meter_core`, over any calls on a meter.
use Rattle.std.specs.Prelude.{◌≡◌, ◌↔◌, ℕ, true, List, map, reverse, All}
use Rattle.meter_core.specs.declared.Heard.{Heard}
use Rattle.meter_core.specs.Meters.{MeterView, new_meter, kept_set, Hears}
use Rattle.meter_core.specs.Calls.{Call, Marked, Announced, Run, IsAnswer, first_passed}
use Rattle.event_schedule.specs.Schedule.{Shape, members_of, floor_of}
use Rattle.lying_head_end.specs.Acts.{Act, Read, Tell, set_answered, does_answer}

-- the act that a call on meter i of group g is
abbrev pub act_of : ℕ → ℕ → Call → Act
act_of g i (Marked r members) = Read g r i
act_of g i (Announced r set said) = Tell g r i set

-- the acts that these calls are, as a past
abbrev pub past_of : ℕ → ℕ → List Call → List Act
past_of g i calls = reverse (map (act_of g i) calls)

-- a mark is of a round in which the meter has a reading, over the members of the round
abbrev pub MarksReading : Shape → ℕ → ℕ → Call → Type 0
MarksReading s g i (Marked r members) = (members ≡ members_of s g r) × (s.present g r i ≡ true)
MarksReading s g i (Announced r set said) = Unit {0}

-- the meter keeps the set that is answered, the first that passed; and it says that it answers exactly where a frame is sent
pub record AnswersItsSet (s : Shape) (g i : ℕ) (calls : List Call) (t : MeterView) : Type 0 where
  pub kept : (r : ℕ) → kept_set t r ≡ set_answered s g r i (past_of g i calls)
  pub passed : (r : ℕ) → first_passed r calls ≡ set_answered s g r i (past_of g i calls)
  pub said : (r : ℕ) (set : List ℕ) (said : Heard) (u : MeterView) → Hears t r set said u →
      IsAnswer said ↔ (does_answer s g r i set (past_of g i calls) ≡ true)

-- so it is after any calls on a new meter
abbrev pub MetersAnswerTheirSets : Type 0
MetersAnswerTheirSets = (s : Shape) (g i rounds : ℕ) (calls : List Call) (t : MeterView) → All (MarksReading s g i) calls →
    Run (new_meter i (floor_of s g) rounds) calls t → AnswersItsSet s g i calls t
