use Rattle.std.proofs.Common.{◌≡◌, ℕ, List, [], ◌∷◌, refl, ap, arith}
use Rattle.std.specs.Prelude.{Option, Some, None}
use Rattle.meter_frames.specs.declared.Frame.{Frame}
use Rattle.round_machine.specs.declared.Ending.{Ending}
use Rattle.round_machine.specs.declared.Ending.TheVariants.{Total}
use Rattle.event_schedule.specs.declared.Line.{Line}
use Rattle.event_schedule.specs.declared.Line.TheVariants.{Send as SendLine, End as EndLine}
use Rattle.event_schedule.specs.Events.{once}
use Rattle.event_schedule.specs.Transcript.{lines_after}
use Rattle.event_schedule.proofs.laws.impossible_lines.Goals as goal

-- a number for each line, which differs for the lines that are compared
abbrev number_of_ending : Ending → ℕ
number_of_ending (Total total) = total
number_of_ending _ = 0

abbrev number_of_frame : Option Frame → ℕ
number_of_frame None = 0
number_of_frame (Some f) = 1

abbrev number_of : Line → ℕ
number_of (SendLine tag f) = number_of_frame f
number_of (EndLine g r e) = number_of_ending e
number_of _ = 0

abbrev last_number : ℕ → List Line → ℕ
last_number n [] = n
last_number n (l ∷ ls) = last_number (number_of l) ls

pub returns-clause-word_raised_by_1 : goal.returns-clause-word_raised_by_1
unfolding once lines_after
returns-clause-word_raised_by_1 c = λ h. let e : ◌≡◌ {A = ℕ} 61 60 = ap (last_number 0) h.lines in omega (arith, e)

pub returns-clause-total_above_three_readings : goal.returns-clause-total_above_three_readings
unfolding once lines_after
returns-clause-total_above_three_readings c = λ h. let le = h.totals 0 0 refl in omega (arith, le)

pub returns-clause-frame_of_no_member : goal.returns-clause-frame_of_no_member
unfolding once lines_after
returns-clause-frame_of_no_member c = λ h. let e : ◌≡◌ {A = ℕ} 0 1 = ap (last_number 0) h.lines in omega (arith, e)
