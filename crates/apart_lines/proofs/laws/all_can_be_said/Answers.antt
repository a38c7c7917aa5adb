use Rattle.apart_lines.proofs.LawLemmas.{ticks_said, announcements_said, readings_said, answers_said}
use Rattle.apart_lines.proofs.laws.all_can_be_said.Goals as goal

pub returns-clause-ticks : goal.returns-clause-ticks
returns-clause-ticks c = ticks_said

pub returns-clause-again : goal.returns-clause-again
returns-clause-again c = announcements_said

pub returns-clause-readings : goal.returns-clause-readings
returns-clause-readings c = readings_said

pub returns-clause-answers : goal.returns-clause-answers
returns-clause-answers c = answers_said
