use Rattle.commands.specs.Outside.{with_wire}
use Rattle.commands.proofs.AcceptedLemmas.{accepted_is_done}
use Rattle.commands.proofs.WordsLemmas.{bad_words_alone}
use Rattle.command_texts.proofs.InspectedRuns.{runs_are_inspected}
use Rattle.command_texts.proofs.StoredLemmas.{runs_are_confirmed, runs_are_recorded, runs_are_short}
use Rattle.commands.proofs.program.meteragg.Goals as goal

pub returns-clause-accepted : goal.returns-clause-accepted
returns-clause-accepted g c =
    accepted_is_done _ _ _ (with_wire (g.D.Desk.view c.tell.new.desk) _) _ c.perform-outcome.result _ _ _ _ c.perform-outcome.ensures.ends c.perform-outcome.ensures.cause c.tell.ensures.later c.status.ensures

pub returns-clause-confirmed : goal.returns-clause-confirmed
returns-clause-confirmed g c = runs_are_confirmed

pub returns-clause-recorded : goal.returns-clause-recorded
returns-clause-recorded g c = runs_are_recorded

pub returns-clause-short : goal.returns-clause-short
returns-clause-short g c = runs_are_short

pub returns-clause-inspected : goal.returns-clause-inspected
returns-clause-inspected g c = runs_are_inspected

pub returns-clause-words : goal.returns-clause-words
returns-clause-words g c = bad_words_alone _ _ _ _ c.perform-outcome.result _ c.perform-outcome.ensures.ends c.status.ensures
