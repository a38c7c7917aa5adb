use Rattle.command_words.specs.Commands.{inspect_names_of}
use Rattle.command_texts.proofs.InspectLemmas.{other_refuses}
use Rattle.command_texts.proofs.inspect.other_plan.Goals as goal

pub returns-in-Err-clause-ends : goal.returns-in-Err-clause-ends
returns-in-Err-clause-ends c = other_refuses (inspect_names_of c.args.files) c.args.report.now c.in-Err.outcome c.in-Err.ensures.refused
