use Rattle.command_texts.specs.RunTexts.{texts_of}
use Rattle.command_texts.proofs.RunLemmas.{makes}
use Rattle.run_commands.proofs.run_texts.run_texts.Goals as goal

pub returns-clause-texts : goal.returns-clause-texts
returns-clause-texts g c cupboard p r are = makes c.args.sharing cupboard p r _ _ _ (texts_of c.in_ok-texts.texts) are c.in-Ok.ensures.finished c.in_ok-texts.ensures.texts
