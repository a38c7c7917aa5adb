use Rattle.std.proofs.lemmas.Result.{IfOk-weaker}
use Rattle.command_texts.specs.declared.sharing.Sharing.TheVariants.{WithEach}
use Rattle.command_texts.specs.RunTexts.{texts_of}
use Rattle.command_texts.proofs.RunLemmas.{makes}
use Rattle.command_texts.proofs.run.texts_in_memory.Goals as goal

pub returns : goal.returns
returns g c cupboard p r are =
    IfOk-weaker c.finished_texts.result _ _ (λ kept written. makes WithEach cupboard p r _ _ _ (texts_of kept) are c.in-Ok.ensures.finished written) c.finished_texts.ensures.texts
