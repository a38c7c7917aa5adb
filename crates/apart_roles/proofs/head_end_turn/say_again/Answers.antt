use Rattle.std.proofs.Common.{◌∙◌}
use Rattle.apart_roles.proofs.HeadEndTurnLemmas.{again_can_be_said}
use Rattle.apart_roles.proofs.head_end_turn.say_again.Goals as goal

pub tell_all-requires-clause-lines : goal.tell_all-requires-clause-lines
tell_all-requires-clause-lines g c =
    again_can_be_said c.args.head.now c.deref.result.now c.requires (c.deref.ensures.value ∙ c.in-Ok.ensures c.requires.journal c.requires.after)
