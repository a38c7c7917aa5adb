use Rattle.command_words.proofs.KnownLemmas.{adds}
use Rattle.command_words.proofs.known.add.Goals as goal

pub returns-clause-added : goal.returns-clause-added
returns-clause-added c =
    adds c.args.plan.now c.args.sets.now c.args.text.now c.in-Some.meter c.from.result c.meters.result c.index-sets-group.result c.with.result c.in-Some.ensures c.requires.sets
    c.meters.ensures.meters c.from.ensures c.if-from-meters.false c.index-sets-group.is c.with.ensures
