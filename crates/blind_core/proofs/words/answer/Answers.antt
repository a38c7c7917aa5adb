use Rattle.blind_core.proofs.ShareLemmas.{others-are_ends}
use Rattle.blind_core.proofs.words.answer.Goals as goal

pub shares-requires-clause-others : goal.shares-requires-clause-others
shares-requires-clause-others g c =
    others-are_ends (g.M.Masks.plan c.args.masks.now) c.args.group c.args.round c.args.meter c.args.missing.now c.requires.missing c.requires.other
