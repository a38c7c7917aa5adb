use Rattle.group_plan.specs.Tables.{reading}
use Rattle.ideal_masks.specs.Replaying.{events_in}
use Rattle.ideal_masks.proofs.WorldLemmas.{nobody-known, ends-nobody, no_worlds-end}
use Rattle.ideal_masks.proofs.worlds.offsets_after.Goals as goal

pub agreed_moves-requires-clause-known : goal.agreed_moves-requires-clause-known
agreed_moves-requires-clause-known c = nobody-known (reading c.args.first.now.table) (reading c.args.second.now.table)

pub returns-clause-ends : goal.returns-clause-ends
returns-clause-ends c =
    ends-nobody c.args.first.now c.args.second.now (events_in c.args.book.now) c.agreed_moves.result c.in_ok-check_presence.ensures.ends c.agreed_moves.ensures.ends

pub returns-clause-converse : goal.returns-clause-converse
returns-clause-converse c = no_worlds-end c.args.first.now c.args.second.now (events_in c.args.book.now) c.agreed_moves.result c.agreed_moves.ensures.converse
