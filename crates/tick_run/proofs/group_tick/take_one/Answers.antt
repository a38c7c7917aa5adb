use Rattle.std.proofs.Common.{[]}
use Rattle.std.proofs.lemmas.List.Elements.{All-head}
use Rattle.tick_run.specs.GroupRuns.{IsTakeable}
use Rattle.tick_run.proofs.GroupCalls.{takes-one}
use Rattle.tick_run.proofs.group_tick.take_one.Goals as goal

pub take-verdict-requires-clause-own : goal.take-verdict-requires-clause-own
take-verdict-requires-clause-own c = (All-head (IsTakeable c.requires.can.presence c.args.pages.now.group c.requires.can.journal) c.args.frame.now [] c.requires.can.takeable).own

pub returns-clause-takes : goal.returns-clause-takes
returns-clause-takes c = λ p j rep can. (takes-one p j c.args.frame.now _ _ _ _ _ can (c.take-verdict.ensures p j rep)).takes

pub returns-clause-spare : goal.returns-clause-spare
returns-clause-spare c =
    let p = c.requires.can.presence in
    let j = c.requires.can.journal in
    let can = All-head (IsTakeable p c.args.pages.now.group j) c.args.frame.now [] c.requires.can.takeable in
    (takes-one p j c.args.frame.now _ _ _ _ _ can (c.take-verdict.ensures p j c.requires.can.replays)).spare
