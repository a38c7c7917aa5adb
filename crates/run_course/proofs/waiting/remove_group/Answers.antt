use Rattle.std.proofs.Common.{sym, subst, arith}
use Rattle.run_course.specs.Lists.{IsIn}
use Rattle.run_course.proofs.Blocks.{removed, nowhere}
use Rattle.run_course.proofs.waiting.remove_group.Goals as goal

pub returns-then-index-group : goal.returns-then-index-group
returns-then-index-group c =
    removed c.args.group c.args.groups.now.items c.loop-at.groups.items c.remove.new.self.items c.loop-at.at c.index.result.now c.loop-at.invariant.same (omega arith)
    c.index.ensures c.if-index-group.true c.remove.ensures.items

pub returns : goal.returns
returns c =
    let none = c.loop-at.invariant.none in
    (λ at. nowhere c.args.group c.loop-at.groups.items (λ k below is. none k (omega arith) is) (subst (IsIn c.args.group) (sym c.loop-at.invariant.same) at), c.loop-at.invariant.same)
