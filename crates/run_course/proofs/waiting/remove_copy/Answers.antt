use Rattle.std.proofs.Common.{◌-◌, sym, subst, arith}
use Rattle.run_course.specs.Lists.{IsIn}
use Rattle.run_course.proofs.Blocks.{removed, nowhere}
use Rattle.run_course.proofs.waiting.remove_copy.Goals as goal

pub returns-then-is_same : goal.returns-then-is_same
returns-then-is_same c =
    removed c.args.tag c.args.copies.now.items c.loop-at.copies.items c.remove.new.self.items (c.loop-at.at - 1) c.index.result.now c.loop-at.invariant.same (omega arith)
    c.index.ensures (c.is_same.ensures.0 c.if-is_same.true) c.remove.ensures.items

pub returns : goal.returns
returns c =
    let none = c.loop-at.invariant.none in
    (λ at. nowhere c.args.tag c.loop-at.copies.items (λ k below is. none k (omega arith) below is) (subst (IsIn c.args.tag) (sym c.loop-at.invariant.same) at), c.loop-at.invariant.same)
