use Rattle.std.proofs.Common.{◌++◌, ◌∷◌, [], ap, sym, ◌∙◌}
use Rattle.run_course.proofs.Blocks.{range_next}
use Rattle.run_course.proofs.waiting.groups_due.Goals as goal

pub loop-group-preserved : goal.loop-group-preserved
loop-group-preserved c =
    let k = c.loop-group.group in
    c.in_ok-push.ensures.items ∙ ap (λ l. l ++ k ∷ []) c.loop-group.invariant ∙ sym (range_next k)
