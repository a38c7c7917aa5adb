use Rattle.std.proofs.Common.{◌++◌, ap, sym, ◌∙◌, append_assoc}
use Rattle.std.specs.List.{flat_map, range_with_len}
use Rattle.run_course.specs.Marks.{owed_by_marks, announced_marks, answered_marks}
use Rattle.run_course.proofs.Blocks.{flat_next}
use Rattle.run_course.proofs.owed.owed.Goals as goal

pub loop-group-preserved : goal.loop-group-preserved
loop-group-preserved c =
    let came = c.args.came.now in
    let heard = c.args.heard.now in
    let t = c.args.tick in
    let f = owed_by_marks came heard t in
    let k = c.loop-group.group in
    c.in_ok-add_all_answers.ensures ∙ ap (λ l. l ++ flat_map (answered_marks heard t k) (range_with_len 0 heard.plan.rounds)) c.in_ok-add_all_announcements.ensures
    ∙ append_assoc c.loop-group.owed.items (flat_map (announced_marks came t k) (range_with_len 0 came.plan.rounds)) (flat_map (answered_marks heard t k) (range_with_len 0 heard.plan.rounds))
    ∙ ap (λ l. l ++ f k) c.loop-group.invariant ∙ sym (flat_next f k)
