use Rattle.std.proofs.Common.{◌++◌, ap, sym, ◌∙◌, append_assoc}
use Rattle.std.specs.List.{flat_map, range_with_len}
use Rattle.run_course.specs.Marks.{announced_marks}
use Rattle.run_course.proofs.Blocks.{flat_next}
use Rattle.run_course.proofs.owed.add_all_announcements.Goals as goal

pub loop-round-preserved : goal.loop-round-preserved
loop-round-preserved c =
    let f = announced_marks c.args.came.now c.args.tick c.args.group in
    let k = c.loop-round.round in
    c.in_ok-add_announcements.ensures ∙ ap (λ l. l ++ f k) c.loop-round.invariant
    ∙ append_assoc c.args.owed.now.items (flat_map f (range_with_len 0 k)) (f k) ∙ ap (λ l. c.args.owed.now.items ++ l) (sym (flat_next f k))
