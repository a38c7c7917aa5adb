use Rattle.std.proofs.Common.{map, sym, ap, ◌∙◌, ◌++◌, ◌∷◌, [], arith}
use Rattle.std.specs.List.{range_with_len}
use Rattle.std.proofs.lemmas.List.FromFn.{map-range_with_len_more}
use Rattle.group_book.specs.Groups.{first_group}
use Rattle.group_book.proofs.book.first_groups.Goals as goal

pub loop-group-preserved : goal.loop-group-preserved
loop-group-preserved c =
    c.in_ok-push.ensures.items ∙ ap (λ gs. gs ++ c.in_ok-new.field-0 ∷ []) c.loop-group.invariant
    ∙ ap (λ x. map (first_group c.args.plan.now) (range_with_len 0 c.loop-group.group) ++ x ∷ []) c.in_ok-new.ensures
    ∙ sym (map-range_with_len_more (first_group c.args.plan.now) 0 c.loop-group.group c.loop-group.group (omega arith))
