use Rattle.std.proofs.Common.{map, sym, ap, ◌∙◌, ◌++◌, ◌∷◌, [], arith}
use Rattle.std.specs.List.{range_with_len}
use Rattle.std.proofs.lemmas.List.FromFn.{map-range_with_len_more}
use Rattle.group_book.specs.Start.{first_page}
use Rattle.group_book.proofs.start.first_pages.Goals as goal

pub loop-round-preserved : goal.loop-round-preserved
loop-round-preserved c =
    c.in_ok-push.ensures.items ∙ ap (λ ps. ps ++ c.first_page.result ∷ []) c.loop-round.invariant
    ∙ ap (λ x. map (first_page c.args.plan.now c.args.group) (range_with_len 0 c.loop-round.round) ++ x ∷ []) c.first_page.ensures
    ∙ sym (map-range_with_len_more (first_page c.args.plan.now c.args.group) 0 c.loop-round.round c.loop-round.round (omega arith))
