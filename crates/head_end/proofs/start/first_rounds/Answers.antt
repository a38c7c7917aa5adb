use Rattle.std.proofs.Common.{map, sym, ap, ◌∙◌, ◌++◌, ◌∷◌, [], arith}
use Rattle.std.specs.List.{range_with_len}
use Rattle.std.proofs.lemmas.List.FromFn.{map-range_with_len_more}
use Rattle.head_end.specs.Kept.{first_round_at}
use Rattle.head_end.proofs.start.first_rounds.Goals as goal

pub loop-at-preserved : goal.loop-at-preserved
loop-at-preserved c =
    c.in_ok-push.ensures.items ∙ ap (λ ps. ps ++ c.first_round_at.result ∷ []) c.loop-at.invariant
    ∙ ap (λ x. map (first_round_at c.args.plan.now) (range_with_len 0 c.loop-at.at) ++ x ∷ []) c.first_round_at.ensures
    ∙ sym (map-range_with_len_more (first_round_at c.args.plan.now) 0 c.loop-at.at c.loop-at.at (omega arith))
