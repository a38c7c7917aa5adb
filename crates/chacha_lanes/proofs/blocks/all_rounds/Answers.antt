use Rattle.std.proofs.Common.{refl, ap, ◌∙◌, arith, add-one, ◌≡◌}
use Rattle.rand_chacha.specs.Block.{column_round, diagonal_round, double_rounds}
use Rattle.rand_chacha.specs.Lanes.{lane}
use Rattle.chacha_lanes.proofs.blocks.all_rounds.Goals as goal

pub loop-done-init : goal.loop-done-init
unfolding double_rounds
loop-done-init c j h = refl

pub loop-done-preserved : goal.loop-done-preserved
unfolding double_rounds
loop-done-preserved c j h =
    rw add-one (c.diagonals-x.ensures j h ∙ ap diagonal_round (c.columns.ensures j h ∙ ap column_round (c.loop-done.invariant j h)))

pub returns : goal.returns
returns c j h =
    let all : c.loop-done._done ≡ 10 = omega arith in
    c.loop-done.invariant j h ∙ ap (λ n. double_rounds n (lane j c.args.first)) all
