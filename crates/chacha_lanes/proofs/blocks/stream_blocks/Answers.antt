use Rattle.std.proofs.Common.{◌<◌, ◌^◌, ◌∙◌, arith, ap₂}
use Rattle.rand_chacha.specs.Block.{initial_state}
use Rattle.std.specs.Prelude.{slice_index, slice_index_or, [], replicate}
use Rattle.chacha_lanes.proofs.BlockLemmas.{lane_is}
use Rattle.chacha_lanes.proofs.LaneLemmas.{in_splat}
use Rattle.chacha_lanes.proofs.blocks.stream_blocks.Goals as goal

pub returns : goal.returns
returns c j h =
    let key = slice_index_or c.args.keys.now j [] in
    let same = in_splat c.args.round j h in
    let fits : slice_index (replicate 8 c.args.round) j < 2 ^ 32 = omega (arith, same, c.ranges.round) in
    let begin = c.first_states-first.ensures j h fits ∙ ap₂ (λ k round. initial_state k 0 round) (c.key_in_each_lane.ensures j h) same in
    c.loop-lane.invariant.1 j (omega arith)
    ∙ lane_is key c.args.round j c.halves-halves.result c.first_states-first.result c.all_rounds-last.result (λ k lt. c.halves-halves.ensures j k h lt) begin (c.all_rounds-last.ensures j h)
