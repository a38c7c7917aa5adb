use Rattle.std.proofs.Common.{◌≡◌, ℕ, ◌+◌, ◌*◌, ◌^◌, ◌<◌, arith, ap, ap₂, ◌∙◌, slice_index}
use Rattle.rand_chacha.specs.Block.{add32, initial_state, block_word}
use Rattle.rand_chacha.specs.ChaCha.{key_of}
use Rattle.rand_chacha.specs.Lanes.{lane_at}
use Rattle.chacha_lanes.proofs.WordLemmas.{word-in_lane}
use Rattle.chacha_lanes.proofs.words.words_in_lanes.Goals as goal

pub returns : goal.returns
returns c j key h fits same =
    let round = slice_index c.args.rounds j in
    let begin = c.first_states-first.ensures j h fits ∙ ap (λ k. initial_state k 0 round) same in
    let end = c.last_states-last.ensures j h in
    let in_stream : (k : ℕ) → k < 16 → add32 (lane_at c.last_states-last.result k j) (lane_at c.first_states-first.result k j) ≡ block_word 10 (key_of key) 0 round k
    = λ k below. word-in_lane (key_of key) round j k c.first_states-first.result c.last_states-last.result below begin end in
    c.loop-lane.invariant.1 j (omega arith)
    ∙ ap₂ (λ low high. low + 2 ^ 32 * high)
    (c.sums-low.ensures j h ∙ in_stream 0 (omega arith))
    (c.sums-high.ensures j h ∙ in_stream 1 (omega arith))
