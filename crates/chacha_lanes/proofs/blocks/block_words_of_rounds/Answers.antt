use Rattle.std.proofs.Common.{◌≡◌, ℕ, ◌+◌, ◌*◌, ◌^◌, ◌<◌, arith, ap₂, ◌∙◌, slice_index}
use Rattle.rand_chacha.specs.Block.{add32, initial_state}
use Rattle.rand_chacha.specs.ChaCha.{key_of}
use Rattle.rand_chacha.specs.Lanes.{lane_at}
use Rattle.chacha_lanes.specs.Stream.{chacha_word, word_of_block}
use Rattle.chacha_lanes.proofs.BlockLemmas.{place_of}
use Rattle.chacha_lanes.proofs.WordLemmas.{word-in_lane}
use Rattle.chacha_lanes.proofs.blocks.block_words_of_rounds.Goals as goal

pub returns : goal.returns
unfolding word_of_block
returns c j h =
    let key = c.args.key.now in
    let place = c.args.place in
    let round = c.args.first + j in
    let at = c.rounds_from.ensures j h in
    let fits : slice_index c.rounds_from.result j < 2 ^ 32 = omega (arith, at) in
    let first = c.first_states-begin.result in
    let last = c.all_rounds-last.result in
    let begin = c.first_states-begin.ensures j h fits ∙ ap₂ (λ k r. initial_state k 0 r) (c.key_in_all_lanes.ensures j h) at in
    let in_stream : (k : ℕ) → k < 16 → add32 (lane_at last k j) (lane_at first k j) ≡ chacha_word key round k
    = λ k below. word-in_lane (key_of key) round j k first last below begin (c.all_rounds-last.ensures j h) ∙ place_of key round k below in
    c.loop-lane.invariant.1 j (omega arith)
    ∙ ap₂ (λ low high. low + 2 ^ 32 * high)
    (c.sums-low.ensures j h ∙ in_stream (2 * place) (omega (arith, c.requires.place)))
    (c.sums-high.ensures j h ∙ in_stream (2 * place + 1) (omega (arith, c.requires.place)))
