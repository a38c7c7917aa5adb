-- From the states of blocks to the words of their streams.
use Rattle.std.proofs.Common.{◌≡◌, ℕ, ◌<◌, List, slice_index, sym, ap, ap₂, ◌∙◌}
use Rattle.rand_chacha.specs.Block.{add32, initial_state, double_rounds, block_word}
use Rattle.rand_chacha.specs.Lanes.{lane, lane_at}
use Rattle.rand_chacha.proofs.LaneLemmas.{slice_index-lane}

-- what the rounds made of a word, added to what it was
pub word-in_lane : (key : List ℕ) (round j k : ℕ) (first last : List (List ℕ)) → k < 16 → lane j first ≡ initial_state key 0 round →
    lane j last ≡ double_rounds 10 (lane j first) → add32 (lane_at last k j) (lane_at first k j) ≡ block_word 10 key 0 round k
unfolding block_word
word-in_lane key round j k first last h begin end =
    ap₂ add32
    (sym (slice_index-lane last j k h) ∙ ap (λ x. slice_index x k) (end ∙ ap (double_rounds 10) begin))
    (sym (slice_index-lane first j k h) ∙ ap (λ x. slice_index x k) begin)
