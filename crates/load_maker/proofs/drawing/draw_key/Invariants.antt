use Rattle.std.proofs.Common.{◌≡◌, ◌*◌, length, take}
use Rattle.std.specs.Int.{w32, to_le_bytes}
use Rattle.std.specs.List.{flat_map, range_with_len}
use Rattle.load_maker.specs.Drawing.{ahead, word_ahead}
use Rattle.load_maker.proofs.drawing.draw_key.Given as goal

-- the words so far are drawn
abbrev pub invariant-loop-place : goal.invariant-loop-place
invariant-loop-place l = record {
  stream : l.stream ≡ ahead l.fn.stream l.place;
  long : length l.key ≡ 32;
  bytes : take (4 * l.place) l.key ≡ flat_map (λ k. to_le_bytes w32 (word_ahead l.fn.stream k)) (range_with_len 0 l.place);
}
