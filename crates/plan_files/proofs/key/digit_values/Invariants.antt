use Rattle.std.proofs.Common.{◌≡◌, ◌<◌, ℕ, length, slice_index, unwrap_or}
use Rattle.hex.specs.Hex.{hex_digit_value}
use Rattle.plan_files.proofs.key.digit_values.Given as goal

-- the values so far are there
abbrev pub invariant-loop-place : goal.invariant-loop-place
invariant-loop-place l = record {
  long : length l.values ≡ 64;
  so_far : (k : ℕ) → k < l.place → slice_index l.values k ≡ unwrap_or (hex_digit_value (slice_index l.digits k)) 16;
}
