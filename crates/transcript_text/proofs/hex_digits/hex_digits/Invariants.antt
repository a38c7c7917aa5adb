use Rattle.std.proofs.Common.{◌≡◌, ◌*◌, ◌++◌, length, take, drop}
use Rattle.hex.specs.Hex.{encode_lower}
use Rattle.transcript_text.proofs.hex_digits.hex_digits.Given as goal

abbrev pub invariant-loop-at : goal.invariant-loop-at
invariant-loop-at l = record {
  text : take (2 * l.at) l.digits ++ encode_lower (drop l.at l.bytes) ≡ encode_lower l.bytes;
  long : length l.digits ≡ 104;
}
