use Rattle.std.proofs.Common.{◌≡◌, length}
use Rattle.hex.specs.Hex.{IsBytes}
use Rattle.transcript_text.proofs.HexLemmas.{AreFirst}
use Rattle.transcript_text.proofs.hex_digits.bytes_of_digits.Given as goal

abbrev pub invariant-loop-at : goal.invariant-loop-at
invariant-loop-at l = record {
  long : length l.bytes ≡ 52;
  small : IsBytes l.bytes;
  first : AreFirst l.digits l.bytes l.at;
}
