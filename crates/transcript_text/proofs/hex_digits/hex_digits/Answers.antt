use Rattle.std.proofs.Common.{ℕ, ◌+◌, ◌*◌, arith, slice_index, slice_set, ap, ◌∙◌}
use Rattle.std.proofs.lemmas.List.{length-set}
use Rattle.std.proofs.lemmas.Nat.{and_mask}
use Rattle.hex.specs.Hex.{lower_digits}
use Rattle.hex.proofs.Pairs.{encode_step, encode_done}
use Rattle.transcript_text.proofs.hex_digits.hex_digits.Goals as goal

pub loop-at-preserved : goal.loop-at-preserved
loop-at-preserved c =
    let byte : ℕ = slice_index c.args.bytes.now c.loop-at.at in
    record {
      text = encode_step lower_digits c.args.bytes.now c.loop-at.digits c.loop-at.at _ _ (omega (arith, c.loop-at-test.true, c.told-bytes)) (omega (arith, c.loop-at-test.true, c.loop-at.invariant.long))
          c.hex_digit.ensures (c.hex_digit-in-loop-at.ensures ∙ ap (λ (k : ℕ). slice_index lower_digits k) (and_mask byte 4)) c.loop-at.invariant.text;
      long = length-set (slice_set c.loop-at.digits (2 * c.loop-at.at) c.hex_digit.result) (2 * c.loop-at.at + 1) c.hex_digit-in-loop-at.result
          ∙ length-set c.loop-at.digits (2 * c.loop-at.at) c.hex_digit.result ∙ c.loop-at.invariant.long;
    }

pub returns : goal.returns
returns c =
    encode_done lower_digits c.args.bytes.now c.loop-at.digits c.loop-at.at (omega (arith, c.loop-at-test.false, c.told-bytes)) (omega (arith, c.loop-at.invariant.long, c.told-bytes)) c.loop-at.invariant.text
