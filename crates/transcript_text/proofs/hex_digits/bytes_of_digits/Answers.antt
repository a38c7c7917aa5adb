use Rattle.std.proofs.Common.{◌≡◌, arith, refl, length, ◌∙◌, ◌<◌}
use Rattle.std.proofs.lemmas.List.{length-set}
use Rattle.transcript_text.proofs.HexLemmas.{no_bytes, byte_set, one_more, all_read}
use Rattle.transcript_text.proofs.hex_digits.bytes_of_digits.Goals as goal

pub loop-at-init : goal.loop-at-init
loop-at-init c = record { long = refl; small = no_bytes 52; first = λ bs are is. refl }

pub loop-at-preserved : goal.loop-at-preserved
loop-at-preserved c =
    let s = c.loop-at.invariant in
    let out = c.loop-at.bytes in
    let few : c.loop-at.at < length out = omega (arith, c.loop-at-test.true, s.long) in
    let high = c.digit_number.ensures in
    let low = c.digit_number-in-loop-at.ensures in
    record {
      long = length-set out c.loop-at.at _ ∙ s.long;
      small = byte_set out c.loop-at.at _ (omega (arith, high.below, low.below)) s.small;
      first = one_more c.args.digits.now out c.loop-at.at _ _ few (omega (arith, s.long, c.requires)) high.number low.number s.first;
    }

pub returns-clause-digits : goal.returns-clause-digits
returns-clause-digits c =
    let s = c.loop-at.invariant in
    let end : c.loop-at.at ≡ 52 = omega (arith, c.loop-at-test.false, c.loop-at.auto.at-end) in
    all_read c.args.digits.now c.loop-at.bytes c.loop-at.at (omega (arith, s.long, end)) (omega (arith, c.requires, end)) s.first
