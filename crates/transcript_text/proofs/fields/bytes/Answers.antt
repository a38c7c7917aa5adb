use Rattle.std.proofs.Common.{◌≡◌, ◌≢◌, ◌∙◌, sym, length, arith}
use Rattle.std.proofs.lemmas.Slice.Eq.{bytes_eq-Decides}
use Rattle.hex.specs.Hex.{encode_lower}
use Rattle.transcript_text.proofs.DigitTexts.{other_digits, other_length, same_digits}
use Rattle.transcript_text.proofs.fields.bytes.Goals as goal

pub returns-then-text-ne104 : goal.returns-then-text-ne104
returns-then-text-ne104 c = sym (other_length 52 c.args.text.now (omega (arith, c.if-text-ne104.true)))

pub returns-then-eq : goal.returns-then-eq
returns-then-eq c =
    let equal = bytes_eq-Decides c.as_slice.result.now c.args.text.now in
    let same : encode_lower c.bytes_of_digits-bytes.result ≡ c.args.text.now = sym (c.as_slice.ensures ∙ c.hex_digits.ensures) ∙ equal.0 (sym c.eq.ensures ∙ c.if-eq.true) in
    let long : length c.bytes_of_digits-bytes.result ≡ 52 = omega arith in
    sym (same_digits 52 c.args.text.now c.bytes_of_digits-bytes.result long c.bytes_of_digits-bytes.ensures.bytes same)

pub returns-else-eq : goal.returns-else-eq
returns-else-eq c =
    let equal = bytes_eq-Decides c.as_slice.result.now c.args.text.now in
    let other : encode_lower c.bytes_of_digits-bytes.result ≢ c.args.text.now = λ same. cc (sym (equal.1 (c.as_slice.ensures ∙ c.hex_digits.ensures ∙ same)) ∙ sym c.eq.ensures ∙ c.if-eq.false) in
    sym (other_digits 52 c.args.text.now c.bytes_of_digits-bytes.result c.bytes_of_digits-bytes.ensures.digits other)
