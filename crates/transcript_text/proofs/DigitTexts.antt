-- Texts that are compared with the digits of the bytes that were read from them.
use Rattle.std.proofs.Common.{◌≡◌, ◌≢◌, ◌∙◌, ◌*◌, ℕ, List, length, refl, sym, ap, Option, Some, None, Result, Ok, Err}
use Rattle.hex.specs.Hex.{IsBytes, decode_sized, encode_lower}
use Rattle.hex.specs.declared.error.FromHexError.{FromHexError}
use Rattle.hex.proofs.HexLemmas.{decode_sized-ok}
use Rattle.transcript_text.specs.HexDigits.{AreBytesOf}
use Rattle.transcript_text.specs.Reading.{bytes_of, if_written}
use Rattle.transcript_text.proofs.FrameTexts.{bytes_again, bytes_back}

pub other_length : (n : ℕ) (text : List ℕ) → length text ≢ 2 * n → bytes_of n text ≡ None
unfolding bytes_of
other_length n text other = by_read (decode_sized text n) refl
  where
    by_read : (r : Result (List ℕ) FromHexError) → decode_sized text n ≡ r → if_written text r ≡ None
    by_read (Err e) d = refl
    by_read (Ok bs) d = absurd (other (decode_sized-ok text n bs d))

pub same_digits : (n : ℕ) (text bytes : List ℕ) → length bytes ≡ n → IsBytes bytes → encode_lower bytes ≡ text → bytes_of n text ≡ Some bytes
same_digits n text bytes long are same = ap (bytes_of n) (sym same) ∙ bytes_again n bytes long are

pub other_digits : (n : ℕ) (text bytes : List ℕ) → AreBytesOf text bytes → encode_lower bytes ≢ text → bytes_of n text ≡ None
other_digits n text bytes are other = by_bytes (bytes_of n text) refl
  where
    by_bytes : (o : Option (List ℕ)) → bytes_of n text ≡ o → o ≡ None
    by_bytes None h = refl
    by_bytes (Some bs) h =
        let back = bytes_back n text bs h in
        absurd (other (ap encode_lower (are bs back.1 back.0) ∙ sym back.0))
