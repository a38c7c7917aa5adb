-- Texts of graphic bytes.
use Rattle.std.proofs.Common.{◌≡◌, ◌∙◌, sym, ap, refl, ℕ, ◌+◌, ◌<◌, nat_lt, Bool, true, false, cond, not, ◌&&◌, List, [], ◌∷◌, length, Some, None, arith}
use Rattle.std.proofs.lemmas.Bool.{false≢true}
use Rattle.std.proofs.lemmas.Bool.Decides.{nat_tests}
use Rattle.std.proofs.lemmas.Str.{IsUtf8-from_ascii}
use Rattle.std.proofs.lemmas.Str.Ascii.{IsAscii-nil, IsAscii-cons}
use Rattle.std.specs.List.{list_all, position, position_or_len}
use Rattle.std.specs.Str.{IsAscii, IsUtf8}
use Rattle.link_lanes.specs.ArgBytes.{is_arg_byte}

-- the place of the first other byte, or the end
other_at : List ℕ → ℕ
other_at text = position_or_len (λ b. not (is_arg_byte b)) text

all_unless_other : (text : List ℕ) → nat_lt (other_at text) (length text) ≡ false → list_all is_arg_byte text ≡ true
unfolding other_at
all_unless_other [] h = refl
all_unless_other (b ∷ bs) h = by_case (is_arg_byte b) refl (all_unless_other bs)
  where
    at : (c : Bool) → is_arg_byte b ≡ c → other_at (b ∷ bs) ≡ cond {A = ℕ} (not (not c)) (1 + other_at bs) 0
    at c is = ap (λ c. cond {A = ℕ} (not (not c)) (1 + other_at bs) 0) is

    by_case : (c : Bool) → is_arg_byte b ≡ c → (nat_lt (other_at bs) (length bs) ≡ false → list_all is_arg_byte bs ≡ true) → list_all is_arg_byte (b ∷ bs) ≡ true
    by_case true is later =
        let e : other_at (b ∷ bs) ≡ 1 + other_at bs = at true is in
        let past : nat_lt (other_at bs) (length bs) ≡ false = grind (arith, nat_tests) in
        ap (λ c. c && list_all is_arg_byte bs) is ∙ later past
    by_case false is later =
        let e : other_at (b ∷ bs) ≡ 0 = at false is in
        let here : nat_lt (other_at (b ∷ bs)) (length (b ∷ bs)) ≡ true = grind (arith, nat_tests) in
        absurd (false≢true (sym h ∙ here))

-- a text with no other byte has graphic bytes alone
pub graphic : (text : List ℕ) → None ≡ position (λ b. not (is_arg_byte b)) text → list_all is_arg_byte text ≡ true
unfolding other_at
graphic text h = by_case (nat_lt (other_at text) (length text)) refl h
  where
    by_case : (c : Bool) → nat_lt (other_at text) (length text) ≡ c → None ≡ cond c (Some (other_at text)) None → list_all is_arg_byte text ≡ true
    by_case true is e = absurd cc
    by_case false is e = all_unless_other text is

-- graphic bytes are a text
pub graphic_is_text : (text : List ℕ) → list_all is_arg_byte text ≡ true → IsUtf8 text
graphic_is_text text h = IsUtf8-from_ascii text (ascii text h)
  where
    front : (a b : Bool) → (a && b) ≡ true → a ≡ true
    front true b e = refl
    front false b e = absurd (false≢true e)

    back : (a b : Bool) → (a && b) ≡ true → b ≡ true
    back true b e = e
    back false b e = absurd (false≢true e)

    below : (b : ℕ) → is_arg_byte b ≡ true → b < 128
    below b e = grind (arith, nat_tests)

    ascii : (t : List ℕ) → list_all is_arg_byte t ≡ true → IsAscii t
    ascii [] h = IsAscii-nil
    ascii (b ∷ bs) h = IsAscii-cons b bs (below b (front (is_arg_byte b) (list_all is_arg_byte bs) h)) (ascii bs (back (is_arg_byte b) (list_all is_arg_byte bs) h))
