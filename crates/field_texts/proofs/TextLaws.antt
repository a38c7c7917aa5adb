-- Texts that are joined and cut again.
use Rattle.std.proofs.Common.{◌≡◌, ◌<◌, ◌+◌, ◌%◌, ◌^◌, ◌==◌, ◌&&◌, not, ℕ, Bool, true, false, List, [], ◌∷◌, ◌++◌, refl, sym, ap, ◌∙◌, arith, decimal}
use Rattle.std.specs.List.{join_with_byte}
use Rattle.std.proofs.lemmas.Bool.Decides.{nat_tests}
use Rattle.std.proofs.lemmas.Fmt.{decimal_by_steps}
use Rattle.std.proofs.lemmas.List.Splits.{join_with_byte-slice_split}
use Rattle.field_texts.specs.Parts.{parts}

-- no byte of the text is stop
abbrev pub clean : ℕ → List ℕ → Bool
clean stop [] = true
clean stop (c ∷ cs) = not (c == stop) && clean stop cs

-- nor of any of the fields
abbrev pub AllClean : ℕ → List (List ℕ) → Type 0
AllClean stop [] = Unit {0}
AllClean stop (f ∷ fs) = (clean stop f ≡ true) × AllClean stop fs

both : (a b : Bool) → (not a && b) ≡ true → (a ≡ false) × (b ≡ true)
both true b h = absurd cc
both false b h = (refl, h)

pub parts_clean : (stop : ℕ) (xs : List ℕ) → clean stop xs ≡ true → parts stop xs ≡ xs ∷ []
parts_clean stop [] h = refl
parts_clean stop (c ∷ cs) h = let b = both (c == stop) (clean stop cs) h in rw (b.0, parts_clean stop cs b.1) refl

pub parts_at : (stop : ℕ) (xs rest : List ℕ) → clean stop xs ≡ true → parts stop (xs ++ stop ∷ rest) ≡ xs ∷ parts stop rest
parts_at stop [] rest h = let t : (stop == stop) ≡ true = grind (arith, nat_tests) in rw t refl
parts_at stop (c ∷ cs) rest h = let b = both (c == stop) (clean stop cs) h in rw (b.0, parts_at stop cs rest b.1) refl

pub clean_append : (stop : ℕ) (xs ys : List ℕ) → clean stop xs ≡ true → clean stop ys ≡ true → clean stop (xs ++ ys) ≡ true
clean_append stop [] ys h k = k
clean_append stop (c ∷ cs) ys h k = let b = both (c == stop) (clean stop cs) h in rw (b.0) (clean_append stop cs ys b.1 k)

pub clean_decimal : (stop n : ℕ) → stop < 48 → n < 2 ^ 64 → clean stop (decimal n) ≡ true
clean_decimal stop n s b = decimal_by_steps (λ m ds. clean stop ds ≡ true)
    (λ m small. digit m) (λ m ds big ih. clean_append stop ds ((48 + m % 10) ∷ []) ih (digit (m % 10))) n b
  where
    digit : (d : ℕ) → clean stop ((48 + d) ∷ []) ≡ true
    digit d = let t : ((48 + d) == stop) ≡ false = grind (arith, nat_tests) in rw t refl

-- fields that are joined are cut again
pub parts_joined : (stop : ℕ) (f : List ℕ) (fs : List (List ℕ)) → AllClean stop (f ∷ fs) → parts stop (join_with_byte stop (f ∷ fs)) ≡ f ∷ fs
parts_joined stop f [] h = parts_clean stop f h.0
parts_joined stop f (g ∷ gs) h = parts_at stop f (join_with_byte stop (g ∷ gs)) h.0 ∙ ap (λ q. f ∷ q) (parts_joined stop g gs h.1)

-- what is cut is joined again
pub joined_parts : (stop : ℕ) (bytes : List ℕ) (fs : List (List ℕ)) → parts stop bytes ≡ fs → bytes ≡ join_with_byte stop fs
joined_parts stop bytes fs h = sym (join_with_byte-slice_split stop bytes) ∙ ap (join_with_byte stop) h

-- a byte that neither stop nor the fields have
pub clean_joined : (other stop : ℕ) (fs : List (List ℕ)) → (stop == other) ≡ false → AllClean other fs → clean other (join_with_byte stop fs) ≡ true
clean_joined other stop [] t h = refl
clean_joined other stop (f ∷ []) t h = h.0
clean_joined other stop (f ∷ g ∷ gs) t h = clean_append other f (stop ∷ join_with_byte stop (g ∷ gs)) h.0 (rw t (clean_joined other stop (g ∷ gs) t h.1))
