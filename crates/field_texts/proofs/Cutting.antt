-- A text cut at its first stop.
use Rattle.std.proofs.Common.{◌≡◌, ◌≢◌, ◌<◌, ◌+◌, ◌==◌, ℕ, zero, suc, true, false, List, [], ◌∷◌, length, get_or, take, drop, length-take, length-drop, ◌-◌, take_all, refl, arith, add-one}
use Rattle.std.proofs.lemmas.List.Splits.{length-slice_split}
use Rattle.std.proofs.lemmas.Bool.Decides.{nat_tests}
use Rattle.field_texts.specs.Parts.{parts}

pub cut_none : (stop : ℕ) (bytes : List ℕ) → ((k : ℕ) → k < length bytes → get_or bytes k 0 ≢ stop) → parts stop bytes ≡ bytes ∷ []
cut_none stop [] h = refl
cut_none stop (c ∷ cs) h =
    let n = h 0 (omega arith) in
    let t : (c == stop) ≡ false = grind (arith, nat_tests) in
    let r = cut_none stop cs (λ k lt. h (suc k) (omega arith)) in
    rw (t, r) refl

pub cut_some : (stop : ℕ) (bytes : List ℕ) (i : ℕ) → i < length bytes → get_or bytes i 0 ≡ stop → ((k : ℕ) → k < i → get_or bytes k 0 ≢ stop) → parts stop bytes ≡ take i bytes ∷ parts stop (drop (i + 1) bytes)
cut_some stop [] i h e n = absurd (omega arith)
cut_some stop (c ∷ cs) zero h e n = let t : (c == stop) ≡ true = grind (arith, nat_tests) in rw t refl
cut_some stop (c ∷ cs) (suc i) h e n =
    let m = n 0 (omega arith) in
    let t : (c == stop) ≡ false = grind (arith, nat_tests) in
    let r = simp add-one at (cut_some stop cs i (omega arith) e (λ k lt. n (suc k) (omega arith))) in
    simp add-one (rw (t, r) refl)

pub parts_some : (stop : ℕ) (bytes : List ℕ) → 0 < length (parts stop bytes)
parts_some stop bytes =
    let n = length-slice_split (λ b. b == stop) bytes in
    omega (arith, n)

take_rest : (n : ℕ) (xs : List ℕ) → take (length xs - n) (drop n xs) ≡ drop n xs
take_rest n xs =
    let d = length-drop n xs in
    take_all _ _ (omega (arith, d))

pub cut_here : (stop : ℕ) (bytes : List ℕ) (i : ℕ) → i < length bytes → get_or bytes i 0 ≡ stop → ((k : ℕ) → k < i → get_or bytes k 0 ≢ stop)
    → (parts stop bytes ≡ take i bytes ∷ parts stop (take (length bytes - (i + 1)) (drop (i + 1) bytes))) × (length bytes ≡ length (take i bytes) + 1 + length (take (length bytes - (i + 1)) (drop (i + 1) bytes)))
cut_here stop bytes i h e n =
    let t = take_rest (i + 1) bytes in
    let a = length-take i bytes in
    let b = length-drop (i + 1) bytes in
    rw t (cut_some stop bytes i h e n, omega (arith, a, b))
