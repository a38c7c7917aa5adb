-- A text cut at its first stop.
use Rattle.std.proofs.Common.{◌≡◌, ◌<◌, ◌≤◌, ◌+◌, ℕ, zero, suc, List, [], ◌∷◌, ◌++◌, length, get_or, take, map, slice_set, append_assoc, length-append, refl, ap, arith, sym, ◌∙◌, add-one}
use Rattle.std.specs.Borrow.{Bor}
use Rattle.field_texts.specs.Parts.{parts}
use Rattle.field_texts.proofs.Cutting.{parts_some}
use Rattle.transcript_text.specs.Parts.{at, view, AreFields}
use Rattle.transcript_text.specs.declared.cut.Fields.{Fields}

pub at_taken : (xs : List (Bor (List ℕ))) (n i : ℕ) (d : Bor (List ℕ)) → i < n → n ≤ length xs → (get_or xs i d).now ≡ at (map (λ s. s.now) (take n xs)) i
at_taken [] n i d h k = absurd (omega arith)
at_taken (x ∷ xs) zero i d h k = absurd (omega arith)
at_taken (x ∷ xs) (suc n) zero d h k = refl
at_taken (x ∷ xs) (suc n) (suc i) d h k = at_taken xs n i d (omega arith) (omega arith)

pub at_past : (xs : List (Bor (List ℕ))) (n i : ℕ) → n ≤ i → ◌≡◌ {A = List ℕ} [] (at (map (λ s. s.now) (take n xs)) i)
at_past [] zero i h = refl
at_past [] (suc n) i h = refl
at_past (x ∷ xs) zero i h = refl
at_past (x ∷ xs) (suc n) zero h = absurd (omega arith)
at_past (x ∷ xs) (suc n) (suc i) h = at_past xs n i (omega arith)

pub taken_more : (xs : List (Bor (List ℕ))) (i : ℕ) (x : Bor (List ℕ)) → i < length xs → map (λ (s : Bor (List ℕ)). s.now) (take (i + 1) (slice_set xs i x)) ≡ map (λ (s : Bor (List ℕ)). s.now) (take i xs) ++ x.now ∷ []
taken_more [] i x h = absurd (omega arith)
taken_more (y ∷ ys) zero x h = refl
taken_more (y ∷ ys) (suc i) x h = simp add-one (ap (λ q. y.now ∷ q) (simp add-one at (taken_more ys i x (omega arith))))

-- a list of parts that goes on by one part
pub goes_on : (xs : List (Bor (List ℕ))) (i : ℕ) (x : Bor (List ℕ)) (all rest more : List (List ℕ)) → i < length xs → all ≡ map (λ (s : Bor (List ℕ)). s.now) (take i xs) ++ rest → rest ≡ x.now ∷ more
    → all ≡ map (λ (s : Bor (List ℕ)). s.now) (take (i + 1) (slice_set xs i x)) ++ more
goes_on xs i x all rest more h so r =
    let t = taken_more xs i x h in
    rw t (so ∙ ap (λ q. map (λ (s : Bor (List ℕ)). s.now) (take i xs) ++ q) r ∙ sym (append_assoc (map (λ (s : Bor (List ℕ)). s.now) (take i xs)) (x.now ∷ []) more))

length-taken : (xs : List (Bor (List ℕ))) (i : ℕ) → i ≤ length xs → length (map (λ (s : Bor (List ℕ)). s.now) (take i xs)) ≡ i
length-taken [] zero h = refl
length-taken [] (suc i) h = absurd (omega arith)
length-taken (x ∷ xs) zero h = refl
length-taken (x ∷ xs) (suc i) h = ap suc (length-taken xs i (omega arith))

pub long_parts : (xs : List (Bor (List ℕ))) (rest : List ℕ) (all : List (List ℕ)) → length xs ≡ 8 → (i : ℕ) → i ≡ 8 → all ≡ map (λ (s : Bor (List ℕ)). s.now) (take i xs) ++ parts 44 rest → 8 < length all
long_parts xs rest all l i e so =
    let some = parts_some 44 rest in
    let a = length-append (map (λ (s : Bor (List ℕ)). s.now) (take i xs)) (parts 44 rest) in
    let t = length-taken xs i (omega arith) in
    rw so (omega (arith, a, t, some))

pub length_view : (f : Fields) → AreFields f → length (view f) ≡ f.count
length_view f h = length-taken f.at f.count (omega (arith, h.count, h.room))
