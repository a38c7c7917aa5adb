-- The list of a row that has at most one moved word, and lists that a loop makes.
use Rattle.std.proofs.Common.{◌≡◌, ℕ, zero, suc, ◌+◌, ◌-◌, ◌^◌, ◌<◌, ◌≤◌, cond, List, [], ◌∷◌, ◌++◌, refl, sym, ap, ◌∙◌, append-nil, append_assoc, ⊎_elim, arith}
use Rattle.std.specs.Prelude.{◌==◌, Some, None}
use Rattle.std.specs.List.{flat_map, range_with_len}
use Rattle.std.proofs.Math.Nat.{mod-mod}
use Rattle.std.proofs.lemmas.Bool.{cases_eq, eq-eqb}
use Rattle.std.proofs.lemmas.Grind.{flat_map-append}
use Rattle.std.proofs.lemmas.List.Concat.{flat_map-cons}
use Rattle.missing_round.specs.Words.{word}
use Rattle.pair_keys.specs.declared.KeyId.{KeyId}
use Rattle.pair_keys.specs.declared.KeyId.TheVariants.{Pair}
use Rattle.ideal_masks.specs.declared.Offset.{Offset}
use Rattle.ideal_masks.specs.declared.chain.Link.{Link}
use Rattle.ideal_masks.specs.Moves.{moved}
use Rattle.ideal_masks.specs.Chains.{IsRow}

pub moved-none : (id : KeyId) (r w : ℕ) → word w ≡ 0 → moved id r w ≡ []
moved-none id r w is = ap (λ c. cond c [] (record { id = id; round = r; by = word w } ∷ [])) (eq-eqb (word w) 0 is)

pub moved-word : (id : KeyId) (r v w : ℕ) → word v ≡ word w → moved id r v ≡ moved id r w
moved-word id r v w same = ap (λ z. cond (z == 0) [] (record { id = id; round = r; by = z } ∷ [])) same

-- no element adds anything
pub flat-none : (f : ℕ → List Offset) (a n : ℕ) → ((j : ℕ) → a ≤ j → f j ≡ []) → flat_map f (range_with_len a n) ≡ []
flat-none f a zero none = refl
flat-none f a (suc n) none =
    flat_map-cons f a (range_with_len (a + 1) n) ∙ ap (λ l. l ++ flat_map f (range_with_len (a + 1) n)) (none a (omega arith)) ∙ flat-none f (a + 1) n (λ j le. none j (omega arith))

-- one element alone adds something
flat-one : (f : ℕ → List Offset) (a n k : ℕ) → a ≤ k → k < a + n → ((j : ℕ) → a ≤ j → (j ≡ k → ⊥) → f j ≡ []) → flat_map f (range_with_len a n) ≡ f k
flat-one f a zero k low high others = absurd (omega arith)
flat-one f a (suc n) k low high others =
    flat_map-cons f a (range_with_len (a + 1) n)
    ∙ ⊎_elim
    (λ (same : a ≡ k).
    ap (λ l. f a ++ l) (flat-none f (a + 1) n (λ j le. others j (omega arith) (λ e. omega arith)))
    ∙ append-nil (f a) ∙ ap f same)
    (λ ne.
    ap (λ l. l ++ flat_map f (range_with_len (a + 1) n)) (others a (omega arith) ne)
    ∙ flat-one f (a + 1) n k (omega arith) (omega arith) (λ j le. others j (omega arith)))
    (cases_eq a k)

-- the pair words of a row, in a group of n
abbrev pub row_list : ℕ → ℕ → ℕ → (ℕ → ℕ) → ℕ → List Offset
row_list g r low f n = flat_map (λ j. moved (Pair g low j) r (f j)) (range_with_len (low + 1) (n - (low + 1)))

pub row-none_moves : (g r low n : ℕ) (f : ℕ → ℕ) → IsRow f low n None → row_list g r low f n ≡ []
row-none_moves g r low n f row = flat-none (λ j. moved (Pair g low j) r (f j)) (low + 1) (n - (low + 1)) (λ j above. moved-none (Pair g low j) r (f j) (row j (omega arith)))

pub row-moves : (g r low n : ℕ) (f : ℕ → ℕ) (l : Link) → IsRow f low n (Some l) → row_list g r low f n ≡ moved (Pair g low l.high) r l.by
row-moves g r low n f l row =
    let above = row.0 in
    let below = row.1 in
    flat-one (λ j. moved (Pair g low j) r (f j)) (low + 1) (n - (low + 1)) l.high (omega arith) (omega arith)
    (λ j le ne. moved-none (Pair g low j) r (f j) (row.3 j (omega arith) ne))
    ∙ moved-word (Pair g low l.high) r (f l.high) l.by (sym (mod-mod (f l.high) (2 ^ 64)) ∙ ap word (sym row.2))

-- ---- loops

range-push_suc : (a n : ℕ) → range_with_len a (suc n) ≡ range_with_len a n ++ (a + n) ∷ []
range-push_suc a zero = let same : a ≡ a + 0 = omega arith in ap (λ z. z ∷ []) same
range-push_suc a (suc n) = let same : a + 1 + n ≡ a + suc n = omega arith in ap (λ l. a ∷ l) (range-push_suc (a + 1) n ∙ ap (λ z. range_with_len (a + 1) n ++ z ∷ []) same)

pub range-push : (n : ℕ) → range_with_len 0 (n + 1) ≡ range_with_len 0 n ++ n ∷ []
range-push n =
    let more : n + 1 ≡ suc n = omega arith in
    let last : 0 + n ≡ n = omega arith in
    ap (range_with_len 0) more ∙ range-push_suc 0 n ∙ ap (λ z. range_with_len 0 n ++ z ∷ []) last

-- the list is what was there, and the parts f 0 to f (k - 1)
abbrev pub IsListTo : (ℕ → List Offset) → ℕ → List Offset → List Offset → Type 0
IsListTo f k old new = new ≡ old ++ flat_map f (range_with_len 0 k)

pub list-more : (f : ℕ → List Offset) (k : ℕ) (old mid new : List Offset) → IsListTo f k old mid → new ≡ mid ++ f k → IsListTo f (k + 1) old new
list-more f k old mid new before added =
    added ∙ ap (λ l. l ++ f k) before
    ∙ append_assoc old (flat_map f (range_with_len 0 k)) (f k)
    ∙ ap (λ l. old ++ l) (sym (ap (flat_map f) (range-push k) ∙ flat_map-append f (range_with_len 0 k) (k ∷ []) ∙ ap (λ l. flat_map f (range_with_len 0 k) ++ l) (flat_map-cons f k [] ∙ append-nil (f k))))
