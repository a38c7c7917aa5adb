-- The search finds parts.
use Rattle.std.proofs.Common.{◌≡◌, ℕ, zero, suc, ◌≤◌, Bool, true, false, cond, not, ◌&&◌, ◌||◌, List, [], ◌∷◌, ◌++◌, length, refl, sym, ap, ◌∙◌, arith, ⊎_elim}
use Rattle.std.specs.Prelude.{◌==◌, Option, Some, None, is_some}
use Rattle.std.specs.List.{find}
use Rattle.std.proofs.lemmas.Bool.{false≢true, cases_eq, ne_eqb, eq-eqb, eqb-true, or_cases, and_parts}
use Rattle.missing_round.specs.Sets.{is_member}
use Rattle.mask_graphs.specs.Graphs.{Graph, IsClosed, linked}
use Rattle.mask_graphs.specs.Search.{is_next, with_next, grown, outside}
use Rattle.mask_graphs.proofs.ListFacts.{find-member, find-none, find-passes, not_true, some_of}
use Rattle.mask_graphs.proofs.TreeLemmas.{Grows}

-- ---- what grows

pub record IsGrown (graph : Graph) (base meters part : List ℕ) : Type 0 where
  pub new : List ℕ
  pub is : part ≡ new ++ base
  pub grows : Grows graph base new
  pub within : (i : ℕ) → is_member i new ≡ true → is_member i meters ≡ true

not_base : (graph : Graph) (base meters : List ℕ) → IsGrown graph base meters base
not_base graph base meters = record { new = []; is = refl; grows = tt; within = λ i h. absurd (false≢true h) }

grown-once : (graph : Graph) (base meters part : List ℕ) → IsGrown graph base meters part → (o : Option ℕ) → find (is_next graph part) meters ≡ o
    → IsGrown graph base meters (with_next part o)
grown-once graph base meters part before None e = before
grown-once graph base meters part before (Some i) e =
    let both = and_parts (not (is_member i part)) (is_some (find (linked graph i) part)) (find-passes (is_next graph part) meters i e) in
    let link = some_of (find (linked graph i) part) both.1 in
    record {
      new = i ∷ before.new;
      is = ap (λ l. i ∷ l) before.is;
      grows = (ap (is_member i) (sym before.is) ∙ not_true (is_member i part) both.0, (link.0, ap (find (linked graph i)) (sym before.is) ∙ link.1), before.grows);
      within = λ k h. ⊎_elim (λ here. ap (λ z. is_member z meters) (sym (eqb-true i k here)) ∙ find-member (is_next graph part) meters i e) (before.within k) (or_cases (i == k) (is_member k before.new) h);
    }

grown-more : (graph : Graph) (n : ℕ) (base meters part : List ℕ) → IsGrown graph base meters part → IsGrown graph base meters (grown graph n part meters)
grown-more graph zero base meters part before = before
grown-more graph (suc n) base meters part before =
    grown-more graph n base meters (with_next part (find (is_next graph part) meters)) (grown-once graph base meters part before (find (is_next graph part) meters) refl)

pub grown-is : (graph : Graph) (n : ℕ) (base meters : List ℕ) → IsGrown graph base meters (grown graph n base meters)
grown-is graph n base meters = grown-more graph n base meters base (not_base graph base meters)

-- what is the same along links is the same in all of it
pub grows-same : (graph : Graph) (base new : List ℕ) (q : ℕ → Bool) (b : Bool) → IsClosed graph q → ((k : ℕ) → is_member k base ≡ true → q k ≡ b) → Grows graph base new
    → (k : ℕ) → is_member k (new ++ base) ≡ true → q k ≡ b
grows-same graph base [] q b closed at_base grows k within = at_base k within
grows-same graph base (i ∷ new) q b closed at_base grows k within =
    let rest : List ℕ = new ++ base in
    let j : ℕ = grows.1.0 in
    let later = grows-same graph base new q b closed at_base grows.2 in
    ⊎_elim
    (λ here. ap q (sym (eqb-true i k here)) ∙ closed i j (find-passes (linked graph i) rest j grows.1.1) ∙ later j (find-member (linked graph i) rest j grows.1.1))
    (λ there. later k there)
    (or_cases (i == k) (is_member k rest) within)

-- ---- it ends

-- those outside are fewer with each one that is taken
fewer_or_same : (i : ℕ) (part xs : List ℕ) → length (outside (i ∷ part) xs) ≤ length (outside part xs)
fewer_or_same i part [] = omega arith
fewer_or_same i part (x ∷ xs) = step (i == x) (is_member x part) (fewer_or_same i part xs)
  where
    step : (c b : Bool) → length (outside (i ∷ part) xs) ≤ length (outside part xs)
        → length (cond (not (c || b)) (x ∷ outside (i ∷ part) xs) (outside (i ∷ part) xs)) ≤ length (cond (not b) (x ∷ outside part xs) (outside part xs))
    step true true le = le
    step true false le = omega (arith, le)
    step false true le = le
    step false false le = omega (arith, le)

fewer : (i : ℕ) (part xs : List ℕ) → is_member i xs ≡ true → is_member i part ≡ false → suc (length (outside (i ∷ part) xs)) ≤ length (outside part xs)
fewer i part [] within out = absurd (false≢true within)
fewer i part (x ∷ xs) within out =
    ⊎_elim
    (λ e. here (i == x) (is_member x part) (eq-eqb i x (sym e)) (ap (λ z. is_member z part) e ∙ out) (fewer_or_same i part xs))
    (λ ne. there (i == x) (is_member x part) (ne_eqb i x (λ e. ne (sym e))) (fewer i part xs (sym (ap (λ b. b || is_member i xs) (ne_eqb x i ne)) ∙ within) out))
    (cases_eq x i)
  where
    here : (c b : Bool) → c ≡ true → b ≡ false → length (outside (i ∷ part) xs) ≤ length (outside part xs)
        → suc (length (cond (not (c || b)) (x ∷ outside (i ∷ part) xs) (outside (i ∷ part) xs))) ≤ length (cond (not b) (x ∷ outside part xs) (outside part xs))
    here true false is_c is_b le = omega (arith, le)
    here true true is_c is_b le = absurd (false≢true (sym is_b))
    here false b is_c is_b le = absurd (false≢true is_c)

    there : (c b : Bool) → c ≡ false → suc (length (outside (i ∷ part) xs)) ≤ length (outside part xs)
        → suc (length (cond (not (c || b)) (x ∷ outside (i ∷ part) xs) (outside (i ∷ part) xs))) ≤ length (cond (not b) (x ∷ outside part xs) (outside part xs))
    there true b is_c le = absurd (false≢true (sym is_c))
    there false true is_c le = le
    there false false is_c le = omega (arith, le)

grown-still : (graph : Graph) (n : ℕ) (part meters : List ℕ) → find (is_next graph part) meters ≡ None → grown graph n part meters ≡ part
grown-still graph zero part meters none = refl
grown-still graph (suc n) part meters none = ap (λ o. grown graph n (with_next part o) meters) none ∙ grown-still graph n part meters none

all_taken : (part xs : List ℕ) → length (outside part xs) ≤ 0 → (i : ℕ) → is_member i xs ≡ true → is_member i part ≡ true
all_taken part [] none i within = absurd (false≢true within)
all_taken part (x ∷ xs) none i within = step (is_member x part) refl none (all_taken part xs)
  where
    step : (b : Bool) → is_member x part ≡ b → length (cond (not b) (x ∷ outside part xs) (outside part xs)) ≤ 0
        → (length (outside part xs) ≤ 0 → (k : ℕ) → is_member k xs ≡ true → is_member k part ≡ true) → is_member i part ≡ true
    step true is le rest = ⊎_elim (λ here. ap (λ z. is_member z part) (sym (eqb-true x i here)) ∙ is) (λ later. rest le i later) (or_cases (x == i) (is_member i xs) within)
    step false is le rest = absurd (omega (arith, le))

-- at the end no meter is next
pub grown-ends : (graph : Graph) (n : ℕ) (part meters : List ℕ) → length (outside part meters) ≤ n → (i : ℕ) → is_member i meters ≡ true → is_next graph (grown graph n part meters) i ≡ false
grown-ends graph zero part meters few i within =
    ap (λ b. not b && is_some (find (linked graph i) part)) (all_taken part meters few i within)
grown-ends graph (suc n) part meters few i within = step (find (is_next graph part) meters) refl (λ p le. grown-ends graph n p meters le i within)
  where
    step : (o : Option ℕ) → find (is_next graph part) meters ≡ o
        → ((p : List ℕ) → length (outside p meters) ≤ n → is_next graph (grown graph n p meters) i ≡ false)
        → is_next graph (grown graph n (with_next part o) meters) i ≡ false
    step None e rest = ap (λ p. is_next graph p i) (grown-still graph n part meters e) ∙ find-none (is_next graph part) meters e i within
    step (Some j) e rest =
        let both = and_parts (not (is_member j part)) (is_some (find (linked graph j) part)) (find-passes (is_next graph part) meters j e) in
        let less = fewer j part meters (find-member (is_next graph part) meters j e) (not_true (is_member j part) both.0) in
        rest (j ∷ part) (omega (arith, less, few))
