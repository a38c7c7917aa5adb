-- A set read member by member.
use Rattle.std.proofs.Common.{◌≡◌, ◌<◌, ◌≤◌, ◌+◌, ◌==◌, ◌&&◌, ℕ, Bool, true, false, nat_lt, nat_le, List, [], ◌∷◌, ◌++◌, length, refl, ap, arith, sym, ◌∙◌, Option, Some, None, append_assoc, if◌then◌else◌}
use Rattle.std.proofs.lemmas.Bool.Decides.{nat_tests}
use Rattle.missing_round.specs.Sets.{joined}
use Rattle.field_texts.specs.Numbers.{number_of, within}
use Rattle.field_texts.specs.Parts.{parts}
use Rattle.field_texts.specs.Sets.{ahead, ascending, with_first}

abbrev pub Under : ℕ → List ℕ → Type 0
Under low [] = Unit {0}
Under low (x ∷ xs) = (x < low) × Under low xs

joined_last : (m : ℕ) (xs : List ℕ) → Under m xs → joined m xs ≡ xs ++ m ∷ []
joined_last m [] h = refl
joined_last m (x ∷ xs) h =
    let a : nat_lt m x ≡ false = grind (arith, nat_tests, h.0) in
    let b : (x == m) ≡ false = grind (arith, nat_tests, h.0) in
    rw (a, b, joined_last m xs h.1) refl

under_more : (low m : ℕ) (xs : List ℕ) → Under low xs → low ≤ m → Under (m + 1) (xs ++ m ∷ [])
under_more low m [] h le = (omega arith, tt)
under_more low m (x ∷ xs) h le = (omega (arith, h.0), under_more low m xs h.1 le)

under_up : (low m : ℕ) (xs : List ℕ) → Under low xs → low ≤ m → Under m xs
under_up low m [] h le = tt
under_up low m (x ∷ xs) h le = (omega (arith, h.0), under_up low m xs h.1 le)

-- what a number within bounds says
pub within_some : (low high m : ℕ) (n : Option ℕ) → Some m ≡ within low high n → (n ≡ Some m) × (low ≤ m) × (m < high)
within_some low high m None e = absurd cc
within_some low high m (Some n) e = split (nat_le low n && nat_lt n high) refl e
  where
    split : (b : Bool) → (nat_le low n && nat_lt n high) ≡ b → Some m ≡ (if b then Some n else None) → (Some n ≡ Some m) × (low ≤ m) × (m < high)
    split true t h = let s : m ≡ n = cc in (sym h, grind (arith, nat_tests, t, s), grind (arith, nat_tests, t, s))
    split false t h = absurd cc

ahead_ahead : (xs ys : List ℕ) (z : Option (List ℕ)) → ahead xs (ahead ys z) ≡ ahead (xs ++ ys) z
ahead_ahead xs ys None = refl
ahead_ahead xs ys (Some zs) = ap Some (sym (append_assoc xs ys zs))

-- a member, and more
pub set_more : (low high m : ℕ) (set part after : List ℕ) (more : List (List ℕ)) (whole : Option (List ℕ)) → Under low set → Some m ≡ within low high (number_of part) → more ≡ part ∷ parts 43 after
    → ahead set (ascending low high more) ≡ whole → (ahead (joined m set) (ascending (m + 1) high (parts 43 after)) ≡ whole) × Under (m + 1) (joined m set) × (low ≤ m) × (m < high)
unfolding ascending
set_more low high m set part after more whole u e cut so =
    let w = within_some low high m (number_of part) e in
    let j = joined_last m set (under_up low m set u w.1) in
    let step : ascending low high more ≡ ahead (m ∷ []) (ascending (m + 1) high (parts 43 after)) = ap (ascending low high) cut ∙ ap (λ q. with_first q (λ x. ascending (x + 1) high (parts 43 after))) (sym e) in
    rw j (sym (ahead_ahead set (m ∷ []) (ascending (m + 1) high (parts 43 after))) ∙ ap (ahead set) (sym step) ∙ so, under_more low m set u w.1, w.1, w.2)

-- the last member
pub set_last : (low high m : ℕ) (set rest : List ℕ) (more : List (List ℕ)) (whole : Option (List ℕ)) → Under low set → Some m ≡ within low high (number_of rest) → more ≡ rest ∷ []
    → ahead set (ascending low high more) ≡ whole → Some (joined m set) ≡ whole
unfolding ascending
set_last low high m set rest more whole u e cut so =
    let w = within_some low high m (number_of rest) e in
    let j = joined_last m set (under_up low m set u w.1) in
    let step : ascending low high more ≡ Some (m ∷ []) = ap (ascending low high) cut ∙ ap (λ q. with_first q (λ x. Some [])) (sym e) in
    rw j (ap (ahead set) (sym step) ∙ so)

-- a part that is no member
pub set_bad : (low high : ℕ) (set part : List ℕ) (more others : List (List ℕ)) (whole : Option (List ℕ)) → None ≡ within low high (number_of part) → more ≡ part ∷ others
    → ahead set (ascending low high more) ≡ whole → None ≡ whole
unfolding ascending
set_bad low high set part more others whole e cut so =
    let step : ascending low high more ≡ None = ap (ascending low high) cut ∙ ap (λ q. with_first q (λ x. ascending (x + 1) high others)) (sym e) in
    ap (ahead set) (sym step) ∙ so

within_none : (low high : ℕ) (n : Option ℕ) → high ≤ low → within low high n ≡ None
within_none low high None h = refl
within_none low high (Some n) h = let t : (nat_le low n && nat_lt n high) ≡ false = grind (arith, nat_tests) in rw t refl

pub set_full : (low high : ℕ) (set rest : List ℕ) (more : List (List ℕ)) (whole : Option (List ℕ)) → high ≤ low → 0 < length more → ahead set (ascending low high more) ≡ whole → None ≡ whole
unfolding ascending
set_full low high set rest [] whole h some so = absurd (omega arith)
set_full low high set rest (p ∷ ps) whole h some so = ap (λ q. ahead set (with_first q (λ x. ascending (x + 1) high ps))) (sym (within_none low high (number_of p) h)) ∙ so
