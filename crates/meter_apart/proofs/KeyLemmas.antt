-- The keys of a meter's pairs, one after another.
use Rattle.std.proofs.Common.{◌≡◌, ℕ, suc, ◌+◌, ◌-◌, ◌<◌, ◌≤◌, Bool, true, false, ◌&&◌, sym, ap, ◌∙◌, arith}
use Rattle.std.specs.List.{list_all, range_with_len}

-- whether what is left passes
abbrev pub rest_passes : (ℕ → Bool) → ℕ → ℕ → Bool
rest_passes p m n = list_all p (range_with_len m (n - m))

pub all_first : (p : ℕ → Bool) (n : ℕ) → list_all p (range_with_len 0 n) ≡ rest_passes p 0 n
all_first p n = let e : n ≡ n - 0 = omega arith in ap (λ k. list_all p (range_with_len 0 k)) e

pub all_next : (p : ℕ → Bool) (m n : ℕ) → m < n → rest_passes p m n ≡ (p m && rest_passes p (m + 1) n)
all_next p m n lt = let e : n - m ≡ suc (n - (m + 1)) = omega (arith, lt) in ap (λ k. list_all p (range_with_len m k)) e

pub all_end : (p : ℕ → Bool) (m n : ℕ) → n ≤ m → rest_passes p m n ≡ true
all_end p m n le = let e : n - m ≡ 0 = omega (arith, le) in ap (λ k. list_all p (range_with_len m k)) e

pub all_more : (p : ℕ → Bool) (m n : ℕ) (w : Bool) → w ≡ rest_passes p m n → m < n → p m ≡ true → w ≡ rest_passes p (m + 1) n
all_more p m n w is lt here = is ∙ all_next p m n lt ∙ ap (λ b. b && rest_passes p (m + 1) n) here

pub all_not : (p : ℕ → Bool) (m n : ℕ) (w : Bool) → w ≡ rest_passes p m n → m < n → p m ≡ false → false ≡ w
all_not p m n w is lt here = sym (is ∙ all_next p m n lt ∙ ap (λ b. b && rest_passes p (m + 1) n) here)
