-- Copies on their way, posted and taken out.
use Rattle.std.proofs.Common.{◌≡◌, ℕ, ◌+◌, Bool, true, false, cond, not, ◌&&◌, List, [], ◌∷◌, map, refl, sym, ap, ◌∙◌, zero-add, arith}
use Rattle.std.specs.Prelude.{◌==◌, nat_le, if◌then◌else◌}
use Rattle.std.specs.List.{count_by, filter, All}
use Rattle.std.proofs.lemmas.Bool.{ne_eqb, eqb-true}
use Rattle.std.proofs.lemmas.List.Elements.{All-head, All-tail, All-nil, All-cons}
use Rattle.std.proofs.lemmas.List.Sums.{sum_by-cons}
use Rattle.group_plan.specs.declared.Tag.{Tag}
use Rattle.lossy_link.specs.Arrivals.{Arrival, arrival, placed, posted, due_at, due_elsewhere}
use Rattle.plan_meters.specs.Came.{same_tag, tag_in, frames_in, tags_of}
use Rattle.tick_run.specs.OnTheWay.{is_copy}

count-cons : {X : Type 0} (p : X → Bool) (x : X) (xs : List X) → count_by p (x ∷ xs) ≡ cond (p x) 1 0 + count_by p xs
count-cons {X} p x xs = sum_by-cons (λ (y : X). cond {A = ℕ} (p y) 1 0) x xs

-- ---- posted

count_placed : (p : Arrival → Bool) (a : Arrival) (xs : List Arrival) → count_by p (placed a xs) ≡ cond (p a) 1 0 + count_by p xs
count_placed p a [] = count-cons p a []
count_placed p a (b ∷ xs) = step (nat_le b.tick a.tick) (count_placed p a xs)
  where
    step : (q : Bool) → count_by p (placed a xs) ≡ cond (p a) 1 0 + count_by p xs → count_by p (cond q (b ∷ placed a xs) (a ∷ b ∷ xs)) ≡ cond (p a) 1 0 + count_by p (b ∷ xs)
    step true later = omega (arith, count-cons p b (placed a xs), count-cons p b xs, later)
    step false later = count-cons p a (b ∷ xs)

pub count-posted : (z : Tag) (u t : ℕ) (bytes : List ℕ) (fate : List ℕ) (xs : List Arrival)
    → count_by (is_copy z u) (posted t bytes fate xs) ≡ count_by (is_copy z u) xs + (if same_tag z (tag_in bytes) then count_by (λ d. t + d == u) fate else 0)
count-posted z u t bytes [] xs = none (same_tag z (tag_in bytes))
  where
    none : (b : Bool) → count_by (is_copy z u) xs ≡ count_by (is_copy z u) xs + cond b 0 0
    none true = omega arith
    none false = omega arith
count-posted z u t bytes (d ∷ fate) xs =
    count-posted z u t bytes fate (placed (arrival (t + d) bytes) xs)
    ∙ ap (λ n. n + cond (same_tag z (tag_in bytes)) (count_by (λ e. t + e == u) fate) 0) (count_placed (is_copy z u) (arrival (t + d) bytes) xs)
    ∙ step (t + d == u) (same_tag z (tag_in bytes)) (count-cons (λ e. t + e == u) d fate)
  where
    step : (b q : Bool) → count_by (λ e. t + e == u) (d ∷ fate) ≡ cond b 1 0 + count_by (λ e. t + e == u) fate
        → (cond (b && q) 1 0 + count_by (is_copy z u) xs) + cond q (count_by (λ e. t + e == u) fate) 0 ≡ count_by (is_copy z u) xs + cond q (count_by (λ e. t + e == u) (d ∷ fate)) 0
    step true true e = omega arith
    step true false e = omega arith
    step false true e = omega arith
    step false false e = omega arith

all_placed : (P : List ℕ → Type 0) (a : Arrival) (xs : List Arrival) → P a.bytes → All (λ b. P b.bytes) xs → All (λ b. P b.bytes) (placed a xs)
all_placed P a [] here all = All-cons (λ b. P b.bytes) a [] here (All-nil (λ b. P b.bytes))
all_placed P a (b ∷ xs) here all = step (nat_le b.tick a.tick) (all_placed P a xs here (All-tail (λ b. P b.bytes) b xs all))
  where
    step : (q : Bool) → All (λ b. P b.bytes) (placed a xs) → All (λ b. P b.bytes) (cond q (b ∷ placed a xs) (a ∷ b ∷ xs))
    step true later = All-cons (λ b. P b.bytes) b (placed a xs) (All-head (λ b. P b.bytes) b xs all) later
    step false later = All-cons (λ b. P b.bytes) a (b ∷ xs) here all

-- what holds of the bytes on their way and of those of one more post
pub all-posted : (P : List ℕ → Type 0) (t : ℕ) (bytes : List ℕ) (fate : List ℕ) (xs : List Arrival) → P bytes → All (λ b. P b.bytes) xs → All (λ b. P b.bytes) (posted t bytes fate xs)
all-posted P t bytes [] xs here all = all
all-posted P t bytes (d ∷ fate) xs here all = all-posted P t bytes fate (placed (arrival (t + d) bytes) xs) here (all_placed P (arrival (t + d) bytes) xs here all)

-- ---- taken out

pub count-due : (z : Tag) (t : ℕ) (xs : List Arrival) → count_by (same_tag z) (tags_of (frames_in (due_at t xs))) ≡ count_by (is_copy z t) xs
count-due z t [] = refl
count-due z t (a ∷ xs) = step (a.tick == t) (count-cons (is_copy z t) a xs) (count-due z t xs)
  where
    step : (b : Bool) → count_by (is_copy z t) (a ∷ xs) ≡ cond (b && same_tag z (tag_in a.bytes)) 1 0 + count_by (is_copy z t) xs → count_by (same_tag z) (tags_of (frames_in (due_at t xs))) ≡ count_by (is_copy z t) xs
        → count_by (same_tag z) (tags_of (frames_in (map (λ x. x.bytes) (cond b (a ∷ filter (λ x. x.tick == t) xs) (filter (λ x. x.tick == t) xs))))) ≡ count_by (is_copy z t) (a ∷ xs)
    step true e later = count-cons (same_tag z) (tag_in a.bytes) (tags_of (frames_in (due_at t xs))) ∙ ap (λ n. cond (same_tag z (tag_in a.bytes)) 1 0 + n) later ∙ sym e
    step false e later = later ∙ sym (e ∙ zero-add (count_by (is_copy z t) xs))

pub count-elsewhere : (z : Tag) (t u : ℕ) (xs : List Arrival) → (u ≡ t → ⊥) → count_by (is_copy z u) (due_elsewhere t xs) ≡ count_by (is_copy z u) xs
count-elsewhere z t u [] ne = refl
count-elsewhere z t u (a ∷ xs) ne = step (a.tick == t) refl (count-cons (is_copy z u) a xs) (count-elsewhere z t u xs ne)
  where
    step : (b : Bool) → (a.tick == t) ≡ b → count_by (is_copy z u) (a ∷ xs) ≡ cond ((a.tick == u) && same_tag z (tag_in a.bytes)) 1 0 + count_by (is_copy z u) xs → count_by (is_copy z u) (due_elsewhere t xs) ≡ count_by (is_copy z u) xs
        → count_by (is_copy z u) (cond (not b) (a ∷ due_elsewhere t xs) (due_elsewhere t xs)) ≡ count_by (is_copy z u) (a ∷ xs)
    step true is e later =
        let same : a.tick ≡ t = eqb-true a.tick t is in
        later ∙ sym (e ∙ ap (λ b. cond {A = ℕ} (b && same_tag z (tag_in a.bytes)) 1 0 + count_by (is_copy z u) xs) (ne_eqb a.tick u (λ at. ne (sym at ∙ same))) ∙ zero-add (count_by (is_copy z u) xs))
    step false is e later = count-cons (is_copy z u) a (due_elsewhere t xs) ∙ ap (λ n. cond ((a.tick == u) && same_tag z (tag_in a.bytes)) 1 0 + n) later ∙ sym e

pub all-due : (P : List ℕ → Type 0) (t : ℕ) (xs : List Arrival) → All (λ b. P b.bytes) xs → All P (due_at t xs)
all-due P t [] all = All-nil P
all-due P t (a ∷ xs) all = step (a.tick == t) (all-due P t xs (All-tail (λ b. P b.bytes) a xs all))
  where
    step : (b : Bool) → All P (due_at t xs) → All P (map (λ x. x.bytes) (cond b (a ∷ filter (λ x. x.tick == t) xs) (filter (λ x. x.tick == t) xs)))
    step true later = All-cons P a.bytes (due_at t xs) (All-head (λ b. P b.bytes) a xs all) later
    step false later = later

pub all-elsewhere : (P : List ℕ → Type 0) (t : ℕ) (xs : List Arrival) → All (λ b. P b.bytes) xs → All (λ b. P b.bytes) (due_elsewhere t xs)
all-elsewhere P t [] all = All-nil (λ b. P b.bytes)
all-elsewhere P t (a ∷ xs) all = step (not (a.tick == t)) (all-elsewhere P t xs (All-tail (λ b. P b.bytes) a xs all))
  where
    step : (b : Bool) → All (λ b. P b.bytes) (due_elsewhere t xs) → All (λ b. P b.bytes) (cond b (a ∷ due_elsewhere t xs) (due_elsewhere t xs))
    step true later = All-cons (λ b. P b.bytes) a (due_elsewhere t xs) (All-head (λ b. P b.bytes) a xs all) later
    step false later = later
