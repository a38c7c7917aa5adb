-- The Closes and Ends that are due at a tick: each once.
use Rattle.std.proofs.Common.{◌≡◌, ℕ, ◌+◌, ◌-◌, Bool, true, false, cond, ◌&&◌, ◌||◌, List, [], ◌∷◌, refl, ap, ◌∙◌, arith}
use Rattle.std.specs.Prelude.{◌==◌, nat_lt, if◌then◌else◌}
use Rattle.std.specs.List.{sum_by, count_by, list_any}
use mathlib.Core.Path.{fun_ext}
use Rattle.std.proofs.lemmas.Bool.Decides.{nat_tests}
use Rattle.std.proofs.lemmas.List.Sums.{sum_by-cons, sum_by-append}
use Rattle.event_schedule.specs.declared.Event.{Event}
use Rattle.event_schedule.specs.declared.Event.TheVariants.{Close, End}
use Rattle.event_schedule.specs.Events.{is_close, is_end}
use Rattle.event_schedule.proofs.ListLemmas.{sum_by-flat_map}
use Rattle.run_rows.specs.Ticks.{Clock}
use Rattle.tick_run.specs.Running.{is_due, calls_of, calls_due}

-- ---- one of a range

-- where a test counts some it holds of one
pub some-counted : {X : Type 0} (p : X → Bool) (zs : List X) → nat_lt 0 (count_by p zs) ≡ list_any p zs
some-counted p [] = refl
some-counted {X} p (y ∷ zs) = ap (nat_lt 0) (sum_by-cons (λ (w : X). cond {A = ℕ} (p w) 1 0) y zs) ∙ step (p y) (some-counted p zs)
  where
    positive : (n : ℕ) → nat_lt 0 (1 + n) ≡ true
    positive n = grind (arith, nat_tests)

    plain : (n : ℕ) → nat_lt 0 (0 + n) ≡ nat_lt 0 n
    plain n = grind (arith, nat_tests)

    step : (b : Bool) → nat_lt 0 (count_by p zs) ≡ list_any p zs → nat_lt 0 (cond {A = ℕ} b 1 0 + count_by p zs) ≡ (b || list_any p zs)
    step true later = positive (count_by p zs)
    step false later = plain (count_by p zs) ∙ later

-- no group stands twice among these
pub record AreOnce (these : List ℕ) : Type 0 where
  pub sums : (g v : ℕ) → sum_by (λ h. cond {A = ℕ} (h == g) v 0) these ≡ cond (list_any (λ h. h == g) these) v 0

pub once-one : (g : ℕ) → AreOnce (g ∷ [])
once-one g = record { sums = λ h v. sum_by-cons (λ k. cond {A = ℕ} (k == h) v 0) g [] ∙ step (g == h) v }
  where
    step : (b : Bool) (v : ℕ) → cond {A = ℕ} b v 0 + 0 ≡ cond (b || false) v 0
    step true v = omega arith
    step false v = refl

-- ---- one of the calls

-- a round is due at its tick, and at no other
due_then : (rounds w r t : ℕ) → (is_due rounds w t && ((t - w) == r)) ≡ (nat_lt r rounds && ((r + w) == t))
due_then rounds w r t = grind (arith, nat_tests)

count_calls : (test : Event → Bool) (c : Clock) (t g : ℕ) → count_by test (calls_of c t g)
    ≡ cond {A = ℕ} (is_due c.rounds c.w1 t) (cond {A = ℕ} (test (Close g (t - c.w1))) 1 0) 0 + cond {A = ℕ} (is_due c.rounds (c.w1 + c.w2) t) (cond {A = ℕ} (test (End g (t - (c.w1 + c.w2)))) 1 0) 0
count_calls test c t g =
    sum_by-append (λ (e : Event). cond {A = ℕ} (test e) 1 0) (if is_due c.rounds c.w1 t then Close g (t - c.w1) ∷ [] else []) (if is_due c.rounds (c.w1 + c.w2) t then End g (t - (c.w1 + c.w2)) ∷ [] else [])
    ∙ ap (λ n. n + count_by test (if is_due c.rounds (c.w1 + c.w2) t then End g (t - (c.w1 + c.w2)) ∷ [] else [])) (one (is_due c.rounds c.w1 t) (Close g (t - c.w1)))
    ∙ ap (λ n. cond {A = ℕ} (is_due c.rounds c.w1 t) (cond {A = ℕ} (test (Close g (t - c.w1))) 1 0) 0 + n) (one (is_due c.rounds (c.w1 + c.w2) t) (End g (t - (c.w1 + c.w2))))
  where
    one : (b : Bool) (e : Event) → count_by test (if b then e ∷ [] else []) ≡ cond {A = ℕ} b (cond {A = ℕ} (test e) 1 0) 0
    one true e = omega (arith, sum_by-cons (λ (v : Event). cond {A = ℕ} (test v) 1 0) e [])
    one false e = refl

-- the Close of a round is due once, where it is of these groups and its tick is this one
pub closes-due : (c : Clock) (these : List ℕ) (t g r : ℕ) → AreOnce these → count_by (is_close g r) (calls_due c these t) ≡ (if list_any (λ h. h == g) these && nat_lt r c.rounds && (r + c.w1 == t) then 1 else 0)
closes-due c these t g r once =
    sum_by-flat_map (λ (e : Event). cond {A = ℕ} (is_close g r e) 1 0) (calls_of c t) these
    ∙ ap (λ f. sum_by f these) (fun_ext (λ h. count_calls (is_close g r) c t h ∙ here h))
    ∙ once.sums g (cond {A = ℕ} (is_due c.rounds c.w1 t && ((t - c.w1) == r)) 1 0)
    ∙ ap (λ b. cond (list_any (λ h. h == g) these) (cond {A = ℕ} b 1 0) 0) (due_then c.rounds c.w1 r t)
    ∙ nested (list_any (λ h. h == g) these) (nat_lt r c.rounds) (r + c.w1 == t)
  where
    nested : (p q b : Bool) → cond p (cond {A = ℕ} (q && b) 1 0) 0 ≡ cond {A = ℕ} (p && q && b) 1 0
    nested true q b = refl
    nested false q b = refl

    none : (b : Bool) → cond {A = ℕ} b 0 0 ≡ 0
    none true = refl
    none false = refl

    inner : (d q b : Bool) → cond {A = ℕ} d (cond {A = ℕ} (q && b) 1 0) 0 ≡ cond {A = ℕ} q (cond {A = ℕ} (d && b) 1 0) 0
    inner true true b = refl
    inner true false b = refl
    inner false true b = refl
    inner false false b = refl

    here : (h : ℕ) → cond {A = ℕ} (is_due c.rounds c.w1 t) (cond {A = ℕ} ((h == g) && ((t - c.w1) == r)) 1 0) 0 + cond {A = ℕ} (is_due c.rounds (c.w1 + c.w2) t) 0 0
        ≡ cond {A = ℕ} (h == g) (cond {A = ℕ} (is_due c.rounds c.w1 t && ((t - c.w1) == r)) 1 0) 0
    here h = omega (arith, inner (is_due c.rounds c.w1 t) (h == g) ((t - c.w1) == r), none (is_due c.rounds (c.w1 + c.w2) t))

-- likewise its End
pub ends-due : (c : Clock) (these : List ℕ) (t g r : ℕ) → AreOnce these → count_by (is_end g r) (calls_due c these t) ≡ (if list_any (λ h. h == g) these && nat_lt r c.rounds && (r + c.w1 + c.w2 == t) then 1 else 0)
ends-due c these t g r once =
    sum_by-flat_map (λ (e : Event). cond {A = ℕ} (is_end g r e) 1 0) (calls_of c t) these
    ∙ ap (λ f. sum_by f these) (fun_ext (λ h. count_calls (is_end g r) c t h ∙ here h))
    ∙ once.sums g (cond {A = ℕ} (is_due c.rounds (c.w1 + c.w2) t && ((t - (c.w1 + c.w2)) == r)) 1 0)
    ∙ ap (λ b. cond (list_any (λ h. h == g) these) (cond {A = ℕ} b 1 0) 0) (due_then c.rounds (c.w1 + c.w2) r t)
    ∙ ap (λ k. cond (list_any (λ h. h == g) these) (cond {A = ℕ} (nat_lt r c.rounds && (k == t)) 1 0) 0) (both r c.w1 c.w2)
    ∙ nested (list_any (λ h. h == g) these) (nat_lt r c.rounds) (r + c.w1 + c.w2 == t)
  where
    both : (x y z : ℕ) → x + (y + z) ≡ x + y + z
    both x y z = omega arith

    nested : (p q b : Bool) → cond p (cond {A = ℕ} (q && b) 1 0) 0 ≡ cond {A = ℕ} (p && q && b) 1 0
    nested true q b = refl
    nested false q b = refl

    none : (b : Bool) → cond {A = ℕ} b 0 0 ≡ 0
    none true = refl
    none false = refl

    inner : (d q b : Bool) → cond {A = ℕ} d (cond {A = ℕ} (q && b) 1 0) 0 ≡ cond {A = ℕ} q (cond {A = ℕ} (d && b) 1 0) 0
    inner true true b = refl
    inner true false b = refl
    inner false true b = refl
    inner false false b = refl

    here : (h : ℕ) → cond {A = ℕ} (is_due c.rounds c.w1 t) 0 0 + cond {A = ℕ} (is_due c.rounds (c.w1 + c.w2) t) (cond {A = ℕ} ((h == g) && ((t - (c.w1 + c.w2)) == r)) 1 0) 0
        ≡ cond {A = ℕ} (h == g) (cond {A = ℕ} (is_due c.rounds (c.w1 + c.w2) t && ((t - (c.w1 + c.w2)) == r)) 1 0) 0
    here h = omega (arith, inner (is_due c.rounds (c.w1 + c.w2) t) (h == g) ((t - (c.w1 + c.w2)) == r), none (is_due c.rounds c.w1 t))
