-- The announcements of a group that are due at a tick.
use Rattle.std.proofs.Common.{◌≡◌, ℕ, zero, suc, ◌+◌, ◌<◌, ◌≤◌, Bool, true, false, cond, not, List, [], ◌++◌, map, refl, sym, ap, ◌∙◌, append-nil, arith, ⊎_elim}
use Rattle.std.specs.Prelude.{◌==◌, if◌then◌else◌}
use mathlib.Core.Path.{fun_ext}
use Rattle.std.specs.List.{filter, flat_map, range_with_len}
use Rattle.std.proofs.lemmas.Bool.{ne_eqb, cases_eq}
use Rattle.std.proofs.lemmas.Bool.Decides.{nat_tests}
use Rattle.missing_round.specs.Sets.{less}
use Rattle.missing_round.proofs.SetLemmas.{less-filter}
use Rattle.event_schedule.specs.declared.Event.{Event}
use Rattle.event_schedule.specs.Schedule.{Shape, members_of, is_announced, is_reading_taken, survivors, missing}
use Rattle.tick_run.specs.TickFrames.{announcement_frame, announcements_at}
use Rattle.plan_meters.proofs.GroupLemmas.{flat_none}

-- one round of a range
pick : {X : Type 0} (F : ℕ → List X) (w t q a n : ℕ) → q + w ≡ t → a ≤ q → q < a + n → flat_map (λ r. if r + w == t then F r else []) (range_with_len a n) ≡ F q
pick F w t q a zero at above below = absurd (omega arith)
pick F w t q a (suc n) at above below =
    ⊎_elim
    (λ here.
    ap (λ b. cond b (F a) [] ++ flat_map (λ r. if r + w == t then F r else []) (range_with_len (a + 1) n)) (same (a + w) t (omega arith))
    ∙ ap (λ l. F a ++ l) (flat_none (λ r. if r + w == t then F r else []) (a + 1) n (λ r ge lt. ap (λ b. cond b (F r) []) (ne_eqb (r + w) t (λ e. omega arith))))
    ∙ append-nil (F a) ∙ ap F here)
    (λ other.
    ap (λ b. cond b (F a) [] ++ flat_map (λ r. if r + w == t then F r else []) (range_with_len (a + 1) n)) (ne_eqb (a + w) t (λ e. other (omega arith)))
    ∙ pick F w t q (a + 1) n at (omega arith) (omega arith))
    (cases_eq a q)
  where
    same : (x y : ℕ) → x ≡ y → (x == y) ≡ true
    same x y h = grind (arith, nat_tests)

-- no round closes at the tick
pub announcements-none : (s : Shape) (past : List Event) (g w t n : ℕ) → ((r : ℕ) → r < n → r + w ≡ t → ⊥) → flat_map (λ r. if r + w == t then announcements_at s past g r else []) (range_with_len 0 n) ≡ []
announcements-none s past g w t n none =
    flat_none (λ r. if r + w == t then announcements_at s past g r else []) 0 n (λ r _ below. ap (λ b. cond b (announcements_at s past g r) []) (ne_eqb (r + w) t (none r (omega arith))))

-- the round that closes is not announced
pub announcements-thin : (s : Shape) (past : List Event) (g w t n q : ℕ) → q + w ≡ t → q < n → is_announced s g q past ≡ false → flat_map (λ r. if r + w == t then announcements_at s past g r else []) (range_with_len 0 n) ≡ []
announcements-thin s past g w t n q at below thin =
    pick (announcements_at s past g) w t q 0 n at (omega arith) (omega arith) ∙ ap (λ b. cond b (map (announcement_frame g q (missing s g q past)) (survivors s g q past)) []) thin

not_not : (b : Bool) → not (not b) ≡ b
not_not true = refl
not_not false = refl

-- the members that are not missing are the survivors
pub survivors-less : (s : Shape) (g r : ℕ) (past : List Event) → less (members_of s g r) (missing s g r past) ≡ survivors s g r past
survivors-less s g r past =
    less-filter (λ i. not (is_reading_taken s g r i past)) (members_of s g r)
    ∙ ap (λ f. filter f (members_of s g r)) (fun_ext (λ i. not_not (is_reading_taken s g r i past)))

-- it is announced
pub announcements-one : (s : Shape) (past : List Event) (g w t n q : ℕ) → q + w ≡ t → q < n → is_announced s g q past ≡ true
    → flat_map (λ r. if r + w == t then announcements_at s past g r else []) (range_with_len 0 n) ≡ map (announcement_frame g q (missing s g q past)) (less (members_of s g q) (missing s g q past))
announcements-one s past g w t n q at below announced =
    pick (announcements_at s past g) w t q 0 n at (omega arith) (omega arith)
    ∙ ap (λ b. cond b (map (announcement_frame g q (missing s g q past)) (survivors s g q past)) []) announced
    ∙ ap (map (announcement_frame g q (missing s g q past))) (sym (survivors-less s g q past))
