-- What a meter answers: it stays, comes after its reading, and meets its rule.
use Rattle.std.proofs.Common.{◌≡◌, ℕ, ◌-◌, ◌≤◌, Bool, true, false, not, ◌&&◌, ◌||◌, List, [], ◌∷◌, length, refl, sym, ap, ◌∙◌, arith, ⊎_elim, subst}
use Rattle.std.specs.Prelude.{◌==◌, nat_lt, Option, Some, None, is_some, if◌then◌else◌}
use Rattle.std.specs.Option.{option_or}
use Rattle.std.specs.List.{All, AllByRecursion}
use Rattle.std.proofs.lemmas.List.Elements.{recursion_from_All}
use mathlib.Core.List.{reverse_aux, reverse}
use Rattle.std.proofs.lemmas.Bool.{false≢true, eqb-true, or_cases, and_parts, and_from, both_ways, lt-ltb, cases_lt}
use Rattle.std.proofs.lemmas.Slice.Eq.{bytes_eq-Decides}
use Rattle.missing_round.specs.Sets.{IsSet, is_member, less}
use Rattle.missing_round.proofs.SetLemmas.{is_member-filter}
use Rattle.meter_core.specs.declared.Why.{Why}
use Rattle.meter_core.specs.declared.Why.TheVariants.{OutOfPlan, SelfMissing, Thin}
use Rattle.meter_core.specs.Meters.{is_within, survivors}
use Rattle.event_schedule.specs.Schedule.{Shape, members_of, floor_of}
use Rattle.lying_head_end.specs.Acts.{Act, Read, Tell, is_reading, has_read, may_answer, set_heard, set_answered, is_set, does_answer}
use Rattle.lying_head_end.specs.Frames.{TellsSet}

-- ---- the past after more acts

unfoldable pub after : List Act → List Act → List Act
after past [] = past
after past (act ∷ rest) = after (act ∷ past) rest

after-reverse_aux : (past rest : List Act) → after past rest ≡ reverse_aux rest past
unfolding after
after-reverse_aux past [] = refl
after-reverse_aux past (act ∷ rest) = after-reverse_aux (act ∷ past) rest

pub after-reverse : (acts : List Act) → after [] acts ≡ reverse acts
after-reverse acts = after-reverse_aux [] acts

-- a set that is answered stays
pub answered-more : (s : Shape) (g r i : ℕ) (act : Act) (past : List Act) (set : List ℕ) → set_answered s g r i past ≡ Some set → set_answered s g r i (act ∷ past) ≡ Some set
answered-more s g r i act past set h = ap (λ o. option_or o (set_heard s g r i past act)) h

pub answered-after : (s : Shape) (g r i : ℕ) (past rest : List Act) (set : List ℕ) → set_answered s g r i past ≡ Some set → set_answered s g r i (after past rest) ≡ Some set
unfolding after
answered-after s g r i past [] set h = h
answered-after s g r i past (act ∷ rest) set h = answered-after s g r i (act ∷ past) rest set (answered-more s g r i act past set h)

-- ---- where it comes from

pub record Heard (s : Shape) (g r i : ℕ) (past : List Act) (set : List ℕ) : Type 0 where
  pub read : has_read s g r i past ≡ true
  pub may : may_answer s g r i set ≡ true
  pub is : IsSet set

or-true : (b : Bool) → (b || true) ≡ true
or-true true = refl
or-true false = refl

heard-more : (s : Shape) (g r i : ℕ) (act : Act) (past : List Act) (set : List ℕ) → Heard s g r i past set → Heard s g r i (act ∷ past) set
heard-more s g r i act past set h = record {
  read = ap (λ b. (is_reading g r i act && s.present g r i) || b) h.read ∙ or-true (is_reading g r i act && s.present g r i);
  may = h.may;
  is = h.is;
}

heard-now : (s : Shape) (g r i : ℕ) (act : Act) (past : List Act) (set : List ℕ) → TellsSet act → set_heard s g r i past act ≡ Some set → Heard s g r i (act ∷ past) set
heard-now s g r i (Read a b c) past set told h = absurd (cc h)
heard-now s g r i (Tell a b c other) past set told h = step ((a == g) && (b == r) && (c == i)) (has_read s g r i past) (may_answer s g r i other) refl refl h
  where
    step : (place read may : Bool) → has_read s g r i past ≡ read → may_answer s g r i other ≡ may → (if place && read && may then Some other else None) ≡ Some set → Heard s g r i (Tell a b c other ∷ past) set
    step true true true e f k =
        let same : other ≡ set = cc k in
        record { read = e; may = ap (may_answer s g r i) (sym same) ∙ f; is = subst IsSet same told }
    step true true false e f k = absurd (cc k)
    step true false true e f k = absurd (cc k)
    step true false false e f k = absurd (cc k)
    step false true true e f k = absurd (cc k)
    step false true false e f k = absurd (cc k)
    step false false true e f k = absurd (cc k)
    step false false false e f k = absurd (cc k)

-- without any word of sets
pub passed : (s : Shape) (g r i : ℕ) (past : List Act) (set : List ℕ) → set_answered s g r i past ≡ Some set → (has_read s g r i past ≡ true) × (may_answer s g r i set ≡ true)
passed s g r i [] set h = absurd (cc h)
passed s g r i (act ∷ past) set h = step (set_answered s g r i past) refl h (passed s g r i past set)
  where
    more : (b : Bool) → has_read s g r i past ≡ true → (b || has_read s g r i past) ≡ true
    more b e = ap (λ z. b || z) e ∙ or-true b

    now : (a : Act) → set_heard s g r i past a ≡ Some set → (has_read s g r i (a ∷ past) ≡ true) × (may_answer s g r i set ≡ true)
    now (Read a b c) e = absurd (cc e)
    now (Tell a b c other) e = cases ((a == g) && (b == r) && (c == i)) (has_read s g r i past) (may_answer s g r i other) refl refl e
      where
        cases : (place read may : Bool) → has_read s g r i past ≡ read → may_answer s g r i other ≡ may → (if place && read && may then Some other else None) ≡ Some set
            → (has_read s g r i (Tell a b c other ∷ past) ≡ true) × (may_answer s g r i set ≡ true)
        cases true true true e f k = (e, ap (may_answer s g r i) (sym (cc k)) ∙ f)
        cases true true false e f k = absurd (cc k)
        cases true false true e f k = absurd (cc k)
        cases true false false e f k = absurd (cc k)
        cases false true true e f k = absurd (cc k)
        cases false true false e f k = absurd (cc k)
        cases false false true e f k = absurd (cc k)
        cases false false false e f k = absurd (cc k)

    step : (o : Option (List ℕ)) → set_answered s g r i past ≡ o → option_or o (set_heard s g r i past act) ≡ Some set
        → (set_answered s g r i past ≡ Some set → (has_read s g r i past ≡ true) × (may_answer s g r i set ≡ true)) → (has_read s g r i (act ∷ past) ≡ true) × (may_answer s g r i set ≡ true)
    step (Some kept) e f rest = let both = rest (e ∙ f) in (more (is_reading g r i act && s.present g r i) both.0, both.1)
    step None e f rest = now act f

pub heard : (s : Shape) (g r i : ℕ) (past : List Act) (set : List ℕ) → AllByRecursion TellsSet past → set_answered s g r i past ≡ Some set → Heard s g r i past set
heard s g r i [] set told h = absurd (cc h)
heard s g r i (act ∷ past) set told h = step (set_answered s g r i past) refl h (heard s g r i past set told.1)
  where
    step : (o : Option (List ℕ)) → set_answered s g r i past ≡ o → option_or o (set_heard s g r i past act) ≡ Some set
        → (set_answered s g r i past ≡ Some set → Heard s g r i past set) → Heard s g r i (act ∷ past) set
    step (Some kept) e f rest = heard-more s g r i act past set (rest (e ∙ f))
    step None e f rest = heard-now s g r i act past set told.0 f

pub present-read : (s : Shape) (g r i : ℕ) (past : List Act) → has_read s g r i past ≡ true → s.present g r i ≡ true
present-read s g r i [] h = absurd (false≢true h)
present-read s g r i (act ∷ past) h =
    ⊎_elim (λ now. (and_parts (is_reading g r i act) (s.present g r i) now).1) (λ before. present-read s g r i past before) (or_cases (is_reading g r i act && s.present g r i) (has_read s g r i past) h)

-- ---- the rule

pub record Rule (s : Shape) (g r i : ℕ) (set : List ℕ) : Type 0 where
  pub within : (k : ℕ) → is_member k set ≡ true → is_member k (members_of s g r) ≡ true
  pub itself : is_member i set ≡ false
  pub floor : floor_of s g ≤ length (members_of s g r) - length set

rule_cases : (s : Shape) (g r i : ℕ) (set : List ℕ) → may_answer s g r i set ≡ true
    → (is_within set (members_of s g r) ≡ true) × (is_member i set ≡ false) × (nat_lt (survivors (members_of s g r) set) (floor_of s g) ≡ false)
rule_cases s g r i set h =
    step (is_within set (members_of s g r)) (is_member i set) (nat_lt (survivors (members_of s g r) set) (floor_of s g)) refl refl refl OutOfPlan SelfMissing (Thin (survivors (members_of s g r) set)) h
  where
    step : (a b c : Bool) → is_within set (members_of s g r) ≡ a → is_member i set ≡ b → nat_lt (survivors (members_of s g r) set) (floor_of s g) ≡ c
        → (x y z : Why) → not (is_some (if not a then Some x else if b then Some y else if c then Some z else None)) ≡ true → (a ≡ true) × (b ≡ false) × (c ≡ false)
    step true false false e f k x y z n = (refl, refl, refl)
    step false b c e f k x y z n = absurd (false≢true n)
    step true true c e f k x y z n = absurd (false≢true n)
    step true false true e f k x y z n = absurd (false≢true n)

none-outside : (set ms : List ℕ) → (length (less set ms) == 0) ≡ true → (k : ℕ) → is_member k set ≡ true → is_member k ms ≡ true
none-outside set ms none k within = step (is_member k ms) refl
  where
    long : (xs : List ℕ) → is_member k xs ≡ true → length xs ≡ 0 → ⊥
    long [] h e = false≢true h
    long (x ∷ xs) h e = omega (arith, e)

    step : (b : Bool) → is_member k ms ≡ b → b ≡ true
    step true e = refl
    step false e =
        absurd (long (less set ms) (is_member-filter (λ j. not (is_member j ms)) k set ∙ and_from (is_member k set) (not (is_member k ms)) within (ap not e)) (eqb-true (length (less set ms)) 0 none))

pub rule : (s : Shape) (g r i : ℕ) (set : List ℕ) → may_answer s g r i set ≡ true → Rule s g r i set
rule s g r i set h =
    let parts = rule_cases s g r i set h in
    record {
      within = none-outside set (members_of s g r) parts.0;
      itself = parts.1;
      floor = not_lt (length (members_of s g r) - length set) (floor_of s g) parts.2;
    }
  where
    not_lt : (a b : ℕ) → nat_lt a b ≡ false → b ≤ a
    not_lt a b e = ⊎_elim (λ lt. absurd (both_ways (nat_lt a b) e (lt-ltb a b lt))) (λ ge. ge) (cases_lt a b)

-- ---- when it is told

pub told-set : (s : Shape) (g r i : ℕ) (set : List ℕ) (before : List Act) → does_answer s g r i set before ≡ true → set_answered s g r i (Tell g r i set ∷ before) ≡ Some set
told-set s g r i set before h = step (set_answered s g r i (Tell g r i set ∷ before)) refl h
  where
    step : (o : Option (List ℕ)) → set_answered s g r i (Tell g r i set ∷ before) ≡ o → is_set o set ≡ true → o ≡ Some set
    step None e f = absurd (false≢true f)
    step (Some kept) e f = ap Some ((bytes_eq-Decides kept set).0 f)

-- ---- sets

sets-after : (past rest : List Act) → AllByRecursion TellsSet past → AllByRecursion TellsSet rest → AllByRecursion TellsSet (after past rest)
unfolding after
sets-after past [] one two = one
sets-after past (act ∷ rest) one two = sets-after (act ∷ past) rest (two.0, one) two.1

pub sets-reversed : (acts : List Act) → All TellsSet acts → AllByRecursion TellsSet (after [] acts)
sets-reversed acts all = sets-after [] acts tt (recursion_from_All TellsSet acts all)
