-- The spans that a head states are those of the plan that is made of them.
use Rattle.std.proofs.Common.{◌≡◌, ◌∙◌, ◌<◌, ◌≤◌, ◌+◌, ◌==◌, ◌&&◌, ◌||◌, nat_lt, nat_le, ℕ, zero, suc, Bool, true, false, cond, List, [], ◌∷◌, ◌++◌, length, map, filter, refl, sym, ap, arith, Option, Some, None, subst}
use Rattle.std.specs.List.{flat_map, range_with_len}
use Rattle.std.proofs.lemmas.Bool.Decides.{nat_tests}
use Rattle.group_plan.specs.declared.plan.GroupPlan.{GroupPlan}
use Rattle.group_plan.specs.declared.plan.members.Span.{Span}
use Rattle.group_plan.specs.Plans.{PlanView, Rounds, size, span_of}
use Rattle.group_plan.specs.NewPlans.{group_of, plan_of, whole}
use Rattle.group_plan.specs.Spans.{is_of, rounds_given, rounds_of, with_spans}
use Rattle.group_plan.proofs.WithSpans.{length-with, size-with, span-with}
use Rattle.transcript_text.specs.Spelling.{is_partial, span_at, spans_below, stated_spans}
use Rattle.transcript_text.specs.Heads.{AreStated, meters_at}
use Rattle.transcript_text.proofs.Choices.{test_of}
use Rattle.transcript_text.proofs.SpanFaults.{fitting, size_planned}

-- whether a span is at a place or after it, by group and then by meter
abbrev from_place : ℕ → ℕ → Span → Bool
from_place g i s = nat_lt g s.group || ((g == s.group) && nat_le i s.meter)

-- spans that aren't all of the rounds, from a place on, in order
abbrev From : ℕ → ℕ → ℕ → List Span → Type 0
From rounds g i [] = Unit {0}
From rounds g i (s ∷ ss) = (from_place g i s ≡ true) × (is_partial rounds s ≡ true) × From rounds s.group (s.meter + 1) ss

-- whether a place is at another or after it
abbrev at_or_after : ℕ → ℕ → ℕ → ℕ → Bool
at_or_after g i a b = nat_lt g a || ((g == a) && nat_le i b)

-- the rounds of places from one on are those that the spans give
abbrev Agrees : ℕ → (ℕ → ℕ → Rounds) → ℕ → ℕ → List Span → Type 0
Agrees rounds f g i ss = (a b : ℕ) → at_or_after g i a b ≡ true → f a b ≡ rounds_given rounds ss a b

spot : (ℕ → ℕ → Rounds) → ℕ → ℕ → Span
spot f g i = record { group = g; meter = i; from = (f g i).from; until = (f g i).until }

none_given : (rounds g i : ℕ) (ss : List Span) (h j : ℕ) → at_or_after h j g i ≡ false → From rounds h j ss → rounds_given rounds ss g i ≡ whole rounds
unfolding rounds_given
none_given rounds g i [] h j lt f = refl
none_given rounds g i (s ∷ ss) h j lt f =
    let no : is_of g i s ≡ false = grind (arith, nat_tests, lt, f.0) in
    let later : at_or_after s.group (s.meter + 1) g i ≡ false = grind (arith, nat_tests, lt, f.0) in
    rw no (none_given rounds g i ss s.group (s.meter + 1) later f.2)

pub given_first : (rounds g i : ℕ) (s : Span) (ss : List Span) → is_of g i s ≡ true → rounds_given rounds (s ∷ ss) g i ≡ rounds_of s
unfolding rounds_given
given_first rounds g i s ss t = rw t refl

pub given_next : (rounds g i : ℕ) (s : Span) (ss : List Span) → is_of g i s ≡ false → rounds_given rounds (s ∷ ss) g i ≡ rounds_given rounds ss g i
unfolding rounds_given
given_next rounds g i s ss t = rw t refl

given_none : (rounds g i : ℕ) → rounds_given rounds [] g i ≡ whole rounds
unfolding rounds_given
given_none rounds g i = refl

whole_span : (rounds : ℕ) (f : ℕ → ℕ → Rounds) (g i : ℕ) → f g i ≡ whole rounds → is_partial rounds (spot f g i) ≡ false
unfolding spot
whole_span rounds f g i h = rw h (let t : (rounds == rounds) ≡ true = grind (arith, nat_tests) in rw t refl)

spot_is : (f : ℕ → ℕ → Rounds) (g i : ℕ) (s : Span) → is_of g i s ≡ true → f g i ≡ rounds_of s → spot f g i ≡ s
unfolding spot
spot_is f g i s t h =
    let a : g ≡ s.group = grind (arith, nat_tests, t) in
    let b : i ≡ s.meter = grind (arith, nat_tests, t) in
    let made : ℕ → ℕ → Rounds → Span = λ g i r. record { group = g; meter = i; from = r.from; until = r.until } in
    ap (λ g'. made g' i (f g i)) a ∙ ap (λ i'. made s.group i' (f g i)) b ∙ ap (λ r. made s.group s.meter r) h

-- what is left of the spans after a group
record Row (rounds : ℕ) (f : ℕ → ℕ → Rounds) (g i k : ℕ) (ss : List Span) : Type 0 where
  mine : List Span
  others : List Span
  parted : ss ≡ mine ++ others
  stated : filter (is_partial rounds) (map (spot f g) (range_with_len i k)) ≡ mine
  from : From rounds (g + 1) 0 others
  agrees : Agrees rounds f (g + 1) 0 others

-- no span of a group is past its meters
abbrev Within : (ℕ → ℕ) → List Span → Type 0
Within meters [] = Unit {0}
Within meters (s ∷ ss) = (s.meter < meters s.group) × Within meters ss

from_next : (rounds g i : ℕ) (ss : List Span) (meters : ℕ → ℕ) → meters g ≡ i → Within meters ss → From rounds g i ss → From rounds (g + 1) 0 ss
from_next rounds g i [] meters m w f = tt
from_next rounds g i (s ∷ ss) meters m w f = (by_group (g == s.group) refl, f.1, f.2)
  where
    by_group : (b : Bool) → (g == s.group) ≡ b → from_place (g + 1) 0 s ≡ true
    by_group true t =
        let e : g ≡ s.group = grind (arith, nat_tests, t) in
        let lt : s.meter < meters g = subst (λ h. s.meter < meters h) (sym e) w.0 in
        let h = f.0 in
        absurd (grind (arith, nat_tests, lt, m, h, t))
    by_group false t = let h = f.0 in grind (arith, nat_tests, h, t)

filter_cons : (rounds : ℕ) (s : Span) (xs : List Span) (b : Bool) → is_partial rounds s ≡ b → filter (is_partial rounds) (s ∷ xs) ≡ cond b (s ∷ filter (is_partial rounds) xs) (filter (is_partial rounds) xs)
filter_cons rounds s xs b h = ap (λ q. cond q (s ∷ filter (is_partial rounds) xs) (filter (is_partial rounds) xs)) h

not_here : (s : Span) (g i a b : ℕ) → s.group ≡ g → s.meter ≡ i → at_or_after g (i + 1) a b ≡ true → is_of a b s ≡ false
not_here s g i a b gs is h = by_group (s.group == a) refl
  where
    by_group : (t : Bool) → (s.group == a) ≡ t → ((s.group == a) && (s.meter == b)) ≡ false
    by_group false t = rw t refl
    by_group true t =
        let same : g ≡ a = grind (arith, nat_tests, t, gs) in
        let le : i + 1 ≤ b = grind (arith, nat_tests, h, same) in
        let n : (s.meter == b) ≡ false = grind (arith, nat_tests, is, le) in
        rw (t, n) refl

weaker : (g i a b : ℕ) → at_or_after g (i + 1) a b ≡ true → at_or_after g i a b ≡ true
weaker g i a b h = by_less (nat_lt g a) h
  where
    by_less : (t : Bool) → (t || ((g == a) && nat_le (i + 1) b)) ≡ true → (t || ((g == a) && nat_le i b)) ≡ true
    by_less true h = refl
    by_less false h =
        let p = test_of (g == a) (nat_le (i + 1) b) h in
        let le : nat_le i b ≡ true = grind (arith, nat_tests, p.1) in
        rw (p.0, le) refl

here_or_after : (g i : ℕ) → at_or_after g i g i ≡ true
here_or_after g i = grind (arith, nat_tests)

not_after : (g i : ℕ) → at_or_after g (i + 1) g i ≡ false
not_after g i = grind (arith, nat_tests)

later : (s : Span) (g i : ℕ) → from_place g i s ≡ true → is_of g i s ≡ false → from_place g (i + 1) s ≡ true
later s g i h t = by_less (nat_lt g s.group) refl h
  where
    by_less : (b : Bool) → nat_lt g s.group ≡ b → (b || ((g == s.group) && nat_le i s.meter)) ≡ true → from_place g (i + 1) s ≡ true
    by_less true e h = rw e refl
    by_less false e h =
        let p = test_of (g == s.group) (nat_le i s.meter) h in
        let eq : (s.group == g) ≡ true = grind (arith, nat_tests, p.0) in
        let ne : (s.meter == i) ≡ false = rw eq at t in
        let le : nat_le (i + 1) s.meter ≡ true = grind (arith, nat_tests, p.1, ne) in
        rw (e, p.0, le) refl

row_walk : (rounds : ℕ) (f : ℕ → ℕ → Rounds) (meters : ℕ → ℕ) (g i k : ℕ) (ss : List Span) → i + k ≡ meters g → Within meters ss → From rounds g i ss → Agrees rounds f g i ss → Row rounds f g i k ss
row_walk rounds f meters g i zero ss m w from agrees = record {
  mine = [];
  others = ss;
  parted = refl;
  stated = refl;
  from = from_next rounds g i ss meters (omega (arith, m)) w from;
  agrees = λ a b h. agrees a b (grind (arith, nat_tests, h));
}
row_walk rounds f meters g i (suc k) [] m w from agrees =
    let here : f g i ≡ whole rounds = agrees g i (here_or_after g i) ∙ given_none rounds g i in
    let rest = row_walk rounds f meters g (i + 1) k [] (omega (arith, m)) tt tt (λ a b h. agrees a b (weaker g i a b h)) in
    record {
      mine = rest.mine;
      others = rest.others;
      parted = rest.parted;
      stated = filter_cons rounds (spot f g i) (map (spot f g) (range_with_len (i + 1) k)) false (whole_span rounds f g i here) ∙ rest.stated;
      from = rest.from;
      agrees = rest.agrees;
    }
row_walk rounds f meters g i (suc k) (s ∷ ss) m w from agrees =
    by_span (is_of g i s) refl
    (λ fr ag. row_walk rounds f meters g (i + 1) k ss (omega (arith, m)) w.1 fr ag)
    (λ fr ag. row_walk rounds f meters g (i + 1) k (s ∷ ss) (omega (arith, m)) w fr ag)
  where
    by_span : (b : Bool) → is_of g i s ≡ b → (From rounds g (i + 1) ss → Agrees rounds f g (i + 1) ss → Row rounds f g (i + 1) k ss)
        → (From rounds g (i + 1) (s ∷ ss) → Agrees rounds f g (i + 1) (s ∷ ss) → Row rounds f g (i + 1) k (s ∷ ss)) → Row rounds f g i (suc k) (s ∷ ss)
    by_span true t taken left =
        let here : f g i ≡ rounds_of s = agrees g i (here_or_after g i) ∙ given_first rounds g i s ss t in
        let same : spot f g i ≡ s = spot_is f g i s t here in
        let gs : s.group ≡ g = grind (arith, nat_tests, t) in
        let is : s.meter ≡ i = grind (arith, nat_tests, t) in
        let next : From rounds g (i + 1) ss = subst (λ x. From rounds x (i + 1) ss) gs (subst (λ x. From rounds s.group (x + 1) ss) is from.2) in
        let rest = taken next (λ a b h. agrees a b (weaker g i a b h) ∙ given_next rounds a b s ss (not_here s g i a b gs is h)) in
        record {
          mine = s ∷ rest.mine;
          others = rest.others;
          parted = ap (λ q. s ∷ q) rest.parted;
          stated = filter_cons rounds (spot f g i) (map (spot f g) (range_with_len (i + 1) k)) true (ap (is_partial rounds) same ∙ from.1)
              ∙ ap (λ q. q ∷ filter (is_partial rounds) (map (spot f g) (range_with_len (i + 1) k))) same ∙ ap (λ q. s ∷ q) rest.stated;
          from = rest.from;
          agrees = rest.agrees;
        }
    by_span false t taken left =
        let h = from.0 in
        let next : From rounds g (i + 1) (s ∷ ss) = (later s g i h t, from.1, from.2) in
        let here : f g i ≡ whole rounds = agrees g i (here_or_after g i) ∙ none_given rounds g i (s ∷ ss) g (i + 1) (not_after g i) next in
        let rest = left next (λ a b h. agrees a b (weaker g i a b h)) in
        record {
          mine = rest.mine;
          others = rest.others;
          parted = rest.parted;
          stated = filter_cons rounds (spot f g i) (map (spot f g) (range_with_len (i + 1) k)) false (whole_span rounds f g i here) ∙ rest.stated;
          from = rest.from;
          agrees = rest.agrees;
        }

within_parts : (meters : ℕ → ℕ) (xs ys : List Span) → Within meters (xs ++ ys) → Within meters ys
within_parts meters [] ys w = w
within_parts meters (x ∷ xs) ys w = within_parts meters xs ys w.1

none_past : (meters : ℕ → ℕ) (rounds g : ℕ) (ss : List Span) → ((h : ℕ) → g ≤ h → meters h ≡ 0) → Within meters ss → From rounds g 0 ss → ss ≡ []
none_past meters rounds g [] z w f = refl
none_past meters rounds g (s ∷ ss) z w f =
    let h = f.0 in
    let le : g ≤ s.group = grind (arith, nat_tests, h) in
    let none = z s.group le in
    let lt = w.0 in
    absurd (omega (arith, none, lt))

-- the spans of all groups from g on
all_walk : (rounds : ℕ) (f : ℕ → ℕ → Rounds) (meters : ℕ → ℕ) (g n : ℕ) (ss : List Span) → ((h : ℕ) → g + n ≤ h → meters h ≡ 0) → Within meters ss → From rounds g 0 ss → Agrees rounds f g 0 ss
    → flat_map (λ h. filter (is_partial rounds) (map (spot f h) (range_with_len 0 (meters h)))) (range_with_len g n) ≡ ss
all_walk rounds f meters g zero ss z w from agrees = sym (none_past meters rounds g ss (λ h le. z h (omega (arith, le))) w from)
all_walk rounds f meters g (suc n) ss z w from agrees =
    let row = row_walk rounds f meters g 0 (meters g) ss (omega arith) w from agrees in
    let others : Within meters row.others = within_parts meters row.mine row.others (subst (λ (q : List Span). Within meters q) row.parted w) in
    let rest = all_walk rounds f meters (g + 1) n row.others (λ h le. z h (omega (arith, le))) others row.from row.agrees in
    ap (λ q. q ++ flat_map (λ h. filter (is_partial rounds) (map (spot f h) (range_with_len 0 (meters h)))) (range_with_len (g + 1) n)) row.stated
    ∙ ap (λ q. row.mine ++ q) rest ∙ sym row.parted

-- ---- the spans of a head

stated_from_last : (rounds : ℕ) (groups : List GroupPlan) (last : Span) (ss : List Span) → AreStated rounds groups (Some last) ss → From rounds last.group (last.meter + 1) ss
stated_from_last rounds groups last [] a = tt
stated_from_last rounds groups last (s ∷ ss) a =
    let f = fitting rounds groups (Some last) s a.0 in
    let h = f.after in
    (grind (arith, nat_tests, h), f.partial, stated_from_last rounds groups s ss a.1)

stated_from : (rounds : ℕ) (groups : List GroupPlan) (ss : List Span) → AreStated rounds groups None ss → From rounds 0 0 ss
stated_from rounds groups [] a = tt
stated_from rounds groups (s ∷ ss) a =
    let f = fitting rounds groups None s a.0 in
    (grind (arith, nat_tests), f.partial, stated_from_last rounds groups s ss a.1)

stated_within : (rounds : ℕ) (groups : List GroupPlan) (last : Option Span) (ss : List Span) → AreStated rounds groups last ss → Within (meters_at groups) ss
stated_within rounds groups last [] a = tt
stated_within rounds groups last (s ∷ ss) a = let f = fitting rounds groups last s a.0 in (f.meter, stated_within rounds groups (Some s) ss a.1)

no_meters : (groups : List GroupPlan) (h : ℕ) → length groups ≤ h → meters_at groups h ≡ 0
no_meters [] h le = refl
no_meters (x ∷ xs) zero le = absurd (omega arith)
no_meters (x ∷ xs) (suc h) le = no_meters xs h (omega (arith, le))

-- pointwise equal spans
same_row : (p q : ℕ → Span) (a n : ℕ) → ((i : ℕ) → a ≤ i → i < a + n → p i ≡ q i) → map p (range_with_len a n) ≡ map q (range_with_len a n)
same_row p q a zero h = refl
same_row p q a (suc n) h =
    ap (λ x. x ∷ map p (range_with_len (a + 1) n)) (h a (omega arith) (omega arith)) ∙ ap (λ xs. q a ∷ xs) (same_row p q (a + 1) n (λ i lo hi. h i (omega arith) (omega (arith, hi))))

same_rows : (p q : ℕ → List Span) (a n : ℕ) → ((g : ℕ) → p g ≡ q g) → flat_map p (range_with_len a n) ≡ flat_map q (range_with_len a n)
same_rows p q a zero h = refl
same_rows p q a (suc n) h = ap (λ x. x ++ flat_map p (range_with_len (a + 1) n)) (h a) ∙ ap (λ xs. q a ++ xs) (same_rows p q (a + 1) n h)

rows_of : (rounds : ℕ) (f : ℕ → ℕ → Rounds) (meters : ℕ → ℕ) (n : ℕ) → List Span
rows_of rounds f meters n = flat_map (λ h. filter (is_partial rounds) (map (spot f h) (range_with_len 0 (meters h)))) (range_with_len 0 n)

length-groups : (rounds : ℕ) (groups : List GroupPlan) → length (map (group_of rounds) groups) ≡ length groups
length-groups rounds [] = refl
length-groups rounds (x ∷ xs) = ap suc (length-groups rounds xs)

-- the plan that is made of spans states them
pub spans_stated : (groups : List GroupPlan) (rounds w1 w2 : ℕ) (ss : List Span) → AreStated rounds groups None ss → stated_spans (with_spans (plan_of groups rounds w1 w2) ss) ≡ ss
unfolding stated_spans spot
spans_stated groups rounds w1 w2 ss a =
    let plan : PlanView = plan_of groups rounds w1 w2 in
    let made : PlanView = with_spans plan ss in
    let meters : ℕ → ℕ = meters_at groups in
    let f : ℕ → ℕ → Rounds = λ g i. rounds_given rounds ss g i in
    let sizes : (g : ℕ) → size made.groups g ≡ meters g = λ g. size-with plan ss g ∙ size_planned rounds groups g in
    let count : length made.groups ≡ length groups = length-with plan ss ∙ length-groups rounds groups in
    let row : (g : ℕ) → spans_below made g (size made.groups g) ≡ filter (is_partial rounds) (map (spot f g) (range_with_len 0 (meters g))) =
    λ g. ap (filter (is_partial rounds)) (same_row (span_at made g) (spot f g) 0 (size made.groups g)
    (λ i lo hi. let s : span_of made.groups g i ≡ rounds_given rounds ss g i = span-with plan ss g i (let e = size-with plan ss g in omega (arith, hi, e)) in
    ap (λ (r : Rounds). record { group = g; meter = i; from = r.from; until = r.until }) s)
    ∙ ap (λ n. map (spot f g) (range_with_len 0 n)) (sizes g)) in
    same_rows (λ g. spans_below made g (size made.groups g)) (λ g. filter (is_partial rounds) (map (spot f g) (range_with_len 0 (meters g)))) 0 (length made.groups) row
    ∙ ap (λ n. flat_map (λ h. filter (is_partial rounds) (map (spot f h) (range_with_len 0 (meters h)))) (range_with_len 0 n)) count
    ∙ all_walk rounds f meters 0 (length groups) ss (λ h le. no_meters groups h (omega (arith, le))) (stated_within rounds groups None ss a) (stated_from rounds groups ss a) (λ a b h. refl)
