-- The meters that a word names, one by one.
use Rattle.std.proofs.Common.{◌≡◌, ◌∙◌, ◌<◌, ◌≤◌, ◌≢◌, ℕ, ◌==◌, ◌&&◌, ◌||◌, not, Bool, true, false, cond, List, [], ◌∷◌, length, map, get_or, set, replicate, Option, Some, None, refl, sym, ap, arith, subst}
use Rattle.std.specs.Prelude.{is_some, codes, nat_lt}
use Rattle.std.specs.List.{list_all, join_with_byte}
use Rattle.std.specs.Char.{is_ascii_digit}
use Rattle.std.specs.Str.{bytes_eq}
use Rattle.std.proofs.lemmas.Bool.{false≢true, ltb-true, lt-ltb, eqb-true, eq-eqb}
use Rattle.std.proofs.lemmas.Bool.Decides.{nat_tests}
use Rattle.std.proofs.lemmas.List.{get_or-replicate, get_or_past, get_or_default, get_or-set_same, get_or-set_other, length-replicate, length-map}
use Rattle.std.proofs.lemmas.List.Splits.{join_with_byte-slice_split}
use Rattle.field_texts.specs.Numbers.{number_of, within, is_numeral}
use Rattle.field_texts.specs.Parts.{parts}
use Rattle.group_plan.specs.Plans.{Group, PlanView, size}
use Rattle.group_plan.specs.NewPlans.{stated}
use Rattle.group_plan.specs.declared.plan.GroupPlan.{GroupPlan}
use Rattle.group_plan.proofs.MeterNumbers.{group-lt}
use Rattle.missing_round.specs.Sets.{is_member, joined}
use Rattle.missing_round.proofs.SetLemmas.{is_member-joined}
use Rattle.command_words.specs.declared.known.KnownMeter.{KnownMeter}
use Rattle.command_words.specs.Known.{meter_by, meter_in, meter_of, comes_after, after_last, in_front, with_meter, ascending, known_of, or_nobody, known_in, IsKnown, is_this, is_known, is_in_plan, are_in_plan, is_in_set}
use Rattle.command_words.specs.KnownParts.{or_first, named_by}

-- ---- a meter

both : (a b : Bool) → (a && b) ≡ true → (a ≡ true) × (b ≡ true)
both true b h = (refl, h)
both false b h = absurd cc

-- digits have no point
digits-whole : (m : List ℕ) → list_all is_ascii_digit m ≡ true → parts 46 m ≡ m ∷ []
digits-whole [] h = refl
digits-whole (c ∷ cs) h =
    let here = both (is_ascii_digit c) (list_all is_ascii_digit cs) h in
    let digit = here.0 in
    let other : (c == 46) ≡ false = grind (arith, nat_tests, digit) in
    let rest = digits-whole cs here.1 in
    rw (other, rest) refl

numeral-digits : (m : List ℕ) → is_numeral m ≡ true → list_all is_ascii_digit m ≡ true
numeral-digits [] h = absurd cc
numeral-digits (c ∷ []) h = rw h refl
numeral-digits (c ∷ d ∷ cs) h = (both (not (c == 48)) (list_all is_ascii_digit (c ∷ d ∷ cs)) h).1

no-number : (m : List ℕ) → is_numeral m ≡ false → number_of m ≡ None
unfolding number_of
no-number m h = rw h refl

pub no-meter : (group : Option ℕ) → meter_by group None ≡ None
no-meter None = refl
no-meter (Some n) = refl

-- a text that is its one part
one-part : (m a : List ℕ) → parts 46 m ≡ a ∷ [] → a ≡ m
one-part m a is = sym (ap (join_with_byte 46) is) ∙ join_with_byte-slice_split 46 m

-- what is no number names no meter
refused-parts : (g m : List ℕ) (ps : List (List ℕ)) → parts 46 m ≡ ps → number_of m ≡ None → meter_in (g ∷ ps) ≡ None
refused-parts g m [] is none = refl
refused-parts g m (a ∷ []) is none =
    ap (λ n. meter_by (within 0 256 (number_of g)) (within 0 256 n)) (ap number_of (one-part m a is) ∙ none) ∙ no-meter (within 0 256 (number_of g))
refused-parts g m (a ∷ b ∷ cs) is none = refl

by-number : (g m : List ℕ) (n : Bool) → is_numeral m ≡ n → meter_in (g ∷ parts 46 m) ≡ meter_by (within 0 256 (number_of g)) (within 0 256 (number_of m))
by-number g m true numeral = ap (λ qs. meter_in (g ∷ qs)) (digits-whole m (numeral-digits m numeral))
by-number g m false other =
    let none = no-number m other in
    refused-parts g m (parts 46 m) refl none ∙ sym (no-meter (within 0 256 (number_of g))) ∙ sym (ap (λ n. meter_by (within 0 256 (number_of g)) (within 0 256 n)) none)

-- a text that is cut at its first point
pub meter-cut : (text g m : List ℕ) → parts 46 text ≡ g ∷ parts 46 m → meter_of text ≡ meter_by (within 0 256 (number_of g)) (within 0 256 (number_of m))
meter-cut text g m is = ap meter_in is ∙ by-number g m (is_numeral m) refl

pub meter-whole : (text : List ℕ) → parts 46 text ≡ text ∷ [] → meter_of text ≡ None
meter-whole text is = ap meter_in is

-- ---- all of them, where they ascend

in_front-some : (m : KnownMeter) (rest : Option (List KnownMeter)) → is_some (in_front m rest) ≡ is_some rest
in_front-some m None = refl
in_front-some m (Some ms) = refl

pub ascending-step : (last : Option KnownMeter) (text part after : List ℕ) (m : KnownMeter) → parts 43 text ≡ part ∷ parts 43 after → Some m ≡ after_last last (meter_of part)
    → is_some (ascending last (parts 43 text)) ≡ is_some (ascending (Some m) (parts 43 after))
unfolding ascending
ascending-step last text part after m is read =
    ap (λ ps. is_some (ascending last ps)) is ∙ ap (λ o. is_some (with_meter o (λ m. ascending (Some m) (parts 43 after)))) (sym read) ∙ in_front-some m (ascending (Some m) (parts 43 after))

pub ascending-bad : (last : Option KnownMeter) (text part after : List ℕ) → parts 43 text ≡ part ∷ parts 43 after → None ≡ after_last last (meter_of part)
    → is_some (ascending last (parts 43 text)) ≡ false
unfolding ascending
ascending-bad last text part after is read =
    ap (λ ps. is_some (ascending last ps)) is ∙ ap (λ o. is_some (with_meter o (λ m. ascending (Some m) (parts 43 after)))) (sym read)

with-last : (o : Option KnownMeter) → is_some (with_meter o (λ m. Some [])) ≡ is_some o
with-last None = refl
with-last (Some m) = refl

pub ascending-end : (last : Option KnownMeter) (text : List ℕ) → parts 43 text ≡ text ∷ [] → is_some (ascending last (parts 43 text)) ≡ is_some (after_last last (meter_of text))
unfolding ascending
ascending-end last text is = ap (λ ps. is_some (ascending last ps)) is ∙ with-last (after_last last (meter_of text))

pub known-ascends : (word : List ℕ) → bytes_eq word (codes "-") ≡ false → known_of word ≡ ascending None (parts 43 word)
unfolding known_of
known-ascends word other = ap (λ b. cond b (Some []) (ascending None (parts 43 word))) other

-- ---- as a list

-- each part names a meter
abbrev pub all-read : List (List ℕ) → Bool
all-read ps = list_all (λ p. is_some (meter_of p)) ps

abbrev pub all-named : List (List ℕ) → List KnownMeter
all-named ps = map named_by ps

after-read : (last o : Option KnownMeter) (m : KnownMeter) → after_last last o ≡ Some m → o ≡ Some m
after-read last None m h = absurd cc
after-read last (Some n) m h = by (comes_after last n) h
  where
    by : (b : Bool) → cond b (Some n) None ≡ Some m → Some n ≡ Some m
    by true h = h
    by false h = absurd cc

behind : (m : KnownMeter) (rest : Option (List KnownMeter)) (ms : List KnownMeter) → in_front m rest ≡ Some ms → (tail : List KnownMeter) × (rest ≡ Some tail) × (ms ≡ m ∷ tail)
behind m None ms h = absurd cc
behind m (Some tail) ms h = (tail, refl, cc)

some-named : (o : Option KnownMeter) (m : KnownMeter) → o ≡ Some m → (is_some o ≡ true) × (or_first o ≡ m)
some-named o m h = (ap is_some h, ap or_first h)

-- where the parts are read as meters that ascend, these are the named ones
abbrev AreNamed : List (List ℕ) → List KnownMeter → Type 0
AreNamed ps ms = (all-read ps ≡ true) × (ms ≡ all-named ps)

one-named : (last : Option KnownMeter) (p : List ℕ) (ps : List (List ℕ)) (ms : List KnownMeter) → ((m : KnownMeter) (tail : List KnownMeter) → ascending (Some m) ps ≡ Some tail → AreNamed ps tail)
    → (o : Option KnownMeter) → after_last last (meter_of p) ≡ o → with_meter o (λ m. ascending (Some m) ps) ≡ Some ms → AreNamed (p ∷ ps) ms
one-named last p ps ms later None is h = absurd cc
one-named last p ps ms later (Some m) is h =
    let split = behind m (ascending (Some m) ps) ms h in
    let rest = later m split.0 split.1 in
    let here = some-named (meter_of p) m (after-read last (meter_of p) m is) in (
      ap (λ b. b && all-read ps) here.0 ∙ rest.0,
      split.2 ∙ ap (λ n. n ∷ split.0) (sym here.1) ∙ ap (λ ns. named_by p ∷ ns) rest.1,
    )

ascending-named : (last : Option KnownMeter) (ps : List (List ℕ)) (ms : List KnownMeter) → ascending last ps ≡ Some ms → AreNamed ps ms
unfolding ascending
ascending-named last [] ms h = (refl, cc)
ascending-named last (p ∷ ps) ms h = one-named last p ps ms (λ m tail. ascending-named (Some m) ps tail) (after_last last (meter_of p)) refl h

pub known-named : (word : List ℕ) → IsKnown word → bytes_eq word (codes "-") ≡ false → (all-read (parts 43 word) ≡ true) × (known_in word ≡ all-named (parts 43 word))
known-named word is other = ascending-named None (parts 43 word) (known_in word) (sym (known-ascends word other) ∙ is)

pub nobody-named : (word : List ℕ) → bytes_eq word (codes "-") ≡ true → known_in word ≡ []
unfolding known_of
nobody-named word is = ap (λ b. or_nobody (cond b (Some []) (ascending None (parts 43 word)))) is

-- the meter of a part that names one
pub named-read : (text : List ℕ) → is_some (meter_of text) ≡ true → meter_of text ≡ Some (named_by text)
named-read text h = by (meter_of text) h
  where
    by : (o : Option KnownMeter) → is_some o ≡ true → o ≡ Some (or_first o)
    by None h = absurd cc
    by (Some m) h = refl

-- the first part, and those behind it
pub first-read : (text part after : List ℕ) → parts 43 text ≡ part ∷ parts 43 after → all-read (parts 43 text) ≡ true → (meter_of part ≡ Some (named_by part)) × (all-read (parts 43 after) ≡ true)
first-read text part after is all =
    let two = both (is_some (meter_of part)) (all-read (parts 43 after)) (sym (ap all-read is) ∙ all) in
    (named-read part two.0, two.1)

pub last-read : (text : List ℕ) → parts 43 text ≡ text ∷ [] → all-read (parts 43 text) ≡ true → meter_of text ≡ Some (named_by text)
last-read text is all = named-read text (both (is_some (meter_of text)) true (sym (ap all-read is) ∙ all)).0

-- ---- as sets

or-false : (b : Bool) → (b || false) ≡ b
or-false true = refl
or-false false = refl

no-sets-long : (n : ℕ) → length (replicate {A = List ℕ} n []) ≡ n
no-sets-long n = length-replicate n []

-- no set has anyone
pub nobody-in-set : (n g i : ℕ) → is_in_set (replicate n []) g i ≡ false
nobody-in-set n g i = ap (is_member i) (none (nat_lt g n) refl)
  where
    none : (b : Bool) → nat_lt g n ≡ b → get_or {A = List ℕ} (replicate n []) g [] ≡ []
    none true is = get_or-replicate n g [] [] (ltb-true g n is)
    none false is = get_or_past (replicate n []) g [] (let past : n ≤ g = grind (arith, nat_tests, is) in let long = no-sets-long n in omega (arith, past, long))

-- one set has a meter more
pub added : (sets : List (List ℕ)) (m : KnownMeter) (g i : ℕ) → m.group < length sets
    → is_in_set (set sets m.group (joined m.meter (get_or sets m.group []))) g i ≡ (is_this g i m || is_in_set sets g i)
added sets m g i there = by (m.group == g) refl
  where
    by : (b : Bool) → (m.group == g) ≡ b → is_in_set (set sets m.group (joined m.meter (get_or sets m.group []))) g i ≡ ((b && (m.meter == i)) || is_in_set sets g i)
    by true is =
        let same : m.group ≡ g = eqb-true m.group g is in
        subst (λ h. is_member i (get_or (set sets m.group (joined m.meter (get_or sets m.group []))) h []) ≡ ((m.meter == i) || is_member i (get_or sets h []))) same
        (ap (is_member i) (get_or-set_same sets m.group (joined m.meter (get_or sets m.group [])) [] there) ∙ is_member-joined i m.meter (get_or sets m.group []))
    by false is =
        let other : g ≢ m.group = λ same. false≢true (sym is ∙ eq-eqb m.group g (sym same)) in
        ap (is_member i) (get_or-set_other sets m.group g (joined m.meter (get_or sets m.group [])) [] other)

-- the named meters of the first part and of those behind it
named-step : (text part after : List ℕ) → parts 43 text ≡ part ∷ parts 43 after → all-named (parts 43 text) ≡ named_by part ∷ all-named (parts 43 after)
named-step text part after is = ap all-named is

or-turn : (a b c : Bool) → (b || (a || c)) ≡ ((a || b) || c)
or-turn true true c = refl
or-turn true false c = refl
or-turn false b c = refl

-- the sets and the meters that are left have all meters
pub sets-step : (sets new : List (List ℕ)) (text part after : List ℕ) (g i : ℕ) → parts 43 text ≡ part ∷ parts 43 after
    → is_in_set new g i ≡ (is_this g i (named_by part) || is_in_set sets g i)
    → (is_known (all-named (parts 43 after)) g i || is_in_set new g i) ≡ (is_known (all-named (parts 43 text)) g i || is_in_set sets g i)
sets-step sets new text part after g i is adds =
    ap (λ b. is_known (all-named (parts 43 after)) g i || b) adds
    ∙ or-turn (is_this g i (named_by part)) (is_known (all-named (parts 43 after)) g i) (is_in_set sets g i)
    ∙ sym (ap (λ ns. is_known ns g i || is_in_set sets g i) (named-step text part after is))

pub sets-end : (sets new : List (List ℕ)) (text : List ℕ) (g i : ℕ) → parts 43 text ≡ text ∷ []
    → is_in_set new g i ≡ (is_this g i (named_by text) || is_in_set sets g i) → is_in_set new g i ≡ (is_known (all-named (parts 43 text)) g i || is_in_set sets g i)
sets-end sets new text g i is adds =
    adds ∙ sym (ap (λ b. b || is_in_set sets g i) (ap (λ ps. is_known (all-named ps) g i) is ∙ or-false (is_this g i (named_by text))))

pub plan-step : (plan : PlanView) (text part after : List ℕ) → parts 43 text ≡ part ∷ parts 43 after → is_in_plan plan (named_by part) ≡ true
    → are_in_plan plan (all-named (parts 43 after)) ≡ are_in_plan plan (all-named (parts 43 text))
plan-step plan text part after is has = sym (ap (λ ps. are_in_plan plan (all-named ps)) is ∙ ap (λ b. b && are_in_plan plan (all-named (parts 43 after))) has)

pub plan-bad : (plan : PlanView) (text part after : List ℕ) → parts 43 text ≡ part ∷ parts 43 after → is_in_plan plan (named_by part) ≡ false
    → are_in_plan plan (all-named (parts 43 text)) ≡ false
plan-bad plan text part after is hasnt = ap (λ ps. are_in_plan plan (all-named ps)) is ∙ ap (λ b. b && are_in_plan plan (all-named (parts 43 after))) hasnt

and-true : (b : Bool) → (b && true) ≡ b
and-true true = refl
and-true false = refl

pub plan-end : (plan : PlanView) (text : List ℕ) → parts 43 text ≡ text ∷ [] → are_in_plan plan (all-named (parts 43 text)) ≡ is_in_plan plan (named_by text)
plan-end plan text is = ap (λ ps. are_in_plan plan (all-named ps)) is ∙ and-true (is_in_plan plan (named_by text))

-- the meter that a text names is in the plan, and its set has it
pub adds : (plan : PlanView) (sets : List (List ℕ)) (text : List ℕ) (m : KnownMeter) (number meters : ℕ) (was own : List ℕ) → Some m ≡ meter_of text → length sets ≡ length plan.groups
    → meters ≡ size plan.groups m.group → number ≡ m.meter → number < meters → was ≡ get_or sets m.group was → own ≡ joined m.meter was
    → (is_in_plan plan (named_by text) ≡ true) × ((g i : ℕ) → is_in_set (set sets m.group own) g i ≡ (is_this g i (named_by text) || is_in_set sets g i))
adds plan sets text m number meters was own read long meters_are number_is few was_is own_is =
    let same : named_by text ≡ m = sym (ap or_first read) in
    let below : m.meter < size plan.groups m.group = omega (arith, meters_are, number_is, few) in
    let there : m.group < length sets = let lt = group-lt plan.groups m.group m.meter below in omega (arith, lt, long) in
    let now_is : own ≡ joined m.meter (get_or sets m.group []) = own_is ∙ ap (joined m.meter) (was_is ∙ get_or_default sets m.group was [] there) in (
      ap (is_in_plan plan) same ∙ lt-ltb m.meter (size plan.groups m.group) below,
      λ g i. ap (λ x. is_in_set (set sets m.group x) g i) now_is ∙ added sets m g i there ∙ ap (λ n. is_this g i n || is_in_set sets g i) (sym same),
    )

-- a set for each group
pub sets-long : (items : List (List ℕ)) (n : ℕ) (groups : List Group) (stated_are : List GroupPlan) → items ≡ replicate n [] → n ≡ length stated_are → stated_are ≡ map stated groups → length items ≡ length groups
sets-long items n groups stated_are items_are n_is are =
    ap length items_are ∙ no-sets-long n ∙ n_is ∙ ap length are ∙ length-map groups stated

-- before the first part
pub sets-init : (word : List ℕ) (items : List (List ℕ)) (n g i : ℕ) → IsKnown word → bytes_eq word (codes "-") ≡ false → items ≡ replicate n []
    → (is_known (all-named (parts 43 word)) g i || is_in_set items g i) ≡ is_known (known_in word) g i
sets-init word items n g i is other items_are =
    ap (λ b. is_known (all-named (parts 43 word)) g i || b) (ap (λ sets. is_in_set sets g i) items_are ∙ nobody-in-set n g i)
    ∙ or-false (is_known (all-named (parts 43 word)) g i) ∙ sym (ap (λ known. is_known known g i) (known-named word is other).1)

-- nobody
pub sets-nobody : (plan : PlanView) (word : List ℕ) (items : List (List ℕ)) (n : ℕ) → bytes_eq word (codes "-") ≡ true → items ≡ replicate n []
    → (are_in_plan plan (known_in word) ≡ true) × ((g i : ℕ) → is_in_set items g i ≡ is_known (known_in word) g i)
sets-nobody plan word items n is items_are =
    let none = nobody-named word is in (
      ap (are_in_plan plan) none,
      λ g i. ap (λ sets. is_in_set sets g i) items_are ∙ nobody-in-set n g i ∙ sym (ap (λ known. is_known known g i) none),
    )
