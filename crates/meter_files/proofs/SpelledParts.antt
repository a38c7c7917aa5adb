-- The meter file that is spelled from the keys of a plan is read as what the meter has of them.
use Rattle.std.proofs.Common.{◌≡◌, ◌∙◌, ◌<◌, ◌≤◌, ◌+◌, ◌*◌, ◌^◌, ◌==◌, ◌&&◌, not, nat_lt, ℕ, zero, suc, Bool, true, false, List, [], ◌∷◌, ◌++◌, length, map, filter, replicate, Option, Some, None, Ok, refl, sym, ap, arith, subst, append-nil, codes, decimal, is_some, if◌then◌else◌}
use Rattle.std.specs.Prelude.{slice_get, sum_by, IsTrue}
use Rattle.std.specs.List.{find, flat_map, list_all, range_with_len}
use Rattle.std.specs.Option.{is_none, option_map}
use Rattle.std.proofs.Math.Nat.{mul-le-mul_left}
use Rattle.std.proofs.lemmas.Bool.{lt-ltb}
use Rattle.std.proofs.lemmas.Bool.Decides.{nat_tests}
use Rattle.std.proofs.lemmas.List.{length-replicate}
use Rattle.std.proofs.lemmas.List.FromFn.{get_or-map-range_with_len}
use Rattle.std.proofs.lemmas.List.Sums.{get_or-le-sum_by}
use Rattle.std.proofs.lemmas.Option.{get_or_from_slice_get, slice_get_within}
use Rattle.group_plan.specs.Names.{is_name}
use Rattle.group_plan.specs.NewPlans.{whole}
use Rattle.group_plan.specs.Plans.{Group, IsWithinLimits, PlanView, all_meters, floor_or, name_or, pairs, size, size_or, span_of, span_or}
use Rattle.group_plan.specs.Spans.{span_fault}
use Rattle.group_plan.specs.declared.plan.members.Span.{Span}
use Rattle.pair_keys.specs.Keys.{IsComplete, Keys}
use Rattle.pair_keys.specs.declared.KeyId.TheVariants.{Own as OwnKey, Pair as PairKey}
use Rattle.plan_files.specs.Gathering.{settled}
use Rattle.plan_files.specs.PlainRows.{file_text, is_plain, is_plain_row}
use Rattle.plan_files.specs.PlanFiles.{stated_plan}
use Rattle.plan_files.specs.Rows.{file_rows}
use Rattle.plan_files.specs.SpelledFiles.{AreKeysOf, IsKey}
use Rattle.plan_files.specs.Spelling.{is_partial, key_text, partial_spans, span_at}
use Rattle.plan_files.proofs.DistinctLemmas.{all_append, all_flat, both_true}
use Rattle.plan_files.proofs.PlainRowLemmas.{plain_rows}
use Rattle.plan_files.proofs.PlainTexts.{plain_decimal, plain_four, plain_hex, plain_name, plain_three, plain_two}
use Rattle.plan_files.proofs.SoundPlans.{sound}
use Rattle.plan_files.proofs.SpelledForms.{key_or}
use Rattle.plan_files.proofs.SpelledSpans.{plan_again, spans_right, start_of}
use Rattle.transcript_text.specs.Spelling as text
use Rattle.meter_files.specs.PartFiles.{Gathered, OwnerView, filled_in, gather, lacks, missing_pair, nothing, part_from, part_of, spans_of, stated_home, with_entries}
use Rattle.meter_files.specs.PartRows.{entry_in}
use Rattle.meter_files.specs.SpelledParts.{MeterFileIsRead, home_of, pair_at, pairs_at, part_at}
use Rattle.meter_files.specs.Spelling.{member_row, member_rows, member_rows_of, meter_rows, own_row, pair_of, pair_row, pair_rows, pair_rows_of, self_row, title_row}
use Rattle.meter_files.specs.declared.part_row.PartEntry.{PartEntry}
use Rattle.meter_files.specs.declared.part_row.PartEntry.TheVariants.{Own, Pair, Member}
use Rattle.meter_files.proofs.PartKeysPut.{find_none, kept_pair, members_give, own_gives, pair_entry, pairs_give, spans_back, spans_behind}
use Rattle.meter_files.proofs.PartRowsRead.{Says, head_read, home_by, home_fields, member_read, members_say, one_unless, own_read, pair_read, pairs_say, says_more}

-- ---- the plan of a group alone

one_of : (f : Group → ℕ) (groups : List Group) (g : ℕ) (x : Group) → slice_get groups g ≡ Some x → f x ≤ sum_by f groups
one_of f groups g x e = subst (λ y. f y ≤ sum_by f groups) (get_or_from_slice_get groups g x x e) (get_or-le-sum_by f groups g x (slice_get_within groups g x e))

home_limits : (plan : PlanView) (x : Group) (g : ℕ) → IsWithinLimits plan → slice_get plan.groups g ≡ Some x → IsWithinLimits (home_of plan x)
home_limits plan x g limits here = record {
  some_group = omega arith;
  groups = omega arith;
  names = names;
  names_differ = λ a b less last. absurd (omega (arith, less, last));
  two_meters = two_meters;
  meters = meters;
  floor_from = floor_from;
  floor_to = floor_to;
  span_from = span_from;
  span_to = span_to;
  some_round = limits.some_round;
  rounds = limits.rounds;
  w1_from = omega arith;
  w1_to = omega arith;
  w2_from = omega arith;
  w2_to = omega arith;
  readings = readings;
  pairs = let one = one_of (λ y. pairs (length y.spans)) plan.groups g x here in let all = limits.pairs in omega (arith, one, all);
}
  where
    inside : g < length plan.groups
    inside = slice_get_within plan.groups g x here

    names : (h : ℕ) → h < 1 → IsTrue (is_name (name_or (slice_get (x ∷ []) h)))
    names zero lt = subst (λ o. IsTrue (is_name (name_or o))) here (limits.names g inside)
    names (suc h) lt = absurd (omega (arith, lt))

    two_meters : (h : ℕ) → h < 1 → 2 ≤ size (x ∷ []) h
    two_meters zero lt = subst (λ o. 2 ≤ size_or o) here (limits.two_meters g inside)
    two_meters (suc h) lt = absurd (omega (arith, lt))

    meters : (h : ℕ) → size (x ∷ []) h ≤ 256
    meters zero = subst (λ o. size_or o ≤ 256) here (limits.meters g)
    meters (suc h) = omega arith

    floor_from : (h : ℕ) → h < 1 → 2 ≤ floor_or (slice_get (x ∷ []) h)
    floor_from zero lt = subst (λ o. 2 ≤ floor_or o) here (limits.floor_from g inside)
    floor_from (suc h) lt = absurd (omega (arith, lt))

    floor_to : (h : ℕ) → floor_or (slice_get (x ∷ []) h) ≤ size (x ∷ []) h
    floor_to zero = subst (λ o. floor_or o ≤ size_or o) here (limits.floor_to g)
    floor_to (suc h) = omega arith

    span_from : (h j : ℕ) → j < size (x ∷ []) h → (span_of (x ∷ []) h j).from < (span_of (x ∷ []) h j).until
    span_from zero j lt = subst (λ o. j < size_or o → (span_or o j).from < (span_or o j).until) here (limits.span_from g j) lt
    span_from (suc h) j lt = absurd (omega (arith, lt))

    span_to : (h j : ℕ) → j < size (x ∷ []) h → (span_of (x ∷ []) h j).until ≤ plan.rounds
    span_to zero j lt = subst (λ o. j < size_or o → (span_or o j).until ≤ plan.rounds) here (limits.span_to g j) lt
    span_to (suc h) j lt = absurd (omega (arith, lt))

    readings : plan.rounds * all_meters (x ∷ []) ≤ 131072
    readings =
        let e : 0 + length x.spans ≡ length x.spans = omega arith in
        let one = mul-le-mul_left plan.rounds (one_of (λ y. length y.spans) plan.groups g x here) in
        let all = limits.readings in
        let few : plan.rounds * length x.spans ≤ 131072 = omega (arith, one, all) in
        subst (λ m. plan.rounds * m ≤ 131072) (sym e) few

home_stated : (plan : PlanView) (x : Group) (g : ℕ) → IsWithinLimits (home_of plan x) → g ≤ 255
    → stated_home plan.rounds (home_by g x.name (length x.spans) x.floor) ≡ Ok (start_of (home_of plan x))
unfolding stated_home stated_plan
home_stated plan x g limits few =
    let small : nat_lt 255 g ≡ false = grind (arith, nat_tests, few) in
    rw (small, sound (home_of plan x) limits) refl

-- ---- the keys of pairs

pair_there : (keys : Keys) (g i j : ℕ) → IsComplete keys → (j == i) ≡ false → i < size keys.plan.groups g → j < size keys.plan.groups g → is_some (keys.key (pair_of g i j)) ≡ true
pair_there keys g i j complete other own within = by_test (nat_lt i j) refl
  where
    by_test : (t : Bool) → nat_lt i j ≡ t → is_some (keys.key (if t then PairKey g i j else PairKey g j i)) ≡ true
    by_test true e = complete (PairKey g i j) (both_true _ _ e (lt-ltb j (size keys.plan.groups g) within))
    by_test false e =
        let less : nat_lt j i ≡ true = grind (arith, nat_tests, e, other) in
        complete (PairKey g j i) (both_true _ _ less (lt-ltb i (size keys.plan.groups g) own))

some_pair : (j : ℕ) (key : Option (List ℕ)) → j < 2 ^ 32 → is_some key ≡ true → ((k : List ℕ) → key ≡ Some k → IsKey k) → entry_in (pair_row j key) ≡ Ok (Pair j (key_or key))
some_pair j None small there good = absurd cc
some_pair j (Some key) small there good = pair_read j key small (good key refl)

is_kept : (key : Option (List ℕ)) (t : Bool) → (t ≡ false → is_some key ≡ true) → (if t then None else Some (key_or key)) ≡ (if t then None else key)
is_kept key true there = refl
is_kept None false there = absurd (let h = there refl in cc)
is_kept (Some key) false there = refl

same_map : {X : Type 0} (f h : ℕ → X) (a k : ℕ) → ((j : ℕ) → j < a + k → f j ≡ h j) → map f (range_with_len a k) ≡ map h (range_with_len a k)
same_map f h a zero same = refl
same_map f h a (suc k) same =
    ap (λ y. y ∷ map f (range_with_len (a + 1) k)) (same a (omega arith)) ∙ ap (λ l. h a ∷ l) (same_map f h (a + 1) k (λ j lt. same j (omega (arith, lt))))

-- ---- one meter's file

abbrev the_key : Keys → (g i j : ℕ) → List ℕ
the_key keys g i j = key_or (keys.key (pair_of g i j))

abbrev the_spans : PlanView → List Span
the_spans home = filter (is_partial home) (map (span_at home 0) (range_with_len 0 (size home.groups 0)))

spans_are : (plan : PlanView) (x : Group) → partial_spans (home_of plan x) ≡ the_spans (home_of plan x)
unfolding partial_spans
spans_are plan x = ap (filter (is_partial (home_of plan x))) (append-nil (map (span_at (home_of plan x) 0) (range_with_len 0 (length x.spans))))

-- what the rows after the first four say
abbrev the_entries : Keys → Group → (g i : ℕ) → List ℕ → List PartEntry
the_entries keys x g i own = Own own ∷ (flat_map (one_unless (λ j. j == i) (pair_entry (the_key keys g i))) (range_with_len 0 (length x.spans)) ++ map Member (the_spans (home_of keys.plan x)))

abbrev entry_rows : Keys → Group → (g i : ℕ) → List ℕ → List (List (List ℕ))
entry_rows keys x g i own = own_row (Some own) ∷ (flat_map (pair_rows_of keys g i) (range_with_len 0 (length x.spans)) ++ flat_map (member_rows_of keys.plan g) (range_with_len 0 (length x.spans)))

abbrev the_rows : Keys → Group → (g i : ℕ) → List ℕ → List (List (List ℕ))
the_rows keys x g i own = title_row ∷ (codes "rounds" ∷ decimal keys.plan.rounds ∷ []) ∷ home_fields g x.name (length x.spans) x.floor ∷ self_row i ∷ entry_rows keys x g i own

rows_are : (keys : Keys) (x : Group) (g i : ℕ) (own : List ℕ) → slice_get keys.plan.groups g ≡ Some x → keys.key (OwnKey g i) ≡ Some own → meter_rows keys g i ≡ the_rows keys x g i own
unfolding meter_rows pair_rows member_rows
rows_are keys x g i own here is =
    let F : Option Group → Option (List ℕ) → List (List (List ℕ)) =
    λ o k. title_row ∷ (codes "rounds" ∷ decimal keys.plan.rounds ∷ []) ∷ home_fields g (name_or o) (size_or o) (floor_or o) ∷ self_row i
    ∷ own_row k ∷ (flat_map (pair_rows_of keys g i) (range_with_len 0 (size_or o)) ++ flat_map (member_rows_of keys.plan g) (range_with_len 0 (size_or o))) in
    ap (λ o. F o (keys.key (OwnKey g i))) here ∙ ap (F (Some x)) is

-- what is known of a meter's file
record IsPart (keys : Keys) (x : Group) (g i : ℕ) (own : List ℕ) : Type 0 where
  limits : IsWithinLimits keys.plan
  good : AreKeysOf keys.plan keys
  here : slice_get keys.plan.groups g ≡ Some x
  inside : i < length x.spans
  owned : keys.key (OwnKey g i) ≡ Some own

sized : (keys : Keys) (x : Group) (g i : ℕ) (own : List ℕ) → IsPart keys x g i own → size keys.plan.groups g ≡ length x.spans
sized keys x g i own is = ap size_or is.here

few_meters : (keys : Keys) (x : Group) (g i : ℕ) (own : List ℕ) → IsPart keys x g i own → length x.spans ≤ 256
few_meters keys x g i own is = subst (λ o. size_or o ≤ 256) is.here (is.limits.meters g)

pair_is : (keys : Keys) (x : Group) (g i : ℕ) (own : List ℕ) → IsPart keys x g i own → (j : ℕ) → (j == i) ≡ false → j < length x.spans → is_some (keys.key (pair_of g i j)) ≡ true
pair_is keys x g i own is j other lt =
    let n = sized keys x g i own is in
    let inside = is.inside in
    pair_there keys g i j is.good.complete other (omega (arith, n, inside)) (omega (arith, n, lt))

pairs_are : (keys : Keys) (x : Group) (g i : ℕ) (own : List ℕ) → IsPart keys x g i own
    → map (kept_pair (λ j. j == i) (the_key keys g i)) (range_with_len 0 (length x.spans)) ≡ pairs_at keys g i (length x.spans)
pairs_are keys x g i own is =
    same_map (kept_pair (λ j. j == i) (the_key keys g i)) (pair_at keys g i) 0 (length x.spans)
    (λ j lt. is_kept (keys.key (pair_of g i j)) (j == i) (λ other. pair_is keys x g i own is j other (omega (arith, lt))))

-- ---- its rows are read

entries_said : (keys : Keys) (x : Group) (g i : ℕ) (own : List ℕ) → IsPart keys x g i own → Says (entry_rows keys x g i own) (the_entries keys x g i own)
entries_said keys x g i own is =
    let plan = keys.plan in
    let home = home_of plan x in
    let few = few_meters keys x g i own is in
    let rounds = is.limits.rounds in
    says_more (own_row (Some own)) _ (Own own) _ (own_read own (is.good.each (OwnKey g i) own is.owned))
    (pairs_say (λ j. j == i) (λ j. pair_row j (keys.key (pair_of g i j))) (pair_entry (the_key keys g i)) _ _ 0 (length x.spans)
    (λ j other lt. some_pair j (keys.key (pair_of g i j)) (omega (arith, lt, few)) (pair_is keys x g i own is j other (omega (arith, lt))) (is.good.each (pair_of g i j)))
    (members_say (λ j. text.is_partial plan.rounds (text.span_at plan g j)) (λ j. member_row (text.span_at plan g j)) (is_partial home) (span_at home 0) 0 (length x.spans)
    (λ j. sym (ap (λ o. not (((span_or o j).from == 0) && ((span_or o j).until == plan.rounds))) is.here))
    (λ j lt.
    let n = sized keys x g i own is in
    let order = is.limits.span_from g j (omega (arith, lt, n)) in
    let last = is.limits.span_to g j (omega (arith, lt, n)) in
    member_read (text.span_at plan g j) (omega (arith, lt, few)) (omega (arith, order, last, rounds)) (omega (arith, last, rounds))
    ∙ ap (λ o. Ok (Member (record { group = 0; meter = j; from = (span_or o j).from; until = (span_or o j).until }))) is.here)))

-- ---- its keys and members are gathered

abbrev the_owner : Group → (g i : ℕ) → OwnerView
the_owner x g i = record { group = g; meter = i; meters = length x.spans }

none_lacks : (keys : Keys) (x : Group) (g i : ℕ) → missing_pair (the_owner x g i) (map (kept_pair (λ j. j == i) (the_key keys g i)) (range_with_len 0 (length x.spans))) ≡ None
none_lacks keys x g i =
    let kept = kept_pair (λ j. j == i) (the_key keys g i) in
    let n = length x.spans in
    let none : find (lacks (the_owner x g i) (map kept (range_with_len 0 n))) (range_with_len 0 n) ≡ None =
    find_none (lacks (the_owner x g i) (map kept (range_with_len 0 n))) 0 n
    (λ j lt. ap (λ o. not (j == i) && is_none o) (get_or-map-range_with_len kept 0 n j j None (omega (arith, lt)) (omega arith)) ∙ not_lacking (j == i) (the_key keys g i j)) in
    ap (option_map (pair_of g i)) none
  where
    not_lacking : (t : Bool) (key : List ℕ) → (not t && is_none (if t then None else Some key)) ≡ false
    not_lacking true key = refl
    not_lacking false key = refl

said : (keys : Keys) (x : Group) (g i : ℕ) (own : List ℕ) → IsPart keys x g i own
    → filled_in (home_of keys.plan x) (the_owner x g i) None (the_entries keys x g i own) ≡ Ok (part_at keys x g i own)
said keys x g i own is =
    let home = home_of keys.plan x in
    let owner = the_owner x g i in
    let kept = map (kept_pair (λ j. j == i) (the_key keys g i)) (range_with_len 0 (length x.spans)) in
    let put : Gathered = record { own = Some own; pairs = kept; members = 0 } in
    let members = members_give owner put (the_spans home) in
    let gathered : gather owner None 5 (nothing (length x.spans)) (the_entries keys x g i own) ≡ Ok (record put { members = members.0 }) =
    own_gives owner (replicate (length x.spans) None) own _ _
    (pairs_give owner (Some own) 0 (the_key keys g i) (map Member (the_spans home)) (Ok (record put { members = members.0 })) [] 0 (length x.spans) refl (omega arith) members.1) 5 in
    rw gathered (rw (none_lacks keys x g i) (ap (λ ps. Ok (record { home = home; group = g; meter = i; own = own; pairs = ps })) (pairs_are keys x g i own is)))

entries_kept : (keys : Keys) (x : Group) (g i : ℕ) (own : List ℕ) → IsPart keys x g i own
    → with_entries (start_of (home_of keys.plan x)) (the_owner x g i) (the_entries keys x g i own) ≡ Ok (part_at keys x g i own)
unfolding with_entries
entries_kept keys x g i own is =
    let home = home_of keys.plan x in
    let start = start_of home in
    let owner = the_owner x g i in
    let entries = the_entries keys x g i own in
    let right = spans_right home (home_limits keys.plan x g is.limits is.here) in
    let spans : spans_of entries ≡ partial_spans home =
    spans_behind (λ j. j == i) (the_key keys g i) (map Member (the_spans home)) 0 (length x.spans) ∙ spans_back (the_spans home) ∙ sym (spans_are keys.plan x) in
    rw (lt-ltb i (length x.spans) is.inside)
    (ap (λ (s : List Span). filled_in (settled start s) owner (span_fault start s) entries) spans
    ∙ rw right (ap (λ p. filled_in p owner None entries) (plan_again home) ∙ said keys x g i own is))

-- ---- the whole file

from_rows : (keys : Keys) (x : Group) (g i : ℕ) (own : List ℕ) → IsPart keys x g i own → part_from (the_rows keys x g i own) ≡ Ok (part_at keys x g i own)
unfolding part_from
from_rows keys x g i own is =
    let plan = keys.plan in
    let limits = is.limits in
    let within = slice_get_within plan.groups g x is.here in
    let groups = limits.groups in
    let rounds = limits.rounds in
    let few = few_meters keys x g i own is in
    let inside = is.inside in
    let named = subst (λ o. is_name (name_or o) ≡ true) is.here (limits.names g within) in
    let floor : x.floor ≤ length x.spans = subst (λ o. floor_or o ≤ size_or o) is.here (limits.floor_to g) in
    let head = head_read plan.rounds g x.name (length x.spans) x.floor i (entry_rows keys x g i own) (omega (arith, rounds)) (omega (arith, within, groups)) named (omega (arith, few)) (omega (arith, floor, few)) (omega (arith, inside, few)) in
    let stated_is = home_stated plan x g (home_limits plan x g limits is.here) (omega (arith, within, groups)) in
    rw (head, entries_said keys x g i own is 5, stated_is, length-replicate (length x.spans) (whole plan.rounds)) (entries_kept keys x g i own is)

-- ---- its text

digits : (key : Option (List ℕ)) → is_plain (key_text key) ≡ true
digits None = refl
digits (Some key) = plain_hex key

rows_plain : (keys : Keys) (x : Group) (g i : ℕ) (own : List ℕ) → IsPart keys x g i own → list_all is_plain_row (the_rows keys x g i own) ≡ true
rows_plain keys x g i own is =
    let plan = keys.plan in
    let limits = is.limits in
    let within = slice_get_within plan.groups g x is.here in
    let groups = limits.groups in
    let rounds = limits.rounds in
    let few = few_meters keys x g i own is in
    let inside = is.inside in
    let named = subst (λ o. is_name (name_or o) ≡ true) is.here (limits.names g within) in
    let floor : x.floor ≤ length x.spans = subst (λ o. floor_or o ≤ size_or o) is.here (limits.floor_to g) in
    let group : is_plain_row (home_fields g x.name (length x.spans) x.floor) ≡ true =
    both_true _ _ refl (both_true _ _ refl (both_true _ _ (plain_decimal g (omega (arith, within, groups))) (both_true _ _ (plain_name x.name named)
    (both_true _ _ (plain_decimal (length x.spans) (omega (arith, few))) (both_true _ _ (plain_decimal x.floor (omega (arith, floor, few))) refl))))) in
    both_true _ _ refl
    (both_true _ _ (plain_two (codes "rounds") (decimal plan.rounds) refl refl (plain_decimal plan.rounds (omega (arith, rounds))))
    (both_true _ _ group
    (both_true _ _ (plain_two (codes "self") (decimal i) refl refl (plain_decimal i (omega (arith, inside, few))))
    (both_true _ _ (plain_two (codes "own") (key_text (Some own)) refl refl (plain_hex own))
    (all_append is_plain_row (flat_map (pair_rows_of keys g i) (range_with_len 0 (length x.spans))) _
    (all_flat is_plain_row (pair_rows_of keys g i) 0 (length x.spans) (λ j from to. pair_plain (j == i) j (keys.key (pair_of g i j)) (omega (arith, to, few))))
    (all_flat is_plain_row (member_rows_of plan g) 0 (length x.spans) (λ j from to.
    let n = sized keys x g i own is in
    let order = limits.span_from g j (omega (arith, to, n)) in
    let last = limits.span_to g j (omega (arith, to, n)) in
    member_plain (text.is_partial plan.rounds (text.span_at plan g j)) (text.span_at plan g j) (omega (arith, to, few)) (omega (arith, order, last, rounds)) (omega (arith, last, rounds)))))))))
  where
    pair_plain : (t : Bool) (j : ℕ) (key : Option (List ℕ)) → j < 2 ^ 64 → list_all is_plain_row (if t then [] else pair_row j key ∷ []) ≡ true
    pair_plain true j key small = refl
    pair_plain false j key small = both_true _ _ (plain_three (codes "pair") (decimal j) (key_text key) refl refl (plain_decimal j small) (digits key)) refl

    member_plain : (t : Bool) (span : Span) → span.meter < 2 ^ 64 → span.from < 2 ^ 64 → span.until < 2 ^ 64 → list_all is_plain_row (if t then member_row span ∷ [] else []) ≡ true
    member_plain true span a b c =
        both_true _ _ (plain_four (codes "member") (decimal span.meter) (decimal span.from) (decimal span.until) refl refl (plain_decimal span.meter a) (plain_decimal span.from b) (plain_decimal span.until c)) refl
    member_plain false span a b c = refl

pub spelled_part : MeterFileIsRead
unfolding part_of
spelled_part keys x g i own limits good here inside owned =
    let is : IsPart keys x g i own = record { limits = limits; good = good; here = here; inside = inside; owned = owned } in
    ap (λ (r : List (List (List ℕ))). part_from (file_rows (file_text r))) (rows_are keys x g i own here owned)
    ∙ (ap part_from (plain_rows _ (rows_plain keys x g i own is)) ∙ from_rows keys x g i own is)
