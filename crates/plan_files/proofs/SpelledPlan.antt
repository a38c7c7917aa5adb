-- The plan file that is spelled from a value is read as this value.
use Rattle.std.proofs.Common.{◌≡◌, ◌∙◌, ◌<◌, ◌+◌, ◌^◌, ℕ, zero, suc, true, List, [], ◌∷◌, ◌++◌, length, map, drop, get_or, Option, Some, None, Ok, refl, sym, ap, arith, subst, append_assoc, codes, decimal}
use Rattle.std.proofs.lemmas.Bool.{and_parts}
use Rattle.std.proofs.lemmas.Bool.Decides.{nat_tests}
use Rattle.std.proofs.lemmas.List.{length-map}
use Rattle.std.proofs.lemmas.List.Elements.{All-head, All-tail}
use Rattle.std.proofs.lemmas.Option.{slice_get-get_or}
use Rattle.std.specs.List.{All, list_all}
use Rattle.group_plan.specs.NewPlans.{stated}
use Rattle.group_plan.specs.Plans.{Group, IsWithinLimits, PlanView, floor_or, last_tick, name_or, size, size_or}
use Rattle.group_plan.specs.Spans.{span_fault}
use Rattle.group_plan.specs.declared.plan.members.Span.{Span}
use Rattle.group_plan.proofs.MeterNumbers.{group-lt}
use Rattle.link_lanes.specs.declared.row.LaneRow.{LaneRow}
use Rattle.pair_keys.specs.Ids.{is_key}
use Rattle.pair_keys.specs.Keys.{Keys}
use Rattle.pair_keys.specs.declared.KeyId.{KeyId}
use Rattle.pair_keys.specs.declared.KeyId.TheVariants.{Own, Pair}
use Rattle.plan_files.specs.Gathering.{Gathered, gather, nothing, settled, spans_of}
use Rattle.plan_files.specs.MissingKeys.{first_missing, plan_keys}
use Rattle.plan_files.specs.PlainRows.{file_text, is_plain, is_plain_row}
use Rattle.plan_files.specs.PlanFiles.{PlanFileView, completed, filled_in, opened_from, plan_from, plan_of, public_from, public_of, stated_plan, with_entries, with_members}
use Rattle.plan_files.specs.PlanForms.{after, entries_from}
use Rattle.plan_files.specs.PlanRows.{title}
use Rattle.plan_files.specs.Rows.{file_rows}
use Rattle.plan_files.specs.SpelledFiles.{AreInRows, IsLaneOf, IsPlanFile, PlanFileIsRead, PublicPlanIsRead, first_lane_row}
use Rattle.plan_files.specs.Spelling.{first_rows, group_fields, key_fields, key_rows, key_text, lane_fields, member_fields, partial_spans, plan_rows, public_rows}
use Rattle.plan_files.specs.declared.entry.PlanRow.{PlanRow}
use Rattle.plan_files.specs.declared.entry.PlanRow.TheVariants as entry
use Rattle.plan_files.specs.declared.form.PlanForm.{PlanForm}
use Rattle.plan_files.specs.declared.form.PlanForm.TheVariants.{Whole, Public}
use Rattle.plan_files.proofs.DistinctLemmas.{all_append, both_true}
use Rattle.plan_files.proofs.KeyOrder.{keys_only}
use Rattle.plan_files.proofs.MissingLemmas.{none_missing}
use Rattle.plan_files.proofs.PlainRowLemmas.{plain_rows}
use Rattle.plan_files.proofs.PlainTexts.{plain_decimal, plain_five, plain_four, plain_hex, plain_name, plain_three, plain_two}
use Rattle.plan_files.proofs.SoundPlans.{sound}
use Rattle.plan_files.proofs.SpelledForms.{AllCanSpell, AllSmall, IsReadable, SmallId, groups_read, head_by, head_read, is_other, key_entries, keys_read, lanes_read, members_read}
use Rattle.plan_files.proofs.SpelledKeys.{all_put, keys_again, lanes_gathered, members_gathered, plan_keys_gathered, spans_found, with_lanes}
use Rattle.plan_files.proofs.SpelledSpans.{plan_again, spans_right, spans_small, start_of}

-- ---- the numbers of a plan can be read

nothing_group : Group
nothing_group = record { name = []; floor = 0; spans = [] }

readable : (plan : PlanView) → IsWithinLimits plan → All IsReadable plan.groups
readable plan limits k d lt =
    let here = slice_get-get_or plan.groups k d lt in
    let named = limits.names k lt in
    let meters = limits.meters k in
    let floor = limits.floor_to k in
    let size_is : size plan.groups k ≡ length (get_or plan.groups k d).spans = ap size_or here in
    let floor_is = ap floor_or here in
    record {
      named = rw (ap name_or here) at named;
      meters = omega (arith, meters, size_is);
      few = omega (arith, floor, meters, floor_is);
    }

small_id : (plan : PlanView) → IsWithinLimits plan → (which : KeyId) → is_key plan which ≡ true → SmallId which
small_id plan limits (Own g i) is =
    let within : i < size plan.groups g = grind (arith, nat_tests, is) in
    let group = group-lt plan.groups g i within in
    let few = limits.groups in
    let meters = limits.meters g in
    (omega (arith, group, few), omega (arith, within, meters))
small_id plan limits (Pair g low high) is =
    let order : low < high = grind (arith, nat_tests, is) in
    let within : high < size plan.groups g = grind (arith, nat_tests, is) in
    let group = group-lt plan.groups g high within in
    let few = limits.groups in
    let meters = limits.meters g in
    (omega (arith, group, few), omega (arith, order, within, meters), omega (arith, within, meters))

can_spell : (file : PlanFileView) → IsPlanFile file → (ids : List KeyId) → list_all (is_key file.plan) ids ≡ true → AllCanSpell file.keys ids
can_spell file is [] inside = tt
can_spell file is (x ∷ xs) inside =
    let b = and_parts (is_key file.plan x) (list_all (is_key file.plan) xs) inside in
    (record { small = small_id file.plan is.limits x b.0; there = is.keys.complete x (subst (λ p. is_key p x ≡ true) (sym is.keys.of_plan) b.0) }, can_spell file is xs b.1)

few_ticks : (plan : PlanView) → IsWithinLimits plan → (lane : LaneRow) → IsLaneOf plan lane → lane.to < 2 ^ 32
few_ticks plan limits lane is =
    let last = is.last in
    let rounds = limits.rounds in
    let w1 = limits.w1_to in
    let w2 = limits.w2_to in
    omega (arith, last, rounds, w1, w2)

-- ---- the form of the rows

-- the rows after the groups
abbrev entry_rows : PlanFileView → List (List (List ℕ))
entry_rows file = key_rows file.plan file.keys ++ (map lane_fields file.lanes ++ map member_fields (partial_spans file.plan))

-- the entries that they say
abbrev entries : PlanFileView → List PlanRow
entries file = key_entries file.keys (plan_keys file.plan) ++ (map entry.Lane file.lanes ++ map entry.Member (partial_spans file.plan))

-- the rows, grouped to the right
rows_are : (file : PlanFileView) → plan_rows file ≡ first_rows Whole file.plan ++ (map group_fields file.plan.groups ++ entry_rows file)
unfolding plan_rows
rows_are file =
    let F = first_rows Whole file.plan in
    let G = map group_fields file.plan.groups in
    let K = key_rows file.plan file.keys in
    let L = map lane_fields file.lanes in
    let M = map member_fields (partial_spans file.plan) in
    append_assoc (F ++ G ++ K) L M ∙ (append_assoc (F ++ G) K (L ++ M) ∙ append_assoc F G (K ++ (L ++ M)))

key_other : (which : KeyId) (key : Option (List ℕ)) → is_other (key_fields which key) ≡ true
key_other (Own g i) key = refl
key_other (Pair g low high) key = refl

all_other : {X : Type 0} (f : X → List (List ℕ)) (xs : List X) → ((x : X) → is_other (f x) ≡ true) → list_all is_other (map f xs) ≡ true
all_other f [] h = refl
all_other f (x ∷ xs) h = both_true _ _ (h x) (all_other f xs h)

entries_other : (file : PlanFileView) → list_all is_other (entry_rows file) ≡ true
entries_other file =
    all_append is_other (key_rows file.plan file.keys) (map lane_fields file.lanes ++ map member_fields (partial_spans file.plan))
    (all_other (λ which. key_fields which (file.keys.key which)) (plan_keys file.plan) (λ which. key_other which (file.keys.key which)))
    (all_append is_other (map lane_fields file.lanes) (map member_fields (partial_spans file.plan)) (all_other lane_fields file.lanes (λ lane. refl)) (all_other member_fields (partial_spans file.plan) (λ span. refl)))

-- the row of the first key
abbrev first_key_row : PlanView → ℕ
first_key_row plan = 4 + length plan.groups

entries_said : (file : PlanFileView) → IsPlanFile file → AreInRows (first_lane_row file.plan) file.lanes → entries_from Whole (first_key_row file.plan) (entry_rows file) ≡ Ok (entries file)
entries_said file is rows =
    let plan = file.plan in
    let n = first_lane_row plan in
    let m = n + length file.lanes in
    keys_read file.keys is.keys.each (first_key_row plan) n (plan_keys plan) (map lane_fields file.lanes ++ map member_fields (partial_spans plan)) (can_spell file is (plan_keys plan) (keys_only plan)) refl
    ∙ ap (after (key_entries file.keys (plan_keys plan)))
    (lanes_read plan n m file.lanes (map member_fields (partial_spans plan)) (few_ticks plan is.limits) is.lanes rows refl
    ∙ ap (after (map entry.Lane file.lanes)) (members_read Whole m (partial_spans plan) (spans_small plan is.limits)))

-- ---- the plan, the keys and the lanes

plan_stated : (plan : PlanView) → IsWithinLimits plan → stated_plan (head_by plan) (map stated plan.groups) ≡ Ok (start_of plan)
unfolding stated_plan
plan_stated plan limits = rw (sound plan limits) refl

whole : (file : PlanFileView) → IsPlanFile file → (gathered : Gathered) → gathered.keys ≡ file.keys → gathered.lanes ≡ file.lanes → completed gathered ≡ Ok file
whole file is gathered keys lanes =
    let made : Keys → List LaneRow → PlanView → PlanFileView = λ k l p. record { plan = p; keys = k; lanes = l } in
    let none : first_missing gathered.keys ≡ None = ap first_missing keys ∙ none_missing file.keys is.keys.complete in
    rw none (ap (λ k. Ok (made k gathered.lanes k.plan)) keys ∙ (ap (λ l. Ok (made file.keys l file.keys.plan)) lanes ∙ ap (λ p. Ok (made file.keys file.lanes p)) is.keys.of_plan))

said : (file : PlanFileView) → IsPlanFile file → filled_in file.plan None (first_key_row file.plan) (entries file) ≡ Ok file
said file is =
    let plan = file.plan in
    let n = first_lane_row plan in
    let m = n + length file.lanes in
    let put = all_put file.keys plan in
    let hung : Gathered = record put { lanes = put.lanes ++ file.lanes } in
    let members = members_gathered (last_tick plan) m hung (partial_spans plan) in
    let gathered : gather (last_tick plan) None (first_key_row plan) (nothing plan) (entries file) ≡ Ok (record hung { members = members.0 }) =
    plan_keys_gathered (first_key_row plan) n plan file.keys (map entry.Lane file.lanes ++ map entry.Member (partial_spans plan)) refl
    ∙ (lanes_gathered plan n m put file.lanes (map entry.Member (partial_spans plan)) is.lanes refl ∙ members.1) in
    rw gathered (whole file is (record hung { members = members.0 }) (keys_again plan file.keys is.keys) (ap (λ l. l ++ file.lanes) (with_lanes file.keys (nothing plan) (plan_keys plan))))

entries_kept : (file : PlanFileView) → IsPlanFile file → with_entries (start_of file.plan) (first_key_row file.plan) (entries file) ≡ Ok file
unfolding with_entries
entries_kept file is =
    let plan = file.plan in
    let start = start_of plan in
    let spans = spans_found file.keys (plan_keys plan) file.lanes (partial_spans plan) in
    let right = spans_right plan is.limits in
    let at = first_key_row plan in
    ap (λ (s : List Span). filled_in (settled start s) (span_fault start s) at (entries file)) spans
    ∙ rw right (ap (λ p. filled_in p None at (entries file)) (plan_again plan) ∙ said file is)

-- ---- the whole file

behind : (n : ℕ) (xs ys : List (List (List ℕ))) → n ≡ length xs → drop n (xs ++ ys) ≡ ys
behind zero [] ys same = refl
behind (suc n) [] ys same = absurd (omega (arith, same))
behind zero (x ∷ xs) ys same = absurd (omega (arith, same))
behind (suc n) (x ∷ xs) ys same = behind n xs ys (omega (arith, same))

drop_three : (n : ℕ) (a b c : List (List ℕ)) (rest : List (List (List ℕ))) → drop (3 + n) (a ∷ b ∷ c ∷ rest) ≡ drop n rest
drop_three n a b c rest = let e : 3 + n ≡ suc (suc (suc n)) = omega arith in ap (λ k. drop k (a ∷ b ∷ c ∷ rest)) e

from_rows : (file : PlanFileView) → IsPlanFile file → AreInRows (first_lane_row file.plan) file.lanes
    → plan_from (first_rows Whole file.plan ++ (map group_fields file.plan.groups ++ entry_rows file)) ≡ Ok file
unfolding plan_from opened_from
from_rows file is rows =
    let plan = file.plan in
    let limits = is.limits in
    let G = map group_fields plan.groups in
    let rounds = limits.rounds in
    let w1 = limits.w1_to in
    let w2 = limits.w2_to in
    let long : length (map stated plan.groups) ≡ length plan.groups = length-map plan.groups stated in
    let head = head_read Whole plan (G ++ entry_rows file) (omega (arith, rounds)) (omega (arith, w1)) (omega (arith, w2)) in
    let groups = groups_read 4 plan.groups (entry_rows file) (readable plan limits) (entries_other file) in
    let rest : drop (3 + length (map stated plan.groups)) (first_rows Whole plan ++ (G ++ entry_rows file)) ≡ entry_rows file =
    drop_three (length (map stated plan.groups)) _ _ _ (G ++ entry_rows file) ∙ behind (length (map stated plan.groups)) G (entry_rows file) (long ∙ sym (length-map plan.groups group_fields)) in
    rw (head, groups, rest, long, entries_said file is rows, plan_stated plan limits) (entries_kept file is)

-- ---- its text

plain_keys : (file : PlanFileView) → IsPlanFile file → (ids : List KeyId) → AllCanSpell file.keys ids → list_all is_plain_row (map (λ which. key_fields which (file.keys.key which)) ids) ≡ true
plain_keys file is [] can = refl
plain_keys file is (x ∷ xs) can = both_true _ _ (one x (file.keys.key x) can.0.small) (plain_keys file is xs can.1)
  where
    digits : (key : Option (List ℕ)) → is_plain (key_text key) ≡ true
    digits None = refl
    digits (Some key) = plain_hex key

    one : (which : KeyId) (key : Option (List ℕ)) → SmallId which → is_plain_row (key_fields which key) ≡ true
    one (Own g i) key small = plain_four (codes "own") (decimal g) (decimal i) (key_text key) refl refl (plain_decimal g (omega (arith, small.0))) (plain_decimal i (omega (arith, small.1))) (digits key)
    one (Pair g low high) key small =
        plain_five (codes "pair") (decimal g) (decimal low) (decimal high) (key_text key) refl refl
        (plain_decimal g (omega (arith, small.0))) (plain_decimal low (omega (arith, small.1))) (plain_decimal high (omega (arith, small.2))) (digits key)

plain_groups : (groups : List Group) → All IsReadable groups → list_all is_plain_row (map group_fields groups) ≡ true
plain_groups [] good = refl
plain_groups (g ∷ gs) good =
    let first = All-head IsReadable g gs good in
    let meters = first.meters in
    let few = first.few in
    both_true _ _
    (plain_four (codes "group") g.name (decimal (length g.spans)) (decimal g.floor) refl refl (plain_name g.name first.named) (plain_decimal (length g.spans) (omega (arith, meters))) (plain_decimal g.floor (omega (arith, few))))
    (plain_groups gs (All-tail IsReadable g gs good))

plain_lanes : (plan : PlanView) → IsWithinLimits plan → (n : ℕ) (lanes : List LaneRow) → All (IsLaneOf plan) lanes → AreInRows n lanes → list_all is_plain_row (map lane_fields lanes) ≡ true
plain_lanes plan limits n [] good rows = refl
plain_lanes plan limits n (x ∷ xs) good rows =
    let first = All-head (IsLaneOf plan) x xs good in
    let to = few_ticks plan limits x first in
    let order = first.order in
    both_true _ _
    (plain_five (codes "lane") x.name x.arg (decimal x.from) (decimal x.to) refl refl (plain_name x.name first.name) rows.1 (plain_decimal x.from (omega (arith, to, order))) (plain_decimal x.to (omega (arith, to))))
    (plain_lanes plan limits (n + 1) xs (All-tail (IsLaneOf plan) x xs good) rows.2)

plain_members : (spans : List Span) → AllSmall spans → list_all is_plain_row (map member_fields spans) ≡ true
plain_members [] small = refl
plain_members (s ∷ ss) small =
    both_true _ _
    (plain_five (codes "member") (decimal s.group) (decimal s.meter) (decimal s.from) (decimal s.until) refl refl
    (plain_decimal s.group (omega (arith, small.0.0))) (plain_decimal s.meter (omega (arith, small.0.1))) (plain_decimal s.from (omega (arith, small.0.2))) (plain_decimal s.until (omega (arith, small.0.3))))
    (plain_members ss small.1)

plain_version : (form : PlanForm) → is_plain_row (title form ∷ codes "1" ∷ []) ≡ true
plain_version Whole = refl
plain_version Public = refl

plain_first : (form : PlanForm) (plan : PlanView) → IsWithinLimits plan → list_all is_plain_row (first_rows form plan) ≡ true
plain_first form plan limits =
    let rounds = limits.rounds in
    let w1 = limits.w1_to in
    let w2 = limits.w2_to in
    both_true _ _ (plain_version form)
    (both_true _ _ (plain_two (codes "rounds") (decimal plan.rounds) refl refl (plain_decimal plan.rounds (omega (arith, rounds))))
    (both_true _ _ (plain_three (codes "windows") (decimal plan.w1) (decimal plan.w2) refl refl (plain_decimal plan.w1 (omega (arith, w1))) (plain_decimal plan.w2 (omega (arith, w2)))) refl))

all_plain : (file : PlanFileView) → IsPlanFile file → AreInRows (first_lane_row file.plan) file.lanes
    → list_all is_plain_row (first_rows Whole file.plan ++ (map group_fields file.plan.groups ++ entry_rows file)) ≡ true
all_plain file is rows =
    let plan = file.plan in
    let M = map member_fields (partial_spans plan) in
    let L = map lane_fields file.lanes in
    let K = key_rows plan file.keys in
    let G = map group_fields plan.groups in
    all_append is_plain_row (first_rows Whole plan) (G ++ (K ++ (L ++ M))) (plain_first Whole plan is.limits)
    (all_append is_plain_row G (K ++ (L ++ M)) (plain_groups plan.groups (readable plan is.limits))
    (all_append is_plain_row K (L ++ M) (plain_keys file is (plan_keys plan) (can_spell file is (plan_keys plan) (keys_only plan)))
    (all_append is_plain_row L M (plain_lanes plan is.limits (first_lane_row plan) file.lanes is.lanes rows) (plain_members (partial_spans plan) (spans_small plan is.limits)))))

pub spelled_plan : PlanFileIsRead
unfolding plan_of
spelled_plan file is rows =
    let same = rows_are file in
    ap (λ (r : List (List (List ℕ))). plan_from (file_rows (file_text r))) same
    ∙ (ap plan_from (plain_rows _ (all_plain file is rows)) ∙ from_rows file is rows)

-- ---- the public plan

-- the spans of members' rows are those of the rows
spans_back : (spans : List Span) → spans_of (map entry.Member spans) ≡ spans
spans_back [] = refl
spans_back (s ∷ ss) = ap (λ (more : List Span). s ∷ more) (spans_back ss)

members_kept : (plan : PlanView) → IsWithinLimits plan → (n : ℕ) → with_members (start_of plan) n (spans_of (map entry.Member (partial_spans plan))) ≡ Ok plan
unfolding with_members
members_kept plan limits n = rw (spans_back (partial_spans plan), spans_right plan limits) (ap Ok (plan_again plan))

public_said : (plan : PlanView) → IsWithinLimits plan → public_from (first_rows Public plan ++ (map group_fields plan.groups ++ map member_fields (partial_spans plan))) ≡ Ok plan
unfolding public_from opened_from
public_said plan limits =
    let G = map group_fields plan.groups in
    let M = map member_fields (partial_spans plan) in
    let rounds = limits.rounds in
    let w1 = limits.w1_to in
    let w2 = limits.w2_to in
    let long : length (map stated plan.groups) ≡ length plan.groups = length-map plan.groups stated in
    let head = head_read Public plan (G ++ M) (omega (arith, rounds)) (omega (arith, w1)) (omega (arith, w2)) in
    let groups = groups_read 4 plan.groups M (readable plan limits) (all_other member_fields (partial_spans plan) (λ span. refl)) in
    let rest : drop (3 + length (map stated plan.groups)) (first_rows Public plan ++ (G ++ M)) ≡ M =
    drop_three (length (map stated plan.groups)) _ _ _ (G ++ M) ∙ behind (length (map stated plan.groups)) G M (long ∙ sym (length-map plan.groups group_fields)) in
    rw (head, groups, rest, long, members_read Public (first_key_row plan) (partial_spans plan) (spans_small plan limits), plan_stated plan limits) (members_kept plan limits (first_key_row plan))

public_plain : (plan : PlanView) → IsWithinLimits plan → list_all is_plain_row (first_rows Public plan ++ (map group_fields plan.groups ++ map member_fields (partial_spans plan))) ≡ true
public_plain plan limits =
    let M = map member_fields (partial_spans plan) in
    let G = map group_fields plan.groups in
    all_append is_plain_row (first_rows Public plan) (G ++ M) (plain_first Public plan limits)
    (all_append is_plain_row G M (plain_groups plan.groups (readable plan limits)) (plain_members (partial_spans plan) (spans_small plan limits)))

pub spelled_public : PublicPlanIsRead
unfolding public_of public_rows
spelled_public plan limits = ap public_from (plain_rows _ (public_plain plan limits)) ∙ public_said plan limits
