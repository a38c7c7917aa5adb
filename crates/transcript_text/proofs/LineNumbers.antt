-- The text of a transcript, cut into lines: those of the head, and those of its entries.
use Rattle.std.proofs.Common.{◌≡◌, ◌∙◌, ◌+◌, ◌-◌, ℕ, zero, suc, List, [], ◌∷◌, ◌++◌, length, length-append, map, refl, ap, arith, append_assoc, append-nil, add-zero, ◌<◌, ◌≤◌, Bool, true, false, cond, filter, Some}
use Rattle.std.specs.Prelude.{codes, slice_get, if◌then◌else◌, not, ◌&&◌, ◌==◌, nat_le, nat_lt}
use Rattle.std.specs.List.{flat_map, range_with_len}
use Rattle.std.proofs.lemmas.Bool.Decides.{nat_tests}
use Rattle.std.proofs.lemmas.List.Elements.{filter-append}
use Rattle.std.proofs.lemmas.List.{length-map}
use Rattle.std.proofs.lemmas.Grind.{flat_map-append}
use Rattle.std.proofs.lemmas.List.FromFn.{map-range_with_len_more}
use Rattle.group_plan.specs.declared.plan.GroupPlan.{GroupPlan}
use Rattle.group_plan.specs.declared.plan.members.Span.{Span}
use Rattle.group_plan.specs.NewPlans.{stated}
use Rattle.group_plan.specs.Plans.{PlanView, IsWithinLimits, holds, is_member, size, span_of}
use Rattle.group_plan.proofs.Kept.{is_member-or}
use Rattle.event_schedule.specs.declared.Entry.{Entry}
use Rattle.field_texts.specs.Parts.{parts}
use Rattle.transcript_text.specs.declared.version.Version.TheVariants.{Two}
use Rattle.transcript_text.specs.Spelling.{ended, entries_text, entry_text, group_fields, groups_text, head_text, is_partial, joined, member_fields, members_text, rounds_fields, span_at, spans_below, stated_spans, text_of, title, transcript_text, windows_fields}
use Rattle.transcript_text.specs.EntryLines.{head_lines, entry_line, EntriesHaveTheirLines}
use Rattle.transcript_text.proofs.CleanFields.{clean_fields, comma, newline}
use Rattle.transcript_text.proofs.EntryAgain.{IsSmall, small}
use Rattle.transcript_text.proofs.EntriesAgain.{cut_entry, follows}
use Rattle.transcript_text.specs.Ahead.{Follow}
use Rattle.transcript_text.proofs.EntriesBack.{text_cons}
use Rattle.transcript_text.proofs.HeadAgain.{AreHeadGroups, AreHeadSpans, cut_begin, cut_group, cut_member, cut_rounds, cut_title, cut_windows, groups_fit, head_flat, spans_fit}
use Rattle.event_schedule.proofs.RoundMembers.{range_last}
use Rattle.transcript_text.proofs.SpanAgain.{stated_fit}

-- ---- the lines of the head

-- some lines stand before the rest of a text
record Before (n : ℕ) (text rest : List ℕ) : Type 0 where
  lines : List (List ℕ)
  many : length lines ≡ n
  cut : parts 10 text ≡ lines ++ parts 10 rest

one_before : (n : ℕ) (line after text rest : List ℕ) → parts 10 text ≡ line ∷ parts 10 after → Before n after rest → Before (suc n) text rest
one_before n line after text rest cut more = record {
  lines = line ∷ more.lines;
  many = ap suc more.many;
  cut = cut ∙ ap (λ q. line ∷ q) more.cut;
}

groups_before : (gs : List GroupPlan) (n : ℕ) (after rest : List ℕ) → AreHeadGroups gs → Before n after rest → Before (length gs + n) (groups_text gs ++ after) rest
groups_before [] n after rest are more = record { lines = more.lines; many = more.many ∙ omega arith; cut = more.cut }
groups_before (g ∷ gs) n after rest are more =
    let cut = cut_group g are.0 in
    let tail = groups_before gs n after rest are.1 more in
    let line : List ℕ = joined (group_fields g) in
    let text : (ended line ++ groups_text gs) ++ after ≡ ended line ++ (groups_text gs ++ after) = append_assoc (ended line) (groups_text gs) after in
    let many : suc (length gs + n) ≡ length (g ∷ gs) + n = omega arith in
    let all = one_before (length gs + n) line (groups_text gs ++ after) ((ended line ++ groups_text gs) ++ after) rest (ap (parts 10) text ∙ cut.cut (groups_text gs ++ after)) tail in
    record { lines = all.lines; many = all.many ∙ many; cut = all.cut }

members_before : (ss : List Span) (n : ℕ) (after rest : List ℕ) → AreHeadSpans ss → Before n after rest → Before (length ss + n) (members_text ss ++ after) rest
members_before [] n after rest are more = record { lines = more.lines; many = more.many ∙ omega arith; cut = more.cut }
members_before (s ∷ ss) n after rest are more =
    let cut = cut_member s are.0 in
    let tail = members_before ss n after rest are.1 more in
    let line : List ℕ = joined (member_fields s) in
    let text : (ended line ++ members_text ss) ++ after ≡ ended line ++ (members_text ss ++ after) = append_assoc (ended line) (members_text ss) after in
    let many : suc (length ss + n) ≡ length (s ∷ ss) + n = omega arith in
    let all = one_before (length ss + n) line (members_text ss ++ after) ((ended line ++ members_text ss) ++ after) rest (ap (parts 10) text ∙ cut.cut (members_text ss ++ after)) tail in
    record { lines = all.lines; many = all.many ∙ many; cut = all.cut }

head_before : (plan : PlanView) → IsWithinLimits plan → (rest : List ℕ) → Before (head_lines plan) (head_text Two plan ++ rest) rest
unfolding head_text
head_before plan limits rest =
    let groups : List GroupPlan = map stated plan.groups in
    let spans : List Span = stated_spans plan in
    let begin : List ℕ = ended (codes "begin") ++ rest in
    let members : List ℕ = members_text spans ++ begin in
    let lines : List ℕ = groups_text groups ++ members in
    let third : List ℕ = ended (joined (windows_fields plan.w1 plan.w2)) ++ lines in
    let second : List ℕ = ended (joined (rounds_fields plan.rounds)) ++ third in
    let first : List ℕ = ended (title Two) ++ second in
    let flat : head_text Two plan ++ rest ≡ first = head_flat (ended (title Two)) (ended (joined (rounds_fields plan.rounds))) (ended (joined (windows_fields plan.w1 plan.w2))) (groups_text groups) (members_text spans) (ended (codes "begin")) rest in
    let few = limits.rounds in
    let short = limits.w1_to in
    let long = limits.w2_to in
    let end : Before 1 begin rest = record { lines = codes "begin" ∷ []; many = refl; cut = cut_begin.cut rest } in
    let from_members = members_before spans 1 begin rest (spans_fit plan limits _ spans (stated_fit plan limits)) end in
    let from_groups = groups_before groups (length spans + 1) members rest (groups_fit plan.groups limits.names limits.meters limits.floor_to) from_members in
    let n : ℕ = length groups + (length spans + 1) in
    let from_third = one_before n (joined (windows_fields plan.w1 plan.w2)) lines third rest ((cut_windows plan.w1 plan.w2 (omega (arith, short)) (omega (arith, long))).cut lines) from_groups in
    let from_second = one_before (suc n) (joined (rounds_fields plan.rounds)) third second rest ((cut_rounds plan.rounds (omega (arith, few))).cut third) from_third in
    let from_first = one_before (suc (suc n)) (title Two) second first rest ((cut_title Two).cut second) from_second in
    let groups_many : length groups ≡ length plan.groups = length-map plan.groups stated in
    record {
      lines = from_first.lines;
      many = from_first.many ∙ omega (arith, groups_many);
      cut = ap (parts 10) flat ∙ from_first.cut;
    }

-- ---- the lines of the entries

entry_at : (plan : PlanView) → IsSmall plan → (last count : ℕ) (es : List Entry) (k : ℕ) (e : Entry) → Follow plan last es → slice_get es k ≡ Some e
    → slice_get (parts 10 (entries_text Two count es)) k ≡ Some (entry_text Two e)
entry_at plan is last count [] k e f at = absurd cc
entry_at plan is last count (x ∷ xs) k e f at =
    let rest : List ℕ = entries_text Two (count + 1) xs in
    let cut = cut_entry Two x rest (clean_fields 44 comma Two plan is x f.1 f.2) (clean_fields 10 newline Two plan is x f.1 f.2) in
    ap (λ q. slice_get (parts 10 q) k) (text_cons Two count x xs) ∙ ap (λ q. slice_get q k) cut.0 ∙ by_place k (λ j. entry_at plan is x.tick (count + 1) xs j e f.3) at
  where
    by_place : (k : ℕ) → ((j : ℕ) → slice_get xs j ≡ Some e → slice_get (parts 10 (entries_text Two (count + 1) xs)) j ≡ Some (entry_text Two e))
        → slice_get (x ∷ xs) k ≡ Some e → slice_get (entry_text Two x ∷ parts 10 (entries_text Two (count + 1) xs)) k ≡ Some (entry_text Two e)
    by_place zero later at = let same : x ≡ e = cc in ap (λ (y : Entry). Some (entry_text Two y)) same
    by_place (suc k) later at = later k at

past_lines : (lines more : List (List ℕ)) (n k : ℕ) → length lines ≡ n → slice_get (lines ++ more) (n + k) ≡ slice_get more k
past_lines [] more zero k many = let z : 0 + k ≡ k = omega arith in ap (slice_get more) z
past_lines [] more (suc n) k many = absurd (omega (arith, many))
past_lines (x ∷ lines) more zero k many = absurd (omega (arith, many))
past_lines (x ∷ lines) more (suc n) k many =
    let next : suc n + k ≡ suc (n + k) = omega arith in
    ap (slice_get (x ∷ (lines ++ more))) next ∙ past_lines lines more n k (omega (arith, many))

pub entries_have_their_lines : EntriesHaveTheirLines
unfolding text_of
entries_have_their_lines t k e is at =
    let rest : List ℕ = entries_text Two 0 t.entries in
    let head = head_before t.plan is.plan.limits rest in
    let place : entry_line t.plan k - 1 ≡ head_lines t.plan + k = omega arith in
    ap (slice_get (parts 10 (transcript_text t))) place
    ∙ ap (λ q. slice_get q (head_lines t.plan + k)) head.cut
    ∙ past_lines head.lines (parts 10 rest) (head_lines t.plan) k head.many
    ∙ entry_at t.plan (small t.plan is.plan) 0 0 t.entries k e (follows t.plan 0 t.entries is.fit is.entries is.ticks) at

-- ---- how many spans are stated

-- a span isn't all of the rounds exactly where it lacks the first or the last
pub stated-is : (plan : PlanView) (g i last : ℕ) → IsWithinLimits plan → last + 1 ≡ plan.rounds → i < size plan.groups g
    → not (is_member plan.groups g 0 i && is_member plan.groups g last i) ≡ is_partial plan.rounds (span_at plan g i)
stated-is plan g i last limits end known =
    let some = limits.span_from g i known in
    let most = limits.span_to g i known in
    ap (λ b. not (b && is_member plan.groups g last i)) (is_member-or (slice_get plan.groups g) 0 i)
    ∙ ap (λ b. not (holds (span_of plan.groups g i) 0 && b)) (is_member-or (slice_get plan.groups g) last i)
    ∙ ap not (all_rounds (span_of plan.groups g i).from (span_of plan.groups g i).until last plan.rounds some most end)
  where
    all_rounds : (from until last rounds : ℕ) → from < until → until ≤ rounds → last + 1 ≡ rounds
        → ((nat_le from 0 && nat_lt 0 until) && (nat_le from last && nat_lt last until)) ≡ ((from == 0) && (until == rounds))
    all_rounds from until last rounds some most end = grind (arith, nat_tests, some, most, end)

-- the span of one meter more
spans_more : (plan : PlanView) (g i : ℕ) → length (spans_below plan g (i + 1)) ≡ length (spans_below plan g i) + (if is_partial plan.rounds (span_at plan g i) then 1 else 0)
spans_more plan g i =
    ap (λ q. length (filter (is_partial plan.rounds) q)) (map-range_with_len_more (span_at plan g) 0 i i (omega arith))
    ∙ ap length (filter-append (is_partial plan.rounds) (map (span_at plan g) (range_with_len 0 i)) (span_at plan g i ∷ []))
    ∙ length-append (spans_below plan g i) (filter (is_partial plan.rounds) (span_at plan g i ∷ []))
    ∙ ap (λ n. length (spans_below plan g i) + n) (by_test (is_partial plan.rounds (span_at plan g i)))
  where
    by_test : (b : Bool) → length (cond b (span_at plan g i ∷ []) []) ≡ (if b then 1 else 0)
    by_test true = refl
    by_test false = refl

pub one_stated : (plan : PlanView) (g i : ℕ) → is_partial plan.rounds (span_at plan g i) ≡ true → length (spans_below plan g (i + 1)) ≡ length (spans_below plan g i) + 1
one_stated plan g i is = spans_more plan g i ∙ ap (λ b. length (spans_below plan g i) + (if b then 1 else 0)) is

pub none_stated : (plan : PlanView) (g i : ℕ) → is_partial plan.rounds (span_at plan g i) ≡ false → length (spans_below plan g (i + 1)) ≡ length (spans_below plan g i)
none_stated plan g i isnt = spans_more plan g i ∙ ap (λ b. length (spans_below plan g i) + (if b then 1 else 0)) isnt ∙ add-zero (length (spans_below plan g i))

-- the spans of one group more
pub group_stated : (plan : PlanView) (n : ℕ)
    → length (flat_map (λ g. spans_below plan g (size plan.groups g)) (range_with_len 0 (n + 1)))
    ≡ length (flat_map (λ g. spans_below plan g (size plan.groups g)) (range_with_len 0 n)) + length (spans_below plan n (size plan.groups n))
group_stated plan n =
    let e : n + 1 ≡ suc n = omega arith in
    let f : ℕ → List Span = λ g. spans_below plan g (size plan.groups g) in
    ap (λ k. length (flat_map f (range_with_len 0 k))) e
    ∙ ap (λ q. length (flat_map f q)) (range_last 0 n n (omega arith))
    ∙ ap length (flat_map-append f (range_with_len 0 n) (n ∷ []) ∙ ap (λ q. flat_map f (range_with_len 0 n) ++ q) (append-nil (f n)))
    ∙ length-append (flat_map f (range_with_len 0 n)) (f n)
