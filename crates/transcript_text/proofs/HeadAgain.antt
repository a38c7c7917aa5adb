-- The head of each plan is read back.
use Rattle.std.proofs.Common.{◌≡◌, ◌∙◌, ◌<◌, ◌≤◌, ◌+◌, ◌^◌, ◌==◌, ◌&&◌, nat_le, ℕ, suc, Bool, true, false, List, [], ◌∷◌, ◌++◌, length, map, refl, sym, ap, arith, decimal, Option, Some, None, Ok, append_assoc, append-nil, subst}
use Rattle.std.specs.Prelude.{codes}
use Rattle.std.specs.List.{list_all}
use Rattle.std.proofs.lemmas.Bool.Decides.{nat_tests}
use Rattle.group_plan.specs.declared.plan.GroupPlan.{GroupPlan}
use Rattle.group_plan.specs.declared.plan.members.Span.{Span}
use Rattle.group_plan.specs.Names.{is_name, is_name_byte}
use Rattle.group_plan.specs.Plans.{Group, IsWithinLimits, PlanView, floor_of, name_of, size}
use Rattle.group_plan.specs.NewPlans.{plan_of, stated}
use Rattle.group_plan.specs.Spans.{with_spans}
use Rattle.group_plan.proofs.MeterNumbers.{group-lt}
use Rattle.transcript_text.specs.declared.version.Version.{Version}
use Rattle.transcript_text.specs.declared.version.Version.TheVariants.{One, Two}
use Rattle.transcript_text.specs.declared.head.Start.{Start}
use Rattle.transcript_text.specs.declared.head.HeadRow.TheVariants as row
use Rattle.field_texts.specs.Parts.{parts}
use Rattle.field_texts.specs.Numbers.{number_of, within}
use Rattle.event_schedule.specs.Transcripts.{IsPlan}
use Rattle.transcript_text.specs.Spelling.{ended, group_fields, groups_text, head_text, joined, member_fields, members_text, rounds_fields, stated_spans, title, windows_fields}
use Rattle.transcript_text.specs.Heads.{AreStated, at_begin, has_version, head_from, head_of, head_row, plan_at, rounds_of, span_fits, start_of, title_of, unless_fault, windows_of}
use Rattle.transcript_text.proofs.Choices.{test_of}
use Rattle.field_texts.proofs.NumberLaws.{within_again}
use Rattle.field_texts.proofs.TextLaws.{AllClean, clean, clean_decimal, clean_joined, parts_at, parts_joined}
use Rattle.transcript_text.proofs.HeadLoop.{begins, group_more, member_more, start_is}
use Rattle.transcript_text.proofs.SpanFaults.{fitting}
use Rattle.transcript_text.proofs.SpanAgain.{meters_stated, plan_again, stated_fit}

-- ---- lines and their fields

-- a line is cut off, and into its fields
pub record Cut (line : List ℕ) (fs : List (List ℕ)) : Type 0 where
  pub cut : (rest : List ℕ) → parts 10 (ended line ++ rest) ≡ line ∷ parts 10 rest
  fields : parts 44 line ≡ fs

pub cut_line : (line rest : List ℕ) → clean 10 line ≡ true → parts 10 (ended line ++ rest) ≡ line ∷ parts 10 rest
cut_line line rest c = ap (parts 10) (append_assoc line (10 ∷ []) rest) ∙ parts_at 10 line rest c

cut_fields : (f : List ℕ) (fs : List (List ℕ)) → AllClean 44 (f ∷ fs) → AllClean 10 (f ∷ fs) → Cut (joined (f ∷ fs)) (f ∷ fs)
cut_fields f fs a b = record { cut = λ rest. cut_line (joined (f ∷ fs)) rest (clean_joined 10 44 (f ∷ fs) refl b); fields = parts_joined 44 f fs a }

pub cut_title : (version : Version) → Cut (title version) (title version ∷ [])
cut_title One = cut_fields (title One) [] (refl, tt) (refl, tt)
cut_title Two = cut_fields (title Two) [] (refl, tt) (refl, tt)

pub cut_begin : Cut (codes "begin") (codes "begin" ∷ [])
cut_begin = cut_fields (codes "begin") [] (refl, tt) (refl, tt)

number_clean : (stop n : ℕ) → stop < 48 → n < 2 ^ 32 → clean stop (decimal n) ≡ true
number_clean stop n s b = clean_decimal stop n s (omega (arith, b))

name_clean : (stop : ℕ) (name : List ℕ) → is_name_byte stop ≡ false → list_all is_name_byte name ≡ true → clean stop name ≡ true
name_clean stop [] s h = refl
name_clean stop (c ∷ cs) s h =
    let t = test_of (is_name_byte c) (list_all is_name_byte cs) h in
    let rest = name_clean stop cs s t.1 in
    by_byte (c == stop) refl t.0 rest
  where
    by_byte : (b : Bool) → (c == stop) ≡ b → is_name_byte c ≡ true → clean stop cs ≡ true → clean stop (c ∷ cs) ≡ true
    by_byte true e is rest =
        let same : c ≡ stop = grind (arith, nat_tests, e) in
        absurd (let o : true ≡ false = sym is ∙ ap is_name_byte same ∙ s in cc)
    by_byte false e is rest = rw e rest

pub cut_rounds : (rounds : ℕ) → rounds < 2 ^ 32 → Cut (joined (rounds_fields rounds)) (rounds_fields rounds)
cut_rounds rounds b =
    cut_fields (codes "rounds") (decimal rounds ∷ []) (refl, (number_clean 44 rounds (omega arith) b, tt)) (refl, (number_clean 10 rounds (omega arith) b, tt))

pub cut_windows : (w1 w2 : ℕ) → w1 < 2 ^ 32 → w2 < 2 ^ 32 → Cut (joined (windows_fields w1 w2)) (windows_fields w1 w2)
cut_windows w1 w2 a b =
    cut_fields (codes "windows") (decimal w1 ∷ decimal w2 ∷ []) (refl, (number_clean 44 w1 (omega arith) a, (number_clean 44 w2 (omega arith) b, tt)))
    (refl, (number_clean 10 w1 (omega arith) a, (number_clean 10 w2 (omega arith) b, tt)))

-- a group's name is one, and its numbers are small
pub record IsHeadGroup (g : GroupPlan) : Type 0 where
  name : is_name g.name ≡ true
  meters : g.meters < 2 ^ 32
  floor : g.floor < 2 ^ 32

pub cut_group : (g : GroupPlan) → IsHeadGroup g → Cut (joined (group_fields g)) (group_fields g)
cut_group g is =
    let letters = test_of (nat_le 1 (length g.name) && nat_le (length g.name) 16) (list_all is_name_byte g.name) is.name in
    let each : (stop : ℕ) → stop < 48 → is_name_byte stop ≡ false → clean stop (codes "group") ≡ true → AllClean stop (group_fields g) =
    λ stop s n w. (w, (name_clean stop g.name n letters.1, (number_clean stop g.meters s is.meters, (number_clean stop g.floor s is.floor, tt)))) in
    cut_fields (codes "group") (g.name ∷ decimal g.meters ∷ decimal g.floor ∷ []) (each 44 (omega arith) refl refl) (each 10 (omega arith) refl refl)

-- a span's numbers are small
pub record IsHeadSpan (s : Span) : Type 0 where
  group : s.group < 2 ^ 32
  meter : s.meter < 2 ^ 32
  from : s.from < 2 ^ 32
  until : s.until < 2 ^ 32

pub cut_member : (s : Span) → IsHeadSpan s → Cut (joined (member_fields s)) (member_fields s)
cut_member s is =
    let each : (stop : ℕ) → stop < 48 → clean stop (codes "member") ≡ true → AllClean stop (member_fields s) =
    λ stop b w. (w, (number_clean stop s.group b is.group, (number_clean stop s.meter b is.meter, (number_clean stop s.from b is.from, (number_clean stop s.until b is.until, tt))))) in
    cut_fields (codes "member") (decimal s.group ∷ decimal s.meter ∷ decimal s.from ∷ decimal s.until ∷ []) (each 44 (omega arith) refl) (each 10 (omega arith) refl)

-- ---- what a line says

small_again : (n : ℕ) → n < 2 ^ 32 → within 0 (2 ^ 32) (number_of (decimal n)) ≡ Some n
small_again n b = within_again 0 (2 ^ 32) n (omega arith) b (omega arith)

title_again : (version : Version) (n : ℕ) → title_of version n (title version ∷ []) ≡ Ok tt
unfolding title_of
title_again One n = refl
title_again Two n = refl

rounds_again : (n rounds : ℕ) → rounds < 2 ^ 32 → rounds_of n (rounds_fields rounds) ≡ Ok rounds
unfolding rounds_of
rounds_again n rounds b = let a = small_again rounds b in rw a refl

windows_again : (n w1 w2 : ℕ) → w1 < 2 ^ 32 → w2 < 2 ^ 32 → windows_of n (windows_fields w1 w2) ≡ Ok (w1, w2)
unfolding windows_of
windows_again n w1 w2 a b =
    let c = small_again w1 a in
    let d = small_again w2 b in
    rw (c, d) refl

group_again : (version : Version) (n rounds : ℕ) (groups : List GroupPlan) (g : GroupPlan) → IsHeadGroup g → head_row version n rounds groups None (group_fields g) ≡ Ok (row.Group g)
unfolding head_row
group_again version n rounds groups g is =
    let a = is.name in
    let b = small_again g.meters is.meters in
    let c = small_again g.floor is.floor in
    rw (a, b, c) refl

member_again : (n rounds : ℕ) (groups : List GroupPlan) (last : Option Span) (s : Span) → IsHeadSpan s → span_fits rounds groups last s ≡ true
    → head_row Two n rounds groups last (member_fields s) ≡ Ok (row.Member s)
unfolding head_row
member_again n rounds groups last s is fit =
    let a = small_again s.group is.group in
    let b = small_again s.meter is.meter in
    let c = small_again s.from is.from in
    let d = small_again s.until is.until in
    rw (a, b, c, d, fit) refl

begin_again : (version : Version) (n rounds : ℕ) (groups : List GroupPlan) (last : Option Span) → head_row version n rounds groups last (codes "begin" ∷ []) ≡ Ok row.Begin
unfolding head_row
begin_again version n rounds groups last = refl

-- ---- the first three lines

start_again : (version : Version) (plan : PlanView) → IsWithinLimits plan → (rest : List ℕ)
    → start_of version (parts 10 (ended (title version) ++ (ended (joined (rounds_fields plan.rounds)) ++ (ended (joined (windows_fields plan.w1 plan.w2)) ++ rest))))
    ≡ Ok (record { rounds = plan.rounds; w1 = plan.w1; w2 = plan.w2 }, parts 10 rest)
start_again version plan limits rest =
    let few : plan.rounds < 2 ^ 32 = let a = limits.rounds in omega (arith, a) in
    let short : plan.w1 < 2 ^ 32 = let a = limits.w1_to in omega (arith, a) in
    let long : plan.w2 < 2 ^ 32 = let a = limits.w2_to in omega (arith, a) in
    let third : List ℕ = ended (joined (windows_fields plan.w1 plan.w2)) ++ rest in
    let second : List ℕ = ended (joined (rounds_fields plan.rounds)) ++ third in
    let one = cut_title version in
    let two = cut_rounds plan.rounds few in
    let three = cut_windows plan.w1 plan.w2 short long in
    start_is version (ended (title version) ++ second) (title version) second (one.cut second) tt (sym (ap (title_of version 1) one.fields ∙ title_again version 1))
    (joined (rounds_fields plan.rounds)) third (two.cut third) plan.rounds (sym (ap (rounds_of 2) two.fields ∙ rounds_again 2 plan.rounds few))
    (joined (windows_fields plan.w1 plan.w2)) rest (three.cut rest) (plan.w1, plan.w2) (sym (ap (windows_of 3) three.fields ∙ windows_again 3 plan.w1 plan.w2 short long))

-- ---- groups

abbrev pub AreHeadGroups : List GroupPlan → Type 0
AreHeadGroups [] = Unit {0}
AreHeadGroups (g ∷ gs) = IsHeadGroup g × AreHeadGroups gs

groups_again : (version : Version) (start : Start) (n : ℕ) (groups more : List GroupPlan) → AreHeadGroups more → (rest : List ℕ)
    → (m : ℕ) × (head_from version start n None groups [] (parts 10 (groups_text more ++ rest)) ≡ head_from version start m None (groups ++ more) [] (parts 10 rest))
groups_again version start n groups [] are rest = (n, ap (λ gs. head_from version start n None gs [] (parts 10 rest)) (sym (append-nil groups)))
groups_again version start n groups (g ∷ gs) are rest =
    let line : List ℕ = joined (group_fields g) in
    let after : List ℕ = groups_text gs ++ rest in
    let cut = cut_group g are.0 in
    let is : Ok (row.Group g) ≡ head_row version n start.rounds groups None (parts 44 line) = sym (ap (head_row version n start.rounds groups None) cut.fields ∙ group_again version n start.rounds groups g are.0) in
    let text : (ended line ++ groups_text gs) ++ rest ≡ ended line ++ after = append_assoc (ended line) (groups_text gs) rest in
    let here = group_more version start n None groups [] line after (ended line ++ after) _ (cut.cut after) refl g is in
    let ih = groups_again version start (n + 1) (groups ++ g ∷ []) gs are.1 rest in
    (ih.0, ap (λ q. head_from version start n None groups [] (parts 10 q)) text ∙ sym here ∙ ih.1 ∙ ap (λ q. head_from version start ih.0 None q [] (parts 10 rest)) (append_assoc groups (g ∷ []) gs))

-- ---- spans

abbrev pub AreHeadSpans : List Span → Type 0
AreHeadSpans [] = Unit {0}
AreHeadSpans (s ∷ ss) = IsHeadSpan s × AreHeadSpans ss

-- how far the lines of spans are read
record ReadsOn (version : Version) (start : Start) (n : ℕ) (last : Option Span) (groups : List GroupPlan) (spans more : List Span) (rest : List ℕ) : Type 0 where
  line : ℕ
  before : Option Span
  same : head_from version start n last groups spans (parts 10 (members_text more ++ rest)) ≡ head_from version start line before groups (spans ++ more) (parts 10 rest)

none_again : (version : Version) (start : Start) (n : ℕ) (last : Option Span) (groups : List GroupPlan) (spans : List Span) (rest : List ℕ) → ReadsOn version start n last groups spans [] rest
none_again version start n last groups spans rest =
    record { line = n; before = last; same = ap (λ ss. head_from version start n last groups ss (parts 10 rest)) (sym (append-nil spans)) }

spans_again : (start : Start) (n : ℕ) (last : Option Span) (groups : List GroupPlan) (spans more : List Span) → AreStated start.rounds groups last more → AreHeadSpans more → (rest : List ℕ)
    → ReadsOn Two start n last groups spans more rest
spans_again start n last groups spans [] fit are rest = none_again Two start n last groups spans rest
spans_again start n last groups spans (s ∷ ss) fit are rest =
    let line : List ℕ = joined (member_fields s) in
    let after : List ℕ = members_text ss ++ rest in
    let cut = cut_member s are.0 in
    let is : Ok (row.Member s) ≡ head_row Two n start.rounds groups last (parts 44 line) = sym (ap (head_row Two n start.rounds groups last) cut.fields ∙ member_again n start.rounds groups last s are.0 fit.0) in
    let text : (ended line ++ members_text ss) ++ rest ≡ ended line ++ after = append_assoc (ended line) (members_text ss) rest in
    let here = member_more Two start n last groups spans line after (ended line ++ after) _ (cut.cut after) refl s is in
    let ih = spans_again start (n + 1) (Some s) groups (spans ++ s ∷ []) ss fit.1 are.1 rest in
    record {
      line = ih.line;
      before = ih.before;
      same = ap (λ q. head_from Two start n last groups spans (parts 10 q)) text ∙ sym here ∙ ih.same
          ∙ ap (λ q. head_from Two start ih.line ih.before groups q (parts 10 rest)) (append_assoc spans (s ∷ []) ss);
    }

-- in version 1 no span is stated
abbrev pub StatedIn : Version → List Span → Type 0
StatedIn One ss = ss ≡ []
StatedIn Two ss = Unit {0}

members_again : (version : Version) (start : Start) (n : ℕ) (groups : List GroupPlan) (more : List Span) → StatedIn version more → AreStated start.rounds groups None more → AreHeadSpans more → (rest : List ℕ)
    → ReadsOn version start n None groups [] more rest
members_again One start n groups more none fit are rest = subst (λ ss. ReadsOn One start n None groups [] ss rest) (sym none) (none_again One start n None groups [] rest)
members_again Two start n groups more none fit are rest = spans_again start n None groups [] more fit are rest

-- ---- a plan's groups and spans

pub groups_fit : (groups : List Group) → ((g : ℕ) → g < length groups → is_name (name_of groups g) ≡ true) → ((g : ℕ) → size groups g ≤ 256) → ((g : ℕ) → floor_of groups g ≤ size groups g)
    → AreHeadGroups (map stated groups)
groups_fit [] names meters floors = tt
groups_fit (x ∷ xs) names meters floors =
    let few = meters 0 in
    let low = floors 0 in (
      record { name = names 0 (omega arith); meters = omega (arith, few); floor = omega (arith, few, low) },
      groups_fit xs (λ g lt. names (suc g) (omega (arith, lt))) (λ g. meters (suc g)) (λ g. floors (suc g)),
    )

pub spans_fit : (plan : PlanView) → IsWithinLimits plan → (last : Option Span) (ss : List Span) → AreStated plan.rounds (map stated plan.groups) last ss → AreHeadSpans ss
spans_fit plan limits last [] fit = tt
spans_fit plan limits last (s ∷ ss) fit =
    let f = fitting plan.rounds (map stated plan.groups) last s fit.0 in
    let sized = meters_stated plan.groups s.group in
    let meter : s.meter < size plan.groups s.group = let a = f.meter in omega (arith, a, sized) in
    let exists = group-lt plan.groups s.group s.meter meter in
    let groups = limits.groups in
    let meters = limits.meters s.group in
    let rounds = limits.rounds in
    let from = f.some in
    let until = f.until in (
      record { group = omega (arith, exists, groups); meter = omega (arith, meter, meters); from = omega (arith, from, until, rounds); until = omega (arith, until, rounds) },
      spans_fit plan limits (Some s) ss fit.1,
    )

begins_at : (version : Version) (start : Start) (n : ℕ) (last : Option Span) (groups : List GroupPlan) (spans : List Span) (rest : List ℕ)
    → head_from version start n last groups spans (parts 10 (ended (codes "begin") ++ rest)) ≡ at_begin n (parts 10 rest) (plan_at version n start groups spans)
begins_at version start n last groups spans rest =
    let cut = cut_begin in
    begins version start n last groups spans (codes "begin") rest (ended (codes "begin") ++ rest) _ (cut.cut rest) refl
    (sym (ap (head_row version n start.rounds groups last) cut.fields ∙ begin_again version n start.rounds groups last))

plan_is : (version : Version) (plan : PlanView) (n : ℕ) → IsPlan plan → has_version version (map stated plan.groups) ≡ true
    → plan_at version n (record { rounds = plan.rounds; w1 = plan.w1; w2 = plan.w2 }) (map stated plan.groups) (stated_spans plan) ≡ Ok plan
unfolding plan_at
plan_is version plan n is has =
    let sound = is.sound in
    let made : PlanView = with_spans (plan_of (map stated plan.groups) plan.rounds plan.w1 plan.w2) (stated_spans plan) in
    rw has (ap (unless_fault n made) sound ∙ ap Ok (plan_again plan))

-- ---- the head

pub head_flat : (x y z groups members begin rest : List ℕ) → (((x ++ y ++ z) ++ groups ++ members) ++ begin) ++ rest ≡ x ++ (y ++ (z ++ (groups ++ (members ++ (begin ++ rest)))))
head_flat x y z groups members begin rest =
    append_assoc ((x ++ y ++ z) ++ groups ++ members) begin rest
    ∙ append_assoc ((x ++ y ++ z) ++ groups) members (begin ++ rest)
    ∙ append_assoc (x ++ y ++ z) groups (members ++ (begin ++ rest))
    ∙ append_assoc (x ++ y) z (groups ++ (members ++ (begin ++ rest)))
    ∙ append_assoc x y (z ++ (groups ++ (members ++ (begin ++ rest))))

-- the head of a plan is read as that plan
pub head_again : (version : Version) (plan : PlanView) → IsPlan plan → has_version version (map stated plan.groups) ≡ true → StatedIn version (stated_spans plan) → (rest : List ℕ)
    → (n : ℕ) × (head_of version (parts 10 (head_text version plan ++ rest)) ≡ Ok (record { plan = plan; line = n; rest = parts 10 rest }))
unfolding head_of head_text
head_again version plan is has in_version rest =
    let groups : List GroupPlan = map stated plan.groups in
    let spans : List Span = stated_spans plan in
    let fit = stated_fit plan is.limits in
    let begin : List ℕ = ended (codes "begin") ++ rest in
    let members : List ℕ = members_text spans ++ begin in
    let lines : List ℕ = groups_text groups ++ members in
    let flat = head_flat (ended (title version)) (ended (joined (rounds_fields plan.rounds))) (ended (joined (windows_fields plan.w1 plan.w2))) (groups_text groups) (members_text spans) (ended (codes "begin")) rest in
    let first_lines : Start = record { rounds = plan.rounds; w1 = plan.w1; w2 = plan.w2 } in
    let first : start_of version (parts 10 (head_text version plan ++ rest)) ≡ Ok (first_lines, parts 10 lines) = ap (λ q. start_of version (parts 10 q)) flat ∙ start_again version plan is.limits lines in
    let gs = groups_again version first_lines 4 [] groups (groups_fit plan.groups is.limits.names is.limits.meters is.limits.floor_to) members in
    let ss = members_again version first_lines gs.0 groups spans in_version fit (spans_fit plan is.limits None spans fit) begin in
    let made = ap (at_begin ss.line (parts 10 rest)) (plan_is version plan ss.line is has) in
    (ss.line + 1, rw first (gs.1 ∙ ss.same ∙ begins_at version first_lines ss.line ss.before groups spans rest ∙ made))

-- groups of up to 64 meters are ones of version 1
pub old_groups : (plan : PlanView) → ((g : ℕ) → size plan.groups g ≤ 64) → has_version One (map stated plan.groups) ≡ true
old_groups plan few = each plan.groups few
  where
    each : (groups : List Group) → ((g : ℕ) → size groups g ≤ 64) → list_all (λ (g : GroupPlan). nat_le g.meters 64) (map stated groups) ≡ true
    each [] few = refl
    each (x ∷ xs) few =
        let h = few 0 in
        let t : nat_le (length x.spans) 64 ≡ true = grind (arith, nat_tests, h) in
        rw t (each xs (λ g. few (suc g)))
