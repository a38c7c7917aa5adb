-- A file that is accepted has a plan within the limits and all its keys, or a reading table.
use Rattle.std.proofs.Common.{◌≡◌, ◌∙◌, ◌<◌, ◌≤◌, ◌+◌, ◌^◌, ◌==◌, ◌&&◌, ◌||◌, not, nat_lt, ℕ, zero, suc, Bool, true, false, IsTrue, List, [], ◌∷◌, ◌++◌, length, map, drop, Option, Some, None, Result, Ok, Err, is_some, refl, sym, ap, arith, subst, codes, if◌then◌else◌}
use Rattle.std.proofs.lemmas.Bool.{and_parts}
use Rattle.std.proofs.lemmas.Bool.Decides.{nat_tests}
use Rattle.std.proofs.lemmas.List.{get_or-replicate, length-map, length-replicate}
use Rattle.std.proofs.lemmas.List.Elements.{All-cons, All-nil}
use Rattle.std.proofs.lemmas.List.FromFn.{fill_by_all, length-map-range_with_len}
use Rattle.std.specs.List.{find, list_all, list_any, range_with_len}
use Rattle.std.specs.Option.{is_none, option_map}
use Rattle.field_texts.specs.Numbers.{number_of}
use Rattle.group_plan.specs.Names.{is_name}
use Rattle.group_plan.specs.NewPlans.{AreNamed, first_fault, group_of, stated, whole}
use Rattle.group_plan.specs.NewPlans as new
use Rattle.group_plan.specs.Plans.{IsWithinLimits, PlanView, is_member, is_place, last_tick, size, span_of}
use Rattle.group_plan.specs.Spans.{group_with, is_in_plan, is_of, rounds_given, rounds_of, span_fault, span_fault_from, with_spans}
use Rattle.group_plan.specs.Tables.{IsReadingTable, reading, table_of}
use Rattle.group_plan.specs.declared.plan.GroupPlan.{GroupPlan}
use Rattle.group_plan.specs.declared.plan.PlanError.{PlanError}
use Rattle.group_plan.specs.declared.plan.members.Span.{Span}
use Rattle.group_plan.specs.declared.plan.members.SpanError.{SpanError}
use Rattle.group_plan.specs.declared.plan.members.SpanError.TheVariants as of_span
use Rattle.group_plan.proofs.Limits.{are_right, head, limits, none, right_rounds, stated-at}
use Rattle.group_plan.proofs.TableLemmas.{entry-table_of, entry_outside, is_table-table_of}
use Rattle.group_plan.proofs.WithSpans.{size-with, span-with}
use Rattle.pair_keys.specs.Ids.{same_id}
use Rattle.pair_keys.specs.Keys.{IsComplete, Keys}
use Rattle.pair_keys.specs.declared.KeyId.{KeyId}
use Rattle.plan_files.specs.AcceptedFiles.{AcceptedPlansAreWhole, AcceptedReadingsAreTables, AreReadingsOf, IsWhole}
use Rattle.plan_files.specs.Faults.{◌>>=◌, at_row, in_row, unless}
use Rattle.plan_files.specs.Gathering.{Gathered, gather, nothing, settled, settled_by, spans_of}
use Rattle.plan_files.specs.MissingKeys.{first_missing, plan_keys}
use Rattle.plan_files.specs.PlanFiles.{Opened, PlanFileView, completed, opened_from, plan_from, plan_of, stated_plan, unless_missing, with_entries}
use Rattle.plan_files.specs.PlanForms.{entries_from, groups_from, head_of}
use Rattle.plan_files.specs.PlanRows.{group_row, has_fields, name_in, number_in, starts_with, text}
use Rattle.plan_files.specs.Readings.{Says, reading_at, reading_in, reading_of, reading_or_none, readings_by, readings_of, rows_fault, within_range}
use Rattle.plan_files.specs.Rows.{file_rows}
use Rattle.plan_files.specs.declared.entry.PlanRow.{PlanRow}
use Rattle.plan_files.specs.declared.fault.FileCause.{FileCause}
use Rattle.plan_files.specs.declared.fault.FileCause.TheVariants as cause
use Rattle.plan_files.specs.declared.fault.FileFault.{FileFault}
use Rattle.plan_files.specs.declared.form.PlanForm.TheVariants.{Whole}
use Rattle.plan_files.specs.declared.head.PlanHead.{PlanHead}
use Rattle.plan_files.proofs.GatherLemmas.{gather_keeps}
use Rattle.plan_files.proofs.KeyOrder.{keys_all}
use Rattle.plan_files.proofs.SpelledKeys.{same_is}

-- ---- steps that went well

-- what each step said
went_well : {A B E : Type 0} (x : Result A E) (f : A → Result B E) (b : B) → (x >>= f) ≡ Ok b → (a : A) × (x ≡ Ok a) × (f a ≡ Ok b)
went_well (Ok a) f b h = (a, refl, h)
went_well (Err e) f b h = absurd cc

row_well : {A : Type 0} (n : ℕ) (x : Result A FileCause) (a : A) → at_row n x ≡ Ok a → x ≡ Ok a
row_well n (Ok b) a h = let e : b ≡ a = cc in ap Ok e
row_well n (Err what) a h = absurd cc

-- ---- readings

no_fault : {X : Type 0} (fault : Option FileFault) (value other : X) → unless fault value ≡ Ok other → value ≡ other
no_fault None value other h = cc
no_fault (Some e) value other h = absurd cc

small_range : (n : Option ℕ) (v : ℕ) → reading_or_none (within_range n) ≡ Some v → v < 2 ^ 40
small_range None v h = absurd cc
small_range (Some m) v h = by_test (nat_lt m (2 ^ 40)) refl h
  where
    by_test : (t : Bool) → nat_lt m (2 ^ 40) ≡ t → reading_or_none (if t then Ok (Some m) else Err cause.Range) ≡ Some v → v < 2 ^ 40
    by_test true e h = let same : m ≡ v = cc in grind (arith, nat_tests, e, same)
    by_test false e h = absurd cc

read_small : (member : Bool) (field : List ℕ) (v : ℕ) → reading_or_none (reading_of member field) ≡ Some v → v < 2 ^ 40
unfolding reading_of
read_small member field v h = by_tests (length field == 0) member h
  where
    by_tests : (a b : Bool) → reading_or_none (if a then Ok None else if b then within_range (number_of field) else Err cause.NotMember) ≡ Some v → v < 2 ^ 40
    by_tests true b h = absurd cc
    by_tests false true h = small_range (number_of field) v h
    by_tests false false h = absurd cc

read_member : (member : Bool) (field : List ℕ) → is_some (reading_or_none (reading_of member field)) ≡ true → member ≡ true
unfolding reading_of
read_member member field h = by_tests (length field == 0) member h
  where
    by_tests : (a b : Bool) → is_some (reading_or_none (if a then Ok None else if b then within_range (number_of field) else Err cause.NotMember)) ≡ true → b ≡ true
    by_tests true b h = absurd cc
    by_tests false true h = refl
    by_tests false false h = absurd cc

-- what fields say that are read so is a reading table, whatever they say: below 2^40, and of members alone
pub table_read : (says : Says) → ((member : Bool) (field : List ℕ) (v : ℕ) → reading_or_none (says member field) ≡ Some v → v < 2 ^ 40)
    → ((member : Bool) (field : List ℕ) → is_some (reading_or_none (says member field)) ≡ true → member ≡ true)
    → (plan : PlanView) (rows : List (List (List ℕ))) → IsReadingTable plan (table_of plan (reading_at says plan rows))
unfolding reading_in
table_read says small_said member_said plan rows =
    let f = reading_at says plan rows in
    let shape = is_table-table_of plan f in
    record {
      shape = shape;
      small = λ g r i v is. small g r i (is_place plan g r i) refl v is;
      of_members = λ g r i is. member g r i (is_place plan g r i) refl is;
    }
  where
    small : (g r i : ℕ) (t : Bool) → is_place plan g r i ≡ t → (v : ℕ) → reading (table_of plan (reading_at says plan rows)) g r i ≡ Some v → v < 2 ^ 40
    small g r i true place v is =
        small_said (is_member plan.groups g r i) _ v (sym (entry-table_of plan (reading_at says plan rows) None g r i place) ∙ is)
    small g r i false place v is =
        let none = entry_outside plan (table_of plan (reading_at says plan rows)) (is_table-table_of plan (reading_at says plan rows)) None g r i place in
        absurd cc

    member : (g r i : ℕ) (t : Bool) → is_place plan g r i ≡ t → is_some (reading (table_of plan (reading_at says plan rows)) g r i) ≡ true → is_member plan.groups g r i ≡ true
    member g r i true place is =
        member_said (is_member plan.groups g r i) _ (ap is_some (sym (entry-table_of plan (reading_at says plan rows) None g r i place)) ∙ is)
    member g r i false place is =
        let none = ap is_some (entry_outside plan (table_of plan (reading_at says plan rows)) (is_table-table_of plan (reading_at says plan rows)) None g r i place) in
        absurd cc

pub accepted_readings : AcceptedReadingsAreTables
unfolding readings_of
accepted_readings plan bytes readings is =
    let same = no_fault (rows_fault reading_of plan 0 (file_rows bytes)) (readings_by reading_of plan (file_rows bytes)) readings is in
    subst (AreReadingsOf plan) same (record { same_plan = refl; table = table_read reading_of read_small read_member plan (file_rows bytes) })

-- ---- groups

name_formed : (field name : List ℕ) (t : Bool) → is_name field ≡ t → (if t then Ok field else Err cause.Name) ≡ Ok name → is_name name ≡ true
name_formed field name true e h = let same : field ≡ name = cc in subst (λ n. is_name n ≡ true) same e
name_formed field name false e h = absurd cc

name_read : (row : List (List ℕ)) (name : List ℕ) → name_in row 1 ≡ Ok name → is_name name ≡ true
unfolding name_in
name_read row name h = name_formed (text row 1) name (is_name (text row 1)) refl h

abbrev name_or : Result GroupPlan FileCause → List ℕ
name_or (Ok g) = g.name
name_or (Err e) = []

named_row : (row : List (List ℕ)) (group : GroupPlan) → group_row row ≡ Ok group → is_name group.name ≡ true
unfolding group_row
named_row row group h =
    let one = went_well (has_fields 4 row) (λ _. name_in row 1 >>= (λ name. number_in row 2 >>= (λ meters. number_in row 3 >>= (λ floor. Ok (record { name = name; meters = meters; floor = floor }))))) group h in
    let two = went_well (name_in row 1) (λ name. number_in row 2 >>= (λ meters. number_in row 3 >>= (λ floor. Ok (record { name = name; meters = meters; floor = floor })))) group one.2 in
    let three = went_well (number_in row 2) (λ meters. number_in row 3 >>= (λ floor. Ok (record { name = two.0; meters = meters; floor = floor }))) group two.2 in
    let four = went_well (number_in row 3) (λ floor. Ok (record { name = two.0; meters = three.0; floor = floor })) group three.2 in
    let same : two.0 ≡ group.name = ap name_or four.2 in
    subst (λ n. is_name n ≡ true) same (name_read row two.0 two.1)

groups_named : (n : ℕ) (rows : List (List (List ℕ))) (groups : List GroupPlan) → groups_from n rows ≡ Ok groups → AreNamed groups
unfolding groups_from
groups_named n [] groups h = let none : [] ≡ groups = cc in subst AreNamed none (All-nil (λ g. IsTrue (is_name g.name)))
groups_named n (row ∷ rows) groups h = by_word (starts_with (codes "group") row) (groups_named (n + 1) rows) h
  where
    by_word : (t : Bool) → ((more : List GroupPlan) → groups_from (n + 1) rows ≡ Ok more → AreNamed more) → (if t then (at_row n (group_row row) >>= (λ group. groups_from (n + 1) rows >>= (λ more. Ok (group ∷ more)))) else Ok []) ≡ Ok groups → AreNamed groups
    by_word true ih h =
        let one = went_well (at_row n (group_row row)) (λ group. groups_from (n + 1) rows >>= (λ more. Ok (group ∷ more))) groups h in
        let two = went_well (groups_from (n + 1) rows) (λ more. Ok (one.0 ∷ more)) groups one.2 in
        let same : one.0 ∷ two.0 ≡ groups = let e = two.2 in cc in
        subst AreNamed same (All-cons (λ g. IsTrue (is_name g.name)) one.0 two.0 (named_row row one.0 (row_well n (group_row row) one.0 one.1)) (ih two.0 two.1))
    by_word false ih h = let none : [] ≡ groups = cc in subst AreNamed none (All-nil (λ g. IsTrue (is_name g.name)))

-- ---- the plan

stated_again : (rounds : ℕ) (groups : List GroupPlan) → map stated (map (group_of rounds) groups) ≡ groups
stated_again rounds [] = refl
stated_again rounds (g ∷ gs) =
    let made : ℕ → GroupPlan = λ m. record { name = g.name; meters = m; floor = g.floor } in
    ap (λ m. made m ∷ map stated (map (group_of rounds) gs)) (length-replicate g.meters (whole rounds)) ∙ ap (λ l. g ∷ l) (stated_again rounds gs)

heads_are : (plan : PlanView) (spans : List Span) (a n : ℕ) → map stated (map (group_with plan spans) (range_with_len a n)) ≡ map (head plan.groups) (range_with_len a n)
heads_are plan spans a zero = refl
heads_are plan spans a (suc n) =
    let made : ℕ → GroupPlan = λ m. record { name = (head plan.groups a).name; meters = m; floor = (head plan.groups a).floor } in
    let long = length-map-range_with_len (rounds_given plan.rounds spans a) 0 (size plan.groups a) in
    ap (λ m. made m ∷ map stated (map (group_with plan spans) (range_with_len (a + 1) n))) long ∙ ap (λ l. head plan.groups a ∷ l) (heads_are plan spans (a + 1) n)

with_stated : (plan : PlanView) (spans : List Span) → map stated (with_spans plan spans).groups ≡ map stated plan.groups
with_stated plan spans =
    let long = length-map plan.groups stated in
    heads_are plan spans 0 (length plan.groups)
    ∙ sym (fill_by_all (head plan.groups) (map stated plan.groups) (length plan.groups) none long (λ k lt. stated-at plan.groups k none lt))

whole_spans : (rounds : ℕ) (groups : List GroupPlan) (g i : ℕ) → i < size (map (group_of rounds) groups) g → span_of (map (group_of rounds) groups) g i ≡ whole rounds
whole_spans rounds [] g i lt = absurd (omega (arith, lt))
whole_spans rounds (x ∷ xs) zero i lt = let long = length-replicate x.meters (whole rounds) in get_or-replicate x.meters i (whole rounds) (record { from = 0; until = 0 }) (omega (arith, lt, long))
whole_spans rounds (x ∷ xs) (suc g) i lt = whole_spans rounds xs g i lt

inside_all : (plan : PlanView) (before spans : List Span) → span_fault_from plan before spans ≡ None → list_all (is_in_plan plan) spans ≡ true
unfolding span_fault_from
inside_all plan before [] h = refl
inside_all plan before (s ∷ ss) h = by_tests (is_in_plan plan s) (list_any (is_of s.group s.meter) before) h (inside_all plan (before ++ s ∷ []) ss)
  where
    by_tests : (a b : Bool) → (if not a then Some (of_span.Range (length before)) else if b then Some (of_span.Twice (length before)) else span_fault_from plan (before ++ s ∷ []) ss) ≡ None
        → (span_fault_from plan (before ++ s ∷ []) ss ≡ None → list_all (is_in_plan plan) ss ≡ true) → (a && list_all (is_in_plan plan) ss) ≡ true
    by_tests true true h ih = absurd cc
    by_tests true false h ih = ih h
    by_tests false b h ih = absurd cc

given_right : (plan : PlanView) (spans : List Span) (g i : ℕ) → 1 ≤ plan.rounds → list_all (is_in_plan plan) spans ≡ true
    → ((rounds_given plan.rounds spans g i).from < (rounds_given plan.rounds spans g i).until) × ((rounds_given plan.rounds spans g i).until ≤ plan.rounds)
unfolding rounds_given
given_right plan [] g i some inside = (some, omega arith)
given_right plan (s ∷ ss) g i some inside = by_test (is_of g i s) (given_right plan ss g i some b.1)
  where
    b : (is_in_plan plan s ≡ true) × (list_all (is_in_plan plan) ss ≡ true)
    b = and_parts (is_in_plan plan s) (list_all (is_in_plan plan) ss) inside

    by_test : (t : Bool) → ((rounds_given plan.rounds ss g i).from < (rounds_given plan.rounds ss g i).until) × ((rounds_given plan.rounds ss g i).until ≤ plan.rounds)
        → ((if t then rounds_of s else rounds_given plan.rounds ss g i).from < (if t then rounds_of s else rounds_given plan.rounds ss g i).until)
        × ((if t then rounds_of s else rounds_given plan.rounds ss g i).until ≤ plan.rounds)
    by_test true ih = let one = b.0 in (grind (arith, nat_tests, one), grind (arith, nat_tests, one))
    by_test false ih = ih

-- a plan that is stated without fault is within the limits, with these spans or without
pub within : (groups : List GroupPlan) (rounds w1 w2 : ℕ) (spans : List Span) → first_fault groups rounds w1 w2 ≡ None → AreNamed groups
    → IsWithinLimits (settled (new.plan_of groups rounds w1 w2) spans)
within groups rounds w1 w2 spans sound named =
    let plan = new.plan_of groups rounds w1 w2 in
    by_fault (span_fault plan spans) refl
  where
    some_round : 1 ≤ rounds
    some_round = (right_rounds rounds (are_right groups rounds w1 w2 sound).round).0

    again : map stated (map (group_of rounds) groups) ≡ groups
    again = stated_again rounds groups

    by_fault : (fault : Option SpanError) → span_fault (new.plan_of groups rounds w1 w2) spans ≡ fault → IsWithinLimits (settled_by (new.plan_of groups rounds w1 w2) spans fault)
    by_fault None e =
        let plan = new.plan_of groups rounds w1 w2 in
        let inside = inside_all plan [] spans e in
        let same = with_stated plan spans ∙ again in
        let each : (g i : ℕ) → i < size (with_spans plan spans).groups g → (span_of (with_spans plan spans).groups g i ≡ rounds_given rounds spans g i) =
        λ g i lt. span-with plan spans g i (let s = size-with plan spans g in omega (arith, lt, s)) in
        limits (with_spans plan spans) (ap (λ gs. first_fault gs rounds w1 w2) same ∙ sound) (subst AreNamed (sym same) named) (record {
          some = λ g i lt. rw (each g i lt) (given_right plan spans g i some_round inside).0;
          within = λ g i lt. rw (each g i lt) (given_right plan spans g i some_round inside).1;
        })
    by_fault (Some fault) e =
        let plan = new.plan_of groups rounds w1 w2 in
        limits plan (ap (λ gs. first_fault gs rounds w1 w2) again ∙ sound) (subst AreNamed (sym again) named) (record {
          some = λ g i lt. rw (whole_spans rounds groups g i lt) some_round;
          within = λ g i lt. rw (whole_spans rounds groups g i lt) (omega arith);
        })

-- ---- the keys

there : (o : Option (List ℕ)) → is_none o ≡ false → is_some o ≡ true
there None h = absurd cc
there (Some key) h = refl

none_lacks : (keys : Keys) (ids : List KeyId) (y : KeyId) → find (λ which. is_none (keys.key which)) ids ≡ None → list_any (same_id y) ids ≡ true → is_some (keys.key y) ≡ true
none_lacks keys [] y none some = absurd cc
none_lacks keys (x ∷ xs) y none some = by_tests (is_none (keys.key x)) refl none (same_id y x) refl some (none_lacks keys xs y)
  where
    by_tests : (a : Bool) → is_none (keys.key x) ≡ a → (if a then Some x else find (λ which. is_none (keys.key which)) xs) ≡ None → (b : Bool) → same_id y x ≡ b → (b || list_any (same_id y) xs) ≡ true
        → (find (λ which. is_none (keys.key which)) xs ≡ None → list_any (same_id y) xs ≡ true → is_some (keys.key y) ≡ true) → is_some (keys.key y) ≡ true
    by_tests true e none b f some ih = absurd cc
    by_tests false e none true f some ih = there (keys.key y) (ap (λ z. is_none (keys.key z)) (same_is y x f) ∙ e)
    by_tests false e none false f some ih = ih none some

all_there : (keys : Keys) → first_missing keys ≡ None → IsComplete keys
unfolding first_missing
all_there keys none y is = none_lacks keys (plan_keys keys.plan) y none (keys_all keys.plan y is)

-- ---- the whole file

stated_well : (fault : Option PlanError) (plan other : PlanView) → unless (option_map (λ e. in_row 0 (cause.Plan e)) fault) plan ≡ Ok other → (fault ≡ None) × (plan ≡ other)
stated_well None plan other h = (refl, let e : plan ≡ other = cc in e)
stated_well (Some e) plan other h = absurd cc

-- what is left where no key is missing
abbrev said : Gathered → PlanFileView
said gathered = record { plan = gathered.keys.plan; keys = gathered.keys; lanes = gathered.lanes }

none_is_missing : (missing : Option KeyId) (gathered : Gathered) (file : PlanFileView) → unless_missing missing gathered ≡ Ok file → (missing ≡ None) × (said gathered ≡ file)
none_is_missing None gathered file h = (refl, let e : said gathered ≡ file = cc in e)
none_is_missing (Some which) gathered file h = absurd cc

same_ok : (one other : Opened) (r : Result Opened FileFault) → r ≡ Ok one → r ≡ Ok other → one ≡ other
same_ok one other r first second = cc

pub accepted_plans : AcceptedPlansAreWhole
unfolding plan_of plan_from opened_from stated_plan with_entries
accepted_plans bytes file is =
    let rows = file_rows bytes in
    let opened : PlanView → List GroupPlan → List PlanRow → Opened = λ plan groups entries. record { plan = plan; first = 4 + length groups; entries = entries } in
    let filled : Opened → Result PlanFileView FileFault = λ o. with_entries o.plan o.first o.entries in
    let last : PlanHead → List GroupPlan → List PlanRow → Result Opened FileFault = λ head groups entries. stated_plan head groups >>= (λ plan. Ok (opened plan groups entries)) in
    let third : PlanHead → List GroupPlan → Result Opened FileFault = λ head groups. entries_from Whole (4 + length groups) (drop (3 + length groups) rows) >>= last head groups in
    let second : PlanHead → Result Opened FileFault = λ head. groups_from 4 (drop 3 rows) >>= third head in
    let o = went_well (opened_from Whole rows) filled file is in
    let a = went_well (head_of Whole rows) second o.0 o.1 in
    let b = went_well (groups_from 4 (drop 3 rows)) (third a.0) o.0 a.2 in
    let d = went_well (entries_from Whole (4 + length b.0) (drop (3 + length b.0) rows)) (last a.0 b.0) o.0 b.2 in
    let rounds = a.0.rounds in
    let w1 = a.0.windows.reading in
    let w2 = a.0.windows.recovery in
    let e = went_well (stated_plan a.0 b.0) (λ plan. Ok (opened plan b.0 d.0)) o.0 d.2 in
    let same : opened e.0 b.0 d.0 ≡ o.0 = same_ok (opened e.0 b.0 d.0) o.0 (Ok (opened e.0 b.0 d.0)) refl e.2 in
    let read : with_entries e.0 (4 + length b.0) d.0 ≡ Ok file = ap filled same ∙ o.2 in
    let stated = stated_well (first_fault b.0 rounds w1 w2) (new.plan_of b.0 rounds w1 w2) e.0 e.1 in
    let spans = spans_of d.0 in
    let plan = settled e.0 spans in
    let fault = span_fault e.0 spans in
    let f = went_well (gather (last_tick plan) fault (4 + length b.0) (nothing plan) d.0) completed file read in
    let g = none_is_missing (first_missing f.0.keys) f.0 file f.2 in
    let kept : f.0.keys.plan ≡ plan = gather_keeps (last_tick plan) fault (4 + length b.0) (nothing plan) f.0 d.0 f.1 in
    let fits : IsWithinLimits (settled (new.plan_of b.0 rounds w1 w2) spans) = within b.0 rounds w1 w2 spans stated.0 (groups_named 4 (drop 3 rows) b.0 b.1) in
    let limits_there : IsWithinLimits plan = subst (λ p. IsWithinLimits (settled p spans)) stated.1 fits in
    subst IsWhole g.1 (record { limits = subst IsWithinLimits (sym kept) limits_there; same_plan = refl; complete = all_there f.0.keys g.0 })
