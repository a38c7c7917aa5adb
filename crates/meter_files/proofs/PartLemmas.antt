-- The rows of a meter file, taken in turn.
use Rattle.std.proofs.Common.{◌≡◌, ◌<◌, ◌≤◌, ◌+◌, ◌-◌, nat_lt, ℕ, zero, suc, true, false, List, [], ◌∷◌, ◌++◌, length, drop, Option, Some, None, Result, Ok, Err, refl, sym, ap, arith, append_assoc, append-nil, ◌∙◌}
use Rattle.std.proofs.lemmas.Bool.{lt-ltb}
use Rattle.std.proofs.lemmas.Bool.Decides.{nat_tests}
use Rattle.std.specs.List.{find, range_with_len}
use Rattle.std.specs.Option.{option_map}
use Rattle.std.proofs.Math.Seq.{drop-nil}
use Rattle.group_plan.specs.Plans.{PlanView}
use Rattle.group_plan.specs.Spans.{span_fault}
use Rattle.group_plan.specs.declared.plan.Plan.{Plan}
use Rattle.group_plan.specs.declared.plan.PlanError.TheVariants.{TooManyGroups}
use Rattle.group_plan.specs.declared.plan.members.Span.{Span}
use Rattle.group_plan.specs.declared.plan.members.SpanError.{SpanError}
use Rattle.plan_files.specs.Faults.{◌>>=◌, Ends, Fails, in_row}
use Rattle.plan_files.specs.Gathering.{Settles, settled}
use Rattle.plan_files.specs.PlanFiles.{stated_plan}
use Rattle.plan_files.specs.PlanForms.{after, first_due}
use Rattle.plan_files.specs.PlanRows.{rounds_row}
use Rattle.plan_files.specs.declared.fault.Failed.{Failed}
use Rattle.plan_files.specs.declared.fault.FileCause.TheVariants as cause
use Rattle.plan_files.specs.declared.head.PlanHead.{PlanHead}
use Rattle.plan_files.specs.declared.fault.FileCause.{FileCause}
use Rattle.plan_files.specs.declared.fault.FileFault.{FileFault}
use Rattle.plan_files.proofs.FormLemmas.{fails_too}
use Rattle.meter_files.specs.PartRows.{entries_from, entry_in, head_of, home_in, self_in, title_in}
use Rattle.meter_files.specs.PartFiles.{Gathered, OwnerView, completed, filled_in, gather, lacks, missing_pair, nothing, spans_of, stated_home, take_entry, with_entries}
use Rattle.meter_files.specs.Spelling.{pair_of}
use Rattle.meter_files.specs.declared.part_row.HomeGroup.{HomeGroup}
use Rattle.meter_files.specs.declared.part_row.PartEntry.{PartEntry}

-- ---- the form

after_one : {A : Type 0} (xs : List A) (x : A) (rest : Result (List A) FileFault)
    → after xs (rest >>= (λ more. Ok (x ∷ more))) ≡ after (xs ++ x ∷ []) rest
after_one xs x (Ok more) = ap Ok (sym (append_assoc xs (x ∷ []) more))
after_one xs x (Err fault) = refl

after_none : {A : Type 0} (xs : List A) → after xs (Ok []) ≡ Ok xs
after_none xs = ap Ok (append-nil xs)

pub entries_more : (rows rest : List (List (List ℕ))) (n : ℕ) (row : List (List ℕ)) (entries : List PartEntry) (entry : PartEntry) → rows ≡ row ∷ rest
    → Ok entry ≡ entry_in row → after entries (entries_from n rows) ≡ after (entries ++ entry ∷ []) (entries_from (n + 1) rest)
unfolding entries_from
entries_more rows rest n row entries entry is read = rw (is, ← read) (after_one entries entry (entries_from (n + 1) rest))

pub entries_fault : (rows rest : List (List (List ℕ))) (n : ℕ) (row : List (List ℕ)) (entries : List PartEntry) (what : FileCause) → rows ≡ row ∷ rest
    → Err what ≡ entry_in row → after entries (entries_from n rows) ≡ Err (in_row n what)
unfolding entries_from
entries_fault rows rest n row entries what is read = rw (is, ← read) refl

pub entries_end : (rows : List (List (List ℕ))) (n : ℕ) (entries : List PartEntry) → rows ≡ [] → after entries (entries_from n rows) ≡ Ok entries
unfolding entries_from
entries_end rows n entries none = rw none (after_none entries)

-- ---- the spans

pub spans_end : (entries : List PartEntry) (i : ℕ) → length entries ≤ i → spans_of (drop i entries) ≡ []
spans_end [] i h = rw (drop-nil i) refl
spans_end (e ∷ es) zero h = absurd (omega arith)
spans_end (e ∷ es) (suc i) h = spans_end es i (omega arith)

-- ---- keys and members

pub gather_more : (owner : OwnerView) (fault : Option SpanError) (n : ℕ) (before more : Gathered) (entries rest : List PartEntry) (x : PartEntry) → entries ≡ x ∷ rest
    → take_entry owner fault before x ≡ Ok more → gather owner fault n before entries ≡ gather owner fault (n + 1) more rest
unfolding gather
gather_more owner fault n before more entries rest x is took = rw (is, took) refl

pub gather_refused : (owner : OwnerView) (fault : Option SpanError) (n : ℕ) (before : Gathered) (entries rest : List PartEntry) (x : PartEntry) (what : FileCause) → entries ≡ x ∷ rest
    → take_entry owner fault before x ≡ Err what → gather owner fault n before entries ≡ Err (in_row n what)
unfolding gather
gather_refused owner fault n before entries rest x what is refused = rw (is, refused) refl

pub gather_end : (owner : OwnerView) (fault : Option SpanError) (n : ℕ) (before : Gathered) (entries : List PartEntry) → length entries ≡ 0 → gather owner fault n before entries ≡ Ok before
unfolding gather
gather_end owner fault n before [] none = refl
gather_end owner fault n before (e ∷ es) none = absurd (omega arith)

-- ---- the first rows

pub no_title : (rows : List (List (List ℕ))) (error : FileFault) → Err error ≡ first_due title_in 1 rows → head_of rows ≡ Err error
unfolding head_of
no_title rows error wrong = rw (← wrong) refl

pub no_rounds : (rows second : List (List (List ℕ))) (error : FileFault) → Ok tt ≡ first_due title_in 1 rows → second ≡ drop 1 rows
    → Err error ≡ first_due rounds_row 2 second → head_of rows ≡ Err error
unfolding head_of
no_rounds rows second error title is wrong = rw (← title, ← is, ← wrong) refl

pub no_home : (rows second third : List (List (List ℕ))) (rounds : ℕ) (error : FileFault) → Ok tt ≡ first_due title_in 1 rows → second ≡ drop 1 rows
    → Ok rounds ≡ first_due rounds_row 2 second → third ≡ drop 1 second → Err error ≡ first_due home_in 3 third → head_of rows ≡ Err error
unfolding head_of
no_home rows second third rounds error title is read next wrong = rw (← title, ← is, ← read, ← next, ← wrong) refl

pub no_self : (rows second third fourth : List (List (List ℕ))) (rounds : ℕ) (home : HomeGroup) (error : FileFault) → Ok tt ≡ first_due title_in 1 rows → second ≡ drop 1 rows
    → Ok rounds ≡ first_due rounds_row 2 second → third ≡ drop 1 second → Ok home ≡ first_due home_in 3 third → fourth ≡ drop 1 third
    → Err error ≡ first_due self_in 4 fourth → head_of rows ≡ Err error
unfolding head_of
no_self rows second third fourth rounds home error title is read next found last wrong = rw (← title, ← is, ← read, ← next, ← found, ← last, ← wrong) refl

pub whole_head : (rows second third fourth : List (List (List ℕ))) (rounds : ℕ) (home : HomeGroup) (meter : ℕ) → Ok tt ≡ first_due title_in 1 rows → second ≡ drop 1 rows
    → Ok rounds ≡ first_due rounds_row 2 second → third ≡ drop 1 second → Ok home ≡ first_due home_in 3 third → fourth ≡ drop 1 third
    → Ok meter ≡ first_due self_in 4 fourth → head_of rows ≡ Ok (record { rounds = rounds; home = home; meter = meter })
unfolding head_of
whole_head rows second third fourth rounds home meter title is read next found last own = rw (← title, ← is, ← read, ← next, ← found, ← last, ← own) refl

-- ---- the plan

within : (k n : ℕ) → n ≤ k → nat_lt k n ≡ false
within k n le = grind (arith, nat_tests)

pub too_many : (rounds n : ℕ) (home : HomeGroup) → 255 < home.number → n ≡ home.number → stated_home rounds home ≡ Err (in_row 0 (cause.Plan (TooManyGroups (n + 1))))
unfolding stated_home
too_many rounds n home many is = rw (lt-ltb 255 home.number many, is) refl

-- the head with which the plan of a group alone is stated
abbrev pub alone : ℕ → PlanHead
alone rounds = record { rounds = rounds; windows = record { reading = 1; recovery = 2 } }

pub is_stated : (rounds : ℕ) (home : HomeGroup) (r : Result Plan (Failed FileFault)) → home.number ≤ 255 → Ends (stated_plan (alone rounds) (home.group ∷ [])) r
    → Ends (stated_home rounds home) r
unfolding stated_home
is_stated rounds home r few ends = rw (within 255 home.number few) ends

-- ---- what is missing

-- those from k on are looked at
abbrev pub LooksFrom : OwnerView → List (Option (List ℕ)) → ℕ → Type 0
LooksFrom owner pairs k = find (lacks owner pairs) (range_with_len 0 owner.meters) ≡ find (lacks owner pairs) (range_with_len k (owner.meters - k))

one_more : (k n : ℕ) → k < n → range_with_len k (n - k) ≡ k ∷ range_with_len (k + 1) (n - (k + 1))
one_more k n less = let e : n - k ≡ suc (n - (k + 1)) = omega arith in rw e refl

pub first_found : (owner : OwnerView) (pairs : List (Option (List ℕ))) (k : ℕ) → LooksFrom owner pairs k → k < owner.meters → lacks owner pairs k ≡ true
    → Some (pair_of owner.group owner.meter k) ≡ missing_pair owner pairs
first_found owner pairs k looks less lacking =
    let found : find (lacks owner pairs) (range_with_len k (owner.meters - k)) ≡ Some k = rw (one_more k owner.meters less, lacking) refl in
    sym (ap (option_map (pair_of owner.group owner.meter)) (looks ∙ found))

pub next_looked : (owner : OwnerView) (pairs : List (Option (List ℕ))) (k : ℕ) → LooksFrom owner pairs k → k < owner.meters → lacks owner pairs k ≡ false
    → LooksFrom owner pairs (k + 1)
next_looked owner pairs k looks less there =
    let others : find (lacks owner pairs) (range_with_len k (owner.meters - k)) ≡ find (lacks owner pairs) (range_with_len (k + 1) (owner.meters - (k + 1))) = rw (one_more k owner.meters less, there) refl in
    looks ∙ others

pub none_found : (owner : OwnerView) (pairs : List (Option (List ℕ))) (k : ℕ) → LooksFrom owner pairs k → owner.meters ≤ k → None ≡ missing_pair owner pairs
none_found owner pairs k looks end =
    let e : owner.meters - k ≡ 0 = omega arith in
    let none : find (lacks owner pairs) (range_with_len k (owner.meters - k)) ≡ None = rw e refl in
    sym (ap (option_map (pair_of owner.group owner.meter)) (looks ∙ none))

-- ---- the file

filled : (home new : PlanView) (owner : OwnerView) (fault : Option SpanError) (entries : List PartEntry) (spans : List Span) → owner.meter < owner.meters → spans ≡ spans_of entries
    → Settles home spans new fault → with_entries home owner entries ≡ filled_in new owner fault entries
unfolding with_entries
filled home new owner fault entries spans less is settles =
    rw (lt-ltb owner.meter owner.meters less)
    (ap (λ (s : List Span). filled_in (settled home s) owner (span_fault home s) entries) (sym is)
    ∙ (ap (λ (p : PlanView). filled_in p owner (span_fault home spans) entries) (sym settles.plan) ∙ ap (λ (f : Option SpanError). filled_in new owner f entries) (sym settles.faulty)))

pub good_entries : (home new : PlanView) (owner : OwnerView) (fault : Option SpanError) (entries : List PartEntry) (spans : List Span) (gathered : Gathered) → owner.meter < owner.meters → spans ≡ spans_of entries
    → Settles home spans new fault → gather owner fault 5 (nothing owner.meters) entries ≡ Ok gathered → with_entries home owner entries ≡ completed new owner gathered
good_entries home new owner fault entries spans gathered less is settles right =
    filled home new owner fault entries spans less is settles ∙ ap (λ (g : Result Gathered FileFault). g >>= completed new owner) right

pub bad_entries : (home new : PlanView) (owner : OwnerView) (fault : Option SpanError) (entries : List PartEntry) (spans : List Span) (failed : Failed FileFault) → owner.meter < owner.meters → spans ≡ spans_of entries
    → Settles home spans new fault → Fails (gather owner fault 5 (nothing owner.meters) entries) failed → Fails (with_entries home owner entries) failed
bad_entries home new owner fault entries spans failed less is settles wrong =
    fails_too (gather owner fault 5 (nothing owner.meters) entries) (with_entries home owner entries) failed
    (λ first (w : gather owner fault 5 (nothing owner.meters) entries ≡ Err first).
    filled home new owner fault entries spans less is settles ∙ ap (λ (g : Result Gathered FileFault). g >>= completed new owner) w) wrong
