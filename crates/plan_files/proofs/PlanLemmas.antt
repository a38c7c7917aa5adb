-- The steps of the reading of a plan file.
use Rattle.std.proofs.Common.{◌≡◌, ℕ, suc, ◌<◌, ◌≤◌, Bool, true, false, not, if◌then◌else◌, List, [], ◌∷◌, ◌++◌, Option, None, Some, Result, Ok, Err, refl, sym, ap, subst, ◌∙◌, ◌+◌, length, length-append, drop, arith}
use Rattle.group_plan.specs.NewPlans.{MakesPlan}
use Rattle.group_plan.specs.Plans.{PlanView, last_tick}
use Rattle.std.specs.List.{list_any}
use Rattle.group_plan.specs.Spans.{is_in_plan, is_of, span_fault, span_fault_from, with_spans}
use Rattle.group_plan.specs.declared.plan.GroupPlan.{GroupPlan}
use Rattle.group_plan.specs.declared.plan.PlanError.{PlanError}
use Rattle.group_plan.specs.declared.plan.PlanError.TheVariants as of_plan
use Rattle.group_plan.specs.declared.plan.members.Span.{Span}
use Rattle.group_plan.specs.declared.plan.members.SpanError.{SpanError}
use Rattle.group_plan.specs.declared.plan.members.SpanError.TheVariants as of_span
use Rattle.pair_keys.specs.Keys.{Keys}
use Rattle.plan_files.specs.Faults.{◌>>=◌, Fails, in_row}
use Rattle.plan_files.proofs.FormLemmas.{fails_too}
use Rattle.plan_files.specs.Gathering.{Gathered, Settles, gather, nothing, settled, settled_by, spans_of}
use Rattle.plan_files.specs.MissingKeys.{first_missing}
use Rattle.plan_files.specs.PlanFiles.{Opened, PlanEnds, PlanFileView, completed, filled_in, opened_from, place_of, stated_plan, with_entries, with_members}
use Rattle.plan_files.specs.PlanForms.{entries_from, groups_from, head_of}
use Rattle.plan_files.specs.declared.entry.PlanRow.{PlanRow}
use Rattle.plan_files.specs.declared.entry.PlanRow.TheVariants as entry
use Rattle.plan_files.specs.declared.fault.Failed.{Failed}
use Rattle.plan_files.specs.declared.fault.FileCause.TheVariants as cause
use Rattle.plan_files.specs.declared.fault.FileFault.{FileFault}
use Rattle.plan_files.specs.declared.form.PlanForm.{PlanForm}
use Rattle.plan_files.specs.declared.head.PlanHead.{PlanHead}

pub stated : (head : PlanHead) (groups : List GroupPlan) (plan : PlanView) → MakesPlan groups head.rounds head.windows.reading head.windows.recovery (Ok plan)
    → stated_plan head groups ≡ Ok plan
unfolding stated_plan
stated head groups plan made = rw made.0 (ap Ok (sym made.1))

pub not_stated : (head : PlanHead) (groups : List GroupPlan) (error : PlanError) → (error ≡ of_plan.Memory → ⊥) → MakesPlan groups head.rounds head.windows.reading head.windows.recovery (Err error)
    → stated_plan head groups ≡ Err (in_row 0 (cause.Plan error))
unfolding stated_plan
not_stated head groups of_plan.NoGroup other wrong = rw wrong refl
not_stated head groups (of_plan.TooManyGroups n) other wrong = rw wrong refl
not_stated head groups (of_plan.SameName g h) other wrong = rw wrong refl
not_stated head groups (of_plan.Meters g) other wrong = rw wrong refl
not_stated head groups (of_plan.Floor g) other wrong = rw wrong refl
not_stated head groups of_plan.Rounds other wrong = rw wrong refl
not_stated head groups of_plan.Window other wrong = rw wrong refl
not_stated head groups (of_plan.TooManyReadings n) other wrong = rw wrong refl
not_stated head groups of_plan.Memory other wrong = absurd (other refl)
not_stated head groups (of_plan.TooManyPairs n) other wrong = rw wrong refl

-- all keys are there
pub whole_file : (gathered : Gathered) (plan : PlanView) (keys : Keys) → first_missing gathered.keys ≡ None → gathered.keys.plan ≡ plan → keys ≡ gathered.keys
    → completed gathered ≡ Ok (record { plan = plan; keys = keys; lanes = gathered.lanes })
whole_file gathered plan keys none same table =
    let file : PlanView → Keys → PlanFileView = λ p k. record { plan = p; keys = k; lanes = gathered.lanes } in
    rw none (ap (λ p. Ok (file p gathered.keys)) same ∙ ap (λ k. Ok (file plan k)) (sym table))

-- ---- the steps in turn

-- the fault of a step is that of all
pub fails : {A B : Type 0} (x : Result A FileFault) (f : A → Result B FileFault) (failed : Failed FileFault) → Fails x failed → Fails (x >>= f) failed
fails x f failed wrong = fails_too x (x >>= f) failed (λ fault (w : x ≡ Err fault). rw w refl) wrong

-- the same behind steps that went well
behind : (u v : Result PlanFileView FileFault) (failed : Failed FileFault) → u ≡ v → Fails v failed → Fails u failed
behind u v failed same wrong = subst (λ (r : Result PlanFileView FileFault). Fails r failed) (sym same) wrong

pub filled : (plan new : PlanView) (fault : Option SpanError) (n : ℕ) (entries : List PlanRow) (spans : List Span) → spans ≡ spans_of entries → Settles plan spans new fault
    → with_entries plan n entries ≡ filled_in new fault n entries
unfolding with_entries
filled plan new fault n entries spans is settles =
    ap (λ (s : List Span). filled_in (settled plan s) (span_fault plan s) n entries) (sym is)
    ∙ (ap (λ (p : PlanView). filled_in p (span_fault plan spans) n entries) (sym settles.plan) ∙ ap (λ (f : Option SpanError). filled_in new f n entries) (sym settles.faulty))

pub bad_entries : (plan new : PlanView) (fault : Option SpanError) (n : ℕ) (entries : List PlanRow) (spans : List Span) (failed : Failed FileFault) → spans ≡ spans_of entries → Settles plan spans new fault
    → Fails (gather (last_tick new) fault n (nothing new) entries) failed → PlanEnds (with_entries plan n entries) (Err failed)
bad_entries plan new fault n entries spans failed is settles wrong =
    behind (with_entries plan n entries) (filled_in new fault n entries) failed (filled plan new fault n entries spans is settles) (fails (gather (last_tick new) fault n (nothing new) entries) completed failed wrong)

pub good_entries : (plan new : PlanView) (fault : Option SpanError) (n : ℕ) (entries : List PlanRow) (spans : List Span) (gathered : Gathered) → spans ≡ spans_of entries → Settles plan spans new fault
    → gather (last_tick new) fault n (nothing new) entries ≡ Ok gathered → with_entries plan n entries ≡ completed gathered
good_entries plan new fault n entries spans gathered is settles right = filled plan new fault n entries spans is settles ∙ rw right refl

-- ---- the spans of a public plan

-- a fault of spans is at the place of one of them
pub fault_within : (plan : PlanView) (before spans : List Span) (e : SpanError) → span_fault_from plan before spans ≡ Some e → place_of e < length before + length spans
unfolding span_fault_from
fault_within plan before [] e is = absurd cc
fault_within plan before (s ∷ ss) e is =
    by_tests (is_in_plan plan s) (list_any (is_of s.group s.meter) before) (fault_within plan (before ++ s ∷ []) ss e) is
  where
    here : (f : SpanError) → place_of f ≡ length before → f ≡ e → place_of e < length before + suc (length ss)
    here f at same = let h = sym (ap place_of same) ∙ at in omega (arith, h)

    by_tests : (a b : Bool) → (span_fault_from plan (before ++ s ∷ []) ss ≡ Some e → place_of e < length (before ++ s ∷ []) + length ss)
        → (if not a then Some (of_span.Range (length before)) else if b then Some (of_span.Twice (length before)) else span_fault_from plan (before ++ s ∷ []) ss) ≡ Some e
        → place_of e < length before + suc (length ss)
    by_tests false b later is = here (of_span.Range (length before)) refl cc
    by_tests true true later is = here (of_span.Twice (length before)) refl cc
    by_tests true false later is = let lt = later is in omega (arith, lt, length-append before (s ∷ []))

pub few_spans : (entries : List PlanRow) → length (spans_of entries) ≤ length entries
few_spans [] = omega arith
few_spans (entry.Own g i key ∷ es) = let rest = few_spans es in omega (arith, rest)
few_spans (entry.Pair g low high key ∷ es) = let rest = few_spans es in omega (arith, rest)
few_spans (entry.Lane lane ∷ es) = let rest = few_spans es in omega (arith, rest)
few_spans (entry.Member span ∷ es) = let rest = few_spans es in omega (arith, rest)

pub members_settled : (plan new : PlanView) (n : ℕ) (spans : List Span) → Settles plan spans new None → with_members plan n spans ≡ Ok new
unfolding with_members
members_settled plan new n spans is =
    let none : span_fault plan spans ≡ None = sym is.faulty in
    let same : new ≡ with_spans plan spans = is.plan ∙ ap (settled_by plan spans) none in
    rw none (ap Ok (sym same))

pub members_refused : (plan new : PlanView) (n : ℕ) (spans : List Span) (e : SpanError) → Settles plan spans new (Some e)
    → with_members plan n spans ≡ Err (in_row (n + place_of e) (cause.Member e))
unfolding with_members
members_refused plan new n spans e is = let some : span_fault plan spans ≡ Some e = sym is.faulty in rw some refl

-- ---- the rows of a file

pub bad_head : (form : PlanForm) (rows : List (List (List ℕ))) (failed : Failed FileFault) → Fails (head_of form rows) failed → Fails (opened_from form rows) failed
unfolding opened_from
bad_head form rows failed wrong = fails_too (head_of form rows) (opened_from form rows) failed (λ fault (w : head_of form rows ≡ Err fault). rw w refl) wrong

-- the first steps went well
pub record IsBegun (form : PlanForm) (rows : List (List (List ℕ))) (first : PlanHead) (named : List GroupPlan) : Type 0 where
  pub head : head_of form rows ≡ Ok first
  pub groups : groups_from 4 (drop 3 rows) ≡ Ok named

-- all rows have their form
pub record IsFormed (form : PlanForm) (rows : List (List (List ℕ))) (first : PlanHead) (named : List GroupPlan) (others : List PlanRow) : Type 0 where
  pub begun : IsBegun form rows first named
  pub entries : entries_from form (4 + length named) (drop (3 + length named) rows) ≡ Ok others

pub bad_groups : (form : PlanForm) (rows rest : List (List (List ℕ))) (head : PlanHead) (failed : Failed FileFault) → head_of form rows ≡ Ok head → rest ≡ drop 3 rows
    → Fails (groups_from 4 rest) failed → Fails (opened_from form rows) failed
unfolding opened_from
bad_groups form rows rest head failed first is wrong =
    fails_too (groups_from 4 rest) (opened_from form rows) failed (λ fault (w : groups_from 4 rest ≡ Err fault). let found = ap (groups_from 4) (sym is) ∙ w in rw (first, found) refl) wrong

pub bad_rows : (form : PlanForm) (rows rest : List (List (List ℕ))) (n : ℕ) (head : PlanHead) (groups : List GroupPlan) (failed : Failed FileFault) → IsBegun form rows head groups → n ≡ 4 + length groups → rest ≡ drop (3 + length groups) rows
    → Fails (entries_from form n rest) failed → Fails (opened_from form rows) failed
unfolding opened_from
bad_rows form rows rest n head groups failed begun number is wrong =
    fails_too (entries_from form n rest) (opened_from form rows) failed (λ fault (w : entries_from form n rest ≡ Err fault).
    let found = ap (entries_from form (4 + length groups)) (sym is) ∙ (ap (λ m. entries_from form m rest) (sym number) ∙ w) in rw (begun.head, begun.groups, found) refl) wrong

pub bad_plan : (form : PlanForm) (rows : List (List (List ℕ))) (head : PlanHead) (groups : List GroupPlan) (entries : List PlanRow) (failed : Failed FileFault) → IsFormed form rows head groups entries
    → Fails (stated_plan head groups) failed → Fails (opened_from form rows) failed
unfolding opened_from
bad_plan form rows head groups entries failed formed wrong =
    fails_too (stated_plan head groups) (opened_from form rows) failed (λ fault (w : stated_plan head groups ≡ Err fault). rw (formed.begun.head, formed.begun.groups, formed.entries, w) refl) wrong

pub well_opened : (form : PlanForm) (rows : List (List (List ℕ))) (n : ℕ) (head : PlanHead) (groups : List GroupPlan) (entries : List PlanRow) (plan : PlanView) → IsFormed form rows head groups entries
    → n ≡ 4 + length groups → stated_plan head groups ≡ Ok plan → opened_from form rows ≡ Ok (record { plan = plan; first = n; entries = entries })
unfolding opened_from
well_opened form rows n head groups entries plan formed number made =
    let opened : ℕ → Opened = λ m. record { plan = plan; first = m; entries = entries } in
    rw (formed.begun.head, formed.begun.groups, formed.entries, made) (ap (λ m. Ok (opened m)) (sym number))
