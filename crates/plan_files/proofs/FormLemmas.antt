-- What follows from the form of rows.
use Rattle.std.proofs.Common.{◌≡◌, ◌<◌, ◌≤◌, ◌+◌, ℕ, zero, suc, Bool, true, false, not, List, [], ◌∷◌, ◌++◌, length, get_or, drop, codes, Result, Ok, Err, refl, sym, ap, ◌∙◌, arith, append_assoc, append-nil, drop-drop, if◌then◌else◌, nat_lt, inl, inr}
use Rattle.std.proofs.lemmas.Bool.{cases_lt, lt-ltb, ltb-true}
use Rattle.std.proofs.lemmas.List.Folds.{list_all_at}
use Rattle.std.proofs.lemmas.List.Quantifiers.{position-Some}
use Rattle.std.specs.List.{list_all}
use Rattle.group_plan.specs.declared.plan.GroupPlan.{GroupPlan}
use Rattle.link_lanes.specs.ArgBytes.{is_arg_byte}
use Rattle.link_lanes.specs.Args.{MakesArg}
use Rattle.link_lanes.specs.declared.row.ArgError.{ArgError}
use Rattle.link_lanes.specs.declared.row.ArgError.TheVariants as of_arg
use Rattle.plan_files.specs.Faults.{◌>>=◌, Fails, at_row, failed_in_row, in_row}
use Rattle.plan_files.specs.PlanForms.{after, entries_from, first_due, groups_from, head_of, row_due}
use Rattle.plan_files.specs.PlanRows.{entry_of, group_row, rounds_row, starts_with, version_row, windows_row}
use Rattle.plan_files.specs.declared.entry.PlanRow.{PlanRow}
use Rattle.plan_files.specs.declared.fault.Failed.{Failed}
use Rattle.plan_files.specs.declared.fault.Failed.TheVariants.{Memory, Fault}
use Rattle.plan_files.specs.declared.fault.FileCause.{FileCause}
use Rattle.plan_files.specs.declared.fault.FileCause.TheVariants as cause
use Rattle.plan_files.specs.declared.fault.FileFault.{FileFault}
use Rattle.plan_files.specs.declared.form.PlanForm.{PlanForm}
use Rattle.plan_files.specs.declared.head.Windows.{Windows}

not_true : (b : Bool) → not b ≡ true → b ≡ false
not_true true h = cc
not_true false h = cc

-- a text with another byte is no argument
pub no_argument : (text : List ℕ) (error : ArgError) (at : ℕ) → error ≡ of_arg.Byte at → MakesArg text (Err error) → list_all is_arg_byte text ≡ false
no_argument text (of_arg.Byte other) at is found =
    let first = position-Some (λ b. not (is_arg_byte b)) text other 0 found in
    list_all_at is_arg_byte text other 0 first.0 (not_true _ first.1)
no_argument text of_arg.Memory at is found = cc

-- ---- rows in turn

after_one : {A : Type 0} (xs : List A) (x : A) (rest : Result (List A) FileFault)
    → after xs (rest >>= (λ more. Ok (x ∷ more))) ≡ after (xs ++ x ∷ []) rest
after_one xs x (Ok more) = ap Ok (sym (append_assoc xs (x ∷ []) more))
after_one xs x (Err fault) = refl

after_none : {A : Type 0} (xs : List A) → after xs (Ok []) ≡ Ok xs
after_none xs = ap Ok (append-nil xs)

-- ---- the first rows

due_by : {A : Type 0} (form : List (List ℕ) → Result A FileCause) (there : Bool) (rows : List (List (List ℕ))) (place n : ℕ)
    → (there ≡ true → place < length rows) → (there ≡ false → length rows ≤ place)
    → (if there then at_row n (form (get_or rows place [])) else Err (in_row n cause.Short)) ≡ first_due form n (drop place rows)
due_by form true [] place n h k = absurd (let lt = h refl in omega arith)
due_by form false [] zero n h k = refl
due_by form false [] (suc place) n h k = refl
due_by form true (row ∷ rows) zero n h k = refl
due_by form false (row ∷ rows) zero n h k = absurd (let le = k refl in omega arith)
due_by form there (row ∷ rows) (suc place) n h k = due_by form there rows place n (λ e. let lt = h e in omega arith) (λ e. let le = k e in omega arith)

not_there : (place count : ℕ) → nat_lt place count ≡ false → count ≤ place
not_there place count e = elim (cases_lt place count) [ inl lt ↦ absurd (let there = lt-ltb place count lt in cc) | inr ge ↦ ge ]

-- a row at a place is the first of those from there on
due_at : {A : Type 0} (form : List (List ℕ) → Result A FileCause) (rows : List (List (List ℕ))) (place n : ℕ)
    → (if nat_lt place (length rows) then at_row n (form (get_or rows place [])) else Err (in_row n cause.Short)) ≡ first_due form n (drop place rows)
due_at form rows place n = due_by form (nat_lt place (length rows)) rows place n (ltb-true place (length rows)) (not_there place (length rows))

first_row : (form : PlanForm) (rows : List (List (List ℕ))) → row_due (version_row form) rows 0 ≡ first_due (version_row form) 1 rows
unfolding row_due
first_row form rows = due_at (version_row form) rows 0 1

second_row : (rows second : List (List (List ℕ))) → second ≡ drop 1 rows → row_due rounds_row rows 1 ≡ first_due rounds_row 2 second
unfolding row_due
second_row rows second is = due_at rounds_row rows 1 2 ∙ ap (first_due rounds_row 2) (sym is)

third_row : (rows second third : List (List (List ℕ))) → second ≡ drop 1 rows → third ≡ drop 1 second → row_due windows_row rows 2 ≡ first_due windows_row 3 third
unfolding row_due
third_row rows second third is next =
    due_at windows_row rows 2 3 ∙ ap (first_due windows_row 3) (sym (next ∙ ap (drop 1) is ∙ drop-drop 1 1 rows))

pub no_version : (form : PlanForm) (rows : List (List (List ℕ))) (error : FileFault) → first_due (version_row form) 1 rows ≡ Err error → head_of form rows ≡ Err error
unfolding head_of
no_version form rows error wrong = rw (first_row form rows, wrong) refl

pub no_rounds : (form : PlanForm) (rows second : List (List (List ℕ))) (error : FileFault) → first_due (version_row form) 1 rows ≡ Ok tt → second ≡ drop 1 rows
    → first_due rounds_row 2 second ≡ Err error → head_of form rows ≡ Err error
unfolding head_of
no_rounds form rows second error version is wrong = rw (first_row form rows, version, second_row rows second is, wrong) refl

pub no_windows : (form : PlanForm) (rows second third : List (List (List ℕ))) (rounds : ℕ) (error : FileFault) → first_due (version_row form) 1 rows ≡ Ok tt → second ≡ drop 1 rows
    → first_due rounds_row 2 second ≡ Ok rounds → third ≡ drop 1 second → first_due windows_row 3 third ≡ Err error → head_of form rows ≡ Err error
unfolding head_of
no_windows form rows second third rounds error version is read next wrong = rw (first_row form rows, version, second_row rows second is, read, third_row rows second third is next, wrong) refl

pub whole_head : (form : PlanForm) (rows second third : List (List (List ℕ))) (rounds : ℕ) (windows : Windows) → first_due (version_row form) 1 rows ≡ Ok tt → second ≡ drop 1 rows
    → first_due rounds_row 2 second ≡ Ok rounds → third ≡ drop 1 second → first_due windows_row 3 third ≡ Ok windows
    → head_of form rows ≡ Ok (record { rounds = rounds; windows = windows })
unfolding head_of
whole_head form rows second third rounds windows version is read next given = rw (first_row form rows, version, second_row rows second is, read, third_row rows second third is next, given) refl

-- ---- groups

pub groups_more : (rows rest : List (List (List ℕ))) (n m : ℕ) (row : List (List ℕ)) (groups : List GroupPlan) (group : GroupPlan) → rows ≡ row ∷ rest → n + 1 ≡ m
    → starts_with (codes "group") row ≡ true → Ok group ≡ group_row row → after groups (groups_from n rows) ≡ after (groups ++ group ∷ []) (groups_from m rest)
unfolding groups_from
groups_more rows rest n m row groups group is next word read =
    rw (is, word, ← read) (after_one groups group (groups_from (n + 1) rest) ∙ ap (λ k. after (groups ++ group ∷ []) (groups_from k rest)) next)

pub groups_fault : (rows rest : List (List (List ℕ))) (n : ℕ) (row : List (List ℕ)) (groups : List GroupPlan) (what : FileCause) → rows ≡ row ∷ rest
    → starts_with (codes "group") row ≡ true → Err what ≡ group_row row → after groups (groups_from n rows) ≡ Err (in_row n what)
unfolding groups_from
groups_fault rows rest n row groups what is word read = rw (is, word, ← read) refl

pub groups_stop : (rows rest : List (List (List ℕ))) (n : ℕ) (row : List (List ℕ)) (groups : List GroupPlan) → rows ≡ row ∷ rest
    → starts_with (codes "group") row ≡ false → after groups (groups_from n rows) ≡ Ok groups
unfolding groups_from
groups_stop rows rest n row groups is word = rw (is, word) (after_none groups)

pub groups_end : (rows : List (List (List ℕ))) (n : ℕ) (groups : List GroupPlan) → rows ≡ [] → after groups (groups_from n rows) ≡ Ok groups
unfolding groups_from
groups_end rows n groups none = rw none (after_none groups)

-- ---- the rows after the groups

pub entries_more : (form : PlanForm) (rows rest : List (List (List ℕ))) (n : ℕ) (row : List (List ℕ)) (entries : List PlanRow) (entry : PlanRow) → rows ≡ row ∷ rest
    → entry_of form n row ≡ Ok entry → after entries (entries_from form n rows) ≡ after (entries ++ entry ∷ []) (entries_from form (n + 1) rest)
unfolding entries_from
entries_more form rows rest n row entries entry is read = rw (is, read) (after_one entries entry (entries_from form (n + 1) rest))

pub entries_fault : (form : PlanForm) (rows rest : List (List (List ℕ))) (n : ℕ) (row : List (List ℕ)) (entries : List PlanRow) (what : FileCause) → rows ≡ row ∷ rest
    → entry_of form n row ≡ Err what → after entries (entries_from form n rows) ≡ Err (in_row n what)
unfolding entries_from
entries_fault form rows rest n row entries what is read = rw (is, read) refl

pub entries_end : (form : PlanForm) (rows : List (List (List ℕ))) (n : ℕ) (entries : List PlanRow) → rows ≡ [] → after entries (entries_from form n rows) ≡ Ok entries
unfolding entries_from
entries_end form rows n entries none = rw none (after_none entries)

-- ---- want of memory

-- what fails here fails there, where each fault of the one is the other's
pub fails_too : {A B E : Type 0} (here : Result A E) (there : Result B E) (failed : Failed E) → ((fault : E) → here ≡ Err fault → there ≡ Err fault) → Fails here failed → Fails there failed
fails_too here there Memory same wrong = tt
fails_too here there (Fault fault) same wrong = same fault wrong

-- the same of a row and its file
pub row_fails : {A B : Type 0} (n : ℕ) (row : Result A FileCause) (file : Result B FileFault) (failed : Failed FileCause) → ((what : FileCause) → row ≡ Err what → file ≡ Err (in_row n what))
    → Fails row failed → Fails file (failed_in_row n failed)
row_fails n row file Memory same wrong = tt
row_fails n row file (Fault what) same wrong = same what wrong
