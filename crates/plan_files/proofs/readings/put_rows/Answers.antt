use Rattle.std.proofs.Common.{◌≡◌, ◌∙◌, ◌/◌, ◌%◌, ◌∷◌, List, ℕ, None, Ok, Option, Some, ap, sym, refl, arith, subst, get_or, drop, drop-drop, length, []}
use Rattle.group_plan.specs.Plans.{size}
use Rattle.group_plan.specs.Tables.{ReadingsView}
use Rattle.plan_files.specs.Faults.{unless}
use Rattle.plan_files.specs.KeptRows.{fields_in}
use Rattle.plan_files.specs.Readings.{row_fault}
use Rattle.plan_files.specs.RegisterParts.{FillsTables}
use Rattle.plan_files.specs.Registers.{register_of, registers_by}
use Rattle.plan_files.specs.RowsLeft.{rows_left}
use Rattle.plan_files.specs.declared.fault.FileFault.{FileFault}
use Rattle.plan_files.proofs.ReadingLemmas.{row_at, rows_extra, rows_found, rows_more, rows_short, rows_whole}
use Rattle.plan_files.proofs.TableLemmas.{FillsAll, all_filled, all_next, all_none, at_row, shapes}
use Rattle.plan_files.proofs.readings.put_rows.Goals as goal

pub loop-row-init : goal.loop-row-init
loop-row-init c =
    let plan = c.args.plan.now in
    let rows = rows_left c.args.rows.now in
    let count = length c.args.tables.now in
    record {
      few = omega arith;
      sound = c.requires.sound;
      rest = refl;
      long = omega arith;
      fault = refl;
      filled = subst (λ (t : List ReadingsView). FillsAll plan rows 0 count t) (sym c.requires.new) (all_none plan rows count);
    }

pub returns-then-at-due-clause-fault : goal.returns-then-at-due-clause-fault
returns-then-at-due-clause-fault c =
    let plan = c.args.plan.now in
    let rows = rows_left c.args.rows.now in
    let before = c.loop-row.invariant in
    let due = c.rows_due-due.ensures.due in
    let row = row_at rows (rows_left c.loop-row.rows) c.loop-row.at (fields_in c.in-Some.row.now) before.rest before.long c.in-Some.ensures.first in
    ap (λ (fault : Option FileFault). unless fault (registers_by plan (length c.args.tables.now) rows))
    (before.fault ∙ rows_extra (register_of (length c.args.tables.now) 0) plan rows c.loop-row.at row.0 (omega (arith, due)))

pub returns-in-Err-clause-fault : goal.returns-in-Err-clause-fault
returns-in-Err-clause-fault c =
    let plan = c.args.plan.now in
    let rows = rows_left c.args.rows.now in
    let count = length c.args.tables.now in
    let before = c.loop-row.invariant in
    let at = c.loop-row.at in
    let due = c.rows_due-due.ensures.due in
    let row = row_at rows (rows_left c.loop-row.rows) at (fields_in c.in-Some.row.now) before.rest before.long c.in-Some.ensures.first in
    let fault : row_fault (register_of count 0) plan (at / plan.rounds) (at % plan.rounds) (get_or rows at []) ≡ Some c.in-Err.cause =
    at_row (λ (k n : ℕ) (fields : List (List ℕ)). row_fault (register_of k 0) plan (at / n) (at % n) fields ≡ Some c.in-Err.cause)
    (length c.loop-row.tables) count c.rounds-rounds.result plan.rounds (fields_in c.in-Some.row.now) (get_or rows at []) before.filled.long c.rounds-rounds.ensures.rounds (sym row.1) c.in-Err.ensures.fault in
    ap (λ (fault : Option FileFault). unless fault (registers_by plan count rows))
    (before.fault ∙ rows_found (register_of count 0) plan rows at c.in-Err.cause row.0 (omega (arith, due)) fault)

pub loop-row-preserved : goal.loop-row-preserved
loop-row-preserved c =
    let plan = c.args.plan.now in
    let rows = rows_left c.args.rows.now in
    let count = length c.args.tables.now in
    let before = c.loop-row.invariant in
    let at = c.loop-row.at in
    let due = c.rows_due-due.ensures.due in
    let row = row_at rows (rows_left c.loop-row.rows) at (fields_in c.in-Some.row.now) before.rest before.long c.in-Some.ensures.first in
    let none : row_fault (register_of count 0) plan (at / plan.rounds) (at % plan.rounds) (get_or rows at []) ≡ None =
    at_row (λ (k n : ℕ) (fields : List (List ℕ)). row_fault (register_of k 0) plan (at / n) (at % n) fields ≡ None)
    (length c.loop-row.tables) count c.rounds-rounds.result plan.rounds (fields_in c.in-Some.row.now) (get_or rows at []) before.filled.long c.rounds-rounds.ensures.rounds (sym row.1) c.in_default-put_row.ensures.fault in
    let fills : FillsTables plan (at / plan.rounds) (at % plan.rounds) (get_or rows at []) (size plan.groups (at / plan.rounds)) c.loop-row.tables c.put_row.new.tables =
    at_row (λ (k n : ℕ) (fields : List (List ℕ)). FillsTables plan (at / n) (at % n) fields (size plan.groups (at / n)) c.loop-row.tables c.put_row.new.tables)
    count count c.rounds-rounds.result plan.rounds (fields_in c.in-Some.row.now) (get_or rows at []) refl c.rounds-rounds.ensures.rounds (sym row.1) c.in_default-put_row.ensures.filled in
    let one : length (rows_left c.loop-row.rows) ≡ length (fields_in c.in-Some.row.now ∷ drop 1 (rows_left c.loop-row.rows)) = ap length c.in-Some.ensures.first in
    let others : length (rows_left c.advance.new.self) ≡ length (drop 1 (rows_left c.loop-row.rows)) = ap length c.in_ok-advance.ensures.rows in
    record {
      few = omega (arith, due);
      sound = c.in_ok-advance.ensures.sound;
      rest = c.in_ok-advance.ensures.rows ∙ ap (drop 1) before.rest ∙ drop-drop 1 at rows ∙ ap (λ n. drop n rows) (omega arith);
      long = let l = before.long in omega (arith, l, one, others);
      fault = before.fault ∙ rows_more (register_of count 0) plan rows at row.0 (omega (arith, due)) none;
      filled = all_next plan rows at count c.loop-row.tables c.put_row.new.tables (omega (arith, due)) before.filled fills;
    }

pub returns-then-at-due-2-clause-fault : goal.returns-then-at-due-2-clause-fault
returns-then-at-due-2-clause-fault c =
    let plan = c.args.plan.now in
    let rows = rows_left c.args.rows.now in
    let before = c.loop-row.invariant in
    let due = c.rows_due-due.ensures.due in
    let none = ap length c.in_default.ensures in
    let long = before.long in
    ap (λ (fault : Option FileFault). unless fault (registers_by plan (length c.args.tables.now) rows))
    (before.fault ∙ rows_short (register_of (length c.args.tables.now) 0) plan rows c.loop-row.at (omega (arith, long, none)) (omega (arith, due)))

pub returns-clause-read : goal.returns-clause-read
returns-clause-read c =
    let plan = c.args.plan.now in
    let rows = rows_left c.args.rows.now in
    let count = length c.args.tables.now in
    let before = c.loop-row.invariant in
    let due = c.rows_due-due.ensures.due in
    let none = ap length c.in_default.ensures in
    let long = before.long in
    ap (λ (fault : Option FileFault). unless fault (registers_by plan count rows))
    (before.fault ∙ rows_whole (register_of count 0) plan rows c.loop-row.at (omega (arith, long, none)) (omega (arith, due)))
    ∙ ap Ok (sym (all_filled plan rows c.loop-row.at count c.loop-row.tables (omega (arith, due)) (shapes plan rows c.loop-row.at count c.loop-row.tables before.filled c.are_tables.ensures) before.filled))
