use Rattle.std.proofs.Common.{◌≡◌, ◌∙◌, ◌+◌, ℕ, List, [], ◌∷◌, ◌++◌, length, drop, ap, sym, subst, arith, rules, length-append, Err}
use Rattle.plan_files.specs.Faults.{Fails}
use Rattle.plan_files.specs.KeptRows.{fields_in}
use Rattle.plan_files.specs.PlanForms.{after, entries_from}
use Rattle.plan_files.specs.PlanRows.{entry_of}
use Rattle.plan_files.specs.RowsLeft.{rows_left}
use Rattle.plan_files.specs.declared.entry.PlanRow.{PlanRow}
use Rattle.plan_files.proofs.FormLemmas.{entries_end, entries_fault, entries_more, row_fails}
use Rattle.plan_files.proofs.WrittenKeys.{adds_long, adds_on}
use Rattle.plan_files.proofs.entry.read_entries.Goals as goal

pub returns-in-Err-clause-fault : goal.returns-in-Err-clause-fault
returns-in-Err-clause-fault c =
    let rows = rows_left c.loop-row.rows in
    let row = fields_in c.in-Some.row.now in
    let entries = c.loop-row.entries.items in
    let number = c.args.first + c.len.result in
    let here : c.args.first + length entries ≡ number = omega arith in
    let all = entries_from c.args.form c.args.first (rows_left c.args.rows.now) in
    subst (λ failed. Fails all failed) (sym c.in_row.ensures)
    (row_fails number (entry_of c.args.form number row) all c.in-Err.failed
    (λ what (wrong : entry_of c.args.form number row ≡ Err what). c.loop-row.invariant.so_far
    ∙ (ap (λ (k : ℕ). after entries (entries_from c.args.form k rows)) here
    ∙ entries_fault c.args.form rows (drop 1 rows) number row entries what c.in-Some.ensures.first wrong))
    c.in-Err.ensures)

pub loop-row-preserved : goal.loop-row-preserved
loop-row-preserved c =
    let entries = c.loop-row.entries.items in
    let rows = rows_left c.loop-row.rows in
    let row = fields_in c.in-Some.row.now in
    let form = c.args.form in
    let first = c.args.first in
    let number = first + c.len.result in
    let here : first + length entries ≡ number = omega arith in
    let more = c.push.new.self.items in
    let items : more ≡ entries ++ c.in-Ok.entry ∷ [] = c.in_ok-push-in-Ok.ensures.items in
    let long : length more ≡ length entries + 1 = ap length items ∙ length-append entries (c.in-Ok.entry ∷ []) in
    let next : number + 1 ≡ first + length more = omega arith in
    let left : rows_left c.advance.new.self ≡ drop 1 rows = c.in_ok-advance.ensures.rows in
    let one : length rows ≡ length (row ∷ drop 1 rows) = ap length c.in-Some.ensures.first in
    let others : length (rows_left c.advance.new.self) ≡ length (drop 1 rows) = ap length left in
    let rest = rows_left c.add_keys-in-Some.new.rows in
    let all = c.add_keys-in-Some.new.entries.items in
    let added = c.in_ok-add_keys-2.ensures.added in
    let count = adds_long form (rows_left c.advance.new.self) rest more all added in
    record {
      sound = c.in_ok-add_keys-2.ensures.sound;
      long = omega arith;
      so_far = c.loop-row.invariant.so_far
          ∙ (ap (λ (k : ℕ). after entries (entries_from form k rows)) here
          ∙ (entries_more form rows (drop 1 rows) number row entries c.in-Ok.entry c.in-Some.ensures.first c.in-Ok.ensures
          ∙ (ap (λ (l : List PlanRow). after l (entries_from form (number + 1) (drop 1 rows))) (sym items)
          ∙ (ap (λ (k : ℕ). after more (entries_from form k (drop 1 rows))) next
          ∙ (ap (λ (l : List (List (List ℕ))). after more (entries_from form (first + length more) l)) (sym left)
          ∙ adds_on form (rows_left c.advance.new.self) rest more all first added)))));
    }

pub returns-clause-read : goal.returns-clause-read
returns-clause-read c =
    c.loop-row.invariant.so_far
    ∙ entries_end c.args.form (rows_left c.loop-row.rows) (c.args.first + length c.loop-row.entries.items) c.loop-row.entries.items (search rules)
