use Rattle.std.proofs.Common.{◌≡◌, ◌∙◌, ◌+◌, ℕ, List, [], ◌∷◌, ◌++◌, length, drop, ap, sym, arith, rules, length-append}
use Rattle.plan_files.specs.KeptRows.{fields_in}
use Rattle.plan_files.specs.RowsLeft.{rows_left}
use Rattle.plan_files.specs.PlanForms.{after}
use Rattle.meter_files.specs.PartRows.{entries_from}
use Rattle.meter_files.proofs.PartLemmas.{entries_end, entries_fault, entries_more}
use Rattle.meter_files.proofs.part_file.read_entries.Goals as goal

pub returns-in-Err-clause-fault : goal.returns-in-Err-clause-fault
returns-in-Err-clause-fault c =
    let rows = rows_left c.loop-row.rows in
    let row = fields_in c.in-Some.row.now in
    c.loop-row.invariant.so_far ∙ entries_fault rows (drop 1 rows) c.loop-row.number row c.loop-row.entries.items c.in-Err.cause c.in-Some.ensures.first (search rules)

pub loop-row-preserved : goal.loop-row-preserved
loop-row-preserved c =
    let entries = c.loop-row.entries.items in
    let rows = rows_left c.loop-row.rows in
    let row = fields_in c.in-Some.row.now in
    let items : c.push.new.self.items ≡ entries ++ c.in-Ok.entry ∷ [] = c.in_ok-push-in-Ok.ensures.items in
    let long : length c.push.new.self.items ≡ length entries + 1 = ap length items ∙ length-append entries (c.in-Ok.entry ∷ []) in
    let left : rows_left c.advance.new.self ≡ drop 1 rows = c.in_ok-advance.ensures.rows in
    let one : length rows ≡ length (row ∷ drop 1 rows) = ap length c.in-Some.ensures.first in
    let others : length (rows_left c.advance.new.self) ≡ length (drop 1 rows) = ap length left in
    record {
      sound = c.in_ok-advance.ensures.sound;
      number = omega arith;
      long = omega arith;
      so_far = c.loop-row.invariant.so_far
          ∙ entries_more rows (drop 1 rows) c.loop-row.number row entries c.in-Ok.entry c.in-Some.ensures.first (search rules)
          ∙ ap (λ l. after l (entries_from (c.loop-row.number + 1) (drop 1 rows))) (sym items)
          ∙ ap (λ (l : List (List (List ℕ))). after c.push.new.self.items (entries_from (c.loop-row.number + 1) l)) (sym left);
    }

pub returns-clause-read : goal.returns-clause-read
returns-clause-read c = c.loop-row.invariant.so_far ∙ entries_end (rows_left c.loop-row.rows) c.loop-row.number c.loop-row.entries.items (search rules)
