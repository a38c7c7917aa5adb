use Rattle.std.proofs.Common.{◌≡◌, List, [], ◌∷◌, ◌++◌, true, rules, subst, sym}
use Rattle.std.specs.Result.{is_ok}
use Rattle.plan_files.specs.KeptRows.{rows_in}
use Rattle.plan_files.specs.WrittenKeys.{AddsRows}
use Rattle.plan_files.specs.declared.entry.PlanRow.{PlanRow}
use Rattle.plan_files.specs.declared.form.PlanForm.TheVariants.{Whole}
use Rattle.plan_files.proofs.WrittenKeys.{adds_one, adds_then}
use Rattle.plan_files.proofs.key_row.take_keys.Goals as goal

pub loop-entry-preserved : goal.loop-entry-preserved
loop-entry-preserved c =
    let rows = rows_in c.args.bytes.now in
    let left = rows_in c.loop-entry.left.now in
    let rest = rows_in c.in-Some.rest.now in
    let entries = c.loop-entry.entries.items in
    let pushed : is_ok c.push.result ≡ true = search rules in
    let items : c.push.new.self.items ≡ entries ++ c.in-Some.entry ∷ [] = rw pushed at c.push.ensures.items in
    subst (λ (l : List PlanRow). AddsRows Whole rows rest c.args.entries.now.items l) (sym items)
    (adds_then Whole rows left rest c.args.entries.now.items entries (entries ++ c.in-Some.entry ∷ []) c.loop-entry.invariant
    (adds_one Whole left rest c.in-Some.ensures.fields entries c.in-Some.entry c.in-Some.ensures.rows c.in-Some.ensures.says))
