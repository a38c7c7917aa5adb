use Rattle.std.proofs.Common.{◌≡◌, ◌∙◌, [], Ok, ap, get_or, sym, true, rules}
use Rattle.group_plan.specs.Names.{is_name}
use Rattle.plan_files.specs.KeptRows.{fields_in}
use Rattle.plan_files.specs.PlanRows.{name_in}
use Rattle.plan_files.proofs.KeptLemmas.{name_whole, same_name}
use Rattle.plan_files.proofs.row.name_field.Goals as goal

pub returns-in-Some : goal.returns-in-Some
unfolding name_in
returns-in-Some c =
    let text = get_or (fields_in c.args.row.now) c.args.place [] in
    let kept = c.kept_field.ensures in
    let named : is_name text ≡ true = sym (same_name text) ∙ ap is_name (sym kept) ∙ search rules in
    rw named (ap Ok (c.in-Some.ensures.1 ∙ kept ∙ name_whole text (same_name text ∙ named)))
