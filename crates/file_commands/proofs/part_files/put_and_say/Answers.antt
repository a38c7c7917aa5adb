use Rattle.std.proofs.Common.{◌∙◌, ap, ℕ}
use Rattle.group_plan.specs.Plans.{PlanView, size}
use Rattle.pair_keys.specs.Keys.{table_of}
use Rattle.meter_files.specs.Names.{names_below}
use Rattle.meter_files.specs.Putting.{files_below}
use Rattle.command_texts.specs.Lines.{parts_line}
use Rattle.file_commands.proofs.PartsEndings.{line_said}
use Rattle.file_commands.proofs.part_files.put_and_say.Goals as goal

pub returns-in-Ok-put_parts-clause-ends : goal.returns-in-Ok-put_parts-clause-ends
returns-in-Ok-put_parts-clause-ends g c =
    let keys = table_of c.args.keys.now in
    let n : ℕ = size keys.plan.groups c.args.group in
    let meters = c.meters.ensures.meters ∙ ap (λ (p : PlanView). size p.groups c.args.group) c.plan.ensures in
    line_said c.args.prefix.now (names_below c.args.prefix.now n) (files_below keys c.args.group c.args.prefix.now n) (parts_line n) _ (g.D.Desk.view c.args.desk.now)
    (g.D.Desk.view c.put_parts.new.desk) (g.D.Desk.view c.say.new.desk) c.say.result c.in-Ok-put_parts.ensures.puts.0 c.in-Ok-put_parts.ensures.puts.1
    (c.as_bytes.ensures.value ∙ c.in-Ok.ensures ∙ ap parts_line meters) c.say.ensures.ends
