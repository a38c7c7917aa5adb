use Rattle.std.proofs.Common.{◌∷◌, ◌++◌, ◌∙◌, ap}
use Rattle.group_plan.specs.Tables.{reading}
use Rattle.plan_files.specs.Spelling.{reading_field}
use Rattle.plan_files.proofs.WrittenRows.{written_more}
use Rattle.plan_files.proofs.writing.put_meters.Goals as goal

pub loop-meter-preserved : goal.loop-meter-preserved
loop-meter-preserved c =
    written_more (λ i. 44 ∷ reading_field (reading c.args.readings.now.table c.args.group c.args.round i)) c.loop-meter.meter c.args.out.now.items c.loop-meter.out.items
    c.put_reading.new.out.items c.loop-meter.invariant (c.in_ok-put_reading.ensures ∙ ap (λ v. c.loop-meter.out.items ++ 44 ∷ reading_field v) c.get.ensures.reading)
