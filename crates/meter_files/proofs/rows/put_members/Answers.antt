use Rattle.meter_files.specs.Spelling.{member_rows_of}
use Rattle.meter_files.proofs.RowLemmas.{rows_more}
use Rattle.meter_files.proofs.rows.put_members.Goals as goal

pub loop-meter-preserved : goal.loop-meter-preserved
loop-meter-preserved c =
    rows_more (member_rows_of c.args.plan.now c.args.place) c.loop-meter.meter c.args.out.now.items c.loop-meter.out.items _ c.loop-meter.invariant c.in_ok-put_member.ensures
