use Rattle.pair_keys.specs.Keys.{table_of}
use Rattle.meter_files.specs.Spelling.{pair_rows_of}
use Rattle.meter_files.proofs.RowLemmas.{rows_more}
use Rattle.meter_files.proofs.file.put_pairs.Goals as goal

pub loop-other-preserved : goal.loop-other-preserved
loop-other-preserved c =
    rows_more (pair_rows_of (table_of c.args.keys.now) c.args.group c.args.meter) c.loop-other.other c.args.out.now.items c.loop-other.out.items _ c.loop-other.invariant c.in_ok-put_pair_with.ensures
