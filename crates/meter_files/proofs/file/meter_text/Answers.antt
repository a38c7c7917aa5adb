use Rattle.pair_keys.specs.Keys.{table_of}
use Rattle.meter_files.proofs.RowLemmas.{text_whole}
use Rattle.meter_files.proofs.file.meter_text.Goals as goal

pub returns : goal.returns
returns c =
    text_whole (table_of c.args.keys.now) c.args.group c.args.meter _ _ _ _ _ _ _ _ c.plan-plan.ensures c.new-text.ensures.items c.in_ok-extend_from_slice.ensures.items
    c.in_ok-put_part.ensures c.own.ensures c.in_ok-put_own.ensures c.in_ok-put_pairs.ensures c.in_ok-put_members.ensures
