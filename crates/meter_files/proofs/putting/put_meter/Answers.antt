use Rattle.std.proofs.Common.{rules, ◌≡◌}
use Rattle.pair_keys.specs.Keys.{table_of}
use Rattle.meter_files.specs.Spelling.{meter_text, journal_head}
use Rattle.meter_files.proofs.PutLemmas.{first_fails, second_ends}
use Rattle.meter_files.proofs.putting.put_meter.Goals as goal

pub returns-in-Err-clause-puts : goal.returns-in-Err-clause-puts
returns-in-Err-clause-puts g c =
    let text : c.deref.result.now ≡ meter_text (table_of c.args.keys.now) c.args.group c.args.meter = search rules in
    first_fails (table_of c.args.keys.now) c.args.group _ _ _ _ _ _ c.in-Err.ensures.puts text

pub returns-clause-puts : goal.returns-clause-puts
returns-clause-puts g c =
    let text : c.deref.result.now ≡ meter_text (table_of c.args.keys.now) c.args.group c.args.meter = search rules in
    let head : c.deref-2.result.now ≡ journal_head c.plan.result.now c.args.group c.args.group c.args.meter = search rules in
    second_ends (table_of c.args.keys.now) c.args.group _ _ _ _ _ _ c.plan.result.now _ _ c.in_default-put_file.ensures.puts c.put_file-2.ensures.puts text head c.plan.ensures
