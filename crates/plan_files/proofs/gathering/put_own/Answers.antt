use Rattle.pair_keys.specs.Keys.{keys_of}
use Rattle.pair_keys.specs.declared.KeyId.TheVariants.{Own}
use Rattle.plan_files.proofs.GatherLemmas.{key_put, key_refused}
use Rattle.plan_files.proofs.gathering.put_own.Goals as goal

pub returns-in-Ok : goal.returns-in-Ok
returns-in-Ok c = key_put (keys_of c.args.keys.now) (keys_of c.put_own.new.self) (Own c.args.group c.args.meter) c.args.key c.in-Ok.ensures

pub returns-in-Err : goal.returns-in-Err
returns-in-Err c = key_refused (keys_of c.args.keys.now) (keys_of c.put_own.new.self) (Own c.args.group c.args.meter) c.args.key c.in-Err.error c.in-Err.ensures
