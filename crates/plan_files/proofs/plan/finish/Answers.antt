use Rattle.pair_keys.specs.Keys.{keys_of}
use Rattle.plan_files.proofs.MissingLemmas.{first_is, none_missing}
use Rattle.plan_files.proofs.plan.finish.Goals as goal

pub returns-in-Ok-clause-whole : goal.returns-in-Ok-clause-whole
returns-in-Ok-clause-whole c = (c.in-Ok.ensures.0, none_missing (keys_of c.args.keys) c.in-Ok.ensures.1)

pub returns-in-Err-clause-missing : goal.returns-in-Err-clause-missing
returns-in-Err-clause-missing c = first_is (keys_of c.args.keys) c.in-Err.unfinished.missing c.in-Err.ensures.1
