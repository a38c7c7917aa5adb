use Rattle.std.proofs.Common.{arith, length-take}
use Rattle.std.proofs.lemmas.Bool.Decides.{nat_tests}
use Rattle.plan_files.proofs.WrittenKeys.{key_there, long_there}
use Rattle.plan_files.proofs.key_row.key_part.Goals as goal

pub slice_bounds-read_key-end : goal.slice_bounds-read_key-end
slice_bounds-read_key-end c = let l = length-take 64 c.args.bytes.now in omega (arith, l)

pub returns-clause-key : goal.returns-clause-key
returns-clause-key c = key_there c.args.bytes.now c.read_key.result (omega arith) (grind (arith, nat_tests)) c.read_key.ensures

pub returns-clause-long : goal.returns-clause-long
returns-clause-long c = long_there c.args.bytes.now c.read_key.result (omega arith)
