use Rattle.std.proofs.Common.{arith}
use Rattle.plan_files.proofs.WrittenKeys.{comma_there}
use Rattle.plan_files.proofs.key_row.number_part.Goals as goal

pub returns-then-bytes-place-eq44 : goal.returns-then-bytes-place-eq44
returns-then-bytes-place-eq44 c =
    comma_there c.args.bytes.now c.rest_from.result.now c.loop-place.place c.loop-place.number c.loop-place.invariant.small (omega arith) c.loop-place.invariant.written c.if-bytes-place-eq44.true c.rest_from.ensures
