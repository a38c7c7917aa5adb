use Rattle.std.proofs.Common.{◌++◌}
use Rattle.transcript_feed.proofs.IntakeLemmas.{none_wait}
use Rattle.transcript_feed.proofs.intake.read_on.Goals as goal

pub returns : goal.returns
returns g c = λ version before is.
    none_wait g.S.EntrySink.has version (before ++ c.args.bytes.now) c.new.result.items c.in_ok-body.body c.new.ensures.items (c.in_ok-body.ensures version before is)
