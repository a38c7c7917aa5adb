use Rattle.std.proofs.Common.{◌∙◌}
use Rattle.transcript_feed.proofs.IntakeLemmas.{all_read}
use Rattle.transcript_feed.proofs.intake.Intake.take.Goals as goal

pub returns-then-vain-len : goal.returns-then-vain-len
returns-then-vain-len g c =
    all_read g.S.EntrySink.has c.args.self c.args.bytes.now c.deref.result.now c.read_on-then-vain-len.result (c.deref.ensures.value ∙ c.in_ok-extend_from_slice.ensures.items)
    c.read_on-then-vain-len.ensures
