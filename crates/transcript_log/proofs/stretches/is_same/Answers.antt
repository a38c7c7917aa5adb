use Rattle.std.proofs.Common.{sym, ◌∙◌}
use Rattle.transcript_log.proofs.SameStamps.{same_stamp}
use Rattle.transcript_log.proofs.stretches.is_same.Goals as goal

pub returns : goal.returns
returns c is = same_stamp c.args.one.now c.args.other.now c.fate_is.ensures.few c.fate_is-2.ensures.few (sym c.eq.ensures ∙ is)
