use Rattle.std.proofs.Common.{rules}
use Rattle.meter_core.proofs.NoteLemmas.{blank-seen}
use Rattle.meter_core.proofs.notes.Notes.new.Goals as goal

pub returns : goal.returns
returns c = blank-seen _ _ c.args.rounds (search rules)
