use Rattle.event_schedule.proofs.VerdictLemmas.{verdict-table, fresh-taken}
use Rattle.event_schedule.proofs.laws.verdicts.Goals as goal

pub returns : goal.returns
returns c = λ s kind g r i past. record { table = verdict-table s kind g r i past; fresh = fresh-taken s kind g r i past }
