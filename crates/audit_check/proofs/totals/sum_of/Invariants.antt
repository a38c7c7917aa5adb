use Rattle.std.proofs.Common.{◌≡◌, ◌<◌, ◌+◌, ◌^◌, sum_by}
use Rattle.missing_round.specs.Words.{word}
use Rattle.event_schedule.specs.Frames.{first_word}
use Rattle.audit_check.proofs.totals.sum_of.Given as goal

abbrev pub invariant-loop-meter : goal.invariant-loop-meter
invariant-loop-meter l = record {
  summed : word (l.sum + sum_by (λ i. first_word l.group l.round i l.kind l.rounds.journal) l.meter-iterator) ≡ word (sum_by (λ i. first_word l.group l.round i l.kind l.rounds.journal) l.fn.meters);
  small : l.sum < 2 ^ 64;
}
