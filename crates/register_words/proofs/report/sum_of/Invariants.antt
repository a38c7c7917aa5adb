use Rattle.std.proofs.Common.{◌≡◌, ◌<◌, ◌+◌, ◌^◌, IsTrue, None, sum_by}
use Rattle.std.specs.List.{list_all}
use Rattle.std.specs.Prelude.{slice_index_or}
use Rattle.group_plan.specs.Places.{place_at}
use Rattle.group_plan.specs.Plans.{is_place}
use Rattle.missing_round.specs.Words.{word}
use Rattle.register_words.specs.ReportParts.{word_from}
use Rattle.register_words.proofs.report.sum_of.Given as goal

abbrev pub invariant-loop-meter : goal.invariant-loop-meter
invariant-loop-meter l = record {
  places : IsTrue (list_all (is_place l.plan l.group l.round) l.meter-iterator);
  summed : word (l.sum + sum_by (λ i. word_from l.fn.at l.sides (slice_index_or l.firsts (place_at l.plan l.group l.round i) None)) l.meter-iterator)
      ≡ word (sum_by (λ i. word_from l.fn.at l.sides (slice_index_or l.firsts (place_at l.plan l.group l.round i) None)) l.fn.meters);
  small : l.sum < 2 ^ 64;
}
