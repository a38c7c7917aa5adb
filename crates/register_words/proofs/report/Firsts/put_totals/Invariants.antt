use Rattle.std.proofs.Common.{◌≡◌, ◌++◌, List, map}
use Rattle.std.specs.List.{range_with_len}
use Rattle.event_schedule.specs.declared.Line.{Line}
use Rattle.register_words.specs.ReportParts.{KnowsFirsts}
use Rattle.register_words.specs.SideReports.{side_total, totals_text}
use Rattle.register_words.proofs.report.Firsts.put_totals.Given as goal

abbrev pub invariant-loop-at : goal.invariant-loop-at
invariant-loop-at l =
    (ls : List Line) → KnowsFirsts l.plan ls l.self
    → l.out.items ≡ l.fn.out.items ++ totals_text (map (side_total ls l.sides l.group l.round l.meters) (range_with_len 0 l.at))
