use Rattle.std.proofs.Common.{◌≡◌, ◌≤◌, ◌*◌, length}
use Rattle.std.specs.List.{flat_map, range_with_len}
use Rattle.group_plan.specs.Plans.{size}
use Rattle.transcript_text.specs.Spelling.{spans_below}
use Rattle.transcript_text.proofs.entry_lines.all_stated.Given as goal

abbrev pub invariant-loop-group : goal.invariant-loop-group
invariant-loop-group l = record {
  spans : l.stated ≡ length (flat_map (λ g. spans_below l.plan g (size l.plan.groups g)) (range_with_len 0 l.group));
  few : l.stated ≤ 256 * l.group;
}
