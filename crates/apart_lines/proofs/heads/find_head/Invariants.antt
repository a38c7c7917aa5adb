use Rattle.std.proofs.Common.{◌≡◌, ◌+◌, ◌≤◌, length}
use Rattle.apart_lines.specs.Heads.{head_found}
use Rattle.apart_lines.proofs.heads.find_head.Given as goal

abbrev pub invariant-loop-expected : goal.invariant-loop-expected
invariant-loop-expected l = record {
  same : head_found 1 l.fn.head l.fn.text ≡ head_found l.line l.left l.rest;
  few : l.line + length l.left ≤ 1 + length l.fn.head;
}

abbrev pub decreases-loop-expected : goal.decreases-loop-expected
decreases-loop-expected l = length l.left
