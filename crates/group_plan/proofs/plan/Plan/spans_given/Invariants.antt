use Rattle.std.proofs.Common.{◌≡◌, take, drop}
use Rattle.group_plan.specs.Spans.{span_fault, span_fault_from, AreGiven}
use Rattle.group_plan.proofs.Members.{AreMarked}
use Rattle.group_plan.proofs.plan.Plan.spans_given.Given as goal

abbrev pub invariant-loop-at : goal.invariant-loop-at
invariant-loop-at l = record {
  unfaulted : span_fault_from l.self (take l.at l.spans) (drop l.at l.spans) ≡ span_fault l.self l.spans;
  marked : AreMarked l.self (take l.at l.spans) l.given.items;
  placed : AreGiven l.self (take l.at l.spans) l.kept.items;
}
