use Rattle.std.proofs.Common.{◌≡◌, drop}
use Rattle.link_lanes.specs.Kinds.{first_fate}
use Rattle.link_lanes.proofs.rules.fate_by.Given as goal

-- the rules that are left give what all give
abbrev pub invariant-loop-rule : goal.invariant-loop-rule
invariant-loop-rule l = first_fate (drop l.rule-index l.rules) l.tag l.coming ≡ first_fate l.rules l.tag l.coming
