use Rattle.std.proofs.Common.{◌≡◌, ◌≤◌, length, take, Some}
use Rattle.field_texts.specs.Parts.{parts}
use Rattle.link_lanes.specs.Texts.{each}
use Rattle.link_lanes.specs.Kinds.{rule_of}
use Rattle.link_lanes.proofs.rules.read_rules.Given as goal

-- the rules so far are those of the parts so far
abbrev pub invariant-loop-text : goal.invariant-loop-text
invariant-loop-text l = record {
  can_next : (goal.iterator-loop-text).can_next l.text-iterator;
  finite : (goal.iterator-loop-text).is_finite l.text-iterator;
  counted : length l.rules.items ≡ length l.yielded;
  few : length l.rules.items ≤ 64;
  read : each rule_of (take (length l.rules.items) (parts 59 l.fn.arg)) ≡ Some l.rules.items;
}
