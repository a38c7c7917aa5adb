use Rattle.std.proofs.Common.{◌≡◌, ◌≤◌}
use Rattle.field_texts.specs.Parts.{parts}
use Rattle.field_texts.specs.Sets.{ahead, ascending, set_of}
use Rattle.field_texts.proofs.SetLoop.{Under}
use Rattle.field_texts.proofs.sets.set.Given as goal

abbrev pub invariant-loop : goal.invariant-loop
invariant-loop l = record { under : Under l.low l.set; turns : l.counter ≤ l.low; small : l.low ≤ 256; so_far : ahead l.set (ascending l.low l.high (parts 43 l.rest)) ≡ set_of l.high l.fn.text }
