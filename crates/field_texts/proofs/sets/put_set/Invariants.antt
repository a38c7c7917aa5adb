use Rattle.std.proofs.Common.{◌≡◌, ◌++◌, ◌∷◌}
use Rattle.field_texts.proofs.Plus.{plus}
use Rattle.field_texts.proofs.sets.put_set.Given as goal

abbrev pub invariant-loop-meter : goal.invariant-loop-meter
invariant-loop-meter l = record { all : l.fn.set ≡ l.first ∷ (l.yielded ++ l.meter-iterator); out : l.out.items ≡ l.fn.out.items ++ plus (l.first ∷ l.yielded) }
