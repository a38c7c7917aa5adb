use Rattle.std.proofs.Common.{◌≡◌, ◌++◌, ◌*◌, map}
use Rattle.std.specs.List.{range_with_len}
use Rattle.pair_keys.specs.declared.KeyId.TheVariants.{Own}
use Rattle.load_maker.specs.Drawing.{ahead}
use Rattle.load_maker.specs.Writing.{keys_text}
use Rattle.load_maker.proofs.plan.put_owns.Given as goal

-- the rows so far are written
abbrev pub invariant-loop-meter : goal.invariant-loop-meter
invariant-loop-meter l = record {
  written : l.out.items ≡ l.fn.out.items ++ keys_text l.fn.stream (map (Own l.group) (range_with_len 0 l.meter));
  stream : l.stream ≡ ahead l.fn.stream (8 * l.meter);
}
