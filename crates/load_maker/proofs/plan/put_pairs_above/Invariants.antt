use Rattle.std.proofs.Common.{◌≡◌, ◌++◌, ◌*◌, ◌+◌, ◌-◌, map}
use Rattle.std.specs.List.{range_with_len}
use Rattle.pair_keys.specs.declared.KeyId.TheVariants.{Pair}
use Rattle.load_maker.specs.Drawing.{ahead}
use Rattle.load_maker.specs.Writing.{keys_text}
use Rattle.load_maker.proofs.plan.put_pairs_above.Given as goal

-- the rows so far are written
abbrev pub invariant-loop-high : goal.invariant-loop-high
invariant-loop-high l = record {
  written : l.out.items ≡ l.fn.out.items ++ keys_text l.fn.stream (map (Pair l.group l.low) (range_with_len (l.low + 1) (l.high - (l.low + 1))));
  stream : l.stream ≡ ahead l.fn.stream (8 * (l.high - (l.low + 1)));
}
