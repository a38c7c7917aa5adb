use Rattle.std.proofs.Common.{◌≡◌, ◌≤◌, ◌++◌, ◌*◌, ◌+◌, ◌^◌}
use Rattle.std.specs.List.{flat_map, range_with_len}
use Rattle.plan_files.specs.MissingKeys.{pairs_above}
use Rattle.load_maker.specs.Writing.{after_keys, keys_text}
use Rattle.load_maker.proofs.plan.put_pairs.Given as goal

-- the rows so far are written
abbrev pub invariant-loop-low : goal.invariant-loop-low
invariant-loop-low l = record {
  written : l.out.items ≡ l.fn.out.items ++ keys_text l.fn.stream (flat_map (pairs_above l.group l.meters) (range_with_len 0 l.low));
  stream : l.stream ≡ after_keys l.fn.stream (flat_map (pairs_above l.group l.meters) (range_with_len 0 l.low));
  near : l.stream.word_pos ≤ l.fn.stream.word_pos + 2 ^ 11 * l.low;
}
