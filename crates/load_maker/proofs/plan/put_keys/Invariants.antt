use Rattle.std.proofs.Common.{◌≡◌, ◌≤◌, ◌++◌, ◌*◌, ◌^◌}
use Rattle.std.specs.List.{flat_map, range_with_len}
use Rattle.plan_files.specs.MissingKeys.{group_keys}
use Rattle.load_maker.specs.Writing.{after_keys, keys_text}
use Rattle.load_maker.proofs.plan.put_keys.Given as goal

-- the rows so far are written
abbrev pub invariant-loop-group : goal.invariant-loop-group
invariant-loop-group l = record {
  written : l.out.items ≡ l.fn.out.items ++ keys_text l.fn.stream (flat_map (λ g. group_keys g l.meters) (range_with_len 0 l.group));
  stream : l.stream ≡ after_keys l.fn.stream (flat_map (λ g. group_keys g l.meters) (range_with_len 0 l.group));
  near : l.stream.word_pos ≤ 2 ^ 20 * l.group;
}
