use Rattle.std.proofs.Common.{◌≡◌, length}
use Rattle.plan_files.proofs.KeyLemmas.{IsReadTo}
use Rattle.plan_files.proofs.key.read_key.Given as goal

-- the pairs so far are read
abbrev pub invariant-loop-place : goal.invariant-loop-place
invariant-loop-place l = record {
  long : length l.key ≡ 32;
  so_far : IsReadTo l.digits l.key l.place l.highest;
}
