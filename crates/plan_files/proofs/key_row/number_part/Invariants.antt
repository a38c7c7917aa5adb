use Rattle.std.proofs.Common.{◌≡◌, ◌<◌, ◌^◌, take, decimal}
use Rattle.plan_files.proofs.key_row.number_part.Given as goal

-- the digits so far write the number
abbrev pub invariant-loop-place : goal.invariant-loop-place
invariant-loop-place l = record {
  written : take l.place l.bytes ≡ decimal l.number;
  small : l.number < 2 ^ 32;
}
