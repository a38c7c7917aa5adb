use Rattle.std.proofs.Common.{◌≡◌, ◌^◌, nat_lt, drop}
use Rattle.std.specs.List.{list_all}
use Rattle.plan_files.proofs.row.are_readings.Given as goal

-- the numbers so far are readings
abbrev pub invariant-loop-number : goal.invariant-loop-number
invariant-loop-number l = list_all (λ n. nat_lt n (2 ^ 40)) l.numbers ≡ list_all (λ n. nat_lt n (2 ^ 40)) (drop l.number-index l.numbers)
