-- Bills: what each meter tells in clear of a period, which is the rounds from FROM up to below UNTIL.
use Rattle.std.specs.Prelude.{ℕ, ◌+◌, ◌-◌, min, List, length, map, count_by, sum_by, Option, Some, None, is_some}
use Rattle.std.specs.List.{flat_map, range_with_len}
use Rattle.group_plan.specs.Plans.{PlanView, size}
use Rattle.event_schedule.specs.Tables.{Readings, reading_at}
use Rattle.billing_read.specs.declared.bills.Bill.{Bill}

-- the rounds of a plan that lie in the period, ascending
abbrev pub rounds_in : PlanView → (from until : ℕ) → List ℕ
rounds_in plan from until = range_with_len from (min until plan.rounds - from)

-- the bill of meter i of group g over some rounds: how many readings it has in them, and their sum
abbrev pub bill_over : List ℕ → Readings → (g i : ℕ) → Bill
bill_over rounds x g i = record {
  group = g;
  meter = i;
  readings = count_by (λ r. is_some (x g r i)) rounds;
  sum = sum_by (λ r. reading_at x g r i) rounds;
}

-- its bill of the period
abbrev pub bill : PlanView → (from until : ℕ) → Readings → (g i : ℕ) → Bill
bill plan from until x g i = bill_over (rounds_in plan from until) x g i

-- the bills of all meters, by group and meter
abbrev pub bills : PlanView → (from until : ℕ) → Readings → List Bill
bills plan from until x = flat_map (λ g. map (bill plan from until x g) (range_with_len 0 (size plan.groups g))) (range_with_len 0 (length plan.groups))

-- the bill with one reading more, where there is one
abbrev pub with_reading : Bill → Option ℕ → Bill
with_reading b None = b
with_reading b (Some v) = record b { readings = b.readings + 1; sum = b.sum + v }
