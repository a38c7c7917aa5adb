-- Worked rows: three meters over two rounds, where meter 2 has no reading in round 0.
use Rattle.std.specs.Prelude.{ℕ, List, [], ◌∷◌, true, Option}
use Rattle.group_plan.specs.Plans.{PlanView}
use Rattle.event_schedule.specs.Rows.{joining, joining_readings}
use Rattle.event_schedule.specs.Tables.{Readings}
use Rattle.billing_read.specs.declared.bills.Bill.{Bill}
use Rattle.billing_read.specs.declared.partners.Partner.{Partner}
use Rattle.billing_read.specs.Partners.{changed}

-- two rounds, each closed after 1 tick and ended 2 ticks later
abbrev pub two_rounds : PlanView
two_rounds = record { groups = joining; rounds = 2; w1 = 1; w2 = 2 }

-- a bill of the group
abbrev pub bill_of : (meter readings sum : ℕ) → Bill
bill_of meter readings sum = record { group = 0; meter = meter; readings = readings; sum = sum }

-- meter 1 in round 1 is a partner of meter 0 in round 0, with plus
abbrev pub next_partner : Partner
next_partner = record { round = 1; meter = 1; plus = true }

-- the changed readings: of both meters in round 0, and then in round 1
abbrev pub four_changed : List (Option ℕ)
four_changed =
    changed joining_readings 0 0 0 next_partner 0 0 0 ∷ changed joining_readings 0 0 0 next_partner 0 0 1
    ∷ changed joining_readings 0 0 0 next_partner 0 1 0 ∷ changed joining_readings 0 0 0 next_partner 0 1 1 ∷ []
