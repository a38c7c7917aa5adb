-- The text of bills: a heading and a line for each bill.
use Rattle.std.specs.Prelude.{ℕ, List, [], ◌∷◌, ◌++◌, codes, decimal}
use Rattle.std.specs.List.{flat_map, join_with_byte}
use Rattle.group_plan.specs.Plans.{PlanView, name_of}
use Rattle.billing_read.specs.declared.bills.Bill.{Bill}

-- a line: fields joined by commas, and a newline
abbrev pub line : List (List ℕ) → List ℕ
line fields = join_with_byte 44 fields ++ codes "\n"

-- what the columns are
abbrev pub heading : List ℕ
heading = codes "group,meter,from,until,readings,sum\n"

-- a bill: the name of its group, its meter, the period, how many readings there are, and their sum
unfoldable pub bill_line : PlanView → (from until : ℕ) → Bill → List ℕ
bill_line plan from until b =
    line (name_of plan.groups b.group ∷ decimal b.meter ∷ decimal from ∷ decimal until ∷ decimal b.readings ∷ decimal b.sum ∷ [])

-- the heading, and the line of each bill
abbrev pub bills_text : PlanView → (from until : ℕ) → List Bill → List ℕ
bills_text plan from until list = heading ++ flat_map (bill_line plan from until) list
