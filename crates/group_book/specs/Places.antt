-- The rounds of a plan, one after another by groups, and the kinds of tags.
use Rattle.std.specs.Prelude.{ℕ, ◌+◌, ◌*◌, nat_lt, Bool, ◌&&◌, length}
use Rattle.group_plan.specs.declared.Kind.{Kind}
use Rattle.group_plan.specs.declared.Kind.TheVariants.{Reading, Announcement, Answer}
use Rattle.group_plan.specs.Plans.{PlanView}

-- whether the plan has this group and round
abbrev pub is_round : PlanView → ℕ → ℕ → Bool
is_round plan g r = nat_lt g (length plan.groups) && nat_lt r plan.rounds

-- how many rounds all groups have together
abbrev pub all_rounds : PlanView → ℕ
all_rounds plan = plan.rounds * length plan.groups

-- the number of a round of a group
abbrev pub page_at : PlanView → ℕ → ℕ → ℕ
page_at plan g r = g * plan.rounds + r

-- the number of a kind
abbrev pub kind_number : Kind → ℕ
kind_number Reading = 0
kind_number Announcement = 1
kind_number Answer = 2
