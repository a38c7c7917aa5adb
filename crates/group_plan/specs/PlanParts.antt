-- How a plan is kept: its groups, and the spans of all meters, one group after another.
use Rattle.std.specs.Prelude.{◌≡◌, ℕ, ◌<◌, ◌≤◌, List, [], ◌∷◌, length, take, drop, None}
use Rattle.group_plan.specs.Plans.{Rounds, Group, PlanView, size, span_of}
use Rattle.group_plan.specs.NewPlans.{AreNamed, first_fault, meters_of}
use Rattle.group_plan.specs.PlanStarts.{AreStarts}
use Rattle.group_plan.specs.declared.plan.GroupPlan.{GroupPlan}
use Rattle.group_plan.specs.declared.plan.Plan.TheInside.{Inside}

-- the groups, each with the spans of its meters
unfoldable pub groups_of : List GroupPlan → List Rounds → List Group
groups_of [] spans = []
groups_of (g ∷ groups) spans =
    record { name = g.name; floor = g.floor; spans = take g.meters spans } ∷ groups_of groups (drop g.meters spans)

-- the plan that is kept
abbrev pub plan : Inside → PlanView
plan p = record { groups = groups_of p.groups.items p.spans.items; rounds = p.rounds; w1 = p.w1; w2 = p.w2 }

-- every meter's span has a round, and only rounds of the plan
pub record AreSpans (plan : PlanView) : Type 0 where
  pub some : (g i : ℕ) → i < size plan.groups g → (span_of plan.groups g i).from < (span_of plan.groups g i).until
  pub within : (g i : ℕ) → i < size plan.groups g → (span_of plan.groups g i).until ≤ plan.rounds

-- what is kept of a plan is one within the limits
pub record KeepsPlan (p : Inside) : Type 0 where
  pub sound : first_fault p.groups.items p.rounds p.w1 p.w2 ≡ None
  pub named : AreNamed p.groups.items
  pub long : length p.spans.items ≡ meters_of p.groups.items
  pub starts : AreStarts p.starts.items p.groups.items
  pub spans : AreSpans (plan p)
