-- Plans: groups of meters, the rounds in which each meter is a member, and the limits.
use Rattle.std.specs.Prelude.{◌≡◌, ℕ, ◌+◌, ◌-◌, ◌*◌, ◌/◌, ◌<◌, ◌≤◌, nat_le, nat_lt, Bool, false, ◌&&◌, IsTrue, List, [], length, filter, sum_by, slice_get, slice_index_or, Option, Some, None}
use Rattle.std.specs.List.{range_with_len}
use Rattle.group_plan.specs.Names.{is_name}

-- a span of rounds: from `from` up to below `until`
pub record Rounds : Type 0 where
  pub from : ℕ
  pub until : ℕ

-- a group: its name, the fewest survivors with which a round is announced, and each meter's span
pub record Group : Type 0 where
  pub name : List ℕ
  pub floor : ℕ
  pub spans : List Rounds

-- a plan: its groups, the number of rounds, and the ticks of the reading window and of the recovery window
pub record PlanView : Type 0 where
  pub groups : List Group
  pub rounds : ℕ
  pub w1 : ℕ
  pub w2 : ℕ

-- how many meters a group has, 0 where there is no such group
abbrev pub size_or : Option Group → ℕ
size_or None = 0
size_or (Some g) = length g.spans

-- the floor of a group, 0 where there is no such group
abbrev pub floor_or : Option Group → ℕ
floor_or None = 0
floor_or (Some g) = g.floor

-- the name of a group, empty where there is no such group
abbrev pub name_or : Option Group → List ℕ
name_or None = []
name_or (Some g) = g.name

-- a meter's span, empty where there is no such meter
abbrev pub span_or : Option Group → ℕ → Rounds
span_or None i = record { from = 0; until = 0 }
span_or (Some g) i = slice_index_or g.spans i (record { from = 0; until = 0 })

-- whether a round lies in a span
abbrev pub holds : Rounds → ℕ → Bool
holds span r = nat_le span.from r && nat_lt r span.until

-- whether a meter of this group is a member in round r
abbrev pub is_member_of : Option Group → ℕ → ℕ → Bool
is_member_of None r i = false
is_member_of (Some g) r i = holds (slice_index_or g.spans i (record { from = 0; until = 0 })) r

-- whether meter i of group g is a member in round r
abbrev pub is_member : List Group → ℕ → ℕ → ℕ → Bool
is_member groups g r i = is_member_of (slice_get groups g) r i

-- how many meters group g has
abbrev pub size : List Group → ℕ → ℕ
size groups g = size_or (slice_get groups g)

-- the floor of group g
abbrev pub floor_of : List Group → ℕ → ℕ
floor_of groups g = floor_or (slice_get groups g)

-- the name of group g
abbrev pub name_of : List Group → ℕ → List ℕ
name_of groups g = name_or (slice_get groups g)

-- the span of meter i of group g
abbrev pub span_of : List Group → ℕ → ℕ → Rounds
span_of groups g i = span_or (slice_get groups g) i

-- the members of group g in round r, ascending
abbrev pub members : List Group → ℕ → ℕ → List ℕ
members groups g r = filter (is_member groups g r) (range_with_len 0 (size groups g))

-- whether the plan has this group, round and meter
abbrev pub is_place : PlanView → ℕ → ℕ → ℕ → Bool
is_place plan g r i = nat_lt r plan.rounds && nat_lt i (size plan.groups g)

-- the last tick: the last round's two windows, and the longest way of an answer
abbrev pub last_tick : PlanView → ℕ
last_tick plan = plan.rounds - 1 + plan.w1 + plan.w2 + 32

-- the meters of all groups
abbrev pub all_meters : List Group → ℕ
all_meters groups = sum_by (λ g. length g.spans) groups

-- the pairs among n meters
abbrev pub pairs : ℕ → ℕ
pairs n = n * (n - 1) / 2

-- the pairs of all groups
abbrev pub all_pairs : List Group → ℕ
all_pairs groups = sum_by (λ g. pairs (length g.spans)) groups

-- the limits of every plan
pub record IsWithinLimits (plan : PlanView) : Type 0 where
  pub some_group : 1 ≤ length plan.groups
  pub groups : length plan.groups ≤ 256
  pub names : (g : ℕ) → g < length plan.groups → IsTrue (is_name (name_of plan.groups g))
  pub names_differ : (g h : ℕ) → g < h → h < length plan.groups → ¬ (name_of plan.groups g ≡ name_of plan.groups h)
  pub two_meters : (g : ℕ) → g < length plan.groups → 2 ≤ size plan.groups g
  pub meters : (g : ℕ) → size plan.groups g ≤ 256
  pub floor_from : (g : ℕ) → g < length plan.groups → 2 ≤ floor_of plan.groups g
  pub floor_to : (g : ℕ) → floor_of plan.groups g ≤ size plan.groups g
  pub span_from : (g i : ℕ) → i < size plan.groups g → (span_of plan.groups g i).from < (span_of plan.groups g i).until
  pub span_to : (g i : ℕ) → i < size plan.groups g → (span_of plan.groups g i).until ≤ plan.rounds
  pub some_round : 1 ≤ plan.rounds
  pub rounds : plan.rounds ≤ 4096
  pub w1_from : 1 ≤ plan.w1
  pub w1_to : plan.w1 ≤ 16
  pub w2_from : 2 ≤ plan.w2
  pub w2_to : plan.w2 ≤ 32
  pub readings : plan.rounds * all_meters plan.groups ≤ 131072
  pub pairs : all_pairs plan.groups ≤ 1048576
