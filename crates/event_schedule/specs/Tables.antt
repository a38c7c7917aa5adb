-- Tables of readings and of masks, as functions of group, round and meter.
use Rattle.std.specs.Prelude.{◌≡◌, ℕ, ◌^◌, ◌<◌, ◌≤◌, true, List, sum_by, Option, is_some, unwrap_or}
use Rattle.group_plan.specs.Plans.{Group, size, is_member}
pub use Rattle.missing_round.specs.Masks.{Masks}

-- the reading of a meter in watt-hours, or none
abbrev pub Readings : Type 0
Readings = ℕ → ℕ → ℕ → Option ℕ

-- a reading as a number, 0 where there is none
abbrev pub reading_at : Readings → ℕ → ℕ → ℕ → ℕ
reading_at x g r i = unwrap_or (x g r i) 0

-- the sum of the readings of these meters
abbrev pub plain_sum : Readings → ℕ → ℕ → List ℕ → ℕ
plain_sum x g r meters = sum_by (reading_at x g r) meters

-- only members of a round have a reading in it
abbrev pub IsOfPlan : List Group → Readings → Type 0
IsOfPlan groups x = (g r i : ℕ) → is_some (x g r i) ≡ true → is_member groups g r i ≡ true

-- the limits: at most 256 meters in a group, and readings below 2^40
pub record IsBounded (groups : List Group) (x : Readings) : Type 0 where
  pub meters : (g : ℕ) → size groups g ≤ 256
  pub readings : (g r i : ℕ) → reading_at x g r i < 2 ^ 40

-- each word of the masks is below 2^64
pub record IsMasks (m : Masks) : Type 0 where
  pub own : (g r i : ℕ) → m.own g r i < 2 ^ 64
  pub pair : (g r i j : ℕ) → m.pair g r i j < 2 ^ 64
