-- How keys are kept: for each group the own keys by meter, and for each meter the keys of its pairs with the lower ones.
use Rattle.std.specs.Prelude.{◌≡◌, ℕ, ◌<◌, List, length, slice_get, slice_index_or, Option, Some, None, Vec, replicate}
use Rattle.std.specs.declared.alloc.Global.{Global}
use Rattle.group_plan.specs.Plans.{PlanView, size}
use Rattle.pair_keys.specs.declared.KeyId.{KeyId}
use Rattle.pair_keys.specs.declared.KeyId.TheVariants.{Own, Pair}
use Rattle.group_plan.specs.declared.plan.GroupPlan.{GroupPlan}
use Rattle.pair_keys.specs.declared.pile.GroupKeys.{GroupKeys}

-- the own key of a meter of the group
abbrev pub own_in : Option GroupKeys → ℕ → Option (List ℕ)
own_in None i = None
own_in (Some keys) i = slice_index_or keys.own.items i None

-- the keys of a meter's pairs with the lower meters
abbrev pub row_in : Option GroupKeys → ℕ → Option (Vec (Option (List ℕ)) Global)
row_in None high = None
row_in (Some keys) high = slice_get keys.lower.items high

abbrev pub key_in : Option (Vec (Option (List ℕ)) Global) → ℕ → Option (List ℕ)
key_in None low = None
key_in (Some row) low = slice_index_or row.items low None

-- the key of an id, where there is one
abbrev pub kept_key : List GroupKeys → KeyId → Option (List ℕ)
kept_key groups (Own g i) = own_in (slice_get groups g) i
kept_key groups (Pair g low high) = key_in (row_in (slice_get groups g) high) low

-- the place for an own key, where there is one
abbrev pub own_slot : Option GroupKeys → ℕ → Option (Option (List ℕ))
own_slot None i = None
own_slot (Some keys) i = slice_get keys.own.items i

-- the place for the key of a pair with this lower meter, where there is one
abbrev pub pair_slot : Option (Vec (Option (List ℕ)) Global) → ℕ → Option (Option (List ℕ))
pair_slot None low = None
pair_slot (Some row) low = slice_get row.items low

abbrev pub owns_of : Option GroupKeys → ℕ
owns_of None = 0
owns_of (Some keys) = length keys.own.items

abbrev pub rows_of : Option GroupKeys → ℕ
rows_of None = 0
rows_of (Some keys) = length keys.lower.items

abbrev pub length_of : Option (Vec (Option (List ℕ)) Global) → ℕ
length_of None = 0
length_of (Some row) = length row.items

-- there is room for each key of the plan, and for no other
pub record KeepsKeys (plan : PlanView) (groups : List GroupKeys) : Type 0 where
  pub long : length groups ≡ length plan.groups
  pub owns : (g : ℕ) → owns_of (slice_get groups g) ≡ size plan.groups g
  pub rows : (g : ℕ) → rows_of (slice_get groups g) ≡ size plan.groups g
  pub each : (g high : ℕ) → high < size plan.groups g → length_of (row_in (slice_get groups g) high) ≡ high

-- ---- no keys

-- rows of empty places: row k has k of them
pub record AreEmptyRows (meters : ℕ) (rows : List (Vec (Option (List ℕ)) Global)) : Type 0 where
  pub long : length rows ≡ meters
  pub each : (k : ℕ) (d : Vec (Option (List ℕ)) Global) → k < length rows → (slice_index_or rows k d).items ≡ replicate k None

pub record IsEmptyGroup (meters : ℕ) (keys : GroupKeys) : Type 0 where
  pub own : keys.own.items ≡ replicate meters None
  pub lower : AreEmptyRows meters keys.lower.items

-- for each of the first n groups a group without keys
pub record AreEmptyGroups (groups : List GroupPlan) (n : ℕ) (keys : List GroupKeys) : Type 0 where
  pub long : length keys ≡ n
  pub each : (g : ℕ) (d : GroupPlan) (k : GroupKeys) → g < n → IsEmptyGroup (slice_index_or groups g d).meters (slice_index_or keys g k)
