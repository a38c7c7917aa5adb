-- The first key that is missing, group by group.
use Rattle.std.specs.Prelude.{◌≡◌, ℕ, ◌<◌, true, List, length, slice_get, slice_index_or, Option, Some, None, is_some, Vec}
use Rattle.std.specs.declared.alloc.Global.{Global}
use Rattle.pair_keys.specs.declared.KeyId.{KeyId}
use Rattle.pair_keys.specs.declared.KeyId.TheVariants.{Own, Pair}
use Rattle.pair_keys.specs.declared.pile.GroupKeys.{GroupKeys}
use Rattle.pair_keys.specs.KeyParts.{own_in, key_in, kept_key}
use Rattle.group_plan.specs.Plans.{PlanView}
use Rattle.pair_keys.specs.Ids.{is_key}

-- whether the rows have the key of a pair
abbrev pub HasPair : List (Vec (Option (List ℕ)) Global) → ℕ → ℕ → Type 0
HasPair rows low high = is_some (key_in (slice_get rows high) low) ≡ true

-- row k has k places
abbrev pub AreRows : List (Vec (Option (List ℕ)) Global) → Type 0
AreRows rows = (k : ℕ) (d : Vec (Option (List ℕ)) Global) → k < length rows → length (slice_index_or rows k d).items ≡ k

-- the pairs of a lower meter with the meters above it and below m
abbrev pub HasRowTo : List (Vec (Option (List ℕ)) Global) → ℕ → ℕ → Type 0
HasRowTo rows low m = (high : ℕ) → low < high → high < m → HasPair rows low high

-- the pairs of all lower meters below l
abbrev pub HasRowsTo : List (Vec (Option (List ℕ)) Global) → ℕ → Type 0
HasRowsTo rows l = (low : ℕ) → low < l → HasRowTo rows low (length rows)

-- a pair that is lacking, while all pairs before it are there
pub record LacksPair (rows : List (Vec (Option (List ℕ)) Global)) (low high : ℕ) : Type 0 where
  pub order : low < high
  pub within : high < length rows
  pub lacking : key_in (slice_get rows high) low ≡ None
  pub before : HasRowTo rows low high
  pub earlier : HasRowsTo rows low

-- an own key that is lacking, while all before it are there
pub record LacksOwn (keys : GroupKeys) (i : ℕ) : Type 0 where
  pub within : i < length keys.own.items
  pub lacking : own_in (Some keys) i ≡ None
  pub before : (j : ℕ) → j < i → is_some (own_in (Some keys) j) ≡ true

abbrev pub HasOwns : GroupKeys → Type 0
HasOwns keys = (i : ℕ) → i < length keys.own.items → is_some (own_in (Some keys) i) ≡ true

-- the first key that group g lacks
abbrev pub FirstIn : ℕ → GroupKeys → Option KeyId → Type 0
FirstIn g keys None = HasOwns keys × HasRowsTo keys.lower.items (length keys.lower.items)
FirstIn g keys (Some (Own h i)) = (h ≡ g) × LacksOwn keys i
FirstIn g keys (Some (Pair h low high)) = (h ≡ g) × HasOwns keys × LacksPair keys.lower.items low high

-- each key of the plan is there
abbrev pub IsWhole : List GroupKeys → PlanView → Type 0
IsWhole groups plan = (id : KeyId) → is_key plan id ≡ true → is_some (kept_key groups id) ≡ true
