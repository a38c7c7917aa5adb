-- Tables over the places of a plan: reading tables, and their presence.
use Rattle.std.specs.Prelude.{◌≡◌, ℕ, ◌^◌, ◌<◌, Bool, true, false, ◌==◌, ◌&&◌, List, [], length, map, slice_index_or, Option, Some, None, is_some}
use Rattle.std.specs.List.{range_with_len}
use Rattle.group_plan.specs.Plans.{PlanView, size, is_member}

-- a value for each place: group by group, round by round, meter by meter
abbrev pub Table : Type 0 → Type 0
Table X = List (List (List X))

-- what a table has at a place, and d where it has nothing
abbrev pub entry : {X : Type 0} → X → Table X → ℕ → ℕ → ℕ → X
entry d table g r i = slice_index_or (slice_index_or (slice_index_or table g []) r []) i d

-- the table of a plan that has f at each place
unfoldable pub table_of : {X : Type 0} → PlanView → (ℕ → ℕ → ℕ → X) → Table X
table_of plan f =
    map (λ g. map (λ r. map (λ i. f g r i) (range_with_len 0 (size plan.groups g))) (range_with_len 0 plan.rounds))
    (range_with_len 0 (length plan.groups))

-- a table with one value for each place of the plan
pub record IsTable {X : Type 0} (plan : PlanView) (table : Table X) : Type 0 where
  pub groups : length table ≡ length plan.groups
  pub rounds : (g : ℕ) → g < length plan.groups → length (slice_index_or table g []) ≡ plan.rounds
  pub meters : (g r : ℕ) → g < length plan.groups → r < plan.rounds → length (slice_index_or (slice_index_or table g []) r []) ≡ size plan.groups g

-- ---- readings

-- a plan, and its table of readings, in watt-hours
pub record ReadingsView : Type 0 where
  pub plan : PlanView
  pub table : List (List (List (Option ℕ)))

-- the reading at a place
abbrev pub reading : Table (Option ℕ) → ℕ → ℕ → ℕ → Option ℕ
reading table g r i = entry None table g r i

-- the readings are below 2^40, and only members have one
pub record IsReadingTable (plan : PlanView) (table : Table (Option ℕ)) : Type 0 where
  pub shape : IsTable plan table
  pub small : (g r i v : ℕ) → reading table g r i ≡ Some v → v < 2 ^ 40
  pub of_members : (g r i : ℕ) → is_some (reading table g r i) ≡ true → is_member plan.groups g r i ≡ true

-- no place has a reading
abbrev pub absent : PlanView → ReadingsView
absent plan = record { plan = plan; table = table_of plan (λ g r i. None) }

-- whether (a, b, c) is the place (g, r, i)
abbrev pub is_same_place : ℕ → ℕ → ℕ → ℕ → ℕ → ℕ → Bool
is_same_place g r i a b c = (a == g) && (b == r) && (c == i)

-- the reading of one place becomes this one, and no other changes
pub record PutsReading (old : ReadingsView) (g r i : ℕ) (value : Option ℕ) (new : ReadingsView) : Type 0 where
  pub plan : new.plan ≡ old.plan
  pub here : reading new.table g r i ≡ value
  pub elsewhere : (a b c : ℕ) → is_same_place g r i a b c ≡ false → reading new.table a b c ≡ reading old.table a b c

-- ---- presence

-- a plan, and for each of its places whether it has a reading
pub record PresenceView : Type 0 where
  pub plan : PlanView
  pub table : List (List (List Bool))

-- whether a place has a reading
abbrev pub is_present : Table Bool → ℕ → ℕ → ℕ → Bool
is_present table g r i = entry false table g r i

-- only members have a reading
pub record IsPresenceTable (plan : PlanView) (table : Table Bool) : Type 0 where
  pub shape : IsTable plan table
  pub of_members : (g r i : ℕ) → is_present table g r i ≡ true → is_member plan.groups g r i ≡ true

-- one place has a reading now, and no other changes
pub record NotesReading (old : PresenceView) (g r i : ℕ) (new : PresenceView) : Type 0 where
  pub plan : new.plan ≡ old.plan
  pub here : is_present new.table g r i ≡ true
  pub elsewhere : (a b c : ℕ) → is_same_place g r i a b c ≡ false → is_present new.table a b c ≡ is_present old.table a b c

-- the places with a reading
abbrev pub presence_of : ReadingsView → PresenceView
presence_of readings = record { plan = readings.plan; table = map (map (map is_some)) readings.table }
