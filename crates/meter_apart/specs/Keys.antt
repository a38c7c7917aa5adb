-- The keys that a meter has: its own, and those of its pairs with the others of its group.
use Rattle.std.specs.Prelude.{◌≡◌, ℕ, ◌==◌, ◌&&◌, ◌||◌, Bool, true, false, if◌then◌else◌, List, slice_index_or, Option, Some, None, is_some}
use Rattle.std.specs.List.{list_all, range_with_len}
use Rattle.missing_round.specs.Masks.{Masks}
use Rattle.group_plan.specs.Plans.{PlanView, size}
use Rattle.pair_keys.specs.declared.KeyId.{KeyId}
use Rattle.pair_keys.specs.declared.KeyId.TheVariants.{Own, Pair}
use Rattle.pair_keys.specs.Keys.{Keys}
use Rattle.mask_stream.specs.KeyStreams.{streams}
use Rattle.meter_apart.specs.declared.part.Part.{Part}
use Rattle.meter_apart.specs.declared.keys.MeterKeys.{MeterKeys}

-- the key of a pair in group 0: that of the meter with the other end, and none where the meter is no end
abbrev pub pair_key : ℕ → List (Option (List ℕ)) → ℕ → ℕ → Option (List ℕ)
pair_key i pairs low high = if low == i then slice_index_or pairs high None else if high == i then slice_index_or pairs low None else None

-- meter i of group 0 has its own key, and those of its pairs by the other meter
abbrev pub key_at : ℕ → List ℕ → List (Option (List ℕ)) → KeyId → Option (List ℕ)
key_at i own pairs (Own g j) = if (g == 0) && (j == i) then Some own else None
key_at i own pairs (Pair g low high) = if g == 0 then pair_key i pairs low high else None

abbrev pub keys_of : PlanView → ℕ → List ℕ → List (Option (List ℕ)) → Keys
keys_of home i own pairs = record { plan = home; key = key_at i own pairs }

-- whether meter j is meter i itself, or there is a key of their pair
abbrev pub has_key : ℕ → List (Option (List ℕ)) → ℕ → Bool
has_key i pairs j = (j == i) || is_some (slice_index_or pairs j None)

-- whether there is a key for each pair of meter i in a group of n
abbrev pub is_complete : ℕ → ℕ → List (Option (List ℕ)) → Bool
is_complete i n pairs = list_all (has_key i pairs) (range_with_len 0 n)

-- what the meter has of its plan
abbrev pub part_of : MeterKeys → Part
part_of keys = keys.part

-- the plan and the mask words
abbrev pub plan_of : MeterKeys → PlanView
plan_of keys = keys.part.home

abbrev pub words_of : MeterKeys → Masks
words_of keys = streams (keys_of keys.part.home keys.part.meter keys.own keys.pairs.items)

-- keys with one for each pair of the meter make a table, and no other ones do
abbrev pub MakesKeys : Part → List ℕ → List (Option (List ℕ)) → Option MeterKeys → Type 0
MakesKeys part own pairs None = is_complete part.meter (size part.home.groups 0) pairs ≡ false
MakesKeys part own pairs (Some keys) =
    (is_complete part.meter (size part.home.groups 0) pairs ≡ true) × (part_of keys ≡ part) × (words_of keys ≡ streams (keys_of part.home part.meter own pairs))
