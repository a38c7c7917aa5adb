-- The meter file that is spelled from the keys of a plan is read as what the meter has of them.
use Rattle.std.specs.Prelude.{◌≡◌, ℕ, ◌<◌, ◌==◌, if◌then◌else◌, List, [], ◌∷◌, length, map, slice_get, Option, Some, None, Ok}
use Rattle.std.specs.List.{range_with_len}
use Rattle.group_plan.specs.Plans.{Group, IsWithinLimits, PlanView}
use Rattle.pair_keys.specs.Keys.{Keys}
use Rattle.pair_keys.specs.declared.KeyId.TheVariants.{Own}
use Rattle.plan_files.specs.SpelledFiles.{AreKeysOf}
use Rattle.meter_files.specs.PartFiles.{MeterFileView, part_of}
use Rattle.meter_files.specs.Spelling.{meter_text, pair_of}

-- the plan of a group alone, with the least windows
abbrev pub home_of : PlanView → Group → PlanView
home_of plan group = record { groups = group ∷ []; rounds = plan.rounds; w1 = 1; w2 = 2 }

-- the key of the pair of meter i of group g with meter j; none with itself
abbrev pub pair_at : Keys → (g i j : ℕ) → Option (List ℕ)
pair_at keys g i j = if j == i then None else keys.key (pair_of g i j)

-- those with the first n meters
abbrev pub pairs_at : Keys → (g i n : ℕ) → List (Option (List ℕ))
pairs_at keys g i n = map (pair_at keys g i) (range_with_len 0 n)

-- what meter i of group g has, with this own key
abbrev pub part_at : Keys → Group → (g i : ℕ) → List ℕ → MeterFileView
part_at keys group g i own = record { home = home_of keys.plan group; group = g; meter = i; own = own; pairs = pairs_at keys g i (length group.spans) }

-- the text of a meter file is read as what the meter has
abbrev pub MeterFileIsRead : Type 0
MeterFileIsRead = (keys : Keys) (group : Group) (g i : ℕ) (own : List ℕ) → IsWithinLimits keys.plan → AreKeysOf keys.plan keys → slice_get keys.plan.groups g ≡ Some group
    → i < length group.spans → keys.key (Own g i) ≡ Some own → part_of (meter_text keys g i) ≡ Ok (part_at keys group g i own)
