-- The offsets as a list: the words that move, in the order of the masks file.
use Rattle.std.specs.Prelude.{◌≡◌, ℕ, ◌+◌, ◌-◌, ◌^◌, ◌<◌, ◌==◌, Bool, false, ◌&&◌, List, [], ◌∷◌, ◌++◌, length, sum_by, All, if◌then◌else◌}
use Rattle.std.specs.List.{flat_map, range_with_len}
use Rattle.missing_round.specs.Words.{word, group}
use Rattle.group_plan.specs.Plans.{PlanView, size}
use Rattle.pair_keys.specs.declared.KeyId.{KeyId}
use Rattle.pair_keys.specs.declared.KeyId.TheVariants.{Own, Pair}
use Rattle.event_schedule.specs.Tables.{Masks}
use Rattle.ideal_masks.specs.declared.Offset.{Offset}
use Rattle.ideal_masks.specs.ListTables.{MaskTable, shift_table, unshift_table}

-- ---- from functions to the list

-- the offset of one word, none where it is 0
abbrev pub moved : KeyId → ℕ → ℕ → List Offset
moved id r by = if word by == 0 then [] else record { id = id; round = r; by = word by } ∷ []

-- the own words of a round, by meter
abbrev pub own_list : Masks → ℕ → ℕ → ℕ → List Offset
own_list o g r n = flat_map (λ i. moved (Own g i) r (o.own g r i)) (group n)

-- its pair words, by the lower meter and then by the higher
abbrev pub pair_list : Masks → ℕ → ℕ → ℕ → List Offset
pair_list o g r n = flat_map (λ i. flat_map (λ j. moved (Pair g i j) r (o.pair g r i j)) (range_with_len (i + 1) (n - (i + 1)))) (group n)

-- by group and then by round, own words before pair words
abbrev pub offset_list : PlanView → Masks → List Offset
offset_list plan o =
    flat_map (λ g. flat_map (λ r. own_list o g r (size plan.groups g) ++ pair_list o g r (size plan.groups g)) (range_with_len 0 plan.rounds)) (range_with_len 0 (length plan.groups))

-- ---- from a list to functions

abbrev pub same_id : KeyId → KeyId → Bool
same_id (Own g i) (Own h k) = (g == h) && (i == k)
same_id (Pair g i j) (Pair h k l) = (g == h) && (i == k) && (j == l)
same_id _ _ = false

-- by how much a list moves the word of a key in a round
abbrev pub moved_by : List Offset → KeyId → ℕ → ℕ
moved_by list id r = sum_by (λ o. if same_id o.id id && (o.round == r) then o.by else 0) list

abbrev pub listed : List Offset → Masks
listed list = record { own = λ g r i. moved_by list (Own g i) r; pair = λ g r i j. moved_by list (Pair g i j) r }

-- ---- the two are the same

-- a key of the plan, a pair with the lower meter first
abbrev pub IsKeyOf : PlanView → KeyId → Type 0
IsKeyOf plan (Own g i) = (g < length plan.groups) × (i < size plan.groups g)
IsKeyOf plan (Pair g i j) = (g < length plan.groups) × (i < j) × (j < size plan.groups g)

-- the list says what the functions say, its places are of the plan, none of its words is 0, and it shifts tables alike
pub record ListIsOffsets (plan : PlanView) (o : Masks) : Type 0 where
  pub own : (g r i : ℕ) → g < length plan.groups → r < plan.rounds → i < size plan.groups g →
      (listed (offset_list plan o)).own g r i ≡ word (o.own g r i)
  pub pair : (g r i j : ℕ) → g < length plan.groups → r < plan.rounds → i < j → j < size plan.groups g →
      (listed (offset_list plan o)).pair g r i j ≡ word (o.pair g r i j)
  pub places : All (λ m. IsKeyOf plan m.id × (m.round < plan.rounds)) (offset_list plan o)
  pub nonzero : All (λ m. (0 < m.by) × (m.by < 2 ^ 64)) (offset_list plan o)
  pub shifted : (m : MaskTable) → shift_table plan (listed (offset_list plan o)) m ≡ shift_table plan o m
  pub unshifted : (m : MaskTable) → unshift_table plan (listed (offset_list plan o)) m ≡ unshift_table plan o m
