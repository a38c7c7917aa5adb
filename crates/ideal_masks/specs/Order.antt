-- The order of the masks file: by group, by round, own words by meter, and then pair words by the lower meter and the higher.
use Rattle.std.specs.Prelude.{◌≡◌, ℕ, ◌^◌, ◌<◌, ◌==◌, nat_lt, Bool, true, false, ◌&&◌, ◌||◌, List, [], ◌∷◌, All, Option, None, Some}
use Rattle.group_plan.specs.Plans.{PlanView}
use Rattle.pair_keys.specs.declared.KeyId.{KeyId}
use Rattle.pair_keys.specs.declared.KeyId.TheVariants.{Own, Pair}
use Rattle.ideal_masks.specs.declared.Offset.{Offset}
use Rattle.ideal_masks.specs.Moves.{IsKeyOf}

-- the group of a key
abbrev pub key_group : KeyId → ℕ
key_group (Own g i) = g
key_group (Pair g i j) = g

-- in one group and round, the first key comes before the second
abbrev pub key_before : KeyId → KeyId → Bool
key_before (Own g i) (Own h k) = nat_lt i k
key_before (Own g i) (Pair h k l) = true
key_before (Pair g i j) (Own h k) = false
key_before (Pair g i j) (Pair h k l) = nat_lt i k || ((i == k) && nat_lt j l)

-- one moved word comes before another
abbrev pub is_before : Offset → Offset → Bool
is_before a b =
    nat_lt (key_group a.id) (key_group b.id)
    || ((key_group a.id == key_group b.id) && (nat_lt a.round b.round || ((a.round == b.round) && key_before a.id b.id)))

-- each comes before all that follow it
abbrev pub IsAscending : List Offset → Type 0
IsAscending [] = Unit {0}
IsAscending (m ∷ ms) = All (λ later. is_before m later ≡ true) ms × IsAscending ms

-- a pair's lower meter is below its higher
abbrev pub is_lower_first : KeyId → Bool
is_lower_first (Own g i) = true
is_lower_first (Pair g i j) = nat_lt i j

-- moved words in the order of the masks file; each moves by less than 2^64, and none by 0; of each pair the lower meter stands first
pub record AreMoves (list : List Offset) : Type 0 where
  pub ascending : IsAscending list
  pub nonzero : All (λ m. (0 < m.by) × (m.by < 2 ^ 64)) list
  pub pairs : All (λ m. is_lower_first m.id ≡ true) list

-- the list of these rows where they are moved words in this order, and none exactly where they aren't
abbrev pub ListOfRows : List Offset → Option (List Offset) → Type 0
ListOfRows rows (Some list) = AreMoves rows × (list ≡ rows)
ListOfRows rows None = AreMoves rows → ⊥

-- each is of a key and a round of the plan
abbrev pub AreOfPlan : PlanView → List Offset → Type 0
AreOfPlan plan list = All (λ m. IsKeyOf plan m.id × (m.round < plan.rounds)) list
