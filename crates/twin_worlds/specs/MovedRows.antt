-- The mask words that move from one table to another.
use Rattle.std.specs.Prelude.{◌≡◌, ◌≢◌, ℕ, ◌+◌, ◌<◌, ◌==◌, nat_lt, Bool, true, ◌&&◌, ◌||◌, List, [], ◌∷◌, map, All}
use Rattle.std.specs.List.{list_any}
use Rattle.missing_round.specs.Words.{word}
use Rattle.group_plan.specs.Plans.{PlanView}
use Rattle.pair_keys.specs.declared.KeyId.{KeyId}
use Rattle.pair_keys.specs.declared.KeyId.TheVariants.{Own, Pair}
use Rattle.event_schedule.specs.Tables.{Masks, IsMasks}
use Rattle.ideal_masks.specs.declared.Offset.{Offset}
use Rattle.ideal_masks.specs.Moves.{offset_list, same_id, IsKeyOf}
use Rattle.ideal_masks.specs.Offsets.{shift}
use Rattle.ideal_masks.specs.Order.{key_group, key_before}
use Rattle.twin_worlds.specs.declared.rows.MovedRow.{MovedRow}

-- the word of a key in a round
abbrev pub word_of : Masks → KeyId → ℕ → ℕ
word_of m (Own g i) r = m.own g r i
word_of m (Pair g i j) r = m.pair g r i j

-- ---- from offsets to rows

-- the row of a word of the masks m that moves
abbrev pub row_of : Masks → Offset → MovedRow
row_of m o = record { id = o.id; round = o.round; old = word_of m o.id o.round; new = word (word_of m o.id o.round + o.by) }

abbrev pub rows_of : Masks → List Offset → List MovedRow
rows_of m offsets = map (row_of m) offsets

-- ---- the same, said of the two tables

-- the row is of a key and a round of the plan, with the word of m as the old one and the other word of k as the new one
pub record IsMoved (plan : PlanView) (m k : Masks) (row : MovedRow) : Type 0 where
  pub key : IsKeyOf plan row.id
  pub round : row.round < plan.rounds
  pub old_is : row.old ≡ word_of m row.id row.round
  pub new_is : row.new ≡ word_of k row.id row.round
  pub moves : row.old ≢ row.new

-- whether a row is of this key and this round
abbrev pub is_row_of : KeyId → ℕ → MovedRow → Bool
is_row_of id r row = same_id row.id id && (row.round == r)

-- the order of the masks file: by group, by round, own words by meter, and then pair words by the lower meter and the higher
abbrev pub comes_before : MovedRow → MovedRow → Bool
comes_before a b =
    nat_lt (key_group a.id) (key_group b.id)
    || ((key_group a.id == key_group b.id) && (nat_lt a.round b.round || ((a.round == b.round) && key_before a.id b.id)))

-- each row comes before all that follow it
abbrev pub AreInOrder : List MovedRow → Type 0
AreInOrder [] = Unit {0}
AreInOrder (row ∷ rows) = All (λ later. comes_before row later ≡ true) rows × AreInOrder rows

-- the rows are exactly the words of the plan in which k differs from m, each with its old and its new value, in order
pub record AreMoved (plan : PlanView) (m k : Masks) (rows : List MovedRow) : Type 0 where
  pub each : All (IsMoved plan m k) rows
  pub all : (id : KeyId) (r : ℕ) → IsKeyOf plan id → r < plan.rounds → word_of m id r ≢ word_of k id r → list_any (is_row_of id r) rows ≡ true
  pub order : AreInOrder rows

-- for words below 2^64: of whatever offsets this is the list, the rows are exactly the words that these move
abbrev pub AreMovedBy : PlanView → Masks → List Offset → List MovedRow → Type 0
AreMovedBy plan m list rows = IsMasks m → (o : Masks) → list ≡ offset_list plan o → AreMoved plan m (shift o m) rows
