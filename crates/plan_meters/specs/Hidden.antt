-- The words of all readings of a plan.
use Rattle.std.specs.Prelude.{◌≡◌, ℕ, ◌+◌, ◌-◌, ◌*◌, ◌/◌, ◌%◌, ◌<◌, min, List, [], length, map, slice_index_or, Option, Vec}
use Rattle.std.specs.declared.alloc.Global.{Global}
use Rattle.std.specs.List.{AllZip, range_with_len}
use Rattle.missing_round.specs.Masks.{Masks}
use Rattle.group_plan.specs.Plans.{PlanView, members}
use Rattle.group_plan.specs.Tables.{ReadingsView}
use Rattle.blind_core.specs.Blind.{AreGroupWords}
use Rattle.blind_core.specs.Columns.{column}
use Rattle.plan_meters.specs.TickFrames.{IsRow}
use Rattle.plan_meters.specs.declared.hidden.HiddenReadings.{HiddenReadings}
use Rattle.plan_meters.specs.declared.known.Known.{Known}

-- these words hide the readings of group g in round r
pub record Hide (readings : ReadingsView) (m : Masks) (g r : ℕ) (words : List ℕ) : Type 0 where
  pub row : List (Option ℕ)
  pub is : IsRow readings g r row
  pub are : AreGroupWords (m.own g r) (m.pair g r) (members readings.plan.groups g r) row words

-- these rows hide the readings of group g in n rounds, the first of which is r
pub record HideRounds (readings : ReadingsView) (m : Masks) (g r n : ℕ) (rows : List (Vec ℕ Global)) : Type 0 where
  pub each : AllZip (λ k (row : Vec ℕ Global). Hide readings m g k row.items) (range_with_len r n) rows

-- these rows are the first n columns of the words
pub record AreColumns (words : List (List ℕ)) (n : ℕ) (rows : List (Vec ℕ Global)) : Type 0 where
  pub each : AllZip (λ j (row : Vec ℕ Global). row.items ≡ column 0 j words) (range_with_len 0 n) rows

-- how many blocks of eight rounds there are, of which the last may be shorter
abbrev pub blocks_in : ℕ → ℕ
blocks_in rounds = (rounds + 7) / 8

-- how many rounds the block has whose first round is r
abbrev pub rounds_from : ℕ → ℕ → ℕ
rounds_from rounds r = min (rounds - r) 8

-- these rows hide the readings of the block at a place: blocks of rounds follow one another, and in each the groups
abbrev pub HideBlock : ReadingsView → Masks → ℕ → List (Vec ℕ Global) → Type 0
HideBlock readings m place rows =
    HideRounds readings m (place % length readings.plan.groups) (place / length readings.plan.groups * 8)
    (rounds_from readings.plan.rounds (place / length readings.plan.groups * 8)) rows

-- the masks are of these readings, and the place has a block
pub record CanHide (readings : ReadingsView) (plan : PlanView) (place : ℕ) : Type 0 where
  pub masks : plan ≡ readings.plan
  pub within : place < blocks_in readings.plan.rounds * length readings.plan.groups

-- the rows of group g in the block of round r
abbrev pub block_of : HiddenReadings → ℕ → ℕ → List (Vec ℕ Global)
block_of h g r = slice_index_or (map (λ block. block.items) h.blocks.items) (r / 8 * h.groups + g) []

-- the words of group g in round r
abbrev pub words_in : HiddenReadings → ℕ → ℕ → List ℕ
words_in h g r = slice_index_or (map (λ row. row.items) (block_of h g r)) (r % 8) []

-- there are words of group g in round r
pub record HasRow (h : HiddenReadings) (g r : ℕ) : Type 0 where
  pub block : r / 8 * h.groups + g < length h.blocks.items
  pub row : r % 8 < length (block_of h g r)

-- these blocks, one after another, hide the readings of all places
pub record AreBlocks (readings : ReadingsView) (m : Masks) (blocks : List (Vec (Vec ℕ Global) Global)) : Type 0 where
  pub each : AllZip (λ k (block : Vec (Vec ℕ Global) Global). HideBlock readings m k block.items)
      (range_with_len 0 (blocks_in readings.plan.rounds * length readings.plan.groups)) blocks

-- these words hide the readings of all groups in all rounds
pub record AreHidden (readings : ReadingsView) (m : Masks) (h : HiddenReadings) : Type 0 where
  pub groups : h.groups ≡ length readings.plan.groups
  pub blocks : AreBlocks readings m h.blocks.items

-- what the meters have is of one plan: the masks, and the readings hidden under them
pub record IsOfOnePlan {M : Type 0} (plan_of : M → PlanView) (words_of : M → Masks) (known : Known M) : Type 0 where
  pub masks : plan_of known.masks.now ≡ known.readings.now.plan
  pub hidden : AreHidden known.readings.now (words_of known.masks.now) known.hidden
