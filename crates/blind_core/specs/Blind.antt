-- What a group's meters send in a round.
use Rattle.std.specs.Prelude.{◌≡◌, ℕ, ◌<◌, ◌^◌, Bool, true, List, length, slice_index, slice_index_or, Option, Some, None}
use Rattle.std.specs.List.{list_all}
use Rattle.group_plan.specs.Plans.{PlanView, is_place}
use Rattle.missing_round.specs.Sets.{is_member}
use Rattle.missing_round.specs.Words.{reading_word}

-- whether each of these meters of the group has a place in the round
abbrev pub are_places : PlanView → ℕ → ℕ → List ℕ → Bool
are_places plan g r meters = list_all (is_place plan g r) meters

-- the word of meter i: its reading word where it has a reading, and 0 elsewhere
abbrev pub word_or_0 : (ℕ → ℕ) → (ℕ → ℕ → ℕ) → List ℕ → ℕ → Option ℕ → ℕ
word_or_0 own pair members i None = 0
word_or_0 own pair members i (Some reading) = reading_word own pair members i reading

-- readings below 2^40, of members alone
pub record AreReadings (members : List ℕ) (readings : List (Option ℕ)) : Type 0 where
  pub small : (i x : ℕ) → slice_index_or readings i None ≡ Some x → x < 2 ^ 40
  pub member : (i x : ℕ) → slice_index_or readings i None ≡ Some x → is_member i members ≡ true

-- one word for each reading, present or not
pub record AreGroupWords (own : ℕ → ℕ) (pair : ℕ → ℕ → ℕ) (members : List ℕ) (readings : List (Option ℕ)) (words : List ℕ) : Type 0 where
  pub long : length words ≡ length readings
  pub each : (i : ℕ) → i < length readings → slice_index words i ≡ word_or_0 own pair members i (slice_index_or readings i None)
