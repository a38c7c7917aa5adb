-- What the laws of this crate say. Each is proved for every part, table and journal.
use Rattle.std.specs.Prelude.{◌≡◌, ◌<◌, ℕ, List, ◌++◌, slice_index_or, Option, Some, None, Ok}
use Rattle.missing_round.specs.Masks.{Masks}
use Rattle.missing_round.specs.Words.{reading_word, answer_word}
use Rattle.group_plan.specs.Plans.{PlanView}
use Rattle.pair_keys.specs.declared.KeyId.TheVariants.{Own, Pair}
use Rattle.pair_keys.specs.Keys.{Keys}
use Rattle.mask_stream.specs.KeyStreams.{streams}
use Rattle.meter_apart.specs.Keys.{keys_of}
use Rattle.meter_frames.specs.declared.Frame.{Frame}
use Rattle.meter_apart.specs.declared.answers.Noted.{Noted}
use Rattle.meter_apart.specs.declared.part.Part.{Part}
use Rattle.meter_apart.specs.Replies.{to_reading, after_reading, to_frame, after_frame}

-- two frames of a round that are answered, the second after whatever else the journal has, have one set
abbrev pub OneSetARound : Type 0
OneSetARound = (part : Part) (m n : Masks) (journal more : List Noted) (f g x y : Frame) → f.tag.round ≡ g.tag.round
    → to_frame part m journal f ≡ Ok x → to_frame part n (after_frame part journal f ++ more) g ≡ Ok y → f.missing ≡ g.missing

-- so two readings of a round that are said are one
abbrev pub OneReadingARound : Type 0
OneReadingARound = (part : Part) (m n : Masks) (journal more : List Noted) (r a b : ℕ) (x y : Frame)
    → to_reading part m journal r a ≡ Ok x → to_reading part n (after_reading part journal r a ++ more) r b ≡ Ok y → a ≡ b

-- two tables of one round have the same own word and the same pair words of meter i, each pair with its lower meter first
pub record HaveSameWords (i : ℕ) (own : ℕ → ℕ) (pair : ℕ → ℕ → ℕ) (own2 : ℕ → ℕ) (pair2 : ℕ → ℕ → ℕ) : Type 0 where
  pub own_is : own i ≡ own2 i
  pub lower : (j : ℕ) → i < j → pair i j ≡ pair2 i j
  pub higher : (j : ℕ) → j < i → pair j i ≡ pair2 j i

-- then all words that the meter sends are the same
abbrev pub OwnWordsSuffice : Type 0
OwnWordsSuffice = (i : ℕ) (own : ℕ → ℕ) (pair : ℕ → ℕ → ℕ) (own2 : ℕ → ℕ) (pair2 : ℕ → ℕ → ℕ) → HaveSameWords i own pair own2 pair2 → (members set : List ℕ) (reading : ℕ)
    → (reading_word own pair members i reading ≡ reading_word own2 pair2 members i reading) × (answer_word own pair i set ≡ answer_word own2 pair2 i set)

-- a meter's keys are those that a plan has for meter i of group g
pub record HasKeysOf (keys : Keys) (g i : ℕ) (own : List ℕ) (pairs : List (Option (List ℕ))) : Type 0 where
  pub own_is : Some own ≡ keys.key (Own g i)
  pub lower : (j : ℕ) → i < j → slice_index_or pairs j None ≡ keys.key (Pair g i j)
  pub higher : (j : ℕ) → j < i → slice_index_or pairs j None ≡ keys.key (Pair g j i)

-- then its mask words, over its group alone, are its words of the plan's keys
abbrev pub OwnKeysSuffice : Type 0
OwnKeysSuffice = (keys : Keys) (home : PlanView) (g i : ℕ) (own : List ℕ) (pairs : List (Option (List ℕ))) → HasKeysOf keys g i own pairs → (r : ℕ)
    → HaveSameWords i ((streams (keys_of home i own pairs)).own 0 r) ((streams (keys_of home i own pairs)).pair 0 r) ((streams keys).own g r) ((streams keys).pair g r)
