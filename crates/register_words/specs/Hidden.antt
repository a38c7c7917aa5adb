-- The words of a group's readings in a round, in all registers.
use Rattle.std.specs.Prelude.{◌≡◌, ℕ, ◌<◌, ◌≤◌, [], true, List, length, slice_index, slice_index_or}
use Rattle.group_plan.specs.Plans.{members}
use Rattle.missing_round.specs.Sets.{is_member}
use Rattle.pair_keys.specs.Keys.{Keys}
use Rattle.pair_keys.specs.declared.KeyId.TheVariants.{Own}
use Rattle.plan_files.specs.Registers.{RegistersView}
use Rattle.register_words.specs.Blocks.{pair_of}
use Rattle.register_words.specs.Sides.{register_contents}
use Rattle.register_words.specs.Words.{word_of}
use Rattle.register_words.specs.declared.hidden.HiddenGroup.{HiddenGroup}

-- the own words of a group in a round and a register
abbrev pub own_words : Keys → (g r k : ℕ) → ℕ → ℕ
own_words keys g r k i = word_of (keys.key (Own g i)) r k

-- the pair words of a group in a round and a register, whichever meter comes first
abbrev pub pair_words : Keys → (g r k : ℕ) → ℕ → ℕ → ℕ
pair_words keys g r k i j = word_of (keys.key (pair_of g i j)) r k

-- the words are those of the reading of a meter in each register
abbrev pub AreReadingWords : RegistersView → Keys → (g r i : ℕ) → List ℕ → Type 0
AreReadingWords registers keys g r i words =
    (k : ℕ) → k < length registers.tables → slice_index words k ≡ (register_contents registers keys k).reading g r i

-- the words are those of the reading of a meter in each register but register 0
abbrev pub AreFurtherWords : RegistersView → Keys → (g r i : ℕ) → List ℕ → Type 0
AreFurtherWords registers keys g r i words =
    (k : ℕ) → 1 ≤ k → k < length registers.tables → slice_index words k ≡ (register_contents registers keys k).reading g r i

-- each member of the round has its reading words
pub record IsHidden (registers : RegistersView) (keys : Keys) (hidden : HiddenGroup) : Type 0 where
  pub members : hidden.members ≡ members registers.plan.groups hidden.group hidden.round
  pub words : (i : ℕ) → is_member i hidden.members ≡ true → AreReadingWords registers keys hidden.group hidden.round i (slice_index_or hidden.words.items i [])
