-- One word of a mask table moves.
use Rattle.std.specs.Prelude.{◌≡◌, ℕ, ◌+◌, ◌<◌, ◌==◌, ◌&&◌, if◌then◌else◌}
use Rattle.missing_round.specs.Words.{word}
use Rattle.pair_keys.specs.declared.KeyId.{KeyId}
use Rattle.pair_keys.specs.declared.KeyId.TheVariants.{Own, Pair}
use Rattle.ideal_masks.specs.ListTables.{masks_in}
use Rattle.ideal_masks.specs.Moves.{same_id}
use Rattle.ideal_masks.specs.KeptMasks.{MasksView}

-- by how much the word of a key in round r moves, where that of `id` in round `round` moves by `by` and no other moves
abbrev pub move_of : KeyId → ℕ → ℕ → KeyId → ℕ → ℕ
move_of id round by key r = if same_id id key && (round == r) then by else 0

-- the word of a key in a round moves, and no other does
pub record MovesOne (old : MasksView) (id : KeyId) (round by : ℕ) (new : MasksView) : Type 0 where
  pub plan : new.plan ≡ old.plan
  pub own : (g r i : ℕ) → (masks_in new.words).own g r i ≡ word ((masks_in old.words).own g r i + move_of id round by (Own g i) r)
  pub pair : (g r i j : ℕ) → i < j → (masks_in new.words).pair g r i j ≡ word ((masks_in old.words).pair g r i j + move_of id round by (Pair g i j) r)
