-- The own words of a round.
use Rattle.std.proofs.Common.{◌≡◌, ℕ, ◌+◌, ◌^◌, ◌%◌, List, ◌++◌, ap, ◌∙◌, arith}
use Rattle.missing_round.specs.Words.{word}
use Rattle.pair_keys.specs.declared.KeyId.{KeyId}
use Rattle.pair_keys.specs.declared.KeyId.TheVariants.{Own}
use Rattle.ideal_masks.specs.declared.Offset.{Offset}
use Rattle.ideal_masks.specs.Moves.{moved}
use Rattle.ideal_masks.proofs.RowLists.{IsListTo, list-more, moved-word}

pub end_word : (by total d sum : ℕ) → by ≡ d → total ≡ word sum → (by + total) % 2 ^ 64 ≡ word (d + sum)
end_word by total d sum one two = omega arith

-- one more own word
pub own-more : (g r k by : ℕ) (w : ℕ → ℕ) (id : KeyId) (old mid new : List Offset) → IsListTo (λ i. moved (Own g i) r (w i)) k old mid → id ≡ Own g k → word by ≡ word (w k) → new ≡ mid ++ moved id r by
    → IsListTo (λ i. moved (Own g i) r (w i)) (k + 1) old new
own-more g r k by w id old mid new before same words added =
    list-more (λ i. moved (Own g i) r (w i)) k old mid new before (added ∙ ap (λ z. mid ++ moved z r by) same ∙ ap (λ l. mid ++ l) (moved-word (Own g k) r by (w k) words))
