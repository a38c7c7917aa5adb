-- The pair words of an announced round, row by row, and of a round that isn't announced.
use Rattle.std.proofs.Common.{◌≡◌, ℕ, ◌+◌, ◌-◌, Bool, true, false, ◌||◌, List, [], ◌∷◌, refl, ap, ◌∙◌}
use Rattle.std.specs.Prelude.{◌==◌, nat_eq, Some, slice_get, if◌then◌else◌}
use Rattle.std.specs.Option.{option_eq}
use Rattle.std.proofs.lemmas.Bool.{false≢true}
use Rattle.std.specs.List.{flat_map, sum_by}
use Rattle.missing_round.specs.Words.{group}
use Rattle.pair_keys.specs.declared.KeyId.TheVariants.{Own, Pair}
use Rattle.event_schedule.specs.declared.Event.{Event}
use Rattle.event_schedule.specs.Schedule.{Shape, is_announced, is_answer_sent}
use Rattle.ideal_masks.specs.Pools.{Pool, others_answered, others_silent, chain_for}
use Rattle.ideal_masks.specs.Offsets.{pair_move, own_move, moves_for}
use Rattle.ideal_masks.specs.Moves.{moved, own_list, pair_list}
use Rattle.ideal_masks.proofs.RowLists.{row_list, flat-none, moved-none}

pub pairs-announced : (pool : Pool) (s : Shape) (d : ℕ → ℕ → ℕ → ℕ) (p : List Event) (g r n : ℕ) → is_announced s g r p ≡ true
    → pair_list (moves_for pool s d p) g r n ≡ flat_map (λ i. row_list g r i (pair_move (d g r) 0 (chain_for pool s g r p) i) n) (group n)
pairs-announced pool s d p g r n is = ap (λ b. flat_map (λ i. row_list g r i (λ j. if b then pair_move (d g r) 0 (chain_for pool s g r p) i j else 0) n) (group n)) is

pub pairs-open : (pool : Pool) (s : Shape) (d : ℕ → ℕ → ℕ → ℕ) (p : List Event) (g r n : ℕ) → is_announced s g r p ≡ false → pair_list (moves_for pool s d p) g r n ≡ []
pairs-open pool s d p g r n is =
    ap (λ b. flat_map (λ i. row_list g r i (λ j. if b then pair_move (d g r) 0 (chain_for pool s g r p) i j else 0) n) (group n)) is
    ∙ flat-none (λ i. row_list g r i (λ _. 0) n) 0 n (λ i _. flat-none (λ j. moved (Pair g i j) r 0) (i + 1) (n - (i + 1)) (λ j _. moved-none (Pair g i j) r 0 refl))

-- the own words of an announced round, and of another
pub owns-announced : (pool : Pool) (s : Shape) (d : ℕ → ℕ → ℕ → ℕ) (p : List Event) (g r n : ℕ) → is_announced s g r p ≡ true
    → own_list (moves_for pool s d p) g r n ≡ flat_map (λ i. moved (Own g i) r (if pool g i then 0 else own_move (d g r) (λ k. is_answer_sent s g r k p) (others_answered pool s g r p) (others_silent pool s g r p) i)) (group n)
owns-announced pool s d p g r n is =
    ap (λ b. flat_map (λ i. moved (Own g i) r (if pool g i then 0 else (if b then own_move (d g r) (λ k. is_answer_sent s g r k p) (others_answered pool s g r p) (others_silent pool s g r p) i else d g r i))) (group n)) is

pub owns-open : (pool : Pool) (s : Shape) (d : ℕ → ℕ → ℕ → ℕ) (p : List Event) (g r n : ℕ) → is_announced s g r p ≡ false
    → own_list (moves_for pool s d p) g r n ≡ flat_map (λ i. moved (Own g i) r (if pool g i then 0 else d g r i)) (group n)
owns-open pool s d p g r n is =
    ap (λ b. flat_map (λ i. moved (Own g i) r (if pool g i then 0 else (if b then own_move (d g r) (λ k. is_answer_sent s g r k p) (others_answered pool s g r p) (others_silent pool s g r p) i else d g r i))) (group n)) is

-- ---- the own word of a meter

-- one of the pool, and one that answered
pub own-still : (c : Bool) (d : ℕ → ℕ) (b : ℕ → Bool) (answered silents : List ℕ) (i : ℕ) → (c || b i) ≡ true → (if c then 0 else own_move d b answered silents i) ≡ 0
own-still true d b answered silents i either = refl
own-still false d b answered [] i either = ap (λ c. if c then 0 else d i) either
own-still false d b answered (z ∷ zs) i either = ap (λ c. if c then 0 else (d i + (if z == i then sum_by d answered else 0))) either

pub own-end : (d : ℕ → ℕ) (b : ℕ → Bool) (answered silents : List ℕ) (i : ℕ) → b i ≡ false → option_eq nat_eq (slice_get silents 0) (Some i) ≡ true → own_move d b answered silents i ≡ d i + sum_by d answered
own-end d b answered [] i is at = absurd (false≢true at)
own-end d b answered (z ∷ zs) i is at =
    ap (λ c. if c then 0 else (d i + (if z == i then sum_by d answered else 0))) is ∙ ap (λ c. d i + (if c then sum_by d answered else 0)) at
