-- Rows of words of one register.
use Rattle.std.proofs.Common.{◌≡◌, ◌∙◌, ℕ, ◌<◌, ◌≤◌, Bool, true, false, nat_lt, if◌then◌else◌, IsTrue, List, [], ◌∷◌, length, map, refl, ap, arith}
use Rattle.std.specs.List.{list_all}
use Rattle.std.specs.Prelude.{slice_index}
use Rattle.std.proofs.lemmas.Bool.{and_from, and_parts}
use Rattle.std.proofs.lemmas.List.{length-map}
use Rattle.group_plan.specs.Plans.{PlanView, is_place, size}
use Rattle.mask_stream.specs.Ends.{between}
use Rattle.missing_round.specs.Sets.{IsSet}
use Rattle.pair_keys.specs.Keys.{Keys}
use Rattle.pair_keys.specs.declared.KeyId.TheVariants.{Own, Pair}
use Rattle.register_words.specs.Blocks.{pair_of}
use Rattle.register_words.specs.Words.{register_streams, word_of, words_of}
use Rattle.register_words.proofs.ShareLoops.{few, words_at}

-- those that have places are meters of the group
pub places_meters : (plan : PlanView) (g r : ℕ) (xs : List ℕ) → IsTrue (list_all (is_place plan g r) xs) → IsTrue (list_all (λ i. nat_lt i (size plan.groups g)) xs)
places_meters plan g r [] h = refl
places_meters plan g r (x ∷ xs) h =
    let both = and_parts (is_place plan g r x) (list_all (is_place plan g r) xs) h in
    and_from (nat_lt x (size plan.groups g)) (list_all (λ i. nat_lt i (size plan.groups g)) xs) (and_parts (nat_lt r plan.rounds) (nat_lt x (size plan.groups g)) both.0).1 (places_meters plan g r xs both.1)

-- a row has room
pub row_room : {X : Type 0} (f : ℕ → X) (xs : List ℕ) (blocks : List X) → blocks ≡ map f xs → IsSet xs → length blocks ≤ 256
row_room f xs blocks made is_set = omega (arith, ap length made, length-map xs f, few xs is_set)

map_map : {X : Type 0} (f : ℕ → X) (h : X → ℕ) (w : ℕ → ℕ) (xs : List ℕ) → ((x : ℕ) → h (f x) ≡ w x) → map h (map f xs) ≡ map w xs
map_map f h w [] same = refl
map_map f h w (x ∷ xs) same = rw (same x, map_map f h w xs same) refl

-- the row of a register has its own words
pub own_row : (keys : Keys) (g r k : ℕ) (xs row : List ℕ) (blocks : List (List ℕ)) → k < 8 → row ≡ map (λ block. slice_index block k) blocks
    → blocks ≡ map (λ i. words_of (keys.key (Own g i)) r) xs → row ≡ map ((register_streams k keys).own g r) xs
own_row keys g r k xs row blocks lt is made =
    is ∙ ap (map (λ (block : List ℕ). slice_index block k)) made
    ∙ map_map (λ i. words_of (keys.key (Own g i)) r) (λ (block : List ℕ). slice_index block k) ((register_streams k keys).own g r) xs (λ i. words_at (keys.key (Own g i)) r k lt)

-- and its pair words
pub pair_row : (keys : Keys) (g r i k : ℕ) (xs row : List ℕ) (blocks : List (List ℕ)) → k < 8 → row ≡ map (λ block. slice_index block k) blocks
    → blocks ≡ map (λ j. words_of (keys.key (pair_of g i j)) r) xs → row ≡ map (between ((register_streams k keys).pair g r) i) xs
pair_row keys g r i k xs row blocks lt is made =
    is ∙ ap (map (λ (block : List ℕ). slice_index block k)) made
    ∙ map_map (λ j. words_of (keys.key (pair_of g i j)) r) (λ (block : List ℕ). slice_index block k) (between ((register_streams k keys).pair g r) i) xs
    (λ j. words_at (keys.key (pair_of g i j)) r k lt ∙ by j (nat_lt i j))
  where
    by : (j : ℕ) (b : Bool) → word_of (keys.key (if b then Pair g i j else Pair g j i)) r k ≡ (if b then word_of (keys.key (Pair g i j)) r k else word_of (keys.key (Pair g j i)) r k)
    by j true = refl
    by j false = refl
