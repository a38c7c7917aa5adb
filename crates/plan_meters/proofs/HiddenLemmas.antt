-- The words of all readings of a plan, block by block.
use Rattle.std.proofs.Common.{◌≡◌, ℕ, zero, suc, ◌+◌, ◌*◌, ◌/◌, ◌%◌, ◌<◌, List, [], ◌∷◌, ◌++◌, length, map, get_or, sym, ◌∙◌, subst, zero-add, arith, Vec, IfOk, Result, Ok, Option, None}
use Rattle.std.specs.declared.alloc.Global.{Global}
use Rattle.std.specs.declared.alloc.AllocError.{AllocError}
use Rattle.std.specs.List.{AllZip, range_with_len}
use Rattle.std.proofs.Math.Nat.{mul_comm}
use Rattle.std.proofs.lemmas.Nat.{mul-add-lt, div-mul-add, mod-mul-add}
use Rattle.std.proofs.lemmas.List.{length-map}
use Rattle.missing_round.specs.Masks.{Masks}
use Rattle.group_plan.specs.Plans.{size, members}
use Rattle.group_plan.specs.Tables.{ReadingsView, reading}
use Rattle.blind_core.specs.Blind.{AreGroupWords}
use Rattle.blind_core.specs.Columns.{column}
use Rattle.blind_core.proofs.ColumnLemmas.{length-column, column-at}
use Rattle.plan_meters.specs.TickFrames.{IsRow}
use Rattle.plan_meters.specs.declared.hidden.HiddenReadings.{HiddenReadings}
use Rattle.plan_meters.specs.Hidden.{Hide, HideRounds, HideBlock, AreColumns, AreHidden, HasRow, blocks_in, rounds_from, block_of, words_in}
use Rattle.plan_meters.proofs.RangeLemmas.{range_at, range_long, range_push}

-- what each result that is there has, they all have where all are there
pub all-there : {Y : Type 0} (R : ℕ → Y → Type 0) (ks : List ℕ) (ys : List Y) → AllZip (λ k (y : Result Y AllocError). IfOk y (R k)) ks (map Ok ys) → AllZip R ks ys
all-there R [] [] all = tt
all-there R [] (y ∷ ys) all = absurd all
all-there R (k ∷ ks) [] all = absurd all
all-there R (k ∷ ks) (y ∷ ys) all = (all.0, all-there R ks ys all.1)

-- what holds of the items of vectors, beside the vectors
of-items : {X Y : Type 0} (f : Y → X) (R : ℕ → X → Type 0) (ks : List ℕ) (ys : List Y) → AllZip (λ k y. R k (f y)) ks ys → AllZip R ks (map f ys)
of-items f R [] [] all = tt
of-items f R [] (y ∷ ys) all = absurd all
of-items f R (k ∷ ks) [] all = absurd all
of-items f R (k ∷ ks) (y ∷ ys) all = (all.0, of-items f R ks ys all.1)

-- ---- the rows of some rounds

-- one row more
pub rows-more : (readings : ReadingsView) (m : Masks) (g r n : ℕ) (rows more : List (Vec ℕ Global)) (row : Vec ℕ Global) → HideRounds readings m g r n rows → Hide readings m g (r + n) row.items
    → more ≡ rows ++ row ∷ [] → HideRounds readings m g r (n + 1) more
rows-more readings m g r n rows more row so_far here is = record {
  each = subst (AllZip (λ k (y : Vec ℕ Global). Hide readings m g k y.items) (range_with_len r (n + 1))) (sym is)
      (range_push (λ k (y : Vec ℕ Global). Hide readings m g k y.items) r n rows row so_far.each here);
}

pub columns-more : (words : List (List ℕ)) (n : ℕ) (rows more : List (Vec ℕ Global)) (row : Vec ℕ Global) → AreColumns words n rows → row.items ≡ column 0 n words
    → more ≡ rows ++ row ∷ [] → AreColumns words (n + 1) more
columns-more words n rows more row so_far here is = record {
  each = subst (AllZip (λ j (y : Vec ℕ Global). y.items ≡ column 0 j words) (range_with_len 0 (n + 1))) (sym is)
      (range_push (λ j (y : Vec ℕ Global). y.items ≡ column 0 j words) 0 n rows row so_far.each (subst (λ k. row.items ≡ column 0 k words) (sym (zero-add n)) here));
}

-- a column of the readings by meter is the row of its round
pub column-is_row : (readings : ReadingsView) (g r : ℕ) (rows : List (List (Option ℕ))) (j : ℕ) → length rows ≡ size readings.plan.groups g
    → ((i : ℕ) → i < length rows → get_or (get_or rows i []) j None ≡ reading readings.table g r i) → IsRow readings g r (column None j rows)
column-is_row readings g r rows j long each = record {
  long = length-column None j rows ∙ long;
  each = λ i h. let inside : i < length rows = omega (arith, h, length-column None j rows) in column-at None j rows i inside ∙ each i inside;
}

-- what holds of the items and their numbers, of the numbers from another start
range_shift : {Y : Type 0} (R S : ℕ → Y → Type 0) (b a n : ℕ) (ys : List Y) → ((j : ℕ) (y : Y) → j < a + n → R j y → S (b + j) y)
    → AllZip R (range_with_len a n) ys → AllZip S (range_with_len (b + a) n) ys
range_shift R S b a zero [] each all = tt
range_shift R S b a zero (y ∷ ys) each all = absurd all
range_shift R S b a (suc n) [] each all = absurd all
range_shift R S b a (suc n) (y ∷ ys) each all =
    let same : b + (a + 1) ≡ b + a + 1 = omega arith in
    (each a y (omega arith) all.0, subst (λ k. AllZip S (range_with_len k n) ys) same (range_shift R S b (a + 1) n ys (λ j z high. each j z (omega arith)) all.1))

-- the columns of the words that hide readings, column by column, hide the readings of the rounds
pub hide-rounds : (readings : ReadingsView) (m : Masks) (g r : ℕ) (all : List ℕ) (rows : List (List (Option ℕ))) (words : List (List ℕ)) (out : List (Vec ℕ Global))
    → ((j : ℕ) → j < 8 → members readings.plan.groups g (r + j) ≡ members readings.plan.groups g r) → all ≡ members readings.plan.groups g r
    → ((j : ℕ) → j < 8 → IsRow readings g (r + j) (column None j rows))
    → ((j : ℕ) → j < 8 → AreGroupWords (m.own g (r + j)) (m.pair g (r + j)) all (column None j rows) (column 0 j words))
    → AreColumns words 8 out → HideRounds readings m g r 8 out
hide-rounds readings m g r all rows words out same are_all are_rows are_words columns =
    let hide : (j : ℕ) (y : Vec ℕ Global) → j < 0 + 8 → y.items ≡ column 0 j words → Hide readings m g (r + j) y.items =
    λ j y h is. record {
      row = column None j rows;
      is = are_rows j (omega arith);
      are = subst (λ l. AreGroupWords (m.own g (r + j)) (m.pair g (r + j)) (members readings.plan.groups g (r + j)) (column None j rows) l) (sym is)
          (subst (λ l. AreGroupWords (m.own g (r + j)) (m.pair g (r + j)) l (column None j rows) (column 0 j words)) (are_all ∙ sym (same j (omega arith))) (are_words j (omega arith)));
    } in
    let start : r + 0 ≡ r = omega arith in
    record {
      each = subst (λ k. AllZip (λ i (y : Vec ℕ Global). Hide readings m g i y.items) (range_with_len k 8) out) start
          (range_shift (λ j (y : Vec ℕ Global). y.items ≡ column 0 j words) (λ k (y : Vec ℕ Global). Hide readings m g k y.items) r 0 8 out hide columns.each);
    }

-- ---- the blocks of all rounds

-- the block of a round is one of the blocks
block-below : (rounds r : ℕ) → r < rounds → r / 8 < blocks_in rounds
block-below rounds r round = omega (arith, round)

-- the round is one of its block
round-below : (rounds r : ℕ) → r < rounds → r % 8 < rounds_from rounds (r / 8 * 8)
round-below rounds r round = omega (arith, round)

round-is : (r : ℕ) → r / 8 * 8 + r % 8 ≡ r
round-is r = omega arith

-- the block of a group at a place is one of the blocks
place-below : (n blocks g b : ℕ) → g < n → b < blocks → b * n + g < blocks * n
place-below n blocks g b group block = subst (λ k. b * n + g < k) (mul_comm n blocks) (mul-add-lt b n g blocks block group)

-- a row of some rounds hides the readings of its round
row-of : (readings : ReadingsView) (m : Masks) (g r n : ℕ) (rows : List (Vec ℕ Global)) (k : ℕ) → HideRounds readings m g r n rows → k < n
    → (k < length rows) × Hide readings m g (r + k) (get_or (map (λ (row : Vec ℕ Global). row.items) rows) k [])
row-of readings m g r n rows k hide below =
    let items : Vec ℕ Global → List ℕ = λ row. row.items in
    let long : length rows ≡ n = range_long (λ j (row : Vec ℕ Global). Hide readings m g j row.items) r n rows hide.each in
    let inside : k < length (map items rows) = omega (arith, below, long, length-map rows items) in
    (omega (arith, below, long), (range_at (Hide readings m g) r n (map items rows) (of-items items (Hide readings m g) (range_with_len r n) rows hide.each) k [] inside).1)

-- the block of a group in a round
block-there : (readings : ReadingsView) (m : Masks) (h : HiddenReadings) (g r : ℕ) → AreHidden readings m h → g < length readings.plan.groups → r < readings.plan.rounds
    → (r / 8 * h.groups + g < length h.blocks.items) × HideRounds readings m g (r / 8 * 8) (rounds_from readings.plan.rounds (r / 8 * 8)) (block_of h g r)
block-there readings m h g r are group round =
    let n = length readings.plan.groups in
    let rounds = readings.plan.rounds in
    let places = blocks_in rounds * n in
    let items : Vec (Vec ℕ Global) Global → List (Vec ℕ Global) = λ block. block.items in
    let all = are.blocks.each in
    let long : length h.blocks.items ≡ places = range_long (λ k (block : Vec (Vec ℕ Global) Global). HideBlock readings m k block.items) 0 places h.blocks.items all in
    let blocks : AllZip (HideBlock readings m) (range_with_len 0 places) (map items h.blocks.items) = of-items items (HideBlock readings m) (range_with_len 0 places) h.blocks.items all in
    let place = r / 8 * n + g in
    let inside : place < places = place-below n (blocks_in rounds) g (r / 8) group (block-below rounds r round) in
    let below : place < length (map items h.blocks.items) = subst (λ k. place < k) (sym (length-map h.blocks.items items ∙ long)) inside in
    let rows : List (Vec ℕ Global) = get_or (map items h.blocks.items) place [] in
    let at : HideBlock readings m place rows =
    subst (λ k. HideBlock readings m k rows) (zero-add place) (range_at (HideBlock readings m) 0 places (map items h.blocks.items) blocks place [] below).1 in
    let by_group : HideRounds readings m g (place / n * 8) (rounds_from rounds (place / n * 8)) rows =
    subst (λ k. HideRounds readings m k (place / n * 8) (rounds_from rounds (place / n * 8)) rows) (mod-mul-add (r / 8) n g group) at in
    let by_block : HideRounds readings m g (r / 8 * 8) (rounds_from rounds (r / 8 * 8)) rows =
    subst (λ k. HideRounds readings m g (k * 8) (rounds_from rounds (k * 8)) rows) (div-mul-add (r / 8) n g group) by_group in (
      subst (λ k. r / 8 * k + g < length h.blocks.items) (sym are.groups) (subst (λ k. place < k) (sym long) inside),
      subst (λ k. HideRounds readings m g (r / 8 * 8) (rounds_from rounds (r / 8 * 8)) (get_or (map items h.blocks.items) (r / 8 * k + g) [])) (sym are.groups) by_block,
    )

-- its row of the round
row-there : (readings : ReadingsView) (m : Masks) (h : HiddenReadings) (g r : ℕ) → AreHidden readings m h → g < length readings.plan.groups → r < readings.plan.rounds
    → (r % 8 < length (block_of h g r)) × Hide readings m g (r / 8 * 8 + r % 8) (words_in h g r)
row-there readings m h g r are group round =
    row-of readings m g (r / 8 * 8) (rounds_from readings.plan.rounds (r / 8 * 8)) (block_of h g r) (r % 8) (block-there readings m h g r are group round).1 (round-below readings.plan.rounds r round)

-- each group has words in each round
pub has-row : (readings : ReadingsView) (m : Masks) (h : HiddenReadings) (g r : ℕ) → AreHidden readings m h → g < length readings.plan.groups → r < readings.plan.rounds → HasRow h g r
has-row readings m h g r are group round = record { block = (block-there readings m h g r are group round).0; row = (row-there readings m h g r are group round).0 }

-- and they hide its readings
pub words-hide : (readings : ReadingsView) (m : Masks) (h : HiddenReadings) (g r : ℕ) → AreHidden readings m h → g < length readings.plan.groups → r < readings.plan.rounds → Hide readings m g r (words_in h g r)
words-hide readings m h g r are group round = subst (λ k. Hide readings m g k (words_in h g r)) (round-is r) (row-there readings m h g r are group round).1
