-- Tables as lists.
use Rattle.std.proofs.Common.{◌≡◌, ℕ, suc, ◌+◌, ◌-◌, ◌^◌, ◌<◌, List, [], length, get_or, sym, ap, ◌∙◌, arith}
use Rattle.std.proofs.lemmas.List.FromFn.{get_or-map-range_with_len, fill_by_all}
use Rattle.missing_round.specs.Words.{word, minus}
use Rattle.group_plan.specs.Plans.{PlanView, size}
use Rattle.event_schedule.specs.Tables.{Masks}
use Rattle.ideal_masks.specs.Offsets.{shift, unshift}
use Rattle.ideal_masks.specs.ListTables.{tabulate, MaskTable, masks_in, mask_table_of, IsMaskTable, shift_table, unshift_table}

pub get_or-tabulate : {X : Type 0} (n : ℕ) (f : ℕ → X) (i : ℕ) (d : X) → i < n → get_or (tabulate n f) i d ≡ f i
get_or-tabulate n f i d below = get_or-map-range_with_len f 0 n i i d below (omega arith)

-- a list is the table of its elements, and of what is the same below its length
pub tabulate_is : {X : Type 0} (xs : List X) (n : ℕ) (f : ℕ → X) (d : X) → length xs ≡ n → ((k : ℕ) → k < n → f k ≡ get_or xs k d) → tabulate n f ≡ xs
tabulate_is xs n f d long same = sym (fill_by_all f xs n d long (λ k below. sym (same k below)))

pub own-table_of : (plan : PlanView) (m : Masks) (g r i : ℕ) → g < length plan.groups → r < plan.rounds → i < size plan.groups g → (masks_in (mask_table_of plan m)).own g r i ≡ m.own g r i
own-table_of plan m g r i g_in r_in i_in =
    ap (λ l. get_or (get_or l r []) i 0) (get_or-tabulate (length plan.groups) (λ h. tabulate plan.rounds (λ q. tabulate (size plan.groups h) (λ k. m.own h q k))) g [] g_in)
    ∙ ap (λ l. get_or l i 0) (get_or-tabulate plan.rounds (λ q. tabulate (size plan.groups g) (λ k. m.own g q k)) r [] r_in)
    ∙ get_or-tabulate (size plan.groups g) (λ k. m.own g r k) i 0 i_in

pub pair-table_of : (plan : PlanView) (m : Masks) (g r i j : ℕ) → g < length plan.groups → r < plan.rounds → i < j → j < size plan.groups g → (masks_in (mask_table_of plan m)).pair g r i j ≡ m.pair g r i j
pair-table_of plan m g r i j g_in r_in above j_in =
    let place : suc i + (j - suc i) ≡ j = omega arith in
    ap (λ l. get_or (get_or (get_or l r []) i []) (j - suc i) 0)
    (get_or-tabulate (length plan.groups) (λ h. tabulate plan.rounds (λ q. tabulate (size plan.groups h) (λ a. tabulate (size plan.groups h - suc a) (λ k. m.pair h q a (suc a + k))))) g [] g_in)
    ∙ ap (λ l. get_or (get_or l i []) (j - suc i) 0) (get_or-tabulate plan.rounds (λ q. tabulate (size plan.groups g) (λ a. tabulate (size plan.groups g - suc a) (λ k. m.pair g q a (suc a + k)))) r [] r_in)
    ∙ ap (λ l. get_or l (j - suc i) 0) (get_or-tabulate (size plan.groups g) (λ a. tabulate (size plan.groups g - suc a) (λ k. m.pair g r a (suc a + k))) i [] (omega arith))
    ∙ get_or-tabulate (size plan.groups g - suc i) (λ k. m.pair g r i (suc i + k)) (j - suc i) 0 (omega arith)
    ∙ ap (m.pair g r i) place

-- a table is that of its words
pub table_of-same : (plan : PlanView) (t : MaskTable) (m : Masks) → IsMaskTable plan t
    → ((g r i : ℕ) → g < length plan.groups → r < plan.rounds → i < size plan.groups g → m.own g r i ≡ (masks_in t).own g r i)
    → ((g r i j : ℕ) → g < length plan.groups → r < plan.rounds → i < j → j < size plan.groups g → m.pair g r i j ≡ (masks_in t).pair g r i j)
    → mask_table_of plan m ≡ t
table_of-same plan t m fits owns pairs =
    λ p. record {
      own = (tabulate_is t.own (length plan.groups) (λ g. tabulate plan.rounds (λ r. tabulate (size plan.groups g) (λ i. m.own g r i))) [] fits.own.groups
          (λ g g_in. tabulate_is (get_or t.own g []) plan.rounds (λ r. tabulate (size plan.groups g) (λ i. m.own g r i)) [] (fits.own.rounds g g_in)
          (λ r r_in. tabulate_is (get_or (get_or t.own g []) r []) (size plan.groups g) (λ i. m.own g r i) 0 (fits.own.meters g r g_in r_in)
          (λ i i_in. owns g r i g_in r_in i_in)))) p;
      pair = (tabulate_is t.pair (length plan.groups) (λ g. tabulate plan.rounds (λ r. tabulate (size plan.groups g) (λ i. tabulate (size plan.groups g - suc i) (λ k. m.pair g r i (suc i + k))))) [] fits.pair.groups
          (λ g g_in. tabulate_is (get_or t.pair g []) plan.rounds (λ r. tabulate (size plan.groups g) (λ i. tabulate (size plan.groups g - suc i) (λ k. m.pair g r i (suc i + k)))) [] (fits.pair.rounds g g_in)
          (λ r r_in. tabulate_is (get_or (get_or t.pair g []) r []) (size plan.groups g) (λ i. tabulate (size plan.groups g - suc i) (λ k. m.pair g r i (suc i + k))) [] (fits.pair.meters g r g_in r_in)
          (λ i i_in. tabulate_is (get_or (get_or (get_or t.pair g []) r []) i []) (size plan.groups g - suc i) (λ k. m.pair g r i (suc i + k)) 0 (fits.highs g r i g_in r_in i_in)
          (λ k k_in. pairs g r i (suc i + k) g_in r_in (omega arith) (omega arith)
          ∙ ap (λ q. get_or (get_or (get_or (get_or t.pair g []) r []) i []) q 0) (omega arith)))))) p;
    }

word-undone : (a o : ℕ) → a < 2 ^ 64 → word (word (a + o) + minus o) ≡ a
word-undone a o fits = omega arith

word-redone : (a o : ℕ) → a < 2 ^ 64 → word (word (a + minus o) + o) ≡ a
word-redone a o fits = omega arith

pub unshift_table-shift : (plan : PlanView) (o : Masks) (t : MaskTable) → IsMaskTable plan t → unshift_table plan o (shift_table plan o t) ≡ t
unshift_table-shift plan o t fits =
    table_of-same plan t (unshift o (masks_in (shift_table plan o t))) fits
    (λ g r i g_in r_in i_in. ap (λ v. word (v + minus (o.own g r i))) (own-table_of plan (shift o (masks_in t)) g r i g_in r_in i_in) ∙ word-undone ((masks_in t).own g r i) (o.own g r i) (fits.own_words g r i))
    (λ g r i j g_in r_in above j_in. ap (λ v. word (v + minus (o.pair g r i j))) (pair-table_of plan (shift o (masks_in t)) g r i j g_in r_in above j_in) ∙ word-undone ((masks_in t).pair g r i j) (o.pair g r i j) (fits.pair_words g r i j))

pub shift_table-unshift : (plan : PlanView) (o : Masks) (t : MaskTable) → IsMaskTable plan t → shift_table plan o (unshift_table plan o t) ≡ t
shift_table-unshift plan o t fits =
    table_of-same plan t (shift o (masks_in (unshift_table plan o t))) fits
    (λ g r i g_in r_in i_in. ap (λ v. word (v + o.own g r i)) (own-table_of plan (unshift o (masks_in t)) g r i g_in r_in i_in) ∙ word-redone ((masks_in t).own g r i) (o.own g r i) (fits.own_words g r i))
    (λ g r i j g_in r_in above j_in. ap (λ v. word (v + o.pair g r i j)) (pair-table_of plan (unshift o (masks_in t)) g r i j g_in r_in above j_in) ∙ word-redone ((masks_in t).pair g r i j) (o.pair g r i j) (fits.pair_words g r i j))
