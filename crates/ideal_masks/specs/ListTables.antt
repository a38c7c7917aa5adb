-- Tables as finite lists of whole numbers, by group, round and meter.
use Rattle.std.specs.Prelude.{◌≡◌, ℕ, ◌+◌, ◌-◌, ◌^◌, ◌<◌, List, [], length, map, slice_index_or, Option, suc}
use Rattle.std.specs.List.{range_with_len}
use Rattle.group_plan.specs.Plans.{PlanView, size}
use Rattle.group_plan.specs.Tables.{Table, IsTable}
use Rattle.event_schedule.specs.Tables.{Masks}
use Rattle.ideal_masks.specs.Offsets.{shift, unshift}

-- the list of f 0 to f (n - 1)
abbrev pub tabulate : {X : Type 0} → ℕ → (ℕ → X) → List X
tabulate n f = map f (range_with_len 0 n)

-- a reading for each place, or none
abbrev pub ReadingTable : Type 0
ReadingTable = Table (Option ℕ)

-- of each group and round the own words by meter, and of each meter its pair words with the meters above it
pub record MaskTable : Type 0 where
  pub own : List (List (List ℕ))
  pub pair : List (List (List (List ℕ)))

-- the table as functions
abbrev pub masks_in : MaskTable → Masks
masks_in t = record {
  own = λ g r i. slice_index_or (slice_index_or (slice_index_or t.own g []) r []) i 0;
  pair = λ g r i j. slice_index_or (slice_index_or (slice_index_or (slice_index_or t.pair g []) r []) i []) (j - suc i) 0;
}

-- the table of a plan with these words
abbrev pub mask_table_of : PlanView → Masks → MaskTable
mask_table_of plan m = record {
  own = tabulate (length plan.groups) (λ g. tabulate plan.rounds (λ r. tabulate (size plan.groups g) (λ i. m.own g r i)));
  pair = tabulate (length plan.groups) (λ g. tabulate plan.rounds (λ r. tabulate (size plan.groups g) (λ i. tabulate (size plan.groups g - suc i) (λ k. m.pair g r i (suc i + k)))));
}

-- the table has the lengths of the plan, and words below 2^64
pub record IsMaskTable (plan : PlanView) (t : MaskTable) : Type 0 where
  pub own : IsTable plan t.own
  pub pair : IsTable plan t.pair
  pub highs : (g r i : ℕ) → g < length plan.groups → r < plan.rounds → i < size plan.groups g →
      length (slice_index_or (slice_index_or (slice_index_or t.pair g []) r []) i []) ≡ size plan.groups g - suc i
  pub own_words : (g r i : ℕ) → (masks_in t).own g r i < 2 ^ 64
  pub pair_words : (g r i j : ℕ) → (masks_in t).pair g r i j < 2 ^ 64

-- the table with each word moved by its offset
abbrev pub shift_table : PlanView → Masks → MaskTable → MaskTable
shift_table plan o t = mask_table_of plan (shift o (masks_in t))

-- and moved back
abbrev pub unshift_table : PlanView → Masks → MaskTable → MaskTable
unshift_table plan o t = mask_table_of plan (unshift o (masks_in t))
