-- The finite table of masks is one of the plan, and says what they say.
use Rattle.std.proofs.Common.{◌≡◌, ℕ, suc, ◌+◌, ◌-◌, ◌^◌, ◌<◌, List, [], length, get_or, ap, ◌∙◌, ⊎_elim, arith}
use Rattle.std.proofs.lemmas.Bool.{cases_lt}
use Rattle.std.proofs.lemmas.List.{get_or_past}
use Rattle.std.proofs.lemmas.List.FromFn.{length-map-range_with_len}
use Rattle.group_plan.specs.Plans.{PlanView, size}
use Rattle.group_plan.specs.Tables.{table_of, reading, IsReadingTable}
use Rattle.group_plan.proofs.TableLemmas.{is_table-table_of}
use Rattle.event_schedule.specs.declared.Event.{Event}
use Rattle.event_schedule.specs.Tables.{Masks, IsMasks}
use Rattle.event_schedule.specs.Transcript.{shape_of_readings, contents_of_tables, transcript}
use Rattle.event_schedule.proofs.ScheduleLemmas.{after}
use Rattle.event_schedule.proofs.TranscriptLemmas.{lines_after-same}
use Rattle.ideal_masks.specs.ListTables.{ReadingTable, tabulate, masks_in, mask_table_of, IsMaskTable}
use Rattle.ideal_masks.proofs.Isolation.{alike_tables, present_in_plan}
use Rattle.ideal_masks.proofs.TableLemmas.{get_or-tabulate, own-table_of, pair-table_of}

-- what holds of each element and of the default holds of whatever a list gives
each_given : {X : Type 0} (P : X → Type 0) (n : ℕ) (f : ℕ → X) (d : X) → P d → ((k : ℕ) → k < n → P (f k)) → (k : ℕ) → P (get_or (tabulate n f) k d)
each_given P n f d default each k =
    ⊎_elim
    (λ lt. rw (get_or-tabulate n f k d lt) (each k lt))
    (λ past. rw (get_or_past (tabulate n f) k d (omega (arith, past, length-map-range_with_len f 0 n))) default)
    (cases_lt k n)

pub keeps_lines : (plan : PlanView) (x : ReadingTable) (m : Masks) (events : List Event) → IsReadingTable plan x
    → transcript plan.groups (reading x) (masks_in (mask_table_of plan m)) events ≡ transcript plan.groups (reading x) m events
keeps_lines plan x m events fits =
    lines_after-same (shape_of_readings plan.groups (reading x)) (contents_of_tables plan.groups (reading x) (masks_in (mask_table_of plan m))) (contents_of_tables plan.groups (reading x) m) [] events
    (alike_tables plan (reading x) (masks_in (mask_table_of plan m)) m (after [] events) (present_in_plan plan x fits)
    (own-table_of plan m) (pair-table_of plan m))

-- no word of these lists is above the greatest
IsRow : List ℕ → Type 0
IsRow words = (i : ℕ) → get_or words i 0 < 2 ^ 64

IsRound : List (List ℕ) → Type 0
IsRound rows = (i : ℕ) → IsRow (get_or rows i [])

IsGroup : List (List (List ℕ)) → Type 0
IsGroup rounds = (r : ℕ) → IsRound (get_or rounds r [])

row_none : IsRow []
unfolding IsRow
row_none i = omega arith

round_none : IsRound []
unfolding IsRound
round_none i = row_none

group_none : IsGroup []
unfolding IsGroup
group_none r = round_none

own_small : (plan : PlanView) (m : Masks) → IsMasks m → (g r : ℕ) → IsRow (get_or (get_or (mask_table_of plan m).own g []) r [])
unfolding IsRow IsRound
own_small plan m words g =
    each_given IsRound (length plan.groups) _ [] round_none
    (λ h _. each_given IsRow plan.rounds _ [] row_none
    (λ q _. each_given (λ w. w < 2 ^ 64) (size plan.groups h) _ 0 (omega arith) (λ i _. words.own h q i))) g

pair_small : (plan : PlanView) (m : Masks) → IsMasks m → (g r i : ℕ) → IsRow (get_or (get_or (get_or (mask_table_of plan m).pair g []) r []) i [])
unfolding IsRow IsRound IsGroup
pair_small plan m words g =
    each_given IsGroup (length plan.groups) _ [] group_none
    (λ h _. each_given IsRound plan.rounds _ [] round_none
    (λ q _. each_given IsRow (size plan.groups h) _ [] row_none
    (λ i _. each_given (λ w. w < 2 ^ 64) (size plan.groups h - suc i) _ 0 (omega arith) (λ k _. words.pair h q i (suc i + k))))) g

-- the words of a meter with the meters above it
row_of : (plan : PlanView) (m : Masks) (g r i : ℕ) → g < length plan.groups → r < plan.rounds → i < size plan.groups g
    → get_or (get_or (get_or (mask_table_of plan m).pair g []) r []) i [] ≡ tabulate (size plan.groups g - suc i) (λ k. m.pair g r i (suc i + k))
row_of plan m g r i g_in r_in i_in =
    ap (λ l. get_or (get_or l r []) i [])
    (get_or-tabulate (length plan.groups) (λ h. tabulate plan.rounds (λ q. tabulate (size plan.groups h) (λ a. tabulate (size plan.groups h - suc a) (λ k. m.pair h q a (suc a + k))))) g [] g_in)
    ∙ ap (λ l. get_or l i [])
    (get_or-tabulate plan.rounds (λ q. tabulate (size plan.groups g) (λ a. tabulate (size plan.groups g - suc a) (λ k. m.pair g q a (suc a + k)))) r [] r_in)
    ∙ get_or-tabulate (size plan.groups g) (λ a. tabulate (size plan.groups g - suc a) (λ k. m.pair g r a (suc a + k))) i [] i_in

pub is_table : (plan : PlanView) (m : Masks) → IsMasks m → IsMaskTable plan (mask_table_of plan m)
unfolding IsRow table_of
is_table plan m words = record {
  own = is_table-table_of plan m.own;
  pair = is_table-table_of plan (λ g r i. tabulate (size plan.groups g - suc i) (λ k. m.pair g r i (suc i + k)));
  highs = λ g r i g_in r_in i_in.
      ap length (row_of plan m g r i g_in r_in i_in) ∙ length-map-range_with_len (λ k. m.pair g r i (suc i + k)) 0 (size plan.groups g - suc i);
  own_words = λ g r i. own_small plan m words g r i;
  pair_words = λ g r i j. pair_small plan m words g r i (j - suc i);
}
