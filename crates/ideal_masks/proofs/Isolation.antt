-- Each table of readings is isolated.
use Rattle.std.proofs.Common.{◌≡◌, ℕ, ◌+◌, ◌<◌, ◌≤◌, true, not, List, [], ◌∷◌, length, get_or, refl, sym, ap, ◌∙◌, subst, ⊎_elim, arith}
use Rattle.std.specs.Prelude.{Option, None, is_some, nat_lt}
use Rattle.std.specs.List.{sum_by}
use mathlib.Core.List.{reverse}
use Rattle.std.proofs.lemmas.List.{get_or_past}
use Rattle.std.proofs.lemmas.Bool.{false≢true, cases_lt, ltb-true}
use Rattle.std.proofs.lemmas.List.Sums.{sum_by-cons}
use Rattle.std.proofs.lemmas.List.Elements.{All-filter, recursion_from_All}
use Rattle.event_schedule.specs.declared.Event.{Event}
use Rattle.missing_round.specs.Words.{word, share, group}
use Rattle.group_plan.specs.Plans.{PlanView, is_member, members, size}
use Rattle.event_schedule.specs.Schedule.{is_reading_taken, missing}
use Rattle.event_schedule.specs.Tables.{Readings, Masks, reading_at}
use Rattle.event_schedule.specs.Transcript.{shape_of_readings, contents_of_tables, transcript}
use Rattle.ideal_masks.specs.Pools.{Pool, nobody, ShareWords}
use Rattle.ideal_masks.specs.Offsets.{offsets_for, shift, AgreeFor}
use Rattle.group_plan.specs.Tables.{reading, IsReadingTable}
use Rattle.ideal_masks.specs.ListTables.{ReadingTable, MaskTable, masks_in, IsMaskTable, shift_table, unshift_table}
use Rattle.ideal_masks.specs.Moves.{offset_list, listed}
use Rattle.ideal_masks.specs.Isolation.{KeepsWords, CarriesFor, IsolatedFor, Isolated}
use Rattle.event_schedule.proofs.TranscriptLemmas.{Alike, lines_after-same}
use Rattle.ideal_masks.proofs.OffsetLemmas.{AllBelow, AllBelow-from_recursion, all_below_group}
use Rattle.event_schedule.proofs.ScheduleLemmas.{after, after-reverse, is_reading_taken-from_answer, present-from_taken}
use Rattle.ideal_masks.proofs.MoveLemmas.{list_is}
use Rattle.ideal_masks.proofs.TableLemmas.{own-table_of, pair-table_of, shift_table-unshift, unshift_table-shift}
use Rattle.ideal_masks.proofs.PoolLemmas.{shares_same}
use Rattle.ideal_masks.proofs.TwoWorlds.{two_worlds_for, words_stay}

-- a reading that is there is in the plan
pub record InPlan (plan : PlanView) (g r i : ℕ) : Type 0 where
  pub group_in : g < length plan.groups
  pub round_in : r < plan.rounds
  pub meter_in : i < size plan.groups g
  pub member_in : is_member plan.groups g r i ≡ true

none_of : (t : List (Option ℕ)) (i : ℕ) → length t ≤ i → is_some (get_or t i None) ≡ true → ⊥
none_of t i past there = false≢true (sym (ap is_some (get_or_past t i None past)) ∙ there)

pub present_in_plan : (plan : PlanView) (t : ReadingTable) → IsReadingTable plan t → (g r i : ℕ) → is_some (reading t g r i) ≡ true → InPlan plan g r i
present_in_plan plan t fits g r i there =
    let g_in : g < length plan.groups = ⊎_elim (λ lt. lt)
    (λ past. absurd (none_of (get_or (get_or t g []) r []) i
    (rw (get_or_past t g [] (let e = fits.shape.groups in omega arith)) (omega arith)) there))
    (cases_lt g (length plan.groups)) in
    let r_in : r < plan.rounds = ⊎_elim (λ lt. lt)
    (λ past. absurd (none_of (get_or (get_or t g []) r []) i
    (rw (get_or_past (get_or t g []) r [] (let e = fits.shape.rounds g g_in in omega arith)) (omega arith)) there))
    (cases_lt r plan.rounds) in
    record {
      group_in = g_in;
      round_in = r_in;
      member_in = fits.of_members g r i there;
      meter_in = ⊎_elim (λ lt. lt) (λ past. absurd (none_of (get_or (get_or t g []) r []) i (let e = fits.shape.meters g r g_in r_in in omega arith) there)) (cases_lt i (size plan.groups g));
    }

sum_by-below : (n : ℕ) (f h : ℕ → ℕ) → ((j : ℕ) → j < n → f j ≡ h j) → (xs : List ℕ) → AllBelow n xs → sum_by f xs ≡ sum_by h xs
sum_by-below n f h same [] all = refl
sum_by-below n f h same (x ∷ xs) all =
    sum_by-cons f x xs ∙ ap (λ z. z + sum_by f xs) (same x all.0) ∙ ap (λ z. h x + z) (sum_by-below n f h same xs all.1) ∙ sym (sum_by-cons h x xs)

share-below : (p q : ℕ → ℕ → ℕ) (n i : ℕ) → i < n → ((a b : ℕ) → a < b → b < n → p a b ≡ q a b) → (j : ℕ) → j < n → share p i j ≡ share q i j
share-below p q n i i_in same j j_in =
    shares_same (nat_lt i j) (nat_lt j i) (p i j) (p j i) (q i j) (q j i) (λ lt. same i j (ltb-true i j lt) j_in) (λ lt. same j i (ltb-true j i lt) i_in)

-- two mask tables that are alike in the plan say the same of readings of the plan
pub alike_tables : (plan : PlanView) (y : Readings) (m k : Masks) (whole : List Event)
    → ((g r i : ℕ) → is_some (y g r i) ≡ true → InPlan plan g r i)
    → ((g r i : ℕ) → g < length plan.groups → r < plan.rounds → i < size plan.groups g → m.own g r i ≡ k.own g r i)
    → ((g r i j : ℕ) → g < length plan.groups → r < plan.rounds → i < j → j < size plan.groups g → m.pair g r i j ≡ k.pair g r i j)
    → Alike (shape_of_readings plan.groups y) (contents_of_tables plan.groups y m) (contents_of_tables plan.groups y k) whole
alike_tables plan y m k whole in_plan owns pairs = record {
  readings = λ g r i there.
      let at = in_plan g r i there in
      let n : ℕ = size plan.groups g in
      ap (λ o. word (reading_at y g r i + o + sum_by (share (m.pair g r) i) (members plan.groups g r))) (owns g r i at.group_in at.round_in at.meter_in)
      ∙ ap (λ z. word (reading_at y g r i + k.own g r i + z))
      (sum_by-below n (share (m.pair g r) i) (share (k.pair g r) i)
      (share-below (m.pair g r) (k.pair g r) n i at.meter_in (λ a b above b_in. pairs g r a b at.group_in at.round_in above b_in))
      (members plan.groups g r) (AllBelow-from_recursion n (members plan.groups g r) (recursion_from_All (λ z. z < n) (members plan.groups g r) (All-filter (is_member plan.groups g r) (λ z. z < n) (group n) (all_below_group n)))));
  answers = λ g r i sent.
      let at = in_plan g r i (present-from_taken (shape_of_readings plan.groups y) g r i whole (is_reading_taken-from_answer (shape_of_readings plan.groups y) g r i whole sent)) in
      let n : ℕ = size plan.groups g in
      let gone : List ℕ = missing (shape_of_readings plan.groups y) g r whole in
      ap (λ o. word (o + sum_by (share (m.pair g r) i) gone)) (owns g r i at.group_in at.round_in at.meter_in)
      ∙ ap (λ z. word (k.own g r i + z))
      (sum_by-below n (share (m.pair g r) i) (share (k.pair g r) i)
      (share-below (m.pair g r) (k.pair g r) n i at.meter_in (λ a b above b_in. pairs g r a b at.group_in at.round_in above b_in))
      gone (AllBelow-from_recursion n gone (recursion_from_All (λ z. z < n) gone
      (All-filter (λ j. not (is_reading_taken (shape_of_readings plan.groups y) g r j whole)) (λ z. z < n) (members plan.groups g r) (All-filter (is_member plan.groups g r) (λ z. z < n) (group n) (all_below_group n))))));
  totals = λ g r opened. refl;
}

carried : (pool : Pool) (plan : PlanView) (x : ReadingTable) (events : List Event) → IsReadingTable plan x
    → (y : ReadingTable) → IsReadingTable plan y → AgreeFor pool plan.groups (reading x) (reading y) (reverse events)
    → (m : MaskTable) → IsMaskTable plan m → CarriesFor pool plan x events y (offsets_for pool plan.groups (reading x) (reading y) (reverse events)) m
carried pool plan x events x_fits y y_fits agree m m_fits =
    let o : Masks = offsets_for pool plan.groups (reading x) (reading y) (reverse events) in
    let moved : Masks = shift o (masks_in m) in
    let agree_after : AgreeFor pool plan.groups (reading x) (reading y) (after [] events) = rw (after-reverse events) agree in
    let worlds : transcript plan.groups (reading y) moved events ≡ transcript plan.groups (reading x) (masks_in m) events
    = rw (← after-reverse events) (two_worlds_for pool plan.groups (reading x) (reading y) (masks_in m) events (λ g r i there. x_fits.of_members g r i there) agree_after) in
    let stay : ShareWords pool (masks_in m) moved
    = words_stay pool plan.groups (reading x) (reading y) (masks_in m) (reverse events) (record { own = m_fits.own_words; pair = m_fits.pair_words }) in
    record {
      same_lines =
          lines_after-same (shape_of_readings plan.groups (reading y)) (contents_of_tables plan.groups (reading y) (masks_in (shift_table plan o m))) (contents_of_tables plan.groups (reading y) moved) [] events
          (alike_tables plan (reading y) (masks_in (shift_table plan o m)) moved (after [] events) (present_in_plan plan y y_fits)
          (λ g r i g_in r_in i_in. own-table_of plan moved g r i g_in r_in i_in)
          (λ g r i j g_in r_in above j_in. pair-table_of plan moved g r i j g_in r_in above j_in))
          ∙ worlds;
      words = record {
        own = λ g r i g_in r_in i_in inside. stay.own g r i inside ∙ sym (own-table_of plan moved g r i g_in r_in i_in);
        pair = λ g r i j g_in r_in above j_in inside. stay.pair g r i j above inside ∙ sym (pair-table_of plan moved g r i j g_in r_in above j_in);
      };
      undone = unshift_table-shift plan o m m_fits;
      redone = shift_table-unshift plan o m m_fits;
    }

-- moves by which tables shift alike carry alike
carried_alike : (pool : Pool) (plan : PlanView) (x : ReadingTable) (events : List Event) (y : ReadingTable) (o l : Masks) (m : MaskTable)
    → ((k : MaskTable) → shift_table plan l k ≡ shift_table plan o k) → ((k : MaskTable) → unshift_table plan l k ≡ unshift_table plan o k)
    → CarriesFor pool plan x events y o m → CarriesFor pool plan x events y l m
carried_alike pool plan x events y o l m shifts unshifts by = record {
  same_lines = ap (λ k. transcript plan.groups (reading y) (masks_in k) events) (shifts m) ∙ by.same_lines;
  words = subst (KeepsWords pool plan m) (sym (shifts m)) by.words;
  undone = ap (unshift_table plan l) (shifts m) ∙ unshifts (shift_table plan o m) ∙ by.undone;
  redone = ap (shift_table plan l) (unshifts m) ∙ shifts (unshift_table plan o m) ∙ by.redone;
}

pub isolated_from : (pool : Pool) (plan : PlanView) (x : ReadingTable) (events : List Event) → IsReadingTable plan x → IsolatedFor pool plan x events
isolated_from pool plan x events x_fits = λ y y_fits agree m m_fits.
    let o : Masks = offsets_for pool plan.groups (reading x) (reading y) (reverse events) in
    let list = list_is plan o in
    carried_alike pool plan x events y o (listed (offset_list plan o)) m list.shifted list.unshifted (carried pool plan x events x_fits y y_fits agree m m_fits)

pub isolated : (plan : PlanView) (x : ReadingTable) (events : List Event) → IsReadingTable plan x → Isolated plan x events
isolated = isolated_from nobody
