-- The rows of readings of a group, and the words that hide them.
use Rattle.std.proofs.Common.{◌≡◌, ℕ, zero, suc, ◌+◌, ◌<◌, Bool, true, false, cond, List, [], ◌∷◌, length, map, refl, sym, ap, ◌∙◌, arith, ⊎_elim}
use Rattle.std.specs.Prelude.{nat_lt, slice_index, slice_index_or, Option, Some, None, is_some, unwrap_or}
use Rattle.std.specs.List.{list_all, filter, range_with_len}
use Rattle.std.proofs.lemmas.Bool.{false≢true, and_from, and_parts, lt-ltb, ltb-true, cases_lt}
use Rattle.std.proofs.lemmas.List.{get_or_past}
use Rattle.missing_round.specs.Masks.{Masks}
use Rattle.missing_round.specs.Sets.{is_member as is_in}
use Rattle.missing_round.proofs.SetLemmas.{is_member-picked}
use Rattle.group_plan.specs.Plans.{PlanView, Group, size, is_place, is_member, members}
use Rattle.group_plan.specs.Tables.{ReadingsView, reading, IsReadingTable}
use Rattle.meter_frames.specs.declared.Frame.{Frame}
use Rattle.blind_core.specs.Blind.{are_places, AreReadings, AreGroupWords, word_or_0}
use Rattle.event_schedule.proofs.MemberLemmas.{is_member-below}
use Rattle.run_rows.specs.Ticks.{tag_of}
use Rattle.group_plan.specs.declared.Kind.TheVariants.{Reading}
use Rattle.plan_meters.specs.TickFrames.{reading_frame, word_frame, IsRow}
use Rattle.plan_meters.specs.Hidden.{Hide}

-- what passes for each number of a range passes for those that are kept of it
pub all_in_range : (p q : ℕ → Bool) (a n : ℕ) → ((i : ℕ) → i < a + n → p i ≡ true) → list_all p (filter q (range_with_len a n)) ≡ true
all_in_range p q a zero all = refl
all_in_range p q a (suc n) all = step (q a) (all_in_range p q (a + 1) n (λ i below. all i (omega arith)))
  where
    step : (b : Bool) → list_all p (filter q (range_with_len (a + 1) n)) ≡ true → list_all p (cond b (a ∷ filter q (range_with_len (a + 1) n)) (filter q (range_with_len (a + 1) n))) ≡ true
    step true later = and_from (p a) (list_all p (filter q (range_with_len (a + 1) n))) (all a (omega arith)) later
    step false later = later

pub members-below : (groups : List Group) (g r n : ℕ) → n ≡ size groups g → list_all (λ i. nat_lt i n) (members groups g r) ≡ true
members-below groups g r n long = all_in_range (λ i. nat_lt i n) (is_member groups g r) 0 (size groups g) (λ i below. lt-ltb i n (omega arith))

pub members-are_places : (plan : PlanView) (g r : ℕ) → r < plan.rounds → are_places plan g r (members plan.groups g r) ≡ true
members-are_places plan g r in_plan =
    all_in_range (is_place plan g r) (is_member plan.groups g r) 0 (size plan.groups g)
    (λ i below. and_from (nat_lt r plan.rounds) (nat_lt i (size plan.groups g)) (lt-ltb r plan.rounds in_plan) (lt-ltb i (size plan.groups g) (omega arith)))

pub in_members : (groups : List Group) (g r i : ℕ) → is_member groups g r i ≡ true → is_in i (members groups g r) ≡ true
in_members groups g r i is = let below = is_member-below groups g r i is in is_member-picked (is_member groups g r) 0 (size groups g) i (omega arith) (omega arith) ∙ is

-- ---- a row

row_at : (readings : ReadingsView) (g r : ℕ) (row : List (Option ℕ)) (i v : ℕ) → IsRow readings g r row → slice_index_or row i None ≡ Some v → reading readings.table g r i ≡ Some v
row_at readings g r row i v is at =
    ⊎_elim
    (λ below. sym (is.each i below) ∙ at)
    (λ past. let none : slice_index_or row i None ≡ None = get_or_past row i None past in absurd (cc (sym none ∙ at)))
    (cases_lt i (length row))

pub row-are_readings : (readings : ReadingsView) (g r : ℕ) (row : List (Option ℕ)) → IsReadingTable readings.plan readings.table → IsRow readings g r row → AreReadings (members readings.plan.groups g r) row
row-are_readings readings g r row table is = record {
  small = λ i x at. table.small g r i x (row_at readings g r row i x is at);
  member = λ i x at. in_members readings.plan.groups g r i (table.of_members g r i (ap is_some (row_at readings g r row i x is at)));
}

-- ---- frames

pub map_filter_same : {X : Type 0} (p q : ℕ → Bool) (F G : ℕ → X) (n : ℕ) (xs : List ℕ) → list_all (λ i. nat_lt i n) xs ≡ true
    → ((i : ℕ) → i < n → p i ≡ q i) → ((i : ℕ) → i < n → q i ≡ true → F i ≡ G i) → map F (filter p xs) ≡ map G (filter q xs)
map_filter_same p q F G n [] within tests same = refl
map_filter_same p q F G n (x ∷ xs) within tests same =
    let both = and_parts (nat_lt x n) (list_all (λ i. nat_lt i n) xs) within in
    let here : x < n = ltb-true x n both.0 in
    ap (λ b. map F (cond b (x ∷ filter p xs) (filter p xs))) (tests x here)
    ∙ step (q x) refl here (map_filter_same p q F G n xs both.1 tests same)
  where
    step : (b : Bool) → q x ≡ b → x < n → map F (filter p xs) ≡ map G (filter q xs) → map F (cond b (x ∷ filter p xs) (filter p xs)) ≡ map G (cond b (x ∷ filter q xs) (filter q xs))
    step true is here later = ap (λ y. y ∷ map F (filter p xs)) (same x here is) ∙ ap (λ l. G x ∷ l) later
    step false is here later = later

word_is : (readings : ReadingsView) (m : Masks) (g r : ℕ) (row : List (Option ℕ)) (words : List ℕ) → IsRow readings g r row
    → AreGroupWords (m.own g r) (m.pair g r) (members readings.plan.groups g r) row words → (i : ℕ) → i < length row → is_some (reading readings.table g r i) ≡ true
    → word_frame g r words i ≡ reading_frame readings.plan.groups (reading readings.table) m g r i
word_is readings m g r row words is are i below present = step (reading readings.table g r i) (are.each i below ∙ ap (word_or_0 (m.own g r) (m.pair g r) (members readings.plan.groups g r) i) (is.each i below)) refl present
  where
    step : (o : Option ℕ) → slice_index words i ≡ word_or_0 (m.own g r) (m.pair g r) (members readings.plan.groups g r) i o → reading readings.table g r i ≡ o → is_some o ≡ true
        → word_frame g r words i ≡ reading_frame readings.plan.groups (reading readings.table) m g r i
    step None word at some = absurd (false≢true some)
    step (Some v) word at some =
        let frame : ℕ → Frame = λ w. record { tag = tag_of Reading g r i; missing = []; word = w } in
        ap frame (word ∙ ap (λ (o : Option ℕ). word_or_0 (m.own g r) (m.pair g r) (members readings.plan.groups g r) i (Some (unwrap_or o 0))) (sym at))

-- as many words as the group has meters
pub hide-long : (readings : ReadingsView) (m : Masks) (g r : ℕ) (words : List ℕ) → Hide readings m g r words → length words ≡ size readings.plan.groups g
hide-long readings m g r words hide = hide.are.long ∙ hide.is.long

-- the frames with the words that hide the readings of a group are those of its readings
pub word-frames : (readings : ReadingsView) (m : Masks) (g r : ℕ) (words : List ℕ) → Hide readings m g r words
    → map (word_frame g r words) (filter (λ i. is_some (reading readings.table g r i)) (members readings.plan.groups g r))
    ≡ map (reading_frame readings.plan.groups (reading readings.table) m g r) (filter (λ i. is_some (reading readings.table g r i)) (members readings.plan.groups g r))
word-frames readings m g r words hide =
    map_filter_same (λ i. is_some (reading readings.table g r i)) (λ i. is_some (reading readings.table g r i)) (word_frame g r words)
    (reading_frame readings.plan.groups (reading readings.table) m g r) (length hide.row) (members readings.plan.groups g r) (members-below readings.plan.groups g r (length hide.row) hide.is.long)
    (λ i below. refl) (word_is readings m g r hide.row words hide.is hide.are)
