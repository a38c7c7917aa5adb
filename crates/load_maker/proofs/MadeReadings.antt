-- The text of the readings as they are drawn is that of the table.
use Rattle.std.proofs.Common.{◌≡◌, ◌∙◌, ◌<◌, ◌≤◌, ◌+◌, ◌*◌, ℕ, zero, suc, true, List, [], ◌∷◌, ◌++◌, length, map, Some, None, refl, sym, ap, arith, decimal, append_assoc}
use Rattle.std.proofs.Math.Nat.{add-mul}
use Rattle.std.proofs.lemmas.Bool.Decides.{nat_tests}
use Rattle.std.proofs.lemmas.Grind.{flat_map-append}
use Rattle.std.proofs.lemmas.List.{length-map, length-replicate}
use Rattle.std.proofs.lemmas.List.Folds.{flat_map-map}
use Rattle.std.proofs.lemmas.List.FromFn.{get_or-map-range_with_len, length-map-range_with_len}
use Rattle.std.proofs.lemmas.Option.{slice_get-get_or}
use Rattle.std.specs.List.{flat_map, range_with_len}
use Rattle.std.specs.Prelude.{slice_get}
use Rattle.group_plan.specs.NewPlans.{group_of, whole}
use Rattle.group_plan.specs.Plans.{is_place, name_of, name_or, size, size_or}
use Rattle.group_plan.specs.Tables.{reading}
use Rattle.group_plan.proofs.TableLemmas.{entry-table_of}
use Rattle.plan_files.specs.PlainRows.{rest_text, row_text}
use Rattle.plan_files.specs.Spelling.{reading_field, readings_row, readings_rows, readings_text}
use Rattle.rand_chacha.specs.ChaCha.{ChaCha}
use Rattle.load_maker.specs.Drawing.{ahead, reading_drawn, stream_at}
use Rattle.load_maker.specs.Made.{group_name, made_group, made_plan, made_reading, made_readings}
use Rattle.load_maker.specs.Writing.{fields_text, group_rows_text, row_drawn}
use Rattle.load_maker.proofs.DrawLemmas.{flat_more}

-- ---- lists

pub same_map : {X : Type 0} (f g : ℕ → X) (a n : ℕ) → ((k : ℕ) → a ≤ k → k < a + n → f k ≡ g k) → map f (range_with_len a n) ≡ map g (range_with_len a n)
same_map f g a zero same = refl
same_map f g a (suc n) same =
    ap (λ x. x ∷ map f (range_with_len (a + 1) n)) (same a (omega arith) (omega arith))
    ∙ ap (λ l. g a ∷ l) (same_map f g (a + 1) n (λ k from to. same k (omega (arith, from)) (omega (arith, to))))

pub same_flat : {X : Type 0} (f g : ℕ → List X) (a n : ℕ) → ((k : ℕ) → a ≤ k → k < a + n → f k ≡ g k) → flat_map f (range_with_len a n) ≡ flat_map g (range_with_len a n)
same_flat f g a zero same = refl
same_flat f g a (suc n) same =
    ap (λ x. x ++ flat_map f (range_with_len (a + 1) n)) (same a (omega arith) (omega arith))
    ∙ ap (λ l. g a ++ l) (same_flat f g (a + 1) n (λ k from to. same k (omega (arith, from)) (omega (arith, to))))

pub flat_flat : {X Y : Type 0} (f : X → List Y) (g : ℕ → List X) (ks : List ℕ) → flat_map f (flat_map g ks) ≡ flat_map (λ k. flat_map f (g k)) ks
flat_flat f g [] = refl
flat_flat f g (k ∷ ks) = flat_map-append f (g k) (flat_map g ks) ∙ ap (λ l. flat_map f (g k) ++ l) (flat_flat f g ks)

-- ---- the groups

pub group_count : (groups meters rounds : ℕ) → length (made_plan groups meters rounds).groups ≡ groups
unfolding made_plan
group_count groups meters rounds =
    length-map (map (made_group meters) (range_with_len 0 groups)) (group_of rounds) ∙ length-map-range_with_len (made_group meters) 0 groups

maps : {X Y : Type 0} (f : X → Y) (g : ℕ → X) (ks : List ℕ) → map f (map g ks) ≡ map (λ k. f (g k)) ks
maps f g [] = refl
maps f g (k ∷ ks) = ap (λ l. f (g k) ∷ l) (maps f g ks)

pub group_at : (groups meters rounds g : ℕ) → g < groups → slice_get (made_plan groups meters rounds).groups g ≡ Some (group_of rounds (made_group meters g))
unfolding made_plan
group_at groups meters rounds g lt =
    let f = λ (k : ℕ). group_of rounds (made_group meters k) in
    let d = f 0 in
    ap (λ l. slice_get l g) (maps (group_of rounds) (made_group meters) (range_with_len 0 groups))
    ∙ (slice_get-get_or (map f (range_with_len 0 groups)) g d (let long = length-map-range_with_len f 0 groups in omega (arith, lt, long))
    ∙ ap Some (get_or-map-range_with_len f 0 groups g g d lt (omega arith)))

pub made_size : (groups meters rounds g : ℕ) → g < groups → size (made_plan groups meters rounds).groups g ≡ meters
made_size groups meters rounds g lt = ap size_or (group_at groups meters rounds g lt) ∙ length-replicate meters (whole rounds)

pub made_name : (groups meters rounds g : ℕ) → g < groups → name_of (made_plan groups meters rounds).groups g ≡ group_name g
made_name groups meters rounds g lt = ap name_or (group_at groups meters rounds g lt)

pub made_rounds : (groups meters rounds : ℕ) → (made_plan groups meters rounds).rounds ≡ rounds
unfolding made_plan
made_rounds groups meters rounds = refl

-- ---- the readings

pub made_place : (groups meters rounds g r i : ℕ) → g < groups → r < rounds → i < meters → is_place (made_plan groups meters rounds) g r i ≡ true
made_place groups meters rounds g r i a b d =
    let size = made_size groups meters rounds g a in
    let all = made_rounds groups meters rounds in
    grind (arith, nat_tests, size, all, b, d)

pub reading_is : (seed groups meters rounds g r i : ℕ) → g < groups → r < rounds → i < meters
    → reading (made_readings seed groups meters rounds).table g r i ≡ made_reading seed ((g * rounds + r) * meters + i)
unfolding made_readings
reading_is seed groups meters rounds g r i a b d =
    entry-table_of (made_plan groups meters rounds) (λ h q j. made_reading seed ((h * rounds + q) * meters + j)) None g r i (made_place groups meters rounds g r i a b d)

reading_there : (seed meters rounds g r i : ℕ) → made_reading seed ((g * rounds + r) * meters + i) ≡ reading_drawn (ahead (ahead (stream_at seed 2 (2 * (g * rounds * meters))) (2 * (r * meters))) (2 * i))
reading_there seed meters rounds g r i =
    let turn = add-mul (g * rounds) r meters in
    ap (λ p. reading_drawn (stream_at seed 2 p)) (let e : 2 * ((g * rounds + r) * meters + i) ≡ 2 * (g * rounds * meters) + 2 * (r * meters) + 2 * i = omega (arith, turn) in e)

rest_fields : (fields : List (List ℕ)) → rest_text fields ≡ flat_map (λ f. 44 ∷ f) fields ++ 10 ∷ []
rest_fields [] = refl
rest_fields (f ∷ fs) =
    ap (λ l. 44 ∷ (f ++ l)) (rest_fields fs) ∙ ap (λ l. 44 ∷ l) (sym (append_assoc f (flat_map (λ g. 44 ∷ g) fs) (10 ∷ [])))

row_is : (seed groups meters rounds g r : ℕ) → g < groups → r < rounds
    → row_text (readings_row (made_plan groups meters rounds) (made_readings seed groups meters rounds).table g r)
    ≡ row_drawn (ahead (stream_at seed 2 (2 * (g * rounds * meters))) (2 * (r * meters))) g r meters
unfolding row_drawn
row_is seed groups meters rounds g r lt within =
    let plan = made_plan groups meters rounds in
    let table = (made_readings seed groups meters rounds).table in
    let stream = ahead (stream_at seed 2 (2 * (g * rounds * meters))) (2 * (r * meters)) in
    let field = λ (i : ℕ). reading_field (reading table g r i) in
    let drawn = λ (i : ℕ). reading_field (reading_drawn (ahead stream (2 * i))) in
    let fields : map field (range_with_len 0 (size plan.groups g)) ≡ map drawn (range_with_len 0 meters) =
    ap (λ n. map field (range_with_len 0 n)) (made_size groups meters rounds g lt)
    ∙ same_map field drawn 0 meters (λ i from to. ap reading_field (reading_is seed groups meters rounds g r i lt within (omega (arith, to)) ∙ reading_there seed meters rounds g r i)) in
    let rest : rest_text (map field (range_with_len 0 (size plan.groups g))) ≡ fields_text stream meters ++ 10 ∷ [] =
    ap rest_text fields ∙ (rest_fields (map drawn (range_with_len 0 meters)) ∙ ap (λ l. l ++ 10 ∷ []) (flat_map-map (λ f. 44 ∷ f) drawn (range_with_len 0 meters))) in
    let name = made_name groups meters rounds g lt in
    ap (λ n. n ++ 44 ∷ (decimal r ++ rest_text (map field (range_with_len 0 (size plan.groups g))))) name
    ∙ (ap (λ l. group_name g ++ 44 ∷ (decimal r ++ l)) rest ∙ joined (group_name g) (decimal r) (fields_text stream meters))
  where
    joined : (n d f : List ℕ) → n ++ 44 ∷ (d ++ (f ++ 10 ∷ [])) ≡ n ++ (44 ∷ []) ++ d ++ f ++ 10 ∷ []
    joined n d f = sym (append_assoc (n ++ (44 ∷ []) ++ d) f (10 ∷ []) ∙ (append_assoc (n ++ (44 ∷ [])) d (f ++ 10 ∷ []) ∙ append_assoc n (44 ∷ []) (d ++ (f ++ 10 ∷ []))))

-- the rows of group g, from its place in the stream on
abbrev pub group_drawn : (seed meters rounds g : ℕ) → List ℕ
group_drawn seed meters rounds g = group_rows_text (stream_at seed 2 (2 * (g * rounds * meters))) g meters rounds

pub group_more : (seed meters rounds g : ℕ) (old new : List ℕ) (stream : ChaCha) → old ≡ flat_map (group_drawn seed meters rounds) (range_with_len 0 g) → stream ≡ stream_at seed 2 (2 * (g * rounds * meters))
    → new ≡ old ++ group_rows_text stream g meters rounds → new ≡ flat_map (group_drawn seed meters rounds) (range_with_len 0 (g + 1))
group_more seed meters rounds g old new stream before here now =
    now ∙ (ap (λ l. l ++ group_rows_text stream g meters rounds) before
    ∙ (ap (λ s. flat_map (group_drawn seed meters rounds) (range_with_len 0 g) ++ group_rows_text s g meters rounds) here
    ∙ sym (flat_more (group_drawn seed meters rounds) 0 g g (omega arith))))

pub readings_written : (seed groups meters rounds : ℕ) → flat_map (group_drawn seed meters rounds) (range_with_len 0 groups) ≡ readings_text (made_readings seed groups meters rounds)
unfolding readings_rows made_readings
readings_written seed groups meters rounds =
    let plan = made_plan groups meters rounds in
    let table = (made_readings seed groups meters rounds).table in
    let rows = λ (g : ℕ). map (readings_row plan table g) (range_with_len 0 plan.rounds) in
    let group : (g : ℕ) → 0 ≤ g → g < 0 + groups → flat_map row_text (rows g) ≡ group_drawn seed meters rounds g =
    λ g from to.
    flat_map-map row_text (readings_row plan table g) (range_with_len 0 plan.rounds)
    ∙ (ap (λ n. flat_map (λ r. row_text (readings_row plan table g r)) (range_with_len 0 n)) (made_rounds groups meters rounds)
    ∙ same_flat (λ r. row_text (readings_row plan table g r)) (λ r. row_drawn (ahead (stream_at seed 2 (2 * (g * rounds * meters))) (2 * (r * meters))) g r meters) 0 rounds
    (λ r a b. row_is seed groups meters rounds g r (omega (arith, to)) (omega (arith, b)))) in
    sym (flat_flat row_text rows (range_with_len 0 (length plan.groups))
    ∙ (ap (λ n. flat_map (λ g. flat_map row_text (rows g)) (range_with_len 0 n)) (group_count groups meters rounds)
    ∙ same_flat (λ g. flat_map row_text (rows g)) (group_drawn seed meters rounds) 0 groups group))
