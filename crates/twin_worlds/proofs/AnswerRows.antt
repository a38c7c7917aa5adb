-- The rows of words that the meters of a plan answer.
use Rattle.std.proofs.Common.{◌≡◌, ℕ, zero, suc, ◌+◌, ◌*◌, ◌/◌, ◌<◌, ◌≤◌, Bool, true, false, not, ◌&&◌, List, [], ◌∷◌, length, map, get_or, take, refl, sym, ap, ◌∙◌, subst, zero-add, arith, Vec}
use Rattle.std.specs.declared.alloc.Global.{Global}
use Rattle.std.specs.Prelude.{nat_lt, slice_index, Some}
use Rattle.std.specs.List.{AllZip, filter, range_with_len}
use Rattle.std.proofs.Math.Bool.{and-false}
use Rattle.std.proofs.Math.Nat.{mul_comm}
use Rattle.std.proofs.lemmas.Bool.{false≢true, and_from, and_parts, lt-ltb}
use Rattle.std.proofs.lemmas.List.{length-map}
use Rattle.std.proofs.lemmas.Nat.{mul-add-lt, div-mul-add, mod-mul-add}
use Rattle.std.proofs.lemmas.Option.{slice_get-get_or}
use Rattle.missing_round.specs.Masks.{Masks}
use Rattle.missing_round.specs.Sets.{is_member as is_in}
use Rattle.missing_round.specs.Words.{answer_word}
use Rattle.missing_round.proofs.SetLemmas.{is_member-filter, filter-picked}
use Rattle.group_plan.specs.Plans.{size, is_place, is_member}
use Rattle.blind_core.specs.Blind.{are_places}
use Rattle.event_schedule.specs.declared.Event.{Event}
use Rattle.event_schedule.specs.Schedule.{Shape, is_announced, is_reading_taken, survivors, missing, members_of}
use Rattle.event_schedule.proofs.MemberLemmas.{is_member-below}
use Rattle.group_book.specs.Books.{BookView, shape_of, past, has_round}
use Rattle.group_book.proofs.PlaceLemmas.{in_round}
use Rattle.plan_meters.proofs.RangeLemmas.{range_at, range_long}
use Rattle.plan_meters.proofs.RowLemmas.{all_in_range}
use Rattle.ideal_masks.specs.Chains.{are_below}
use Rattle.twin_worlds.specs.declared.answer_words.AnswerWords.{AnswerWords}
use Rattle.twin_worlds.specs.Answers.{AreAnswers, AreAnswersAt, AreAllAnswers, answers_in}

-- ---- the meters of a round

-- those of its members that pass a test have places
places-kept : (b : BookView) (g r : ℕ) (q : ℕ → Bool) (set : List ℕ) → has_round b g r ≡ true → set ≡ filter q (members_of (shape_of b) g r) → are_places b.presence.plan g r set ≡ true
places-kept b g r q set known is =
    let plan = b.presence.plan in
    let in_plan : r < plan.rounds = (in_round plan g r known).1 in
    ap (are_places plan g r) (is ∙ filter-picked (is_member plan.groups g r) q 0 (size plan.groups g))
    ∙ all_in_range (is_place plan g r) (λ i. is_member plan.groups g r i && q i) 0 (size plan.groups g)
    (λ i below. and_from (nat_lt r plan.rounds) (nat_lt i (size plan.groups g)) (lt-ltb r plan.rounds in_plan) (lt-ltb i (size plan.groups g) (omega arith)))

pub survivors-places : (b : BookView) (g r : ℕ) (set : List ℕ) → has_round b g r ≡ true → set ≡ survivors (shape_of b) g r (past b) → are_places b.presence.plan g r set ≡ true
survivors-places b g r set known is = places-kept b g r (λ i. is_reading_taken (shape_of b) g r i (past b)) set known is

pub missing-places : (b : BookView) (g r : ℕ) (set : List ℕ) → has_round b g r ≡ true → set ≡ missing (shape_of b) g r (past b) → are_places b.presence.plan g r set ≡ true
missing-places b g r set known is = places-kept b g r (λ i. not (is_reading_taken (shape_of b) g r i (past b))) set known is

-- the survivors are below the size of their group
pub survivors-below : (s : Shape) (g r : ℕ) (p : List Event) → are_below (size s.groups g) (survivors s g r p) ≡ true
survivors-below s g r p =
    let n = size s.groups g in
    let taken : ℕ → Bool = λ i. is_reading_taken s g r i p in
    ap (are_below n) (filter-picked (is_member s.groups g r) taken 0 n)
    ∙ all_in_range (λ i. nat_lt i n) (λ i. is_member s.groups g r i && taken i) 0 n (λ i below. lt-ltb i n (omega arith))

survivor-parts : (s : Shape) (g r i : ℕ) (p : List Event) → is_in i (survivors s g r p) ≡ true → (is_in i (members_of s g r) ≡ true) × (is_reading_taken s g r i p ≡ true)
survivor-parts s g r i p inside =
    and_parts (is_in i (members_of s g r)) (is_reading_taken s g r i p) (sym (is_member-filter (λ j. is_reading_taken s g r j p) i (members_of s g r)) ∙ inside)

-- a survivor isn't missing
pub survivor-there : (s : Shape) (g r i : ℕ) (p : List Event) → is_in i (survivors s g r p) ≡ true → is_in i (missing s g r p) ≡ false
survivor-there s g r i p inside =
    is_member-filter (λ j. not (is_reading_taken s g r j p)) i (members_of s g r)
    ∙ ap (λ b. is_in i (members_of s g r) && not b) (survivor-parts s g r i p inside).1
    ∙ and-false (is_in i (members_of s g r))

survivor-lt : (s : Shape) (g r i : ℕ) (p : List Event) → is_in i (survivors s g r p) ≡ true → i < size s.groups g
survivor-lt s g r i p inside =
    is_member-below s.groups g r i
    (and_parts (is_in i (range_with_len 0 (size s.groups g))) (is_member s.groups g r i)
    (sym (is_member-filter (is_member s.groups g r) i (range_with_len 0 (size s.groups g))) ∙ (survivor-parts s g r i p inside).0)).1

-- ---- one row

get_or-take : (n i : ℕ) (xs : List ℕ) → i < n → get_or (take n xs) i 0 ≡ get_or xs i 0
get_or-take zero i xs lt = absurd (omega arith)
get_or-take (suc n) i [] lt = refl
get_or-take (suc n) zero (x ∷ xs) lt = refl
get_or-take (suc n) (suc i) (x ∷ xs) lt = get_or-take n i xs (omega arith)

length-take_all : (n : ℕ) (xs : List ℕ) → n ≤ length xs → length (take n xs) ≡ n
length-take_all zero xs le = refl
length-take_all (suc n) [] le = absurd (omega arith)
length-take_all (suc n) (x ∷ xs) le = ap suc (length-take_all n xs (omega arith))

-- the first of these words are those of the group
pub answers-row : (m : Masks) (b : BookView) (g r n : ℕ) (set : List ℕ) (words : List ℕ) → set ≡ missing (shape_of b) g r (past b) → n ≡ size b.presence.plan.groups g → n ≤ length words
    → ((i : ℕ) → is_in i (survivors (shape_of b) g r (past b)) ≡ true → slice_index words i ≡ answer_word (m.own g r) (m.pair g r) i set) → AreAnswers m b g r (take n words)
answers-row m b g r n set words is long enough each = λ _ i inside.
    let below : i < n = subst (λ k. i < k) (sym long) (survivor-lt (shape_of b) g r i (past b) inside) in
    let within : i < length (take n words) = subst (λ k. i < k) (sym (length-take_all n words enough)) below in
    slice_get-get_or (take n words) i 0 within
    ∙ ap Some (get_or-take n i words below ∙ each i inside ∙ ap (answer_word (m.own g r) (m.pair g r) i) is)

-- there are none where nothing is announced
pub answers-none : (m : Masks) (b : BookView) (g r : ℕ) (words : List ℕ) → is_announced (shape_of b) g r (past b) ≡ false → AreAnswers m b g r words
answers-none m b g r words none = λ announced i inside. absurd (false≢true (sym none ∙ announced))

-- ---- all rows

-- what holds of the items of vectors, beside the vectors
of-items : {X Y : Type 0} (f : Y → X) (R : ℕ → X → Type 0) (ks : List ℕ) (ys : List Y) → AllZip (λ k y. R k (f y)) ks ys → AllZip R ks (map f ys)
of-items f R [] [] all = tt
of-items f R [] (y ∷ ys) all = absurd all
of-items f R (k ∷ ks) [] all = absurd all
of-items f R (k ∷ ks) (y ∷ ys) all = (all.0, of-items f R ks ys all.1)

place-below : (n rounds g r : ℕ) → g < n → r < rounds → r * n + g < rounds * n
place-below n rounds g r group round = subst (λ k. r * n + g < k) (mul_comm n rounds) (mul-add-lt r n g rounds round group)

-- the row of a group in a round
pub row-there : (m : Masks) (b : BookView) (a : AnswerWords) (g r : ℕ) → a.groups ≡ length b.presence.plan.groups → AreAllAnswers m b a.rows.items → g < length b.presence.plan.groups → r < b.presence.plan.rounds
    → (r * a.groups + g < length a.rows.items) × AreAnswers m b g r (answers_in a g r)
row-there m b a g r groups are group round =
    let n = length b.presence.plan.groups in
    let places = b.presence.plan.rounds * n in
    let items : Vec ℕ Global → List ℕ = λ row. row.items in
    let place = r * n + g in
    let long : length a.rows.items ≡ places = range_long (λ k (row : Vec ℕ Global). AreAnswersAt m b k row.items) 0 places a.rows.items are.each in
    let inside : place < places = place-below n b.presence.plan.rounds g r group round in
    let rows : AllZip (AreAnswersAt m b) (range_with_len 0 places) (map items a.rows.items) = of-items items (AreAnswersAt m b) (range_with_len 0 places) a.rows.items are.each in
    let below : place < length (map items a.rows.items) = subst (λ k. place < k) (sym (length-map a.rows.items items ∙ long)) inside in
    let row : List ℕ = get_or (map items a.rows.items) place [] in
    let at : AreAnswersAt m b place row = subst (λ k. AreAnswersAt m b k row) (zero-add place) (range_at (AreAnswersAt m b) 0 places (map items a.rows.items) rows place [] below).1 in
    let by_group : AreAnswers m b g (place / n) row = subst (λ k. AreAnswers m b k (place / n) row) (mod-mul-add r n g group) at in
    let by_round : AreAnswers m b g r row = subst (λ k. AreAnswers m b g k row) (div-mul-add r n g group) by_group in (
      subst (λ k. r * k + g < length a.rows.items) (sym groups) (subst (λ k. place < k) (sym long) inside),
      subst (λ k. AreAnswers m b g r (get_or (map items a.rows.items) (r * k + g) [])) (sym groups) by_round,
    )
