-- Two reading tables that agree have one transcript under the shift.
use Rattle.std.proofs.Common.{◌≡◌, ℕ, ◌+◌, ◌^◌, ◌<◌, Bool, true, false, not, ◌&&◌, ◌||◌, List, [], ◌∷◌, refl, sym, ap, ◌∙◌, ⊎_elim, zero-add, add-zero, arith}
use Rattle.std.specs.Prelude.{if◌then◌else◌, unwrap_or}
use Rattle.std.specs.List.{sum_by, list_all}
use mathlib.Core.Path.{fun_ext}
use Rattle.std.proofs.lemmas.Bool.{false≢true, and_from, cases_Bool, or_cases}
use Rattle.std.proofs.lemmas.List.Filters.{sum_by-filter_both}
use Rattle.event_schedule.specs.declared.Event.{Event}
use Rattle.missing_round.specs.Words.{word, minus, share, reading_word, answer_word}
use Rattle.group_plan.specs.Plans.{Group, is_member, members}
use Rattle.event_schedule.specs.Schedule.{Shape, is_reading_taken, missing, is_announced, is_answer_sent}
use Rattle.event_schedule.specs.Tables.{Readings, Masks, reading_at, IsOfPlan, IsMasks}
use Rattle.event_schedule.specs.Transcript.{shape_of_readings, Contents, contents_of_tables, lines_after, transcript}
use Rattle.ideal_masks.specs.Pools.{Pool, nobody, others, others_answered, others_silent, is_open, chain_for, ShareWords}
use Rattle.ideal_masks.specs.Offsets.{delta, pair_move, own_move, own_offset_for, pair_offset_for, moves_for, offsets_for, offsets, shift, unshift, AgreeFor, Agree}
use Rattle.event_schedule.proofs.TranscriptLemmas.{Alike, lines_after-same, shape-same}
use Rattle.event_schedule.proofs.ScheduleLemmas.{after, is_announced-from_answer, is_reading_taken-from_answer}
use Rattle.ideal_masks.proofs.OffsetLemmas.{answer_word-shifted, chain_apart, each_once, once_members, reading_word-shifted, round_apart, round_moves, round_still, sum_deltas, sum_share-none, word-delta}
use Rattle.ideal_masks.proofs.PoolLemmas.{open-opened, total-whole}
use Rattle.event_schedule.proofs.ListLemmas.{list_all-from_filter}
use Rattle.missing_round.proofs.WordLemmas.{word-add_same}

with_announced : (announced : Bool) (om d : ℕ) (move : ℕ → ℕ → ℕ) (i : ℕ) (xs : List ℕ) → (announced ≡ true → word (om + sum_by (share move i) xs) ≡ word d)
    → word ((if announced then om else d) + sum_by (share (λ a b. if announced then move a b else 0) i) xs) ≡ word d
with_announced true om d move i xs h = h refl
with_announced false om d move i xs h = word-add_same d (sum_by (share (λ _ _. 0) i) xs) 0 (sum_share-none i xs) ∙ ap word (add-zero d)

still_announced : (announced : Bool) (move : ℕ → ℕ → ℕ) (i : ℕ) (xs : List ℕ) → word (sum_by (share move i) xs) ≡ 0
    → word (sum_by (share (λ a b. if announced then move a b else 0) i) xs) ≡ 0
still_announced true move i xs h = h
still_announced false move i xs h = sum_share-none i xs

-- the own word of a meter that answered stays
own_move-answered : (d : ℕ → ℕ) (b : ℕ → Bool) (answers silents : List ℕ) (i : ℕ) → b i ≡ true → own_move d b answers silents i ≡ 0
own_move-answered d b answers [] i replied = rw replied
own_move-answered d b answers (z ∷ zs) i replied = rw replied

-- where all survivors outside the pool answered, their deltas cancel
answered_cancel : (pool : Pool) (groups : List Group) (x y : Readings) (whole : List Event) → AgreeFor pool groups x y whole → (g r : ℕ)
    → is_announced (shape_of_readings groups x) g r whole ≡ true → others_silent pool (shape_of_readings groups x) g r whole ≡ []
    → word (sum_by (delta x y g r) (others_answered pool (shape_of_readings groups x) g r whole)) ≡ 0
answered_cancel pool groups x y whole agree g r announced none =
    let s : Shape = shape_of_readings groups x in
    let b : ℕ → Bool = λ i. is_answer_sent s g r i whole in
    let a : List ℕ = others pool s g r whole in
    let open_to : is_open pool s g r whole ≡ true = and_from (is_announced s g r whole) (list_all b a) announced (list_all-from_filter b a none) in
    let split = sum_by-filter_both b (λ k. not (b k)) (λ _. refl) (delta x y g r) a in
    let gone : sum_by (delta x y g r) (others_silent pool s g r whole) ≡ 0 = ap (sum_by (delta x y g r)) none in
    let all : sum_by (delta x y g r) (others_answered pool s g r whole) ≡ sum_by (delta x y g r) a = omega (arith, split, gone) in
    ap word all ∙ sum_deltas (reading_at x g r) (reading_at y g r) a (agree.totals g r open_to)

-- ---- a meter of a round

-- the moves bring each reading word outside the pool its delta, where the deltas of a round that all of these answered cancel
moved-outside : (pool : Pool) (s : Shape) (m : Masks) (d : ℕ → ℕ → ℕ → ℕ) (whole : List Event) (g r i x y : ℕ)
    → is_member s.groups g r i ≡ true → pool g i ≡ false
    → (is_announced s g r whole ≡ true → others_silent pool s g r whole ≡ [] → word (sum_by (d g r) (others_answered pool s g r whole)) ≡ 0)
    → word (y + d g r i) ≡ word x
    → reading_word ((shift (moves_for pool s d whole) m).own g r) ((shift (moves_for pool s d whole) m).pair g r) (members s.groups g r) i y
    ≡ reading_word (m.own g r) (m.pair g r) (members s.groups g r) i x
moved-outside pool s m d whole g r i x y within outside cancel differ =
    let ms : List ℕ = members s.groups g r in
    let t : ℕ → Bool = λ k. not (pool g k) && is_reading_taken s g r k whole in
    let b : ℕ → Bool = λ k. is_answer_sent s g r k whole in
    let own : ℕ = own_move (d g r) b (others_answered pool s g r whole) (others_silent pool s g r whole) i in
    reading_word-shifted (m.own g r) (own_offset_for pool s d whole g r) (m.pair g r) (pair_offset_for pool s d whole g r) ms i x y (d g r i)
    (ap (λ c. word ((if c then 0 else (if is_announced s g r whole then own else d g r i)) + sum_by (share (pair_offset_for pool s d whole g r) i) ms)) outside
    ∙ with_announced (is_announced s g r whole) own (d g r i) (pair_move (d g r) 0 (chain_for pool s g r whole)) i ms
    (λ announced. round_moves (d g r) t b ms i (each_once s.groups g r) (once_members s.groups g r i within)
    (λ sent. and_from (not (pool g i)) (is_reading_taken s g r i whole) (ap not outside) (is_reading_taken-from_answer s g r i whole sent)) (cancel announced)))
    differ

-- and those of the pool stay
moved-inside : (pool : Pool) (s : Shape) (m : Masks) (d : ℕ → ℕ → ℕ → ℕ) (whole : List Event) (g r i x y : ℕ) → pool g i ≡ true → y ≡ x
    → reading_word ((shift (moves_for pool s d whole) m).own g r) ((shift (moves_for pool s d whole) m).pair g r) (members s.groups g r) i y
    ≡ reading_word (m.own g r) (m.pair g r) (members s.groups g r) i x
moved-inside pool s m d whole g r i x y inside same =
    let ms : List ℕ = members s.groups g r in
    let t : ℕ → Bool = λ k. not (pool g k) && is_reading_taken s g r k whole in
    let b : ℕ → Bool = λ k. is_answer_sent s g r k whole in
    let own : ℕ = own_move (d g r) b (others_answered pool s g r whole) (others_silent pool s g r whole) i in
    let pairs : ℕ = sum_by (share (pair_offset_for pool s d whole g r) i) ms in
    reading_word-shifted (m.own g r) (own_offset_for pool s d whole g r) (m.pair g r) (pair_offset_for pool s d whole g r) ms i x y 0
    (ap (λ c. word ((if c then 0 else (if is_announced s g r whole then own else d g r i)) + pairs)) inside
    ∙ ap word (zero-add pairs)
    ∙ still_announced (is_announced s g r whole) (pair_move (d g r) 0 (chain_for pool s g r whole)) i ms
    (round_apart (d g r) t b ms i (ap (λ c. not c && is_reading_taken s g r i whole) inside)))
    (ap word (add-zero y ∙ same))

pub reading_word-moved : (pool : Pool) (s : Shape) (m : Masks) (d : ℕ → ℕ → ℕ → ℕ) (whole : List Event) (g r i x y : ℕ)
    → is_member s.groups g r i ≡ true
    → (is_announced s g r whole ≡ true → others_silent pool s g r whole ≡ [] → word (sum_by (d g r) (others_answered pool s g r whole)) ≡ 0)
    → word (y + d g r i) ≡ word x → (pool g i ≡ true → y ≡ x)
    → reading_word ((shift (moves_for pool s d whole) m).own g r) ((shift (moves_for pool s d whole) m).pair g r) (members s.groups g r) i y
    ≡ reading_word (m.own g r) (m.pair g r) (members s.groups g r) i x
reading_word-moved pool s m d whole g r i x y within cancel differ same =
    ⊎_elim
    (λ inside. moved-inside pool s m d whole g r i x y inside (same inside))
    (λ outside. moved-outside pool s m d whole g r i x y within outside cancel differ)
    (cases_Bool (pool g i))

and-none : (a b : Bool) → b ≡ false → (a && b) ≡ false
and-none true b none = none
and-none false b none = refl

either-still : (c : Bool) (v : ℕ) → v ≡ 0 → (if c then 0 else v) ≡ 0
either-still true v none = refl
either-still false v none = none

pub answer_word-moved : (pool : Pool) (s : Shape) (m : Masks) (d : ℕ → ℕ → ℕ → ℕ) (whole : List Event) (g r i : ℕ) → is_answer_sent s g r i whole ≡ true
    → answer_word ((shift (moves_for pool s d whole) m).own g r) ((shift (moves_for pool s d whole) m).pair g r) i (missing s g r whole)
    ≡ answer_word (m.own g r) (m.pair g r) i (missing s g r whole)
answer_word-moved pool s m d whole g r i sent =
    let t : ℕ → Bool = λ k. not (pool g k) && is_reading_taken s g r k whole in
    let b : ℕ → Bool = λ k. is_answer_sent s g r k whole in
    answer_word-shifted (m.own g r) (own_offset_for pool s d whole g r) (m.pair g r) (pair_offset_for pool s d whole g r) i (missing s g r whole)
    (either-still (pool g i) (if is_announced s g r whole then own_move (d g r) b (others_answered pool s g r whole) (others_silent pool s g r whole) i else d g r i)
    (rw (is_announced-from_answer s g r i whole sent) (own_move-answered (d g r) b (others_answered pool s g r whole) (others_silent pool s g r whole) i sent)))
    (still_announced (is_announced s g r whole) (pair_move (d g r) 0 (chain_for pool s g r whole)) i (missing s g r whole)
    (round_still (d g r) t (λ k. is_reading_taken s g r k whole) b (members s.groups g r) i (λ j out. and-none (not (pool g j)) (is_reading_taken s g r j whole) out)))

pub alike_shifted : (pool : Pool) (groups : List Group) (x y : Readings) (m : Masks) (whole : List Event) → IsOfPlan groups x → AgreeFor pool groups x y whole
    → Alike (shape_of_readings groups x) (contents_of_tables groups x m) (contents_of_tables groups y (shift (offsets_for pool groups x y whole) m)) whole
alike_shifted pool groups x y m whole of_plan agree =
    let s : Shape = shape_of_readings groups x in
    let same : (g r i : ℕ) → pool g i ≡ true → reading_at x g r i ≡ reading_at y g r i = λ g r i inside. ap (λ o. unwrap_or o 0) (agree.readings g r i inside) in
    record {
      readings = λ g r i present. sym (reading_word-moved pool s m (delta x y) whole g r i (reading_at x g r i) (reading_at y g r i) (of_plan g r i present)
          (answered_cancel pool groups x y whole agree g r) (word-delta (reading_at x g r i) (reading_at y g r i)) (λ inside. sym (same g r i inside)));
      answers = λ g r i sent. sym (answer_word-moved pool s m (delta x y) whole g r i sent);
      totals = λ g r opened. total-whole pool s (reading_at x g r) (reading_at y g r) g r whole (same g r) (agree.totals g r (open-opened pool s g r whole opened));
    }

pub two_worlds_for : (pool : Pool) (groups : List Group) (x y : Readings) (m : Masks) (events : List Event) → IsOfPlan groups x → AgreeFor pool groups x y (after [] events)
    → transcript groups y (shift (offsets_for pool groups x y (after [] events)) m) events ≡ transcript groups x m events
two_worlds_for pool groups x y m events of_plan agree =
    let moved : Contents = contents_of_tables groups y (shift (offsets_for pool groups x y (after [] events)) m) in
    ap (λ s. lines_after s moved [] events) (sym (shape-same groups x y agree.presence))
    ∙ sym (lines_after-same (shape_of_readings groups x) (contents_of_tables groups x m) moved [] events (alike_shifted pool groups x y m (after [] events) of_plan agree))

pub two_worlds : (groups : List Group) (x y : Readings) (m : Masks) (events : List Event) → IsOfPlan groups x → Agree groups x y (after [] events)
    → transcript groups y (shift (offsets groups x y (after [] events)) m) events ≡ transcript groups x m events
two_worlds = two_worlds_for nobody

-- ---- no word of the pool moves

stays-word : (a o : ℕ) → a < 2 ^ 64 → o ≡ 0 → a ≡ word (a + o)
stays-word a o fits none = omega (arith, fits, none)

pair-still : (pool : Pool) (s : Shape) (d : ℕ → ℕ → ℕ → ℕ) (whole : List Event) (g r i j : ℕ) → (pool g i || pool g j) ≡ true → pair_offset_for pool s d whole g r i j ≡ 0
pair-still pool s d whole g r i j inside =
    let t : ℕ → Bool = λ k. not (pool g k) && is_reading_taken s g r k whole in
    let b : ℕ → Bool = λ k. is_answer_sent s g r k whole in
    let ms : List ℕ = members s.groups g r in
    let out : (k : ℕ) → pool g k ≡ true → t k ≡ false = λ k is. ap (λ c. not c && is_reading_taken s g r k whole) is in
    let still : pair_move (d g r) 0 (chain_for pool s g r whole) i j ≡ 0
    = ⊎_elim (λ first. (chain_apart (d g r) t b ms j i (out i first)).1) (λ second. (chain_apart (d g r) t b ms i j (out j second)).0) (or_cases (pool g i) (pool g j) inside) in
    if_either (is_announced s g r whole) (pair_move (d g r) 0 (chain_for pool s g r whole) i j) still
  where
    if_either : (c : Bool) (v : ℕ) → v ≡ 0 → (if c then v else 0) ≡ 0
    if_either true v none = none
    if_either false v none = refl

inside-still : (c : Bool) (v : ℕ) → c ≡ true → (if c then 0 else v) ≡ 0
inside-still true v is = refl
inside-still false v is = absurd (false≢true is)

-- the offsets for a pool move none of its words
pub words_stay : (pool : Pool) (groups : List Group) (x y : Readings) (m : Masks) (whole : List Event) → IsMasks m → ShareWords pool m (shift (offsets_for pool groups x y whole) m)
words_stay pool groups x y m whole fits =
    let s : Shape = shape_of_readings groups x in
    let o : Masks = offsets_for pool groups x y whole in
    record {
      own = λ g r i inside. stays-word (m.own g r i) (o.own g r i) (fits.own g r i) (inside-still (pool g i) _ inside);
      pair = λ g r i j below inside. stays-word (m.pair g r i j) (o.pair g r i j) (fits.pair g r i j) (pair-still pool s (delta x y) whole g r i j inside);
    }

word-undone : (a o : ℕ) → a < 2 ^ 64 → word (word (a + o) + minus o) ≡ a
word-undone a o fits = omega arith

word-redone : (a o : ℕ) → a < 2 ^ 64 → word (word (a + minus o) + o) ≡ a
word-redone a o fits = omega arith

pub unshift-shift : (o m : Masks) → IsMasks m → unshift o (shift o m) ≡ m
unshift-shift o m fits =
    λ k. record {
      own = fun_ext (λ g. fun_ext (λ r. fun_ext (λ i. word-undone (m.own g r i) (o.own g r i) (fits.own g r i)))) k;
      pair = fun_ext (λ g. fun_ext (λ r. fun_ext (λ i. fun_ext (λ j. word-undone (m.pair g r i j) (o.pair g r i j) (fits.pair g r i j))))) k;
    }

pub shift-unshift : (o m : Masks) → IsMasks m → shift o (unshift o m) ≡ m
shift-unshift o m fits =
    λ k. record {
      own = fun_ext (λ g. fun_ext (λ r. fun_ext (λ i. word-redone (m.own g r i) (o.own g r i) (fits.own g r i)))) k;
      pair = fun_ext (λ g. fun_ext (λ r. fun_ext (λ i. fun_ext (λ j. word-redone (m.pair g r i j) (o.pair g r i j) (fits.pair g r i j))))) k;
    }
