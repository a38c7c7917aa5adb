-- Tables that agree on a ring have one transcript under the shifted ring masks.
use Rattle.std.proofs.Common.{◌≡◌, ℕ, zero, suc, ◌+◌, ◌-◌, ◌<◌, Bool, true, false, not, ◌&&◌, ◌||◌, List, [], refl, sym, ap, ◌∙◌, arith, ⊎_elim, add-zero}
use Rattle.std.specs.Prelude.{◌==◌, nat_le, if◌then◌else◌}
use Rattle.std.specs.List.{sum_by, range_with_len}
use mathlib.Core.Path.{fun_ext}
use Rattle.std.proofs.lemmas.Bool.{and_parts, cases_order, lt-ltb, le-ltb, ne_eqb, or_from}
use Rattle.missing_round.specs.Words.{word, share, reading_word, answer_word}
use Rattle.missing_round.specs.Sets.{is_member}
use Rattle.missing_round.proofs.WordLemmas.{word-add_same}
use Rattle.missing_round.proofs.SetLemmas.{is_member-filter, is_member-picked}
use Rattle.group_plan.specs.Plans.{Group, size, is_member as is_plan_member, members}
use Rattle.event_schedule.specs.declared.Event.{Event}
use Rattle.event_schedule.specs.Schedule.{Shape, members_of, survivors, answered, missing, is_announced, is_reading_taken, is_answer_sent}
use Rattle.event_schedule.specs.Tables.{Readings, Masks, reading_at, IsOfPlan, IsBounded}
use Rattle.event_schedule.specs.Transcript.{shape_of_readings, Contents, contents_of_tables, lines_after, transcript}
use Rattle.event_schedule.proofs.TranscriptLemmas.{Alike, lines_after-same, shape-same}
use Rattle.event_schedule.proofs.ScheduleLemmas.{after, is_announced-from_answer, is_reading_taken-from_answer, present-from_taken}
use Rattle.event_schedule.proofs.MemberLemmas.{is_member-below, plain_sum_fits}
use Rattle.ideal_masks.specs.Pools.{nobody}
use Rattle.ideal_masks.specs.Offsets.{delta, shift}
use Rattle.ideal_masks.proofs.OffsetLemmas.{reading_word-shifted, answer_word-shifted, sum_deltas, sum_share-none, word-delta}
use Rattle.ideal_masks.proofs.Converse.{Told, word-plain_sum}
use Rattle.ideal_masks.proofs.PoolLemmas.{nobody-shares, open-opened}
use Rattle.mask_graphs.specs.Graphs.{Graph}
use Rattle.mask_graphs.specs.Moves.{load}
use Rattle.mask_graphs.proofs.ListFacts.{Distinct, distinct_filter}
use Rattle.sparse_masks.specs.Neighbours.{apart, are_neighbours, ring}
use Rattle.sparse_masks.specs.Trees.{component, root, tree_pair_move, tree_own_move}
use Rattle.sparse_masks.specs.Offsets.{ring_graph, RingAgree, ring_moves, ring_offsets}
use Rattle.sparse_masks.proofs.ReachLemmas.{eqb-back, in_filter}
use Rattle.sparse_masks.proofs.FlowLemmas.{IsRound, SumsCancel, tree-brings, tree-still, unmasked-still}

-- ---- neighbours

apart-back : (i j : ℕ) → apart i j ≡ apart j i
apart-back i j = ⊎_elim
    (λ e. ap (apart i) (sym e) ∙ ap (λ k. apart k i) e)
    (λ o. ⊎_elim (λ lt. ap (λ b. if b then j - i else i - j) (lt-ltb i j lt) ∙ sym (ap (λ b. if b then i - j else j - i) (le-ltb j i (omega (arith, lt)))))
    (λ lt. ap (λ b. if b then j - i else i - j) (le-ltb i j (omega (arith, lt))) ∙ sym (ap (λ b. if b then i - j else j - i) (lt-ltb j i lt))) o)
    (cases_order i j)

pub neighbours-back : (w n i j : ℕ) → are_neighbours w n i j ≡ are_neighbours w n j i
neighbours-back w n i j =
    ap (λ b. not b && (nat_le (apart i j) w || nat_le n (apart i j + w))) (eqb-back i j)
    ∙ ap (λ a. not (j == i) && (nat_le a w || nat_le n (a + w))) (apart-back i j)

-- ---- a round

pub members-distinct : (groups : List Group) (g r : ℕ) → Distinct (members groups g r)
members-distinct groups g r = distinct_filter (is_plan_member groups g r) (range_with_len 0 (size groups g)) (range-distinct 0 (size groups g))
  where
    below : (a k n : ℕ) → k < a → is_member k (range_with_len a n) ≡ false
    below a k zero lt = refl
    below a k (suc n) lt = or_from (a == k) (is_member k (range_with_len (a + 1) n)) (ne_eqb a k (λ e. omega (arith, e, lt))) (below (a + 1) k n (omega (arith, lt)))

    range-distinct : (a n : ℕ) → Distinct (range_with_len a n)
    range-distinct a zero = tt
    range-distinct a (suc n) = (below (a + 1) a n (omega arith), range-distinct (a + 1) n)

pub ring-round : (w : ℕ) (s : Shape) (g r : ℕ) (whole : List Event) → IsRound (ring_graph w s g r whole) (λ i. is_reading_taken s g r i whole) (members_of s g r)
ring-round w s g r whole = record {
  symmetric = neighbours-back w (size s.groups g);
  once = members-distinct s.groups g r;
  once_in = distinct_filter (λ i. is_reading_taken s g r i whole) (members_of s g r) (members-distinct s.groups g r);
  members = refl;
  answered = λ i h. (and_parts (is_member i (survivors s g r whole)) (is_answer_sent s g r i whole) (sym (is_member-filter (λ k. is_answer_sent s g r k whole) i (survivors s g r whole)) ∙ h)).0;
}

sums-cancel : (w : ℕ) (groups : List Group) (x y : Readings) (whole : List Event) → RingAgree w groups x y whole → (g r : ℕ) → is_announced (shape_of_readings groups x) g r whole ≡ true
    → SumsCancel (ring_graph w (shape_of_readings groups x) g r whole) (delta x y g r)
sums-cancel w groups x y whole agree g r announced i within opened =
    sum_deltas (reading_at x g r) (reading_at y g r) (component (ring_graph w (shape_of_readings groups x) g r whole) i) (agree.sums g r i announced within opened)

-- ---- the words

-- the ring of shifted masks is the shift of the ring's
pair-shifted : (w : ℕ) (s : Shape) (m : Masks) (d : ℕ → ℕ → ℕ → ℕ) (whole : List Event) (g r : ℕ)
    → (ring w s.groups (shift (ring_moves w s d whole) m)).pair g r ≡ (λ a b. word ((ring w s.groups m).pair g r a b + (ring_moves w s d whole).pair g r a b))
pair-shifted w s m d whole g r = fun_ext (λ a. fun_ext (λ b. step a b (are_neighbours w (size s.groups g) a b) refl))
  where
    none : (c : Bool) (v : ℕ) → v ≡ 0 → 0 ≡ word (0 + (if c then v else 0))
    none true v is = ap (λ z. word (0 + z)) (sym is)
    none false v is = refl

    step : (a b : ℕ) (c : Bool) → are_neighbours w (size s.groups g) a b ≡ c
        → (if c then word (m.pair g r a b + (ring_moves w s d whole).pair g r a b) else 0) ≡ word ((if c then m.pair g r a b else 0) + (ring_moves w s d whole).pair g r a b)
    step a b true e = refl
    step a b false e =
        none (is_announced s g r whole) (tree_pair_move (ring_graph w s g r whole) (d g r) a b)
        (unmasked-still (ring_graph w s g r whole) (neighbours-back w (size s.groups g)) (d g r) a b e)

pub ring-shifts : (w : ℕ) (groups : List Group) (x y : Readings) (m : Masks) (whole : List Event)
    → ring w groups (shift (ring_offsets w groups x y whole) m) ≡ shift (ring_offsets w groups x y whole) (ring w groups m)
ring-shifts w groups x y m whole = λ z. record {
  own = (shift (ring_offsets w groups x y whole) m).own;
  pair = fun_ext (λ g. fun_ext (λ r. pair-shifted w (shape_of_readings groups x) m (delta x y) whole g r)) z;
}

brings : (announced : Bool) (own d : ℕ) (move : ℕ → ℕ → ℕ) (i : ℕ) (xs : List ℕ) → (announced ≡ true → word (own + sum_by (share move i) xs) ≡ word d)
    → word ((if announced then own else d) + sum_by (share (λ a b. if announced then move a b else 0) i) xs) ≡ word d
brings true own d move i xs h = h refl
brings false own d move i xs h = word-add_same d (sum_by (share (λ _ _. 0) i) xs) 0 (sum_share-none i xs) ∙ ap word (add-zero d)

-- each reading word stays
ring-reading : (w : ℕ) (groups : List Group) (x y : Readings) (m : Masks) (whole : List Event) → RingAgree w groups x y whole → (g r i : ℕ)
    → (contents_of_tables groups y (ring w groups (shift (ring_offsets w groups x y whole) m))).reading g r i ≡ (contents_of_tables groups x (ring w groups m)).reading g r i
ring-reading w groups x y m whole agree g r i =
    let s : Shape = shape_of_readings groups x in
    let d : ℕ → ℕ → ℕ → ℕ = delta x y in
    let graph : Graph = ring_graph w s g r whole in
    ap (λ pair. reading_word ((shift (ring_moves w s d whole) m).own g r) pair (members groups g r) i (reading_at y g r i)) (pair-shifted w s m d whole g r)
    ∙ reading_word-shifted (m.own g r) ((ring_moves w s d whole).own g r) ((ring w groups m).pair g r) ((ring_moves w s d whole).pair g r) (members groups g r) i (reading_at x g r i) (reading_at y g r i) (d g r i)
    (brings (is_announced s g r whole) (tree_own_move graph (d g r) i) (d g r i) (tree_pair_move graph (d g r)) i (members groups g r)
    (λ announced. tree-brings graph (λ k. is_reading_taken s g r k whole) (members groups g r) (ring-round w s g r whole) (d g r) (sums-cancel w groups x y whole agree g r announced) i))
    (word-delta (reading_at x g r i) (reading_at y g r i))

-- a meter that sent its answer is a survivor that did
pub in-answered : (groups : List Group) (x : Readings) (whole : List Event) → IsOfPlan groups x → (g r i : ℕ) → is_answer_sent (shape_of_readings groups x) g r i whole ≡ true
    → is_member i (answered (shape_of_readings groups x) g r whole) ≡ true
in-answered groups x whole of_plan g r i sent =
    let s : Shape = shape_of_readings groups x in
    let taken : is_reading_taken s g r i whole ≡ true = is_reading_taken-from_answer s g r i whole sent in
    let planned : is_plan_member groups g r i ≡ true = of_plan g r i (present-from_taken s g r i whole taken) in
    let within : is_member i (members groups g r) ≡ true
    = is_member-picked (is_plan_member groups g r) 0 (size groups g) i (omega arith) (let lt = is_member-below groups g r i planned in omega (arith, lt)) ∙ planned in
    in_filter (λ k. is_answer_sent s g r k whole) i (survivors s g r whole) (in_filter (λ k. is_reading_taken s g r k whole) i (members groups g r) within taken) sent

-- and each answer word
ring-answer : (w : ℕ) (groups : List Group) (x y : Readings) (m : Masks) (whole : List Event) → IsOfPlan groups x → (g r i : ℕ) → is_answer_sent (shape_of_readings groups x) g r i whole ≡ true
    → (contents_of_tables groups y (ring w groups (shift (ring_offsets w groups x y whole) m))).answer g r i (missing (shape_of_readings groups x) g r whole)
    ≡ (contents_of_tables groups x (ring w groups m)).answer g r i (missing (shape_of_readings groups x) g r whole)
ring-answer w groups x y m whole of_plan g r i sent =
    let s : Shape = shape_of_readings groups x in
    let d : ℕ → ℕ → ℕ → ℕ = delta x y in
    let graph : Graph = ring_graph w s g r whole in
    let announced : is_announced s g r whole ≡ true = is_announced-from_answer s g r i whole sent in
    ap (λ pair. answer_word ((shift (ring_moves w s d whole) m).own g r) pair i (missing s g r whole)) (pair-shifted w s m d whole g r)
    ∙ answer_word-shifted (m.own g r) ((ring_moves w s d whole).own g r) ((ring w groups m).pair g r) ((ring_moves w s d whole).pair g r) i (missing s g r whole)
    (ap (λ b. if b then tree_own_move graph (d g r) i else d g r i) announced
    ∙ ap (λ b. if b then 0 else (d g r i + (if root graph i == i then sum_by (load graph (d g r)) (component graph i) else 0))) (in-answered groups x whole of_plan g r i sent))
    (ap (λ b. word (sum_by (share (λ a c. if b then tree_pair_move graph (d g r) a c else 0) i) (missing s g r whole))) announced
    ∙ tree-still graph (λ k. is_reading_taken s g r k whole) (members groups g r) (ring-round w s g r whole) (d g r) i)

-- ---- the transcript

pub ring-alike : (w : ℕ) (groups : List Group) (x y : Readings) (m : Masks) (whole : List Event) → IsOfPlan groups x → IsBounded groups x → IsBounded groups y → RingAgree w groups x y whole
    → Alike (shape_of_readings groups x) (contents_of_tables groups x (ring w groups m)) (contents_of_tables groups y (ring w groups (shift (ring_offsets w groups x y whole) m))) whole
ring-alike w groups x y m whole of_plan x_bounded y_bounded agree =
    let s : Shape = shape_of_readings groups x in
    let one : Masks = ring w groups m in
    let two : Masks = ring w groups (shift (ring_offsets w groups x y whole) m) in
    let told : Told s (contents_of_tables groups x one) (contents_of_tables groups y two) whole = record {
      readings = λ g r i sent. sym (ring-reading w groups x y m whole agree g r i);
      answers = λ g r i sent. sym (ring-answer w groups x y m whole of_plan g r i sent);
    } in
    record {
      readings = λ g r i present. sym (ring-reading w groups x y m whole agree g r i);
      answers = λ g r i sent. sym (ring-answer w groups x y m whole of_plan g r i sent);
      totals = λ g r opened.
          sym (plain_sum_fits groups x g r (λ i. is_reading_taken s g r i whole) x_bounded)
          ∙ word-plain_sum nobody groups x y one two whole (nobody-shares one two) told g r (open-opened nobody s g r whole opened)
          ∙ plain_sum_fits groups y g r (λ i. is_reading_taken s g r i whole) y_bounded;
    }

pub ring_worlds : (w : ℕ) (groups : List Group) (x y : Readings) (m : Masks) (events : List Event) → IsOfPlan groups x → IsBounded groups x → IsBounded groups y
    → RingAgree w groups x y (after [] events)
    → transcript groups y (ring w groups (shift (ring_offsets w groups x y (after [] events)) m)) events ≡ transcript groups x (ring w groups m) events
ring_worlds w groups x y m events of_plan x_bounded y_bounded agree =
    let moved : Contents = contents_of_tables groups y (ring w groups (shift (ring_offsets w groups x y (after [] events)) m)) in
    ap (λ s. lines_after s moved [] events) (sym (shape-same groups x y agree.presence))
    ∙ sym (lines_after-same (shape_of_readings groups x) (contents_of_tables groups x (ring w groups m)) moved [] events (ring-alike w groups x y m (after [] events) of_plan x_bounded y_bounded agree))
