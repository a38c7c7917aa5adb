-- The list of the words that move on a ring.
use Rattle.std.proofs.Common.{◌≡◌, ℕ, suc, ◌+◌, ◌-◌, ◌≤◌, List, [], ◌∷◌, ◌++◌, length, map, refl, sym, ap, ◌∙◌, subst, append-nil, append_assoc, arith, ⊎_elim}
use Rattle.std.specs.Prelude.{if◌then◌else◌, Option, Some, None, is_some, unwrap_or, reverse, Err}
use Rattle.std.specs.List.{flat_map, range_with_len}
use mathlib.Core.Path.{fun_ext}
use Rattle.std.proofs.lemmas.Bool.{cases_lt}
use Rattle.std.proofs.lemmas.Grind.{flat_map-append}
use Rattle.std.proofs.lemmas.List.Concat.{flat_map-cons}
use Rattle.std.proofs.lemmas.List.{get_or_past}
use Rattle.missing_round.specs.Words.{word, minus, group}
use Rattle.group_plan.specs.Plans.{PlanView, size}
use Rattle.group_plan.specs.Tables.{ReadingsView, reading, IsReadingTable}
use Rattle.pair_keys.specs.declared.KeyId.TheVariants.{Pair}
use Rattle.event_schedule.specs.declared.Event.{Event}
use Rattle.event_schedule.specs.Schedule.{Shape}
use Rattle.event_schedule.specs.Tables.{Masks, reading_at}
use Rattle.event_schedule.specs.Transcript.{shape_of_readings}
use Rattle.event_schedule.proofs.MemberLemmas.{is_member-below}
use Rattle.event_schedule.proofs.RoundMembers.{range_last}
use Rattle.group_book.specs.Books.{BookView, shape_of, past}
use Rattle.ideal_masks.specs.declared.Offset.{Offset}
use Rattle.ideal_masks.specs.Moves.{moved, pair_list, offset_list}
use Rattle.ideal_masks.specs.Offsets.{delta}
use Rattle.ideal_masks.specs.OffsetEnds.{IsAlike}
use Rattle.ideal_masks.specs.Order.{AreMoves, AreOfPlan}
use Rattle.ideal_masks.specs.Replaying.{HasEvents}
use Rattle.ideal_masks.proofs.MoveLemmas.{list_is}
use Rattle.ideal_masks.proofs.OrderLemmas.{list-moves}
use Rattle.ideal_masks.proofs.RowLists.{flat-none, moved-none}
use Rattle.ideal_masks.proofs.WorldLemmas.{shape-of_events}
use Rattle.sparse_masks.specs.declared.RingDiffer.{RingDiffer}
use Rattle.sparse_masks.specs.declared.RingDiffer.TheVariants.{Presence, Component, Memory}
use Rattle.sparse_masks.specs.declared.round.Round.{Round}
use Rattle.sparse_masks.specs.declared.sides.Sides.{Sides}
use Rattle.sparse_masks.specs.Trees.{tree_own_move, tree_pair_move}
use Rattle.sparse_masks.specs.Offsets.{HasOneRingSum, RingAgree, ring_graph, ring_moves, ring_offsets}
use Rattle.sparse_masks.specs.OffsetEnds.{SumsEnd, IsFirstRingSum, RingOffsetsEnd}
use Rattle.sparse_masks.specs.Rounds.{graph_of, IsRoundOf}
use Rattle.sparse_masks.specs.SideParts.{AreDeltas, deltas_of, moves_between, moves_in}
use Rattle.sparse_masks.specs.TreeParts.{delta_in}
use Rattle.sparse_masks.proofs.OpenedLemmas.{graph-is}
use Rattle.sparse_masks.proofs.RoundLemmas.{table_at, table_long}

-- ---- one word

pub own-word : (c : Sides) (round : Round) (deltas : List ℕ) (k : ℕ) → IsRoundOf c.width (shape_of c.book.now) c.group c.round (past c.book.now) round → AreDeltas c deltas
    → word (tree_own_move (graph_of round) (delta_in deltas) k) ≡ word ((moves_in c).own c.group c.round k)
own-word c round deltas k is are =
    let s : Shape = shape_of c.book.now in
    let p : List Event = past c.book.now in
    ap (λ graph. word (tree_own_move graph (delta_in deltas) k)) (graph-is c.width s c.group c.round p round is)
    ∙ ap (λ d. word (tree_own_move (ring_graph c.width s c.group c.round p) d k)) are.are
    ∙ ap (λ b. word (if b then tree_own_move (ring_graph c.width s c.group c.round p) (deltas_of c) k else deltas_of c k)) (sym is.announced)

pub pair-word : (c : Sides) (round : Round) (deltas : List ℕ) (i j : ℕ) → IsRoundOf c.width (shape_of c.book.now) c.group c.round (past c.book.now) round → AreDeltas c deltas
    → word (tree_pair_move (graph_of round) (delta_in deltas) i j) ≡ word ((moves_in c).pair c.group c.round i j)
pair-word c round deltas i j is are =
    let s : Shape = shape_of c.book.now in
    let p : List Event = past c.book.now in
    ap (λ graph. word (tree_pair_move graph (delta_in deltas) i j)) (graph-is c.width s c.group c.round p round is)
    ∙ ap (λ d. word (tree_pair_move (ring_graph c.width s c.group c.round p) d i j)) are.are
    ∙ ap (λ b. word (if b then tree_pair_move (ring_graph c.width s c.group c.round p) (deltas_of c) i j else 0)) (sym is.announced)

-- ---- lists

-- one more element of a row
pub row-more : (f : ℕ → List Offset) (a h : ℕ) (old mid new : List Offset) → a ≤ h → mid ≡ old ++ flat_map f (range_with_len a (h - a)) → new ≡ mid ++ f h
    → new ≡ old ++ flat_map f (range_with_len a (h + 1 - a))
row-more f a h old mid new le before added =
    let row : List ℕ = range_with_len a (h - a) in
    let more : suc (h - a) ≡ h + 1 - a = omega (arith, le) in
    let last : a + (h - a) ≡ h = omega (arith, le) in
    added ∙ ap (λ l. l ++ f h) before
    ∙ append_assoc old (flat_map f row) (f h)
    ∙ ap (λ l. old ++ l)
    (sym (ap (λ k. flat_map f (range_with_len a k)) (sym more) ∙ ap (flat_map f) (range_last a (h - a) h last) ∙ flat_map-append f row (h ∷ []) ∙ ap (λ l. flat_map f row ++ l) (flat_map-cons f h [] ∙ append-nil (f h))))

-- where no pair word moves
pub pairs-none : (o : Masks) (g r n : ℕ) → ((i j : ℕ) → o.pair g r i j ≡ 0) → pair_list o g r n ≡ []
pairs-none o g r n none =
    flat-none (λ i. flat_map (λ j. moved (Pair g i j) r (o.pair g r i j)) (range_with_len (i + 1) (n - (i + 1)))) 0 n
    (λ i le. flat-none (λ j. moved (Pair g i j) r (o.pair g r i j)) (i + 1) (n - (i + 1)) (λ j above. moved-none (Pair g i j) r (o.pair g r i j) (ap word (none i j))))

-- ---- deltas

absent-past : (x : ReadingsView) (g r i : ℕ) → IsReadingTable x.plan x.table → size x.plan.groups g ≤ i → reading_at (reading x.table) g r i ≡ 0
absent-past x g r i table le = step (reading x.table g r i) refl
  where
    step : (o : Option ℕ) → reading x.table g r i ≡ o → unwrap_or (reading x.table g r i) 0 ≡ 0
    step None e = ap (λ q. unwrap_or q 0) e
    step (Some v) e = absurd (let lt = is_member-below x.plan.groups g r i (table.of_members g r i (ap is_some e)) in omega (arith, lt, le))

pub deltas-are : (x y : ReadingsView) (g r n : ℕ) (deltas : List ℕ) → IsReadingTable x.plan x.table → IsReadingTable y.plan y.table → n ≡ size x.plan.groups g → n ≡ size y.plan.groups g
    → deltas ≡ map (delta (reading x.table) (reading y.table) g r) (group n) → delta_in deltas ≡ delta (reading x.table) (reading y.table) g r
deltas-are x y g r n deltas x_table y_table x_long y_long is =
    let d : ℕ → ℕ = delta (reading x.table) (reading y.table) g r in
    let long : length deltas ≡ n = table_long d n deltas is in
    fun_ext (λ i. ⊎_elim
    (λ lt. table_at d n i deltas 0 is lt)
    (λ le.
    get_or_past deltas i 0 (omega (arith, le, long))
    ∙ sym (ap (λ v. word (v + minus (reading_at (reading y.table) g r i))) (absent-past x g r i x_table (omega (arith, le, x_long)))
    ∙ ap (λ v. word (0 + minus v)) (absent-past y g r i y_table (omega (arith, le, y_long)))))
    (cases_lt i n))

-- ---- the answer

pub sums-err : (w : ℕ) (x y : ReadingsView) (events : List Event) (b : BookView) (differ : RingDiffer) → HasEvents x events b → ((g r i : ℕ) → IsAlike (reading x.table) (reading y.table) g r i)
    → SumsEnd w (shape_of b) (reading x.table) (reading y.table) (past b) (Err differ) → RingOffsetsEnd w x y events (Err differ)
sums-err w x y events b (Presence g r i) has alike ends = absurd ends
sums-err w x y events b (Component g r i v u) has alike ends = (
  alike,
  subst (λ s. IsFirstRingSum w s (reading x.table) (reading y.table) (reverse events) g r i v u) (shape-of_events x events b has)
      (subst (λ p. IsFirstRingSum w (shape_of b) (reading x.table) (reading y.table) p g r i v u) has.past ends),
)
sums-err w x y events b Memory has alike ends = tt

pub agreed-on_ring : (w : ℕ) (x y : ReadingsView) (events : List Event) (b : BookView) → HasEvents x events b → ((g r i : ℕ) → IsAlike (reading x.table) (reading y.table) g r i)
    → ((g r i : ℕ) → HasOneRingSum w (shape_of b) (reading x.table) (reading y.table) (past b) g r i) → RingAgree w x.plan.groups (reading x.table) (reading y.table) (reverse events)
agreed-on_ring w x y events b has alike sums = record {
  presence = alike;
  sums = subst (λ s. (g r i : ℕ) → HasOneRingSum w s (reading x.table) (reading y.table) (reverse events) g r i) (shape-of_events x events b has)
      (subst (λ p. (g r i : ℕ) → HasOneRingSum w (shape_of b) (reading x.table) (reading y.table) p g r i) has.past sums);
}

pub list-on_ring : (w : ℕ) (x y : ReadingsView) (events : List Event) (b : BookView) → HasEvents x events b
    → offset_list b.presence.plan (moves_between w x y b) ≡ offset_list x.plan (ring_offsets w x.plan.groups (reading x.table) (reading y.table) (reverse events))
list-on_ring w x y events b has =
    let d = delta (reading x.table) (reading y.table) in
    ap (λ q. offset_list q.plan (moves_between w x y b)) has.presence
    ∙ ap (λ s. offset_list x.plan (ring_moves w s d (past b))) (shape-of_events x events b has)
    ∙ ap (λ p. offset_list x.plan (ring_moves w (shape_of_readings x.plan.groups (reading x.table)) d p)) has.past

pub list-moves_on : (plan : PlanView) (o : Masks) (list : List Offset) → list ≡ offset_list plan o → AreMoves list
list-moves_on plan o list is = subst AreMoves (sym is) (list-moves plan o)

pub list-places_on : (plan : PlanView) (o : Masks) (list : List Offset) → list ≡ offset_list plan o → AreOfPlan plan list
list-places_on plan o list is = subst (AreOfPlan plan) (sym is) (list_is plan o).places
