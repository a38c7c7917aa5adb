-- On an honest schedule the bare part of a round is that of the survivors outside the pool, where the round is open to it.
use Rattle.std.proofs.Common.{◌≡◌, ℕ, Bool, true, false, not, ◌&&◌, ◌||◌, List, [], ◌∷◌, refl, sym, ap, ◌∙◌, ⊎_elim}
use Rattle.std.specs.Prelude.{◌==◌, Some, None, is_some, if◌then◌else◌}
use Rattle.std.specs.List.{sum_by, filter, list_all}
use Rattle.std.proofs.lemmas.Bool.{false≢true, cases_eq, eq-eqb, ne_eqb, eqb-true, or_cases, and_parts, and_from, both_ways}
use Rattle.missing_round.specs.Sets.{is_member}
use Rattle.missing_round.proofs.SetLemmas.{is_member-filter, same_filter}
use Rattle.group_plan.specs.Plans.{Group}
use Rattle.event_schedule.specs.declared.Event.{Event}
use Rattle.event_schedule.specs.Schedule.{Shape, members_of, is_reading_taken, missing, is_announced, is_answer_sent}
use Rattle.event_schedule.specs.Tables.{Readings, reading_at, plain_sum}
use Rattle.event_schedule.specs.Transcript.{shape_of_readings}
use Rattle.event_schedule.proofs.ScheduleLemmas.{is_announced-from_answer, is_reading_taken-from_answer}
use Rattle.ideal_masks.specs.Pools.{Pool, others, is_open}
use Rattle.ideal_masks.specs.Offsets.{AgreeFor}
use Rattle.mask_graphs.specs.Graphs.{Graph, IsPart, IsBare, sees}
use Rattle.mask_graphs.proofs.TreeLemmas.{sees-is}
use Rattle.lying_head_end.specs.Graphs.{leaves, graph_for}
use Rattle.lying_head_end.specs.Honest.{acts_in}
use Rattle.lying_head_end.specs.Offsets.{AgreeTold}
use Rattle.lying_head_end.proofs.HonestLemmas.{honest-answered}

-- the graph of a round
abbrev pub round_graph : Pool → Shape → List Event → ℕ → ℕ → Graph
round_graph pool s p g r = graph_for pool s (acts_in s p) g r

if-some : (b : Bool) (set : List ℕ) → is_some (if b then Some set else None) ≡ b
if-some true set = refl
if-some false set = refl

answered-is : (pool : Pool) (s : Shape) (p : List Event) (g r i : ℕ) → (round_graph pool s p g r).answered i ≡ (not (pool g i) && is_answer_sent s g r i p)
answered-is pool s p g r i =
    ap (λ o. not (pool g i) && is_some o) (honest-answered s g r i p) ∙ ap (λ b. not (pool g i) && b) (if-some (is_answer_sent s g r i p) (missing s g r p))

-- who answered left the survivors standing
stands-is : (pool : Pool) (s : Shape) (p : List Event) (g r i j : ℕ) → is_answer_sent s g r i p ≡ true → (round_graph pool s p g r).stands i j ≡ (is_member j (members_of s g r) && is_reading_taken s g r j p)
stands-is pool s p g r i j sent =
    ap (λ o. is_member j (members_of s g r) && leaves o j) (honest-answered s g r i p ∙ ap (λ b. if b then Some (missing s g r p) else None) sent)
    ∙ ap (λ b. is_member j (members_of s g r) && not b) (is_member-filter (λ k. not (is_reading_taken s g r k p)) j (members_of s g r))
    ∙ twice (is_member j (members_of s g r)) (is_reading_taken s g r j p)
  where
    twice : (a b : Bool) → (a && not (a && not b)) ≡ (a && b)
    twice true true = refl
    twice true false = refl
    twice false b = refl

not_true : (b : Bool) → not b ≡ true → b ≡ false
not_true true e = absurd (false≢true e)
not_true false e = refl

-- the meter is one of the others
abbrev pub IsOther : Pool → Shape → List Event → ℕ → ℕ → ℕ → Type 0
IsOther pool s p g r i = is_member i (others pool s g r p) ≡ true

record Other (pool : Pool) (s : Shape) (p : List Event) (g r i : ℕ) : Type 0 where
  within : is_member i (members_of s g r) ≡ true
  outside : pool g i ≡ false
  taken : is_reading_taken s g r i p ≡ true

other-is : (pool : Pool) (s : Shape) (p : List Event) (g r i : ℕ) → IsOther pool s p g r i → Other pool s p g r i
other-is pool s p g r i h =
    let one = and_parts (is_member i (members_of s g r)) (not (pool g i) && is_reading_taken s g r i p) (sym (is_member-filter (λ k. not (pool g k) && is_reading_taken s g r k p) i (members_of s g r)) ∙ h) in
    let two = and_parts (not (pool g i)) (is_reading_taken s g r i p) one.1 in
    record { within = one.0; outside = not_true (pool g i) two.0; taken = two.1 }

other-from : (pool : Pool) (s : Shape) (p : List Event) (g r i : ℕ) → is_member i (members_of s g r) ≡ true → pool g i ≡ false → is_reading_taken s g r i p ≡ true → IsOther pool s p g r i
other-from pool s p g r i within out taken =
    is_member-filter (λ k. not (pool g k) && is_reading_taken s g r k p) i (members_of s g r)
    ∙ and_from (is_member i (members_of s g r)) (not (pool g i) && is_reading_taken s g r i p) within (and_from (not (pool g i)) (is_reading_taken s g r i p) (ap not out) taken)

-- who answered, outside the pool, sees every other of them, and nobody else
sees-other : (pool : Pool) (s : Shape) (p : List Event) (g r i j : ℕ) → (round_graph pool s p g r).answered i ≡ true → IsOther pool s p g r j → (i ≡ j → ⊥) → sees (round_graph pool s p g r) i j ≡ true
sees-other pool s p g r i j answered other ne =
    let graph : Graph = round_graph pool s p g r in
    let who = and_parts (not (pool g i)) (is_answer_sent s g r i p) (sym (answered-is pool s p g r i) ∙ answered) in
    let o = other-is pool s p g r j other in
    and_from (graph.answered i && not (i == j) && graph.masked i j) (graph.stands i j)
    (and_from (graph.answered i && not (i == j)) (graph.masked i j)
    (and_from (graph.answered i) (not (i == j)) answered (ap not (ne_eqb i j ne)))
    (and_from (not (pool g i)) (not (pool g j)) who.0 (ap not o.outside)))
    (stands-is pool s p g r i j who.1 ∙ and_from (is_member j (members_of s g r)) (is_reading_taken s g r j p) o.within o.taken)

seen-other : (pool : Pool) (s : Shape) (p : List Event) (g r i j : ℕ) → sees (round_graph pool s p g r) i j ≡ true → IsOther pool s p g r j
seen-other pool s p g r i j h =
    let seen = sees-is (round_graph pool s p g r) i j h in
    let who = and_parts (not (pool g i)) (is_answer_sent s g r i p) (sym (answered-is pool s p g r i) ∙ seen.answered) in
    let there = and_parts (is_member j (members_of s g r)) (is_reading_taken s g r j p) (sym (stands-is pool s p g r i j who.1) ∙ seen.stands) in
    other-from pool s p g r j there.0 (not_true (pool g j) (and_parts (not (pool g i)) (not (pool g j)) seen.masked).1) there.1

-- ---- from a bare part to an open round

all_from : (b : ℕ → Bool) (xs : List ℕ) → ((k : ℕ) → is_member k xs ≡ true → b k ≡ true) → list_all b xs ≡ true
all_from b [] h = refl
all_from b (x ∷ xs) h =
    and_from (b x) (list_all b xs) (h x (ap (λ c. c || is_member x xs) (eq-eqb x x refl))) (all_from b xs (λ k within. h k (ap (λ c. (x == k) || c) within ∙ or-true (x == k))))
  where
    or-true : (c : Bool) → (c || true) ≡ true
    or-true true = refl
    or-true false = refl

all_at : (b : ℕ → Bool) (xs : List ℕ) → list_all b xs ≡ true → (k : ℕ) → is_member k xs ≡ true → b k ≡ true
all_at b [] all k within = absurd (false≢true within)
all_at b (x ∷ xs) all k within =
    let both = and_parts (b x) (list_all b xs) all in
    ⊎_elim (λ here. ap b (sym (eqb-true x k here)) ∙ both.0) (λ later. all_at b xs both.1 k later) (or_cases (x == k) (is_member k xs) within)

pub part-sum : (pool : Pool) (groups : List Group) (x y : Readings) (p : List Event) → AgreeFor pool groups x y p → (g r : ℕ) (q : ℕ → Bool)
    → IsPart (round_graph pool (shape_of_readings groups x) p g r) q → IsBare (round_graph pool (shape_of_readings groups x) p g r) q
    → sum_by (reading_at x g r) (filter q (members_of (shape_of_readings groups x) g r)) ≡ sum_by (reading_at y g r) (filter q (members_of (shape_of_readings groups x) g r))
part-sum pool groups x y p agree g r q part bare =
    ap (sum_by (reading_at x g r)) same ∙ agree.totals g r open_to ∙ ap (sum_by (reading_at y g r)) (sym same)
  where
    s : Shape
    s = shape_of_readings groups x

    graph : Graph
    graph = round_graph pool (shape_of_readings groups x) p g r

    one_sent : is_answer_sent (shape_of_readings groups x) g r part.one p ≡ true
    one_sent = (and_parts (not (pool g part.one)) (is_answer_sent (shape_of_readings groups x) g r part.one p) (sym (answered-is pool (shape_of_readings groups x) p g r part.one) ∙ part.answered part.one part.some)).1

    takes_all : (j : ℕ) → IsOther pool (shape_of_readings groups x) p g r j → q j ≡ true
    takes_all j other =
        ⊎_elim (λ e. ap q (sym e) ∙ part.some)
        (λ ne.
        let seen : sees (round_graph pool (shape_of_readings groups x) p g r) part.one j ≡ true = sees-other pool (shape_of_readings groups x) p g r part.one j (part.answered part.one part.some) other ne in
        sym (part.closed part.one j (and_from (sees (round_graph pool (shape_of_readings groups x) p g r) part.one j) (sees (round_graph pool (shape_of_readings groups x) p g r) j part.one) seen (bare part.one j part.some seen))) ∙ part.some)
        (cases_eq part.one j)

    sent : (j : ℕ) → q j ≡ true → (pool g j ≡ false) × (is_answer_sent (shape_of_readings groups x) g r j p ≡ true)
    sent j h =
        let both = and_parts (not (pool g j)) (is_answer_sent (shape_of_readings groups x) g r j p) (sym (answered-is pool (shape_of_readings groups x) p g r j) ∙ part.answered j h) in
        (not_true (pool g j) both.0, both.1)

    same : filter q (members_of (shape_of_readings groups x) g r) ≡ others pool (shape_of_readings groups x) g r p
    same = same_filter q (λ k. not (pool g k) && is_reading_taken (shape_of_readings groups x) g r k p) (members_of (shape_of_readings groups x) g r) (λ j within. step j within (q j) refl)
      where
        step : (j : ℕ) → is_member j (members_of (shape_of_readings groups x) g r) ≡ true → (b : Bool) → q j ≡ b → b ≡ (not (pool g j) && is_reading_taken (shape_of_readings groups x) g r j p)
        step j within true e =
            let who = sent j e in
            sym (and_from (not (pool g j)) (is_reading_taken (shape_of_readings groups x) g r j p) (ap not who.0) (is_reading_taken-from_answer (shape_of_readings groups x) g r j p who.1))
        step j within false e = none (not (pool g j) && is_reading_taken (shape_of_readings groups x) g r j p) refl
          where
            none : (c : Bool) → (not (pool g j) && is_reading_taken (shape_of_readings groups x) g r j p) ≡ c → false ≡ c
            none false f = refl
            none true f =
                let two = and_parts (not (pool g j)) (is_reading_taken (shape_of_readings groups x) g r j p) f in
                absurd (both_ways (q j) e (takes_all j (other-from pool (shape_of_readings groups x) p g r j within (not_true (pool g j) two.0) two.1)))

    open_to : is_open pool (shape_of_readings groups x) g r p ≡ true
    open_to =
        and_from (is_announced (shape_of_readings groups x) g r p) (list_all (λ k. is_answer_sent (shape_of_readings groups x) g r k p) (others pool (shape_of_readings groups x) g r p))
        (is_announced-from_answer (shape_of_readings groups x) g r part.one p one_sent)
        (all_from (λ k. is_answer_sent (shape_of_readings groups x) g r k p) (others pool (shape_of_readings groups x) g r p) (λ k h. (sent k (takes_all k h)).1))

-- ---- from an open round to a bare part

record OpenPart (pool : Pool) (s : Shape) (p : List Event) (g r : ℕ) : Type 0 where
  is_part : IsPart (round_graph pool s p g r) (λ i. is_member i (others pool s g r p))
  bare : IsBare (round_graph pool s p g r) (λ i. is_member i (others pool s g r p))

open_part : (pool : Pool) (s : Shape) (p : List Event) (g r w : ℕ) → is_open pool s g r p ≡ true → IsOther pool s p g r w → OpenPart pool s p g r
open_part pool s p g r w open_to some = record {
  is_part = record {
    one = w;
    some = some;
    answered = answers;
    closed = λ i j link.
        let both = and_parts (sees (round_graph pool s p g r) i j) (sees (round_graph pool s p g r) j i) link in
        seen-other pool s p g r j i both.1 ∙ sym (seen-other pool s p g r i j both.0);
    smallest = λ q closed i j i_in j_in. ⊎_elim (λ e. ap q e) (λ ne. closed i j (and_from (sees (round_graph pool s p g r) i j) (sees (round_graph pool s p g r) j i) (sees-other pool s p g r i j (answers i i_in) j_in ne) (sees-other pool s p g r j i (answers j j_in) i_in (λ e. ne (sym e))))) (cases_eq i j);
  };
  bare = λ i j i_in seen.
      let j_in = seen-other pool s p g r i j seen in
      sees-other pool s p g r j i (answers j j_in) i_in (λ e. (sees-is (round_graph pool s p g r) i j seen).other (sym e));
}
  where
    answers : (i : ℕ) → IsOther pool s p g r i → (round_graph pool s p g r).answered i ≡ true
    answers i h =
        answered-is pool s p g r i
        ∙ and_from (not (pool g i)) (is_answer_sent s g r i p) (ap not (other-is pool s p g r i h).outside)
        (all_at (λ k. is_answer_sent s g r k p) (others pool s g r p) (and_parts (is_announced s g r p) (list_all (λ k. is_answer_sent s g r k p) (others pool s g r p)) open_to).1 i h)

pub open-sum : (pool : Pool) (groups : List Group) (x y : Readings) (p : List Event) → AgreeTold pool groups x y (acts_in (shape_of_readings groups x) p) → (g r : ℕ)
    → is_open pool (shape_of_readings groups x) g r p ≡ true
    → plain_sum x g r (others pool (shape_of_readings groups x) g r p) ≡ plain_sum y g r (others pool (shape_of_readings groups x) g r p)
open-sum pool groups x y p agree g r open_to = step (others pool (shape_of_readings groups x) g r p) refl
  where
    same : filter (λ i. is_member i (others pool (shape_of_readings groups x) g r p)) (members_of (shape_of_readings groups x) g r) ≡ others pool (shape_of_readings groups x) g r p
    same = same_filter (λ i. is_member i (others pool (shape_of_readings groups x) g r p)) (λ k. not (pool g k) && is_reading_taken (shape_of_readings groups x) g r k p) (members_of (shape_of_readings groups x) g r)
        (λ j within. is_member-filter (λ k. not (pool g k) && is_reading_taken (shape_of_readings groups x) g r k p) j (members_of (shape_of_readings groups x) g r) ∙ ap (λ b. b && (not (pool g j) && is_reading_taken (shape_of_readings groups x) g r j p)) within)

    step : (os : List ℕ) → others pool (shape_of_readings groups x) g r p ≡ os
        → plain_sum x g r (others pool (shape_of_readings groups x) g r p) ≡ plain_sum y g r (others pool (shape_of_readings groups x) g r p)
    step [] e = ap (plain_sum x g r) e ∙ sym (ap (plain_sum y g r) e)
    step (w ∷ ws) e =
        let o : OpenPart pool (shape_of_readings groups x) p g r = open_part pool (shape_of_readings groups x) p g r w open_to (ap (is_member w) e ∙ ap (λ c. c || is_member w ws) (eq-eqb w w refl)) in
        ap (plain_sum x g r) (sym same)
        ∙ agree.sums g r (λ i. is_member i (others pool (shape_of_readings groups x) g r p)) o.is_part o.bare
        ∙ ap (plain_sum y g r) same

pub honest-agree : (pool : Pool) (groups : List Group) (x y : Readings) (p : List Event)
    → (AgreeFor pool groups x y p → AgreeTold pool groups x y (acts_in (shape_of_readings groups x) p)) × (AgreeTold pool groups x y (acts_in (shape_of_readings groups x) p) → AgreeFor pool groups x y p)
honest-agree pool groups x y p = (
  λ agree. record { presence = agree.presence; readings = agree.readings; sums = λ g r q part bare. part-sum pool groups x y p agree g r q part bare },
  λ agree. record { presence = agree.presence; readings = agree.readings; totals = λ g r open_to. open-sum pool groups x y p agree g r open_to },
)
