-- Equal transcripts under ring masks have equal sums over the opened components.
use Rattle.std.proofs.Common.{◌≡◌, ℕ, ◌+◌, Bool, true, false, not, ◌&&◌, List, [], ◌∷◌, length, refl, sym, ap, ◌∙◌, arith, ⊎_elim}
use Rattle.std.specs.Prelude.{◌==◌, is_some, if◌then◌else◌}
use Rattle.std.specs.List.{filter, sum_by, list_all, range_with_len}
use Rattle.std.specs.List.Sorted.{IsStrictlyIncreasing}
use Rattle.std.proofs.lemmas.Bool.{false≢true, and_parts, and_from, both_ways, ne_eqb, eqb-true, or_cases}
use Rattle.std.proofs.lemmas.List.FromFn.{length-range_with_len, get_or-range_with_len}
use Rattle.std.proofs.lemmas.List.Kept.{IsStrictlyIncreasing-filter}
use Rattle.missing_round.specs.Words.{answer_word}
use Rattle.missing_round.specs.Sets.{is_member}
use Rattle.missing_round.proofs.SetLemmas.{is_member-filter, same_filter}
use Rattle.group_plan.specs.Plans.{Group, size, is_member as is_plan_member, members}
use Rattle.event_schedule.specs.declared.Event.{Event}
use Rattle.event_schedule.specs.Events.{once}
use Rattle.event_schedule.specs.Schedule.{Shape, survivors, answered, missing, is_reading_taken, is_answer_sent}
use Rattle.event_schedule.specs.Tables.{Readings, Masks, reading_at, IsBounded}
use Rattle.event_schedule.specs.Transcript.{shape_of_readings, Contents, contents_of_tables, lines_after, transcript}
use Rattle.event_schedule.proofs.TranscriptLemmas.{shape-same}
use Rattle.event_schedule.proofs.ScheduleLemmas.{after, is_reading_sent-from_taken}
use Rattle.event_schedule.proofs.MemberLemmas.{plain_sum_fits}
use Rattle.ideal_masks.proofs.Converse.{Told, told_after}
use Rattle.mask_graphs.specs.Graphs.{Graph, IsGraph, IsPart, IsBare, sees}
use Rattle.mask_graphs.specs.Moves.{left_out}
use Rattle.mask_graphs.proofs.ListFacts.{sum_same}
use Rattle.mask_graphs.proofs.TreeLemmas.{Seen, sees-is, linked-is}
use Rattle.mask_graphs.proofs.ToldLemmas.{told, sum_if}
use Rattle.sparse_masks.specs.Neighbours.{are_neighbours, ring}
use Rattle.sparse_masks.specs.Trees.{are_joined, component, is_component_opened}
use Rattle.sparse_masks.specs.Statements.{IsWhole}
use Rattle.sparse_masks.specs.Offsets.{ring_graph, RingAgree}
use Rattle.sparse_masks.proofs.ReachLemmas.{around-filtered, around-members, around-same, component-closed, component-self, component-whole, joined-back, of_filter}
use Rattle.sparse_masks.proofs.WorldLemmas.{neighbours-back}

-- the round as a graph of all its members
abbrev pub whole_graph : ℕ → Shape → ℕ → ℕ → List Event → Graph
whole_graph w s g r whole = record {
  members = members s.groups g r;
  masked = are_neighbours w (size s.groups g);
  answered = λ i. is_member i (answered s g r whole);
  stands = λ i j. is_member j (survivors s g r whole);
}

increasing-range : (a n : ℕ) → IsStrictlyIncreasing (range_with_len a n)
increasing-range a n k h =
    let l : length (range_with_len a n) ≡ n = length-range_with_len a n in
    omega (arith, l, get_or-range_with_len a n k 0 (omega (arith, l)), get_or-range_with_len a n (k + 1) 0 (omega (arith, l)))

answered-in : (s : Shape) (g r : ℕ) (whole : List Event) (i : ℕ) → is_member i (answered s g r whole) ≡ true → is_member i (survivors s g r whole) ≡ true
answered-in s g r whole i h = (of_filter (λ k. is_answer_sent s g r k whole) i (survivors s g r whole) h).0

pub survivor-in : (s : Shape) (g r : ℕ) (whole : List Event) (i : ℕ) → is_member i (survivors s g r whole) ≡ true → (is_member i (members s.groups g r) ≡ true) × (is_reading_taken s g r i whole ≡ true)
survivor-in s g r whole i h = of_filter (λ k. is_reading_taken s g r k whole) i (members s.groups g r) h

whole-is : (w : ℕ) (s : Shape) (g r : ℕ) (whole : List Event) → IsGraph (whole_graph w s g r whole)
whole-is w s g r whole = record {
  ascending = IsStrictlyIncreasing-filter (is_plan_member s.groups g r) (range_with_len 0 (size s.groups g)) (increasing-range 0 (size s.groups g));
  answered = λ i h. (survivor-in s g r whole i (answered-in s g r whole i h)).0;
  stands = λ i j h. (survivor-in s g r whole j h).0;
  masked = neighbours-back w (size s.groups g);
}

-- a member of a list all of which pass
pub all-member : (p : ℕ → Bool) (xs : List ℕ) → list_all p xs ≡ true → (i : ℕ) → is_member i xs ≡ true → p i ≡ true
all-member p [] all i within = absurd (false≢true within)
all-member p (x ∷ xs) all i within =
    let both = and_parts (p x) (list_all p xs) all in
    ⊎_elim (λ here. ap p (sym (eqb-true x i here)) ∙ both.0) (λ later. all-member p xs both.1 i later) (or_cases (x == i) (is_member i xs) within)

-- ---- an opened component is a bare part

joined-seen : (w : ℕ) (s : Shape) (g r : ℕ) (whole : List Event) (i j : ℕ) → is_member i (answered s g r whole) ≡ true → is_member j (survivors s g r whole) ≡ true
    → are_joined (ring_graph w s g r whole) i j ≡ true → sees (whole_graph w s g r whole) i j ≡ true
joined-seen w s g r whole i j answers within joined =
    let both = and_parts (not (i == j)) (are_neighbours w (size s.groups g) i j) joined in
    and_from (is_member i (answered s g r whole) && not (i == j) && are_neighbours w (size s.groups g) i j) (is_member j (survivors s g r whole))
    (and_from (is_member i (answered s g r whole) && not (i == j)) (are_neighbours w (size s.groups g) i j)
    (and_from (is_member i (answered s g r whole)) (not (i == j)) answers both.0) both.1) within

seen-joined : (w : ℕ) (s : Shape) (g r : ℕ) (whole : List Event) (i j : ℕ) → Seen (whole_graph w s g r whole) i j → are_joined (ring_graph w s g r whole) i j ≡ true
seen-joined w s g r whole i j seen = and_from (not (i == j)) (are_neighbours w (size s.groups g) i j) (ap not (ne_eqb i j seen.other)) seen.masked

opened-part : (w : ℕ) (s : Shape) (g r : ℕ) (whole : List Event) (i : ℕ) → is_member i (survivors s g r whole) ≡ true → is_component_opened (ring_graph w s g r whole) i ≡ true
    → IsPart (whole_graph w s g r whole) (λ j. is_member j (component (ring_graph w s g r whole) i)) × IsBare (whole_graph w s g r whole) (λ j. is_member j (component (ring_graph w s g r whole) i))
opened-part w s g r whole i within opened =
    let graph : Graph = ring_graph w s g r whole in
    let n : ℕ = length graph.members in
    let symmetric = neighbours-back w (size s.groups g) in
    let part : ℕ → Bool = λ j. is_member j (component graph i) in
    let all : (j : ℕ) → part j ≡ true → is_member j (answered s g r whole) ≡ true = all-member graph.answered (component graph i) opened in
    let in_it : (j : ℕ) → part j ≡ true → is_member j (survivors s g r whole) ≡ true = λ j h. around-members graph i n j h in
    let stays : IsWhole graph part = component-whole graph symmetric i within in (
      record {
        one = i;
        some = component-self graph i within;
        answered = all;
        closed = λ j k link.
            let both = linked-is (whole_graph w s g r whole) j k link in
            stays j k both.1.stands both.0.stands (seen-joined w s g r whole j k both.0);
        smallest = λ q closed j k j_in k_in.
            let inside : ℕ → Bool = λ l. q l && part l in
            let same : (l : ℕ) → part l ≡ true → inside l ≡ inside i
            = around-same graph inside (λ a b a_in b_in joined. both_same q part a b (stays a b a_in b_in joined)
            (λ a_part b_part. closed a b (and_from (sees (whole_graph w s g r whole) a b) (sees (whole_graph w s g r whole) b a)
            (joined-seen w s g r whole a b (all a a_part) b_in joined)
            (joined-seen w s g r whole b a (all b b_part) a_in (joined-back graph symmetric b a ∙ joined))))) i within n in
            first_same (q j) (q k) (part j) (part k) j_in k_in (same j j_in ∙ sym (same k k_in));
      },
      λ j k j_in seen.
          let is = sees-is (whole_graph w s g r whole) j k seen in
          let joined = seen-joined w s g r whole j k is in
          let k_in : part k ≡ true = component-closed graph i within k j is.stands j_in (joined-back graph symmetric k j ∙ joined) in
          joined-seen w s g r whole k j (all k k_in) (in_it j j_in) (joined-back graph symmetric k j ∙ joined),
    )
  where
    both_same : (q part : ℕ → Bool) (a b : ℕ) → part a ≡ part b → (part a ≡ true → part b ≡ true → q a ≡ q b) → (q a && part a) ≡ (q b && part b)
    both_same q part a b same h = step (part a) (part b) refl refl same
      where
        none : (c : Bool) → (c && false) ≡ false
        none true = refl
        none false = refl

        step : (c d : Bool) → part a ≡ c → part b ≡ d → part a ≡ part b → (q a && part a) ≡ (q b && part b)
        step true true c_is d_is e = ap (λ x. q a && x) c_is ∙ ap (λ x. x && true) (h c_is d_is) ∙ ap (λ x. q b && x) (sym d_is)
        step true false c_is d_is e = absurd (both_ways (part b) d_is (sym e ∙ c_is))
        step false d c_is d_is e = ap (λ x. q a && x) c_is ∙ none (q a) ∙ sym (none (q b)) ∙ ap (λ x. q b && x) (sym (sym e ∙ c_is))

    first_same : (a b c d : Bool) → c ≡ true → d ≡ true → (a && c) ≡ (b && d) → a ≡ b
    first_same true true c d c_is d_is e = refl
    first_same false false c d c_is d_is e = refl
    first_same true false true d c_is d_is e = absurd (false≢true (sym e))
    first_same true false false d c_is d_is e = absurd (false≢true c_is)
    first_same false true c true c_is d_is e = absurd (false≢true e)
    first_same false true c false c_is d_is e = absurd (false≢true d_is)

-- ---- what it left out, and its sum

left_out-missing : (w : ℕ) (s : Shape) (g r : ℕ) (whole : List Event) (i : ℕ) → left_out (whole_graph w s g r whole) i ≡ missing s g r whole
left_out-missing w s g r whole i =
    same_filter (λ j. not (is_member j (survivors s g r whole))) (λ j. not (is_reading_taken s g r j whole)) (members s.groups g r)
    (λ j within. ap not (is_member-filter (λ k. is_reading_taken s g r k whole) j (members s.groups g r) ∙ ap (λ b. b && is_reading_taken s g r j whole) within))

pub sum-component : (w : ℕ) (s : Shape) (g r : ℕ) (whole : List Event) (i : ℕ) (f : ℕ → ℕ)
    → sum_by f (component (ring_graph w s g r whole) i) ≡ sum_by f (filter (λ j. is_member j (component (ring_graph w s g r whole) i)) (members s.groups g r))
sum-component w s g r whole i f =
    let graph : Graph = ring_graph w s g r whole in
    let part : ℕ → Bool = λ j. is_member j (component graph i) in
    let t : ℕ → Bool = λ j. is_reading_taken s g r j whole in
    let ms : List ℕ = members s.groups g r in
    ap (sum_by f) (around-filtered graph i (length graph.members))
    ∙ sum_if part f graph.members
    ∙ sum_if t (λ j. if part j then f j else 0) ms
    ∙ sum_same (λ j. if t j then (if part j then f j else 0) else 0) (λ j. if part j then f j else 0) ms
    (λ j within. step (t j) (part j) (f j) (λ h. (survivor-in s g r whole j (around-members graph i (length graph.members) j h)).1))
    ∙ sym (sum_if part f ms)
  where
    step : (b c : Bool) (v : ℕ) → (c ≡ true → b ≡ true) → (if b then (if c then v else 0) else 0) ≡ (if c then v else 0)
    step true c v h = refl
    step false true v h = absurd (false≢true (h refl))
    step false false v h = refl

told_none : (s : Shape) (c d : Contents) → Told s c d []
unfolding once
told_none s c d = record { readings = λ g r i h. absurd (false≢true h); answers = λ g r i h. absurd (false≢true h) }

pub ring_converse : (w : ℕ) (groups : List Group) (x y : Readings) (m k : Masks) (events : List Event)
    → ((g r i : ℕ) → is_some (x g r i) ≡ is_some (y g r i)) → IsBounded groups x → IsBounded groups y
    → transcript groups x (ring w groups m) events ≡ transcript groups y (ring w groups k) events → RingAgree w groups x y (after [] events)
ring_converse w groups x y m k events presence x_bounded y_bounded same =
    let s : Shape = shape_of_readings groups x in
    let whole : List Event = after [] events in
    let one : Masks = ring w groups m in
    let two : Masks = ring w groups k in
    let words : Told s (contents_of_tables groups x one) (contents_of_tables groups y two) whole
    = told_after s (contents_of_tables groups x one) (contents_of_tables groups y two) [] events
    (same ∙ ap (λ z. lines_after z (contents_of_tables groups y two) [] events) (sym (shape-same groups x y presence)))
    (told_none s (contents_of_tables groups x one) (contents_of_tables groups y two)) in
    record {
      presence = presence;
      sums = λ g r i announced within opened.
          let graph : Graph = whole_graph w s g r whole in
          let part : ℕ → Bool = λ j. is_member j (component (ring_graph w s g r whole) i) in
          let is = opened-part w s g r whole i within opened in
          sum-component w s g r whole i (reading_at x g r)
          ∙ sym (plain_sum_fits groups x g r part x_bounded)
          ∙ told graph part (one.own g r) (one.pair g r) (reading_at x g r) (two.own g r) (two.pair g r) (reading_at y g r) (whole-is w s g r whole) is.0 is.1
          (record {
            readings = λ j j_in. words.readings g r j (is_reading_sent-from_taken s g r j whole (survivor-in s g r whole j (around-members (ring_graph w s g r whole) i (length (survivors s g r whole)) j j_in)).1);
            answers = λ j j_in.
                let gone = left_out-missing w s g r whole j in
                let sent = (of_filter (λ l. is_answer_sent s g r l whole) j (survivors s g r whole) (is.0.answered j j_in)).1 in
                ap (answer_word (one.own g r) (one.pair g r) j) gone ∙ words.answers g r j sent ∙ ap (answer_word (two.own g r) (two.pair g r) j) (sym gone);
            unmasked = λ a b below none. ap (λ c. if c then m.pair g r a b else 0) none ∙ sym (ap (λ c. if c then k.pair g r a b else 0) none);
          })
          ∙ plain_sum_fits groups y g r part y_bounded
          ∙ sym (sum-component w s g r whole i (reading_at y g r));
    }
