-- The lanes of a rack, asked one after another.
use Rattle.std.proofs.Common.{◌≡◌, ◌∙◌, sym, ap, subst, refl, ℕ, ◌+◌, ◌<◌, ◌≤◌, List, [], ◌∷◌, ◌++◌, map, length, take, drop, get_or, set, arith, add-one, IsTrue}
use Rattle.std.proofs.lemmas.List.{take_more_set, drop-set-lt, length-map, map-append, get_or-map, map-set, take_all}
use Rattle.std.proofs.Math.Seq.{drop-cons, take-suc}
use Rattle.std.proofs.Math.ListN.{length-set, drop_of_length-le}
use Rattle.group_plan.specs.declared.tag.Tag.{Tag}
use Rattle.link_lanes.specs.Lanes.{Slot, fate_through, answer_at, after_post}
use Rattle.link_lanes.specs.Counts.{are_up_to}
use Rattle.link_lanes.proofs.CountLemmas.{up_to-get}

-- the lanes before place i have been asked, and gave this fate
pub record Asked {X : Type 0} (f : X → Slot) (tick : ℕ) (tag : Tag) (coming : List ℕ) (i : ℕ) (now first : List X) (fate : List ℕ) : Type 0 where
  pub same : length now ≡ length first
  pub front : take i (map f now) ≡ map (after_post tick) (take i (map f first))
  pub back : drop i (map f now) ≡ drop i (map f first)
  pub fates : fate_through tick tag (drop i (map f first)) fate ≡ fate_through tick tag (map f first) coming

pub asked_none : {X : Type 0} (f : X → Slot) (tick : ℕ) (tag : Tag) (coming fate : List ℕ) (first : List X) → fate ≡ coming → Asked f tick tag coming 0 first first fate
asked_none f tick tag coming fate first e = record { same = refl; front = refl; back = refl; fates = ap (fate_through tick tag (map f first)) e }

module _ {X : Type 0} (f : X → Slot) (tick : ℕ) (tag : Tag) (coming : List ℕ) (i : ℕ) (now first : List X) (fate : List ℕ) (x : X) (asked : Asked f tick tag coming i now first fate) (lt : i < length now) where
  lengths : length (map f now) ≡ length (map f first)
  lengths = length-map now f ∙ asked.same ∙ sym (length-map first f)

  below_now : i < length (map f now)
  below_now = rw length-map lt

  below_first : i < length (map f first)
  below_first = omega (arith, lengths, below_now)

  now_at : get_or (map f now) i (f x) ≡ f (get_or now i x)
  now_at = get_or-map f now i x (f x) lt

  now_drop : drop i (map f now) ≡ get_or (map f now) i (f x) ∷ drop (i + 1) (map f now)
  now_drop = rw add-one (drop-cons (map f now) i (f x) below_now)

  first_drop : drop i (map f first) ≡ get_or (map f first) i (f x) ∷ drop (i + 1) (map f first)
  first_drop = rw add-one (drop-cons (map f first) i (f x) below_first)

  -- the lane at place i was not asked yet
  still_first : get_or (map f now) i (f x) ≡ get_or (map f first) i (f x)
  still_first = let a = now_drop in let b = first_drop in let c = asked.back in cc

  rest_first : drop (i + 1) (map f now) ≡ drop (i + 1) (map f first)
  rest_first = let a = now_drop in let b = first_drop in let c = asked.back in cc

  -- no count has passed its bound
  pub asked_bound : (n : ℕ) → x ≡ get_or now i x → IsTrue (are_up_to n (map f first)) → (f x).lane.count ≤ n
  asked_bound n is_x h =
      let bound : (get_or (map f first) i (f x)).lane.count ≤ n = up_to-get n (map f first) i (f x) h below_first in
      let same : get_or (map f first) i (f x) ≡ f x = sym still_first ∙ now_at ∙ ap f (sym is_x) in
      subst (λ (s : Slot). s.lane.count ≤ n) same bound

  -- the lane at place i is asked
  pub asked_more : (y : X) (fate' : List ℕ) → x ≡ get_or now i x → f y ≡ after_post tick (f x) → fate' ≡ answer_at tick tag (f x) fate → Asked f tick tag coming (i + 1) (set now i y) first fate'
  asked_more y fate' is_x is_y is_fate =
      let at : f x ≡ get_or (map f first) i (f x) = ap f is_x ∙ sym now_at ∙ still_first in
      let grown : take (i + 1) (map f first) ≡ take i (map f first) ++ get_or (map f first) i (f x) ∷ [] = rw add-one (take-suc (map f first) i (f x) below_first) in
      record {
        same = length-set now i y ∙ asked.same;
        front = ap (take (i + 1)) (map-set f now i y) ∙ take_more_set (map f now) i (f y) below_now ∙ ap (λ l. l ++ f y ∷ []) asked.front
            ∙ ap (λ s. map (after_post tick) (take i (map f first)) ++ s ∷ []) (is_y ∙ ap (after_post tick) at)
            ∙ sym (ap (map (after_post tick)) grown ∙ map-append (after_post tick) (take i (map f first)) (get_or (map f first) i (f x) ∷ []));
        back = ap (drop (i + 1)) (map-set f now i y) ∙ drop-set-lt (i + 1) (map f now) i (f y) (omega arith) ∙ rest_first;
        fates = ap (fate_through tick tag (drop (i + 1) (map f first))) (is_fate ∙ ap (λ s. answer_at tick tag s fate) at)
            ∙ sym (ap (λ l. fate_through tick tag l fate) first_drop) ∙ asked.fates;
      }

-- all have been asked
pub asked_all : {X : Type 0} (f : X → Slot) (tick : ℕ) (tag : Tag) (coming : List ℕ) (i : ℕ) (now first : List X) (fate : List ℕ) → Asked f tick tag coming i now first fate → i ≡ length first → (fate ≡ fate_through tick tag (map f first) coming) × (map f now ≡ map (after_post tick) (map f first))
asked_all f tick tag coming i now first fate asked all =
    let n : length (map f now) ≤ i = rw length-map (omega (arith, asked.same)) in
    let m : length (map f first) ≤ i = rw length-map (omega arith) in (
      ap (λ l. fate_through tick tag l fate) (sym (drop_of_length-le (map f first) m)) ∙ asked.fates,
      sym (take_all i (map f now) n) ∙ asked.front ∙ ap (map (after_post tick)) (take_all i (map f first) m),
    )
