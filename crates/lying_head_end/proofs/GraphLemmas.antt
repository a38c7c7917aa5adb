-- A round after the acts is a graph of masks, and what a meter left out is the set that it answered.
use Rattle.std.proofs.Common.{◌≡◌, ℕ, ◌+◌, ◌≤◌, Bool, true, false, cond, not, ◌&&◌, ◌||◌, List, [], ◌∷◌, length, refl, sym, ap, ◌∙◌, arith}
use Rattle.std.specs.Prelude.{◌==◌, Option, Some, None, is_some}
use Rattle.std.specs.List.{filter, AllByRecursion}
use Rattle.std.proofs.lemmas.Bool.{false≢true, and_parts, and_from}
use Rattle.std.proofs.lemmas.List.Filters.{length-filter_both}
use Rattle.missing_round.specs.Sets.{is_member}
use Rattle.missing_round.proofs.SetLemmas.{is_member-picked, same_filter}
use Rattle.group_plan.specs.Plans.{Group, size, is_member as is_plan_member, members}
use Rattle.event_schedule.specs.Schedule.{Shape, members_of, floor_of}
use Rattle.event_schedule.specs.Tables.{Readings, IsOfPlan}
use Rattle.event_schedule.specs.Transcript.{shape_of_readings}
use Rattle.event_schedule.proofs.MemberLemmas.{is_member-below}
use Rattle.ideal_masks.specs.Pools.{Pool}
use Rattle.mask_graphs.specs.Graphs.{Graph, IsGraph, IsPart, IsBare, sees}
use Rattle.mask_graphs.specs.Moves.{left_out}
use Rattle.mask_graphs.proofs.ToldLemmas.{large}
use Rattle.lying_head_end.specs.Acts.{Act, set_answered}
use Rattle.lying_head_end.specs.Frames.{TellsSet}
use Rattle.lying_head_end.specs.Graphs.{leaves, stands, graph_for}
use Rattle.lying_head_end.proofs.SetLemmas.{members-increasing, within-is}
use Rattle.lying_head_end.proofs.ActLemmas.{Heard, Rule, heard, present-read, rule}

-- ---- who answered

pub record Answers (pool : Pool) (s : Shape) (g r i : ℕ) (whole : List Act) : Type 0 where
  pub outside : pool g i ≡ false
  pub set : List ℕ
  pub is : set_answered s g r i whole ≡ Some set

pub answers-is : (pool : Pool) (s : Shape) (whole : List Act) (g r i : ℕ) → (graph_for pool s whole g r).answered i ≡ true → Answers pool s g r i whole
answers-is pool s whole g r i h =
    let both = and_parts (not (pool g i)) (is_some (set_answered s g r i whole)) h in
    let some = some_of (set_answered s g r i whole) both.1 in
    record { outside = not_true (pool g i) both.0; set = some.0; is = some.1 }
  where
    some_of : (o : Option (List ℕ)) → is_some o ≡ true → (set : List ℕ) × (o ≡ Some set)
    some_of None e = absurd (false≢true e)
    some_of (Some set) e = (set, refl)

    not_true : (b : Bool) → not b ≡ true → b ≡ false
    not_true true e = absurd (false≢true e)
    not_true false e = refl

pub answers-from : (pool : Pool) (s : Shape) (whole : List Act) (g r i : ℕ) (set : List ℕ) → pool g i ≡ false → set_answered s g r i whole ≡ Some set → (graph_for pool s whole g r).answered i ≡ true
answers-from pool s whole g r i set outside is = and_from (not (pool g i)) (is_some (set_answered s g r i whole)) (ap not outside) (ap is_some is)

pub member-is : (groups : List Group) (g r i : ℕ) → is_plan_member groups g r i ≡ true → is_member i (members groups g r) ≡ true
member-is groups g r i h = is_member-picked (is_plan_member groups g r) 0 (size groups g) i (omega arith) (let lt = is_member-below groups g r i h in omega (arith, lt)) ∙ h

pub graph-is : (pool : Pool) (groups : List Group) (x : Readings) (whole : List Act) (g r : ℕ) → IsOfPlan groups x → AllByRecursion TellsSet whole
    → IsGraph (graph_for pool (shape_of_readings groups x) whole g r)
graph-is pool groups x whole g r of_plan sets =
    let s : Shape = shape_of_readings groups x in
    record {
      ascending = members-increasing groups g r;
      answered = λ i h.
          let a = answers-is pool s whole g r i h in
          member-is groups g r i (of_plan g r i (present-read s g r i whole (heard s g r i whole a.set sets a.is).read));
      stands = λ i j h. (and_parts (is_member j (members_of s g r)) (leaves (set_answered s g r i whole) j) h).0;
      masked = λ i j. both (not (pool g i)) (not (pool g j));
    }
  where
    both : (a b : Bool) → (a && b) ≡ (b && a)
    both true true = refl
    both true false = refl
    both false true = refl
    both false false = refl

-- ---- what it left out

pub left_out-set : (pool : Pool) (s : Shape) (whole : List Act) (g r i : ℕ) (set : List ℕ) → AllByRecursion TellsSet whole → set_answered s g r i whole ≡ Some set
    → left_out (graph_for pool s whole g r) i ≡ set
left_out-set pool s whole g r i set sets is =
    let h : Heard s g r i whole set = heard s g r i whole set sets is in
    same_filter (λ j. not (stands s g r whole i j)) (λ j. is_member j set) (members_of s g r)
    (λ j within. ap (λ o. not (is_member j (members_of s g r) && leaves o j)) is ∙ ap (λ b. not (b && not (is_member j set))) within ∙ twice (is_member j set))
    ∙ within-is set (members_of s g r) h.is.ascending (members-increasing s.groups g r) (rule s g r i set h.may).within
  where
    twice : (b : Bool) → not (not b) ≡ b
    twice true = refl
    twice false = refl

-- ---- how large a bare part is

count-both : (t a b : ℕ → Bool) → ((j : ℕ) → t j ≡ true → (a j || b j) ≡ true) → (xs : List ℕ) → length (filter t xs) ≤ length (filter a xs) + length (filter b xs)
count-both t a b all [] = omega arith
count-both t a b all (x ∷ xs) = step (t x) (a x) (b x) (all x) (count-both t a b all xs)
  where
    step : (p q o : Bool) → (p ≡ true → (q || o) ≡ true) → length (filter t xs) ≤ length (filter a xs) + length (filter b xs)
        → length (cond p (x ∷ filter t xs) (filter t xs)) ≤ length (cond q (x ∷ filter a xs) (filter a xs)) + length (cond o (x ∷ filter b xs) (filter b xs))
    step true true true h le = omega (arith, le)
    step true true false h le = omega (arith, le)
    step true false true h le = omega (arith, le)
    step true false false h le = absurd (false≢true (h refl))
    step false true true h le = omega (arith, le)
    step false true false h le = omega (arith, le)
    step false false true h le = omega (arith, le)
    step false false false h le = omega (arith, le)

pub reaches_floor : (pool : Pool) (s : Shape) (whole : List Act) (g r : ℕ) (p : ℕ → Bool) → AllByRecursion TellsSet whole → IsPart (graph_for pool s whole g r) p → IsBare (graph_for pool s whole g r) p
    → (i : ℕ) → p i ≡ true → floor_of s g ≤ length (filter p (members_of s g r)) + length (filter (λ j. pool g j && stands s g r whole i j) (members_of s g r))
reaches_floor pool s whole g r p sets part bare i within =
    let graph : Graph = graph_for pool s whole g r in
    let ms : List ℕ = members_of s g r in
    let a : Answers pool s g r i whole = answers-is pool s whole g r i (part.answered i within) in
    let h : Heard s g r i whole a.set = heard s g r i whole a.set sets a.is in
    let ruled : Rule s g r i a.set = rule s g r i a.set h.may in
    let gone : length (left_out graph i) ≡ length a.set = ap length (left_out-set pool s whole g r i a.set sets a.is) in
    let split : length (filter (graph.stands i) ms) + length (left_out graph i) ≡ length ms = length-filter_both (graph.stands i) (λ j. not (graph.stands i j)) (λ _. refl) ms in
    let two : length (filter (graph.stands i) ms) ≤ length (filter (λ j. (i == j) || sees graph i j) ms) + length (filter (λ j. pool g j && stands s g r whole i j) ms)
    = count-both (graph.stands i) (λ j. (i == j) || sees graph i j) (λ j. pool g j && stands s g r whole i j)
    (λ j h. step (graph.answered i) (i == j) (pool g i) (pool g j) (graph.stands i j) (part.answered i within) a.outside h) ms in
    omega (arith, ruled.floor, gone, split, two, large graph p part bare i within)
  where
    step : (a e k l t : Bool) → a ≡ true → k ≡ false → t ≡ true → ((e || (a && not e && (not k && not l) && t)) || (l && t)) ≡ true
    step true true k l t is_a is_k is_t = refl
    step true false false true true is_a is_k is_t = refl
    step true false false false true is_a is_k is_t = refl
    step true false true l t is_a is_k is_t = absurd (false≢true (sym is_k))
    step true false false l false is_a is_k is_t = absurd (false≢true is_t)
    step false e k l t is_a is_k is_t = absurd (false≢true is_a)
