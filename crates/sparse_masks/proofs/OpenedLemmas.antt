-- The fewest members of any opened component, one place after another.
use Rattle.std.specs.declared.alloc.AllocError.{AllocError}
use Rattle.std.proofs.Common.{◌≡◌, ℕ, ◌+◌, ◌≤◌, inl, inr, Bool, true, false, ◌&&◌, List, length, refl, sym, ap, ◌∙◌, subst, arith}
use Rattle.std.specs.Prelude.{nat_le, if◌then◌else◌, Option, Some, None, unwrap_or, reverse, Result, IfOk}
use Rattle.std.proofs.lemmas.Bool.{and_parts, both_ways, false_from_ne_true, leb-true, leb-false}
use Rattle.missing_round.specs.Sets.{is_member}
use Rattle.group_plan.specs.Plans.{PlanView, size, IsWithinLimits}
use Rattle.group_plan.specs.Tables.{ReadingsView, reading}
use Rattle.event_schedule.specs.declared.Event.{Event}
use Rattle.event_schedule.specs.Schedule.{Shape, survivors, is_announced}
use Rattle.event_schedule.specs.Transcript.{shape_of_readings}
use Rattle.group_book.specs.Books.{BookView, shape_of, past}
use Rattle.ideal_masks.specs.Replaying.{HasEvents}
use Rattle.ideal_masks.proofs.WorldLemmas.{shape-of_events}
use Rattle.sparse_masks.specs.declared.round.Round.{Round}
use Rattle.sparse_masks.specs.Trees.{component, is_component_opened}
use Rattle.sparse_masks.specs.Offsets.{neighbour_graph, ring_graph, is_opened_at}
use Rattle.sparse_masks.specs.Rounds.{graph_of, IsRoundOf}
use Rattle.sparse_masks.specs.Opened.{is_in_opened, component_size, IsOpenedSize, IsLeastOpened, IsBound, IsReached, fewer_of, IsFewest, FewestGoesOn}
use Rattle.sparse_masks.proofs.OrderLemmas.{before-all, before-first, before-group, before-place, before-round, survivor-group, survivor-low, survivor-round}

-- the graph of the round is that of the schedule
pub graph-is : (w : ℕ) (s : Shape) (g r : ℕ) (p : List Event) (round : Round) → IsRoundOf w s g r p round → graph_of round ≡ ring_graph w s g r p
graph-is w s g r p round is =
    ap (λ v. neighbour_graph v round.meters round.survivors round.answered) is.width
    ∙ ap (λ n. neighbour_graph w n round.survivors round.answered) is.meters
    ∙ ap (λ a. neighbour_graph w (size s.groups g) a round.answered) is.survivors
    ∙ ap (λ b. neighbour_graph w (size s.groups g) (survivors s g r p) b) is.answered

opened-is : (w : ℕ) (s : Shape) (g r : ℕ) (p : List Event) (round : Round) (i : ℕ) → IsRoundOf w s g r p round
    → is_in_opened w s p g r i ≡ (is_member i round.survivors && is_component_opened (graph_of round) i)
opened-is w s g r p round i is =
    ap (λ b. b && is_member i (survivors s g r p) && is_opened_at w s p g r i) is.announced
    ∙ ap (λ a. is_member i a && is_opened_at w s p g r i) (sym is.survivors)
    ∙ ap (λ graph. is_member i round.survivors && is_component_opened graph i) (sym (graph-is w s g r p round is))

-- who is no survivor is in no opened component
none-opened : (w : ℕ) (s : Shape) (p : List Event) (g r i : ℕ) → (is_member i (survivors s g r p) ≡ true → ⊥) → is_in_opened w s p g r i ≡ false
none-opened w s p g r i none =
    false_from_ne_true (is_in_opened w s p g r i)
    (λ h. none (and_parts (is_announced s g r p) (is_member i (survivors s g r p)) (and_parts (is_announced s g r p && is_member i (survivors s g r p)) (is_opened_at w s p g r i) h).0).1)

bound-closed : (w : ℕ) (s : Shape) (p : List Event) (o : Option ℕ) (g r i : ℕ) → is_in_opened w s p g r i ≡ false → IsBound w s p o g r i
bound-closed w s p None g r i closed = closed
bound-closed w s p (Some n) g r i closed = λ h. absurd (both_ways (is_in_opened w s p g r i) closed h)

bound-less : (w : ℕ) (s : Shape) (p : List Event) (o : Option ℕ) (k g r i : ℕ) → IsBound w s p o g r i → IsBound w s p (Some (fewer_of o k)) g r i
bound-less w s p None k g r i bound = λ h. absurd (both_ways (is_in_opened w s p g r i) bound h)
bound-less w s p (Some n) k g r i bound = λ h. step (nat_le n k) refl (bound h)
  where
    step : (b : Bool) → nat_le n k ≡ b → n ≤ component_size w s p g r i → (if b then n else k) ≤ component_size w s p g r i
    step true e le = le
    step false e le = let lt = leb-false n k e in omega (arith, lt, le)

fewer-le : (o : Option ℕ) (k : ℕ) → fewer_of o k ≤ k
fewer-le None k = omega arith
fewer-le (Some n) k = step (nat_le n k) refl
  where
    step : (b : Bool) → nat_le n k ≡ b → (if b then n else k) ≤ k
    step true e = leb-true n k e
    step false e = omega arith

reached-less : (w : ℕ) (s : Shape) (p : List Event) (o : Option ℕ) (k : ℕ) → IsReached w s p o → IsOpenedSize w s p k → IsReached w s p (Some (fewer_of o k))
reached-less w s p None k old here = here
reached-less w s p (Some n) k old here = step (nat_le n k)
  where
    step : (b : Bool) → IsOpenedSize w s p (if b then n else k)
    step true = old
    step false = here

-- one meter more
pub fewest-place : (round : Round) (old o new : Option ℕ) (i : ℕ) (c : List ℕ) → c ≡ component (graph_of round) i
    → new ≡ (if is_member i round.survivors && is_component_opened (graph_of round) i then Some (fewer_of o (length c)) else o)
    → FewestGoesOn round old i o → FewestGoesOn round old (i + 1) new
fewest-place round old o new i c c_is new_is before w s g r p is start =
    subst (IsFewest w s p g r (i + 1)) (sym new_is) (step (is_member i round.survivors && is_component_opened (graph_of round) i) refl (before w s g r p is start))
  where
    step : (b : Bool) → (is_member i round.survivors && is_component_opened (graph_of round) i) ≡ b → IsFewest w s p g r i o → IsFewest w s p g r (i + 1) (if b then Some (fewer_of o (length c)) else o)
    step true e f =
        let size : length c ≡ component_size w s p g r i = ap length (c_is ∙ ap (λ graph. component graph i) (graph-is w s g r p round is)) in
        record {
          reached = reached-less w s p o (length c) f.reached (record { group = g; round = r; meter = i; opened = opened-is w s g r p round i is ∙ e; size = sym size });
          before = before-place (IsBound w s p (Some (fewer_of o (length c)))) g r i (λ a b d earlier. bound-less w s p o (length c) a b d (f.before a b d earlier))
              (λ h. let le = fewer-le o (length c) in omega (arith, le, size));
        }
    step false e f = record {
      reached = f.reached;
      before = before-place (IsBound w s p o) g r i f.before (bound-closed w s p o g r i (opened-is w s g r p round i is ∙ e));
    }

pub fewest-begins : (round : Round) (old : Option ℕ) → FewestGoesOn round old 0 old
fewest-begins round old w s g r p is start = start

-- one round more
pub fewest-round : (w : ℕ) (s : Shape) (p : List Event) (g r n : ℕ) (o : Option ℕ) → n ≡ size s.groups g → IsFewest w s p g r n o → IsFewest w s p g (r + 1) 0 o
fewest-round w s p g r n o n_is f = record {
  reached = f.reached;
  before = before-round (IsBound w s p o) g r n f.before
      (λ c le. bound-closed w s p o g r c (none-opened w s p g r c (λ within. let low = survivor-low s g r c p within in omega (arith, low, le, n_is))));
}

pub fewest-open : (w : ℕ) (s : Shape) (p : List Event) (g r : ℕ) (o : Option ℕ) → is_announced s g r p ≡ false → IsFewest w s p g r 0 o → IsFewest w s p g (r + 1) 0 o
fewest-open w s p g r o none f = record {
  reached = f.reached;
  before = before-round (IsBound w s p o) g r 0 f.before (λ c le. bound-closed w s p o g r c (ap (λ b. b && is_member c (survivors s g r p) && is_opened_at w s p g r c) none));
}

-- one group more
pub fewest-group : (w : ℕ) (plan : PlanView) (s : Shape) (p : List Event) (g r : ℕ) (o : Option ℕ) → s.groups ≡ plan.groups → IsWithinLimits plan → plan.rounds ≤ r
    → IsFewest w s p g r 0 o → IsFewest w s p (g + 1) 0 0 o
fewest-group w plan s p g r o same limits all f = record {
  reached = f.reached;
  before = before-group (IsBound w s p o) g r f.before
      (λ b c le. bound-closed w s p o g b c (none-opened w s p g b c (λ within. let lt = survivor-round plan s g b c p same limits within in omega (arith, lt, le, all))));
}

pub fewest-none : (w : ℕ) (s : Shape) (p : List Event) → IsFewest w s p 0 0 0 None
fewest-none w s p = record { reached = tt; before = before-first (IsBound w s p None) }

-- all
pub fewest-all : (w : ℕ) (s : Shape) (p : List Event) (n : ℕ) (o : Option ℕ) → length s.groups ≤ n → IsFewest w s p n 0 0 o → IsLeastOpened w s p (unwrap_or o 0)
fewest-all w s p n o all f =
    let bounds = before-all (IsBound w s p o) n f.before
    (λ a b c le. bound-closed w s p o a b c (none-opened w s p a b c (λ within. let lt = survivor-group s a b c p within in omega (arith, lt, le, all)))) in
    step o f.reached bounds
  where
    step : (q : Option ℕ) → IsReached w s p q → ((a b c : ℕ) → IsBound w s p q a b c) → IsLeastOpened w s p (unwrap_or q 0)
    step None reached bounds = inl (refl, bounds)
    step (Some k) reached bounds = inr (reached, bounds)

-- the book of a transcript's events has their opened components
pub least-moved : (x : ReadingsView) (events : List Event) (w : ℕ) (b : BookView) (result : Result ℕ AllocError) → HasEvents x events b → IfOk result (IsLeastOpened w (shape_of b) (past b))
    → IfOk result (IsLeastOpened w (shape_of_readings x.plan.groups (reading x.table)) (reverse events))
least-moved x events w b result has is =
    subst (λ s. IfOk result (IsLeastOpened w s (reverse events))) (shape-of_events x events b has)
    (subst (λ p. IfOk result (IsLeastOpened w (shape_of b) p)) has.past is)
