-- The sums over opened components, one place after another.
use Rattle.std.proofs.Common.{◌≡◌, ℕ, ◌+◌, ◌≤◌, Bool, true, false, not, ◌||◌, List, length, sym, ap, ◌∙◌, subst, arith, ⊎_elim}
use Rattle.std.specs.Prelude.{Option}
use Rattle.std.proofs.lemmas.Bool.{both_ways, not-true, or_cases}
use Rattle.missing_round.specs.Words.{word}
use Rattle.missing_round.specs.Sets.{is_member}
use Rattle.group_plan.specs.Plans.{PlanView, size, IsWithinLimits}
use Rattle.group_plan.specs.Tables.{Table, reading, IsReadingTable}
use Rattle.event_schedule.specs.declared.Event.{Event}
use Rattle.event_schedule.specs.Schedule.{Shape, is_announced}
use Rattle.event_schedule.specs.Tables.{Readings, reading_at, plain_sum, IsBounded}
use Rattle.event_schedule.proofs.MemberLemmas.{plain_sum_fits}
use Rattle.ideal_masks.proofs.AgreementLemmas.{bounded}
use Rattle.sparse_masks.specs.declared.round.Round.{Round}
use Rattle.sparse_masks.specs.Trees.{component, is_component_opened}
use Rattle.sparse_masks.specs.Offsets.{ring_graph, HasOneRingSum}
use Rattle.sparse_masks.specs.Rounds.{graph_of, IsRoundOf}
use Rattle.sparse_masks.specs.Opened.{Before}
use Rattle.sparse_masks.proofs.OrderLemmas.{before-all, before-group, before-round, survivor-group, survivor-low, survivor-round}
use Rattle.sparse_masks.proofs.OpenedLemmas.{graph-is}
use Rattle.sparse_masks.proofs.ConverseLemmas.{sum-component}

-- the sum over a component is its word
pub sum-exact : (w : ℕ) (s : Shape) (plan : PlanView) (t : Table (Option ℕ)) (p : List Event) (g r i sum : ℕ) → s.groups ≡ plan.groups → IsWithinLimits plan → IsReadingTable plan t
    → sum ≡ word (plain_sum (reading t) g r (component (ring_graph w s g r p) i)) → sum ≡ plain_sum (reading t) g r (component (ring_graph w s g r p) i)
sum-exact w s plan t p g r i sum same limits fits is =
    let part : ℕ → Bool = λ j. is_member j (component (ring_graph w s g r p) i) in
    let over = sum-component w s g r p i (reading_at (reading t) g r) in
    is ∙ ap word over
    ∙ plain_sum_fits s.groups (reading t) g r part (subst (λ gs. IsBounded gs (reading t)) (sym same) (bounded plan t limits fits))
    ∙ sym over

-- a meter that is no survivor, or whose component isn't opened
pub sum-closed : (w : ℕ) (s : Shape) (x y : Readings) (p : List Event) (g r i : ℕ) (round : Round) → IsRoundOf w s g r p round
    → (not (is_member i round.survivors) || not (is_component_opened (graph_of round) i)) ≡ true → HasOneRingSum w s x y p g r i
sum-closed w s x y p g r i round is closed announced within opened =
    absurd (⊎_elim
    (λ out. both_ways (is_member i round.survivors) (not-true (is_member i round.survivors) out) (ap (is_member i) is.survivors ∙ within))
    (λ shut. both_ways (is_component_opened (graph_of round) i) (not-true (is_component_opened (graph_of round) i) shut) (ap (λ graph. is_component_opened graph i) (graph-is w s g r p round is) ∙ opened))
    (or_cases (not (is_member i round.survivors)) (not (is_component_opened (graph_of round) i)) closed))

pub sums-round : (w : ℕ) (s : Shape) (x y : Readings) (p : List Event) (g r n : ℕ) → n ≡ size s.groups g → Before (HasOneRingSum w s x y p) g r n → Before (HasOneRingSum w s x y p) g (r + 1) 0
sums-round w s x y p g r n n_is before =
    before-round (HasOneRingSum w s x y p) g r n before (λ c le announced within opened. absurd (let low = survivor-low s g r c p within in omega (arith, low, le, n_is)))

pub sums-open : (w : ℕ) (s : Shape) (x y : Readings) (p : List Event) (g r : ℕ) → is_announced s g r p ≡ false → Before (HasOneRingSum w s x y p) g r 0 → Before (HasOneRingSum w s x y p) g (r + 1) 0
sums-open w s x y p g r none before =
    before-round (HasOneRingSum w s x y p) g r 0 before (λ c le announced within opened. absurd (both_ways (is_announced s g r p) none announced))

pub sums-group : (w : ℕ) (plan : PlanView) (s : Shape) (x y : Readings) (p : List Event) (g r : ℕ) → s.groups ≡ plan.groups → IsWithinLimits plan → plan.rounds ≤ r
    → Before (HasOneRingSum w s x y p) g r 0 → Before (HasOneRingSum w s x y p) (g + 1) 0 0
sums-group w plan s x y p g r same limits all before =
    before-group (HasOneRingSum w s x y p) g r before
    (λ b c le announced within opened. absurd (let lt = survivor-round plan s g b c p same limits within in omega (arith, lt, le, all)))

pub sums-all : (w : ℕ) (s : Shape) (x y : Readings) (p : List Event) (n : ℕ) → length s.groups ≤ n → Before (HasOneRingSum w s x y p) n 0 0 → (g r i : ℕ) → HasOneRingSum w s x y p g r i
sums-all w s x y p n all before =
    before-all (HasOneRingSum w s x y p) n before
    (λ a b c le announced within opened. absurd (let lt = survivor-group s a b c p within in omega (arith, lt, le, all)))
