-- The answer of `offsets_after`, from what its parts answer.
use Rattle.std.proofs.Common.{◌≡◌, ℕ, Bool, true, false, cond, List, map, get_or, [], refl, sym, ap, ◌∙◌, subst, IfErr}
use Rattle.std.specs.Prelude.{Option, None, is_some, reverse, Result, Ok, Err}
use mathlib.Core.Path.{fun_ext}
use Rattle.std.proofs.lemmas.Bool.{false≢true}
use Rattle.std.proofs.Math.ListN.{get_or-map}
use Rattle.group_plan.specs.Plans.{IsWithinLimits}
use Rattle.group_plan.specs.Tables.{ReadingsView, reading, is_present, presence_of, IsReadingTable}
use Rattle.event_schedule.specs.declared.Event.{Event}
use Rattle.event_schedule.specs.Schedule.{Shape, shape_of_presence}
use Rattle.event_schedule.specs.Tables.{Readings}
use Rattle.event_schedule.specs.Transcript.{shape_of_readings}
use Rattle.group_book.specs.Books.{BookView, shape_of, past}
use Rattle.ideal_masks.specs.declared.Offset.{Offset}
use Rattle.ideal_masks.specs.declared.Differ.{Differ}
use Rattle.ideal_masks.specs.declared.Differ.TheVariants.{Presence, Total, Memory}
use Rattle.ideal_masks.specs.declared.PoolDiffer.{PoolDiffer}
use Rattle.ideal_masks.specs.declared.PoolDiffer.TheVariants.{Known, Other}
use Rattle.ideal_masks.specs.Pools.{Pool, nobody}
use Rattle.ideal_masks.specs.Offsets.{AgreeFor, moves_for}
use Rattle.ideal_masks.specs.Moves.{offset_list}
use Rattle.ideal_masks.specs.Isolation.{offsets_between_for}
use Rattle.ideal_masks.specs.Order.{AreMoves, AreOfPlan}
use Rattle.ideal_masks.specs.Chains.{deltas, moves_of}
use Rattle.ideal_masks.specs.Replaying.{HasEvents}
use Rattle.ideal_masks.specs.OffsetEnds.{IsAlike, IsKnownAlike, IsFirstKnown, HasOneTotalFor, IsFirstTotalFor, OffsetsEnd, PooledEnd, HasTwoWorldsFor, HasNoWorldsFor, HasNoPooledWorlds, HasNoWorlds}
use Rattle.ideal_masks.specs.AgreementParts.{PresenceEnds, known_reading, IsFirstSeen, KnownEnds, TotalsEnd, MovesEnd}
use Rattle.event_schedule.proofs.ScheduleLemmas.{after-reverse}
use Rattle.ideal_masks.proofs.AgreementLemmas.{bounded}
use Rattle.ideal_masks.proofs.PoolLemmas.{nobody-shares}
use Rattle.ideal_masks.proofs.Converse.{converse_for}
use Rattle.ideal_masks.proofs.Isolation.{isolated_from}
use Rattle.ideal_masks.proofs.MoveLemmas.{list_is}
use Rattle.ideal_masks.proofs.OrderLemmas.{list-moves}

present-same : (x : ReadingsView) (g r i : ℕ) → is_present (presence_of x).table g r i ≡ is_some (reading x.table g r i)
present-same x g r i =
    ap (λ t. get_or (get_or t r []) i false) (get_or-map (map (map is_some)) x.table g [])
    ∙ ap (λ t. get_or t i false) (get_or-map (map is_some) (get_or x.table g []) r [])
    ∙ get_or-map is_some (get_or (get_or x.table g []) r []) i None

shape-same : (x : ReadingsView) → shape_of_presence (presence_of x) ≡ shape_of_readings x.plan.groups (reading x.table)
shape-same x =
    ap (λ (f : ℕ → ℕ → ℕ → Bool). let s : Shape = record { groups = x.plan.groups; present = f } in s) (fun_ext (λ g. fun_ext (λ r. fun_ext (λ i. present-same x g r i))))

pub shape-of_events : (x : ReadingsView) (events : List Event) (b : BookView) → HasEvents x events b → shape_of b ≡ shape_of_readings x.plan.groups (reading x.table)
shape-of_events x events b has = ap shape_of_presence has.presence ∙ shape-same x

-- the list of the book is that of the tables
pub list-between : (pool : Pool) (x y : ReadingsView) (events : List Event) (b : BookView) → HasEvents x events b → offset_list b.presence.plan (moves_of pool x y b) ≡ offsets_between_for pool x.plan x.table y.table events
list-between pool x y events b has =
    ap (λ p. offset_list p.plan (moves_of pool x y b)) has.presence
    ∙ ap (λ s. offset_list x.plan (moves_for pool s (deltas x y) (past b))) (shape-of_events x events b has)
    ∙ ap (λ p. offset_list x.plan (moves_for pool (shape_of_readings x.plan.groups (reading x.table)) (deltas x y) p)) has.past

pub agreed : (pool : Pool) (x y : ReadingsView) (events : List Event) (b : BookView) → HasEvents x events b → ((g r i : ℕ) → IsAlike (reading x.table) (reading y.table) g r i)
    → ((g r i : ℕ) → IsKnownAlike pool (reading x.table) (reading y.table) g r i)
    → ((g r : ℕ) → HasOneTotalFor pool (shape_of b) (reading x.table) (reading y.table) (past b) g r) → AgreeFor pool x.plan.groups (reading x.table) (reading y.table) (reverse events)
agreed pool x y events b has alike known totals =
    subst (λ p. AgreeFor pool x.plan.groups (reading x.table) (reading y.table) p) has.past
    (record {
      presence = alike;
      readings = known;
      totals = λ g r. subst (λ s. HasOneTotalFor pool s (reading x.table) (reading y.table) (past b) g r) (shape-of_events x events b has) (totals g r);
    })

pub first-total : (pool : Pool) (x y : ReadingsView) (events : List Event) (b : BookView) (g r v w : ℕ) → HasEvents x events b → IsFirstTotalFor pool (shape_of b) (reading x.table) (reading y.table) (past b) g r v w
    → IsFirstTotalFor pool (shape_of_readings x.plan.groups (reading x.table)) (reading x.table) (reading y.table) (reverse events) g r v w
first-total pool x y events b g r v w has is =
    subst (λ p. IsFirstTotalFor pool (shape_of_readings x.plan.groups (reading x.table)) (reading x.table) (reading y.table) p g r v w) has.past
    (subst (λ s. IsFirstTotalFor pool s (reading x.table) (reading y.table) (past b) g r v w) (shape-of_events x events b has) is)

-- ---- what the pool knows

known-same : (c : Bool) (v w : Option ℕ) → c ≡ true → cond c v None ≡ cond c w None → v ≡ w
known-same true v w is same = same
known-same false v w is same = absurd (false≢true is)

pub known-alike : (pool : Pool) (x y : Readings) (g r i : ℕ) → known_reading pool x g r i ≡ known_reading pool y g r i → IsKnownAlike pool x y g r i
known-alike pool x y g r i same = λ inside. known-same (pool g i) (x g r i) (y g r i) inside same

pub first-known : (pool : Pool) (x y : Readings) (g r i : ℕ) → IsFirstSeen pool x y g r i → IsFirstKnown pool x y g r i
first-known pool x y g r i first = record {
  known = inside (pool g i) refl;
  differs = λ same. first.differs (ap (λ v. cond (pool g i) v None) same);
  before = λ a b c earlier. known-alike pool x y a b c (first.before a b c earlier);
}
  where
    inside : (c : Bool) → pool g i ≡ c → c ≡ true
    inside true is = refl
    inside false is = absurd (first.differs (ap (λ z. cond z (x g r i) None) is ∙ sym (ap (λ z. cond z (y g r i) None) is)))

pub nobody-known : (x y : Readings) (g r i : ℕ) → IsKnownAlike nobody x y g r i
nobody-known x y g r i = λ inside. absurd (false≢true inside)

-- ---- what follows

pub between-moves : (pool : Pool) (x y : ReadingsView) (events : List Event) (list : List Offset) → list ≡ offsets_between_for pool x.plan x.table y.table events → AreMoves list
between-moves pool x y events list is = rw is (list-moves x.plan _)

pub between-places : (pool : Pool) (x y : ReadingsView) (events : List Event) (list : List Offset) → list ≡ offsets_between_for pool x.plan x.table y.table events → AreOfPlan x.plan list
between-places pool x y events list is = rw is (list_is x.plan _).places

pub worlds : (pool : Pool) (x y : ReadingsView) (events : List Event) (list : List Offset) → IsReadingTable x.plan x.table → IsReadingTable y.plan y.table → y.plan ≡ x.plan
    → AgreeFor pool x.plan.groups (reading x.table) (reading y.table) (reverse events) → list ≡ offsets_between_for pool x.plan x.table y.table events → HasTwoWorldsFor pool x y events list
worlds pool x y events list x_fits y_fits same agree is = λ m m_fits.
    rw is (isolated_from pool x.plan x.table events x_fits y.table (subst (λ p. IsReadingTable p y.table) same y_fits) agree m m_fits)

pub no_worlds : (pool : Pool) (x y : ReadingsView) (events : List Event) (g r v w : ℕ) → IsReadingTable x.plan x.table → IsReadingTable y.plan y.table → y.plan ≡ x.plan → IsWithinLimits x.plan
    → ((h q i : ℕ) → IsAlike (reading x.table) (reading y.table) h q i) → ((h q i : ℕ) → IsKnownAlike pool (reading x.table) (reading y.table) h q i)
    → IsFirstTotalFor pool (shape_of_readings x.plan.groups (reading x.table)) (reading x.table) (reading y.table) (reverse events) g r v w → HasNoWorldsFor pool x y events (Total g r v w)
no_worlds pool x y events g r v w x_fits y_fits same limits alike known is = λ m k shared one.
    let y_here : IsReadingTable x.plan y.table = subst (λ p. IsReadingTable p y.table) same y_fits in
    let agree : AgreeFor pool x.plan.groups (reading x.table) (reading y.table) (reverse events)
    = subst (λ p. AgreeFor pool x.plan.groups (reading x.table) (reading y.table) p) (after-reverse events)
    (converse_for pool x.plan.groups (reading x.table) (reading y.table) m k events alike known (bounded x.plan x.table limits x_fits) (bounded x.plan y.table limits y_here) shared one) in
    is.differ (is.first ∙ agree.totals g r is.opened ∙ sym is.second)

-- ---- the end

pub ends-total : (pool : Pool) (x y : ReadingsView) (events : List Event) (b : BookView) (e : Differ) → HasEvents x events b → TotalsEnd pool x y b (Err e) → MovesEnd pool x y events (Err e)
ends-total pool x y events b (Presence g r i) has is = absurd is
ends-total pool x y events b (Total g r v w) has is = first-total pool x y events b g r v w has is
ends-total pool x y events b Memory has is = tt

pub ends-no_worlds : (pool : Pool) (x y : ReadingsView) (events : List Event) (b : BookView) (e : Differ) → IsReadingTable x.plan x.table → IsReadingTable y.plan y.table → y.plan ≡ x.plan → IsWithinLimits x.plan
    → HasEvents x events b → ((g r i : ℕ) → IsAlike (reading x.table) (reading y.table) g r i) → ((g r i : ℕ) → IsKnownAlike pool (reading x.table) (reading y.table) g r i)
    → TotalsEnd pool x y b (Err e) → HasNoWorldsFor pool x y events e
ends-no_worlds pool x y events b (Presence g r i) x_fits y_fits same limits has alike known is = tt
ends-no_worlds pool x y events b (Total g r v w) x_fits y_fits same limits has alike known is = no_worlds pool x y events g r v w x_fits y_fits same limits alike known (first-total pool x y events b g r v w has is)
ends-no_worlds pool x y events b Memory x_fits y_fits same limits has alike known is = tt

-- the end of `offsets_after`, where nobody is in the pool
pub ends-nobody : (x y : ReadingsView) (events : List Event) (result : Result (List Offset) Differ) → ((g r i : ℕ) → IsAlike (reading x.table) (reading y.table) g r i)
    → MovesEnd nobody x y events result → OffsetsEnd x y events result
ends-nobody x y events (Ok list) alike is = is
ends-nobody x y events (Err (Presence g r i)) alike is = absurd is
ends-nobody x y events (Err (Total g r v w)) alike is = (alike, is)
ends-nobody x y events (Err Memory) alike is = tt

pub no_worlds-nobody : (x y : ReadingsView) (events : List Event) (e : Differ) → HasNoWorldsFor nobody x y events e → HasNoWorlds x y events e
no_worlds-nobody x y events (Presence g r i) none = tt
no_worlds-nobody x y events (Total g r v w) none = λ m k. none m k (nobody-shares m k)
no_worlds-nobody x y events Memory none = tt

pub no_worlds-end : (x y : ReadingsView) (events : List Event) (result : Result (List Offset) Differ) → IfErr result (HasNoWorldsFor nobody x y events) → IfErr result (HasNoWorlds x y events)
no_worlds-end x y events (Ok list) none = none
no_worlds-end x y events (Err e) none = no_worlds-nobody x y events e none

-- and that of `pooled_offsets_after`
pub ends-presence : (pool : Pool) (x y : ReadingsView) (events : List Event) (e : Differ) → PresenceEnds x y (Err e) → PooledEnd pool x y events (Err (Other e))
ends-presence pool x y events (Presence g r i) is = is
ends-presence pool x y events (Total g r v w) is = absurd is
ends-presence pool x y events Memory is = absurd is

pub presence-no_worlds : (pool : Pool) (x y : ReadingsView) (events : List Event) (e : Differ) → PresenceEnds x y (Err e) → HasNoWorldsFor pool x y events e
presence-no_worlds pool x y events (Presence g r i) is = tt
presence-no_worlds pool x y events (Total g r v w) is = absurd is
presence-no_worlds pool x y events Memory is = absurd is

pub ends-known : (pool : Pool) (x y : ReadingsView) (events : List Event) (e : PoolDiffer) → ((g r i : ℕ) → IsAlike (reading x.table) (reading y.table) g r i) → KnownEnds pool x y (Err e) → PooledEnd pool x y events (Err e)
ends-known pool x y events (Known g r i) alike is = (alike, first-known pool (reading x.table) (reading y.table) g r i is)
ends-known pool x y events (Other e) alike is = absurd is

pub known-no_worlds : (pool : Pool) (x y : ReadingsView) (events : List Event) (e : PoolDiffer) → KnownEnds pool x y (Err e) → HasNoPooledWorlds pool x y events e
known-no_worlds pool x y events (Known g r i) is = tt
known-no_worlds pool x y events (Other e) is = absurd is

pub ends-pooled : (pool : Pool) (x y : ReadingsView) (events : List Event) (e : Differ) → ((g r i : ℕ) → IsAlike (reading x.table) (reading y.table) g r i)
    → ((g r i : ℕ) → IsKnownAlike pool (reading x.table) (reading y.table) g r i) → MovesEnd pool x y events (Err e) → PooledEnd pool x y events (Err (Other e))
ends-pooled pool x y events (Presence g r i) alike known is = absurd is
ends-pooled pool x y events (Total g r v w) alike known is = (alike, known, is)
ends-pooled pool x y events Memory alike known is = tt
