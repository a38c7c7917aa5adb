-- The search for the first partner.
use Rattle.std.proofs.Common.{◌≡◌, ℕ, ◌+◌, ◌<◌, false, ◌&&◌, List, sym, ◌∙◌, subst, arith}
use Rattle.std.specs.Prelude.{nat_le, nat_lt, Option, Some, None, IfSome}
use Rattle.std.proofs.lemmas.Bool.{false≢true, and_parts, and_from, ltb-true, lt-ltb, le-leb}
use Rattle.std.proofs.lemmas.Bool.Decides.{nat_tests}
use Rattle.group_plan.specs.Plans.{PlanView, size, is_place}
use Rattle.group_plan.specs.Tables.{Table, ReadingsView, reading, IsReadingTable}
use Rattle.event_schedule.specs.declared.Event.{Event}
use Rattle.event_schedule.specs.Schedule.{Shape}
use Rattle.event_schedule.specs.Transcript.{shape_of_readings}
use Rattle.group_book.specs.Books.{BookView, shape_of, past}
use Rattle.ideal_masks.specs.Replaying.{HasEvents}
use Rattle.ideal_masks.proofs.WorldLemmas.{shape-of_events}
use Rattle.billing_read.specs.declared.partners.Partner.{Partner}
use Rattle.billing_read.specs.Partners.{IsPartner}
use Rattle.billing_read.specs.PartnerEnds.{IsFirst, IsFirstPartner, IsHiddenBy}
use Rattle.billing_read.specs.Searches.{HasNoneBefore}
use Rattle.billing_read.proofs.HiddenLemmas.{round-within, hidden}

-- ---- the end of the search

-- none in this round
pub none-round : (P : Partner → Type 0) (s n : ℕ) → HasNoneBefore P s n → ((q : Partner) → P q → q.meter < n) → HasNoneBefore P (s + 1) 0
none-round P s n none below q is before = let lt = below q is in none q is (grind (arith, nat_tests, lt, before))

-- none at all
pub none-all : (P : Partner → Type 0) (s : ℕ) → HasNoneBefore P s 0 → ((q : Partner) → P q → q.round < s) → IsFirst P None
none-all P s none below q is = let lt = below q is in none q is (grind (arith, nat_tests, lt))

-- the place of a partner is in the plan
pub partner-place : (plan : PlanView) (t : Table (Option ℕ)) (s : Shape) (whole : List Event) (from until g r i : ℕ) (q : Partner) → IsReadingTable plan t → IsPartner s (reading t) whole from until g r i q
    → (q.round < plan.rounds) × (q.meter < size plan.groups g)
partner-place plan t s whole from until g r i q fits is =
    let both = and_parts _ _ (round-within plan t fits g q.round q.meter q.plus is.exchange.there) in
    (ltb-true q.round plan.rounds both.0, ltb-true q.meter (size plan.groups g) both.1)

-- a place outside the plan or outside the period has no partner
pub none-outside : (x : ReadingsView) (events : List Event) (from until g r i : ℕ) → IsReadingTable x.plan x.table → (is_place x.plan g r i && nat_le from r && nat_lt r until) ≡ false
    → IsFirstPartner x events from until g r i None
none-outside x events from until g r i fits out q is =
    let place = round-within x.plan x.table fits g r i q.plus is.exchange.here in
    let above = le-leb from r is.period.0 in
    let below = lt-ltb r until is.period.1 in
    false≢true (sym out ∙ and_from _ _ (and_from _ _ place above) below)

-- ---- the events of the book are those of the transcript

pub first-of_events : (x : ReadingsView) (events : List Event) (b : BookView) (from until g r i : ℕ) (found : Option Partner) → HasEvents x events b
    → IsFirst (IsPartner (shape_of b) (reading x.table) (past b) from until g r i) found → IsFirstPartner x events from until g r i found
first-of_events x events b from until g r i found has first =
    subst (λ p. IsFirst (IsPartner (shape_of_readings x.plan.groups (reading x.table)) (reading x.table) p from until g r i) found) has.past
    (subst (λ s. IsFirst (IsPartner s (reading x.table) (past b) from until g r i) found) (shape-of_events x events b has) first)

-- a partner that is found hides the reading
pub found_hides : (x : ReadingsView) (events : List Event) (from until g r i : ℕ) (found : Option Partner) → IsReadingTable x.plan x.table → IsFirstPartner x events from until g r i found
    → IfSome found (IsHiddenBy x events from until g r i)
found_hides x events from until g r i None fits first = tt
found_hides x events from until g r i (Some p) fits first = hidden x events from until g r i p fits first.0
