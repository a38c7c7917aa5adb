-- What the search for a partner answers, and what the other world is.
use Rattle.std.specs.Prelude.{◌≡◌, ◌⊎◌, ℕ, ◌+◌, ◌==◌, ◌&&◌, ◌||◌, nat_lt, not, Bool, false, List, reverse, Option, Some, None}
use Rattle.group_plan.specs.Tables.{ReadingsView, reading}
use Rattle.event_schedule.specs.declared.Event.{Event}
use Rattle.event_schedule.specs.Tables.{reading_at}
use Rattle.event_schedule.specs.Transcript.{shape_of_readings}
use Rattle.ideal_masks.specs.Offsets.{Agree}
use Rattle.billing_read.specs.declared.partners.Partner.{Partner}
use Rattle.billing_read.specs.Bills.{bills}
use Rattle.billing_read.specs.Partners.{IsPartner, changed}

-- ---- the first partner

-- by round, then by meter, then plus before minus
abbrev pub comes_before : Partner → Partner → Bool
comes_before p q =
    nat_lt p.round q.round || ((p.round == q.round) && (nat_lt p.meter q.meter || ((p.meter == q.meter) && p.plus && not q.plus)))

-- the first that has the property, and none exactly where there is none
abbrev pub IsFirst : (Partner → Type 0) → Option Partner → Type 0
IsFirst P None = (q : Partner) → P q → ⊥
IsFirst P (Some p) = P p × ((q : Partner) → P q → comes_before q p ≡ false)

-- the first partner of a reading under the events, and none exactly where it has none
abbrev pub IsFirstPartner : ReadingsView → List Event → (from until g r i : ℕ) → Option Partner → Type 0
IsFirstPartner x events from until g r i found =
    IsFirst (IsPartner (shape_of_readings x.plan.groups (reading x.table)) (reading x.table) (reverse events) from until g r i) found

-- ---- the other world

-- the changed table
pub record IsOtherWorld (x : ReadingsView) (g r i : ℕ) (p : Partner) (y : ReadingsView) : Type 0 where
  pub plan : y.plan ≡ x.plan
  pub readings : (a b c : ℕ) → reading y.table a b c ≡ changed (reading x.table) g r i p a b c

-- one is the other and 1
abbrev pub DifferByOne : ℕ → ℕ → Type 0
DifferByOne m n = (m ≡ n + 1) ⊎ (n ≡ m + 1)

-- the changed table agrees with the first and has its bills, and differs from it by 1 at the place
pub record IsHiddenBy (x : ReadingsView) (events : List Event) (from until g r i : ℕ) (p : Partner) : Type 0 where
  pub agrees : Agree x.plan.groups (reading x.table) (changed (reading x.table) g r i p) (reverse events)
  pub bills : bills x.plan from until (changed (reading x.table) g r i p) ≡ bills x.plan from until (reading x.table)
  pub differs : DifferByOne (reading_at (reading x.table) g r i) (reading_at (changed (reading x.table) g r i p) g r i)
