-- Partners of a reading: where one watt-hour can move between two rounds and two meters, so that each bill and each total stays.
use Rattle.std.specs.Prelude.{◌≡◌, ◌≢◌, ℕ, ◌+◌, ◌-◌, ◌^◌, ◌<◌, ◌≤◌, ◌==◌, ◌&&◌, ◌||◌, not, Bool, true, false, List, Option, Some, None, if◌then◌else◌}
use Rattle.std.specs.Option.{option_map}
use Rattle.missing_round.specs.Sets.{is_member}
use Rattle.event_schedule.specs.declared.Event.{Event}
use Rattle.event_schedule.specs.Tables.{Readings}
use Rattle.event_schedule.specs.Schedule.{Shape, is_opened, survivors}
use Rattle.billing_read.specs.declared.partners.Partner.{Partner}

-- ---- the four places

-- there is a reading, which can rise by 1 and stay below 2^40, or fall by 1
abbrev pub CanMove : Bool → Option ℕ → Type 0
CanMove plus None = ⊥
CanMove true (Some v) = v + 1 < 2 ^ 40
CanMove false (Some v) = 0 < v

-- in another round and at another meter, where all four readings can move: with plus the reading of meter i in round r and that of the partner
-- rise, and the other two fall; with minus the contrary
pub record CanExchange (x : Readings) (g r i : ℕ) (p : Partner) : Type 0 where
  pub other_round : p.round ≢ r
  pub other_meter : p.meter ≢ i
  pub here : CanMove p.plus (x g r i)
  pub there : CanMove p.plus (x g p.round p.meter)
  pub partner_here : CanMove (not p.plus) (x g r p.meter)
  pub meter_there : CanMove (not p.plus) (x g p.round i)

-- how the reading of place (a, b, c) moves: up, down, or not at all
abbrev pub move_of : (g r i : ℕ) → Partner → (a b c : ℕ) → Option Bool
move_of g r i p a b c =
    if not (a == g) then None else
    if ((b == r) && (c == i)) || ((b == p.round) && (c == p.meter)) then Some p.plus else
    if ((b == r) && (c == p.meter)) || ((b == p.round) && (c == i)) then Some (not p.plus) else None

-- a number that moves so
abbrev pub moved : Option Bool → ℕ → ℕ
moved None v = v
moved (Some true) v = v + 1
moved (Some false) v = v - 1

-- the changed table
abbrev pub changed : Readings → (g r i : ℕ) → Partner → Readings
changed x g r i p = λ a b c. option_map (moved (move_of g r i p a b c)) (x a b c)

-- ---- partners

-- if the round is opened, both meters are among its survivors, or neither is
abbrev pub KeepsTotal : Shape → List Event → (g r i j : ℕ) → Type 0
KeepsTotal s whole g r i j = is_opened s g r whole ≡ true → is_member i (survivors s g r whole) ≡ is_member j (survivors s g r whole)

-- both rounds lie in the period, the four readings can move, and the total of both rounds stays
pub record IsPartner (s : Shape) (x : Readings) (whole : List Event) (from until g r i : ℕ) (p : Partner) : Type 0 where
  pub period : (from ≤ r) × (r < until)
  pub partner_period : (from ≤ p.round) × (p.round < until)
  pub exchange : CanExchange x g r i p
  pub total_here : KeepsTotal s whole g r i p.meter
  pub total_there : KeepsTotal s whole g p.round i p.meter
