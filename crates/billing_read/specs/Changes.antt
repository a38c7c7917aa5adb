-- The changed table while it is made, place by place.
use Rattle.std.specs.Prelude.{◌≡◌, ℕ, ◌<◌, ◌^◌, Bool, true, Option, Some, None}
use Rattle.group_plan.specs.Tables.{ReadingsView, reading}
use Rattle.event_schedule.specs.Tables.{Readings}
use Rattle.ideal_masks.specs.OffsetEnds.{is_earlier}
use Rattle.billing_read.specs.declared.changes.Change.{Change}
use Rattle.billing_read.specs.Partners.{CanMove, CanExchange, changed}

-- the readings of the change, and the changed ones
abbrev pub before_change : Change → Readings
before_change c = reading c.readings.now.table

abbrev pub after_change : Change → Readings
after_change c = changed (before_change c) c.place.group c.place.round c.place.meter c.partner

-- the table has the readings f at each place before this one
abbrev pub HasBefore : Readings → ReadingsView → (g r i : ℕ) → Type 0
HasBefore f y g r i = (a b c : ℕ) → is_earlier a b c g r i ≡ true → reading y.table a b c ≡ f a b c

-- the readings can move
abbrev pub IsChange : Change → Type 0
IsChange c = CanExchange (before_change c) c.place.group c.place.round c.place.meter c.partner

-- a number can move so, and stays below 2^40
abbrev pub CanStep : Option Bool → ℕ → Type 0
CanStep None v = v < 2 ^ 40
CanStep (Some plus) v = CanMove plus (Some v)
