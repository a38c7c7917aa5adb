-- A set that gets one meter of KNOWN.
use Rattle.std.specs.Prelude.{◌≡◌, ℕ, Bool, true, false, ◌||◌, List, Option, None, Some}
use Rattle.group_plan.specs.Plans.{PlanView}
use Rattle.command_words.specs.declared.known.KnownMeter.{KnownMeter}
use Rattle.command_words.specs.Known.{meter_of, is_this, is_in_plan, is_in_set}

-- a meter, the first of all where there is none
abbrev pub or_first : Option KnownMeter → KnownMeter
or_first None = record { group = 0; meter = 0 }
or_first (Some m) = m

-- the meter that a text names, where it names one
abbrev pub named_by : List ℕ → KnownMeter
named_by text = or_first (meter_of text)

-- the plan has the meter and the sets have it, too, besides those that they had; or the plan hasn't it
abbrev pub Adds : PlanView → KnownMeter → (old new : List (List ℕ)) → Bool → Type 0
Adds plan m old new true = (is_in_plan plan m ≡ true) × ((g i : ℕ) → is_in_set new g i ≡ (is_this g i m || is_in_set old g i))
Adds plan m old new false = is_in_plan plan m ≡ false
