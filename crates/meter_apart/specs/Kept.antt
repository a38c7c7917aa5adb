-- What a meter keeps of its rounds, whatever came.
use Rattle.std.specs.Prelude.{◌≡◌, ℕ, ◌<◌, List, length, slice_index_or, Option, Some, None}
use Rattle.group_plan.specs.Plans.{floor_of}
use Rattle.meter_core.specs.Meters.{MeterView, note_at}
use Rattle.meter_apart.specs.declared.part.Part.{Part}
use Rattle.meter_apart.specs.Parts.{members_in}

-- the members of a round, where a reading was marked for it
abbrev pub members_where : Option ℕ → List ℕ → Option (List ℕ)
members_where None members = None
members_where (Some reading) members = Some members

-- a place for the reading of each round, and a note of each round, with its members where a reading was marked
pub record KeepsNotes (part : Part) (readings : List (Option ℕ)) (core : MeterView) : Type 0 where
  pub readings_long : length readings ≡ part.home.rounds
  pub notes_long : length core.notes ≡ part.home.rounds
  pub number : core.meter ≡ part.meter
  pub floor : core.floor ≡ floor_of part.home.groups 0
  pub members_are : (r : ℕ) → r < part.home.rounds → (note_at core r).members ≡ members_where (slice_index_or readings r None) (members_in part r)
