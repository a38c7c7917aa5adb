-- The lanes that rows take out of a cupboard.
use Rattle.std.specs.Prelude.{◌≡◌, ℕ, true, false, ⊤, if◌then◌else◌, List, [], ◌∷◌, ◌++◌, Option, Some, None, Result, Ok, Err, map, bytes_eq}
use Rattle.std.specs.declared.alloc.Global.{Global}
use Rattle.std.specs.declared.dyn_box.DynBox.{DynBox}
use Rattle.std.specs.Option.{option_map}
use Rattle.link_lanes.specs.declared.row.LaneRow.{LaneRow}
use Rattle.link_lanes.specs.declared.cupboard.RackError.{RackError}
use Rattle.link_lanes.specs.declared.cupboard.RackCause.{RackCause}
use Rattle.link_lanes.specs.declared.cupboard.RackCause.TheVariants.{NoSuchLane, BadArgument, Memory}
use Rattle.link_lanes.specs.declared.rack.Rack.{Rack}
use Rattle.link_lanes.specs.Lanes.{Meaning, loaded, Slot}
use Rattle.link_lanes.specs.Counts.{slot}
use Rattle.link_lanes.specs.Racks.{slots, posts_of, HasRoom}

-- the first lane of the name, and the others
abbrev pub take_named : List ℕ → List Meaning → Option (Meaning × List Meaning)
take_named name [] = None
take_named name (m ∷ lanes) = if bytes_eq m.called name then Some (m, lanes) else option_map (λ p. (p.0, m ∷ p.1)) (take_named name lanes)

-- a lane before those that the later rows hang
abbrev pub before_later : Slot → Result (List Slot) RackError → Result (List Slot) RackError
before_later s (Ok later) = Ok (s ∷ later)
before_later s (Err e) = Err e

-- row by row, the first lane left of the row's name, loaded with its argument and hung for its span; or the first row that is refused
abbrev pub hung_by : List Meaning → List LaneRow → Result (List Slot) RackError
hung_by lanes [] = Ok []
hung_by lanes (row ∷ rows) = elim (take_named row.name lanes) [
  | None ↦ Err (record { row = row.row; cause = NoSuchLane })
  | Some p ↦ if p.0.fits row.arg
      then before_later (slot (loaded p.0 row.arg) row.from row.to) (hung_by p.1 rows)
      else Err (record { row = row.row; cause = BadArgument })
]

-- one row: the lanes that hang and those that are left, before and after
abbrev pub RowEnds : LaneRow → List Slot → List Meaning → List Slot → List Meaning → Result (Unit {0}) RackCause → Type 0
RowEnds row hung left hung' left' (Ok done) =
    (m : Meaning) × (take_named row.name left ≡ Some (m, left')) × (m.fits row.arg ≡ true) × (hung' ≡ hung ++ slot (loaded m row.arg) row.from row.to ∷ [])
RowEnds row hung left hung' left' (Err NoSuchLane) = take_named row.name left ≡ None
RowEnds row hung left hung' left' (Err BadArgument) =
    (m : Meaning) × (rest : List Meaning) × (take_named row.name left ≡ Some (m, rest)) × (m.fits row.arg ≡ false)
RowEnds row hung left hung' left' (Err Memory) = ⊤

-- the first refused row is answered with its cause
abbrev pub RefusesRow : List Meaning → List LaneRow → ℕ → RackCause → Type 0
RefusesRow cupboard rows row NoSuchLane = hung_by cupboard rows ≡ Err (record { row = row; cause = NoSuchLane })
RefusesRow cupboard rows row BadArgument = hung_by cupboard rows ≡ Err (record { row = row; cause = BadArgument })
RefusesRow cupboard rows row Memory = ⊤

-- a rack with the lanes that the rows take and no post, or the first refused row
abbrev pub FitEnds : {I : Type 0} {D : I → Type 0} → (DynBox I Global D → Meaning) → List (DynBox I Global D) → List LaneRow → Result (Rack I D) RackError → Type 0
FitEnds meaning cupboard rows (Ok rack) =
    (hung_by (map meaning cupboard) rows ≡ Ok (slots meaning rack)) × (posts_of rack ≡ []) × HasRoom meaning rack
FitEnds meaning cupboard rows (Err e) = RefusesRow (map meaning cupboard) rows e.row e.cause
