-- Whatever a meter says rests on what its journal has on the disk.
use Rattle.std.specs.Prelude.{◌≡◌, ◌&&◌, ℕ, Bool, true, false, List, [], ◌∷◌, ◌++◌, Some, Ok}
use Rattle.missing_round.specs.Masks.{Masks}
use Rattle.meter_frames.specs.declared.Frame.{Frame}
use Rattle.meter_apart.specs.declared.answers.Noted.{Noted}
use Rattle.meter_apart.specs.declared.answers.Noted.TheVariants.{Read}
use Rattle.meter_apart.specs.declared.part.Part.{Part}
use Rattle.meter_apart.specs.Journal.{kept, marked}
use Rattle.meter_apart.specs.Replies.{to_frame, to_reading}
use Rattle.desk_outside.specs.declared.wire.WireStep.{WireStep}
use Rattle.desk_outside.specs.declared.wire.WireStep.TheVariants.{Opened, Unopened, Recalled, Unrecalled, Emptied, Trimmed, Appended, Flushed, Heard, Unheard, Said}
use Rattle.apart_roles.specs.Inputs.{Came}
use Rattle.apart_roles.specs.MeterRuns.{run_steps}
use Rattle.apart_roles.specs.MeterTurns.{noted_frame, noted_line, with_noted}

-- whether nothing is said while the journal has what is not on the disk, from where it has this or not
abbrev pub says_flushed : (clean : Bool) → List WireStep → Bool
says_flushed clean [] = true
says_flushed clean (Opened name front ∷ steps) = says_flushed clean steps
says_flushed clean (Unopened name ∷ steps) = says_flushed clean steps
says_flushed clean (Recalled what text ∷ steps) = says_flushed clean steps
says_flushed clean (Unrecalled ∷ steps) = says_flushed clean steps
says_flushed clean (Emptied failed ∷ steps) = says_flushed false steps
says_flushed clean (Trimmed failed ∷ steps) = says_flushed false steps
says_flushed clean (Appended bytes failed ∷ steps) = says_flushed false steps
says_flushed clean (Flushed true ∷ steps) = says_flushed clean steps
says_flushed clean (Flushed false ∷ steps) = says_flushed true steps
says_flushed clean (Heard what text ∷ steps) = says_flushed clean steps
says_flushed clean (Unheard ∷ steps) = says_flushed clean steps
says_flushed clean (Said bytes failed ∷ steps) = clean && says_flushed clean steps

-- of the steps that are due in a run, and of the first so many of them, this holds
abbrev pub RunsSayFlushed : Type 0
RunsSayFlushed = (part : Part) (m : Masks) (journal : List Noted) (lines : List Came) (first others : List WireStep) → run_steps part m journal lines ≡ first ++ others → says_flushed true first ≡ true

-- where the frame of a reading is said, the journal with what is noted before it marks this reading
abbrev pub ReadingsAreMarked : Type 0
ReadingsAreMarked = (part : Part) (m : Masks) (journal : List Noted) (r reading : ℕ) (f : Frame) → to_reading part m journal r reading ≡ Ok f → marked (with_noted journal (noted_line part journal (Read r reading))) r ≡ Some reading

-- where a set is answered, the journal with what is noted before it keeps this set
abbrev pub SetsAreKept : Type 0
SetsAreKept = (part : Part) (m : Masks) (journal : List Noted) (heard f : Frame) → to_frame part m journal heard ≡ Ok f → kept (with_noted journal (noted_frame part journal heard)) heard.tag.round ≡ Some heard.missing
