-- The lines of the journals of a head end and of a meter, without their newlines.
use Rattle.std.specs.Prelude.{◌≡◌, ◌≢◌, ℕ, ◌<◌, ◌^◌, List, [], ◌∷◌, codes, decimal, Option, Some, None, if◌then◌else◌}
use Rattle.std.specs.Option.{option_map}
use Rattle.std.specs.Str.{bytes_eq}
use Rattle.missing_round.specs.Sets.{IsSet}
use Rattle.meter_frames.specs.Frames.{FitsKind, IsFrame}
use Rattle.field_texts.specs.Numbers.{number_of, within}
use Rattle.field_texts.specs.Sets.{numbers_text, set_of}
use Rattle.field_texts.specs.Parts.{parts}
use Rattle.transcript_text.specs.Spelling.{joined}
use Rattle.head_end.specs.declared.answers.Logged.{Logged}
use Rattle.head_end.specs.declared.answers.Logged.TheVariants.{Took, Passed}
use Rattle.meter_apart.specs.declared.answers.Noted.{Noted}
use Rattle.meter_apart.specs.declared.answers.Noted.TheVariants.{Read, Kept}
use Rattle.apart_lines.specs.Frames.{digits_of, frame_written}

-- ---- the head end

abbrev pub logged_fields : Logged → List (List ℕ)
logged_fields (Took f) = codes "f" ∷ digits_of f ∷ []
logged_fields Passed = codes "t" ∷ []

-- a line of a head end's journal
unfoldable pub logged_text : Logged → List ℕ
logged_text line = joined (logged_fields line)

-- what has such a line: a frame has a spelling
abbrev pub HasLogged : Logged → Type 0
HasLogged (Took f) = IsFrame f
HasLogged Passed = Unit {0}

-- what can be written: a frame is one of its kind
abbrev pub CanLog : Logged → Type 0
CanLog (Took f) = FitsKind f.tag.kind f.missing f.word
CanLog Passed = Unit {0}

-- what fields say in a head end's journal
abbrev pub logged_by : List (List ℕ) → Option Logged
logged_by [] = None
logged_by (word ∷ []) = if bytes_eq word (codes "t") then Some Passed else None
logged_by (word ∷ digits ∷ []) = if bytes_eq word (codes "f") then option_map Took (frame_written digits) else None
logged_by (word ∷ second ∷ third ∷ rest) = None

-- what a line of a head end's journal says
unfoldable pub logged_of : List ℕ → Option Logged
logged_of line = logged_by (parts 44 line)

-- this, where the line is its text; nothing, where the line is the text of nothing
abbrev pub IsLoggedOf : List ℕ → Option Logged → Type 0
IsLoggedOf line (Some logged) = HasLogged logged × (line ≡ logged_text logged)
IsLoggedOf line None = (logged : Logged) → HasLogged logged → line ≢ logged_text logged

-- ---- the meter

abbrev pub noted_fields : Noted → List (List ℕ)
noted_fields (Read r reading) = codes "r" ∷ decimal r ∷ decimal reading ∷ []
noted_fields (Kept r set) = codes "s" ∷ decimal r ∷ numbers_text set ∷ []

-- a line of a meter's journal
unfoldable pub noted_text : Noted → List ℕ
noted_text line = joined (noted_fields line)

-- what has such a line: its numbers and its set are those of the types
abbrev pub HasNoted : Noted → Type 0
HasNoted (Read r reading) = (r < 2 ^ 32) × (reading < 2 ^ 64)
HasNoted (Kept r set) = (r < 2 ^ 32) × IsSet set

abbrev pub in_round : {A : Type 0} → (ℕ → A → Noted) → Option ℕ → Option A → Option Noted
in_round note (Some r) (Some x) = Some (note r x)
in_round note (Some r) None = None
in_round note None found = None

-- what fields say in a meter's journal
abbrev pub noted_by : List (List ℕ) → Option Noted
noted_by [] = None
noted_by (word ∷ []) = None
noted_by (word ∷ second ∷ []) = None
noted_by (word ∷ round ∷ rest ∷ []) =
    if bytes_eq word (codes "r") then in_round Read (within 0 (2 ^ 32) (number_of round)) (number_of rest)
    else if bytes_eq word (codes "s") then in_round Kept (within 0 (2 ^ 32) (number_of round)) (set_of 256 rest)
    else None
noted_by (word ∷ second ∷ third ∷ fourth ∷ rest) = None

-- what a line of a meter's journal says
unfoldable pub noted_of : List ℕ → Option Noted
noted_of line = noted_by (parts 44 line)

-- this, where the line is its text; nothing, where the line is the text of nothing
abbrev pub IsNotedOf : List ℕ → Option Noted → Type 0
IsNotedOf line (Some noted) = HasNoted noted × (line ≡ noted_text noted)
IsNotedOf line None = (noted : Noted) → HasNoted noted → line ≢ noted_text noted
