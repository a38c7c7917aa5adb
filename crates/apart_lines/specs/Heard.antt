-- What a line says to a head end, and what it says to a meter.
use Rattle.std.specs.Prelude.{ℕ, ◌^◌, ◌-◌, min, Bool, ◌||◌, List, [], ◌∷◌, codes, Option, Some, None, Result, Ok, if◌then◌else◌}
use Rattle.std.specs.Str.{bytes_eq}
use Rattle.std.specs.Str.Parse.{digits_value}
use Rattle.meter_frames.specs.declared.Frame.{Frame}
use Rattle.meter_frames.specs.declared.FrameError.{FrameError}
use Rattle.meter_frames.specs.Frames.{IsFrame}
use Rattle.field_texts.specs.Numbers.{is_numeral}
use Rattle.field_texts.specs.Parts.{parts}
use Rattle.apart_lines.specs.declared.heard.ToHeadEnd.{ToHeadEnd}
use Rattle.apart_lines.specs.declared.heard.ToHeadEnd.TheVariants as head
use Rattle.apart_lines.specs.declared.heard.ToMeter.{ToMeter}
use Rattle.apart_lines.specs.declared.heard.ToMeter.TheVariants as meter
use Rattle.apart_lines.specs.Frames.{frame_in}

-- ---- numbers

-- the number that a text writes in decimal digits without leading zeros, whatever its length; one of 2^64 or more, which is beyond all that a plan
-- has, stands as 2^64 - 1, which is so too
unfoldable pub told_number : List ℕ → Option ℕ
told_number text = if is_numeral text then Some (min (digits_value 10 text) (2 ^ 64 - 1)) else None

-- ---- answers

abbrev pub is_verdict : List ℕ → Bool
is_verdict word =
    bytes_eq word (codes "fresh") || bytes_eq word (codes "again") || bytes_eq word (codes "differs") || bytes_eq word (codes "late") || bytes_eq word (codes "void")

-- whether an answer of a head end or of a meter begins with this word
abbrev pub is_answer : List ℕ → Bool
is_answer word =
    is_verdict word || bytes_eq word (codes "refused") || bytes_eq word (codes "closed") || bytes_eq word (codes "lacking") || bytes_eq word (codes "row")
    || bytes_eq word (codes "ticked") || bytes_eq word (codes "reported") || bytes_eq word (codes "ready")

-- ---- to a head end

-- what a line with this first field says, unless its other fields tell more: nothing, where it is an answer
abbrev pub to_head_end_other : List ℕ → ToHeadEnd
to_head_end_other word = if is_answer word then head.Nothing else head.Unknown

abbrev pub to_head_end_alone : List ℕ → ToHeadEnd
to_head_end_alone word =
    if bytes_eq word (codes "") then head.Nothing else if bytes_eq word (codes "again") then head.Again
    else if bytes_eq word (codes "report") then head.Report else to_head_end_other word

abbrev pub frame_to_head_end : Option (Result Frame FrameError) → ToHeadEnd
frame_to_head_end (Some frame) = head.Frame frame
frame_to_head_end None = head.Unknown

abbrev pub tick_to_head_end : Option ℕ → ToHeadEnd
tick_to_head_end (Some tick) = head.Tick tick
tick_to_head_end None = head.Unknown

abbrev pub to_head_end_pair : List ℕ → List ℕ → ToHeadEnd
to_head_end_pair word rest =
    if bytes_eq word (codes "frame") then frame_to_head_end (frame_in rest)
    else if bytes_eq word (codes "tick") then tick_to_head_end (told_number rest) else to_head_end_other word

abbrev pub to_head_end_by : List (List ℕ) → ToHeadEnd
to_head_end_by [] = head.Unknown
to_head_end_by (word ∷ []) = to_head_end_alone word
to_head_end_by (word ∷ rest ∷ []) = to_head_end_pair word rest
to_head_end_by (word ∷ second ∷ third ∷ rest) = to_head_end_other word

-- what a line says to a head end
unfoldable pub to_head_end : List ℕ → ToHeadEnd
to_head_end line = to_head_end_by (parts 44 line)

-- a frame that it says has a spelling
abbrev pub IsSoundToHeadEnd : ToHeadEnd → Type 0
IsSoundToHeadEnd (head.Frame (Ok f)) = IsFrame f
IsSoundToHeadEnd _ = Unit {0}

-- ---- to a meter

abbrev pub to_meter_other : List ℕ → ToMeter
to_meter_other word = if is_answer word then meter.Nothing else meter.Unknown

abbrev pub to_meter_alone : List ℕ → ToMeter
to_meter_alone word = if bytes_eq word (codes "") then meter.Nothing else to_meter_other word

abbrev pub frame_to_meter : Option (Result Frame FrameError) → ToMeter
frame_to_meter (Some frame) = meter.Frame frame
frame_to_meter None = meter.Unknown

abbrev pub to_meter_pair : List ℕ → List ℕ → ToMeter
to_meter_pair word rest = if bytes_eq word (codes "frame") then frame_to_meter (frame_in rest) else to_meter_other word

abbrev pub reading_to_meter : Option ℕ → Option ℕ → ToMeter
reading_to_meter (Some r) (Some reading) = meter.Reading r reading
reading_to_meter (Some r) None = meter.Unknown
reading_to_meter None reading = meter.Unknown

abbrev pub to_meter_three : List ℕ → List ℕ → List ℕ → ToMeter
to_meter_three word second third = if bytes_eq word (codes "reading") then reading_to_meter (told_number second) (told_number third) else to_meter_other word

abbrev pub to_meter_by : List (List ℕ) → ToMeter
to_meter_by [] = meter.Unknown
to_meter_by (word ∷ []) = to_meter_alone word
to_meter_by (word ∷ second ∷ []) = to_meter_pair word second
to_meter_by (word ∷ second ∷ third ∷ []) = to_meter_three word second third
to_meter_by (word ∷ second ∷ third ∷ fourth ∷ rest) = to_meter_other word

-- what a line says to a meter
unfoldable pub to_meter : List ℕ → ToMeter
to_meter line = to_meter_by (parts 44 line)

abbrev pub IsSoundToMeter : ToMeter → Type 0
IsSoundToMeter (meter.Frame (Ok f)) = IsFrame f
IsSoundToMeter _ = Unit {0}
