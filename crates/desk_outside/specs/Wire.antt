-- What a wire shows of the input, of a journal and of its steps, and what each call makes of it.
use Rattle.std.specs.Prelude.{◌≡◌, ◌≤◌, ◌+◌, ◌++◌, ◌==◌, ℕ, min, Bool, true, false, nat_le, if◌then◌else◌, List, [], ◌∷◌, length, take, drop, position, Option, Some, None, Result, Ok, Err, Vec, ⊤}
use Rattle.std.specs.Option.{option_map}
use Rattle.std.specs.declared.alloc.Global.{Global}
use Rattle.desk_outside.specs.Desk.{IsPrefixOf, extended, one_more}
use Rattle.desk_outside.specs.declared.wire.Coming.{Coming}
use Rattle.desk_outside.specs.declared.wire.Coming.TheVariants.{Line, TooLong, Rest, End}
use Rattle.desk_outside.specs.declared.wire.WireError.{WireError}
use Rattle.desk_outside.specs.declared.wire.WireError.TheVariants.{Failed, Memory}
use Rattle.desk_outside.specs.declared.wire.WireStep.{WireStep}
use Rattle.desk_outside.specs.declared.wire.WireStep.TheVariants.{Opened, Unopened, Recalled, Unrecalled, Emptied, Trimmed, Appended, Flushed, Heard, Unheard, Said}

-- ---- lines

-- the most bytes of a line
abbrev pub most_line : ℕ
most_line = 4096

-- the place of the first newline
abbrev pub newline_in : List ℕ → Option ℕ
newline_in bytes = position (λ c. c == 10) bytes

-- what comes next, by the place of the first newline
abbrev pub coming_by : List ℕ → Option ℕ → Coming
coming_by bytes None = if length bytes == 0 then End else Rest
coming_by bytes (Some at) = if nat_le at most_line then Line else TooLong

-- its first bytes, without the newline
abbrev pub text_by : List ℕ → Option ℕ → List ℕ
text_by bytes None = take (min (length bytes) most_line) bytes
text_by bytes (Some at) = take (min at most_line) bytes

-- how many bytes it takes, with the newline; a rest is left
abbrev pub taken_by : Option ℕ → ℕ
taken_by None = 0
taken_by (Some at) = at + 1

-- what comes next of these bytes, what is told of it, and how many bytes it takes
abbrev pub coming_of : List ℕ → Coming
coming_of bytes = coming_by bytes (newline_in bytes)

abbrev pub text_of : List ℕ → List ℕ
text_of bytes = text_by bytes (newline_in bytes)

abbrev pub taken_of : List ℕ → ℕ
taken_of bytes = taken_by (newline_in bytes)

-- what comes next of the bytes is put in place of a line
pub record TakesNext (bytes line : List ℕ) (what : Coming) (taken : ℕ) : Type 0 where
  pub what_is : what ≡ coming_of bytes
  pub text_is : line ≡ text_of bytes
  pub taken_is : taken ≡ taken_of bytes
  pub within : taken ≤ length bytes
  pub short : length line ≤ most_line

-- ---- what a wire shows

-- bytes, of which so many were read
pub record Source : Type 0 where
  pub bytes : List ℕ
  pub place : ℕ

-- those that come next
abbrev pub rest_of : Source → List ℕ
rest_of source = drop source.place source.bytes

-- this is what comes next, where that is told
abbrev pub IsNext : Option Source → Coming → List ℕ → Type 0
IsNext None what text = ⊤
IsNext (Some source) what text = (what ≡ coming_of (rest_of source)) × (text ≡ text_of (rest_of source))

-- what came next was read
abbrev pub passed : Source → Source
passed source = record source { place = source.place + taken_of (rest_of source) }

-- how often the outside has failed; and where they are told, the input, the journal, and the steps, the earliest first
pub record WireView : Type 0 where
  pub faults : ℕ
  pub input : Option Source
  pub journal : Option Source
  pub steps : Option (List WireStep)

-- ---- what a step leaves

abbrev pub has_failed : WireStep → Bool
has_failed (Opened name front) = false
has_failed (Unopened name) = true
has_failed (Recalled what text) = false
has_failed Unrecalled = true
has_failed (Emptied failed) = failed
has_failed (Trimmed failed) = failed
has_failed (Appended bytes failed) = failed
has_failed (Flushed failed) = failed
has_failed (Heard what text) = false
has_failed Unheard = true
has_failed (Said bytes failed) = failed

abbrev pub input_after : WireStep → Source → Source
input_after (Heard what text) source = passed source
input_after _ source = source

-- nothing is recalled behind what was appended
abbrev pub journal_after : WireStep → Source → Source
journal_after (Opened name front) source = record source { place = length front }
journal_after (Recalled what text) source = passed source
journal_after (Emptied false) source = record { bytes = []; place = 0 }
journal_after (Trimmed false) source = record source { bytes = take source.place source.bytes }
journal_after (Appended bytes failed) source = record { bytes = source.bytes ++ bytes; place = length (source.bytes ++ bytes) }
journal_after _ source = source

-- the wire after one more step
unfoldable pub after_step : WireView → WireStep → WireView
after_step v step = record {
  faults = if has_failed step then one_more v.faults else v.faults;
  input = option_map (input_after step) v.input;
  journal = option_map (journal_after step) v.journal;
  steps = extended v.steps (step ∷ []);
}

-- the wire after some more steps, the first of them first
abbrev pub after_steps : WireView → List WireStep → WireView
after_steps v [] = v
after_steps v (step ∷ steps) = after_steps (after_step v step) steps

-- ---- how a call ends

-- the journal begins with these bytes, at most so many, where that is told
abbrev pub IsFront : Option Source → ℕ → List ℕ → Type 0
IsFront None most front = ⊤
IsFront (Some source) most front = front ≡ take (min (length source.bytes) most) source.bytes

abbrev pub OpenEnds : List ℕ → ℕ → WireView → WireView → Result (Vec ℕ Global) WireError → Type 0
OpenEnds name most v w (Ok front) = (w ≡ after_step v (Opened name front.items)) × IsFront v.journal most front.items × (length front.items ≤ most)
OpenEnds name most v w (Err Failed) = w ≡ after_step v (Unopened name)
OpenEnds name most v w (Err Memory) = w ≡ v

abbrev pub RecallEnds : WireView → WireView → List ℕ → Result Coming WireError → Type 0
RecallEnds v w text (Ok what) = (w ≡ after_step v (Recalled what text)) × IsNext v.journal what text × (length text ≤ most_line)
RecallEnds v w text (Err Failed) = w ≡ after_step v Unrecalled
RecallEnds v w text (Err Memory) = w ≡ v

abbrev pub HearEnds : WireView → WireView → List ℕ → Result Coming WireError → Type 0
HearEnds v w text (Ok what) = (w ≡ after_step v (Heard what text)) × IsNext v.input what text × (length text ≤ most_line)
HearEnds v w text (Err Failed) = w ≡ after_step v Unheard
HearEnds v w text (Err Memory) = w ≡ v

-- a step is done, or has failed
abbrev pub DoneEnds : (Bool → WireStep) → WireView → WireView → Result (Unit {0}) WireError → Type 0
DoneEnds step v w (Ok done) = w ≡ after_step v (step false)
DoneEnds step v w (Err Failed) = w ≡ after_step v (step true)
DoneEnds step v w (Err Memory) = w ≡ v

-- bytes are brought outside, or after a failure a prefix of them
abbrev pub BringEnds : (List ℕ → Bool → WireStep) → List ℕ → WireView → WireView → Result (Unit {0}) WireError → Type 0
BringEnds step bytes v w (Ok done) = w ≡ after_step v (step bytes false)
BringEnds step bytes v w (Err Failed) = (front : List ℕ) × IsPrefixOf front bytes × (w ≡ after_step v (step front true))
BringEnds step bytes v w (Err Memory) = w ≡ v

abbrev pub AppendEnds : List ℕ → WireView → WireView → Result (Unit {0}) WireError → Type 0
AppendEnds bytes v w result = BringEnds Appended bytes v w result

abbrev pub SayEnds : List ℕ → WireView → WireView → Result (Unit {0}) WireError → Type 0
SayEnds bytes v w result = BringEnds Said bytes v w result
