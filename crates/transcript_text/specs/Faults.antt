-- The line at which a text is refused, by the texts that begin with the same lines.
use Rattle.std.specs.Prelude.{◌≡◌, ℕ, ◌+◌, ◌^◌, ◌<◌, ◌≤◌, List, [], ◌∷◌, ◌++◌, length, All, Result, Ok, Err, ⊤}
use Rattle.std.specs.List.{flat_map}
use Rattle.field_texts.specs.Parts.{parts}
use Rattle.transcript_text.specs.declared.version.Version.{Version}
use Rattle.transcript_text.specs.declared.fault.ReadError.{ReadError}
use Rattle.transcript_text.specs.declared.fault.ReadError.TheVariants as fault
use Rattle.event_schedule.specs.Transcripts.{TranscriptView}
use Rattle.transcript_text.specs.Spelling.{ended, text_of}
use Rattle.transcript_text.specs.Heads.{read_of}
use Rattle.transcript_text.specs.ReadBack.{HasText}

-- the line of a fault, counted from 1; want of memory is at none
abbrev pub fault_line : ReadError → ℕ
fault_line (fault.Head n) = n
fault_line (fault.Line n) = n
fault_line (fault.Field n k) = n
fault_line (fault.NoEnd n) = n
fault_line (fault.Count n) = n
fault_line (fault.After n) = n
fault_line fault.Memory = 0

-- a line has no newline in it
abbrev pub IsOneLine : List ℕ → Type 0
IsOneLine line = parts 10 line ≡ line ∷ []

-- lines, each with its newline
abbrev pub lines_text : List (List ℕ) → List ℕ
lines_text lines = flat_map ended lines

-- the text begins so
abbrev pub Begins : List ℕ → List ℕ → Type 0
Begins start text = (rest : List ℕ) × (text ≡ start ++ rest)

-- the text of a transcript, whose entries are few enough to be counted in 64 bits
pub record IsText (version : Version) (text : List ℕ) : Type 0 where
  pub transcript : TranscriptView
  pub has : HasText version transcript
  pub few : length transcript.entries < 2 ^ 64
  pub is : text ≡ text_of version transcript

-- line n is faulty. No text that begins with the lines before it is refused at an earlier line, and no transcript's text begins with it too
pub record IsFirstFault (version : Version) (bytes : List ℕ) (n : ℕ) : Type 0 where
  pub before : List (List ℕ)
  pub rest : List ℕ
  pub lines : All IsOneLine before
  pub number : n ≡ length before + 1
  pub bytes_are : bytes ≡ lines_text before ++ rest
  pub earlier : (text : List ℕ) (f : ReadError) → Begins (lines_text before) text → read_of version text ≡ Err f → n ≤ fault_line f
  pub later : (line more text : List ℕ) → IsOneLine line → rest ≡ ended line ++ more → IsText version text → ¬ Begins (lines_text before ++ ended line) text

-- line n is faulty, and the text of a transcript begins with the lines before it
abbrev pub IsFaultAfterHead : Version → List ℕ → ℕ → Type 0
IsFaultAfterHead version bytes n = (first : IsFirstFault version bytes n) × (text : List ℕ) × IsText version text × Begins (lines_text first.before) text

-- how reading a text stops, by where its first fault is; want of memory is free
abbrev pub StopsAt : {T : Type 0} → Version → List ℕ → Result T ReadError → Type 0
StopsAt version bytes (Ok t) = ⊤
StopsAt version bytes (Err (fault.Head n)) = IsFirstFault version bytes n
StopsAt version bytes (Err (fault.Line n)) = IsFaultAfterHead version bytes n
StopsAt version bytes (Err (fault.Field n k)) = IsFaultAfterHead version bytes n
StopsAt version bytes (Err (fault.NoEnd n)) = IsFaultAfterHead version bytes n
StopsAt version bytes (Err (fault.Count n)) = IsFaultAfterHead version bytes n
StopsAt version bytes (Err (fault.After n)) = IsFaultAfterHead version bytes n
StopsAt version bytes (Err fault.Memory) = ⊤
