-- The cut of a text: its whole lines, with an `end` line where none of them is one.
use Rattle.std.specs.Prelude.{◌≡◌, ℕ, ◌+◌, Bool, List, [], ◌∷◌, ◌++◌, length, codes, decimal, bytes_eq, Option, Some, None, Result, Ok, Err, ⊤, if◌then◌else◌}
use Rattle.std.specs.Borrow.{Bor}
use Rattle.std.specs.List.{list_any}
use Rattle.field_texts.specs.Parts.{parts}
use Rattle.event_schedule.specs.Transcripts.{TranscriptView}
use Rattle.transcript_text.specs.declared.fault.ReadError.{ReadError}
use Rattle.transcript_text.specs.declared.fault.ReadError.TheVariants as fault
use Rattle.transcript_text.specs.declared.version.Version.TheVariants.{Two}
use Rattle.transcript_text.specs.Parts.{at}
use Rattle.transcript_text.specs.Heads.{read_of}
use Rattle.transcript_text.specs.Faults.{lines_text}
use Rattle.cut_resume.specs.declared.errors.CutError.{CutError}
use Rattle.cut_resume.specs.declared.errors.CutError.TheVariants as cut

-- all parts but the last
abbrev pub but_last : List (List ℕ) → List (List ℕ)
but_last [] = []
but_last (last ∷ []) = []
but_last (part ∷ next ∷ more) = part ∷ but_last (next ∷ more)

-- the whole lines of a text are its lines with their newline; a rest is dropped
abbrev pub whole_lines : List ℕ → List (List ℕ)
whole_lines text = but_last (parts 10 text)

-- the first field of a line is `end`
abbrev pub is_end : List ℕ → Bool
is_end line = bytes_eq (at (parts 44 line) 0) (codes "end")

-- how many lines stand after the first line `begin`, or 0
abbrev pub after_begin : List (List ℕ) → ℕ
after_begin [] = 0
after_begin (line ∷ rest) = if bytes_eq line (codes "begin") then length rest else after_begin rest

-- the text before the last newline and that after it, where there is one
abbrev pub CutsLast : List ℕ → Option (Bor (List ℕ) × Bor (List ℕ)) → Type 0
CutsLast text None = parts 10 text ≡ text ∷ []
CutsLast text (Some x) = (parts 10 text ≡ parts 10 x.0.now ++ x.1.now ∷ []) × (length text ≡ length x.0.now + 1 + length x.1.now)

-- it is the last of the parts of a text
abbrev pub IsLastPart : List ℕ → List ℕ → Type 0
IsLastPart text last = (before : List (List ℕ)) × (parts 10 text ≡ before ++ last ∷ [])

-- the `end` line of so many entries
abbrev pub end_line : ℕ → List ℕ
end_line count = codes "end," ++ decimal count

-- these lines, and the `end` line of those after `begin` where none has the first field `end`
abbrev pub with_end : List (List ℕ) → List (List ℕ)
with_end lines = if list_any is_end lines then lines else lines ++ end_line (after_begin lines) ∷ []

-- the completed text
unfoldable pub completed : List ℕ → List ℕ
completed text = lines_text (with_end (whole_lines text))

-- reading a text does not answer that there is no `end` line
abbrev pub HasEnd : List ℕ → Type 0
HasEnd text = (n : ℕ) → ¬ (read_of Two text ≡ Err (fault.NoEnd n))

-- a cut answers what reading the completed text answers, which is never that there is no `end` line; want of memory is free
abbrev pub CutEnds : Result TranscriptView CutError → Result TranscriptView ReadError → Type 0
CutEnds (Ok t) answer = answer ≡ Ok t
CutEnds (Err (cut.Head n)) answer = answer ≡ Err (fault.Head n)
CutEnds (Err (cut.Line n)) answer = answer ≡ Err (fault.Line n)
CutEnds (Err (cut.Field n k)) answer = answer ≡ Err (fault.Field n k)
CutEnds (Err (cut.Count n)) answer = answer ≡ Err (fault.Count n)
CutEnds (Err (cut.After n)) answer = answer ≡ Err (fault.After n)
CutEnds (Err cut.Memory) answer = ⊤
