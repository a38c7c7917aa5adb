-- Entries that are read ahead, in pieces of a text side by side.
use Rattle.std.specs.Prelude.{◌≡◌, Vec, ℕ, ◌+◌, ◌<◌, ◌≤◌, Bool, true, false, List, [], ◌∷◌, ◌++◌, length, All, Option, Some, None, Result, Ok, Err}
use Rattle.std.specs.List.{flat_map}
use Rattle.std.specs.declared.alloc.Global.{Global}
use Rattle.group_plan.specs.Plans.{PlanView}
use Rattle.event_schedule.specs.declared.Entry.{Entry}
use Rattle.event_schedule.specs.Transcripts.{Fits, IsEntry, IsPlan, NeverFalls, last_tick_from}
use Rattle.transcript_text.specs.declared.version.Version.{Version}
use Rattle.transcript_text.specs.declared.fault.ReadError.{ReadError}
use Rattle.transcript_text.specs.declared.piece.Piece.{Piece}
use Rattle.transcript_text.specs.Spelling.{ended, entry_text}
use Rattle.transcript_text.specs.declared.fault.BodyLine.TheVariants as row
use Rattle.field_texts.specs.Parts.{parts}
use Rattle.transcript_text.specs.Reading.{before, Fails, row_of}
use Rattle.transcript_text.specs.Heads.{read_of}
use Rattle.transcript_text.specs.ReadBack.{HasHead}
use Rattle.transcript_text.specs.Readers.{ReaderView, left_of, with_entries}

-- the lines of entries in a version, each with its newline
abbrev pub entry_lines : Version → List Entry → List ℕ
entry_lines version es = flat_map (λ e. ended (entry_text version e)) es

-- entries that fit the plan, from a tick on
abbrev pub Follow : PlanView → ℕ → List Entry → Type 0
Follow plan last [] = Unit {0}
Follow plan last (e ∷ es) = (last ≤ e.tick) × Fits plan e × IsEntry e × Follow plan e.tick es

-- an entry is put behind others, that of the line, and this is its tick; or nothing changes
abbrev pub PutEnds : Version → PlanView → ℕ → List ℕ → List Entry → List Entry → Option ℕ → Type 0
PutEnds version plan last line old new (Some tick) = (e : Entry) × (new ≡ old ++ e ∷ []) × (tick ≡ e.tick) × (Ok (row.Entry e) ≡ row_of version plan last (parts 44 line))
PutEnds version plan last line old new None = new ≡ old

-- the lines of these entries stand first in the text, and then the rest
pub record IsSoFar (version : Version) (plan : PlanView) (text rest : List ℕ) (last : ℕ) (es : List Entry) : Type 0 where
  pub lines : text ≡ entry_lines version es ++ rest
  pub follow : Follow plan 0 es
  pub tick : last ≡ last_tick_from 0 es

-- the lines of these entries stand first in the text, and so many bytes are left then
abbrev pub IsReadUpTo : Version → PlanView → List ℕ → ℕ → ℕ → List Entry → Type 0
IsReadUpTo version plan text until last es = (rest : List ℕ) × (until ≡ length rest) × IsSoFar version plan text rest last es

-- the text begins with the lines of the piece, and so many bytes follow them as it says
abbrev pub BeginsWith : Version → Piece → List ℕ → Type 0
BeginsWith version p text = (rest : List ℕ) × (text ≡ entry_lines version p.entries.items ++ rest) × (length rest ≡ p.until)

-- the lines of the piece stand in the text where as many bytes are left as it says; its last tick is the last one of its entries
pub record IsPieceOf (version : Version) (plan : PlanView) (text : List ℕ) (p : Piece) : Type 0 where
  pub lines : (front back : List ℕ) → text ≡ front ++ back → length back ≡ p.from → BeginsWith version p back
  pub follow : Follow plan 0 p.entries.items
  pub last : p.last ≡ last_tick_from 0 p.entries.items

-- the entries of a piece are read
pub record IsSkipped (old : ReaderView) (p : Piece) (new : ReaderView) : Type 0 where
  pub left : old.left ≡ before p.entries.items new.left
  pub plan : new.plan ≡ old.plan
  pub version : new.version ≡ old.version
  pub text : old.text ≡ entry_lines old.version p.entries.items ++ new.text
  pub fits : All (Fits old.plan) p.entries.items
  pub ticks : NeverFalls old.last p.entries.items
  pub last : new.last ≡ last_tick_from old.last p.entries.items
  pub some : 0 < length p.entries.items
  pub fewer : new.bytes + length p.entries.items ≤ old.bytes
  pub goes_on : (more : List ℕ) → left_of old (old.text ++ more) ≡ before p.entries.items (left_of new (new.text ++ more))

-- the entries of a piece are read where it comes next; else nothing changes
abbrev pub SkipEnds : ReaderView → Piece → Bool → ReaderView → Type 0
SkipEnds old p true new = IsSkipped old p new
SkipEnds old p false new = new ≡ old

-- a text of which some entries are handed out
pub record AheadView : Type 0 where
  pub plan : PlanView
  -- the tick of the last entry that is handed out, 0 before the first
  pub last : ℕ
  -- the entries that are left to hand out, or the first fault
  pub left : Result (List Entry) ReadError
  -- no more entries than this are left
  pub most : ℕ

-- a text of which a reader has read the front, and this is the rest
pub record IsBehind (r : ReaderView) (rest : List ℕ) (ahead : AheadView) : Type 0 where
  pub plan : ahead.plan ≡ r.plan
  pub last : ahead.last ≡ r.last
  pub left : ahead.left ≡ left_of r rest

-- the entries of some lists, one list after another
abbrev pub entries_of : List (Vec Entry Global) → List Entry
entries_of lists = flat_map (λ es. es.items) lists

-- some entries are handed out: the first of those that were left
pub record IsNextBatch (old : AheadView) (es : List Entry) (new : AheadView) : Type 0 where
  pub left : old.left ≡ before es new.left
  pub plan : new.plan ≡ old.plan
  pub fits : All (Fits old.plan) es
  pub ticks : NeverFalls old.last es
  pub last : new.last ≡ last_tick_from old.last es
  pub fewer : new.most < old.most

-- the next entries; none where all are handed out; or the fault that stands there
abbrev pub BatchEnds : AheadView → Result (Option (Vec (Vec Entry Global) Global)) ReadError → AheadView → Type 0
BatchEnds old (Ok (Some batch)) new = IsNextBatch old (entries_of batch.items) new
BatchEnds old (Ok None) new = (old.left ≡ Ok []) × (new.plan ≡ old.plan)
BatchEnds old (Err f) new = Fails f old.left × (new.plan ≡ old.plan)

-- some entries are read; or there are none, and nothing changes
pub record IsFilled (old : ReaderView) (es : List Entry) (new : ReaderView) : Type 0 where
  pub left : old.left ≡ before es new.left
  pub plan : new.plan ≡ old.plan
  pub fits : All (Fits old.plan) es
  pub ticks : NeverFalls old.last es
  pub last : new.last ≡ last_tick_from old.last es
  pub some : 0 < length es
  pub fewer : new.bytes + length es ≤ old.bytes
  pub goes_on : (more : List ℕ) → left_of old (old.text ++ more) ≡ before es (left_of new (new.text ++ more))

abbrev pub FillEnds : ReaderView → Option (Vec Entry Global) → ReaderView → Type 0
FillEnds old (Some es) new = IsFilled old es.items new
FillEnds old None new = new ≡ old

-- the entries of some lists are read, none of which is empty
pub record AreNextLists (old : ReaderView) (lists : List (Vec Entry Global)) (new : ReaderView) : Type 0 where
  pub left : old.left ≡ before (entries_of lists) new.left
  pub plan : new.plan ≡ old.plan
  pub fits : All (Fits old.plan) (entries_of lists)
  pub ticks : NeverFalls old.last (entries_of lists)
  pub last : new.last ≡ last_tick_from old.last (entries_of lists)
  pub fewer : new.bytes + length lists ≤ old.bytes
  pub goes_on : (more : List ℕ) → left_of old (old.text ++ more) ≡ before (entries_of lists) (left_of new (new.text ++ more))

-- how the reading of a text begins
pub record IsAheadBegun (version : Version) (text : List ℕ) (r : AheadView) : Type 0 where
  pub read : read_of version text ≡ with_entries r.plan r.left
  pub last : r.last ≡ 0
  pub plan : IsPlan r.plan
  pub head : HasHead version r.plan

abbrev pub AheadBegins : Version → List ℕ → Result AheadView ReadError → Type 0
AheadBegins version text (Ok r) = IsAheadBegun version text r
AheadBegins version text (Err f) = Fails f (read_of version text)
