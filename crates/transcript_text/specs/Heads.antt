-- The head of a transcript, read line by line up to the first fault, and the whole.
use Rattle.std.specs.Prelude.{◌≡◌, ℕ, ◌+◌, ◌^◌, ◌==◌, ◌&&◌, ◌||◌, nat_lt, nat_le, Bool, true, false, IsTrue, List, [], ◌∷◌, ◌++◌, length, codes, slice_get, Option, None, Some, is_some, Result, Ok, Err, if◌then◌else◌}
use Rattle.std.specs.Option.{ok_or}
use Rattle.std.specs.List.{list_all}
use Rattle.std.specs.Str.{bytes_eq}
use Rattle.std.specs.Borrow.{Bor}
use Rattle.group_plan.specs.declared.plan.GroupPlan.{GroupPlan}
use Rattle.group_plan.specs.declared.plan.PlanError.{PlanError}
use Rattle.group_plan.specs.declared.plan.PlanError.TheVariants as plan_fault
use Rattle.group_plan.specs.declared.plan.members.Span.{Span}
use Rattle.group_plan.specs.Names.{is_name}
use Rattle.group_plan.specs.Plans.{PlanView}
use Rattle.group_plan.specs.NewPlans.{first_fault, plan_of}
use Rattle.group_plan.specs.Spans.{with_spans}
use Rattle.transcript_text.specs.declared.version.Version.{Version}
use Rattle.transcript_text.specs.declared.version.Version.TheVariants.{One, Two}
use Rattle.transcript_text.specs.declared.head.Start.{Start}
use Rattle.transcript_text.specs.declared.head.HeadRow.{HeadRow}
use Rattle.transcript_text.specs.declared.head.HeadRow.TheVariants as row
use Rattle.transcript_text.specs.declared.head.Head.{Head}
use Rattle.transcript_text.specs.declared.fault.ReadError.{ReadError}
use Rattle.transcript_text.specs.declared.fault.ReadError.TheVariants as fault
use Rattle.field_texts.specs.Parts.{parts}
use Rattle.transcript_text.specs.Parts.{at}
use Rattle.field_texts.specs.Numbers.{number_of, within}
use Rattle.transcript_text.specs.Spelling.{is_partial, title}
use Rattle.event_schedule.specs.Transcripts.{TranscriptView}
use Rattle.transcript_text.specs.Reading.{◌>>=◌, Fails, entries_from}

-- a number of the head
abbrev pub head_number : ℕ → List ℕ → Result ℕ ReadError
head_number n text = ok_or (within 0 (2 ^ 32) (number_of text)) (fault.Head n)

-- ---- the first three lines

unfoldable pub title_of : Version → ℕ → List (List ℕ) → Result (Unit {0}) ReadError
title_of version n fs = if (length fs == 1) && bytes_eq (at fs 0) (title version) then Ok tt else Err (fault.Head n)

unfoldable pub rounds_of : ℕ → List (List ℕ) → Result ℕ ReadError
rounds_of n fs = if (length fs == 2) && bytes_eq (at fs 0) (codes "rounds") then head_number n (at fs 1) else Err (fault.Head n)

abbrev pub two_numbers : ℕ → List (List ℕ) → Result (ℕ × ℕ) ReadError
two_numbers n fs = do
  w1 ← head_number n (at fs 1)
  w2 ← head_number n (at fs 2)
  Ok (w1, w2)

unfoldable pub windows_of : ℕ → List (List ℕ) → Result (ℕ × ℕ) ReadError
windows_of n fs = if (length fs == 3) && bytes_eq (at fs 0) (codes "windows") then two_numbers n fs else Err (fault.Head n)

abbrev pub with_rest : {A : Type 0} → List (List ℕ) → Result A ReadError → Result (A × List (List ℕ)) ReadError
with_rest rest (Ok x) = Ok (x, rest)
with_rest rest (Err f) = Err f

-- what the next line says, and the lines after it; the last part is what has no newline
abbrev pub next_line : {A : Type 0} → ℕ → (List (List ℕ) → Result A ReadError) → List (List ℕ) → Result (A × List (List ℕ)) ReadError
next_line n read [] = Err (fault.Head n)
next_line n read (rest ∷ []) = Err (fault.Head n)
next_line n read (line ∷ next ∷ more) = with_rest (next ∷ more) (read (parts 44 line))

unfoldable pub start_of : Version → List (List ℕ) → Result (Start × List (List ℕ)) ReadError
start_of version lines = do
  top ← next_line 1 (title_of version 1) lines
  rounds ← next_line 2 (rounds_of 2) top.1
  windows ← next_line 3 (windows_of 3) rounds.1
  Ok (record { rounds = rounds.0; w1 = windows.0.0; w2 = windows.0.1 }, windows.1)

-- ---- groups and spans

abbrev pub name_of : List ℕ → Option (List ℕ)
name_of text = if is_name text then Some text else None

abbrev pub group_row : ℕ → List (List ℕ) → Result HeadRow ReadError
group_row n fs = do
  name ← ok_or (name_of (at fs 1)) (fault.Head n)
  meters ← head_number n (at fs 2)
  floor ← head_number n (at fs 3)
  Ok (row.Group (record { name = name; meters = meters; floor = floor }))

abbrev pub meters_or : Option GroupPlan → ℕ
meters_or None = 0
meters_or (Some g) = g.meters

-- how many meters the lines so far state of a group
abbrev pub meters_at : List GroupPlan → ℕ → ℕ
meters_at groups g = meters_or (slice_get groups g)

-- whether a span is of a later group or meter than the last one
abbrev pub comes_after : Option Span → Span → Bool
comes_after None span = true
comes_after (Some last) span = nat_lt last.group span.group || ((last.group == span.group) && nat_lt last.meter span.meter)

-- whether a member line may have this span: its meter and rounds stand in the lines above, it isn't all of the rounds, and it comes after the last one
abbrev pub span_fits : ℕ → List GroupPlan → Option Span → Span → Bool
span_fits rounds groups last span =
    nat_lt span.meter (meters_at groups span.group) && nat_lt span.from span.until && nat_le span.until rounds && is_partial rounds span && comes_after last span

abbrev pub member_row : ℕ → ℕ → List GroupPlan → Option Span → List (List ℕ) → Result HeadRow ReadError
member_row n rounds groups last fs = do
  g ← head_number n (at fs 1)
  i ← head_number n (at fs 2)
  from ← head_number n (at fs 3)
  until ← head_number n (at fs 4)
  let span : Span = record { group = g; meter = i; from = from; until = until } in
      if span_fits rounds groups last span then Ok (row.Member span) else Err (fault.Head n)

abbrev pub is_two : Version → Bool
is_two One = false
is_two Two = true

-- a line after the first three: a group before any span, a span in version 2, or `begin`
unfoldable pub head_row : Version → ℕ → ℕ → List GroupPlan → Option Span → List (List ℕ) → Result HeadRow ReadError
head_row version n rounds groups last fs =
    if (length fs == 1) && bytes_eq (at fs 0) (codes "begin") then Ok row.Begin
    else if (length fs == 4) && bytes_eq (at fs 0) (codes "group") then (if is_some last then Err (fault.Head n) else group_row n fs)
    else if (length fs == 5) && bytes_eq (at fs 0) (codes "member") && is_two version then member_row n rounds groups last fs
    else Err (fault.Head n)

-- version 1 has groups of up to 64 meters
abbrev pub has_version : Version → List GroupPlan → Bool
has_version One groups = list_all (λ g. nat_le g.meters 64) groups
has_version Two groups = true

abbrev pub unless_fault : ℕ → PlanView → Option PlanError → Result PlanView ReadError
unless_fault n plan None = Ok plan
unless_fault n plan (Some e) = Err (fault.Head n)

-- the plan of a head whose line n is `begin`
unfoldable pub plan_at : Version → ℕ → Start → List GroupPlan → List Span → Result PlanView ReadError
plan_at version n start groups spans =
    if has_version version groups
    then unless_fault n (with_spans (plan_of groups start.rounds start.w1 start.w2) spans) (first_fault groups start.rounds start.w1 start.w2)
    else Err (fault.Head n)

-- a plan, the number of the line after `begin`, and the lines from there on
pub record HeadRead : Type 0 where
  pub plan : PlanView
  pub line : ℕ
  pub rest : List (List ℕ)

abbrev pub at_begin : ℕ → List (List ℕ) → Result PlanView ReadError → Result HeadRead ReadError
at_begin n rest (Ok plan) = Ok (record { plan = plan; line = n + 1; rest = rest })
at_begin n rest (Err f) = Err f

-- what follows a line of the head
abbrev pub after_head_row : Version → Start → ℕ → Option Span → List GroupPlan → List Span → List (List ℕ) → (Option Span → List GroupPlan → List Span → Result HeadRead ReadError) → Result HeadRow ReadError → Result HeadRead ReadError
after_head_row version start n last groups spans rest go (Ok (row.Group g)) = go last (groups ++ g ∷ []) spans
after_head_row version start n last groups spans rest go (Ok (row.Member s)) = go (Some s) groups (spans ++ s ∷ [])
after_head_row version start n last groups spans rest go (Ok row.Begin) = at_begin n rest (plan_at version n start groups spans)
after_head_row version start n last groups spans rest go (Err f) = Err f

-- the head from line n on, after these groups and spans
unfoldable pub head_from : Version → Start → ℕ → Option Span → List GroupPlan → List Span → List (List ℕ) → Result HeadRead ReadError
head_from version start n last groups spans [] = Err (fault.Head n)
head_from version start n last groups spans (rest ∷ []) = Err (fault.Head n)
head_from version start n last groups spans (line ∷ next ∷ more) =
    after_head_row version start n last groups spans (next ∷ more) (λ l gs ss. head_from version start (n + 1) l gs ss (next ∷ more))
    (head_row version n start.rounds groups last (parts 44 line))

unfoldable pub head_of : Version → List (List ℕ) → Result HeadRead ReadError
head_of version lines = do
  start ← start_of version lines
  head_from version start.0 4 None [] [] start.1

-- the spans are ones that a head may state, one after the other
abbrev pub AreStated : ℕ → List GroupPlan → Option Span → List Span → Type 0
AreStated rounds groups last [] = Unit {0}
AreStated rounds groups last (s ∷ ss) = IsTrue (span_fits rounds groups last s) × AreStated rounds groups (Some s) ss

-- the last of some spans, or the one before them
abbrev pub last_span : Option Span → List Span → Option Span
last_span last [] = last
last_span last (s ∷ ss) = last_span (Some s) ss

-- ---- the whole

-- the transcript of a text, or its first fault
unfoldable pub read_of : Version → List ℕ → Result TranscriptView ReadError
read_of version bytes = do
  head ← head_of version (parts 10 bytes)
  entries ← entries_from version head.plan head.line 0 0 head.rest
  Ok (record { plan = head.plan; entries = entries })

-- ---- what functions return of this

abbrev pub GivesStart : Result (Start × Bor (List ℕ)) ReadError → Result (Start × List (List ℕ)) ReadError → Type 0
GivesStart (Ok x) read = read ≡ Ok (x.0, parts 10 x.1.now)
GivesStart (Err f) read = read ≡ Err f

abbrev pub GivesHead : Result Head ReadError → Result HeadRead ReadError → Type 0
GivesHead (Ok head) read = read ≡ Ok (record { plan = head.plan; line = head.line; rest = parts 10 head.rest.now })
GivesHead (Err f) read = Fails f read

-- a plan's refusal as the fault of line n
abbrev pub refused : ℕ → PlanError → ReadError
refused n plan_fault.Memory = fault.Memory
refused n _ = fault.Head n
