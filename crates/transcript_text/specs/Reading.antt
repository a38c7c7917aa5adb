-- The lines after the head, read one by one up to the first fault.
use Rattle.std.specs.Prelude.{◌≡◌, ℕ, zero, suc, ◌+◌, ◌^◌, Bool, ◌==◌, ◌&&◌, nat_lt, List, [], ◌∷◌, ◌++◌, length, codes, slice_index, Option, None, Some, is_some, Result, Ok, Err, if◌then◌else◌}
use Rattle.std.specs.Option.{ok_or, option_map}
use Rattle.std.specs.List.{list_all}
use Rattle.std.specs.Str.{bytes_eq}
use Rattle.hex.specs.Hex.{decode_sized, encode_lower}
use Rattle.hex.specs.declared.error.FromHexError.{FromHexError}
use Rattle.group_plan.specs.declared.tag.Kind.{Kind}
use Rattle.group_plan.specs.declared.tag.Kind.TheVariants.{Reading, Announcement, Answer}
use Rattle.group_plan.specs.declared.tag.Tag.{Tag}
use Rattle.group_plan.specs.Plans.{PlanView, size}
use Rattle.meter_frames.specs.declared.Frame.{Frame}
use Rattle.meter_frames.specs.Frames.{first_broken, frame_at, kind_of as kind_of_byte}
use Rattle.meter_frames.specs.OldFrames.{first_old_broken, old_frame_at}
use Rattle.round_machine.specs.declared.Verdict.{Verdict}
use Rattle.round_machine.specs.declared.Verdict.TheVariants.{Fresh, Again, Late, Void}
use Rattle.round_machine.specs.declared.Closing.{Closing}
use Rattle.round_machine.specs.declared.Closing.TheVariants as closing
use Rattle.round_machine.specs.declared.Ending.{Ending}
use Rattle.round_machine.specs.declared.Ending.TheVariants as ending
use Rattle.event_schedule.specs.declared.Line.TheVariants.{Send, Take, Close, End}
use Rattle.event_schedule.specs.declared.Entry.{Entry}
use Rattle.event_schedule.specs.Events.{is_tag}
use Rattle.transcript_text.specs.declared.version.Version.{Version}
use Rattle.transcript_text.specs.declared.version.Version.TheVariants.{One, Two}
use Rattle.transcript_text.specs.declared.fault.BodyLine.{BodyLine}
use Rattle.transcript_text.specs.declared.fault.BodyLine.TheVariants as row
use Rattle.transcript_text.specs.declared.fault.RowFault.{RowFault}
use Rattle.transcript_text.specs.declared.fault.RowFault.TheVariants as row_fault
use Rattle.transcript_text.specs.declared.fault.ReadError.{ReadError}
use Rattle.transcript_text.specs.declared.fault.ReadError.TheVariants as fault
use Rattle.field_texts.specs.Parts.{parts}
use Rattle.link_lanes.specs.Texts.{fate_of}
use Rattle.transcript_text.specs.Parts.{at}
use Rattle.field_texts.specs.Numbers.{number_of, within}
use Rattle.field_texts.specs.Sets.{set_of, with_first}

-- a step after one that went well
infixl 10 ◌>>=◌
abbrev pub ◌>>=◌ : {A B E : Type 0} → Result A E → (A → Result B E) → Result B E
Ok value >>= next = next value
Err fault >>= next = Err fault

-- ---- words and sets

abbrev pub kind_of : List ℕ → Option Kind
kind_of text =
    if bytes_eq text (codes "r") then Some Reading else if bytes_eq text (codes "m") then Some Announcement
    else if bytes_eq text (codes "a") then Some Answer else None

abbrev pub verdict_of : List ℕ → Option Verdict
verdict_of text =
    if bytes_eq text (codes "fresh") then Some Fresh else if bytes_eq text (codes "again") then Some Again
    else if bytes_eq text (codes "late") then Some Late else if bytes_eq text (codes "void") then Some Void else None

-- what stands where nothing is to be said
abbrev pub dash_of : {A : Type 0} → A → List ℕ → Option A
dash_of x text = if bytes_eq text (codes "-") then Some x else None

-- ---- frames

-- how many bytes a frame has
abbrev pub frame_size : Version → ℕ
frame_size One = 28
frame_size Two = 52

-- the bytes, where the text is the one in which they are written
abbrev pub if_written : List ℕ → Result (List ℕ) FromHexError → Option (List ℕ)
if_written text (Ok bytes) = if bytes_eq (encode_lower bytes) text then Some bytes else None
if_written text (Err e) = None

-- this many bytes in lower-case digits
unfoldable pub bytes_of : ℕ → List ℕ → Option (List ℕ)
bytes_of n text = if_written text (decode_sized text n)

-- the frame of which the bytes are the spelling in a version
unfoldable pub frame_of_bytes : Version → List ℕ → Option Frame
frame_of_bytes One bytes =
    if is_some (first_old_broken bytes) then None else option_map (λ kind. old_frame_at kind bytes) (kind_of_byte (slice_index bytes 2))
frame_of_bytes Two bytes =
    if is_some (first_broken bytes) then None else option_map (λ kind. frame_at kind bytes) (kind_of_byte (slice_index bytes 2))

abbrev pub frame_of_some : Version → Option (List ℕ) → Option Frame
frame_of_some version None = None
frame_of_some version (Some bytes) = frame_of_bytes version bytes

abbrev pub frame_of : Version → List ℕ → Option Frame
frame_of version text = frame_of_some version (bytes_of (frame_size version) text)

-- whether each member is below n
abbrev pub is_within : ℕ → List ℕ → Bool
is_within n set = list_all (λ i. nat_lt i n) set

-- a frame with the tag, and with a set within a group of n
abbrev pub fitting : ℕ → Tag → Option Frame → Option (Option Frame)
fitting n tag None = None
fitting n tag (Some frame) =
    if is_tag tag.group tag.round tag.meter tag.kind frame.tag && is_within n frame.missing then Some (Some frame) else None

-- the frame of a Send, or `void` for one without effect, which has no fate
unfoldable pub sent_of : Version → ℕ → Tag → List ℕ → List ℕ → Option (Option Frame)
sent_of version n tag fate text =
    if bytes_eq text (codes "void") then (if length fate == 0 then Some None else None) else fitting n tag (frame_of version text)

-- ---- lines

abbrev pub tick_of : ℕ → List (List ℕ) → Result ℕ RowFault
tick_of last fs = ok_or (within last (2 ^ 32) (number_of (at fs 0))) (row_fault.Field 1)

abbrev pub group_of : PlanView → List (List ℕ) → Result ℕ RowFault
group_of plan fs = ok_or (within 0 (length plan.groups) (number_of (at fs 2))) (row_fault.Field 3)

abbrev pub round_of : PlanView → List (List ℕ) → Result ℕ RowFault
round_of plan fs = ok_or (within 0 plan.rounds (number_of (at fs 3))) (row_fault.Field 4)

unfoldable pub tag_of : PlanView → List (List ℕ) → Result Tag RowFault
tag_of plan fs = do
  g ← group_of plan fs
  r ← round_of plan fs
  k ← ok_or (kind_of (at fs 4)) (row_fault.Field 5)
  i ← ok_or (within 0 (size plan.groups g) (number_of (at fs 5))) (row_fault.Field 6)
  Ok (record { group = g; round = r; meter = i; kind = k })

unfoldable pub send_of : Version → PlanView → ℕ → List (List ℕ) → Result Entry RowFault
send_of version plan last fs = do
  tick ← tick_of last fs
  tag ← tag_of plan fs
  fate ← ok_or (fate_of (at fs 6)) (row_fault.Field 7)
  sent ← ok_or (sent_of version (size plan.groups tag.group) tag fate (at fs 7)) (row_fault.Field 8)
  Ok (record { tick = tick; fate = fate; line = Send tag sent })

unfoldable pub take_of : PlanView → ℕ → List (List ℕ) → Result Entry RowFault
take_of plan last fs = do
  tick ← tick_of last fs
  tag ← tag_of plan fs
  verdict ← ok_or (verdict_of (at fs 6)) (row_fault.Field 7)
  Ok (record { tick = tick; fate = []; line = Take tag verdict })

unfoldable pub closing_of : ℕ → List ℕ → List ℕ → Result Closing RowFault
closing_of n word text =
    if bytes_eq word (codes "announced") then ok_or (option_map closing.Announced (set_of n text)) (row_fault.Field 6)
    else if bytes_eq word (codes "thin") then ok_or (option_map closing.Thin (set_of n text)) (row_fault.Field 6)
    else if bytes_eq word (codes "already") then ok_or (dash_of closing.Already text) (row_fault.Field 6)
    else Err (row_fault.Field 5)

unfoldable pub close_of : PlanView → ℕ → List (List ℕ) → Result Entry RowFault
close_of plan last fs = do
  tick ← tick_of last fs
  g ← group_of plan fs
  r ← round_of plan fs
  closing ← closing_of (size plan.groups g) (at fs 4) (at fs 5)
  Ok (record { tick = tick; fate = []; line = Close g r closing })

unfoldable pub ending_of : ℕ → List ℕ → List ℕ → Result Ending RowFault
ending_of n word text =
    if bytes_eq word (codes "total") then ok_or (option_map ending.Total (number_of text)) (row_fault.Field 6)
    else if bytes_eq word (codes "none") then ok_or (option_map ending.Lacking (set_of n text)) (row_fault.Field 6)
    else if bytes_eq word (codes "thin") then ok_or (dash_of ending.Thin text) (row_fault.Field 6)
    else if bytes_eq word (codes "already") then ok_or (dash_of ending.Already text) (row_fault.Field 6)
    else if bytes_eq word (codes "notclosed") then ok_or (dash_of ending.NotClosed text) (row_fault.Field 6)
    else Err (row_fault.Field 5)

unfoldable pub end_of : PlanView → ℕ → List (List ℕ) → Result Entry RowFault
end_of plan last fs = do
  tick ← tick_of last fs
  g ← group_of plan fs
  r ← round_of plan fs
  ending ← ending_of (size plan.groups g) (at fs 4) (at fs 5)
  Ok (record { tick = tick; fate = []; line = End g r ending })

abbrev pub as_entry : Result Entry RowFault → Result BodyLine RowFault
as_entry (Ok e) = Ok (row.Entry e)
as_entry (Err f) = Err f

-- a line by its fields, after an entry with the tick last
unfoldable pub row_of : Version → PlanView → ℕ → List (List ℕ) → Result BodyLine RowFault
row_of version plan last fs =
    if (length fs == 2) && bytes_eq (at fs 0) (codes "end") then ok_or (option_map row.Last (number_of (at fs 1))) (row_fault.Field 2)
    else if (length fs == 8) && bytes_eq (at fs 1) (codes "s") then as_entry (send_of version plan last fs)
    else if (length fs == 7) && bytes_eq (at fs 1) (codes "t") then as_entry (take_of plan last fs)
    else if (length fs == 6) && bytes_eq (at fs 1) (codes "c") then as_entry (close_of plan last fs)
    else if (length fs == 6) && bytes_eq (at fs 1) (codes "e") then as_entry (end_of plan last fs)
    else Err row_fault.Form

-- ---- all lines after the head

-- a line's fault as the text's
abbrev pub in_line : ℕ → RowFault → ReadError
in_line n row_fault.Form = fault.Line n
in_line n (row_fault.Field k) = fault.Field n k

abbrev pub before : List Entry → Result (List Entry) ReadError → Result (List Entry) ReadError
before front (Ok more) = Ok (front ++ more)
before front (Err f) = Err f

-- nothing is left after the `end` line
abbrev pub is_done : List (List ℕ) → Option (List Entry)
is_done ([] ∷ []) = Some []
is_done _ = None

abbrev pub after_row : ℕ → ℕ → List (List ℕ) → (Entry → Result (List Entry) ReadError) → Result BodyLine RowFault → Result (List Entry) ReadError
after_row n count more rest (Ok (row.Entry e)) = before (e ∷ []) (rest e)
after_row n count more rest (Ok (row.Last k)) = if k == count then ok_or (is_done more) (fault.After (n + 1)) else Err (fault.Count n)
after_row n count more rest (Err f) = Err (in_line n f)

-- the entries from line n on, after count others, the last with the tick last; the last part is what has no newline
unfoldable pub entries_from : Version → PlanView → ℕ → ℕ → ℕ → List (List ℕ) → Result (List Entry) ReadError
entries_from version plan n last count [] = Err (fault.NoEnd n)
entries_from version plan n last count (rest ∷ []) = Err (fault.NoEnd n)
entries_from version plan n last count (line ∷ next ∷ more) =
    after_row n count (next ∷ more) (λ e. entries_from version plan (n + 1) e.tick (count + 1) (next ∷ more)) (row_of version plan last (parts 44 line))

-- what a function returned is what reading gives, unless memory ran out
abbrev pub Fails : {Y : Type 0} → ReadError → Result Y ReadError → Type 0
Fails fault.Memory read = Unit {0}
Fails f read = read ≡ Err f

abbrev pub Gives : {X Y : Type 0} → (X → Y) → Result X ReadError → Result Y ReadError → Type 0
Gives view (Ok x) read = read ≡ Ok (view x)
Gives view (Err f) read = Fails f read
