-- The text of a transcript: lines of fields, joined by commas, each with its newline.
use Rattle.std.specs.Prelude.{ℕ, ◌+◌, ◌==◌, ◌&&◌, not, Bool, List, [], ◌∷◌, ◌++◌, length, map, filter, codes, decimal, Option, Some, None}
use Rattle.std.specs.List.{join_with_byte, flat_map, range_with_len}
use Rattle.hex.specs.Hex.{encode_lower}
use Rattle.group_plan.specs.declared.tag.Kind.{Kind}
use Rattle.group_plan.specs.declared.tag.Kind.TheVariants.{Reading, Announcement, Answer}
use Rattle.group_plan.specs.declared.tag.Tag.{Tag}
use Rattle.group_plan.specs.declared.plan.GroupPlan.{GroupPlan}
use Rattle.group_plan.specs.declared.plan.members.Span.{Span}
use Rattle.group_plan.specs.Plans.{PlanView, size, span_of}
use Rattle.group_plan.specs.NewPlans.{stated}
use Rattle.meter_frames.specs.declared.Frame.{Frame}
use Rattle.meter_frames.specs.Frames.{spelling}
use Rattle.meter_frames.specs.OldFrames.{old_spelling}
use Rattle.round_machine.specs.declared.Verdict.{Verdict}
use Rattle.round_machine.specs.declared.Verdict.TheVariants.{Fresh, Again, Late, Void}
use Rattle.round_machine.specs.declared.Closing.{Closing}
use Rattle.round_machine.specs.declared.Closing.TheVariants as closing
use Rattle.round_machine.specs.declared.Ending.{Ending}
use Rattle.round_machine.specs.declared.Ending.TheVariants as ending
use Rattle.event_schedule.specs.declared.Line.{Line}
use Rattle.event_schedule.specs.declared.Line.TheVariants.{Send, Take, Close, End}
use Rattle.event_schedule.specs.declared.Entry.{Entry}
use Rattle.field_texts.specs.Sets.{numbers_text}
use Rattle.event_schedule.specs.Transcripts.{TranscriptView}
use Rattle.transcript_text.specs.declared.version.Version.{Version}
use Rattle.transcript_text.specs.declared.version.Version.TheVariants.{One, Two}

-- ---- parts of a line

-- the letter of a kind
abbrev pub kind_text : Kind → List ℕ
kind_text Reading = codes "r"
kind_text Announcement = codes "m"
kind_text Answer = codes "a"

abbrev pub verdict_text : Verdict → List ℕ
verdict_text Fresh = codes "fresh"
verdict_text Again = codes "again"
verdict_text Late = codes "late"
verdict_text Void = codes "void"

-- the bytes of a frame in a version
abbrev pub frame_bytes : Version → Frame → List ℕ
frame_bytes One frame = old_spelling frame
frame_bytes Two frame = spelling frame

-- fields joined by commas
abbrev pub joined : List (List ℕ) → List ℕ
joined fields = join_with_byte 44 fields

-- ---- the fields of an entry

abbrev pub tag_fields : Tag → List (List ℕ)
tag_fields tag = decimal tag.group ∷ decimal tag.round ∷ kind_text tag.kind ∷ decimal tag.meter ∷ []

-- the fate and the frame of a Send; one without effect has neither
abbrev pub sent_fields : Version → List ℕ → Option Frame → List (List ℕ)
sent_fields version fate (Some frame) = numbers_text fate ∷ encode_lower (frame_bytes version frame) ∷ []
sent_fields version fate None = codes "-" ∷ codes "void" ∷ []

abbrev pub closing_fields : Closing → List (List ℕ)
closing_fields (closing.Announced set) = codes "announced" ∷ numbers_text set ∷ []
closing_fields (closing.Thin set) = codes "thin" ∷ numbers_text set ∷ []
closing_fields closing.Already = codes "already" ∷ codes "-" ∷ []

abbrev pub ending_fields : Ending → List (List ℕ)
ending_fields (ending.Total total) = codes "total" ∷ decimal total ∷ []
ending_fields (ending.Lacking set) = codes "none" ∷ numbers_text set ∷ []
ending_fields ending.Thin = codes "thin" ∷ codes "-" ∷ []
ending_fields ending.Already = codes "already" ∷ codes "-" ∷ []
ending_fields ending.NotClosed = codes "notclosed" ∷ codes "-" ∷ []

abbrev pub line_fields : Version → List ℕ → Line → List (List ℕ)
line_fields version fate (Send tag sent) =
    codes "s" ∷ decimal tag.group ∷ decimal tag.round ∷ kind_text tag.kind ∷ decimal tag.meter ∷ sent_fields version fate sent
line_fields version fate (Take tag verdict) =
    codes "t" ∷ decimal tag.group ∷ decimal tag.round ∷ kind_text tag.kind ∷ decimal tag.meter ∷ verdict_text verdict ∷ []
line_fields version fate (Close g r c) = codes "c" ∷ decimal g ∷ decimal r ∷ closing_fields c
line_fields version fate (End g r e) = codes "e" ∷ decimal g ∷ decimal r ∷ ending_fields e

abbrev pub fields_of : Version → Entry → List (List ℕ)
fields_of version e = decimal e.tick ∷ line_fields version e.fate e.line

-- an entry's line, without its newline
unfoldable pub entry_text : Version → Entry → List ℕ
entry_text version e = joined (fields_of version e)

-- a line with its newline
abbrev pub ended : List ℕ → List ℕ
ended line = line ++ 10 ∷ []

-- the lines of entries, and the last one with their number; count more stand before them
unfoldable pub entries_text : Version → ℕ → List Entry → List ℕ
entries_text version count es = flat_map (λ e. ended (entry_text version e)) es ++ ended (codes "end," ++ decimal (count + length es))

-- ---- the head

abbrev pub title : Version → List ℕ
title One = codes "meteragg transcript 1"
title Two = codes "meteragg transcript 2"

-- whether a span is another than all of the rounds
abbrev pub is_partial : ℕ → Span → Bool
is_partial rounds span = not ((span.from == 0) && (span.until == rounds))

-- the span of a meter
abbrev pub span_at : PlanView → ℕ → ℕ → Span
span_at plan g i = record { group = g; meter = i; from = (span_of plan.groups g i).from; until = (span_of plan.groups g i).until }

-- the spans of the meters of group g, below n, that aren't all of the rounds
abbrev pub spans_below : PlanView → ℕ → ℕ → List Span
spans_below plan g n = filter (is_partial plan.rounds) (map (span_at plan g) (range_with_len 0 n))

-- the spans that aren't all of the rounds, by group and then by meter
unfoldable pub stated_spans : PlanView → List Span
stated_spans plan = flat_map (λ g. spans_below plan g (size plan.groups g)) (range_with_len 0 (length plan.groups))

abbrev pub rounds_fields : ℕ → List (List ℕ)
rounds_fields rounds = codes "rounds" ∷ decimal rounds ∷ []

abbrev pub windows_fields : ℕ → ℕ → List (List ℕ)
windows_fields w1 w2 = codes "windows" ∷ decimal w1 ∷ decimal w2 ∷ []

abbrev pub group_fields : GroupPlan → List (List ℕ)
group_fields g = codes "group" ∷ g.name ∷ decimal g.meters ∷ decimal g.floor ∷ []

abbrev pub member_fields : Span → List (List ℕ)
member_fields span = codes "member" ∷ decimal span.group ∷ decimal span.meter ∷ decimal span.from ∷ decimal span.until ∷ []

-- the lines of groups, and those of spans
abbrev pub groups_text : List GroupPlan → List ℕ
groups_text groups = flat_map (λ g. ended (joined (group_fields g))) groups

abbrev pub members_text : List Span → List ℕ
members_text spans = flat_map (λ span. ended (joined (member_fields span))) spans

-- the lines before the first group
abbrev pub start_text : Version → PlanView → List ℕ
start_text version plan =
    ended (title version) ++ ended (joined (rounds_fields plan.rounds)) ++ ended (joined (windows_fields plan.w1 plan.w2))

-- the lines up to `begin`
unfoldable pub head_text : Version → PlanView → List ℕ
head_text version plan =
    start_text version plan ++ groups_text (map stated plan.groups) ++ members_text (stated_spans plan) ++ ended (codes "begin")

-- ---- the whole

unfoldable pub text_of : Version → TranscriptView → List ℕ
text_of version t = head_text version t.plan ++ entries_text version 0 t.entries

-- the text of a transcript
abbrev pub transcript_text : TranscriptView → List ℕ
transcript_text t = text_of Two t
