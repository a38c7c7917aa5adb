-- Lines in a small form: those with a set of meters or a word name its place in a list of extras.
use Rattle.std.specs.Prelude.{◌≡◌, ℕ, ◌<◌, List, [], length, All, map, Option, Some, None}
use Rattle.group_plan.specs.declared.Kind.TheVariants.{Reading, Announcement, Answer}
use Rattle.group_plan.specs.declared.Tag.{Tag}
use Rattle.round_machine.specs.declared.Closing.{Closing}
use Rattle.round_machine.specs.declared.Closing.TheVariants as closing
use Rattle.round_machine.specs.declared.Ending.{Ending}
use Rattle.round_machine.specs.declared.Ending.TheVariants as ending
use Rattle.event_schedule.specs.declared.Line.{Line}
use Rattle.event_schedule.specs.declared.Line.TheVariants.{Send, Take, Close, End}
use Rattle.event_schedule.specs.Transcripts.{IsLine}
use Rattle.transcript_log.specs.Extras.{extra_at}
use Rattle.transcript_log.specs.declared.extras.Extra.{Extra}
use Rattle.transcript_log.specs.declared.small.SmallLine.{SmallLine}
use Rattle.transcript_log.specs.declared.small.SmallLine.TheVariants as small

-- ---- what a small line stands for

-- a Send of a frame under its tag, with the set and the word of an extra
abbrev pub sent : Tag → Extra → Line
sent tag extra = Send tag (Some (record { tag = tag; missing = extra.set; word = extra.word }))

-- the line that a small one stands for
abbrev pub line_in : List Extra → SmallLine → Line
line_in extras (small.SentReading m g r at) = sent (record { group = g; round = r; meter = m; kind = Reading }) (extra_at extras at)
line_in extras (small.SentAnnouncement m g r at) = sent (record { group = g; round = r; meter = m; kind = Announcement }) (extra_at extras at)
line_in extras (small.SentAnswer m g r at) = sent (record { group = g; round = r; meter = m; kind = Answer }) (extra_at extras at)
line_in extras (small.NotSent tag) = Send tag None
line_in extras (small.Took verdict tag) = Take tag verdict
line_in extras (small.Announced g r at) = Close g r (closing.Announced (extra_at extras at).set)
line_in extras (small.ClosedThin g r at) = Close g r (closing.Thin (extra_at extras at).set)
line_in extras (small.ClosedAlready g r) = Close g r closing.Already
line_in extras (small.Total g r at) = End g r (ending.Total (extra_at extras at).word)
line_in extras (small.Lacking g r at) = End g r (ending.Lacking (extra_at extras at).set)
line_in extras (small.EndedThin g r) = End g r ending.Thin
line_in extras (small.EndedAlready g r) = End g r ending.Already
line_in extras (small.NotClosed g r) = End g r ending.NotClosed

-- the place that a small line names is one of n
abbrev pub IsPlaced : ℕ → SmallLine → Type 0
IsPlaced n (small.SentReading m g r at) = at < n
IsPlaced n (small.SentAnnouncement m g r at) = at < n
IsPlaced n (small.SentAnswer m g r at) = at < n
IsPlaced n (small.Announced g r at) = at < n
IsPlaced n (small.ClosedThin g r at) = at < n
IsPlaced n (small.Total g r at) = at < n
IsPlaced n (small.Lacking g r at) = at < n
IsPlaced n _ = Unit {0}

-- the extra that a small line names, where it names one
abbrev pub named_in : List Extra → SmallLine → Option Extra
named_in extras (small.SentReading m g r at) = Some (extra_at extras at)
named_in extras (small.SentAnnouncement m g r at) = Some (extra_at extras at)
named_in extras (small.SentAnswer m g r at) = Some (extra_at extras at)
named_in extras (small.Announced g r at) = Some (extra_at extras at)
named_in extras (small.ClosedThin g r at) = Some (extra_at extras at)
named_in extras (small.Total g r at) = Some (extra_at extras at)
named_in extras (small.Lacking g r at) = Some (extra_at extras at)
named_in extras _ = None

-- ---- how a line is made small

-- the extra of a closing: its set, and 0 as the word
abbrev pub extra_of_closing : Closing → Option Extra
extra_of_closing (closing.Announced set) = Some (record { set = set; word = 0 })
extra_of_closing (closing.Thin set) = Some (record { set = set; word = 0 })
extra_of_closing closing.Already = None

-- the extra of an ending: its total, with no meter in the set, or its set, and 0 as the word
abbrev pub extra_of_ending : Ending → Option Extra
extra_of_ending (ending.Total total) = Some (record { set = []; word = total })
extra_of_ending (ending.Lacking set) = Some (record { set = set; word = 0 })
extra_of_ending _ = None

-- the extra of a line, where it has one
abbrev pub extra_of : Line → Option Extra
extra_of (Send tag (Some frame)) = Some (record { set = frame.missing; word = frame.word })
extra_of (Close g r c) = extra_of_closing c
extra_of (End g r e) = extra_of_ending e
extra_of _ = None

-- an extra, where there is one, stands at this place
abbrev pub StandsAt : List Extra → ℕ → Option Extra → Type 0
StandsAt extras at None = Unit {0}
StandsAt extras at (Some extra) = (at < length extras) × (extra_at extras at ≡ extra)

-- a small line stands for this one
abbrev pub IsKept : List Extra → Line → SmallLine → Type 0
IsKept extras line kept = IsPlaced (length extras) kept × (line_in extras kept ≡ line)

-- each line names one of the extras, and all are lines by the types of their parts
pub record AreKept (extras : List Extra) (lines : List SmallLine) : Type 0 where
  pub placed : All (IsPlaced (length extras)) lines
  pub sound : All IsLine (map (line_in extras) lines)
