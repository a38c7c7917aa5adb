-- A run that goes on: its book, its transcript and its link, stage by stage of a tick.
use Rattle.std.specs.Prelude.{◌≡◌, ℕ, ◌+◌, ◌-◌, ◌*◌, nat_le, nat_lt, Bool, ◌&&◌, List, [], ◌∷◌, ◌++◌, All, count_by, sum_by, if◌then◌else◌}
use Rattle.std.specs.List.{flat_map}
use Rattle.missing_round.specs.Masks.{Masks}
use Rattle.group_plan.specs.Tables.{ReadingsView, reading, presence_of}
use Rattle.group_plan.specs.declared.Tag.{Tag}
use Rattle.lossy_link.specs.Arrivals.{Arrival}
use Rattle.event_schedule.specs.declared.Event.{Event}
use Rattle.event_schedule.specs.declared.Event.TheVariants.{Close, End}
use Rattle.event_schedule.specs.declared.Line.{Line}
use Rattle.event_schedule.specs.declared.Entry.{Entry}
use Rattle.event_schedule.specs.Events.{event_of, lines_of}
use Rattle.event_schedule.specs.Transcript.{Contents, contents_of_tables}
use Rattle.event_schedule.specs.Journal.{HasFramesOf}
use Rattle.run_rows.specs.Ticks.{Clock, clock_of, copies}
use Rattle.event_schedule.specs.Transcripts.{TranscriptView}
pub use Rattle.transcript_log.specs.Drafts.{quiet}
use Rattle.group_book.specs.Books.{BookView}
use Rattle.plan_meters.specs.Came.{same_tag, frames_in, tags_of}
use Rattle.tick_run.specs.OnTheWay.{IsOfSend, AreOnTheWay}
use Rattle.tick_run.specs.Progress.{RunsTo}
use Rattle.plan_meters.specs.TickFrames.{run_shape}

-- all entries stand before this moment; the ticks below `takes`, `closes` and `sends` have theirs; from tick `onward` on copies are on their way
pub record Stage : Type 0 where
  pub moment : ℕ
  pub takes : ℕ
  pub closes : ℕ
  pub sends : ℕ
  pub onward : ℕ

-- tick t begins
abbrev pub starting : ℕ → Stage
starting t = record { moment = 3 * t; takes = t; closes = t; sends = t; onward = t }

-- its copies are off the link
abbrev pub emptied : ℕ → Stage
emptied t = record { moment = 3 * t; takes = t; closes = t; sends = t; onward = t + 1 }

-- its copies are taken
abbrev pub taken : ℕ → Stage
taken t = record { moment = 3 * t + 1; takes = t + 1; closes = t; sends = t; onward = t + 1 }

-- its rounds are closed and ended
abbrev pub closed : ℕ → Stage
closed t = record { moment = 3 * t + 2; takes = t + 1; closes = t + 1; sends = t; onward = t + 1 }

-- its frames are being sent
abbrev pub sending_at : ℕ → Stage
sending_at t = record { moment = 3 * t + 3; takes = t + 1; closes = t + 1; sends = t; onward = t + 1 }

-- what the lines of these readings say under these masks
abbrev pub run_contents : ReadingsView → Masks → Contents
run_contents readings m = contents_of_tables readings.plan.groups (reading readings.table) m

-- the entries are those of a tick run of these groups up to this stage; the book has their lines, with the words of these readings and masks; the link has what is on its way
pub record AreRunning (readings : ReadingsView) (m : Masks) (these : List ℕ) (at : Stage) (book : BookView) (t : TranscriptView) (waiting : List Arrival) : Type 0 where
  pub run : RunsTo (run_shape readings) (clock_of readings.plan) these at.moment at.takes at.closes at.sends t.entries
  pub presence : book.presence ≡ presence_of readings
  pub plan : t.plan ≡ readings.plan
  pub journal : book.journal ≡ lines_of t.entries
  pub frames : HasFramesOf (run_shape readings) (run_contents readings m) [] (lines_of t.entries)
  pub link : AreOnTheWay at.onward t.entries waiting

-- ---- batches

-- these are the tags of the copies that are due at tick t
abbrev pub AreCopiesDue : ℕ → List Entry → List Tag → Type 0
AreCopiesDue t entries tags = (z : Tag) → count_by (same_tag z) tags ≡ sum_by (copies z t) entries

-- these copies came in at tick t, each with the bytes of its frame
pub record HaveCome (t : ℕ) (entries : List Entry) (came : List (List ℕ)) : Type 0 where
  pub due : AreCopiesDue t entries (tags_of (frames_in came))
  pub spelled : All (IsOfSend entries) came

-- no copies were sent for tick t since
abbrev pub KeepCopies : ℕ → List Entry → List Entry → Type 0
KeepCopies t before after = (z : Tag) → sum_by (copies z t) after ≡ sum_by (copies z t) before

-- the added lines have these events, in some order
abbrev pub HaveEvents : List Event → List Line → Type 0
HaveEvents events added = (these : Event → Bool) → count_by (λ line. these (event_of line)) added ≡ count_by these events

-- whether a round is due at tick t, so many ticks after it began
abbrev pub is_due : ℕ → ℕ → ℕ → Bool
is_due rounds window t = nat_le window t && nat_lt (t - window) rounds

-- the Closes and Ends due at tick t in a group, and in these groups
abbrev pub calls_of : Clock → ℕ → ℕ → List Event
calls_of c t g =
    (if is_due c.rounds c.w1 t then Close g (t - c.w1) ∷ [] else [])
    ++ (if is_due c.rounds (c.w1 + c.w2) t then End g (t - (c.w1 + c.w2)) ∷ [] else [])

abbrev pub calls_due : Clock → List ℕ → ℕ → List Event
calls_due c these t = flat_map (calls_of c t) these
