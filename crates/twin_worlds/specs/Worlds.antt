-- A table of readings under masks, after the events of a book: what its lines say.
use Rattle.std.specs.Prelude.{◌≡◌, IsTrue, List, length, map, All, Some}
use Rattle.group_plan.specs.Plans.{PlanView}
use Rattle.group_plan.specs.Tables.{reading, presence_of}
use Rattle.round_machine.specs.declared.Ending.TheVariants.{Total}
use Rattle.event_schedule.specs.declared.Event.{Event}
use Rattle.event_schedule.specs.declared.Line.{Line}
use Rattle.event_schedule.specs.declared.Line.TheVariants.{Send, End}
use Rattle.event_schedule.specs.Tables.{Masks}
use Rattle.event_schedule.specs.Schedule.{Shape, survivors}
use Rattle.event_schedule.specs.Transcript.{Contents, contents_of_tables, frame}
use Rattle.event_schedule.specs.Transcripts.{TranscriptView}
use Rattle.group_book.specs.Books.{BookView, shape_of, past, knows, has_round}
use Rattle.plan_meters.specs.declared.known.Known.{Known}
use Rattle.plan_meters.specs.Hidden.{IsOfOnePlan}
use Rattle.ideal_masks.specs.Replaying.{no_contents}
use Rattle.twin_worlds.specs.declared.world.World.{World}
use Rattle.twin_worlds.specs.Answers.{AreAllAnswers}
use Rattle.twin_worlds.specs.Twins.{lines_under}

-- what lines say of the readings under these masks
abbrev pub contents_of : {M : Type 0} → (M → Masks) → Known M → Contents
contents_of table_of known = contents_of_tables known.readings.now.plan.groups (reading known.readings.now.table) (table_of known.masks.now)

-- the masks and the hidden words are of the readings, the book is of their presence, and the answers are those after its events
pub record IsWorldOf {M : Type 0} (plan_of : M → PlanView) (table_of : M → Masks) (world : World M) : Type 0 where
  pub known : IsOfOnePlan plan_of table_of world.known
  pub presence : world.book.now.presence ≡ presence_of world.known.readings.now
  pub groups : world.answers.groups ≡ length world.book.now.presence.plan.groups
  pub answers : AreAllAnswers (table_of world.known.masks.now) world.book.now world.answers.rows.items

-- ---- lines without words

-- a line of the book: its place is of the plan, and its frame is that of its tag with the word 0
abbrev pub IsLineOf : BookView → Line → Type 0
IsLineOf b (Send tag (Some f)) = IsTrue (knows b tag) × (frame (shape_of b) no_contents tag (past b) ≡ Some f)
IsLineOf b (End g r ending) = IsTrue (has_round b g r)
IsLineOf b _ = Unit {0}

-- the line with what these contents say of it after all events
abbrev pub filled : Shape → Contents → List Event → Line → Line
filled s c past (Send tag (Some f)) = Send tag (frame s c tag past)
filled s c past (End g r (Total total)) = End g r (Total (c.total g r (survivors s g r past)))
filled s c past line = line

-- the lines of the world's book, filled so, are those that the readings give for the events of t
pub record Tells {M : Type 0} (plan_of : M → PlanView) (table_of : M → Masks) (world : World M) (t : TranscriptView) : Type 0 where
  pub world_of : IsWorldOf plan_of table_of world
  pub lines : All (IsLineOf world.book.now) world.book.now.journal
  pub are : map (filled (shape_of world.book.now) (contents_of table_of world.known) (past world.book.now)) world.book.now.journal
      ≡ lines_under world.known.readings.now (table_of world.known.masks.now) t
