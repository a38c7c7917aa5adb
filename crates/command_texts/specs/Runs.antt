-- What `run` and `ring` make of the bytes of their two files: the values of the files, a run by ticks, and three texts.
use Rattle.std.specs.Prelude.{List, ◌≡◌, ℕ, Ok, Err, ◌<◌, length, reverse, ◌++◌, codes}
use Rattle.group_plan.specs.Tables.{ReadingsView, reading, IsReadingTable}
use Rattle.link_lanes.specs.Lanes.{Slot, Meaning}
use Rattle.plan_files.specs.PlanFiles.{PlanFileView, plan_of}
use Rattle.group_plan.specs.Plans.{PlanView, IsWithinLimits}
use Rattle.event_schedule.specs.Tables.{Readings, Masks, plain_sum}
use Rattle.event_schedule.specs.Schedule.{Shape}
use Rattle.event_schedule.specs.Transcript.{shape_of_readings, transcript}
use Rattle.run_rows.specs.Ticks.{Clock, clock_of, posts_of, HaveDelays, IsTickRun}
use Rattle.mask_stream.specs.KeyStreams.{streams}
use Rattle.pair_keys.specs.Keys.{Keys}
use Rattle.sparse_masks.specs.Neighbours.{ring}
use Rattle.command_texts.specs.declared.sharing.Sharing.{Sharing}
use Rattle.command_texts.specs.declared.sharing.Sharing.TheVariants.{WithEach, WithNeighbours}
use Rattle.ideal_masks.specs.ListTables.{MaskTable, mask_table_of, masks_in, IsMaskTable}
use Rattle.link_lanes.specs.Fits.{hung_by}
use Rattle.plan_files.specs.Readings.{readings_of}
use Rattle.link_lanes.specs.declared.cupboard.RackError.{RackError}
use Rattle.run_rows.specs.Report.{row, Row, fate_at, outcome_row}
use Rattle.plan_files.specs.declared.fault.FileFault.{FileFault}
use Rattle.event_schedule.specs.declared.Entry.{Entry}
use Rattle.event_schedule.specs.declared.Event.{Event}
use Rattle.ideal_masks.specs.Isolation.{Isolated}
use Rattle.command_texts.specs.RingIsolation.{RingIsolated}
use Rattle.event_schedule.specs.Events.{events_of, lines_of}
use Rattle.run_rows.specs.Posts.{posts_by_lanes}
use Rattle.event_schedule.specs.Transcripts.{TranscriptView, IsTranscript}
use Rattle.run_rows.specs.Summary.{summary_of_posts}
use Rattle.totals_report.specs.Reports.{summary_text, report_rows, report_text}
use Rattle.std.specs.Fmt.{decimal}
use Rattle.sparse_masks.specs.Opened.{IsLeastOpened}
use Rattle.transcript_text.specs.declared.version.Version.TheVariants.{Two}
use Rattle.transcript_text.specs.Spelling.{transcript_text}
use Rattle.transcript_text.specs.Heads.{read_of}
use Rattle.totals_report.specs.Reading.{rows_of_text}

-- ---- the values of the files

-- a plan file, the lanes that its rows take from the cupboard, and the readings
pub record Values : Type 0 where
  pub file : PlanFileView
  pub slots : List Slot
  pub readings : ReadingsView

-- the plan
abbrev pub plan_in : Values → PlanView
plan_in v = v.file.plan

-- x, the readings
abbrev pub readings_in : Values → Readings
readings_in v = reading v.readings.table

-- who has a reading
abbrev pub shape_in : Values → Shape
shape_in v = shape_of_readings (plan_in v).groups (readings_in v)

-- the rounds and the windows
abbrev pub clock_in : Values → Clock
clock_in v = clock_of (plan_in v)

-- the mask words that meters share: the stream words of the keys, or those of neighbours alone
abbrev pub words_by : Sharing → PlanView → Keys → Masks
words_by WithEach plan keys = streams keys
words_by (WithNeighbours w) plan keys = ring w plan.groups (streams keys)

-- these words, as a finite mask table of the plan
abbrev pub words_in : Sharing → Values → MaskTable
words_in sharing v = mask_table_of (plan_in v) (words_by sharing (plan_in v) v.file.keys)

-- they are those of these bytes and this cupboard
pub record AreValues (cupboard : List Meaning) (plan_bytes readings_bytes : List ℕ) (v : Values) : Type 0 where
  pub plan : plan_of plan_bytes ≡ Ok v.file
  pub lanes : hung_by cupboard v.file.lanes ≡ Ok v.slots
  pub readings : readings_of v.file.plan readings_bytes ≡ Ok v.readings

-- the bytes have values, for which the cupboard has the lanes
abbrev pub HasValues : List Meaning → (plan_bytes readings_bytes : List ℕ) → Type 0
HasValues cupboard plan_bytes readings_bytes = (v : Values) × AreValues cupboard plan_bytes readings_bytes v

-- the plan file has a value, and a lane row of it is refused so
abbrev pub RefusesLane : List Meaning → List ℕ → RackError → Type 0
RefusesLane cupboard plan_bytes fault = (file : PlanFileView) × (plan_of plan_bytes ≡ Ok file) × (hung_by cupboard file.lanes ≡ Err fault)

-- the plan file has a value and its lane rows get their lanes, and the readings file has this fault
abbrev pub RefusesReadings : List Meaning → List ℕ → List ℕ → FileFault → Type 0
RefusesReadings cupboard plan_bytes readings_bytes fault =
    (file : PlanFileView) × (slots : List Slot) × (plan_of plan_bytes ≡ Ok file) × (hung_by cupboard file.lanes ≡ Ok slots)
    × (readings_of file.plan readings_bytes ≡ Err fault)

-- what all such values are: a plan within its limits, and readings below 2^40 of members alone
pub record AreSound (v : Values) : Type 0 where
  pub limits : IsWithinLimits (plan_in v)
  pub table : IsReadingTable (plan_in v) v.readings.table

-- ---- the run

-- the row of a round by the fates of the entries
abbrev pub row_in : Values → List Entry → ℕ → ℕ → Row
row_in v entries g r = row (shape_in v) (clock_in v) (fate_at (posts_of entries)) (plain_sum (readings_in v)) g r

-- each table of readings that agrees has the same transcript, under an explicit shift of every mask table
abbrev pub IsIsolatedBy : Sharing → Values → List Event → Type 0
IsIsolatedBy WithEach v events = Isolated (plan_in v) v.readings.table events
IsIsolatedBy (WithNeighbours w) v events = RingIsolated w (plan_in v) v.readings.table events

-- the entries are those of a run of these values, whose meters share mask words so
pub record IsRunBy (sharing : Sharing) (v : Values) (entries : List Entry) : Type 0 where
  -- a run by ticks of the plan, the presence of the readings and the lanes, in which each copy takes a tick or more
  pub ticks : IsTickRun (shape_in v) (clock_in v) v.slots entries
  pub delays : HaveDelays entries
  -- whose lines are the transcript of the readings under the mask words that meters share
  pub lines : lines_of entries ≡ transcript (plan_in v).groups (readings_in v) (words_by sharing (plan_in v) v.file.keys) (events_of entries)
  -- which is also the transcript under the finite table of these words, a mask table of the plan
  pub words : IsMaskTable (plan_in v) (words_in sharing v)
  pub finite : lines_of entries ≡ transcript (plan_in v).groups (readings_in v) (masks_in (words_in sharing v)) (events_of entries)
  -- whose posts and fates are those that the lanes alone give, whatever the workers did
  pub fates : posts_of entries ≡ posts_by_lanes (shape_in v) (clock_in v) v.slots
  -- whose outcomes are the rows by the fates
  pub rows : (g r : ℕ) → g < length (plan_in v).groups → r < (plan_in v).rounds →
      outcome_row (shape_in v) (plain_sum (readings_in v)) g r (reverse (events_of entries)) ≡ row_in v entries g r
  -- and of which no table of readings that agrees has another transcript, under an explicit shift of every mask table
  pub isolated : IsIsolatedBy sharing v (events_of entries)

-- where each two meters of a group share a word
abbrev pub IsRunOf : Values → List Entry → Type 0
IsRunOf = IsRunBy WithEach

-- ---- the texts

-- the transcript, the report and the summary
pub record Texts : Type 0 where
  pub transcript : List ℕ
  pub report : List ℕ
  pub summary : List ℕ

abbrev pub transcript_in : Values → List Entry → TranscriptView
transcript_in v entries = record { plan = plan_in v; entries = entries }

-- the summary of a report by fates
abbrev pub summary_in : Values → List Entry → List ℕ
summary_in v entries = summary_text (summary_of_posts (shape_in v) (clock_in v) (plain_sum (readings_in v)) (posts_of entries))

-- the line of the fewest meters whose sum is open
unfoldable pub least_line : ℕ → List ℕ
least_line least = codes "ring: least=" ++ (decimal least ++ codes "\n")

-- a summary, and where neighbours alone share words the line of the fewest members of an opened component behind it
abbrev pub IsSaidBy : Sharing → Shape → List Event → (summary text : List ℕ) → Type 0
IsSaidBy WithEach s whole summary text = text ≡ summary
IsSaidBy (WithNeighbours w) s whole summary text = (least : ℕ) × IsLeastOpened w s whole least × (text ≡ summary ++ least_line least)

-- the text of the transcript of the plan and the entries, which `read` gives for its bytes, the report by fates, whose rows `read_report`
-- gives for its bytes, and its summary
pub record AreTextsBy (sharing : Sharing) (v : Values) (entries : List Entry) (texts : Texts) : Type 0 where
  pub sound : IsTranscript (transcript_in v entries)
  pub transcript : texts.transcript ≡ transcript_text (transcript_in v entries)
  pub read_back : read_of Two texts.transcript ≡ Ok (transcript_in v entries)
  pub report : texts.report ≡ report_text (plan_in v) (row_in v entries)
  pub rows_back : rows_of_text texts.report ≡ Ok (report_rows (plan_in v) (row_in v entries))
  pub summary : IsSaidBy sharing (shape_in v) (reverse (events_of entries)) (summary_in v entries) texts.summary

abbrev pub AreTexts : Values → List Entry → Texts → Type 0
AreTexts = AreTextsBy WithEach

-- ---- what the bytes come to

-- these are the texts of a run of the values of the bytes, whose meters share mask words so
pub record MakesBy (sharing : Sharing) (cupboard : List Meaning) (plan_bytes readings_bytes : List ℕ) (texts : Texts) : Type 0 where
  pub values : Values
  pub entries : List Entry
  pub of_bytes : AreValues cupboard plan_bytes readings_bytes values
  pub sound : AreSound values
  pub run : IsRunBy sharing values entries
  pub told : AreTextsBy sharing values entries texts

-- where each two meters of a group share a word
abbrev pub Makes : List Meaning → (plan_bytes readings_bytes : List ℕ) → Texts → Type 0
Makes = MakesBy WithEach

-- two summaries of the same files and lanes: they are one; or, with a line of the fewest meters behind each, at most its number is another
abbrev pub IsOneSummary : Sharing → (one other : List ℕ) → Type 0
IsOneSummary WithEach one other = one ≡ other
IsOneSummary (WithNeighbours w) one other = (summary : List ℕ) × (j k : ℕ) × (one ≡ summary ++ least_line j) × (other ≡ summary ++ least_line k)

-- whatever texts a run of these bytes makes, they have this report and this summary, since the files and the lanes alone decide both
pub record IsOnlyBy (sharing : Sharing) (cupboard : List Meaning) (plan_bytes readings_bytes : List ℕ) (texts : Texts) : Type 0 where
  pub report : (others : Texts) → MakesBy sharing cupboard plan_bytes readings_bytes others → others.report ≡ texts.report
  pub summary : (others : Texts) → MakesBy sharing cupboard plan_bytes readings_bytes others → IsOneSummary sharing others.summary texts.summary

-- where each two meters of a group share a word
abbrev pub IsOnly : List Meaning → (plan_bytes readings_bytes : List ℕ) → Texts → Type 0
IsOnly = IsOnlyBy WithEach
