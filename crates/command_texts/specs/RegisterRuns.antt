-- What `registers` makes of the bytes of its two files: a run of register 0, its texts, and the words and totals of all registers.
use Rattle.std.specs.Prelude.{◌-◌, List, ◌≡◌, ℕ, map, Ok, ◌<◌, ◌≤◌, length, true, reverse, All}
use Rattle.link_lanes.specs.Lanes.{Slot, Meaning}
use Rattle.plan_files.specs.PlanFiles.{PlanFileView, plan_of}
use Rattle.plan_files.specs.Registers.{RegistersView, table, tables_of, AreRegisters}
use Rattle.command_texts.specs.Runs.{Values, transcript_in, shape_in, row_in, AreTexts, Texts, AreSound, IsRunOf}
use Rattle.link_lanes.specs.Fits.{hung_by}
use Rattle.event_schedule.specs.Transcript.{transcript}
use Rattle.group_plan.specs.Tables.{reading}
use Rattle.register_words.specs.declared.row.SideRow.{SideRow}
use Rattle.register_words.specs.Sides.{rows_of}
use Rattle.event_schedule.specs.declared.Entry.{Entry}
use Rattle.register_words.specs.Words.{register_streams}
use Rattle.register_words.specs.Worlds.{row_words, sent_words}
use Rattle.event_schedule.specs.Events.{events_of, lines_of}
use Rattle.register_words.specs.SideReports.{side_total, further_totals, words_in, register_report}
use Rattle.event_schedule.specs.Schedule.{is_opened, survivors}
use Rattle.event_schedule.specs.Tables.{plain_sum}
use Rattle.std.specs.List.{range_with_len}
use Rattle.run_rows.specs.Report.{TotalRow}
use Rattle.totals_report.specs.declared.row.RowOutcome.TheVariants.{Total}
use Rattle.totals_report.specs.Reports.{report_row, report_rows}
use Rattle.register_words.specs.SideText.{side_text}
use Rattle.ideal_masks.specs.Isolation.{Isolated}

-- a plan file, the lanes that its rows take from the cupboard, and the readings of each register
pub record RegisterValues : Type 0 where
  pub file : PlanFileView
  pub slots : List Slot
  pub registers : RegistersView

-- those of register 0 alone
abbrev pub first_values : RegisterValues → Values
first_values v = record { file = v.file; slots = v.slots; readings = record { plan = v.registers.plan; table = table v.registers 0 } }

-- they are those of these bytes, so many registers and this cupboard
pub record AreRegisterValues (cupboard : List Meaning) (count : ℕ) (plan_bytes readings_bytes : List ℕ) (v : RegisterValues) : Type 0 where
  pub plan : plan_of plan_bytes ≡ Ok v.file
  pub lanes : hung_by cupboard v.file.lanes ≡ Ok v.slots
  pub same_plan : v.registers.plan ≡ v.file.plan
  pub tables : tables_of v.file.plan count readings_bytes ≡ Ok (map (λ t. record { plan = v.file.plan; table = t }) v.registers.tables)

-- the bytes have values, for which the cupboard has the lanes
abbrev pub HasRegisterValues : List Meaning → ℕ → (plan_bytes readings_bytes : List ℕ) → Type 0
HasRegisterValues cupboard count p r = (v : RegisterValues) × AreRegisterValues cupboard count p r v

-- the transcript, the words, the report and the summary
pub record RegisterTexts : Type 0 where
  pub transcript : List ℕ
  pub words : List ℕ
  pub report : List ℕ
  pub summary : List ℕ

-- the side words of the entries: a row for each Send of a reading or an answer that has a frame
abbrev pub side_rows_in : RegisterValues → List Entry → List SideRow
side_rows_in v entries = rows_of v.registers v.file.keys (transcript_in (first_values v) entries)

-- the transcript and the side words are the register world: the words of each further register are those of its own transcript
abbrev pub IsWorld : RegisterValues → List Entry → Type 0
IsWorld v entries =
    (k : ℕ) → 1 ≤ k → k < length v.registers.tables
    → row_words k (side_rows_in v entries) ≡ sent_words (transcript v.file.plan.groups (reading (table v.registers k)) (register_streams k v.file.keys) (events_of entries))

-- the total of each further register of an opened round is the plain sum of its survivors' readings
abbrev pub HasPlainSums : RegisterValues → List Entry → Type 0
HasPlainSums v entries =
    (k g r : ℕ) → 1 ≤ k → k < length v.registers.tables → is_opened (shape_in (first_values v)) g r (reverse (events_of entries)) ≡ true
    → side_total (lines_of entries) (side_rows_in v entries) g r (survivors (shape_in (first_values v)) g r (reverse (events_of entries))) (k - 1)
    ≡ plain_sum (reading (table v.registers k)) g r (survivors (shape_in (first_values v)) g r (reverse (events_of entries)))

-- the totals of the further registers in a row with a total are the plain sums of its survivors' readings, one for each word that the rows of side words have
abbrev pub HasRowTotals : RegisterValues → List Entry → Type 0
HasRowTotals v entries =
    (g r : ℕ) (survivors : List ℕ) (total : ℕ) → g < length v.file.plan.groups → r < v.file.plan.rounds → row_in (first_values v) entries g r ≡ TotalRow survivors total
    → further_totals v.file.plan (lines_of entries) (side_rows_in v entries) g r (report_row v.file.plan g r (TotalRow survivors total)) (Total total)
    ≡ map (λ k. plain_sum (reading (table v.registers k)) g r survivors) (range_with_len 1 (words_in (side_rows_in v entries)))

-- each row of side words has one for each further register
abbrev pub HasAllWords : RegisterValues → List Entry → Type 0
HasAllWords v entries = All (λ row. row.count ≡ length v.registers.tables - 1) (side_rows_in v entries)

-- the texts of a run: those that `run` makes of register 0, but for the report, which has a total of each register; and the words of the others
pub record AreRegisterTexts (v : RegisterValues) (entries : List Entry) (texts : RegisterTexts) : Type 0 where
  pub first : Texts
  pub told : AreTexts (first_values v) entries first
  pub transcript : texts.transcript ≡ first.transcript
  pub summary : texts.summary ≡ first.summary
  pub words : texts.words ≡ side_text (side_rows_in v entries)
  pub report : texts.report ≡ register_report v.file.plan (lines_of entries) (side_rows_in v entries) (report_rows v.file.plan (row_in (first_values v) entries))
  pub world : IsWorld v entries
  pub counts : HasAllWords v entries
  pub sums : HasPlainSums v entries
  pub totals : HasRowTotals v entries

-- these are the texts of a run of the values of the bytes, in which each register is isolated
pub record RegistersMake (cupboard : List Meaning) (count : ℕ) (plan_bytes readings_bytes : List ℕ) (texts : RegisterTexts) : Type 0 where
  pub values : RegisterValues
  pub entries : List Entry
  pub of_bytes : AreRegisterValues cupboard count plan_bytes readings_bytes values
  pub registers : AreRegisters values.registers
  pub sound : AreSound (first_values values)
  pub run : IsRunOf (first_values values) entries
  pub told : AreRegisterTexts values entries texts
  pub isolated : (k : ℕ) → k < length values.registers.tables → Isolated values.file.plan (table values.registers k) (events_of entries)
