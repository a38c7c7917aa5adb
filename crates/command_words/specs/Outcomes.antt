-- How a command ends: its status and its complaint.
use Rattle.std.specs.Prelude.{ℕ, ◌==◌, ◌||◌, nat_lt, if◌then◌else◌, Bool, List, [], ◌∷◌, ◌++◌, codes, Option, Some, None, ⊤}
use Rattle.std.specs.Fmt.{decimal}
use Rattle.std.specs.List.{flat_map}
use Rattle.hex.specs.Hex.{encode_lower}
use Rattle.plan_files.specs.declared.fault.FileFault.{FileFault}
use Rattle.link_lanes.specs.declared.cupboard.RackError.{RackError}
use Rattle.command_words.specs.declared.outcome.Outcome.{Outcome}
use Rattle.command_words.specs.declared.outcome.Outcome.TheVariants.{Done, NoMemory, BadWords, Unread, Unwritten, BadPlan, BadReadings, BadText, Disagree, OtherRow, BadLane, NoPartner}
use Rattle.command_words.specs.declared.unread.Unread as unreads
use Rattle.command_words.specs.declared.unread.Unread.TheVariants as of_unread
use Rattle.command_words.specs.declared.unwritten.Unwritten as unwrittens
use Rattle.command_words.specs.declared.unwritten.Unwritten.TheVariants as of_unwritten
use Rattle.command_words.specs.declared.text_fault.TextFault.{TextFault}
use Rattle.command_words.specs.declared.text_fault.TextFault.TheVariants as of_text
use Rattle.command_words.specs.declared.disagreement.Disagreement.{Disagreement}
use Rattle.command_words.specs.declared.disagreement.Disagreement.TheVariants as of_disagreement
use Rattle.meter_files.specs.Names.{part_name}
use Rattle.command_words.specs.Causes.{cause_text, rack_cause_name, read_error_name}
use Rattle.transcript_text.specs.Faults.{fault_line}
use Rattle.transcript_text.specs.declared.version.Version.TheVariants.{Two}
use Rattle.transcript_text.specs.Spelling.{entry_text}
use Rattle.transcript_text.specs.Writing.{IsWritable}
use Rattle.totals_report.specs.declared.row.ReportRow.{ReportRow}
use Rattle.totals_report.specs.Texts.{row_line}

abbrev pub status_of : Outcome → ℕ
status_of Done = 0
status_of NoMemory = 1
status_of BadWords = 2
status_of (Unread unread) = 3
status_of (Unwritten unwritten) = 4
status_of (BadPlan name fault) = 5
status_of (BadReadings name fault) = 6
status_of (BadText name fault) = 7
status_of (Disagree disagreement) = 8
status_of (OtherRow at from_frames reported) = 9
status_of (BadLane fault) = 10
status_of (NoPartner group round meter) = 11

-- a byte that a terminal may obey: it is below 0x20, or 0x7f
abbrev pub is_control : ℕ → Bool
is_control c = nat_lt c 0x20 || (c == 0x7f)

-- a byte of a name as a complaint shows it: `\x` and two hexadecimal digits for one that a terminal may obey
abbrev pub shown_byte : ℕ → List ℕ
shown_byte c = if is_control c then codes "\\x" ++ encode_lower (c ∷ []) else c ∷ []

-- a name as a complaint shows it
unfoldable pub shown_name : List ℕ → List ℕ
shown_name name = flat_map shown_byte name

-- the complaint of a file: its name, the row, and the cause
unfoldable pub file_complaint : List ℕ → FileFault → List ℕ
file_complaint name fault =
    codes "meteragg: " ++ (shown_name name ++ (codes " row " ++ (decimal fault.row ++ (codes ": " ++ (cause_text fault.cause ++ codes "\n")))))

-- the complaint of a line of a file
unfoldable pub line_complaint : List ℕ → ℕ → List ℕ → List ℕ
line_complaint name line cause =
    codes "meteragg: " ++ (shown_name name ++ (codes " line " ++ (decimal line ++ (codes ": " ++ (cause ++ codes "\n")))))

-- a row of a report, as its line, or `nothing` for a row that is not there
unfoldable pub row_or_nothing : Option ReportRow → List ℕ
row_or_nothing None = codes "nothing"
row_or_nothing (Some row) = row_line row

-- the complaint of a row that the frames don't give
unfoldable pub row_complaint : ℕ → Option ReportRow → Option ReportRow → List ℕ
row_complaint at from_frames reported =
    codes "meteragg: row " ++ (decimal at ++ codes ": from frames ") ++ row_or_nothing from_frames ++ codes ", reported " ++ row_or_nothing reported ++ codes "\n"

-- the complaint of what can't be read
unfoldable pub unread_complaint : unreads.Unread → List ℕ
unread_complaint (of_unread.File name) = codes "meteragg: cannot read " ++ (shown_name name.now ++ codes "\n")
unread_complaint (of_unread.TooLong name) = codes "meteragg: " ++ (shown_name name.now ++ codes " is longer than 268435456 bytes\n")
unread_complaint of_unread.Input = codes "meteragg: cannot read input\n"

-- the complaint of what can't be written
unfoldable pub unwritten_complaint : unwrittens.Unwritten → List ℕ
unwritten_complaint (of_unwritten.File name) = codes "meteragg: cannot write " ++ (shown_name name.now ++ codes "\n")
unwritten_complaint (of_unwritten.Part prefix meter file) = codes "meteragg: cannot write " ++ (shown_name (part_name prefix.now meter file) ++ codes "\n")
unwritten_complaint of_unwritten.Output = codes "meteragg: cannot print\n"

-- the complaint of a text of this name
unfoldable pub text_complaint : List ℕ → TextFault → List ℕ
text_complaint name (of_text.Transcript fault) = line_complaint name (fault_line fault) (read_error_name fault)
text_complaint name (of_text.Report line) = line_complaint name line (codes "Line")
text_complaint name (of_text.JournalHead line) = line_complaint name line (codes "Head")
text_complaint name (of_text.JournalLine line) = line_complaint name line (codes "Line")
text_complaint name (of_text.Impossible line) = line_complaint name line (codes "impossible")
text_complaint name (of_text.NotInTime line) = line_complaint name line (codes "not in time")
text_complaint name (of_text.NotThisRun line) = line_complaint name line (codes "not this run")
text_complaint name of_text.OtherPlan = codes "meteragg: " ++ (shown_name name ++ codes ": other plan\n")
text_complaint name (of_text.OtherLine line expected) = line_complaint name line (codes "expected " ++ entry_text Two expected)

-- the complaint of two tables of readings
unfoldable pub disagreement_complaint : Disagreement → List ℕ
disagreement_complaint (of_disagreement.Presence group round meter) =
    codes "meteragg: presence " ++ (decimal group ++ (codes " " ++ (decimal round ++ (codes " " ++ (decimal meter ++ codes "\n")))))
disagreement_complaint (of_disagreement.Known group round meter) =
    codes "meteragg: known " ++ (decimal group ++ (codes " " ++ (decimal round ++ (codes " " ++ (decimal meter ++ codes "\n")))))
disagreement_complaint (of_disagreement.Total group round first second) =
    codes "meteragg: total " ++ (decimal group ++ (codes " " ++ (decimal round ++ (codes " " ++ (decimal first ++ (codes " " ++ (decimal second ++ codes "\n")))))))
disagreement_complaint (of_disagreement.Component group round least first second) =
    codes "meteragg: component " ++ (decimal group ++ (codes " " ++ (decimal round ++ (codes " " ++ (decimal least ++ (codes " " ++ (decimal first ++ (codes " " ++ (decimal second ++ codes "\n")))))))))

-- the complaint of a lane row that gets no lane
unfoldable pub lane_complaint : RackError → List ℕ
lane_complaint fault = codes "meteragg: lane row " ++ (decimal fault.row ++ (codes ": " ++ (rack_cause_name fault.cause ++ codes "\n")))

-- the complaint of a reading without a partner
unfoldable pub partner_complaint : ℕ → ℕ → ℕ → List ℕ
partner_complaint group round meter = codes "meteragg: alone " ++ (decimal group ++ (codes " " ++ (decimal round ++ (codes " " ++ (decimal meter ++ codes "\n")))))

-- the text of the complaint, none where the command was done
unfoldable pub complaint_of : Outcome → List ℕ
complaint_of Done = []
complaint_of NoMemory = codes "meteragg: no memory\n"
complaint_of BadWords = codes "meteragg: bad words\n"
complaint_of (Unread unread) = unread_complaint unread
complaint_of (Unwritten unwritten) = unwritten_complaint unwritten
complaint_of (BadPlan name fault) = file_complaint name.now fault
complaint_of (BadReadings name fault) = file_complaint name.now fault
complaint_of (BadText name fault) = text_complaint name.now fault
complaint_of (Disagree disagreement) = disagreement_complaint disagreement
complaint_of (OtherRow at from_frames reported) = row_complaint at from_frames reported
complaint_of (BadLane fault) = lane_complaint fault
complaint_of (NoPartner group round meter) = partner_complaint group round meter

-- an expected line has a text
abbrev pub HasText : TextFault → Type 0
HasText (of_text.OtherLine line expected) = IsWritable expected.line
HasText _ = ⊤

-- what a complaint tells has a text
abbrev pub HasComplaint : Outcome → Type 0
HasComplaint (BadText name fault) = HasText fault
HasComplaint _ = ⊤

-- the ends that come only of a fault of the desk, or of the wire
abbrev pub IsFault : Outcome → Type 0
IsFault (Unread (of_unread.TooLong name)) = ⊥
IsFault (Unread unread) = ⊤
IsFault (Unwritten unwritten) = ⊤
IsFault _ = ⊥
