-- Accepted files are done.
use Rattle.std.specs.Prelude.{◌-◌, ◌+◌, Option, slice_get, ◌*◌, Some, None}
use Rattle.std.proofs.Common.{◌≡◌, ℕ, List, sym, ap, ◌∙◌, Ok, refl, inr, [], ◌∷◌, inl, Err, subst, ◌≤◌, length, arith}
use Rattle.desk_outside.specs.Desk.{View, Rose}
use Rattle.desk_outside.specs.Wire.{WireView}
use Rattle.link_lanes.specs.Lanes.{Meaning}
use Rattle.plan_files.specs.PlanFiles.{plan_of}
use Rattle.command_words.specs.Words.{RunNames, RegisterNames, Size, InspectNames, BillNames, HideNames, Command, Run, Ring, Audit, Twin, RingTwin, Pooled, Make, Load, Convert, Public, Parts, Collect, Meter, Help, Version, Bill, Hide, Inspect, Registers, Resume}
use Rattle.command_files.specs.Calls.{IsRead, after_fetches, putting}
use Rattle.commands.specs.Accepted.{RunAccepts, RegistersAccept, AuditAccepts, LoadAccepts, ConvertAccepts, PublicAccepts, InspectAccepts, BillAccepts, HideAccepts, Accepts, AcceptedIsDone}
use Rattle.commands.proofs.CalmLemmas.{read_is, ok_or_err, ok_same, IsCalm, puts_calm, unwritable_calm, unread_calm, two_are_short, one_is_short, three_are_short}
use Rattle.link_lanes.specs.Fits.{hung_by}
use Rattle.link_lanes.specs.declared.cupboard.RackError.{RackError}
use Rattle.command_texts.specs.Runs.{RefusesLane, RefusesReadings}
use Rattle.plan_files.specs.declared.fault.FileFault.{FileFault}
use Rattle.plan_files.specs.Readings.{readings_of}
use Rattle.command_words.specs.declared.outcome.Outcome.{Outcome}
use Rattle.command_words.specs.declared.outcome.Outcome.TheVariants.{NoMemory, BadPlan, BadReadings, BadText, OtherRow, BadLane, NoPartner}
use Rattle.command_words.specs.declared.text_fault.TextFault.TheVariants as of_text
use Rattle.run_commands.specs.RunEnds.{RunRefuses, fetched_by, put_by, RunEndsBy}
use Rattle.file_commands.specs.AuditEnds.{AuditCommandEnds}
use Rattle.run_commands.specs.LoadEnds.{made_plan_text, made_readings_text, MakeEnds, LoadRefuses, put_where, LoadEnds}
use Rattle.file_commands.specs.ConvertEnds.{ConvertRefuses, ConvertEnds}
use Rattle.file_commands.specs.PublicEnds.{PublicEnds}
use Rattle.commands.specs.Ends.{Ends}
use Rattle.command_texts.specs.declared.sharing.Sharing.{Sharing}
use Rattle.command_texts.specs.Refusals.{RefusesTables, RegistersRefuse, PublicRefuses}
use Rattle.plan_files.specs.Registers.{tables_of}
use Rattle.run_commands.specs.RegisterEnds.{RegistersEnds, registers_fetched, registers_put}
use Rattle.transcript_text.specs.declared.version.Version.TheVariants.{Two, One}
use Rattle.event_schedule.specs.Transcripts.{TranscriptView}
use Rattle.totals_report.specs.declared.row.ReportRow.{ReportRow}
use Rattle.totals_report.specs.Reading.{rows_of_text}
use Rattle.command_texts.specs.Audits.{AreAuditTexts, AuditRefuses}
use Rattle.transcript_text.specs.Heads.{read_of}
use Rattle.transcript_text.specs.declared.fault.ReadError.{ReadError}
use Rattle.event_schedule.specs.Frames.{IsPossible}
use Rattle.audit_check.specs.Audits.{lines_in, IsFirstImpossible, rows_by_frames, DifferFirst}
use Rattle.audit_check.proofs.PossibleLemmas.{possible_up_to}
use Rattle.command_texts.specs.Lines.{audited_line, made_line, converted_line, public_line, line_of, bills_line, hidden_line}
use Rattle.transcript_text.specs.ReadBack.{ReadsEach}
use Rattle.transcript_text.proofs.ReadAgain.{reads_each}
use Rattle.command_words.specs.Limits.{most_bytes}
use Rattle.transcript_text.specs.Spelling.{transcript_text}
use Rattle.plan_files.specs.Spelling.{public_text, readings_text}
use Rattle.command_texts.specs.Inspecting.{InspectBytes, PublicTextRefuses, TextsRefuse, JudgeRefuses, InspectRefuses}
use Rattle.commands.specs.Outside.{OutsideView, FaultsRose, with_wire}
use Rattle.file_commands.specs.InspectEnds.{AreInspectBytes, inspected_by, InspectCommandEnds}
use Rattle.group_plan.specs.Plans.{PlanView}
use Rattle.run_course.specs.Beginnings.{IsSomeRun}
use Rattle.command_texts.proofs.InspectedRuns.{no_line_late}
use Rattle.command_texts.specs.Billing.{Metered, AreMetered, MeteredRefuses, bills_in, bills_text_in, HideBytes, TextRefuses, Finds, IsAlone, HideRefuses}
use Rattle.command_words.specs.declared.words.Period.{Period}
use Rattle.file_commands.specs.BillingEnds.{billed_by, BillEnds, AreHideBytes, hidden_by, HideEnds}
use Rattle.command_words.specs.declared.words.PlaceWords.{PlaceWords}
use Rattle.group_plan.specs.Tables.{ReadingsView}
use Rattle.command_words.specs.declared.usage.TheConstants.{USAGE, VERSION}
use Rattle.command_texts.specs.declared.sharing.Sharing.TheVariants.{WithEach, WithNeighbours}
use Rattle.commands.proofs.AcceptedRoles.{collect_calm, meter_calm}
use Rattle.commands.proofs.AcceptedParts.{parts_calm}
use Rattle.commands.proofs.AcceptedResume.{resume_calm}
use Rattle.commands.proofs.AcceptedTwins.{twin_calm, ring_twin_calm, pooled_calm}
use Rattle.command_words.specs.Outcomes.{status_of, IsFault}

-- ---- `run`

-- the plan file has its value
plan_is : (cupboard : List Meaning) (names : RunNames) (v : View) (good : RunAccepts cupboard names v) (p : List ℕ) → IsRead (v.held names.plan) p → plan_of p ≡ Ok good.values.file
plan_is cupboard names v good p is = ap plan_of (sym (read_is v names.plan good.plan_bytes p good.plan is)) ∙ good.of_bytes.plan

lanes_are_right : (cupboard : List Meaning) (names : RunNames) (v : View) (good : RunAccepts cupboard names v) (p : List ℕ) (fault : RackError)
    → IsRead (v.held names.plan) p → RefusesLane cupboard p fault → ⊥
lanes_are_right cupboard names v good p fault is bad =
    let same : good.values.file ≡ bad.0 = ok_same _ _ _ (plan_is cupboard names v good p is) bad.1 in
    ok_or_err _ _ _ (ap (λ file. hung_by cupboard file.lanes) (sym same) ∙ good.of_bytes.lanes) bad.2

readings_are_right : (cupboard : List Meaning) (names : RunNames) (v : View) (good : RunAccepts cupboard names v) (p r : List ℕ) (fault : FileFault)
    → IsRead (v.held names.plan) p → IsRead (v.held names.readings) r → RefusesReadings cupboard p r fault → ⊥
readings_are_right cupboard names v good p r fault plan_read readings_read bad =
    let file : good.values.file ≡ bad.0 = ok_same _ _ _ (plan_is cupboard names v good p plan_read) bad.2 in
    let same : good.readings_bytes ≡ r = read_is v names.readings good.readings_bytes r good.readings readings_read in
    ok_or_err _ _ _ (ap (λ f. readings_of f.plan r) (sym file) ∙ ap (readings_of good.values.file.plan) (sym same) ∙ good.of_bytes.readings) bad.4

nothing_refused : (cupboard : List Meaning) (names : RunNames) (v : View) (p r : List ℕ) (outcome : Outcome) → RunAccepts cupboard names v
    → IsRead (v.held names.plan) p → IsRead (v.held names.readings) r → RunRefuses cupboard names p r outcome → IsCalm outcome
nothing_refused cupboard names v p r NoMemory good p_read r_read ends = inr (inr refl)
nothing_refused cupboard names v p r (BadPlan name fault) good p_read r_read ends = absurd (ok_or_err _ _ _ (plan_is cupboard names v good p p_read) ends.1)
nothing_refused cupboard names v p r (BadReadings name fault) good p_read r_read ends = absurd (readings_are_right cupboard names v good p r fault p_read r_read ends.1)
nothing_refused cupboard names v p r (BadLane fault) good p_read r_read ends = absurd (lanes_are_right cupboard names v good p fault p_read ends)
nothing_refused cupboard names v p r _ good p_read r_read ends = absurd ends

run_calm : (sharing : Sharing) (cupboard : List Meaning) (names : RunNames) (v w : View) (outcome : Outcome) → RunAccepts cupboard names v → RunEndsBy sharing cupboard names v w outcome → IsCalm outcome
run_calm sharing cupboard names v w outcome good (inl unread) =
    unread_calm (fetched_by names) v w outcome (two_are_short v w names.plan names.readings good.plan_bytes good.readings_bytes good.plan good.readings) unread
run_calm sharing cupboard names v w outcome good (inr (p, r, p_read, r_read, inl refused)) = nothing_refused cupboard names v p r outcome good p_read r_read refused.0
run_calm sharing cupboard names v w outcome good (inr (p, r, p_read, r_read, inr (inl (values, ends)))) =
    unwritable_calm (putting names.transcript [] ∷ putting names.report [] ∷ []) (after_fetches (fetched_by names) v) w outcome ends
run_calm sharing cupboard names v w outcome good (inr (p, r, p_read, r_read, inr (inr (texts, made, only, ends)))) =
    puts_calm (put_by names texts) texts.summary (after_fetches (fetched_by names) v) w outcome ends

-- ---- `registers`

registers_plan_is : (cupboard : List Meaning) (count : ℕ) (names : RegisterNames) (v : View) (good : RegistersAccept cupboard count names v) (p : List ℕ) → IsRead (v.held names.plan) p → plan_of p ≡ Ok good.values.file
registers_plan_is cupboard count names v good p is = ap plan_of (sym (read_is v names.plan good.plan_bytes p good.plan is)) ∙ good.of_bytes.plan

registers_lanes_are_right : (cupboard : List Meaning) (count : ℕ) (names : RegisterNames) (v : View) (good : RegistersAccept cupboard count names v) (p : List ℕ) (fault : RackError)
    → IsRead (v.held names.plan) p → RefusesLane cupboard p fault → ⊥
registers_lanes_are_right cupboard count names v good p fault is bad =
    let same : good.values.file ≡ bad.0 = ok_same _ _ _ (registers_plan_is cupboard count names v good p is) bad.1 in
    ok_or_err _ _ _ (ap (λ file. hung_by cupboard file.lanes) (sym same) ∙ good.of_bytes.lanes) bad.2

tables_are_right : (cupboard : List Meaning) (count : ℕ) (names : RegisterNames) (v : View) (good : RegistersAccept cupboard count names v) (p r : List ℕ) (fault : FileFault)
    → IsRead (v.held names.plan) p → IsRead (v.held names.readings) r → RefusesTables cupboard count p r fault → ⊥
tables_are_right cupboard count names v good p r fault plan_read readings_read bad =
    let file : good.values.file ≡ bad.0 = ok_same _ _ _ (registers_plan_is cupboard count names v good p plan_read) bad.2 in
    let same : good.readings_bytes ≡ r = read_is v names.readings good.readings_bytes r good.readings readings_read in
    ok_or_err _ _ _ (ap (λ f. tables_of f.plan count r) (sym file) ∙ ap (tables_of good.values.file.plan count) (sym same) ∙ good.of_bytes.tables) bad.4

registers_not_refused : (cupboard : List Meaning) (count : ℕ) (names : RegisterNames) (v : View) (p r : List ℕ) (outcome : Outcome) → RegistersAccept cupboard count names v
    → IsRead (v.held names.plan) p → IsRead (v.held names.readings) r → RegistersRefuse cupboard count names p r outcome → IsCalm outcome
registers_not_refused cupboard count names v p r NoMemory good p_read r_read ends = inr (inr refl)
registers_not_refused cupboard count names v p r (BadPlan name fault) good p_read r_read ends = absurd (ok_or_err _ _ _ (registers_plan_is cupboard count names v good p p_read) ends.1)
registers_not_refused cupboard count names v p r (BadReadings name fault) good p_read r_read ends = absurd (tables_are_right cupboard count names v good p r fault p_read r_read ends.1)
registers_not_refused cupboard count names v p r (BadLane fault) good p_read r_read ends = absurd (registers_lanes_are_right cupboard count names v good p fault p_read ends)
registers_not_refused cupboard count names v p r _ good p_read r_read ends = absurd ends

registers_calm : (cupboard : List Meaning) (count : ℕ) (names : RegisterNames) (v w : View) (outcome : Outcome) → RegistersAccept cupboard count names v → RegistersEnds cupboard count names v w outcome → IsCalm outcome
registers_calm cupboard count names v w outcome good (inl unread) =
    unread_calm (registers_fetched names) v w outcome (two_are_short v w names.plan names.readings good.plan_bytes good.readings_bytes good.plan good.readings) unread
registers_calm cupboard count names v w outcome good (inr (p, r, p_read, r_read, inl refused)) = registers_not_refused cupboard count names v p r outcome good p_read r_read refused.0
registers_calm cupboard count names v w outcome good (inr (p, r, p_read, r_read, inr (inl (values, ends)))) =
    unwritable_calm (putting names.transcript [] ∷ putting names.words [] ∷ putting names.report [] ∷ []) (after_fetches (registers_fetched names) v) w outcome ends
registers_calm cupboard count names v w outcome good (inr (p, r, p_read, r_read, inr (inr (texts, make, ends)))) =
    puts_calm (registers_put names texts) texts.summary (after_fetches (registers_fetched names) v) w outcome ends

-- ---- `audit`

-- the transcript is the one that was accepted, and so are the rows
audited_same : (transcript report : List ℕ) (v : View) (good : AuditAccepts transcript report v) (tb rb : List ℕ) (t : TranscriptView) (rows : List ReportRow)
    → IsRead (v.held transcript) tb → IsRead (v.held report) rb → AreAuditTexts tb rb t rows → (good.lines ≡ t) × (good.rows ≡ rows)
audited_same transcript report v good tb rb t rows t_read r_read texts = (
  ok_same (read_of Two tb) good.lines t (ap (read_of Two) (sym (read_is v transcript good.transcript_bytes tb good.transcript_file t_read)) ∙ good.transcript_read) texts.transcript,
  ok_same (rows_of_text rb) good.rows rows (ap rows_of_text (sym (read_is v report good.report_bytes rb good.report_file r_read)) ∙ good.report_read) texts.report,
)

transcript_not_refused : (transcript report : List ℕ) (v : View) (good : AuditAccepts transcript report v) (tb : List ℕ) (fault : ReadError)
    → IsRead (v.held transcript) tb → read_of Two tb ≡ Err fault → ⊥
transcript_not_refused transcript report v good tb fault t_read bad =
    ok_or_err (read_of Two tb) good.lines fault (ap (read_of Two) (sym (read_is v transcript good.transcript_bytes tb good.transcript_file t_read)) ∙ good.transcript_read) bad

report_not_refused : (transcript report : List ℕ) (v : View) (good : AuditAccepts transcript report v) (rb : List ℕ) (line : ℕ)
    → IsRead (v.held report) rb → rows_of_text rb ≡ Err line → ⊥
report_not_refused transcript report v good rb line r_read bad =
    ok_or_err (rows_of_text rb) good.rows line (ap rows_of_text (sym (read_is v report good.report_bytes rb good.report_file r_read)) ∙ good.report_read) bad

-- possible lines have no first impossible one
all_possible : (t : TranscriptView) (k : ℕ) → IsPossible t.plan.groups (lines_in t) → IsFirstImpossible t k → ⊥
all_possible t k possible first = first.here (possible_up_to t.plan.groups (lines_in t) (k + 1) possible)

-- rows that are the given ones have no first difference
no_difference : (t : TranscriptView) (rows : List ReportRow) (at : ℕ) (one other : Option ReportRow) → rows ≡ rows_by_frames t → DifferFirst (rows_by_frames t) rows at one other → ⊥
no_difference t rows at one other same first = first.differ (sym first.one_is ∙ ap (λ rows. slice_get rows (at - 1)) (sym same) ∙ first.other_is)

audit_not_refused : (transcript report : List ℕ) (v : View) (tb rb : List ℕ) (outcome : Outcome) → AuditAccepts transcript report v
    → IsRead (v.held transcript) tb → IsRead (v.held report) rb → AuditRefuses transcript report tb rb outcome → IsCalm outcome
audit_not_refused transcript report v tb rb NoMemory good t_read r_read ends = inr (inr refl)
audit_not_refused transcript report v tb rb (BadText name (of_text.Transcript fault)) good t_read r_read ends = absurd (transcript_not_refused transcript report v good tb fault t_read ends.1)
audit_not_refused transcript report v tb rb (BadText name (of_text.Report line)) good t_read r_read (named, (t, is, bad)) = absurd (report_not_refused transcript report v good rb line r_read bad)
audit_not_refused transcript report v tb rb (BadText name (of_text.Impossible line)) good t_read r_read (named, (t, rows, texts, (k, number, first))) =
    let same = audited_same transcript report v good tb rb t rows t_read r_read texts in
    absurd (all_possible t k (subst (λ t. IsPossible t.plan.groups (lines_in t)) same.0 good.possible) first)
audit_not_refused transcript report v tb rb (OtherRow at one other) good t_read r_read (t, rows, texts, ends) =
    let same = audited_same transcript report v good tb rb t rows t_read r_read texts in
    absurd (no_difference t rows at one other (sym same.1 ∙ good.given ∙ ap rows_by_frames same.0) ends.first)
audit_not_refused transcript report v tb rb _ good t_read r_read ends = absurd ends

audit_calm : (transcript report : List ℕ) (v w : View) (outcome : Outcome) → AuditAccepts transcript report v → AuditCommandEnds transcript report v w outcome → IsCalm outcome
audit_calm transcript report v w outcome good (inl unread) =
    unread_calm (transcript ∷ report ∷ []) v w outcome (two_are_short v w transcript report good.transcript_bytes good.report_bytes good.transcript_file good.report_file) unread
audit_calm transcript report v w outcome good (inr (tb, rb, t_read, r_read, inl refused)) = audit_not_refused transcript report v tb rb outcome good t_read r_read refused.0
audit_calm transcript report v w outcome good (inr (tb, rb, t_read, r_read, inr (counts, audited, ends))) =
    puts_calm [] (audited_line counts.rows counts.totals) (after_fetches (transcript ∷ report ∷ []) v) w outcome ends

-- ---- `make` and `load`

make_calm : (size : Size) (plan readings : List ℕ) (v w : View) (outcome : Outcome) → MakeEnds size plan readings v w outcome → IsCalm outcome
make_calm size plan readings v w outcome ends =
    puts_calm (putting plan (made_plan_text size) ∷ putting readings (made_readings_text size) ∷ []) (made_line (size.groups * size.meters * size.rounds)) v w outcome ends

load_not_refused : (cupboard : List Meaning) (size : Size) (outcome : Outcome) → LoadAccepts cupboard size → LoadRefuses cupboard size outcome → IsCalm outcome
load_not_refused cupboard size NoMemory good ends = inr (inr refl)
load_not_refused cupboard size (BadLane fault) good ends = absurd (ok_or_err _ _ _ good.lanes ends)
load_not_refused cupboard size _ good ends = absurd ends

load_calm : (cupboard : List Meaning) (size : Size) (transcript : Option (List ℕ)) (v w : View) (outcome : Outcome) → LoadAccepts cupboard size
    → LoadEnds cupboard size transcript v w outcome → IsCalm outcome
load_calm cupboard size transcript v w outcome good (inl refused) = load_not_refused cupboard size outcome good refused.0
load_calm cupboard size None v w outcome good (inr (inl ends)) = absurd ends
load_calm cupboard size (Some name) v w outcome good (inr (inl (values, ends))) = unwritable_calm (putting name [] ∷ []) v w outcome ends
load_calm cupboard size transcript v w outcome good (inr (inr (texts, is, only, ends))) = puts_calm (put_where transcript texts.transcript) texts.summary v w outcome ends

-- ---- `convert`

converted_is : (old : List ℕ) (v : View) (good : ConvertAccepts old v) (bytes : List ℕ) → IsRead (v.held old) bytes → read_of One bytes ≡ Ok good.transcript
unfolding ReadsEach
converted_is old v good bytes is =
    let same : good.bytes ≡ bytes = read_is v old good.bytes bytes good.file is in
    let few : length good.bytes ≤ most_bytes = good.file.short in
    ap (read_of One) (sym same) ∙ reads_each One good.bytes (omega arith) good.transcript good.has_text good.text

text_not_refused : (old : List ℕ) (v : View) (bytes : List ℕ) (outcome : Outcome) → ConvertAccepts old v → IsRead (v.held old) bytes → ConvertRefuses old bytes outcome → IsCalm outcome
text_not_refused old v bytes NoMemory good is ends = inr (inr refl)
text_not_refused old v bytes (BadText name (of_text.Transcript fault)) good is ends = absurd (ok_or_err _ _ _ (converted_is old v good bytes is) ends.1)
text_not_refused old v bytes _ good is ends = absurd ends

convert_calm : (old transcript : List ℕ) (v w : View) (outcome : Outcome) → ConvertAccepts old v → ConvertEnds old transcript v w outcome → IsCalm outcome
convert_calm old transcript v w outcome good (inl unread) = unread_calm (old ∷ []) v w outcome (one_is_short v w old good.bytes good.file) unread
convert_calm old transcript v w outcome good (inr (bytes, is, inl refused)) = text_not_refused old v bytes outcome good is refused.0
convert_calm old transcript v w outcome good (inr (bytes, is, inr (t, has, text, ends))) =
    puts_calm (putting transcript (transcript_text t) ∷ []) (converted_line (length t.entries)) (after_fetches (old ∷ []) v) w outcome ends

-- ---- `public`

public_not_refused : (plan : List ℕ) (v : View) (bytes : List ℕ) (outcome : Outcome) → PublicAccepts plan v → IsRead (v.held plan) bytes → PublicRefuses plan bytes outcome → IsCalm outcome
public_not_refused plan v bytes NoMemory good is ends = inr (inr refl)
public_not_refused plan v bytes (BadPlan name fault) good is ends = absurd (ok_or_err _ _ _ (ap plan_of (sym (read_is v plan good.bytes bytes good.file is)) ∙ good.value) ends.1)
public_not_refused plan v bytes _ good is ends = absurd ends

public_calm : (plan public : List ℕ) (v w : View) (outcome : Outcome) → PublicAccepts plan v → PublicEnds plan public v w outcome → IsCalm outcome
public_calm plan public v w outcome good (inl unread) = unread_calm (plan ∷ []) v w outcome (one_is_short v w plan good.bytes good.file) unread
public_calm plan public v w outcome good (inr (bytes, is, inl refused)) = public_not_refused plan v bytes outcome good is refused.0
public_calm plan public v w outcome good (inr (bytes, is, inr (file, value, again, ends))) =
    puts_calm (putting public (public_text file.plan) ∷ []) (public_line (length file.plan.groups) file.plan.rounds) (after_fetches (plan ∷ []) v) w outcome ends

-- ---- `inspect`

-- the bytes that were read are the accepted ones
same_inspected : (names : InspectNames) (v : View) (good : InspectAccepts names v) (bytes : InspectBytes) → AreInspectBytes names v bytes → good.bytes ≡ bytes
same_inspected names v good bytes read =
    let public = read_is v names.public good.bytes.public bytes.public good.public read.public in
    let transcript = read_is v names.transcript good.bytes.transcript bytes.transcript good.transcript read.transcript in
    let report = read_is v names.report good.bytes.report bytes.report good.report read.report in
    ap (λ p. record { public = p; transcript = good.bytes.transcript; report = good.bytes.report }) public
    ∙ ap (λ t. record { public = bytes.public; transcript = t; report = good.bytes.report }) transcript
    ∙ ap (λ r. record { public = bytes.public; transcript = bytes.transcript; report = r }) report

module _ (names : InspectNames) (v : View) (good : InspectAccepts names v) where
  public_not_refused_now : (outcome : Outcome) → PublicTextRefuses names.public good.bytes.public outcome → IsCalm outcome
  public_not_refused_now NoMemory ends = inr (inr refl)
  public_not_refused_now (BadPlan name fault) ends = absurd (ok_or_err _ _ _ good.plan_read ends.1)
  public_not_refused_now _ ends = absurd ends

  texts_not_refused : (plan : PlanView) (outcome : Outcome) → plan ≡ good.lines.plan → TextsRefuse names plan good.bytes.transcript good.bytes.report outcome → IsCalm outcome
  texts_not_refused plan NoMemory same ends = inr (inr refl)
  texts_not_refused plan (BadText name (of_text.Transcript fault)) same ends = absurd (ok_or_err _ _ _ good.transcript_read ends.1)
  texts_not_refused plan (BadText name (of_text.Report line)) same (named, (t, is, bad)) = absurd (ok_or_err _ _ _ good.report_read bad)
  texts_not_refused plan (BadText name of_text.OtherPlan) same (named, (t, rows, texts, other)) =
      absurd (other (ap (λ (t : TranscriptView). t.plan) (ok_same _ _ _ texts.transcript good.transcript_read) ∙ sym same))
  texts_not_refused plan _ same ends = absurd ends

  judged_well : (t : TranscriptView) (rows : List ReportRow) (outcome : Outcome) → good.lines ≡ t → good.rows ≡ rows → JudgeRefuses names.transcript t rows outcome → IsCalm outcome
  judged_well t rows NoMemory same rows_same ends = inr (inr refl)
  judged_well t rows (BadText name (of_text.Impossible line)) same rows_same (named, (k, number, first)) =
      absurd (all_possible t k (subst (λ (t : TranscriptView). IsPossible t.plan.groups (lines_in t)) same good.possible) first)
  judged_well t rows (BadText name (of_text.NotInTime line)) same rows_same (named, possible, late) = absurd (no_line_late t line (subst (λ (t : TranscriptView). IsSomeRun t.plan t.entries) same good.run) late)
  judged_well t rows (OtherRow at one other) same rows_same (run, ends) =
      absurd (no_difference t rows at one other (sym rows_same ∙ good.given ∙ ap rows_by_frames same) ends.first)
  judged_well t rows _ same rows_same ends = absurd ends

  inspect_not_refused : (outcome : Outcome) → InspectRefuses names good.bytes outcome → IsCalm outcome
  inspect_not_refused outcome (inl refused) = public_not_refused_now outcome refused
  inspect_not_refused outcome (inr (inl (plan, is, refused))) = texts_not_refused plan outcome (ok_same _ _ _ is good.plan_read) refused
  inspect_not_refused outcome (inr (inr (t, rows, plan, texts, refused))) =
      judged_well t rows outcome (ok_same _ _ _ good.transcript_read texts.transcript) (ok_same _ _ _ good.report_read texts.report) refused

inspect_calm : (names : InspectNames) (v w : View) (outcome : Outcome) → InspectAccepts names v → InspectCommandEnds names v w outcome → IsCalm outcome
inspect_calm names v w outcome good (inl unread) =
    unread_calm (inspected_by names) v w outcome
    (three_are_short v w names.public names.transcript names.report good.bytes.public good.bytes.transcript good.bytes.report good.public good.transcript good.report) unread
inspect_calm names v w outcome good (inr (bytes, read, inl refused)) =
    inspect_not_refused names v good outcome (subst (λ bytes. InspectRefuses names bytes outcome) (sym (same_inspected names v good bytes read)) refused.0)
inspect_calm names v w outcome good (inr (bytes, read, inr (found, of, ends))) = puts_calm [] (line_of found) (after_fetches (inspected_by names) v) w outcome ends

-- ---- `bill` and `hide`

-- values of the same bytes are the same
same_metered : (p r : List ℕ) (one other : Metered) → AreMetered p r one → AreMetered p r other → one ≡ other
same_metered p r one other first second =
    let file : one.file ≡ other.file = ok_same _ _ _ first.plan second.plan in
    let table : one.readings ≡ other.readings = ok_same _ _ _ (ap (λ f. readings_of f.plan r) (sym file) ∙ first.readings) second.readings in
    ap (λ f. record { file = f; readings = one.readings }) file ∙ ap (λ x. record { file = other.file; readings = x }) table

metered_not_refused : (plan readings p r : List ℕ) (values : Metered) (outcome : Outcome) → AreMetered p r values → MeteredRefuses plan readings p r outcome → IsCalm outcome
metered_not_refused plan readings p r values NoMemory good ends = inr (inr refl)
metered_not_refused plan readings p r values (BadPlan name fault) good ends = absurd (ok_or_err _ _ _ good.plan ends.1)
metered_not_refused plan readings p r values (BadReadings name fault) good (named, (file, is, bad)) =
    let same : values.file ≡ file = ok_same _ _ _ good.plan is in
    absurd (ok_or_err _ _ _ (ap (λ f. readings_of f.plan r) (sym same) ∙ good.readings) bad)
metered_not_refused plan readings p r values _ good ends = absurd ends

bill_calm : (names : BillNames) (period : Period) (v w : View) (outcome : Outcome) → BillAccepts names v → BillEnds names period v w outcome → IsCalm outcome
bill_calm names period v w outcome good (inl unread) =
    unread_calm (billed_by names) v w outcome (two_are_short v w names.plan names.readings good.plan_bytes good.readings_bytes good.plan good.readings) unread
bill_calm names period v w outcome good (inr (p, r, p_read, r_read, inl refused)) =
    let plan = read_is v names.plan good.plan_bytes p good.plan p_read in
    let readings = read_is v names.readings good.readings_bytes r good.readings r_read in
    metered_not_refused names.plan names.readings p r good.values outcome (subst (λ b. AreMetered p b good.values) readings (subst (λ b. AreMetered b good.readings_bytes good.values) plan good.of_bytes)) refused.0
bill_calm names period v w outcome good (inr (p, r, p_read, r_read, inr (values, are, ends))) =
    puts_calm (putting names.bills (bills_text_in values period) ∷ []) (bills_line (length (bills_in values period))) (after_fetches (billed_by names) v) w outcome ends

-- the bytes that were read are the accepted ones
same_three : (names : HideNames) (period : Period) (place : PlaceWords) (v : View) (good : HideAccepts names period place v) (bytes : HideBytes) → AreHideBytes names v bytes → good.bytes ≡ bytes
same_three names period place v good bytes read =
    let plan = read_is v names.plan good.bytes.plan bytes.plan good.plan read.plan in
    let readings = read_is v names.readings good.bytes.readings bytes.readings good.readings read.readings in
    let transcript = read_is v names.transcript good.bytes.transcript bytes.transcript good.transcript read.transcript in
    ap (λ p. record { plan = p; readings = good.bytes.readings; transcript = good.bytes.transcript }) plan
    ∙ ap (λ r. record { plan = bytes.plan; readings = r; transcript = good.bytes.transcript }) readings
    ∙ ap (λ t. record { plan = bytes.plan; readings = bytes.readings; transcript = t }) transcript

-- the accepted text is that of a transcript of the plan
text_of_plan : (names : HideNames) (period : Period) (place : PlaceWords) (v : View) (good : HideAccepts names period place v) (plan : PlanView) (outcome : Outcome)
    → plan ≡ good.values.file.plan → TextRefuses names.transcript plan good.bytes.transcript outcome → IsCalm outcome
text_of_plan names period place v good plan NoMemory same ends = inr (inr refl)
text_of_plan names period place v good plan (BadText name (of_text.Transcript fault)) same ends = absurd (ok_or_err _ _ _ good.of_plan.text_of.read ends.1)
text_of_plan names period place v good plan (BadText name of_text.OtherPlan) same (named, (t, text, other)) =
    absurd (other (ap (λ t. t.plan) (ok_same _ _ _ text.read good.of_plan.text_of.read) ∙ good.of_plan.plan_is ∙ sym same))
text_of_plan names period place v good plan _ same ends = absurd ends

-- the place has a partner
has_partner : (names : HideNames) (period : Period) (place : PlaceWords) (v : View) (good : HideAccepts names period place v) (x : ReadingsView) (t : TranscriptView) (outcome : Outcome)
    → good.values.readings ≡ x → good.lines ≡ t → IsAlone period place x t outcome → IsCalm outcome
has_partner names period place v good x t NoMemory table lines ends = inr (inr refl)
has_partner names period place v good x t (NoPartner group round meter) table lines ends =
    let none : Finds period place good.values.readings good.lines None =
    subst (λ x. Finds period place x good.lines None) (sym table) (subst (λ t. Finds period place x t None) (sym lines) ends.3) in
    absurd (none good.partner good.is_partner)
has_partner names period place v good x t _ table lines ends = absurd ends

hide_not_refused : (names : HideNames) (period : Period) (place : PlaceWords) (v : View) (good : HideAccepts names period place v) (outcome : Outcome) → HideRefuses names period place good.bytes outcome → IsCalm outcome
hide_not_refused names period place v good outcome (inl metered) = metered_not_refused names.plan names.readings good.bytes.plan good.bytes.readings good.values outcome good.of_bytes metered
hide_not_refused names period place v good outcome (inr (inl (values, are, refused))) =
    text_of_plan names period place v good values.file.plan outcome (ap (λ m. m.file.plan) (same_metered good.bytes.plan good.bytes.readings values good.values are good.of_bytes)) refused
hide_not_refused names period place v good outcome (inr (inr (values, t, are, text, alone))) =
    has_partner names period place v good values.readings t outcome (ap (λ m. m.readings) (same_metered good.bytes.plan good.bytes.readings good.values values good.of_bytes are))
    (ok_same _ _ _ good.of_plan.text_of.read text.text_of.read) alone

hide_calm : (names : HideNames) (period : Period) (place : PlaceWords) (v w : View) (outcome : Outcome) → HideAccepts names period place v → HideEnds names period place v w outcome → IsCalm outcome
hide_calm names period place v w outcome good (inl unread) =
    unread_calm (hidden_by names) v w outcome
    (three_are_short v w names.plan names.readings names.transcript good.bytes.plan good.bytes.readings good.bytes.transcript good.plan good.readings good.transcript) unread
hide_calm names period place v w outcome good (inr (bytes, read, inl refused)) =
    hide_not_refused names period place v good outcome (subst (λ bytes. HideRefuses names period place bytes outcome) (sym (same_three names period place v good bytes read)) refused.0)
hide_calm names period place v w outcome good (inr (bytes, read, inr (p, y, of, ends))) =
    puts_calm (putting names.other (readings_text y) ∷ []) (hidden_line p.round p.meter) (after_fetches (hidden_by names) v) w outcome ends

-- ---- all commands

command_calm : (cupboard : List Meaning) (command : Command) (o p : OutsideView) (outcome : Outcome) → Accepts cupboard command o → Ends cupboard (Some command) o p outcome → IsCalm outcome
command_calm cupboard (Run names workers) o p outcome good (ends, kept) = run_calm WithEach cupboard names o.desk p.desk outcome good ends
command_calm cupboard (Ring width names workers) o p outcome good (ends, kept) = run_calm (WithNeighbours width) cupboard names o.desk p.desk outcome good ends
command_calm cupboard (Resume names workers) o p outcome good (ends, kept) = resume_calm cupboard names o.desk p.desk outcome good ends
command_calm cupboard (Registers count names workers) o p outcome good (ends, kept) = registers_calm cupboard count names o.desk p.desk outcome good ends
command_calm cupboard (Audit transcript report) o p outcome good (ends, kept) = audit_calm transcript report o.desk p.desk outcome good ends
command_calm cupboard (Twin names) o p outcome good (ends, kept) = twin_calm names o.desk p.desk outcome good ends
command_calm cupboard (RingTwin width names) o p outcome good (ends, kept) = ring_twin_calm width names o.desk p.desk outcome good ends
command_calm cupboard (Pooled known names) o p outcome good (ends, kept) = pooled_calm known names o.desk p.desk outcome good ends
command_calm cupboard (Make size plan readings) o p outcome good (ends, kept) = make_calm size plan readings o.desk p.desk outcome ends
command_calm cupboard (Load size workers transcript) o p outcome good (ends, kept) = load_calm cupboard size transcript o.desk p.desk outcome good ends
command_calm cupboard (Convert old transcript) o p outcome good (ends, kept) = convert_calm old transcript o.desk p.desk outcome good ends
command_calm cupboard (Public plan public) o p outcome good (ends, kept) = public_calm plan public o.desk p.desk outcome good ends
command_calm cupboard (Parts plan g prefix) o p outcome good (ends, kept) = parts_calm plan g prefix o.desk p.desk outcome good ends
command_calm cupboard (Collect names) o p outcome good ends = collect_calm names o p outcome good ends
command_calm cupboard (Meter meter journal) o p outcome good ends = meter_calm meter journal o p outcome good ends
command_calm cupboard (Inspect names) o p outcome good (ends, kept) = inspect_calm names o.desk p.desk outcome good ends
command_calm cupboard (Bill names period) o p outcome good (ends, kept) = bill_calm names period o.desk p.desk outcome good ends
command_calm cupboard (Hide names period place) o p outcome good (ends, kept) = hide_calm names period place o.desk p.desk outcome good ends
command_calm cupboard Help o p outcome good (ends, kept) = puts_calm [] USAGE.now o.desk p.desk outcome ends
command_calm cupboard Version o p outcome good (ends, kept) = puts_calm [] VERSION.now o.desk p.desk outcome ends

-- a fault that rose up to some count rose up to a later one
rose_later : (asked : Option Command) (before between now : ℕ) (found left : WireView) → between ≤ now → FaultsRose asked before between found left → FaultsRose asked before now found left
rose_later (Some (Collect names)) before between now found left later (inl rose) = inl (omega arith)
rose_later (Some (Collect names)) before between now found left later (inr rose) = inr rose
rose_later (Some (Meter meter journal)) before between now found left later (inl rose) = inl (omega arith)
rose_later (Some (Meter meter journal)) before between now found left later (inr rose) = inr rose
rose_later _ before between now found left later rose = omega arith

pub accepted_is_done : (cupboard : List Meaning) (asked : Option Command) (o p : OutsideView) (middle : View) (outcome : Outcome) (before between now status : ℕ) → Ends cupboard asked o (with_wire middle p.wire) outcome
    → (IsFault outcome → FaultsRose asked before between o.wire p.wire) → between ≤ now → status ≡ status_of outcome → AcceptedIsDone cupboard asked o p before now status
accepted_is_done cupboard asked o p middle outcome before between now status ends rises later is command by good calm =
    let done : Ends cupboard (Some command) o (with_wire middle p.wire) outcome = subst (λ c. Ends cupboard c o (with_wire middle p.wire) outcome) by ends in
    elim (command_calm cupboard command o (with_wire middle p.wire) outcome good done) [
      | inl fault ↦ absurd (calm (subst (λ c. FaultsRose c before now o.wire p.wire) by (rose_later asked before between now o.wire p.wire later (rises fault))))
      | inr (inl well) ↦ inl (is ∙ well)
      | inr (inr short) ↦ inr (is ∙ short)
    ]
