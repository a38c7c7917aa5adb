-- Accepted files are done: those of `resume`.
use Rattle.std.proofs.Common.{◌≡◌, List, ap, ◌∙◌, ℕ, ◌+◌, ◌∷◌, ◌++◌, take, drop, sym, append_assoc, refl, subst, inr, [], inl}
use Rattle.desk_outside.specs.Desk.{View}
use Rattle.link_lanes.specs.Lanes.{Meaning, Slot}
use Rattle.command_words.specs.Words.{ResumeNames}
use Rattle.commands.specs.Accepted.{ResumeAccepts}
use Rattle.run_commands.specs.ResumeEnds.{AreResumeBytes, ResumeRefuses, ResumeCommandEnds, resume_fetched, resume_put}
use Rattle.command_texts.specs.ResumeRuns.{ResumeBytes, IsNotThisRun}
use Rattle.commands.proofs.CalmLemmas.{read_is, IsCalm, ok_or_err, ok_same, puts_calm, three_are_short, unread_calm, unwritable_calm}
use Rattle.std.proofs.lemmas.List.{take-append-drop}
use Rattle.missing_round.specs.Masks.{Masks}
use Rattle.group_plan.specs.Tables.{ReadingsView}
use Rattle.event_schedule.specs.declared.Entry.{Entry}
use Rattle.cut_resume.specs.OnCourse.{OnCourse, IsFirstOff}
use Rattle.link_lanes.specs.Fits.{hung_by}
use Rattle.mask_stream.specs.KeyStreams.{streams}
use Rattle.plan_files.specs.Readings.{readings_of}
use Rattle.event_schedule.specs.Transcripts.{TranscriptView}
use Rattle.command_words.specs.declared.outcome.Outcome.{Outcome}
use Rattle.command_words.specs.declared.outcome.Outcome.TheVariants.{NoMemory, BadPlan, BadReadings, BadText, BadLane}
use Rattle.command_words.specs.declared.text_fault.TextFault.TheVariants as of_text
use Rattle.command_texts.specs.Runs.{Values, plan_in}
use Rattle.command_texts.proofs.RunLemmas.{same_values}
use Rattle.command_files.specs.Calls.{after_fetches, putting}

-- the bytes that were read are the accepted ones
same_cut_bytes : (cupboard : List Meaning) (names : ResumeNames) (v : View) (good : ResumeAccepts cupboard names v) (bytes : ResumeBytes) → AreResumeBytes names v bytes → good.bytes ≡ bytes
same_cut_bytes cupboard names v good bytes read =
    let plan = read_is v names.plan good.bytes.plan bytes.plan good.plan read.plan in
    let readings = read_is v names.readings good.bytes.readings bytes.readings good.readings read.readings in
    let cut = read_is v names.cut good.bytes.cut bytes.cut good.cut_file read.cut in
    ap (λ p. record { plan = p; readings = good.bytes.readings; cut = good.bytes.cut }) plan
    ∙ ap (λ r. record { plan = bytes.plan; readings = r; cut = good.bytes.cut }) readings
    ∙ ap (λ t. record { plan = bytes.plan; readings = bytes.readings; cut = t }) cut

-- entries on course begin with entries on course
begins_on_course : (readings : ReadingsView) (m : Masks) (slots : List Slot) (entries : List Entry) (k : ℕ) → OnCourse readings m slots entries → OnCourse readings m slots (take k entries)
begins_on_course readings m slots entries k on before e after same =
    on before e (after ++ drop k entries) (sym (take-append-drop k entries) ∙ ap (λ l. l ++ drop k entries) same ∙ append_assoc before (e ∷ after) (drop k entries))

module _ (cupboard : List Meaning) (names : ResumeNames) (v : View) (good : ResumeAccepts cupboard names v) where
  never_off : (line : ℕ) → IsNotThisRun cupboard good.bytes line → ⊥
  never_off line n =
      let values : n.values ≡ good.values = same_values cupboard good.bytes.plan good.bytes.readings n.values good.values n.of_bytes good.of_bytes in
      let cut : n.cut ≡ good.cut = ok_same _ _ _ n.of_plan.read good.of_plan.read in
      let off : IsFirstOff good.values.readings (streams good.values.file.keys) good.values.slots good.cut.entries n.entry =
      subst (λ (t : TranscriptView). IsFirstOff good.values.readings (streams good.values.file.keys) good.values.slots t.entries n.entry) cut
      (subst (λ (x : Values). IsFirstOff x.readings (streams x.file.keys) x.slots n.cut.entries n.entry) values n.off)
      in
      off.here (begins_on_course good.values.readings (streams good.values.file.keys) good.values.slots good.cut.entries (n.entry + 1) good.on_course)

  resume_not_refused : (outcome : Outcome) → ResumeRefuses cupboard names good.bytes outcome → IsCalm outcome
  resume_not_refused NoMemory ends = inr (inr refl)
  resume_not_refused (BadPlan name fault) ends = absurd (ok_or_err _ _ _ good.of_bytes.plan ends.1)
  resume_not_refused (BadLane fault) (file, is, bad) =
      let same : good.values.file ≡ file = ok_same _ _ _ good.of_bytes.plan is in
      absurd (ok_or_err _ _ _ (ap (λ f. hung_by cupboard f.lanes) (sym same) ∙ good.of_bytes.lanes) bad)
  resume_not_refused (BadReadings name fault) (named, (file, slots, is, hung, bad)) =
      let same : good.values.file ≡ file = ok_same _ _ _ good.of_bytes.plan is in
      absurd (ok_or_err _ _ _ (ap (λ f. readings_of f.plan good.bytes.readings) (sym same) ∙ good.of_bytes.readings) bad)
  resume_not_refused (BadText name (of_text.Transcript fault)) (named, (values, bad)) = absurd (ok_or_err _ _ _ good.of_plan.read bad)
  resume_not_refused (BadText name of_text.OtherPlan) (named, (values, are, other)) =
      absurd (other.other (ap (λ (t : TranscriptView). t.plan) (ok_same _ _ _ other.read good.of_plan.read) ∙ good.of_plan.of_plan
      ∙ ap (λ (x : Values). plan_in x) (same_values cupboard good.bytes.plan good.bytes.readings good.values values good.of_bytes are)))
  resume_not_refused (BadText name (of_text.NotThisRun line)) (named, n) = absurd (never_off line n)
  resume_not_refused _ ends = absurd ends

pub resume_calm : (cupboard : List Meaning) (names : ResumeNames) (v w : View) (outcome : Outcome) → ResumeAccepts cupboard names v → ResumeCommandEnds cupboard names v w outcome → IsCalm outcome
resume_calm cupboard names v w outcome good (inl unread) =
    unread_calm (resume_fetched names) v w outcome
    (three_are_short v w names.plan names.readings names.cut good.bytes.plan good.bytes.readings good.bytes.cut good.plan good.readings good.cut_file) unread
resume_calm cupboard names v w outcome good (inr (bytes, read, inl refused)) =
    resume_not_refused cupboard names v good outcome (subst (λ b. ResumeRefuses cupboard names b outcome) (sym (same_cut_bytes cupboard names v good bytes read)) refused.0)
resume_calm cupboard names v w outcome good (inr (bytes, read, inr (inl (values, ends)))) =
    unwritable_calm (putting names.transcript [] ∷ putting names.report [] ∷ []) (after_fetches (resume_fetched names) v) w outcome ends
resume_calm cupboard names v w outcome good (inr (bytes, read, inr (inr (texts, make, only, ends)))) =
    puts_calm (resume_put names texts) texts.summary (after_fetches (resume_fetched names) v) w outcome ends
