-- How `resume` ends, from how its parts do.
use Rattle.std.proofs.Common.{◌≡◌, [], ◌∷◌, ◌∙◌, ap, List, Err, ℕ, subst, inl, inr, Ok}
use Rattle.desk_outside.specs.Desk.{View}
use Rattle.command_words.specs.Words.{ResumeNames}
use Rattle.command_files.specs.Calls.{IsRead, after_fetches, PutsEnd, Unwritable, putting}
use Rattle.run_commands.specs.ResumeEnds.{AreResumeBytes, resume_fetched, ResumeRefuses, ResumeCommandEnds, resume_named, resume_put}
use Rattle.command_texts.specs.ResumeRuns.{ResumeBytes, CutEnds, IsCutOf, ResumeMakes, ResumeTextsEnd, resume_bytes_of}
use Rattle.command_files.proofs.CallLemmas.{read_after}
use Rattle.link_lanes.specs.Lanes.{Meaning}
use Rattle.command_words.specs.declared.outcome.Outcome.{Outcome}
use Rattle.command_words.specs.declared.outcome.Outcome.TheVariants.{NoMemory, BadPlan, BadReadings, BadText, BadLane}
use Rattle.command_words.specs.declared.text_fault.TextFault.TheVariants as of_text
use Rattle.command_texts.specs.Refusals.{FilesRefused}
use Rattle.command_texts.specs.Runs.{AreValues, Values}
use Rattle.std.specs.Borrow.{Bor}
use Rattle.event_schedule.specs.Transcripts.{TranscriptView}
use Rattle.transcript_text.specs.Spelling.{transcript_text}
use Rattle.cut_resume.specs.declared.errors.ResumeError.{ResumeError}
use Rattle.cut_resume.specs.declared.errors.ResumeError.TheVariants.{NotThis as IsOff}
use Rattle.command_texts.specs.declared.sharing.Sharing.TheVariants.{WithEach}
use Rattle.command_texts.specs.declared.run.RunTexts.{RunTexts}
use Rattle.command_texts.specs.RunTexts.{texts_of}
use Rattle.command_texts.proofs.RunLemmas.{is_only}

-- the three files were read
three_read : (names : ResumeNames) (v u : View) (bytes : ResumeBytes) → IsRead (v.held names.plan) bytes.plan → IsRead (v.held names.readings) bytes.readings
    → u ≡ after_fetches (names.plan ∷ names.readings ∷ []) v → IsRead (u.held names.cut) bytes.cut → AreResumeBytes names v bytes
three_read names v u bytes plan readings after cut = record {
  plan = plan;
  readings = readings;
  cut = read_after (names.plan ∷ names.readings ∷ []) names.cut bytes.cut v u after cut;
}

after_three : (names : ResumeNames) (v u w x : View) → u ≡ after_fetches (names.plan ∷ names.readings ∷ []) v → w ≡ after_fetches (names.cut ∷ []) u → x ≡ w → x ≡ after_fetches (resume_fetched names) v
after_three names v u w x two one same = same ∙ one ∙ ap (after_fetches (names.cut ∷ [])) two

-- what the files say is refused, before the cut is judged
files_refuse : (cupboard : List Meaning) (names : ResumeNames) (bytes : ResumeBytes) (outcome : Outcome) → FilesRefused cupboard names.plan names.readings bytes.plan bytes.readings outcome
    → ResumeRefuses cupboard names bytes outcome
files_refuse cupboard names bytes (BadPlan name fault) is = is
files_refuse cupboard names bytes (BadLane fault) is = is
files_refuse cupboard names bytes (BadReadings name fault) is = is
files_refuse cupboard names bytes NoMemory is = tt
files_refuse cupboard names bytes _ is = absurd is

-- the cut is refused, where the files have values
cut_refuses : (cupboard : List Meaning) (names : ResumeNames) (bytes : ResumeBytes) (v : Values) (outcome : Outcome) → AreValues cupboard bytes.plan bytes.readings v
    → CutEnds names.cut v.file.plan bytes.cut (Err outcome) → ResumeRefuses cupboard names bytes outcome
cut_refuses cupboard names bytes v (BadText name (of_text.Transcript fault)) are is = (is.0, ((v, are), is.1))
cut_refuses cupboard names bytes v (BadText name of_text.OtherPlan) are is = (is.0, (v, are, is.1))
cut_refuses cupboard names bytes v NoMemory are is = tt
cut_refuses cupboard names bytes v _ are is = absurd is

module _ (cupboard : List Meaning) (names : ResumeNames) (v u w x : View) (plan readings cut : List ℕ)
    (plan_read : IsRead (v.held names.plan) plan) (readings_read : IsRead (v.held names.readings) readings) (two : u ≡ after_fetches (names.plan ∷ names.readings ∷ []) v)
    (cut_read : IsRead (u.held names.cut) cut) (one : w ≡ after_fetches (names.cut ∷ []) u) (same : x ≡ w) where
  abbrev bytes : ResumeBytes
  bytes = resume_bytes_of plan readings cut

  read : AreResumeBytes names v bytes
  read = three_read names v u bytes plan_read readings_read two cut_read

  after : x ≡ after_fetches (resume_fetched names) v
  after = after_three names v u w x two one same

  refuses : (outcome : Outcome) → ResumeRefuses cupboard names bytes outcome → ResumeCommandEnds cupboard names v x outcome
  refuses outcome is = inr (bytes, read, inl (is, after))

  -- what the plan and the readings say is refused
  pub resume_refused : (outcome : Outcome) → FilesRefused cupboard names.plan names.readings plan readings outcome → ResumeCommandEnds cupboard names v x outcome
  resume_refused outcome is = refuses outcome (files_refuse cupboard names bytes outcome is)

  -- the cut is refused
  pub cut_refused : (text : List ℕ) (values : Values) (outcome : Outcome) → text ≡ cut → AreValues cupboard plan readings values → CutEnds names.cut values.file.plan text (Err outcome)
      → ResumeCommandEnds cupboard names v x outcome
  cut_refused text values outcome text_is are is = refuses outcome (cut_refuses cupboard names bytes values outcome are (subst (λ t. CutEnds names.cut values.file.plan t (Err outcome)) text_is is))

  -- the cut is not on course
  pub off_course : (text : List ℕ) (values : Values) (t : TranscriptView) (name : Bor (List ℕ)) (line : ℕ) (why : ResumeError) → text ≡ cut → AreValues cupboard plan readings values → IsCutOf values.file.plan text t
      → name.now ≡ names.cut → why ≡ IsOff line → ResumeTextsEnd values t (Err why) → ResumeCommandEnds cupboard names v x (BadText name (of_text.NotThisRun line))
  off_course text values t name line why text_is are of_plan named why_is ends =
      let off : ResumeTextsEnd values t (Err (IsOff line)) = subst (λ (e : ResumeError). ResumeTextsEnd values t (Err e)) why_is ends in
      refuses (BadText name (of_text.NotThisRun line)) (
        named,
        record {
          values = values;
          of_bytes = are;
          cut = t;
          of_plan = subst (λ text. IsCutOf values.file.plan text t) text_is of_plan;
          entry = off.0;
          number = off.1;
          off = off.2;
        },
      )

  -- a name can't be written
  pub resume_unwritable : (values : Values) (n m : List ℕ) (y : View) (outcome : Outcome) → AreValues cupboard plan readings values → n ≡ names.transcript → m ≡ names.report
      → Unwritable (n ∷ m ∷ []) x y outcome → ResumeCommandEnds cupboard names v y outcome
  resume_unwritable values n m y outcome are n_is m_is unwritable =
      let by_names : Unwritable (resume_named names) x y outcome =
      subst (λ z. Unwritable (names.transcript ∷ z ∷ []) x y outcome) m_is (subst (λ z. Unwritable (z ∷ m ∷ []) x y outcome) n_is unwritable)
      in
      inr (bytes, read, inr (inl ((values, are), subst (λ x. Unwritable (resume_named names) x y outcome) after by_names)))

  -- the texts are put and said
  pub resume_ends : (text : List ℕ) (values : Values) (t : TranscriptView) (kept : RunTexts) (n m transcript report summary : List ℕ) (y : View) (outcome : Outcome) → text ≡ cut → AreValues cupboard plan readings values
      → IsCutOf values.file.plan text t → ResumeTextsEnd values t (Ok kept)
      → n ≡ names.transcript → m ≡ names.report → transcript ≡ transcript_text kept.transcript → report ≡ kept.report.items → summary ≡ kept.summary.items
      → PutsEnd (putting n transcript ∷ putting m report ∷ []) summary x y outcome → ResumeCommandEnds cupboard names v y outcome
  resume_ends text values t kept n m transcript report summary y outcome text_is are of_plan ends_by n_is m_is t_is r_is s_is ends =
      let texts = texts_of kept in
      let made_here : ResumeMakes cupboard bytes texts = ends_by cupboard bytes are (subst (λ text. IsCutOf values.file.plan text t) text_is of_plan) in
      let named : PutsEnd (putting names.transcript transcript ∷ putting names.report report ∷ []) summary x y outcome =
      subst (λ z. PutsEnd (putting names.transcript transcript ∷ putting z report ∷ []) summary x y outcome) m_is
      (subst (λ z. PutsEnd (putting z transcript ∷ putting m report ∷ []) summary x y outcome) n_is ends)
      in
      let texts_put : PutsEnd (resume_put names texts) summary x y outcome =
      subst (λ z. PutsEnd (putting names.transcript texts.transcript ∷ putting names.report z ∷ []) summary x y outcome) r_is
      (subst (λ z. PutsEnd (putting names.transcript z ∷ putting names.report report ∷ []) summary x y outcome) t_is named)
      in
      let said : PutsEnd (resume_put names texts) texts.summary x y outcome = subst (λ z. PutsEnd (resume_put names texts) z x y outcome) s_is texts_put in
      inr (bytes, read, inr (inr (texts, made_here, is_only WithEach cupboard plan readings texts made_here.made, subst (λ x. PutsEnd (resume_put names texts) texts.summary x y outcome) after said)))
