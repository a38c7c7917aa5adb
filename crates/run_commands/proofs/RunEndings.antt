-- How `run` and `ring` end, from how their parts do.
use Rattle.std.proofs.Common.{List, ℕ, ◌≡◌, inl, inr, [], ◌∷◌, subst}
use Rattle.link_lanes.specs.Lanes.{Meaning}
use Rattle.command_words.specs.declared.outcome.Outcome.{Outcome}
use Rattle.command_words.specs.declared.outcome.Outcome.TheVariants.{NoMemory, BadPlan, BadReadings, BadLane}
use Rattle.command_words.specs.Words.{RunNames}
use Rattle.run_commands.specs.RunEnds.{RunRefuses, fetched_by, RunEndsBy, put_by}
use Rattle.command_texts.specs.Refusals.{FilesRefused}
use Rattle.desk_outside.specs.Desk.{View}
use Rattle.command_files.specs.Calls.{IsRead, after_fetches, Unwritable, putting, PutsEnd}
use Rattle.command_texts.specs.declared.sharing.Sharing.{Sharing}
use Rattle.command_texts.specs.Runs.{AreValues, Values, Texts, MakesBy}
use Rattle.command_texts.proofs.RunLemmas.{is_only}

-- what the files of a run say is refused
run_refuses : (cupboard : List Meaning) (names : RunNames) (p r : List ℕ) (outcome : Outcome) → FilesRefused cupboard names.plan names.readings p r outcome → RunRefuses cupboard names p r outcome
run_refuses cupboard names p r (BadPlan name fault) is = is
run_refuses cupboard names p r (BadLane fault) is = is
run_refuses cupboard names p r (BadReadings name fault) is = is
run_refuses cupboard names p r NoMemory is = tt
run_refuses cupboard names p r _ is = absurd is

pub run_refused : (sharing : Sharing) (cupboard : List Meaning) (names : RunNames) (v w : View) (outcome : Outcome) (p r : List ℕ) → IsRead (v.held names.plan) p → IsRead (v.held names.readings) r
    → w ≡ after_fetches (fetched_by names) v → FilesRefused cupboard names.plan names.readings p r outcome → RunEndsBy sharing cupboard names v w outcome
run_refused sharing cupboard names v w outcome p r p_read r_read after refused = inr (p, r, p_read, r_read, inl (run_refuses cupboard names p r outcome refused, after))

-- the files of a run have values, but a name can't be written
pub run_unwritable : (sharing : Sharing) (cupboard : List Meaning) (names : RunNames) (v u w : View) (outcome : Outcome) (p r : List ℕ) (values : Values) (n m : List ℕ) → IsRead (v.held names.plan) p
    → IsRead (v.held names.readings) r → u ≡ after_fetches (fetched_by names) v → AreValues cupboard p r values → n ≡ names.transcript → m ≡ names.report
    → Unwritable (n ∷ m ∷ []) u w outcome → RunEndsBy sharing cupboard names v w outcome
run_unwritable sharing cupboard names v u w outcome p r values n m p_read r_read after are n_is m_is unwritable =
    let by_names : Unwritable (names.transcript ∷ names.report ∷ []) u w outcome =
    subst (λ x. Unwritable (names.transcript ∷ x ∷ []) u w outcome) m_is (subst (λ x. Unwritable (x ∷ m ∷ []) u w outcome) n_is unwritable)
    in
    inr (p, r, p_read, r_read, inr (inl ((values, are), subst (λ u. Unwritable (names.transcript ∷ names.report ∷ []) u w outcome) after by_names)))

-- the texts of a run are put and said
pub run_ends : (sharing : Sharing) (cupboard : List Meaning) (names : RunNames) (v u w : View) (texts : Texts) (outcome : Outcome) (p r transcript report summary : List ℕ)
    → IsRead (v.held names.plan) p → IsRead (v.held names.readings) r → u ≡ after_fetches (fetched_by names) v → MakesBy sharing cupboard p r texts
    → transcript ≡ texts.transcript → report ≡ texts.report → summary ≡ texts.summary
    → PutsEnd (putting names.transcript transcript ∷ putting names.report report ∷ []) summary u w outcome → RunEndsBy sharing cupboard names v w outcome
run_ends sharing cupboard names v u w texts outcome p r transcript report summary p_read r_read after made t_is r_is s_is ends =
    let by_transcript : PutsEnd (putting names.transcript texts.transcript ∷ putting names.report report ∷ []) summary u w outcome =
    subst (λ t. PutsEnd (putting names.transcript t ∷ putting names.report report ∷ []) summary u w outcome) t_is ends
    in
    let by_report : PutsEnd (put_by names texts) summary u w outcome =
    subst (λ t. PutsEnd (putting names.transcript texts.transcript ∷ putting names.report t ∷ []) summary u w outcome) r_is by_transcript
    in
    let by_summary : PutsEnd (put_by names texts) texts.summary u w outcome = subst (λ s. PutsEnd (put_by names texts) s u w outcome) s_is by_report in
    let here : PutsEnd (put_by names texts) texts.summary (after_fetches (fetched_by names) v) w outcome =
    subst (λ u. PutsEnd (put_by names texts) texts.summary u w outcome) after by_summary
    in
    inr (p, r, p_read, r_read, inr (inr (texts, made, is_only sharing cupboard p r texts made, here)))
