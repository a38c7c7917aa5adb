-- How `registers` ends, from how its parts do.
use Rattle.std.proofs.Common.{◌≡◌, ℕ, List, inl, inr, [], ◌∷◌, subst}
use Rattle.desk_outside.specs.Desk.{View}
use Rattle.link_lanes.specs.Lanes.{Meaning}
use Rattle.command_words.specs.declared.outcome.Outcome.{Outcome}
use Rattle.command_words.specs.Words.{RegisterNames}
use Rattle.command_files.specs.Calls.{IsRead, after_fetches, Unwritable, putting, PutsEnd}
use Rattle.run_commands.specs.RegisterEnds.{RegistersEnds, registers_fetched, registers_named, registers_put}
use Rattle.command_texts.specs.Refusals.{RegistersRefuse}
use Rattle.event_schedule.specs.Transcript.{transcript}
use Rattle.command_texts.specs.RegisterRuns.{AreRegisterValues, RegisterValues, RegistersMake}
use Rattle.register_words.specs.SideText.{side_text}
use Rattle.transcript_text.specs.Spelling.{transcript_text}
use Rattle.command_texts.specs.declared.registers.RegisterTexts.{RegisterTexts as Kept}
use Rattle.command_texts.specs.RegisterParts.{register_texts_of}

-- what they say is refused
pub registers_refused : (cupboard : List Meaning) (count : ℕ) (names : RegisterNames) (v w : View) (outcome : Outcome) (p r : List ℕ) → IsRead (v.held names.plan) p → IsRead (v.held names.readings) r
    → w ≡ after_fetches (registers_fetched names) v → RegistersRefuse cupboard count names p r outcome → RegistersEnds cupboard count names v w outcome
registers_refused cupboard count names v w outcome p r p_read r_read after refused = inr (p, r, p_read, r_read, inl (refused, after))

-- the files have values, but a name can't be written
pub registers_unwritable : (cupboard : List Meaning) (count : ℕ) (names : RegisterNames) (v u w : View) (outcome : Outcome) (p r : List ℕ) (values : RegisterValues) (n m k : List ℕ)
    → IsRead (v.held names.plan) p → IsRead (v.held names.readings) r → u ≡ after_fetches (registers_fetched names) v → AreRegisterValues cupboard count p r values
    → n ≡ names.transcript → m ≡ names.words → k ≡ names.report → Unwritable (n ∷ m ∷ k ∷ []) u w outcome → RegistersEnds cupboard count names v w outcome
registers_unwritable cupboard count names v u w outcome p r values n m k p_read r_read after are n_is m_is k_is unwritable =
    let one : Unwritable (names.transcript ∷ m ∷ k ∷ []) u w outcome = subst (λ x. Unwritable (x ∷ m ∷ k ∷ []) u w outcome) n_is unwritable in
    let two : Unwritable (names.transcript ∷ names.words ∷ k ∷ []) u w outcome = subst (λ x. Unwritable (names.transcript ∷ x ∷ k ∷ []) u w outcome) m_is one in
    let by_names : Unwritable (registers_named names) u w outcome = subst (λ x. Unwritable (names.transcript ∷ names.words ∷ x ∷ []) u w outcome) k_is two in
    inr (p, r, p_read, r_read, inr (inl ((values, are), subst (λ u. Unwritable (registers_named names) u w outcome) after by_names)))

-- the texts are put and said
pub registers_end : (cupboard : List Meaning) (count : ℕ) (names : RegisterNames) (v u w : View) (kept : Kept) (outcome : Outcome) (p r transcript words report summary : List ℕ)
    → IsRead (v.held names.plan) p → IsRead (v.held names.readings) r → u ≡ after_fetches (registers_fetched names) v → RegistersMake cupboard count p r (register_texts_of kept)
    → transcript ≡ transcript_text kept.transcript → words ≡ side_text kept.words → report ≡ kept.report.items → summary ≡ kept.summary.items
    → PutsEnd (putting names.transcript transcript ∷ putting names.words words ∷ putting names.report report ∷ []) summary u w outcome → RegistersEnds cupboard count names v w outcome
registers_end cupboard count names v u w kept outcome p r transcript words report summary p_read r_read after make t_is w_is r_is s_is ends =
    let texts = register_texts_of kept in
    let one : PutsEnd (putting names.transcript texts.transcript ∷ putting names.words words ∷ putting names.report report ∷ []) summary u w outcome =
    subst (λ t. PutsEnd (putting names.transcript t ∷ putting names.words words ∷ putting names.report report ∷ []) summary u w outcome) t_is ends
    in
    let two : PutsEnd (putting names.transcript texts.transcript ∷ putting names.words texts.words ∷ putting names.report report ∷ []) summary u w outcome =
    subst (λ t. PutsEnd (putting names.transcript texts.transcript ∷ putting names.words t ∷ putting names.report report ∷ []) summary u w outcome) w_is one
    in
    let three : PutsEnd (registers_put names texts) summary u w outcome =
    subst (λ t. PutsEnd (putting names.transcript texts.transcript ∷ putting names.words texts.words ∷ putting names.report t ∷ []) summary u w outcome) r_is two
    in
    let said : PutsEnd (registers_put names texts) texts.summary u w outcome = subst (λ s. PutsEnd (registers_put names texts) s u w outcome) s_is three in
    inr (p, r, p_read, r_read, inr (inr (texts, make, subst (λ u. PutsEnd (registers_put names texts) texts.summary u w outcome) after said)))
