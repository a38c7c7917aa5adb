-- How `inspect` ends, from how its parts do.
use Rattle.std.proofs.Common.{◌≡◌, ℕ, List, [], ◌∷◌, ◌∙◌, ap, subst, inl, inr}
use Rattle.desk_outside.specs.Desk.{View}
use Rattle.command_words.specs.Words.{InspectNames}
use Rattle.command_files.specs.Calls.{IsRead, after_fetches, PutsEnd}
use Rattle.file_commands.specs.InspectEnds.{AreInspectBytes, inspected_by, InspectCommandEnds}
use Rattle.command_files.proofs.CallLemmas.{read_after}
use Rattle.command_texts.specs.Inspecting.{InspectBytes, InspectRefuses, OfPlan, IsInspected}
use Rattle.command_words.specs.declared.outcome.Outcome.{Outcome}
use Rattle.audit_check.specs.declared.answers.Inspected.{Inspected}
use Rattle.command_texts.specs.Lines.{line_of}

-- the bytes of three files that were read one after the other
three_read : (names : InspectNames) (v u : View) (p t r : List ℕ) → IsRead (v.held names.public) p → IsRead (v.held names.transcript) t
    → u ≡ after_fetches (names.public ∷ names.transcript ∷ []) v → IsRead (u.held names.report) r → AreInspectBytes names v (record { public = p; transcript = t; report = r })
three_read names v u p t r p_read t_read after r_read =
    record { public = p_read; transcript = t_read; report = read_after (names.public ∷ names.transcript ∷ []) names.report r v u after r_read }

three_after : (names : InspectNames) (v u w : View) → u ≡ after_fetches (names.public ∷ names.transcript ∷ []) v → w ≡ after_fetches (names.report ∷ []) u
    → w ≡ after_fetches (inspected_by names) v
three_after names v u w first second = second ∙ ap (after_fetches (names.report ∷ [])) first

-- the two texts that are borrowed are the bytes that were fetched
same_texts : (P : InspectBytes → Type 0) (p t r gp gr : List ℕ) → gp ≡ p → gr ≡ r → P (record { public = gp; transcript = t; report = gr }) → P (record { public = p; transcript = t; report = r })
same_texts P p t r gp gr p_is r_is holds =
    subst (λ x. P (record { public = p; transcript = t; report = x })) r_is (subst (λ x. P (record { public = x; transcript = t; report = gr })) p_is holds)

-- it is refused
pub inspect_refused : (names : InspectNames) (v u w : View) (outcome : Outcome) (p t r gp gr : List ℕ) → IsRead (v.held names.public) p → IsRead (v.held names.transcript) t
    → u ≡ after_fetches (names.public ∷ names.transcript ∷ []) v → IsRead (u.held names.report) r → w ≡ after_fetches (names.report ∷ []) u → gp ≡ p → gr ≡ r
    → InspectRefuses names (record { public = gp; transcript = t; report = gr }) outcome → InspectCommandEnds names v w outcome
inspect_refused names v u w outcome p t r gp gr p_read t_read first r_read second p_is r_is refused =
    inr (
      record { public = p; transcript = t; report = r },
      three_read names v u p t r p_read t_read first r_read,
      inl (same_texts (λ bytes. InspectRefuses names bytes outcome) p t r gp gr p_is r_is refused, three_after names v u w first second),
    )

-- what was counted is said
pub inspect_ends : (names : InspectNames) (v u x w : View) (outcome : Outcome) (found : Inspected) (p t r gp gr line : List ℕ) → IsRead (v.held names.public) p
    → IsRead (v.held names.transcript) t → u ≡ after_fetches (names.public ∷ names.transcript ∷ []) v → IsRead (u.held names.report) r → x ≡ after_fetches (names.report ∷ []) u
    → gp ≡ p → gr ≡ r → OfPlan (record { public = gp; transcript = t; report = gr }) (λ t rows. IsInspected t rows found) → line ≡ line_of found
    → PutsEnd [] line x w outcome → InspectCommandEnds names v w outcome
inspect_ends names v u x w outcome found p t r gp gr line p_read t_read first r_read second p_is r_is inspected line_is ends =
    inr (
      record { public = p; transcript = t; report = r },
      three_read names v u p t r p_read t_read first r_read,
      inr (
        found,
        same_texts (λ bytes. OfPlan bytes (λ t rows. IsInspected t rows found)) p t r gp gr p_is r_is inspected,
        subst (λ x. PutsEnd [] (line_of found) x w outcome) (three_after names v u x first second) (subst (λ l. PutsEnd [] l x w outcome) line_is ends),
      ),
    )
