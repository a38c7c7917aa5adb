-- How `bill` and `hide` end, from how their parts do.
use Rattle.std.proofs.Common.{◌≡◌, ℕ, List, subst, inl, inr, [], ◌∷◌, length, ◌∙◌, ap}
use Rattle.desk_outside.specs.Desk.{View}
use Rattle.command_words.specs.declared.outcome.Outcome.{Outcome}
use Rattle.command_words.specs.declared.words.Period.{Period}
use Rattle.command_words.specs.Words.{BillNames, HideNames}
use Rattle.command_files.specs.Calls.{IsRead, after_fetches, putting, PutsEnd}
use Rattle.command_texts.specs.Billing.{MeteredRefuses, AreMetered, bills_in, bills_text_in, HideBytes, HideRefuses, IsHidden, OfHidden}
use Rattle.file_commands.specs.BillingEnds.{billed_by, BillEnds, AreHideBytes, hidden_by, HideEnds}
use Rattle.command_texts.specs.declared.bill.BillsText.{BillsText}
use Rattle.command_texts.specs.Lines.{bills_line, hidden_line}
use Rattle.command_texts.specs.BillingParts.{AreBillsOf, HidesIn}
use Rattle.command_files.proofs.CallLemmas.{read_after}
use Rattle.command_words.specs.declared.words.PlaceWords.{PlaceWords}
use Rattle.plan_files.specs.Spelling.{readings_text}
use Rattle.command_texts.specs.declared.hide.Hidden.{Hidden}

-- ---- `bill`

-- what the files say is refused
pub bill_refused : (names : BillNames) (period : Period) (v w : View) (outcome : Outcome) (p r gp gr : List ℕ) → IsRead (v.held names.plan) p → IsRead (v.held names.readings) r
    → w ≡ after_fetches (billed_by names) v → gp ≡ p → gr ≡ r → MeteredRefuses names.plan names.readings gp gr outcome → BillEnds names period v w outcome
bill_refused names period v w outcome p r gp gr p_read r_read after p_is r_is refused =
    inr (p, r, p_read, r_read, inl (subst (λ b. MeteredRefuses names.plan names.readings p b outcome) r_is (subst (λ b. MeteredRefuses names.plan names.readings b gr outcome) p_is refused), after))

-- the bills are put
pub bill_ends : (names : BillNames) (period : Period) (v u w : View) (outcome : Outcome) (made : BillsText) (p r gp gr text line : List ℕ) → IsRead (v.held names.plan) p
    → IsRead (v.held names.readings) r → u ≡ after_fetches (billed_by names) v → gp ≡ p → gr ≡ r → AreBillsOf gp gr period made → text ≡ made.text.items → line ≡ bills_line made.count
    → PutsEnd (putting names.bills text ∷ []) line u w outcome → BillEnds names period v w outcome
bill_ends names period v u w outcome made p r gp gr text line p_read r_read after p_is r_is (values, are, text_is, count_is) text_of line_of ends =
    let here : AreMetered p r values = subst (λ b. AreMetered p b values) r_is (subst (λ b. AreMetered b gr values) p_is are) in
    let by_text : PutsEnd (putting names.bills (bills_text_in values period) ∷ []) line u w outcome = subst (λ t. PutsEnd (putting names.bills t ∷ []) line u w outcome) (text_of ∙ text_is) ends in
    let by_line : PutsEnd (putting names.bills (bills_text_in values period) ∷ []) (bills_line (length (bills_in values period))) u w outcome
    = subst (λ l. PutsEnd (putting names.bills (bills_text_in values period) ∷ []) l u w outcome) (line_of ∙ ap bills_line count_is) by_text in
    inr (p, r, p_read, r_read, inr (values, here, subst (λ u. PutsEnd (putting names.bills (bills_text_in values period) ∷ []) (bills_line (length (bills_in values period))) u w outcome) after by_line))

-- ---- `hide`

-- the bytes of three files that were read one after the other
three_read : (names : HideNames) (v u : View) (p r t : List ℕ) → IsRead (v.held names.plan) p → u ≡ after_fetches (names.plan ∷ []) v → IsRead (u.held names.readings) r
    → IsRead (u.held names.transcript) t → AreHideBytes names v (record { plan = p; readings = r; transcript = t })
three_read names v u p r t p_read after r_read t_read = record {
  plan = p_read;
  readings = read_after (names.plan ∷ []) names.readings r v u after r_read;
  transcript = read_after (names.plan ∷ []) names.transcript t v u after t_read;
}

-- the two texts that are borrowed are the bytes that were fetched
same_texts : (P : HideBytes → Type 0) (p r t gp gr : List ℕ) → gp ≡ p → gr ≡ r → P (record { plan = gp; readings = gr; transcript = t }) → P (record { plan = p; readings = r; transcript = t })
same_texts P p r t gp gr p_is r_is holds =
    subst (λ x. P (record { plan = p; readings = x; transcript = t })) r_is (subst (λ x. P (record { plan = x; readings = gr; transcript = t })) p_is holds)

three_after : (names : HideNames) (v u w : View) → u ≡ after_fetches (names.plan ∷ []) v → w ≡ after_fetches (names.readings ∷ names.transcript ∷ []) u → w ≡ after_fetches (hidden_by names) v
three_after names v u w first second = second ∙ ap (after_fetches (names.readings ∷ names.transcript ∷ [])) first

-- it is refused
pub hide_refused : (names : HideNames) (period : Period) (place : PlaceWords) (v u w : View) (outcome : Outcome) (p r t gp gr : List ℕ) → IsRead (v.held names.plan) p → u ≡ after_fetches (names.plan ∷ []) v
    → IsRead (u.held names.readings) r → IsRead (u.held names.transcript) t → w ≡ after_fetches (names.readings ∷ names.transcript ∷ []) u → gp ≡ p → gr ≡ r
    → HideRefuses names period place (record { plan = gp; readings = gr; transcript = t }) outcome → HideEnds names period place v w outcome
hide_refused names period place v u w outcome p r t gp gr p_read first r_read t_read second p_is r_is refused =
    inr (
      record { plan = p; readings = r; transcript = t },
      three_read names v u p r t p_read first r_read t_read,
      inl (same_texts (λ bytes. HideRefuses names period place bytes outcome) p r t gp gr p_is r_is refused, three_after names v u w first second),
    )

-- the other table is put
pub hide_ends : (names : HideNames) (period : Period) (place : PlaceWords) (v u x w : View) (outcome : Outcome) (found : Hidden) (p r t gp gr text line : List ℕ) → IsRead (v.held names.plan) p
    → u ≡ after_fetches (names.plan ∷ []) v → IsRead (u.held names.readings) r → IsRead (u.held names.transcript) t → x ≡ after_fetches (names.readings ∷ names.transcript ∷ []) u
    → gp ≡ p → gr ≡ r → HidesIn period place (record { plan = gp; readings = gr; transcript = t }) found → text ≡ found.text.items
    → line ≡ hidden_line found.partner.round found.partner.meter → PutsEnd (putting names.other text ∷ []) line x w outcome → HideEnds names period place v w outcome
hide_ends names period place v u x w outcome found p r t gp gr text line p_read first r_read t_read second p_is r_is (y, hides, text_is) text_of line_of ends =
    let by_text : PutsEnd (putting names.other (readings_text y) ∷ []) line x w outcome = subst (λ t. PutsEnd (putting names.other t ∷ []) line x w outcome) (text_of ∙ text_is) ends in
    let by_line : PutsEnd (putting names.other (readings_text y) ∷ []) (hidden_line found.partner.round found.partner.meter) x w outcome
    = subst (λ l. PutsEnd (putting names.other (readings_text y) ∷ []) l x w outcome) line_of by_text in
    inr (
      record { plan = p; readings = r; transcript = t },
      three_read names v u p r t p_read first r_read t_read,
      inr (
        found.partner,
        y,
        same_texts (λ bytes. OfHidden bytes (λ plan z lines. IsHidden period place plan z lines found.partner y)) p r t gp gr p_is r_is hides,
        subst (λ x. PutsEnd (putting names.other (readings_text y) ∷ []) (hidden_line found.partner.round found.partner.meter) x w outcome) (three_after names v u x first second) by_line,
      ),
    )
