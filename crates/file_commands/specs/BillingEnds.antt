-- How `bill` and `hide` end.
use Rattle.std.specs.Prelude.{ℕ, List, [], ◌∷◌, length, ◌≡◌, ◌⊎◌}
use Rattle.command_words.specs.Words.{BillNames, HideNames}
use Rattle.desk_outside.specs.Desk.{View}
use Rattle.command_words.specs.declared.outcome.Outcome.{Outcome}
use Rattle.command_words.specs.declared.words.Period.{Period}
use Rattle.command_files.specs.Calls.{putting, PutsEnd, IsRead, after_fetches, Unread}
use Rattle.command_texts.specs.Billing.{Metered, AreMetered, bills_in, bills_text_in, MeteredRefuses, HideBytes, IsHidden, OfHidden, HideRefuses}
use Rattle.command_texts.specs.Lines.{bills_line, hidden_line}
use Rattle.group_plan.specs.Tables.{ReadingsView}
use Rattle.plan_files.specs.Spelling.{readings_text}
use Rattle.billing_read.specs.declared.partners.Partner.{Partner}
use Rattle.command_words.specs.declared.words.PlaceWords.{PlaceWords}

-- ---- `bill PLAN READINGS FROM UNTIL BILLS`

-- the files that it fetches, in order
abbrev pub billed_by : BillNames → List (List ℕ)
billed_by names = names.plan ∷ names.readings ∷ []

-- both files have values, whose bills are put and their number said
abbrev pub BillsPut : BillNames → Period → (p r : List ℕ) → View → View → Outcome → Type 0
BillsPut names period p r v w outcome =
    (values : Metered) × AreMetered p r values
    × PutsEnd (putting names.bills (bills_text_in values period) ∷ []) (bills_line (length (bills_in values period))) v w outcome

-- how it ends: a file is not read, or what they say is refused, or the bills are put
abbrev pub BillEnds : BillNames → Period → View → View → Outcome → Type 0
BillEnds names period v w outcome =
    Unread (billed_by names) v w outcome
    ⊎ ((p r : List ℕ) × IsRead (v.held names.plan) p × IsRead (v.held names.readings) r
    × ((MeteredRefuses names.plan names.readings p r outcome × (w ≡ after_fetches (billed_by names) v))
    ⊎ BillsPut names period p r (after_fetches (billed_by names) v) w outcome))

-- ---- `hide PLAN READINGS TRANSCRIPT FROM UNTIL G R I OTHER`

-- the files that it fetches, in order
abbrev pub hidden_by : HideNames → List (List ℕ)
hidden_by names = names.plan ∷ names.readings ∷ names.transcript ∷ []

-- they were read under these names
pub record AreHideBytes (names : HideNames) (v : View) (bytes : HideBytes) : Type 0 where
  pub plan : IsRead (v.held names.plan) bytes.plan
  pub readings : IsRead (v.held names.readings) bytes.readings
  pub transcript : IsRead (v.held names.transcript) bytes.transcript

-- the table that hides the place is put, and its partner said
abbrev pub OtherPut : HideNames → Period → PlaceWords → HideBytes → View → View → Outcome → Type 0
OtherPut names period place bytes v w outcome =
    (p : Partner) × (y : ReadingsView) × OfHidden bytes (λ plan x t. IsHidden period place plan x t p y)
    × PutsEnd (putting names.other (readings_text y) ∷ []) (hidden_line p.round p.meter) v w outcome

-- how it ends: a file is not read, or it is refused, or the other table is put
abbrev pub HideEnds : HideNames → Period → PlaceWords → View → View → Outcome → Type 0
HideEnds names period place v w outcome =
    Unread (hidden_by names) v w outcome
    ⊎ ((bytes : HideBytes) × AreHideBytes names v bytes
    × ((HideRefuses names period place bytes outcome × (w ≡ after_fetches (hidden_by names) v))
    ⊎ OtherPut names period place bytes (after_fetches (hidden_by names) v) w outcome))
