-- What the parts of `bill` and `hide` answer.
use Rattle.std.specs.Prelude.{◌≡◌, ℕ, List, length, Ok, ◌⊎◌, Result, Err}
use Rattle.command_words.specs.declared.words.Period.{Period}
use Rattle.command_texts.specs.declared.bill.BillsText.{BillsText}
use Rattle.command_texts.specs.Billing.{Metered, AreMetered, bills_in, bills_text_in, HideBytes, IsHidden, IsTextIn, TextRefuses, IsAlone, OfHidden}
use Rattle.command_texts.specs.declared.hide.HideTexts.{HideTexts}
use Rattle.group_plan.specs.Plans.{PlanView}
use Rattle.group_plan.specs.Tables.{ReadingsView}
use Rattle.plan_files.specs.Readings.{readings_of}
use Rattle.plan_files.specs.Spelling.{readings_text}
use Rattle.billing_read.specs.declared.partners.Partner.{Partner}
use Rattle.billing_read.specs.declared.partners.ReadingPlace.{ReadingPlace}
use Rattle.billing_read.specs.PartnerEnds.{IsOtherWorld}
use Rattle.command_words.specs.declared.words.PlaceWords.{PlaceWords}
use Rattle.event_schedule.specs.Transcripts.{TranscriptView}
use Rattle.command_texts.specs.declared.hide.Hidden.{Hidden}
use Rattle.command_words.specs.declared.outcome.Outcome.{Outcome}
use Rattle.command_words.specs.Words.{HideNames}

-- ---- `bill`

-- both files have values, of whose bills these are the text and the number
abbrev pub AreBillsOf : (p r : List ℕ) → Period → BillsText → Type 0
AreBillsOf p r period made =
    (values : Metered) × AreMetered p r values × (made.text.items ≡ bills_text_in values period) × (made.count ≡ length (bills_in values period))

-- ---- `hide`

-- the bytes that are borrowed, and those of the transcript
abbrev pub hide_bytes_with : HideTexts → List ℕ → HideBytes
hide_bytes_with texts transcript = record { plan = texts.plan.now; readings = texts.readings.now; transcript = transcript }

-- the text of the table in which the place moves to its partner, which is read as it
abbrev pub IsOtherText : PlanView → ReadingsView → ReadingPlace → Partner → List ℕ → Type 0
IsOtherText plan x place p text =
    (y : ReadingsView) × IsOtherWorld x place.group place.round place.meter p y × (text ≡ readings_text y) × (readings_of plan text ≡ Ok y)

-- the text of a table that hides the place
abbrev pub HidesPlace : Period → PlaceWords → PlanView → ReadingsView → TranscriptView → Hidden → Type 0
HidesPlace period place plan x t found = (y : ReadingsView) × IsHidden period place plan x t found.partner y × (found.text.items ≡ readings_text y)

-- a table is found that hides the place, or the transcript is refused, or the place has no partner
abbrev pub FindsHidden : HideNames → Period → PlaceWords → PlanView → ReadingsView → List ℕ → Result Hidden Outcome → Type 0
FindsHidden names period place plan x text (Ok found) = (t : TranscriptView) × IsTextIn plan t text × HidesPlace period place plan x t found
FindsHidden names period place plan x text (Err outcome) =
    TextRefuses names.transcript plan text outcome ⊎ ((t : TranscriptView) × IsTextIn plan t text × IsAlone period place x t outcome)

-- the three files have values, and this is the text of a table that hides the place
abbrev pub HidesIn : Period → PlaceWords → HideBytes → Hidden → Type 0
HidesIn period place bytes found =
    (y : ReadingsView) × OfHidden bytes (λ plan x t. IsHidden period place plan x t found.partner y) × (found.text.items ≡ readings_text y)
