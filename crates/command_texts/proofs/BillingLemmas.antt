-- What the parts of `hide` come to.
use Rattle.std.proofs.Common.{ℕ, List, inr, Result, Ok, Err, inl}
use Rattle.std.specs.Prelude.{IfOk, IfErr}
use Rattle.group_plan.specs.Plans.{PlanView}
use Rattle.group_plan.specs.Tables.{ReadingsView}
use Rattle.event_schedule.specs.Transcripts.{TranscriptView}
use Rattle.command_words.specs.declared.outcome.Outcome.{Outcome}
use Rattle.command_words.specs.declared.words.Period.{Period}
use Rattle.command_words.specs.declared.words.PlaceWords.{PlaceWords}
use Rattle.command_words.specs.Words.{HideNames}
use Rattle.command_texts.specs.declared.hide.Hidden.{Hidden}
use Rattle.command_texts.specs.Billing.{IsTextIn, IsAlone, Metered, AreMetered, HideBytes, HideRefuses}
use Rattle.command_texts.specs.BillingParts.{HidesPlace, FindsHidden, HidesIn}

-- of a transcript of the plan a table is found, or the place is alone
pub finds_in : (names : HideNames) (period : Period) (place : PlaceWords) (plan : PlanView) (x : ReadingsView) (text : List ℕ) (t : TranscriptView) (result : Result Hidden Outcome) → IsTextIn plan t text
    → IfOk result (HidesPlace period place plan x t) → IfErr result (IsAlone period place x t) → FindsHidden names period place plan x text result
finds_in names period place plan x text t (Ok found) of_plan hides alone = (t, of_plan, hides)
finds_in names period place plan x text t (Err outcome) of_plan hides alone = inr (t, of_plan, alone)

-- of files that have values it is so too
pub hides_in : (names : HideNames) (period : Period) (place : PlaceWords) (bytes : HideBytes) (values : Metered) (result : Result Hidden Outcome) → AreMetered bytes.plan bytes.readings values
    → FindsHidden names period place values.file.plan values.readings bytes.transcript result → IfOk result (HidesIn period place bytes)
hides_in names period place bytes values (Ok found) are (t, of_plan, (y, is, text_is)) = (y, (values, t, are, of_plan, is), text_is)
hides_in names period place bytes values (Err outcome) are finds = tt

pub refuses_in : (names : HideNames) (period : Period) (place : PlaceWords) (bytes : HideBytes) (values : Metered) (result : Result Hidden Outcome) → AreMetered bytes.plan bytes.readings values
    → FindsHidden names period place values.file.plan values.readings bytes.transcript result → IfErr result (HideRefuses names period place bytes)
refuses_in names period place bytes values (Ok found) are finds = tt
refuses_in names period place bytes values (Err outcome) are (inl refused) = inr (inl (values, are, refused))
refuses_in names period place bytes values (Err outcome) are (inr (t, of_plan, alone)) = inr (inr (values, t, are, of_plan, alone))
