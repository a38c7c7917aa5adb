-- What the bytes of the files of `bill` and of `hide` come to.
use Rattle.group_plan.specs.Tables.{ReadingsView, reading}
use Rattle.plan_files.specs.PlanFiles.{PlanFileView, plan_of}
use Rattle.std.specs.Prelude.{◌≡◌, ℕ, List, Ok, Err, ⊤, ◌≢◌, Option, None, Some, ◌⊎◌}
use Rattle.plan_files.specs.Readings.{readings_of}
use Rattle.plan_files.specs.declared.fault.FileFault.{FileFault}
use Rattle.command_words.specs.declared.outcome.Outcome.{Outcome}
use Rattle.command_words.specs.declared.outcome.Outcome.TheVariants.{NoMemory, BadPlan, BadReadings, BadText, NoPartner}
use Rattle.command_words.specs.declared.text_fault.TextFault.TheVariants as of_text
use Rattle.billing_read.specs.declared.bills.Bill.{Bill}
use Rattle.billing_read.specs.Bills.{bills}
use Rattle.command_words.specs.declared.words.Period.{Period}
use Rattle.billing_read.specs.BillsText.{bills_text}
use Rattle.group_plan.specs.Plans.{PlanView}
use Rattle.event_schedule.specs.Transcripts.{TranscriptView}
use Rattle.twin_worlds.specs.Twins.{IsTextOf}
use Rattle.transcript_text.specs.declared.version.Version.TheVariants.{Two}
use Rattle.transcript_text.specs.Heads.{read_of}
use Rattle.event_schedule.specs.Events.{events_of}
use Rattle.billing_read.specs.declared.partners.Partner.{Partner}
use Rattle.billing_read.specs.PartnerEnds.{IsFirstPartner, IsOtherWorld, IsHiddenBy}
use Rattle.command_words.specs.declared.words.PlaceWords.{PlaceWords}
use Rattle.plan_files.specs.Spelling.{readings_text}
use Rattle.command_words.specs.Words.{HideNames}

-- ---- a plan file and its readings

pub record Metered : Type 0 where
  pub file : PlanFileView
  pub readings : ReadingsView

-- the bytes of a plan file and of a readings file say these
pub record AreMetered (p r : List ℕ) (values : Metered) : Type 0 where
  pub plan : plan_of p ≡ Ok values.file
  pub readings : readings_of values.file.plan r ≡ Ok values.readings

-- the plan file has a value, and the readings file has this fault
abbrev pub RefusesTable : (p r : List ℕ) → FileFault → Type 0
RefusesTable p r fault = (file : PlanFileView) × (plan_of p ≡ Ok file) × (readings_of file.plan r ≡ Err fault)

-- one of the two files is refused, by its cause; want of memory is free
abbrev pub MeteredRefuses : (plan readings p r : List ℕ) → Outcome → Type 0
MeteredRefuses plan readings p r (BadPlan name fault) = (name.now ≡ plan) × (plan_of p ≡ Err fault)
MeteredRefuses plan readings p r (BadReadings name fault) = (name.now ≡ readings) × RefusesTable p r fault
MeteredRefuses plan readings p r NoMemory = ⊤
MeteredRefuses plan readings p r _ = ⊥

-- ---- `bill`

-- the bills of a period
abbrev pub bills_in : Metered → Period → List Bill
bills_in values period = bills values.file.plan period.from period.until (reading values.readings.table)

-- their text
abbrev pub bills_text_in : Metered → Period → List ℕ
bills_text_in values period = bills_text values.file.plan period.from period.until (bills_in values period)

-- ---- `hide`

-- the bytes of a plan file, a readings file and a transcript
pub record HideBytes : Type 0 where
  pub plan : List ℕ
  pub readings : List ℕ
  pub transcript : List ℕ

-- the bytes are the text of a transcript of this plan
pub record IsTextIn (plan : PlanView) (t : TranscriptView) (text : List ℕ) : Type 0 where
  pub text_of : IsTextOf t text
  pub plan_is : t.plan ≡ plan

-- the bytes are the text of a transcript of another plan
abbrev pub IsTextElsewhere : PlanView → List ℕ → Type 0
IsTextElsewhere plan text = (t : TranscriptView) × IsTextOf t text × (t.plan ≢ plan)

-- the transcript is refused, by its cause; want of memory is free
abbrev pub TextRefuses : List ℕ → PlanView → List ℕ → Outcome → Type 0
TextRefuses transcript plan text (BadText name (of_text.Transcript fault)) = (name.now ≡ transcript) × (read_of Two text ≡ Err fault)
TextRefuses transcript plan text (BadText name of_text.OtherPlan) = (name.now ≡ transcript) × IsTextElsewhere plan text
TextRefuses transcript plan text NoMemory = ⊤
TextRefuses transcript plan text _ = ⊥

-- the first partner of the place in the period, under the events of the transcript; none where there is none
abbrev pub Finds : Period → PlaceWords → ReadingsView → TranscriptView → Option Partner → Type 0
Finds period place x t found = IsFirstPartner x (events_of t.entries) period.from period.until place.group place.round place.meter found

-- the place has no partner in the period
abbrev pub IsAlone : Period → PlaceWords → ReadingsView → TranscriptView → Outcome → Type 0
IsAlone period place x t (NoPartner group round meter) = (group ≡ place.group) × (round ≡ place.round) × (meter ≡ place.meter) × Finds period place x t None
IsAlone period place x t NoMemory = ⊤
IsAlone period place x t _ = ⊥

-- the first partner of the place, and the table that hides it: it agrees with the first table and has its bills, differs from it by 1 at the place, and
-- its text is read as it
pub record IsHidden (period : Period) (place : PlaceWords) (plan : PlanView) (x : ReadingsView) (t : TranscriptView) (p : Partner) (y : ReadingsView) : Type 0 where
  pub first : Finds period place x t (Some p)
  pub hidden : IsHiddenBy x (events_of t.entries) period.from period.until place.group place.round place.meter p
  pub other : IsOtherWorld x place.group place.round place.meter p y
  pub read : readings_of plan (readings_text y) ≡ Ok y

-- the three files have values, of which this holds
abbrev pub OfHidden : HideBytes → (PlanView → ReadingsView → TranscriptView → Type 0) → Type 0
OfHidden bytes P =
    (values : Metered) × (t : TranscriptView) × AreMetered bytes.plan bytes.readings values × IsTextIn values.file.plan t bytes.transcript
    × P values.file.plan values.readings t

-- the two files have values, and of this plan
abbrev pub OfMetered : HideBytes → (PlanView → Type 0) → Type 0
OfMetered bytes P = (values : Metered) × AreMetered bytes.plan bytes.readings values × P values.file.plan

-- what the files say is refused, or the place has no partner
abbrev pub HideRefuses : HideNames → Period → PlaceWords → HideBytes → Outcome → Type 0
HideRefuses names period place bytes outcome =
    MeteredRefuses names.plan names.readings bytes.plan bytes.readings outcome
    ⊎ (OfMetered bytes (λ plan. TextRefuses names.transcript plan bytes.transcript outcome)
    ⊎ OfHidden bytes (λ plan x t. IsAlone period place x t outcome))
