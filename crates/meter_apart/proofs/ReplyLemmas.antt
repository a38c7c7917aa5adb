-- What is found in the state of a meter is what the journal says.
use Rattle.std.proofs.Common.{◌≡◌, ℕ, ◌<◌, ◌^◌, Bool, true, false, not, List, refl, sym, ap, ◌∙◌}
use Rattle.std.specs.Prelude.{nat_lt, if◌then◌else◌, slice_index_or, Option, Some, None, Result, Ok, Err}
use Rattle.std.proofs.lemmas.Bool.{false≢true, ltb-true}
use Rattle.std.proofs.lemmas.Slice.Eq.{bytes_eq-Decides}
use Rattle.missing_round.specs.Sets.{is_member as is_in}
use Rattle.meter_core.specs.declared.Heard.{Heard}
use Rattle.meter_core.specs.declared.Heard.TheVariants.{Answer, AnswerAgain, Refused}
use Rattle.meter_core.specs.declared.Why.{Why}
use Rattle.meter_core.specs.declared.Why.TheVariants.{OutOfPlan, NotRead, SelfMissing, Thin, OtherSet}
use Rattle.meter_core.specs.Meters.{MeterView, note_at, is_within, survivors, refusal, refusal_over, kept_set, Hears}
use Rattle.meter_apart.specs.declared.answers.Noted.{Noted}
use Rattle.meter_apart.specs.declared.answers.ReadingRefusal.{ReadingRefusal}
use Rattle.meter_apart.specs.declared.answers.ReadingRefusal.TheVariants as unread
use Rattle.meter_apart.specs.declared.part.Part.{Part}
use Rattle.meter_apart.specs.declared.meter.MeterApart.{MeterApart}
use Rattle.meter_apart.specs.Journal.{marked, kept}
use Rattle.meter_apart.specs.Parts.{members_in, takes_part}
use Rattle.meter_apart.specs.Kept.{members_where}
use Rattle.meter_apart.specs.Replies.{standing, refusal_by, refusal_of, heard_by, heard}
use Rattle.meter_apart.specs.Meter.{IsAfter}
use Rattle.meter_apart.proofs.PartLemmas.{takes-round}

-- ---- readings

-- what a reading that may be said is
pub record MayRead (part : Part) (r x : ℕ) (found before : Option ℕ) : Type 0 where
  pub takes : takes_part part r ≡ true
  pub small : x < 2 ^ 40
  pub found_is : found ≡ before

abbrev may_be : Result (Option ℕ) ReadingRefusal → Bool
may_be (Ok found) = true
may_be (Err refusal) = false

abbrev found_in : Result (Option ℕ) ReadingRefusal → Option ℕ
found_in (Ok found) = found
found_in (Err refusal) = None

pub may_read : (part : Part) (found before : Option ℕ) (r x : ℕ) → Ok before ≡ standing part found r x → MayRead part r x found before
may_read part found before r x is = by_part (takes_part part r) refl is
  where
    by_size : (b : Bool) → nat_lt x (2 ^ 40) ≡ b → takes_part part r ≡ true → Ok before ≡ (if b then Ok found else Err unread.Range) → MayRead part r x found before
    by_size true small takes h = record { takes = takes; small = ltb-true x (2 ^ 40) small; found_is = ap found_in (sym h) }
    by_size false small takes h = absurd (false≢true (sym (ap may_be h)))

    by_part : (b : Bool) → takes_part part r ≡ b → Ok before ≡ (if b then if nat_lt x (2 ^ 40) then Ok found else Err unread.Range else Err unread.Round) → MayRead part r x found before
    by_part true takes h = by_size (nat_lt x (2 ^ 40)) refl takes h
    by_part false takes h = absurd (false≢true (sym (ap may_be h)))

pub standing_same : (m : MeterApart) (j : List Noted) (r x : ℕ) → IsAfter j m → standing m.keys.part (slice_index_or m.readings.items r None) r x ≡ standing m.keys.part (marked j r) r x
standing_same m j r x after = by (takes_part m.keys.part r) refl
  where
    of : Bool → Option ℕ → Result (Option ℕ) ReadingRefusal
    of b found = if b then if nat_lt x (2 ^ 40) then Ok found else Err unread.Range else Err unread.Round

    by : (b : Bool) → takes_part m.keys.part r ≡ b → of (takes_part m.keys.part r) (slice_index_or m.readings.items r None) ≡ of (takes_part m.keys.part r) (marked j r)
    by true is = ap (of (takes_part m.keys.part r)) (after.readings_are r (takes-round m.keys.part r is))
    by false is = ap (λ b. of b (slice_index_or m.readings.items r None)) is ∙ sym (ap (λ b. of b (marked j r)) is)

-- ---- sets

-- the refusals of a meter with this number and floor
abbrev over_by : ℕ → ℕ → List ℕ → List ℕ → Option Why
over_by number floor ms set =
    if not (is_within set ms) then Some OutOfPlan else if is_in number set then Some SelfMissing else if nat_lt (survivors ms set) floor then Some (Thin (survivors ms set)) else None

over_same : (m : MeterApart) (r : ℕ) (set : List ℕ) (found : Option ℕ) → refusal_over m.core set (members_where found (members_in m.keys.part r)) ≡ refusal_by m.keys.part found r set
over_same m r set None = refl
over_same m r set (Some x) =
    ap (λ n. over_by n m.core.floor (members_in m.keys.part r) set) m.keeps.number ∙ ap (λ n. over_by m.keys.part.meter n (members_in m.keys.part r) set) m.keeps.floor

refusal_same : (m : MeterApart) (j : List Noted) (r : ℕ) (set : List ℕ) → IsAfter j m → refusal m.core r set ≡ refusal_of m.keys.part j r set
refusal_same m j r set after =
    ap (λ n. if nat_lt r n then refusal_over m.core set (note_at m.core r).members else Some OutOfPlan) m.keeps.notes_long ∙ by (nat_lt r m.keys.part.home.rounds) refl
  where
    by : (b : Bool) → nat_lt r m.keys.part.home.rounds ≡ b
        → (if b then refusal_over m.core set (note_at m.core r).members else Some OutOfPlan) ≡ (if b then refusal_by m.keys.part (marked j r) r set else Some OutOfPlan)
    by true is =
        let low : r < m.keys.part.home.rounds = ltb-true r m.keys.part.home.rounds is in
        ap (refusal_over m.core set) (m.keeps.members_are r low ∙ ap (λ found. members_where found (members_in m.keys.part r)) (after.readings_are r low)) ∙ over_same m r set (marked j r)
    by false is = refl

-- what is heard, by the notes
heard_noted : (core new : MeterView) (r : ℕ) (set : List ℕ) (said : Heard) → Hears core r set said new → said ≡ heard_by (refusal core r set) (kept_set core r) set
heard_noted core new r set Answer h = sym (ap (λ o. heard_by o (kept_set core r) set) h.0 ∙ ap (λ o. heard_by None o set) h.1)
heard_noted core new r set AnswerAgain h =
    sym (ap (λ o. heard_by o (kept_set core r) set) h.0 ∙ ap (λ o. heard_by None o set) h.1 ∙ ap (λ b. if b then AnswerAgain else Refused (OtherSet set)) ((bytes_eq-Decides set set).1 refl))
heard_noted core new r set (Refused (OtherSet before)) h =
    sym (ap (λ o. heard_by o (kept_set core r) set) h.0 ∙ ap (λ o. heard_by None o set) h.1 ∙ ap (λ b. if b then AnswerAgain else Refused (OtherSet before)) h.2)
heard_noted core new r set (Refused OutOfPlan) h = sym (ap (λ o. heard_by o (kept_set core r) set) h.0)
heard_noted core new r set (Refused NotRead) h = sym (ap (λ o. heard_by o (kept_set core r) set) h.0)
heard_noted core new r set (Refused SelfMissing) h = sym (ap (λ o. heard_by o (kept_set core r) set) h.0)
heard_noted core new r set (Refused (Thin n)) h = sym (ap (λ o. heard_by o (kept_set core r) set) h.0)

-- and by the journal
heard_same : (m : MeterApart) (j : List Noted) (r : ℕ) (set : List ℕ) → IsAfter j m → heard_by (refusal m.core r set) (kept_set m.core r) set ≡ heard m.keys.part j r set
heard_same m j r set after = ap (λ o. heard_by o (kept_set m.core r) set) (refusal_same m j r set after) ∙ by (nat_lt r m.keys.part.home.rounds) refl
  where
    by : (b : Bool) → nat_lt r m.keys.part.home.rounds ≡ b
        → heard_by (if b then refusal_by m.keys.part (marked j r) r set else Some OutOfPlan) (kept_set m.core r) set ≡ heard_by (if b then refusal_by m.keys.part (marked j r) r set else Some OutOfPlan) (kept j r) set
    by true is = ap (λ o. heard_by (refusal_by m.keys.part (marked j r) r set) o set) (after.sets_are r (ltb-true r m.keys.part.home.rounds is))
    by false is = refl

pub heard_is : (m : MeterApart) (new : MeterView) (j : List Noted) (r : ℕ) (set : List ℕ) (said : Heard) → IsAfter j m → Hears m.core r set said new → said ≡ heard m.keys.part j r set
heard_is m new j r set said after hears = heard_noted m.core new r set said hears ∙ heard_same m j r set after
