-- The state of a meter: at its beginning, after a reading that was marked, and after a set that was heard.
use Rattle.std.proofs.Common.{◌≡◌, ℕ, ◌<◌, List, [], ◌∷◌, ◌++◌, length, replicate, sym, ap, ◌∙◌, arith, ⊎_elim, get_or-set_same, get_or-set_other}
use Rattle.std.specs.Prelude.{if◌then◌else◌, slice_index_or, slice_set, Option, Some, None}
use Rattle.std.proofs.lemmas.Bool.{cases_eq, cases_lt, ne_eqb}
use Rattle.std.proofs.lemmas.List.{get_or-replicate, get_or_past, length-replicate}
use Rattle.meter_core.specs.Notes.{Note}
use Rattle.meter_core.specs.declared.Heard.{Heard}
use Rattle.meter_core.specs.declared.Heard.TheVariants.{Answer, AnswerAgain, Refused}
use Rattle.meter_core.specs.declared.Why.TheVariants.{OutOfPlan, NotRead, SelfMissing, Thin, OtherSet}
use Rattle.meter_core.specs.Meters.{MeterView, blank, new_meter, kept_set, keeping, Hears}
use Rattle.meter_core.proofs.CallLemmas.{kept_set-keeping_same, note_at-keeping_other, within-rounds}
use Rattle.meter_apart.specs.declared.answers.Noted.{Noted}
use Rattle.meter_apart.specs.declared.answers.Noted.TheVariants.{Read, Kept}
use Rattle.meter_apart.specs.declared.keys.MeterKeys.{MeterKeys}
use Rattle.meter_apart.specs.declared.meter.MeterApart.{MeterApart}
use Rattle.meter_apart.specs.Journal.{marked, kept}
use Rattle.meter_apart.specs.Replies.{is_answer}
use Rattle.meter_apart.specs.Meter.{IsState, IsAfter, MarksReading, HearsSet}
use Rattle.meter_apart.proofs.JournalLemmas.{marked-nil, kept-nil, marked-read_same, marked-read_other, kept-read, kept-kept_same, kept-kept_other, marked-kept}

-- ---- the beginning

abbrev no_reading : Option ℕ
no_reading = None

none_marked : (n r : ℕ) → slice_index_or (replicate n no_reading) r no_reading ≡ no_reading
none_marked n r = ⊎_elim
    (λ lt. get_or-replicate n r no_reading no_reading lt)
    (λ ge. get_or_past (replicate n no_reading) r no_reading (omega (arith, ge, length-replicate n no_reading)))
    (cases_lt r n)

none_kept : (i floor n r : ℕ) → kept_set (new_meter i floor n) r ≡ None
none_kept i floor n r = ap (λ (note : Note). note.kept) (⊎_elim
    (λ lt. get_or-replicate n r blank blank lt)
    (λ ge. get_or_past (replicate n blank) r blank (omega (arith, ge, length-replicate n blank)))
    (cases_lt r n))

pub state_new : (rounds n i floor m : ℕ) (readings : List (Option ℕ)) (core : MeterView) → readings ≡ replicate n None → core ≡ new_meter i floor m → IsState rounds readings core []
state_new rounds n i floor m readings core readings_are core_is = record {
  readings_are = λ r lt. ap (λ (l : List (Option ℕ)). slice_index_or l r None) readings_are ∙ none_marked n r ∙ marked-nil r;
  sets_are = λ r lt. ap (λ (c : MeterView). kept_set c r) core_is ∙ none_kept i floor m r ∙ kept-nil r;
}

-- ---- a reading

same_rounds : (p q : MeterKeys) (r : ℕ) → q ≡ p → r < q.part.home.rounds → r < p.part.home.rounds
same_rounds p q r same lt = omega (arith, lt, ap (λ (x : MeterKeys). x.part.home.rounds) same)

pub state_marked : (old new : MeterApart) (j : List Noted) (r x : ℕ) → r < old.keys.part.home.rounds → slice_index_or old.readings.items r None ≡ None → IsAfter j old → MarksReading old r x new
    → IsAfter (j ++ Read r x ∷ []) new
state_marked old new j r x lt first after marks = record {
  readings_are = λ q low. ap (λ (l : List (Option ℕ)). slice_index_or l q None) marks.readings ∙ ⊎_elim
      (λ same. ap (λ k. slice_index_or (slice_set old.readings.items r (Some x)) k None) same ∙ here ∙ sym (ap (marked (j ++ Read r x ∷ [])) same ∙ marked-read_same j r x none))
      (λ other.
      get_or-set_other old.readings.items r q (Some x) None other ∙ after.readings_are q (same_rounds old.keys new.keys q marks.keys low) ∙ sym (marked-read_other j r x q (ne_eqb r q (λ e. other (sym e)))))
      (cases_eq q r);
  sets_are = λ q low. marks.sets q ∙ after.sets_are q (same_rounds old.keys new.keys q marks.keys low) ∙ sym (kept-read j r x q);
}
  where
    here : slice_index_or (slice_set old.readings.items r (Some x)) r None ≡ Some x
    here = get_or-set_same old.readings.items r (Some x) None (omega (arith, lt, old.keeps.readings_long))

    none : marked j r ≡ None
    none = sym (after.readings_are r lt) ∙ first

-- ---- a set

-- the same notes are of the same journal
still : (old new : MeterApart) (j : List Noted) → new.keys ≡ old.keys → new.readings.items ≡ old.readings.items → new.core ≡ old.core → IsAfter j old → IsAfter j new
still old new j keys readings core after = record {
  readings_are = λ q low. ap (λ (l : List (Option ℕ)). slice_index_or l q None) readings ∙ after.readings_are q (same_rounds old.keys new.keys q keys low);
  sets_are = λ q low. ap (λ (c : MeterView). kept_set c q) core ∙ after.sets_are q (same_rounds old.keys new.keys q keys low);
}

-- a set that is answered first
state_kept : (old new : MeterApart) (j : List Noted) (r : ℕ) (set : List ℕ) → r < old.keys.part.home.rounds → kept_set old.core r ≡ None → IsAfter j old
    → new.keys ≡ old.keys → new.readings.items ≡ old.readings.items → new.core ≡ keeping old.core r set → IsAfter (j ++ Kept r set ∷ []) new
state_kept old new j r set lt first after keys readings core = record {
  readings_are = λ q low.
      ap (λ (l : List (Option ℕ)). slice_index_or l q None) readings ∙ after.readings_are q (same_rounds old.keys new.keys q keys low) ∙ sym (marked-kept j r set q);
  sets_are = λ q low. ap (λ (c : MeterView). kept_set c q) core ∙ ⊎_elim
      (λ same. ap (kept_set (keeping old.core r set)) same ∙ here ∙ sym (ap (kept (j ++ Kept r set ∷ [])) same ∙ kept-kept_same j r set none))
      (λ other.
      ap (λ (note : Note). note.kept) (note_at-keeping_other old.core r q set other) ∙ after.sets_are q (same_rounds old.keys new.keys q keys low) ∙ sym (kept-kept_other j r set q (ne_eqb r q (λ e. other (sym e)))))
      (cases_eq q r);
}
  where
    here : kept_set (keeping old.core r set) r ≡ Some set
    here = kept_set-keeping_same old.core r set (omega (arith, lt, old.keeps.notes_long))

    none : kept j r ≡ None
    none = sym (after.sets_are r lt) ∙ first

pub state_heard : (old new : MeterApart) (j : List Noted) (r : ℕ) (set : List ℕ) (said : Heard) → IsAfter j old → HearsSet old r set said new
    → IsAfter (if is_answer said then j ++ Kept r set ∷ [] else j) new
state_heard old new j r set said after heard = by said heard.core
  where
    by : (said : Heard) → Hears old.core r set said new.core → IsAfter (if is_answer said then j ++ Kept r set ∷ [] else j) new
    by Answer h =
        let low : r < length old.core.notes = within-rounds old.core r set h.0 in
        state_kept old new j r set (omega (arith, low, old.keeps.notes_long)) h.1 after heard.keys heard.readings h.2
    by AnswerAgain h = still old new j heard.keys heard.readings h.2 after
    by (Refused (OtherSet before)) h = still old new j heard.keys heard.readings h.3 after
    by (Refused OutOfPlan) h = still old new j heard.keys heard.readings h.1 after
    by (Refused NotRead) h = still old new j heard.keys heard.readings h.1 after
    by (Refused SelfMissing) h = still old new j heard.keys heard.readings h.1 after
    by (Refused (Thin n)) h = still old new j heard.keys heard.readings h.1 after
