-- Accepted files are done: those of `twin`, `ringtwin` and `pooled`.
use Rattle.std.proofs.Common.{ℕ, false, List, [], ◌∷◌, inl, inr, ◌≡◌, ap, ◌∙◌, Err, sym, ◌<◌, ◌^◌, length, arith, ◌≢◌, refl, subst}
use Rattle.desk_outside.specs.Desk.{View, IsLonger}
use Rattle.command_words.specs.Limits.{most_bytes}
use Rattle.command_files.specs.Calls.{EndsAtFetch, Unread, after_fetches, putting}
use Rattle.commands.specs.Accepted.{HoldsFile, TwinAccepts, RingTwinAccepts, PooledAccepts}
use Rattle.commands.proofs.CalmLemmas.{not_longer, read_is, IsCalm, unread_calm, ok_or_err, ok_same, puts_calm}
use Rattle.command_texts.specs.Twins.{TwinBytes, TwinValues, AreTwinValues, RefusesFirst, RefusesSecond, Compared, TwinRefuses}
use Rattle.command_words.specs.Words.{TwinNames}
use Rattle.file_commands.specs.TwinEnds.{AreReadBy, compared_by, TwinCommandEnds, RingTwinEnds, PooledCommandEnds}
use Rattle.command_words.specs.declared.outcome.Outcome.{Outcome}
use Rattle.plan_files.specs.declared.fault.FileFault.{FileFault}
use Rattle.plan_files.specs.PlanFiles.{plan_of}
use Rattle.plan_files.specs.Readings.{readings_of}
use Rattle.mask_stream.specs.KeyStreams.{streams}
use Rattle.twin_worlds.specs.Statements.{IsHonest, FindsTwins, FindsSameWorld, IsHonestText, IsHonestFor, FindsPooledTwins}
use Rattle.twin_worlds.specs.declared.answers.TwinError.{TwinError}
use Rattle.twin_worlds.specs.declared.answers.TwinError.TheVariants as twin
use Rattle.twin_worlds.specs.Twins.{TwinEnds, SameWorldEnds, PooledTwinEnds}
use Rattle.twin_worlds.proofs.HonestLemmas.{honest-have-twins, honest-have-same-world, honest-have-pooled}
use Rattle.ideal_masks.specs.declared.Differ.TheVariants.{Presence, Total}
use Rattle.command_words.specs.declared.outcome.Outcome.TheVariants.{NoMemory, BadPlan, BadReadings, BadText, Disagree}
use Rattle.command_words.specs.declared.text_fault.TextFault.TheVariants as of_text
use Rattle.command_words.specs.declared.disagreement.Disagreement.TheVariants as of_disagreement
use Rattle.twin_worlds.specs.MasksText.{masks_text}
use Rattle.command_texts.specs.Lines.{moved_line, counted_line}
use Rattle.event_schedule.specs.Transcripts.{TranscriptView}
use Rattle.group_plan.specs.Tables.{ReadingsView}
use Rattle.event_schedule.specs.Events.{events_of}
use Rattle.sparse_masks.specs.declared.RingDiffer.{RingDiffer}
use Rattle.sparse_masks.specs.declared.RingDiffer.TheVariants as ring
use Rattle.command_texts.specs.RingIsolation.{AgreeOnRing}
use Rattle.command_texts.specs.RingTwins.{RingDisagree, RingDisagreed, RingTwinRefuses, RingUnrecorded, ring_words}
use Rattle.std.specs.Prelude.{codes}
use Rattle.command_words.specs.declared.known.KnownMeter.{KnownMeter}
use Rattle.std.proofs.lemmas.Bool.{false≢true}
use Rattle.command_texts.specs.Pooled.{RefusesPlanFor, PooledCompared, PooledRefuses}
use Rattle.command_words.specs.Known.{are_in_plan, is_known}
use Rattle.twin_worlds.specs.declared.answers.PoolTwinError.{PoolTwinError}
use Rattle.twin_worlds.specs.declared.answers.PoolTwinError.TheVariants as pool_twin

-- ---- `twin`

four_are_short : (v w : View) (one two three four a b c d : List ℕ) → HoldsFile v one a → HoldsFile v two b → HoldsFile v three c → HoldsFile v four d
    → (last : List ℕ) → EndsAtFetch (one ∷ two ∷ three ∷ four ∷ []) false v w last → IsLonger (v.held last) most_bytes → ⊥
four_are_short v w one two three four a b c d first second third fourth last (inl here) longer = not_longer v one a last first here.0 longer
four_are_short v w one two three four a b c d first second third fourth last (inr (inl here)) longer = not_longer v two b last second here.0 longer
four_are_short v w one two three four a b c d first second third fourth last (inr (inr (inl here))) longer = not_longer v three c last third here.0 longer
four_are_short v w one two three four a b c d first second third fourth last (inr (inr (inr (inl here)))) longer = not_longer v four d last fourth here.0 longer
four_are_short v w one two three four a b c d first second third fourth last (inr (inr (inr (inr none)))) longer = absurd none

-- the four files are held with these bytes
record FourHeld (names : TwinNames) (v : View) (bytes : TwinBytes) : Type 0 where
  plan : HoldsFile v names.plan bytes.plan
  readings : HoldsFile v names.readings bytes.readings
  other : HoldsFile v names.other bytes.other
  transcript : HoldsFile v names.transcript bytes.transcript

-- the bytes that were read are the ones that are held
same_four : (names : TwinNames) (v : View) (held bytes : TwinBytes) → FourHeld names v held → AreReadBy names v bytes → held ≡ bytes
same_four names v held bytes are read =
    let plan : held.plan ≡ bytes.plan = read_is v names.plan held.plan bytes.plan are.plan read.plan in
    let readings : held.readings ≡ bytes.readings = read_is v names.readings held.readings bytes.readings are.readings read.readings in
    let other : held.other ≡ bytes.other = read_is v names.other held.other bytes.other are.other read.other in
    let transcript : held.transcript ≡ bytes.transcript = read_is v names.transcript held.transcript bytes.transcript are.transcript read.transcript in
    ap (λ p. record { plan = p; readings = held.readings; other = held.other; transcript = held.transcript }) plan
    ∙ ap (λ r. record { plan = bytes.plan; readings = r; other = held.other; transcript = held.transcript }) readings
    ∙ ap (λ o. record { plan = bytes.plan; readings = bytes.readings; other = o; transcript = held.transcript }) other
    ∙ ap (λ t. record { plan = bytes.plan; readings = bytes.readings; other = bytes.other; transcript = t }) transcript

four_calm : (names : TwinNames) (v w : View) (outcome : Outcome) (bytes : TwinBytes) → FourHeld names v bytes → Unread (compared_by names) v w outcome → IsCalm outcome
four_calm names v w outcome bytes held unread =
    unread_calm (compared_by names) v w outcome
    (four_are_short v w names.plan names.readings names.other names.transcript bytes.plan bytes.readings bytes.other bytes.transcript
    held.plan held.readings held.other held.transcript)
    unread

-- no fault of the first three files is that of files with values
plan_not_refused : (bytes : TwinBytes) (good : TwinValues) → AreTwinValues bytes good → (fault : FileFault) → plan_of bytes.plan ≡ Err fault → ⊥
plan_not_refused bytes good well fault bad = ok_or_err _ _ _ well.plan bad

first_not_refused : (bytes : TwinBytes) (good : TwinValues) → AreTwinValues bytes good → (fault : FileFault) → RefusesFirst bytes fault → ⊥
first_not_refused bytes good well fault (file, plan, bad) =
    let same : good.file ≡ file = ok_same _ _ _ well.plan plan in
    ok_or_err _ _ _ (ap (λ f. readings_of f.plan bytes.readings) (sym same) ∙ well.first) bad

second_not_refused : (bytes : TwinBytes) (good : TwinValues) → AreTwinValues bytes good → (fault : FileFault) → RefusesSecond bytes fault → ⊥
second_not_refused bytes good well fault (file, first, plan, is, bad) =
    let same : good.file ≡ file = ok_same _ _ _ well.plan plan in
    ok_or_err _ _ _ (ap (λ f. readings_of f.plan bytes.other) (sym same) ∙ well.second) bad

-- bytes have one value
same_values : (bytes : TwinBytes) (good values : TwinValues) → AreTwinValues bytes good → AreTwinValues bytes values → good ≡ values
same_values bytes good values well are =
    let file : good.file ≡ values.file = ok_same _ _ _ well.plan are.plan in
    let first : good.first ≡ values.first =
    ok_same _ _ _ (ap (λ f. readings_of f.plan bytes.readings) (sym file) ∙ well.first) are.first
    in
    let second : good.second ≡ values.second =
    ok_same _ _ _ (ap (λ f. readings_of f.plan bytes.other) (sym file) ∙ well.second) are.second
    in
    ap (λ f. record { file = f; first = good.first; second = good.second }) file
    ∙ ap (λ x. record { file = values.file; first = x; second = good.second }) first
    ∙ ap (λ y. record { file = values.file; first = values.first; second = y }) second

twin_held : (names : TwinNames) (v : View) (good : TwinAccepts names v) → FourHeld names v good.bytes
twin_held names v good = record { plan = good.plan; readings = good.readings; other = good.other; transcript = good.transcript }

-- an accepted transcript is that of the first table, and the second one agrees
is_honest : (names : TwinNames) (v : View) (good : TwinAccepts names v)
    → IsHonest (streams good.values.file.keys) good.values.first good.values.second good.bytes.transcript good.lines
is_honest names v good =
    let short = good.transcript.short in
    let few : length good.bytes.transcript < 2 ^ 64 = omega arith in
    let text = good.recorded.text_of in
    record { sound = text.sound; text_is = text.text_is; few = few; plan_is = good.recorded.plan_is; lines_are = good.recorded.lines_are; agree = good.agree }

-- where twins are found, no cause but want of memory is answered
no_cause : (error : TwinError) → error ≢ twin.Memory → FindsTwins (Err error) → ⊥
no_cause (twin.Transcript refusal) known found = found
no_cause twin.Head known found = found
no_cause (twin.NotThis line expected other tick fate) known found = found
no_cause (twin.Differ cause) known found = found
no_cause twin.Memory known found = known refl

-- of which `twin` answers no cause
none_compared : (names : TwinNames) (v : View) (good : TwinAccepts names v) (error : TwinError) → Compared good.bytes (Err error) → error ≢ twin.Memory → ⊥
none_compared names v good error (values, are, ends) known =
    let here : TwinEnds (streams good.values.file.keys) good.values.first good.values.second good.bytes.transcript (Err error) =
    subst (λ values. TwinEnds (streams values.file.keys) values.first values.second good.bytes.transcript (Err error)) (sym (same_values good.bytes good.values values good.of_bytes are)) ends
    in
    no_cause error known (honest-have-twins (streams good.values.file.keys) good.values.first good.values.second good.bytes.transcript good.lines (Err error) (is_honest names v good) here)

twin_not_refused : (names : TwinNames) (v : View) (good : TwinAccepts names v) (outcome : Outcome) → TwinRefuses names good.bytes outcome → IsCalm outcome
twin_not_refused names v good NoMemory ends = inr (inr refl)
twin_not_refused names v good (BadPlan name fault) ends = absurd (plan_not_refused good.bytes good.values good.of_bytes fault ends.1)
twin_not_refused names v good (BadReadings name fault) (inl ends) = absurd (first_not_refused good.bytes good.values good.of_bytes fault ends.1)
twin_not_refused names v good (BadReadings name fault) (inr ends) = absurd (second_not_refused good.bytes good.values good.of_bytes fault ends.1)
twin_not_refused names v good (BadText name (of_text.Transcript fault)) ends = absurd (none_compared names v good (twin.Transcript fault) ends.1 (λ is. cc))
twin_not_refused names v good (BadText name of_text.OtherPlan) ends = absurd (none_compared names v good twin.Head ends.1 (λ is. cc))
twin_not_refused names v good (BadText name (of_text.OtherLine line expected)) (named, (found, ends)) = absurd (none_compared names v good (twin.NotThis line expected.line found expected.tick expected.fate) ends (λ is. cc))
twin_not_refused names v good (Disagree (of_disagreement.Presence group round meter)) ends = absurd (none_compared names v good (twin.Differ (Presence group round meter)) ends (λ is. cc))
twin_not_refused names v good (Disagree (of_disagreement.Total group round first second)) ends = absurd (none_compared names v good (twin.Differ (Total group round first second)) ends (λ is. cc))
twin_not_refused names v good _ ends = absurd ends

pub twin_calm : (names : TwinNames) (v w : View) (outcome : Outcome) → TwinAccepts names v → TwinCommandEnds names v w outcome → IsCalm outcome
twin_calm names v w outcome good (inl unread) = four_calm names v w outcome good.bytes (twin_held names v good) unread
twin_calm names v w outcome good (inr (bytes, read, inl refused)) =
    twin_not_refused names v good outcome
    (subst (λ bytes. TwinRefuses names bytes outcome) (sym (same_four names v good.bytes bytes (twin_held names v good) read)) refused.0)
twin_calm names v w outcome good (inr (bytes, read, inr (rows, compared, ends))) =
    puts_calm (putting names.masks (masks_text rows) ∷ []) (moved_line (length rows)) (after_fetches (compared_by names) v) w outcome ends

-- ---- `ringtwin`

-- where the transcript is found, no cause but want of memory is answered
none_missed : (t : TranscriptView) (error : TwinError) → error ≢ twin.Memory → FindsSameWorld t (Err error) → ⊥
none_missed t (twin.Transcript refusal) known found = found
none_missed t twin.Head known found = found
none_missed t (twin.NotThis line expected other tick fate) known found = found
none_missed t (twin.Differ cause) known found = found
none_missed t twin.Memory known found = known refl

-- tables that agree on a ring don't disagree
agree_or_not : (w : ℕ) (x y : ReadingsView) (t : TranscriptView) (cause : RingDiffer) → AgreeOnRing w x.plan x.table y.table (events_of t.entries) → RingDisagree w x y t cause → ⊥
agree_or_not w x y t (ring.Presence g r i) agree is = is.ends.differs (agree.presence g r i)
agree_or_not w x y t (ring.Component g r i a b) agree is =
    let first = is.ends.1.other in
    first.differ (first.first ∙ agree.sums g r i first.announced first.survivor first.opened ∙ sym first.second)
agree_or_not w x y t ring.Memory agree is = is.known refl

module _ (w : ℕ) (names : TwinNames) (v : View) (good : RingTwinAccepts w names v) where
  ring_held : FourHeld names v good.bytes
  ring_held = record { plan = good.plan; readings = good.readings; other = good.other; transcript = good.transcript }

  -- an accepted transcript is that of the first table
  ring_honest : IsHonestText (ring_words w good.values) good.values.first good.bytes.transcript good.lines
  ring_honest =
      let short = good.transcript.short in
      let few : length good.bytes.transcript < 2 ^ 64 = omega arith in
      let text = good.recorded.text_of in
      record { sound = text.sound; text_is = text.text_is; few = few; plan_is = good.recorded.plan_is; lines_are = good.recorded.lines_are }

  ring_recorded : (error : TwinError) → RingUnrecorded w good.bytes error → error ≢ twin.Memory → ⊥
  ring_recorded error (values, are, ends) known =
      let here : SameWorldEnds (ring_words w good.values) good.values.first good.bytes.transcript (Err error) =
      subst (λ values. SameWorldEnds (ring_words w values) values.first good.bytes.transcript (Err error)) (sym (same_values good.bytes good.values values good.of_bytes are)) ends
      in
      none_missed good.lines error known (honest-have-same-world (ring_words w good.values) good.values.first good.bytes.transcript good.lines (Err error) ring_honest here)

  ring_agreed : (cause : RingDiffer) → RingDisagreed w good.bytes cause → ⊥
  ring_agreed cause (values, t, are, is, differ) =
      let here : RingDisagree w good.values.first good.values.second t cause =
      subst (λ values. RingDisagree w values.first values.second t cause) (sym (same_values good.bytes good.values values good.of_bytes are)) differ
      in
      let same : t ≡ good.lines = ok_same _ _ _ is.text_of.read good.recorded.text_of.read in
      agree_or_not w good.values.first good.values.second good.lines cause good.agree
      (subst (λ (t : TranscriptView). RingDisagree w good.values.first good.values.second t cause) same here)

  ring_twin_not_refused : (outcome : Outcome) → RingTwinRefuses w names good.bytes outcome → IsCalm outcome
  ring_twin_not_refused NoMemory ends = inr (inr refl)
  ring_twin_not_refused (BadPlan name fault) ends = absurd (plan_not_refused good.bytes good.values good.of_bytes fault ends.1)
  ring_twin_not_refused (BadReadings name fault) (inl ends) = absurd (first_not_refused good.bytes good.values good.of_bytes fault ends.1)
  ring_twin_not_refused (BadReadings name fault) (inr ends) = absurd (second_not_refused good.bytes good.values good.of_bytes fault ends.1)
  ring_twin_not_refused (BadText name (of_text.Transcript fault)) ends = absurd (ring_recorded (twin.Transcript fault) ends.1 (λ is. cc))
  ring_twin_not_refused (BadText name of_text.OtherPlan) ends = absurd (ring_recorded twin.Head ends.1 (λ is. cc))
  ring_twin_not_refused (BadText name (of_text.OtherLine line expected)) (named, (found, ends)) =
      absurd (ring_recorded (twin.NotThis line expected.line found expected.tick expected.fate) ends (λ is. cc))
  ring_twin_not_refused (Disagree (of_disagreement.Presence group round meter)) ends = absurd (ring_agreed (ring.Presence group round meter) ends)
  ring_twin_not_refused (Disagree (of_disagreement.Component group round least first second)) ends = absurd (ring_agreed (ring.Component group round least first second) ends)
  ring_twin_not_refused _ ends = absurd ends

pub ring_twin_calm : (w : ℕ) (names : TwinNames) (v u : View) (outcome : Outcome) → RingTwinAccepts w names v → RingTwinEnds w names v u outcome → IsCalm outcome
ring_twin_calm w names v u outcome good (inl unread) = four_calm names v u outcome good.bytes (ring_held w names v good) unread
ring_twin_calm w names v u outcome good (inr (bytes, read, inl refused)) =
    ring_twin_not_refused w names v good outcome
    (subst (λ bytes. RingTwinRefuses w names bytes outcome) (sym (same_four names v good.bytes bytes (ring_held w names v good) read)) refused.0)
ring_twin_calm w names v u outcome good (inr (bytes, read, inr (rows, compared, ends))) =
    puts_calm (putting names.masks (masks_text rows) ∷ []) (counted_line (codes "twin") (length rows)) (after_fetches (compared_by names) v) u outcome ends

-- ---- `pooled`

pooled_held : (known : List KnownMeter) (names : TwinNames) (v : View) (good : PooledAccepts known names v) → FourHeld names v good.bytes
pooled_held known names v good = record { plan = good.plan; readings = good.readings; other = good.other; transcript = good.transcript }

-- the plan has each known meter
not_outside : (known : List KnownMeter) (names : TwinNames) (v : View) (good : PooledAccepts known names v) (fault : FileFault) → RefusesPlanFor known good.bytes fault → ⊥
not_outside known names v good fault (inl bad) = plan_not_refused good.bytes good.values good.of_bytes fault bad
not_outside known names v good fault (inr (file, plan, outside, fault_is)) =
    let same : good.values.file ≡ file = ok_same _ _ _ good.of_bytes.plan plan in
    false≢true (sym outside ∙ ap (λ f. are_in_plan f.plan known) (sym same) ∙ good.within)

-- an accepted transcript is that of the first table, and the second one agrees for the known meters
is_honest_for : (known : List KnownMeter) (names : TwinNames) (v : View) (good : PooledAccepts known names v)
    → IsHonestFor (is_known known) (streams good.values.file.keys) good.values.first good.values.second good.bytes.transcript good.lines
is_honest_for known names v good =
    let short = good.transcript.short in
    let few : length good.bytes.transcript < 2 ^ 64 = omega arith in
    let text = good.recorded.text_of in
    record { sound = text.sound; text_is = text.text_is; few = few; plan_is = good.recorded.plan_is; lines_are = good.recorded.lines_are; agree = good.agree }

-- where twins are found for a pool, no cause but want of memory is answered
no_cause_for : (error : PoolTwinError) → error ≢ pool_twin.Other twin.Memory → FindsPooledTwins (Err error) → ⊥
no_cause_for (pool_twin.Known g r i) free found = found
no_cause_for (pool_twin.Other (twin.Transcript refusal)) free found = found
no_cause_for (pool_twin.Other twin.Head) free found = found
no_cause_for (pool_twin.Other (twin.NotThis line expected other tick fate)) free found = found
no_cause_for (pool_twin.Other (twin.Differ cause)) free found = found
no_cause_for (pool_twin.Other twin.Memory) free found = free refl

-- of which `pooled_twin` answers no cause
none_pooled : (known : List KnownMeter) (names : TwinNames) (v : View) (good : PooledAccepts known names v) (error : PoolTwinError) → PooledCompared known good.bytes (Err error)
    → error ≢ pool_twin.Other twin.Memory → ⊥
none_pooled known names v good error (values, are, within, ends) free =
    let here : PooledTwinEnds (is_known known) (streams good.values.file.keys) good.values.first good.values.second good.bytes.transcript (Err error) =
    subst (λ values. PooledTwinEnds (is_known known) (streams values.file.keys) values.first values.second good.bytes.transcript (Err error))
    (sym (same_values good.bytes good.values values good.of_bytes are)) ends
    in
    no_cause_for error free
    (honest-have-pooled (is_known known) (streams good.values.file.keys) good.values.first good.values.second good.bytes.transcript good.lines (Err error)
    (is_honest_for known names v good) here)

pooled_not_refused : (known : List KnownMeter) (names : TwinNames) (v : View) (good : PooledAccepts known names v) (outcome : Outcome) → PooledRefuses known names good.bytes outcome → IsCalm outcome
pooled_not_refused known names v good NoMemory ends = inr (inr refl)
pooled_not_refused known names v good (BadPlan name fault) ends = absurd (not_outside known names v good fault ends.1)
pooled_not_refused known names v good (BadReadings name fault) (inl (named, (file, plan, within, bad))) = absurd (first_not_refused good.bytes good.values good.of_bytes fault (file, plan, bad))
pooled_not_refused known names v good (BadReadings name fault) (inr (named, (file, first, plan, within, is, bad))) =
    absurd (second_not_refused good.bytes good.values good.of_bytes fault (file, first, plan, is, bad))
pooled_not_refused known names v good (BadText name (of_text.Transcript fault)) ends = absurd (none_pooled known names v good (pool_twin.Other (twin.Transcript fault)) ends.1 (λ is. cc))
pooled_not_refused known names v good (BadText name of_text.OtherPlan) ends = absurd (none_pooled known names v good (pool_twin.Other twin.Head) ends.1 (λ is. cc))
pooled_not_refused known names v good (BadText name (of_text.OtherLine line expected)) (named, (found, ends)) = absurd (none_pooled known names v good (pool_twin.Other (twin.NotThis line expected.line found expected.tick expected.fate)) ends (λ is. cc))
pooled_not_refused known names v good (Disagree (of_disagreement.Presence group round meter)) ends = absurd (none_pooled known names v good (pool_twin.Other (twin.Differ (Presence group round meter))) ends (λ is. cc))
pooled_not_refused known names v good (Disagree (of_disagreement.Known group round meter)) ends = absurd (none_pooled known names v good (pool_twin.Known group round meter) ends (λ is. cc))
pooled_not_refused known names v good (Disagree (of_disagreement.Total group round first second)) ends = absurd (none_pooled known names v good (pool_twin.Other (twin.Differ (Total group round first second))) ends (λ is. cc))
pooled_not_refused known names v good _ ends = absurd ends

pub pooled_calm : (known : List KnownMeter) (names : TwinNames) (v w : View) (outcome : Outcome) → PooledAccepts known names v → PooledCommandEnds known names v w outcome → IsCalm outcome
pooled_calm known names v w outcome good (inl unread) = four_calm names v w outcome good.bytes (pooled_held known names v good) unread
pooled_calm known names v w outcome good (inr (bytes, read, inl refused)) =
    pooled_not_refused known names v good outcome
    (subst (λ bytes. PooledRefuses known names bytes outcome) (sym (same_four names v good.bytes bytes (pooled_held known names v good) read)) refused.0)
pooled_calm known names v w outcome good (inr (bytes, read, inr (rows, compared, ends))) =
    puts_calm (putting names.masks (masks_text rows) ∷ []) (counted_line (codes "pooled") (length rows)) (after_fetches (compared_by names) v) w outcome ends
