-- Where a transcript is the first table's and the tables agree, nothing is refused.
use Rattle.std.proofs.Common.{◌≡◌, ℕ, ◌<◌, ◌^◌, List, length, sym, ap, ◌∙◌, subst, refl}
use Rattle.std.specs.Prelude.{reverse, slice_get, Some, Result, Ok, Err}
use Rattle.group_plan.specs.Tables.{ReadingsView, reading}
use Rattle.event_schedule.specs.declared.Entry.{Entry}
use Rattle.event_schedule.specs.declared.Line.{Line}
use Rattle.event_schedule.specs.Events.{lines_of, events_of}
use Rattle.event_schedule.specs.Tables.{Masks}
use Rattle.transcript_text.specs.declared.fault.ReadError.{ReadError}
use Rattle.transcript_text.specs.Spelling.{transcript_text}
use Rattle.event_schedule.specs.Transcripts.{TranscriptView, IsTranscript}
use Rattle.transcript_text.proofs.ReadAgain.{read_back}
use Rattle.ideal_masks.specs.declared.Differ.{Differ}
use Rattle.ideal_masks.specs.declared.Differ.TheVariants as differ
use Rattle.ideal_masks.specs.Pools.{Pool, nobody}
use Rattle.ideal_masks.specs.Offsets.{AgreeFor, Agree}
use Rattle.twin_worlds.specs.declared.rows.MovedRow.{MovedRow}
use Rattle.twin_worlds.specs.declared.answers.TwinError.{TwinError}
use Rattle.twin_worlds.specs.declared.answers.TwinError.TheVariants as twin
use Rattle.twin_worlds.specs.declared.answers.PoolTwinError.{PoolTwinError}
use Rattle.twin_worlds.specs.declared.answers.PoolTwinError.TheVariants as pool_twin
use Rattle.twin_worlds.specs.Twins.{IsTextOf, lines_under, IsFirstOther, Disagree, DisagreeFor, SameWorldEnds, TwinEnds, PooledTwinEnds}
use Rattle.twin_worlds.specs.Statements.{IsHonestText, FindsSameWorld, FindsTwins, FindsPooledTwins, IsHonestFor, IsHonest}
use Rattle.twin_worlds.proofs.CompareLemmas.{get-map}

-- one text has one transcript
same-text : (text : List ℕ) (t u : TranscriptView) → length text < 2 ^ 64 → IsTranscript t → text ≡ transcript_text t → IsTextOf u text → t ≡ u
same-text text t u few sound text_is is = let one : ◌≡◌ {A = Result TranscriptView ReadError} (Ok t) (Ok u) = sym (read_back text t few sound text_is) ∙ is.read in cc one

-- no line is another than the one that is due
no-other : (m : Masks) (x : ReadingsView) (t : TranscriptView) (k : ℕ) (expected found : Line) (tick : ℕ) (fate : List ℕ) → lines_of t.entries ≡ lines_under x m t → IsFirstOther m x t k expected found tick fate → ⊥
no-other m x t k expected found tick fate lines other =
    let e : Entry = record { tick = tick; fate = fate; line = found } in
    let both : Some expected ≡ Some found = sym other.expected_is ∙ ap (λ ls. slice_get ls k) (sym lines) ∙ get-map (λ (z : Entry). z.line) t.entries k e other.entry in
    other.other (cc both)

no-difference : (x y : ReadingsView) (t : TranscriptView) (cause : Differ) → Agree x.plan.groups (reading x.table) (reading y.table) (reverse (events_of t.entries)) → Disagree x y t cause → ⊥
no-difference x y t (differ.Presence g r i) agree is = is.ends.differs (agree.presence g r i)
no-difference x y t (differ.Total g r a b) agree is =
    let first = is.ends.1 in
    first.differ (first.first ∙ agree.totals g r first.opened ∙ sym first.second)
no-difference x y t differ.Memory agree is = is.known refl

no-difference_for : (pool : Pool) (x y : ReadingsView) (t : TranscriptView) (cause : Differ) → AgreeFor pool x.plan.groups (reading x.table) (reading y.table) (reverse (events_of t.entries)) → DisagreeFor pool x y t cause → ⊥
no-difference_for pool x y t (differ.Presence g r i) agree is = is.ends.differs (agree.presence g r i)
no-difference_for pool x y t (differ.Total g r a b) agree is =
    let first = is.ends.2 in
    first.differ (first.first ∙ agree.totals g r first.opened ∙ sym first.second)
no-difference_for pool x y t differ.Memory agree is = is.known refl

-- the transcript isn't refused
not-refused : (m : Masks) (x : ReadingsView) (text : List ℕ) (t : TranscriptView) (e : TwinError) → IsHonestText m x text t → SameWorldEnds m x text (Err e) → FindsSameWorld t (Err e)
not-refused m x text t (twin.Transcript refusal) honest ends =
    let both : ◌≡◌ {A = Result TranscriptView ReadError} (Ok t) (Err refusal) = sym (read_back text t honest.few honest.sound honest.text_is) ∙ ends.1 in
    absurd (cc both)
not-refused m x text t twin.Head honest ends =
    let same = same-text text t ends.0 honest.few honest.sound honest.text_is ends.1 in
    absurd (ends.2 (ap (λ z. z.plan) (sym same) ∙ honest.plan_is))
not-refused m x text t (twin.NotThis line expected found tick fate) honest ends =
    let same = same-text text t ends.0 honest.few honest.sound honest.text_is ends.1 in
    absurd (no-other m x ends.0 ends.3.0 expected found tick fate (subst (λ z. lines_of z.entries ≡ lines_under x m z) same honest.lines_are) ends.3.2)
not-refused m x text t (twin.Differ cause) honest ends = ends
not-refused m x text t twin.Memory honest ends = tt

pub honest-have-same-world : (m : Masks) (x : ReadingsView) (text : List ℕ) (t : TranscriptView) (result : Result TranscriptView TwinError) → IsHonestText m x text t → SameWorldEnds m x text result → FindsSameWorld t result
honest-have-same-world m x text t (Ok found) honest ends = sym (same-text text t found honest.few honest.sound honest.text_is ends.text_of)
honest-have-same-world m x text t (Err e) honest ends = not-refused m x text t e honest ends

text-of : (pool : Pool) (m : Masks) (x y : ReadingsView) (text : List ℕ) (t : TranscriptView) → IsHonestFor pool m x y text t → IsHonestText m x text t
text-of pool m x y text t honest = record { sound = honest.sound; text_is = honest.text_is; few = honest.few; plan_is = honest.plan_is; lines_are = honest.lines_are }

same-record : (pool : Pool) (m : Masks) (x y : ReadingsView) (text : List ℕ) (t u : TranscriptView) → IsHonestFor pool m x y text t → IsTextOf u text → t ≡ u
same-record pool m x y text t u honest is = same-text text t u honest.few honest.sound honest.text_is is

pub honest-have-twins : (m : Masks) (x y : ReadingsView) (text : List ℕ) (t : TranscriptView) (result : Result (List MovedRow) TwinError) → IsHonest m x y text t → TwinEnds m x y text result → FindsTwins result
honest-have-twins m x y text t (Ok rows) honest ends = tt
honest-have-twins m x y text t (Err (twin.Transcript refusal)) honest ends = not-refused m x text t (twin.Transcript refusal) (text-of nobody m x y text t honest) ends
honest-have-twins m x y text t (Err twin.Head) honest ends = not-refused m x text t twin.Head (text-of nobody m x y text t honest) ends
honest-have-twins m x y text t (Err (twin.NotThis line expected found tick fate)) honest ends =
    not-refused m x text t (twin.NotThis line expected found tick fate) (text-of nobody m x y text t honest) ends
honest-have-twins m x y text t (Err (twin.Differ cause)) honest ends =
    let same = same-record nobody m x y text t ends.0 honest ends.1.text_of in
    absurd (no-difference x y ends.0 cause (subst (λ z. Agree x.plan.groups (reading x.table) (reading y.table) (reverse (events_of z.entries))) same honest.agree) ends.2)
honest-have-twins m x y text t (Err twin.Memory) honest ends = tt

pub honest-have-pooled : (pool : Pool) (m : Masks) (x y : ReadingsView) (text : List ℕ) (t : TranscriptView) (result : Result (List MovedRow) PoolTwinError) → IsHonestFor pool m x y text t → PooledTwinEnds pool m x y text result → FindsPooledTwins result
honest-have-pooled pool m x y text t (Ok rows) honest ends = tt
honest-have-pooled pool m x y text t (Err (pool_twin.Known g r i)) honest ends = absurd (ends.2.first.differs (honest.agree.readings g r i ends.2.first.known))
honest-have-pooled pool m x y text t (Err (pool_twin.Other (twin.Transcript refusal))) honest ends = not-refused m x text t (twin.Transcript refusal) (text-of pool m x y text t honest) ends
honest-have-pooled pool m x y text t (Err (pool_twin.Other twin.Head)) honest ends = not-refused m x text t twin.Head (text-of pool m x y text t honest) ends
honest-have-pooled pool m x y text t (Err (pool_twin.Other (twin.NotThis line expected found tick fate))) honest ends =
    not-refused m x text t (twin.NotThis line expected found tick fate) (text-of pool m x y text t honest) ends
honest-have-pooled pool m x y text t (Err (pool_twin.Other (twin.Differ cause))) honest ends =
    let same = same-record pool m x y text t ends.0 honest ends.1.text_of in
    absurd (no-difference_for pool x y ends.0 cause (subst (λ z. AgreeFor pool x.plan.groups (reading x.table) (reading y.table) (reverse (events_of z.entries))) same honest.agree) ends.2)
honest-have-pooled pool m x y text t (Err (pool_twin.Other twin.Memory)) honest ends = tt
