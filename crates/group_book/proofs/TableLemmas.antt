-- A book under a reading table and a mask table.
use Rattle.std.proofs.Common.{◌≡◌, ℕ, Bool, true, false, not, ◌&&◌, List, [], ◌∷◌, ◌++◌, map, refl, sym, ap, ◌∙◌, subst}
use Rattle.std.specs.Prelude.{if◌then◌else◌, Option, Some, None}
use mathlib.Core.Path.{fun_ext}
use Rattle.group_plan.specs.declared.Tag.{Tag}
use Rattle.group_plan.specs.Plans.{Group, IsWithinLimits}
use Rattle.group_plan.specs.Tables.{PresenceView, IsPresenceTable}
use Rattle.meter_frames.specs.declared.Frame.{Frame}
use Rattle.event_schedule.specs.declared.Event.{Event}
use Rattle.event_schedule.specs.declared.Line.{Line}
use Rattle.event_schedule.specs.declared.Line.TheVariants.{Send as SendLine, Take as TakeLine, Close as CloseLine, End as EndLine}
use Rattle.event_schedule.specs.Events.{event_of}
use Rattle.event_schedule.specs.Tables.{Readings, Masks, plain_sum, IsOfPlan, IsBounded}
use Rattle.event_schedule.specs.Schedule.{Shape, shape_of_presence, may_send, survivors, is_ended, all_taken, is_announced, is_opened, lacking, outcome, Running, EndedThin, Published, Unpublished}
use Rattle.event_schedule.specs.Transcript.{Contents, set_sent, word_sent, frame, lines_after, transcript, shape_of_readings, contents_of_tables}
use Rattle.event_schedule.specs.Frames.{contents_of_lines}
use Rattle.event_schedule.specs.Journal.{past_of, IsJournalAfter, HasFramesOf}
use Rattle.event_schedule.proofs.JournalLemmas.{journal_is, total_of_journal}
use Rattle.group_book.specs.Replay.{HasOwnFrames, IsJournal}
use Rattle.group_book.specs.Tables.{HasWordsOf, IsUnder}

-- a frame with its own word is the one with the word of other contents, where these words are the same
frame_under : (s : Shape) (own c : Contents) (tag : Tag) (q : List Event) (f : Frame) → Some f ≡ frame s own tag q → f.word ≡ word_sent s c tag.kind tag.group tag.round tag.meter q → Some f ≡ frame s c tag q
frame_under s own c tag q f is word = cases (may_send s tag.kind tag.group tag.round tag.meter q) is
  where
    made : Contents → Frame
    made d = record { tag = tag; missing = set_sent s tag.kind tag.group tag.round q; word = word_sent s d tag.kind tag.group tag.round tag.meter q }

    same : ◌≡◌ {A = Option Frame} (Some f) (Some (made own)) → f ≡ made own
    same e = cc

    nothing : ◌≡◌ {A = Option Frame} (Some f) None → ⊥
    nothing e = cc

    cases : (b : Bool) → Some f ≡ (if b then Some (made own) else None) → Some f ≡ (if b then Some (made c) else None)
    cases false e = absurd (nothing e)
    cases true e = ap Some (λ k. record { tag = (same e k).tag; missing = (same e k).missing; word = word k })

no_frame_under : (s : Shape) (own c : Contents) (tag : Tag) (q : List Event) → None ≡ frame s own tag q → None ≡ frame s c tag q
no_frame_under s own c tag q is = cases (may_send s tag.kind tag.group tag.round tag.meter q) is
  where
    made : Contents → Frame
    made d = record { tag = tag; missing = set_sent s tag.kind tag.group tag.round q; word = word_sent s d tag.kind tag.group tag.round tag.meter q }

    nothing : ◌≡◌ {A = Option Frame} None (Some (made own)) → ⊥
    nothing e = cc

    cases : (b : Bool) → None ≡ (if b then Some (made own) else None) → None ≡ (if b then Some (made c) else None)
    cases false e = refl
    cases true e = absurd (nothing e)

frames_under : (s : Shape) (c : Contents) (j rest : List Line) → HasOwnFrames s j rest → HasWordsOf s c j rest → HasFramesOf s c j rest
frames_under s c j [] own words = tt
frames_under s c j (SendLine tag (Some f) ∷ rest) own words =
    (frame_under s (contents_of_lines (j ++ SendLine tag (Some f) ∷ [])) c tag (past_of j) f own.0 words.0, frames_under s c (j ++ SendLine tag (Some f) ∷ []) rest own.1 words.1)
frames_under s c j (SendLine tag None ∷ rest) own words =
    (no_frame_under s (contents_of_lines (j ++ SendLine tag None ∷ [])) c tag (past_of j) own.0, frames_under s c (j ++ SendLine tag None ∷ []) rest own.1 words)
frames_under s c j (TakeLine tag v ∷ rest) own words = frames_under s c (j ++ TakeLine tag v ∷ []) rest own words
frames_under s c j (CloseLine g r v ∷ rest) own words = frames_under s c (j ++ CloseLine g r v ∷ []) rest own words
frames_under s c j (EndLine g r v ∷ rest) own words = frames_under s c (j ++ EndLine g r v ∷ []) rest own words

-- ---- the tables of a presence

of_plan : (p : PresenceView) (x : Readings) (m : Masks) (j : List Line) → IsPresenceTable p.plan p.table → IsUnder p x m j → IsOfPlan p.plan.groups x
of_plan p x m j table under g r i some = table.of_members g r i (sym (under.present g r i) ∙ some)

bounded : (p : PresenceView) (x : Readings) (m : Masks) (j : List Line) → IsWithinLimits p.plan → IsUnder p x m j → IsBounded p.plan.groups x
bounded p x m j limits under = record { meters = limits.meters; readings = under.small }

shape_is : (p : PresenceView) (x : Readings) (m : Masks) (j : List Line) → IsUnder p x m j → shape_of_presence p ≡ shape_of_readings p.plan.groups x
shape_is p x m j under = λ k. record { groups = p.plan.groups; present = fun_ext (λ g. fun_ext (λ r. fun_ext (λ i. sym (under.present g r i)))) k }

transcript_none : (groups : List Group) (x : Readings) (m : Masks) → transcript groups x m [] ≡ []
unfolding lines_after
transcript_none groups x m = refl

pub transcript_under : (p : PresenceView) (j : List Line) → IsWithinLimits p.plan → IsPresenceTable p.plan p.table → IsJournal (shape_of_presence p) j → (x : Readings) (m : Masks) → IsUnder p x m j
    → transcript p.plan.groups x m (map event_of j) ≡ j
transcript_under p j limits table is x m under =
    let shape = shape_is p x m j under in
    journal_is p.plan.groups x m (of_plan p x m j table under) (bounded p x m j limits under) [] j (transcript_none p.plan.groups x m)
    (subst (λ s. IsJournalAfter s [] j) shape is.lines)
    (subst (λ s. HasFramesOf s (contents_of_tables p.plan.groups x m) [] j) shape (frames_under (shape_of_presence p) (contents_of_tables p.plan.groups x m) [] j is.frames under.words))

-- an outcome depends on the total of a published round alone
outcome_same : (s : Shape) (f h : ℕ → ℕ → List ℕ → ℕ) (g r : ℕ) (q : List Event) → (is_opened s g r q ≡ true → f g r (survivors s g r q) ≡ h g r (survivors s g r q)) → outcome s f g r q ≡ outcome s h g r q
outcome_same s f h g r q same =
    ap (λ o. if not (is_ended g r q) then Running else if not (is_announced s g r q) then EndedThin else o)
    (cases (is_opened s g r q) (is_ended g r q) (all_taken s g r q) same)
  where
    cases : (o e t : Bool) → (o ≡ true → f g r (survivors s g r q) ≡ h g r (survivors s g r q))
        → (if o && e && t then Published (survivors s g r q) (f g r (survivors s g r q)) else Unpublished (lacking s g r q)) ≡ (if o && e && t then Published (survivors s g r q) (h g r (survivors s g r q)) else Unpublished (lacking s g r q))
    cases true true true totals = ap (Published (survivors s g r q)) (totals refl)
    cases true true false totals = refl
    cases true false t totals = refl
    cases false e t totals = refl

pub outcome_under : (p : PresenceView) (j : List Line) (g r : ℕ) → IsWithinLimits p.plan → IsPresenceTable p.plan p.table → IsJournal (shape_of_presence p) j → (x : Readings) (m : Masks) → IsUnder p x m j
    → outcome (shape_of_presence p) (contents_of_lines j).total g r (past_of j) ≡ outcome (shape_of_readings p.plan.groups x) (plain_sum x) g r (past_of j)
outcome_under p j g r limits table is x m under =
    ap (λ s. outcome s (contents_of_lines j).total g r (past_of j)) (shape_is p x m j under)
    ∙ outcome_same (shape_of_readings p.plan.groups x) (contents_of_lines j).total (plain_sum x) g r (past_of j)
    (total_of_journal p.plan.groups x m j (of_plan p x m j table under) (bounded p x m j limits under) (transcript_under p j limits table is x m under) g r)
