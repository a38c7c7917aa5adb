-- Posted frames: each is that of its tag, as long as the run goes on.
use Rattle.std.proofs.Common.{◌≡◌, ◌≢◌, ℕ, Bool, true, false, cond, ◌&&◌, List, [], ◌∷◌, ◌++◌, map, refl, sym, ap, ◌∙◌, subst, append_assoc}
use Rattle.std.specs.Prelude.{if◌then◌else◌, Option, Some, None, is_some}
use mathlib.Core.List.{reverse}
use Rattle.std.proofs.lemmas.Bool.{false≢true, and_parts}
use Rattle.std.proofs.lemmas.List.{map-append}
use Rattle.group_plan.specs.declared.Kind.{Kind}
use Rattle.group_plan.specs.declared.Kind.TheVariants.{Reading, Announcement, Answer}
use Rattle.group_plan.specs.declared.Tag.{Tag}
use Rattle.meter_frames.specs.declared.Frame.{Frame}
use Rattle.meter_frames.specs.Frames.{FitsKind}
use Rattle.event_schedule.specs.declared.Event.{Event}
use Rattle.event_schedule.specs.declared.Event.TheVariants.{Send}
use Rattle.event_schedule.specs.declared.Line.{Line}
use Rattle.event_schedule.specs.declared.Line.TheVariants.{Send as SendLine, Take as TakeLine, Close as CloseLine, End as EndLine}
use Rattle.event_schedule.specs.Events.{is_send, event_of, frame_of}
use Rattle.event_schedule.specs.Schedule.{Shape, may_send}
use Rattle.event_schedule.specs.Transcript.{Contents, set_sent, word_sent, frame}
use Rattle.event_schedule.specs.Journal.{past_of, core_line, HasFramesOf}
use Rattle.event_schedule.proofs.EventLemmas.{is_send-true}
use Rattle.event_schedule.proofs.ScheduleLemmas.{after, after-keeps, after-reverse_aux}
use Rattle.run_rows.specs.Ticks.{tag_of}
use Rattle.group_book.specs.declared.answers.SendAnswer.{SendAnswer}
use Rattle.group_book.specs.declared.answers.SendAnswer.TheVariants.{Unknown, NotAllowed, WrongSet, Differs, Sent}
use Rattle.group_book.specs.Books.{BookView, shape_of, past, knows, allows, missing_of, posted, posted_in, posted_of, Adds, IsFree, HasOtherSet, SendEnds}
use Rattle.tick_run.proofs.FrameSteps.{may_of_frame, frame_more}
use Rattle.tick_run.proofs.PastLemmas.{reverse_aux-append}

past_of-append : (xs ys : List Line) → past_of (xs ++ ys) ≡ after (past_of xs) (map event_of ys)
past_of-append xs ys =
    ap reverse (map-append event_of xs ys)
    ∙ reverse_aux-append (map event_of xs) (map event_of ys) []
    ∙ sym (after-reverse_aux (past_of xs) (map event_of ys))

-- a frame of its tag stays so
pub frame_later : (s : Shape) (w : Contents) (tag : Tag) (f : Frame) (xs ys : List Line) → frame s w tag (past_of xs) ≡ Some f → frame s w tag (past_of (xs ++ ys)) ≡ Some f
frame_later s w tag f xs ys is =
    subst (λ p. frame s w tag p ≡ Some f) (sym (past_of-append xs ys))
    (after-keeps (λ p. frame s w tag p ≡ Some f) (frame_more s w tag f) (past_of xs) (map event_of ys) is)

-- behind a line
pub next : (s : Shape) (w : Contents) (journal : List Line) (l : Line) (rest : List Line) → HasFramesOf s w journal (l ∷ rest) → HasFramesOf s w (journal ++ l ∷ []) rest
next s w journal (SendLine tag f) rest has = has.1
next s w journal (TakeLine tag v) rest has = has
next s w journal (CloseLine g r v) rest has = has
next s w journal (EndLine g r v) rest has = has

posted_from : (s : Shape) (w : Contents) (g r i : ℕ) (k : Kind) (f : Frame) (journal ls : List Line) → HasFramesOf s w journal ls → posted g r i k ls ≡ Some f
    → frame s w (tag_of k g r i) (past_of (journal ++ ls)) ≡ Some f
unfolding posted
posted_from s w g r i k f journal [] has is = absurd (cc is)
posted_from s w g r i k f journal (l ∷ ls) has is =
    step l (is_send g r i k (event_of l) && is_some (frame_of l)) refl has is
    (λ later. subst (λ j. frame s w (tag_of k g r i) (past_of j) ≡ Some f) (append_assoc journal (l ∷ []) ls) (posted_from s w g r i k f (journal ++ l ∷ []) ls (next s w journal l ls has) later))
  where
    step : (x : Line) (b : Bool) → (is_send g r i k (event_of x) && is_some (frame_of x)) ≡ b → HasFramesOf s w journal (x ∷ ls) → cond b (frame_of x) (posted g r i k ls) ≡ Some f
        → (posted g r i k ls ≡ Some f → frame s w (tag_of k g r i) (past_of (journal ++ l ∷ ls)) ≡ Some f) → frame s w (tag_of k g r i) (past_of (journal ++ l ∷ ls)) ≡ Some f
    step (SendLine tag sent) true here words at later =
        let both = and_parts (is_send g r i k (Send tag)) (is_some sent) here in
        let same : Send tag ≡ Send (tag_of k g r i) = is_send-true g r i k (Send tag) both.0 in
        let tags : tag ≡ tag_of k g r i = cc same in
        frame_later s w (tag_of k g r i) f journal (l ∷ ls) (subst (λ z. frame s w z (past_of journal) ≡ Some f) tags (sym words.0 ∙ at))
    step (SendLine tag sent) false here words at later = later at
    step (TakeLine tag v) true here words at later = absurd (false≢true here)
    step (TakeLine tag v) false here words at later = later at
    step (CloseLine a b v) true here words at later = absurd (false≢true here)
    step (CloseLine a b v) false here words at later = later at
    step (EndLine a b v) true here words at later = absurd (false≢true here)
    step (EndLine a b v) false here words at later = later at

-- a posted frame is that of its tag now
pub posted-frame : (s : Shape) (w : Contents) (tag : Tag) (f : Frame) (journal : List Line) → HasFramesOf s w [] journal → posted_in tag journal ≡ Some f → frame s w tag (past_of journal) ≡ Some f
posted-frame s w tag f journal has is = posted_from s w tag.group tag.round tag.meter tag.kind f [] journal has is

-- so no other frame is posted where this one is due
pub free-now : (s : Shape) (w : Contents) (tag : Tag) (f : Frame) (journal : List Line) → HasFramesOf s w [] journal → frame s w tag (past_of journal) ≡ Some f → IsFree (posted_in tag journal) f
free-now s w tag f journal has is = step (posted_in tag journal) refl
  where
    step : (o : Option Frame) → posted_in tag journal ≡ o → IsFree o f
    step None at = tt
    step (Some p) at = let same : Some p ≡ Some f = sym (posted-frame s w tag p journal has at) ∙ is in cc same

-- what a frame of a tag is
pub record FrameFacts (s : Shape) (tag : Tag) (p : List Event) (f : Frame) : Type 0 where
  pub same : f.tag ≡ tag
  pub set : f.missing ≡ set_sent s tag.kind tag.group tag.round p
  pub fits : FitsKind f.tag.kind f.missing f.word

pub frame-facts : (s : Shape) (w : Contents) (tag : Tag) (f : Frame) (p : List Event) → frame s w tag p ≡ Some f → FrameFacts s tag p f
frame-facts s w tag f p is =
    subst (FrameFacts s tag p) (made (may_send s tag.kind tag.group tag.round tag.meter p) is) (record { same = refl; set = refl; fits = by_kind tag.kind tag.group tag.round tag.meter })
  where
    by_kind : (k : Kind) (g r i : ℕ) → FitsKind k (set_sent s k g r p) (word_sent s w k g r i p)
    by_kind Reading g r i = refl
    by_kind Announcement g r i = refl
    by_kind Answer g r i = tt

    made : (b : Bool) → (if b then Some (record { tag = tag; missing = set_sent s tag.kind tag.group tag.round p; word = word_sent s w tag.kind tag.group tag.round tag.meter p }) else None) ≡ Some f
        → ◌≡◌ {A = Frame} (record { tag = tag; missing = set_sent s tag.kind tag.group tag.round p; word = word_sent s w tag.kind tag.group tag.round tag.meter p }) f
    made true h = cc h
    made false h = absurd (cc h)

-- a book that knows the tag and where the frame of the tag is this one sends it
pub sent-only : (b c : BookView) (s : Shape) (w : Contents) (f : Frame) (answer : SendAnswer) → shape_of b ≡ s → HasFramesOf s w [] b.journal → frame s w f.tag (past b) ≡ Some f → knows b f.tag ≡ true
    → SendEnds b f answer c → (answer ≡ Sent) × Adds b (Send f.tag) (Some f) c
sent-only b c s w f answer shape has is known ends =
    let may : allows b f.tag ≡ true = ap (λ z. may_send z f.tag.kind f.tag.group f.tag.round f.tag.meter (past b)) shape ∙ may_of_frame s w f.tag f (past b) is in
    let facts = frame-facts s w f.tag f (past b) is in
    by_answer answer ends may
    (facts.set ∙ ap (λ z. set_sent z f.tag.kind f.tag.group f.tag.round (past b)) (sym shape))
    (free-now s w f.tag f b.journal has is)
  where
    not_other : (k : Kind) (set : List ℕ) → HasOtherSet k set f.missing → set ≡ missing_of b f.tag → f.missing ≡ set_sent (shape_of b) k f.tag.group f.tag.round (past b) → ⊥
    not_other Reading set other at sent = other
    not_other Announcement set other at sent = other (at ∙ sym sent)
    not_other Answer set other at sent = other (at ∙ sym sent)

    not_differs : (o : Option Frame) (p : Frame) → o ≡ Some p → p ≢ f → IsFree o f → ⊥
    not_differs None p at differs free = cc at
    not_differs (Some q) p at differs free = let same : q ≡ p = cc at in differs (sym same ∙ free)

    by_answer : (a : SendAnswer) → SendEnds b f a c → allows b f.tag ≡ true → f.missing ≡ set_sent (shape_of b) f.tag.kind f.tag.group f.tag.round (past b) → IsFree (posted_of b f.tag) f
        → (a ≡ Sent) × Adds b (Send f.tag) (Some f) c
    by_answer Unknown e may set free = absurd (false≢true (sym e.0 ∙ known))
    by_answer NotAllowed e may set free = absurd (false≢true (sym e.1 ∙ may))
    by_answer (WrongSet other) e may set free = absurd (not_other f.tag.kind other e.3 e.2 set)
    by_answer (Differs p) e may set free = absurd (not_differs (posted_of b f.tag) p e.3 e.4 free)
    by_answer Sent e may set free = (refl, e.4)

-- the line that is added has the frame
pub sent-line : (s : Shape) (journal : List Line) (f : Frame) → may_send s f.tag.kind f.tag.group f.tag.round f.tag.meter (past_of journal) ≡ true
    → core_line s journal (Send f.tag) (Some f) ≡ SendLine f.tag (Some f)
sent-line s journal f may = ap (λ b. SendLine f.tag (if b then Some f else None)) may
