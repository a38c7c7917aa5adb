-- Frames without words: each is sent as the frame of its tag, and what is posted stays it.
use Rattle.std.proofs.Common.{◌≡◌, ◌≢◌, ℕ, Bool, true, false, List, [], ◌∷◌, ◌++◌, refl, sym, ap, ◌∙◌, subst, append_assoc, append-nil, ◌⊎◌, ⊎_elim}
use Rattle.std.specs.Prelude.{if◌then◌else◌, Option, Some, None, Result, Ok, Err}
use Rattle.std.proofs.lemmas.Bool.{false≢true, and_from, and_parts}
use Rattle.group_plan.specs.declared.Kind.{Kind}
use Rattle.group_plan.specs.declared.Kind.TheVariants.{Reading, Announcement, Answer}
use Rattle.group_plan.specs.declared.Tag.{Tag}
use Rattle.meter_frames.specs.declared.Frame.{Frame}
use Rattle.event_schedule.specs.declared.Event.{Event}
use Rattle.event_schedule.specs.declared.Event.TheVariants.{Send, Take, Close, End}
use Rattle.event_schedule.specs.declared.Line.{Line}
use Rattle.event_schedule.specs.declared.Line.TheVariants.{Send as SendLine, Take as TakeLine, Close as CloseLine, End as EndLine}
use Rattle.event_schedule.specs.Events.{event_of, is_send}
use Rattle.event_schedule.specs.Schedule.{Shape, shape_of_presence, is_closed, is_announced, is_reading_taken, reaches_floor, may_send, missing}
use Rattle.event_schedule.specs.Transcript.{set_sent, word_sent, frame}
use Rattle.event_schedule.specs.Journal.{past_of, core_line, HasFramesOf}
use Rattle.event_schedule.proofs.EventLemmas.{is_send-true}
use Rattle.event_schedule.proofs.ScheduleLemmas.{once-more, is_announced-more, is_reading_taken-closed, missing-closed, is_closed-from_taken, is_announced-from_sent, is_announcement_sent-from_taken}
use Rattle.group_book.specs.declared.answers.SendAnswer.{SendAnswer}
use Rattle.group_book.specs.declared.answers.SendAnswer.TheVariants.{Unknown, NotAllowed, WrongSet, Differs, Sent}
use Rattle.group_book.specs.declared.answers.TakeError.{TakeError}
use Rattle.group_book.specs.declared.answers.TakeError.TheVariants as refused
use Rattle.round_machine.specs.declared.Verdict.{Verdict}
use Rattle.group_book.specs.Books.{BookView, shape_of, past, knows, allows, posted_in, missing_of, Adds, HasOtherSet, SendEnds, TakeEnds}
use Rattle.group_book.proofs.LineLemmas.{past_of-push, first_of, posts, posted-push}
use Rattle.ideal_masks.specs.Replaying.{no_contents, IsBlank, MakesEvent}

-- ---- the frame of a tag

-- what a Send carries, where it has effect
abbrev pub carried : Shape → Tag → List Event → Frame
carried s tag p = record { tag = tag; missing = set_sent s tag.kind tag.group tag.round p; word = 0 }

word_none : (s : Shape) (k : Kind) (g r i : ℕ) (p : List Event) → word_sent s no_contents k g r i p ≡ 0
word_none s Reading g r i p = refl
word_none s Announcement g r i p = refl
word_none s Answer g r i p = refl

frame-is : (s : Shape) (tag : Tag) (p : List Event) → frame s no_contents tag p ≡ (if may_send s tag.kind tag.group tag.round tag.meter p then Some (carried s tag p) else None)
frame-is s tag p =
    ap (λ w. if may_send s tag.kind tag.group tag.round tag.meter p then Some (record { tag = tag; missing = set_sent s tag.kind tag.group tag.round p; word = w }) else None)
    (word_none s tag.kind tag.group tag.round tag.meter p)

pub frame-sent : (s : Shape) (tag : Tag) (p : List Event) → may_send s tag.kind tag.group tag.round tag.meter p ≡ true → frame s no_contents tag p ≡ Some (carried s tag p)
frame-sent s tag p may = frame-is s tag p ∙ ap (λ b. if b then Some (carried s tag p) else None) may

record Has (s : Shape) (tag : Tag) (f : Frame) (p : List Event) : Type 0 where
  may : may_send s tag.kind tag.group tag.round tag.meter p ≡ true
  is : f ≡ carried s tag p

has : (s : Shape) (tag : Tag) (f : Frame) (p : List Event) → frame s no_contents tag p ≡ Some f → Has s tag f p
has s tag f p h = step (may_send s tag.kind tag.group tag.round tag.meter p) refl (sym (frame-is s tag p) ∙ h)
  where
    step : (b : Bool) → may_send s tag.kind tag.group tag.round tag.meter p ≡ b → (if b then Some (carried s tag p) else None) ≡ Some f → Has s tag f p
    step true may e = record { may = may; is = sym (cc e) }
    step false may e = absurd (cc e)

-- ---- it stays

stays_sent : (s : Shape) (k : Kind) (g r i : ℕ) (e : Event) (p : List Event) → may_send s k g r i p ≡ true → (may_send s k g r i (e ∷ p) ≡ true) × (set_sent s k g r (e ∷ p) ≡ set_sent s k g r p)
stays_sent s Reading g r i e p may = (may, refl)
stays_sent s Announcement g r i e p may =
    let both = and_parts (is_announced s g r p) (is_reading_taken s g r i p) may in
    let closed : is_closed g r p ≡ true = (and_parts (is_closed g r p) (reaches_floor s g r p) both.0).0 in (
      and_from (is_announced s g r (e ∷ p)) (is_reading_taken s g r i (e ∷ p)) (is_announced-more s g r e p both.0) (is_reading_taken-closed s g r i e p closed ∙ both.1),
      missing-closed s g r e p closed,
    )
stays_sent s Answer g r i e p may = (once-more _ e p may, missing-closed s g r e p (is_closed-from_taken s g r i p may))

pub frame-more : (s : Shape) (tag : Tag) (f : Frame) (e : Event) (p : List Event) → frame s no_contents tag p ≡ Some f → frame s no_contents tag (e ∷ p) ≡ Some f
frame-more s tag f e p h =
    let now = has s tag f p h in
    let later = stays_sent s tag.kind tag.group tag.round tag.meter e p now.may in
    frame-sent s tag (e ∷ p) later.0
    ∙ ap (λ set. Some (record { tag = tag; missing = set; word = 0 })) later.1
    ∙ ap Some (sym now.is)

-- ---- a line more

-- the line, after this journal, has the frame of its tag where it is a Send
abbrev HasFrame : Shape → List Line → Line → Type 0
HasFrame s j (SendLine tag f) = f ≡ frame s no_contents tag (past_of j)
HasFrame s j _ = Unit {0}

frames-push : (s : Shape) (j ls : List Line) (l : Line) → HasFramesOf s no_contents j ls → HasFrame s (j ++ ls) l → HasFramesOf s no_contents j (ls ++ l ∷ [])
frames-push s j [] (SendLine tag f) has here = (subst (λ q. f ≡ frame s no_contents tag (past_of q)) (append-nil j) here, tt)
frames-push s j [] (TakeLine tag v) has here = tt
frames-push s j [] (CloseLine g r v) has here = tt
frames-push s j [] (EndLine g r v) has here = tt
frames-push s j (SendLine tag f ∷ ls) l has here = (has.0, frames-push s (j ++ SendLine tag f ∷ []) ls l has.1 (subst (λ q. HasFrame s q l) (sym (append_assoc j (SendLine tag f ∷ []) ls)) here))
frames-push s j (TakeLine tag v ∷ ls) l has here = frames-push s (j ++ TakeLine tag v ∷ []) ls l has (subst (λ q. HasFrame s q l) (sym (append_assoc j (TakeLine tag v ∷ []) ls)) here)
frames-push s j (CloseLine g r v ∷ ls) l has here = frames-push s (j ++ CloseLine g r v ∷ []) ls l has (subst (λ q. HasFrame s q l) (sym (append_assoc j (CloseLine g r v ∷ []) ls)) here)
frames-push s j (EndLine g r v ∷ ls) l has here = frames-push s (j ++ EndLine g r v ∷ []) ls l has (subst (λ q. HasFrame s q l) (sym (append_assoc j (EndLine g r v ∷ []) ls)) here)

-- so has the core's line, where the frame that is given is that one
core-frame : (s : Shape) (j : List Line) (e : Event) (given : Option Frame)
    → ((t : Tag) → e ≡ Send t → may_send s t.kind t.group t.round t.meter (past_of j) ≡ true → frame s no_contents t (past_of j) ≡ given) → HasFrame s j (core_line s j e given)
core-frame s j (Send t) given ok = step (may_send s t.kind t.group t.round t.meter (past_of j)) refl
  where
    step : (b : Bool) → may_send s t.kind t.group t.round t.meter (past_of j) ≡ b → (if b then given else None) ≡ frame s no_contents t (past_of j)
    step true may = sym (ok t refl may)
    step false may = sym (frame-is s t (past_of j) ∙ ap (λ b. if b then Some (carried s t (past_of j)) else None) may)
core-frame s j (Take t) given ok = tt
core-frame s j (Close g r) given ok = tt
core-frame s j (End g r) given ok = tt

-- ---- one event more

core-event : (s : Shape) (j : List Line) (e : Event) (given : Option Frame) → event_of (core_line s j e given) ≡ e
core-event s j (Send tag) given = refl
core-event s j (Take tag) given = refl
core-event s j (Close g r) given = refl
core-event s j (End g r) given = refl

-- what the line of an event posts under a tag is the frame of the tag
posted-now : (s : Shape) (j : List Line) (e : Event) (given : Option Frame) (tag : Tag) (f : Frame)
    → ((t : Tag) → e ≡ Send t → may_send s t.kind t.group t.round t.meter (past_of j) ≡ true → frame s no_contents t (past_of j) ≡ given)
    → posts tag.group tag.round tag.meter tag.kind (core_line s j e given) ≡ Some f → frame s no_contents tag (past_of j) ≡ Some f
posted-now s j (Send t) given tag f ok h =
    step (is_send tag.group tag.round tag.meter tag.kind (Send t)) refl (may_send s t.kind t.group t.round t.meter (past_of j)) refl h
  where
    step : (b : Bool) → is_send tag.group tag.round tag.meter tag.kind (Send t) ≡ b → (m : Bool) → may_send s t.kind t.group t.round t.meter (past_of j) ≡ m
        → (if b then (if m then given else None) else None) ≡ Some f → frame s no_contents tag (past_of j) ≡ Some f
    step true is true may e =
        let same : Send t ≡ Send tag = is_send-true tag.group tag.round tag.meter tag.kind (Send t) is in
        let tags : t ≡ tag = cc same in
        subst (λ z. frame s no_contents z (past_of j) ≡ Some f) tags (ok t refl may ∙ e)
    step true is false may e = absurd (cc e)
    step false is m may e = absurd (cc e)
posted-now s j (Take t) given tag f ok h = absurd (cc h)
posted-now s j (Close g r) given tag f ok h = absurd (cc h)
posted-now s j (End g r) given tag f ok h = absurd (cc h)

-- an event that is added with the frame of its tag
pub makes : (b c : BookView) (e : Event) (given : Option Frame) → IsBlank b → Adds b e given c
    → ((t : Tag) → e ≡ Send t → allows b t ≡ true → frame (shape_of b) no_contents t (past b) ≡ given) → MakesEvent b e c
makes b c e given blank adds ok = record {
  presence = adds.presence;
  past = past_is;
  spare = adds.spare;
  blank = record {
    sent =
        subst (λ j. HasFramesOf (shape_of c) no_contents [] j) (sym adds.journal)
        (subst (λ v. HasFramesOf (shape_of_presence v) no_contents [] (b.journal ++ l ∷ [])) (sym adds.presence)
        (frames-push (shape_of b) [] b.journal l blank.sent (core-frame (shape_of b) b.journal e given ok)));
    posted = λ tag f h.
        subst (λ p. frame (shape_of c) no_contents tag p ≡ Some f) (sym past_is)
        (subst (λ v. frame (shape_of_presence v) no_contents tag (e ∷ past b) ≡ Some f) (sym adds.presence)
        (frame-more (shape_of b) tag f e (past b)
        (first tag f (posted_in tag b.journal) refl (sym (posted-push tag.group tag.round tag.meter tag.kind b.journal l) ∙ ap (posted_in tag) (sym adds.journal) ∙ h))));
  };
}
  where
    l : Line
    l = core_line (shape_of b) b.journal e given

    past_is : past c ≡ e ∷ past b
    past_is = ap past_of adds.journal ∙ past_of-push b.journal l ∙ ap (λ z. z ∷ past b) (core-event (shape_of b) b.journal e given)

    first : (tag : Tag) (f : Frame) (o : Option Frame) → posted_in tag b.journal ≡ o → first_of o (posts tag.group tag.round tag.meter tag.kind l) ≡ Some f → frame (shape_of b) no_contents tag (past b) ≡ Some f
    first tag f (Some p) at h = blank.posted tag f (at ∙ h)
    first tag f None at h = posted-now (shape_of b) b.journal e given tag f ok h

-- ---- a Send and a Take

pub sends : (b c : BookView) (f : Frame) (tag : Tag) (answer : SendAnswer) → f.tag ≡ tag → IsBlank b → knows b tag ≡ true → (allows b tag ≡ true → frame (shape_of b) no_contents tag (past b) ≡ Some f)
    → SendEnds b f answer c → MakesEvent b (Send tag) c
sends b c f tag answer same blank known is ends =
    subst (λ t. MakesEvent b (Send t) c) same
    (by_answer answer (subst (λ t. knows b t ≡ true) (sym same) known) (subst (λ t. allows b t ≡ true → frame (shape_of b) no_contents t (past b) ≡ Some f) (sym same) is) ends)
  where
    given : (allows b f.tag ≡ true → frame (shape_of b) no_contents f.tag (past b) ≡ Some f)
        → (t : Tag) → Send f.tag ≡ Send t → allows b t ≡ true → frame (shape_of b) no_contents t (past b) ≡ Some f
    given now t e may = let tags : f.tag ≡ t = cc e in subst (λ z. allows b z ≡ true → frame (shape_of b) no_contents z (past b) ≡ Some f) tags now may

    not_other : (k : Kind) (set : List ℕ) → HasOtherSet k set f.missing → set ≡ missing_of b f.tag → f.missing ≡ set_sent (shape_of b) k f.tag.group f.tag.round (past b) → ⊥
    not_other Reading set other at sent = other
    not_other Announcement set other at sent = other (at ∙ sym sent)
    not_other Answer set other at sent = other (at ∙ sym sent)

    by_answer : (a : SendAnswer) → knows b f.tag ≡ true → (allows b f.tag ≡ true → frame (shape_of b) no_contents f.tag (past b) ≡ Some f) → SendEnds b f a c → MakesEvent b (Send f.tag) c
    by_answer Unknown known now e = absurd (false≢true (sym e.0 ∙ known))
    by_answer NotAllowed known now e = makes b c (Send f.tag) (Some f) blank e.2 (given now)
    by_answer (WrongSet set) known now e =
        let is = has (shape_of b) f.tag f (past b) (now e.1) in
        absurd (not_other f.tag.kind set e.3 e.2 (ap (λ z. z.missing) is.is))
    by_answer (Differs p) known now e =
        let one : Some p ≡ Some f = sym (blank.posted f.tag p e.3) ∙ now e.1 in
        absurd (e.4 (cc one))
    by_answer Sent known now e = makes b c (Send f.tag) (Some f) blank e.4 (given now)

pub takes : (b c : BookView) (f : Frame) (tag : Tag) (answer : Result Verdict TakeError) → f.tag ≡ tag → IsBlank b → knows b tag ≡ true → (allows b tag ≡ true → frame (shape_of b) no_contents tag (past b) ≡ Some f)
    → TakeEnds b f answer c → MakesEvent b (Take tag) c
takes b c f tag answer same blank known is ends =
    subst (λ t. MakesEvent b (Take t) c) same
    (by_answer answer (subst (λ t. knows b t ≡ true) (sym same) known) (subst (λ t. allows b t ≡ true → frame (shape_of b) no_contents t (past b) ≡ Some f) (sym same) is) ends)
  where
    none : (t : Tag) → Take f.tag ≡ Send t → allows b t ≡ true → frame (shape_of b) no_contents t (past b) ≡ None
    none t e may = absurd (cc e)

    by_answer : (a : Result Verdict TakeError) → knows b f.tag ≡ true → (allows b f.tag ≡ true → frame (shape_of b) no_contents f.tag (past b) ≡ Some f) → TakeEnds b f a c → MakesEvent b (Take f.tag) c
    by_answer (Ok v) known now e = makes b c (Take f.tag) None blank e.3 none
    by_answer (Err refused.Unknown) known now e = absurd (false≢true (sym e.0 ∙ known))
    by_answer (Err (refused.Forged p came)) known now e =
        let posted = blank.posted f.tag p e.1 in
        let one : Some p ≡ Some f = sym posted ∙ now (has (shape_of b) f.tag p (past b) posted).may in
        absurd (e.2 (cc one))

-- ---- a Close and an End

pub closes : (b c : BookView) (g r : ℕ) → IsBlank b → Adds b (Close g r) None c → MakesEvent b (Close g r) c
closes b c g r blank adds = makes b c (Close g r) None blank adds (λ t e may. absurd (cc e))

pub ends_round : (b c : BookView) (g r : ℕ) → IsBlank b → Adds b (End g r) None c → MakesEvent b (End g r) c
ends_round b c g r blank adds = makes b c (End g r) None blank adds (λ t e may. absurd (cc e))

-- ---- the frame that is made

pub blank-frame : (s : Shape) (tag : Tag) (set : List ℕ) (p : List Event) → (tag.kind ≡ Reading → set ≡ [])
    → (tag.kind ≢ Reading → is_announced s tag.group tag.round p ≡ true → set ≡ missing s tag.group tag.round p)
    → may_send s tag.kind tag.group tag.round tag.meter p ≡ true → frame s no_contents tag p ≡ Some (record { tag = tag; missing = set; word = 0 })
blank-frame s tag set p none announced may =
    frame-sent s tag p may ∙ ap (λ z. Some (record { tag = tag; missing = z; word = 0 })) (sym (by_kind tag.kind tag.group tag.round tag.meter none announced may))
  where
    by_kind : (k : Kind) (g r i : ℕ) → (k ≡ Reading → set ≡ []) → (k ≢ Reading → is_announced s g r p ≡ true → set ≡ missing s g r p) → may_send s k g r i p ≡ true → set ≡ set_sent s k g r p
    by_kind Reading g r i one other m = one refl
    by_kind Announcement g r i one other m = other (λ e. cc e) (and_parts (is_announced s g r p) (is_reading_taken s g r i p) m).0
    by_kind Answer g r i one other m = other (λ e. cc e) (is_announced-from_sent s g r i p (is_announcement_sent-from_taken s g r i p m))

pub other_kind : (k : Kind) → (k ≡ Announcement) ⊎ (k ≡ Answer) → k ≡ Reading → ⊥
other_kind k is reading = ⊎_elim (λ (e : k ≡ Announcement). let same : Announcement ≡ Reading = sym e ∙ reading in cc same) (λ (e : k ≡ Answer). let same : Answer ≡ Reading = sym e ∙ reading in cc same) is
