-- The lines of a book without words, filled: they are those that the contents give for its events.
use Rattle.std.proofs.Common.{◌≡◌, ℕ, Bool, true, false, not, List, [], ◌∷◌, ◌++◌, refl, sym, ap, ◌∙◌, subst}
use Rattle.std.specs.Prelude.{if◌then◌else◌, map, All, Option, Some, None}
use Rattle.std.proofs.lemmas.Bool.{and_from, and_parts}
use Rattle.std.proofs.lemmas.List.Elements.{All-nil, All-cons, All-head, All-tail, All-map, All-weaker}
use Rattle.group_plan.specs.declared.Kind.{Kind}
use Rattle.group_plan.specs.declared.Kind.TheVariants.{Reading, Announcement, Answer}
use Rattle.group_plan.specs.declared.Tag.{Tag}
use Rattle.group_plan.specs.Tables.{ReadingsView, reading}
use Rattle.meter_frames.specs.declared.Frame.{Frame}
use Rattle.round_machine.specs.declared.Ending.TheVariants.{Total, Lacking, Thin, Already, NotClosed}
use Rattle.event_schedule.specs.declared.Entry.{Entry}
use Rattle.event_schedule.specs.declared.Event.{Event}
use Rattle.event_schedule.specs.declared.Event.TheVariants.{Send, Take, Close, End}
use Rattle.event_schedule.specs.declared.Line.{Line}
use Rattle.event_schedule.specs.declared.Line.TheVariants.{Send as SendLine, Take as TakeLine, Close as CloseLine, End as EndLine}
use Rattle.event_schedule.specs.Events.{event_of, events_of}
use Rattle.event_schedule.specs.Frames.{contents_of_lines}
use Rattle.event_schedule.specs.Journal.{past_of, IsJournalAfter, HasFramesOf}
use Rattle.event_schedule.specs.Schedule.{Shape, is_closed, is_ended, is_announced, is_reading_taken, reaches_floor, may_send, survivors, all_taken, lacking}
use Rattle.event_schedule.specs.Tables.{Masks}
use Rattle.event_schedule.specs.Transcript.{Contents, set_sent, word_sent, frame, ending, line, lines_after, contents_of_tables}
use Rattle.event_schedule.proofs.ScheduleLemmas.{once-more, is_announced-more, is_reading_taken-closed, missing-closed, is_closed-from_taken, after, after-keeps, after-reverse, survivors-after}
use Rattle.event_schedule.specs.Transcripts.{TranscriptView, Fits, IsTranscript}
use Rattle.group_book.specs.Books.{BookView, shape_of, past}
use Rattle.group_book.proofs.LineLemmas.{past_of-push}
use Rattle.ideal_masks.specs.Replaying.{no_contents, IsOfBook, HasEvents, HasBlankFrames}
use Rattle.ideal_masks.proofs.ReplayLemmas.{of_book, events-same}
use Rattle.ideal_masks.proofs.WorldLemmas.{shape-of_events}
use Rattle.twin_worlds.specs.Twins.{lines_under}
use Rattle.twin_worlds.specs.Worlds.{IsLineOf, filled}

-- ---- the frame of a tag

-- what a Send of the tag carries, where it has effect
abbrev carried : Shape → Contents → Tag → List Event → Frame
carried s c tag p = record { tag = tag; missing = set_sent s tag.kind tag.group tag.round p; word = word_sent s c tag.kind tag.group tag.round tag.meter p }

frame-sent : (s : Shape) (c : Contents) (tag : Tag) (p : List Event) → may_send s tag.kind tag.group tag.round tag.meter p ≡ true → frame s c tag p ≡ Some (carried s c tag p)
frame-sent s c tag p may = ap (λ b. if b then Some (carried s c tag p) else None) may

frame-void : (s : Shape) (c : Contents) (tag : Tag) (p : List Event) → may_send s tag.kind tag.group tag.round tag.meter p ≡ false → frame s c tag p ≡ None
frame-void s c tag p void = ap (λ b. if b then Some (carried s c tag p) else None) void

record Carries (s : Shape) (c : Contents) (tag : Tag) (p : List Event) (f : Frame) : Type 0 where
  may : may_send s tag.kind tag.group tag.round tag.meter p ≡ true
  is : f ≡ carried s c tag p

carries : (s : Shape) (c : Contents) (tag : Tag) (p : List Event) (f : Frame) → frame s c tag p ≡ Some f → Carries s c tag p f
carries s c tag p f h = step (may_send s tag.kind tag.group tag.round tag.meter p) refl h
  where
    step : (b : Bool) → may_send s tag.kind tag.group tag.round tag.meter p ≡ b → (if b then Some (carried s c tag p) else None) ≡ Some f → Carries s c tag p f
    step true may e = record { may = may; is = sym (cc e) }
    step false may e = absurd (cc e)

-- ---- it stays

record Stays (s : Shape) (c : Contents) (k : Kind) (g r i : ℕ) (e : Event) (p : List Event) : Type 0 where
  may : may_send s k g r i (e ∷ p) ≡ true
  set : set_sent s k g r (e ∷ p) ≡ set_sent s k g r p
  word : word_sent s c k g r i (e ∷ p) ≡ word_sent s c k g r i p

stays : (s : Shape) (c : Contents) (k : Kind) (g r i : ℕ) (e : Event) (p : List Event) → may_send s k g r i p ≡ true → Stays s c k g r i e p
stays s c Reading g r i e p may = record { may = may; set = refl; word = refl }
stays s c Announcement g r i e p may =
    let both = and_parts (is_announced s g r p) (is_reading_taken s g r i p) may in
    let closed : is_closed g r p ≡ true = (and_parts (is_closed g r p) (reaches_floor s g r p) both.0).0 in
    record {
      may = and_from (is_announced s g r (e ∷ p)) (is_reading_taken s g r i (e ∷ p)) (is_announced-more s g r e p both.0) (is_reading_taken-closed s g r i e p closed ∙ both.1);
      set = missing-closed s g r e p closed;
      word = refl;
    }
stays s c Answer g r i e p may =
    let closed : is_closed g r p ≡ true = is_closed-from_taken s g r i p may in
    record { may = once-more _ e p may; set = missing-closed s g r e p closed; word = ap (c.answer g r i) (missing-closed s g r e p closed) }

frame-more : (s : Shape) (c : Contents) (tag : Tag) (f : Frame) (e : Event) (p : List Event) → frame s c tag p ≡ Some f → frame s c tag (e ∷ p) ≡ Some f
frame-more s c tag f e p h =
    let now = carries s c tag p f h in
    let later = stays s c tag.kind tag.group tag.round tag.meter e p now.may in
    frame-sent s c tag (e ∷ p) later.may
    ∙ ap (λ set. Some (record { tag = tag; missing = set; word = word_sent s c tag.kind tag.group tag.round tag.meter (e ∷ p) })) later.set
    ∙ ap (λ word. Some (record { tag = tag; missing = set_sent s tag.kind tag.group tag.round p; word = word })) later.word
    ∙ ap Some (sym now.is)

-- whatever comes later
frame-after : (s : Shape) (c : Contents) (tag : Tag) (f : Frame) (p rest : List Event) → frame s c tag p ≡ Some f → frame s c tag (after p rest) ≡ Some f
frame-after s c tag f p rest h = after-keeps (λ q. frame s c tag q ≡ Some f) (λ e q. frame-more s c tag f e q) p rest h

-- what a frame without words says of its tag
pub blank-may : (s : Shape) (tag : Tag) (p : List Event) (f : Frame) → frame s no_contents tag p ≡ Some f → may_send s tag.kind tag.group tag.round tag.meter p ≡ true
blank-may s tag p f h = (carries s no_contents tag p f h).may

-- with its word it is the frame of the tag
pub with-word : (s : Shape) (c : Contents) (tag : Tag) (p : List Event) (f : Frame) (w : ℕ) → frame s no_contents tag p ≡ Some f → w ≡ word_sent s c tag.kind tag.group tag.round tag.meter p
    → frame s c tag p ≡ Some (record { tag = tag; missing = f.missing; word = w })
with-word s c tag p f w h word =
    let is = carries s no_contents tag p f h in
    frame-sent s c tag p is.may
    ∙ ap (λ z. Some (record { tag = tag; missing = z; word = word_sent s c tag.kind tag.group tag.round tag.meter p })) (sym (ap (λ (z : Frame). z.missing) is.is))
    ∙ ap (λ z. Some (record { tag = tag; missing = f.missing; word = z })) (sym word)

-- ---- one line

sent-line : (s : Shape) (c : Contents) (tag : Tag) (p rest : List Event) → filled s c (after p rest) (SendLine tag (frame s no_contents tag p)) ≡ SendLine tag (frame s c tag p)
sent-line s c tag p rest = step (may_send s tag.kind tag.group tag.round tag.meter p) refl
  where
    step : (b : Bool) → may_send s tag.kind tag.group tag.round tag.meter p ≡ b → filled s c (after p rest) (SendLine tag (frame s no_contents tag p)) ≡ SendLine tag (frame s c tag p)
    step true may =
        ap (λ o. filled s c (after p rest) (SendLine tag o)) (frame-sent s no_contents tag p may)
        ∙ ap (SendLine tag) (frame-after s c tag (carried s c tag p) p rest (frame-sent s c tag p may) ∙ sym (frame-sent s c tag p may))
    step false void =
        ap (λ o. filled s c (after p rest) (SendLine tag o)) (frame-void s no_contents tag p void)
        ∙ ap (SendLine tag) (sym (frame-void s c tag p void))

end-line : (s : Shape) (c d : Contents) (g r : ℕ) (p rest : List Event) → filled s c (after p rest) (EndLine g r (ending s d g r p)) ≡ EndLine g r (ending s c g r p)
end-line s c d g r p rest = step (is_closed g r p) (is_ended g r p) (is_announced s g r p) (all_taken s g r p) refl
  where
    step : (closed ended announced taken : Bool) → is_closed g r p ≡ closed
        → filled s c (after p rest) (EndLine g r (if not closed then NotClosed else if ended then Already else if not announced then Thin else
        if taken then Total (d.total g r (survivors s g r p)) else Lacking (lacking s g r p)))
        ≡ EndLine g r (if not closed then NotClosed else if ended then Already else if not announced then Thin else
        if taken then Total (c.total g r (survivors s g r p)) else Lacking (lacking s g r p))
    step false ended announced taken is = refl
    step true true announced taken is = refl
    step true false false taken is = refl
    step true false true true is = ap (λ a. EndLine g r (Total (c.total g r a))) (survivors-after s g r p rest is)
    step true false true false is = refl

-- ---- all lines

after-more : (j ls : List Line) (l : Line) (whole : List Event) → after (past_of j) (map event_of (l ∷ ls)) ≡ whole → after (past_of (j ++ l ∷ [])) (map event_of ls) ≡ whole
unfolding after
after-more j ls l whole is = ap (λ p. after p (map event_of ls)) (past_of-push j l) ∙ is

fills-more : (s : Shape) (c : Contents) (j ls : List Line) (l : Line) (whole : List Event) → filled s c whole l ≡ line s c (past_of j) (event_of l)
    → map (filled s c whole) ls ≡ lines_after s c (past_of (j ++ l ∷ [])) (map event_of ls) → map (filled s c whole) (l ∷ ls) ≡ lines_after s c (past_of j) (map event_of (l ∷ ls))
unfolding lines_after
fills-more s c j ls l whole here later =
    ap (λ z. z ∷ map (filled s c whole) ls) here
    ∙ ap (λ zs. line s c (past_of j) (event_of l) ∷ zs) (later ∙ ap (λ p. lines_after s c p (map event_of ls)) (past_of-push j l))

fills-none : (s : Shape) (c : Contents) (j : List Line) (whole : List Event) → map (filled s c whole) [] ≡ lines_after s c (past_of j) (map event_of [])
unfolding lines_after
fills-none s c j whole = refl

-- the lines after a journal, where `whole` are all events
fills : (s : Shape) (c : Contents) (j ls : List Line) (whole : List Event) → after (past_of j) (map event_of ls) ≡ whole → IsJournalAfter s j ls → HasFramesOf s no_contents j ls
    → map (filled s c whole) ls ≡ lines_after s c (past_of j) (map event_of ls)
fills s c j [] whole is legal has = fills-none s c j whole
fills s c j (SendLine tag f ∷ ls) whole is legal has =
    let p = past_of j in
    let here : filled s c whole (SendLine tag f) ≡ SendLine tag (frame s c tag p)
    = ap (λ o. filled s c whole (SendLine tag o)) has.0
    ∙ subst (λ q. filled s c q (SendLine tag (frame s no_contents tag p)) ≡ SendLine tag (frame s c tag p)) is (sent-line s c tag p (Send tag ∷ map event_of ls)) in
    fills-more s c j ls (SendLine tag f) whole here (fills s c (j ++ SendLine tag f ∷ []) ls whole (after-more j ls (SendLine tag f) whole is) legal.1 has.1)
fills s c j (TakeLine tag v ∷ ls) whole is legal has =
    fills-more s c j ls (TakeLine tag v) whole legal.0 (fills s c (j ++ TakeLine tag v ∷ []) ls whole (after-more j ls (TakeLine tag v) whole is) legal.1 has)
fills s c j (CloseLine g r v ∷ ls) whole is legal has =
    fills-more s c j ls (CloseLine g r v) whole legal.0 (fills s c (j ++ CloseLine g r v ∷ []) ls whole (after-more j ls (CloseLine g r v) whole is) legal.1 has)
fills s c j (EndLine g r v ∷ ls) whole is legal has =
    let p = past_of j in
    let d = contents_of_lines j in
    let here : filled s c whole (EndLine g r v) ≡ EndLine g r (ending s c g r p)
    = ap (filled s c whole) legal.0
    ∙ subst (λ q. filled s c q (EndLine g r (ending s d g r p)) ≡ EndLine g r (ending s c g r p)) is (end-line s c d g r p (End g r ∷ map event_of ls)) in
    fills-more s c j ls (EndLine g r v) whole here (fills s c (j ++ EndLine g r v ∷ []) ls whole (after-more j ls (EndLine g r v) whole is) legal.1 has)

-- each of them is a line of the book
lines-of : (b : BookView) (j ls : List Line) → after (past_of j) (map event_of ls) ≡ past b → HasFramesOf (shape_of b) no_contents j ls → All (IsOfBook b) (map event_of ls) → All (IsLineOf b) ls
lines-of b j [] is has of = All-nil (IsLineOf b)
lines-of b j (SendLine tag f ∷ ls) is has of =
    All-cons (IsLineOf b) (SendLine tag f) ls (here f has.0)
    (lines-of b (j ++ SendLine tag f ∷ []) ls (after-more j ls (SendLine tag f) (past b) is) has.1 (All-tail (IsOfBook b) (Send tag) (map event_of ls) of))
  where
    here : (o : Option Frame) → o ≡ frame (shape_of b) no_contents tag (past_of j) → IsLineOf b (SendLine tag o)
    here None at = tt
    here (Some g) at = (
      All-head (IsOfBook b) (Send tag) (map event_of ls) of,
      subst (λ q. frame (shape_of b) no_contents tag q ≡ Some g) is (frame-after (shape_of b) no_contents tag g (past_of j) (Send tag ∷ map event_of ls) (sym at)),
    )
lines-of b j (TakeLine tag v ∷ ls) is has of =
    All-cons (IsLineOf b) (TakeLine tag v) ls tt
    (lines-of b (j ++ TakeLine tag v ∷ []) ls (after-more j ls (TakeLine tag v) (past b) is) has (All-tail (IsOfBook b) (Take tag) (map event_of ls) of))
lines-of b j (CloseLine g r v ∷ ls) is has of =
    All-cons (IsLineOf b) (CloseLine g r v) ls tt
    (lines-of b (j ++ CloseLine g r v ∷ []) ls (after-more j ls (CloseLine g r v) (past b) is) has (All-tail (IsOfBook b) (Close g r) (map event_of ls) of))
lines-of b j (EndLine g r v ∷ ls) is has of =
    All-cons (IsLineOf b) (EndLine g r v) ls (All-head (IsOfBook b) (End g r) (map event_of ls) of)
    (lines-of b (j ++ EndLine g r v ∷ []) ls (after-more j ls (EndLine g r v) (past b) is) has (All-tail (IsOfBook b) (End g r) (map event_of ls) of))

-- ---- the book of a transcript

pub book-lines : (x : ReadingsView) (t : TranscriptView) (b : BookView) → IsTranscript t → t.plan ≡ x.plan → HasEvents x (events_of t.entries) b → HasBlankFrames b → All (IsLineOf b) b.journal
book-lines x t b fits plan has frames =
    let same : b.presence.plan ≡ t.plan = ap (λ p. p.plan) has.presence ∙ sym plan in
    let entries : All (λ (e : Entry). IsOfBook b (event_of e.line)) t.entries
    = All-weaker (Fits t.plan) (λ (e : Entry). IsOfBook b (event_of e.line)) (λ e here. of_book t.plan e.fate e.line b same here) t.entries fits.fit in
    let events : All (IsOfBook b) (map event_of b.journal)
    = subst (All (IsOfBook b)) (sym (events-same x (events_of t.entries) b has)) (All-map (IsOfBook b) (λ (e : Entry). event_of e.line) t.entries entries) in
    lines-of b [] b.journal (after-reverse (map event_of b.journal)) frames events

pub book-tells : (x : ReadingsView) (m : Masks) (t : TranscriptView) (b : BookView) → HasEvents x (events_of t.entries) b → HasBlankFrames b → IsJournalAfter (shape_of b) [] b.journal
    → map (filled (shape_of b) (contents_of_tables x.plan.groups (reading x.table) m) (past b)) b.journal ≡ lines_under x m t
book-tells x m t b has frames legal =
    let c = contents_of_tables x.plan.groups (reading x.table) m in
    fills (shape_of b) c [] b.journal (past b) (after-reverse (map event_of b.journal)) legal frames
    ∙ ap (λ es. lines_after (shape_of b) c [] es) (events-same x (events_of t.entries) b has)
    ∙ ap (λ s. lines_after s c [] (events_of t.entries)) (shape-of_events x (events_of t.entries) b has)
