-- Calls on what is kept of a group, one after another.
use Rattle.std.proofs.Common.{◌≡◌, ℕ, ◌+◌, ◌-◌, ◌<◌, ◌≤◌, Bool, true, false, List, [], ◌∷◌, ◌++◌, length, map, take, drop, get_or, refl, sym, ap, ◌∙◌, subst, append_assoc}
use Rattle.std.specs.Prelude.{if◌then◌else◌, Option, Some, None, Result, Ok, Err, OnOk}
use Rattle.std.specs.List.{All, list_all}
use Rattle.std.proofs.lemmas.Bool.{false≢true, and_from}
use Rattle.std.proofs.lemmas.List.{append_cancel_left, take_more, drop_more, drop_all, map-append}
use Rattle.std.proofs.lemmas.List.Elements.{All-append, All-nil, All-cons}
use Rattle.group_plan.specs.Tables.{PresenceView}
use Rattle.meter_frames.specs.declared.Frame.{Frame}
use Rattle.meter_frames.specs.Frames.{spelling, IsFrame}
use Rattle.lossy_link.specs.Arrivals.{Arrival, posted}
use Rattle.round_machine.specs.declared.Verdict.{Verdict}
use Rattle.round_machine.specs.declared.Closing.{Closing}
use Rattle.round_machine.specs.declared.Ending.{Ending}
use Rattle.event_schedule.specs.declared.Event.{Event}
use Rattle.event_schedule.specs.declared.Event.TheVariants.{Take, Close, End}
use Rattle.event_schedule.specs.declared.Line.{Line}
use Rattle.event_schedule.specs.declared.Line.TheVariants.{Send as SendLine, Take as TakeLine, Close as CloseLine, End as EndLine}
use Rattle.event_schedule.specs.Events.{event_of}
use Rattle.transcript_log.specs.Lines.{LinesView}
use Rattle.run_rows.specs.Ticks.{Clock}
use Rattle.group_book.specs.declared.answers.SendAnswer.{SendAnswer}
use Rattle.group_book.specs.declared.answers.TakeError.{TakeError}
use Rattle.group_book.specs.declared.answers.TakeError.TheVariants as refused
use Rattle.group_book.specs.Books.{SendEnds, TakeEnds, CloseEnds, EndEnds, is_plain}
use Rattle.event_schedule.specs.ByGroup.{group_of}
use Rattle.group_book.specs.Groups.{GroupView}
use Rattle.group_book.specs.Replay.{Replays, PagesEnd, book_at}
use Rattle.group_book.proofs.PlainLines.{posted_in-added}
use Rattle.tick_run.specs.GroupRuns.{Calls, IsTakeable, takes_of, close_of, end_of, send_line, IsSendable, AreSendable, SendsAll, posted_all}
use Rattle.tick_run.specs.Running.{is_due, calls_of}

-- ---- calls in general

-- some calls, and then others
pub calls-then : (p : PresenceView) (j : List Line) (es fs : List Event) (before mid after : LinesView) (g : ℕ) (v w : GroupView)
    → (first : Calls p j es before g v mid) → Calls p (j ++ first.added) fs mid g w after → Calls p j (es ++ fs) before g w after
calls-then p j es fs before mid after g v w first next = record {
  added = first.added ++ next.added;
  events_are = map-append event_of first.added next.added ∙ ap (λ l. l ++ map event_of next.added) first.events_are ∙ ap (λ l. es ++ l) next.events_are;
  pages = subst (λ x. Replays p x w) (append_assoc j first.added next.added) next.pages;
  group = next.group;
  own = All-append (λ l. group_of (event_of l) ≡ g) first.added next.added first.own next.own;
  lines = next.lines ∙ ap (λ x. x ++ next.added) first.lines ∙ append_assoc before.items first.added next.added;
}

-- ---- Takes

some-same : (p f : Frame) → ◌≡◌ {A = Option Frame} (Some p) (Some f) → p ≡ f
some-same p f e = cc

-- a frame that stands posted is not refused
pub record TakesOne (p : PresenceView) (j : List Line) (f : Frame) (before : LinesView) (g : ℕ) (v : GroupView) (after : LinesView) : Type 0 where
  pub takes : Calls p j (takes_of (f ∷ [])) before g v after
  pub spare : before.spare ≤ after.spare + 1

pub takes-one : (p : PresenceView) (j : List Line) (f : Frame) (before : LinesView) (g : ℕ) (v : GroupView) (after : LinesView) (res : Result Verdict TakeError) → IsTakeable p g j f
    → PagesEnd p j (λ b c. TakeEnds b f res c) before g v after → TakesOne p j f before g v after
takes-one p j f before g v after (Ok w) can end =
    let adds = end.ends.3 in
    record {
      takes = record {
        added = end.added;
        events_are = ap (map event_of) (append_cancel_left j end.added _ adds.journal);
        pages = end.pages;
        group = end.group;
        own = end.own;
        lines = end.lines;
      };
      spare = adds.spare;
    }
takes-one p j f before g v after (Err refused.Unknown) can end = absurd (false≢true (sym end.ends.0 ∙ can.known))
takes-one p j f before g v after (Err (refused.Forged q came)) can end = absurd (end.ends.2 (some-same q f (sym end.ends.1 ∙ can.posted)))

take_plain : (l : Line) (f : Frame) → event_of l ≡ Take f.tag → is_plain l ≡ true
take_plain (SendLine tag frame) f e = absurd (cc e)
take_plain (TakeLine tag w) f e = refl
take_plain (CloseLine g r w) f e = refl
take_plain (EndLine g r w) f e = refl

all_plain : (added : List Line) (frames : List Frame) → map event_of added ≡ takes_of frames → list_all is_plain added ≡ true
all_plain [] frames e = refl
all_plain (l ∷ added) [] e = absurd (cc e)
all_plain (l ∷ added) (f ∷ frames) e = and_from (is_plain l) (list_all is_plain added) (take_plain l f (cc e)) (all_plain added frames (cc e))

-- what can be taken can be taken after other Takes
pub still-takeable : (p : PresenceView) (g : ℕ) (j added : List Line) (frames : List Frame) (f : Frame) → map event_of added ≡ takes_of frames → IsTakeable p g j f → IsTakeable p g (j ++ added) f
still-takeable p g j added frames f events can = record { own = can.own; known = can.known; posted = posted_in-added f.tag j added (all_plain added frames events) ∙ can.posted }

-- one Take more
pub takes-more : (p : PresenceView) (j : List Line) (frames : List Frame) (k : ℕ) (f : Frame) (before mid after : LinesView) (g : ℕ) (v w : GroupView) → k < length frames → get_or frames k f ≡ f
    → (first : Calls p j (takes_of (take k frames)) before g v mid) → Calls p (j ++ first.added) (takes_of (f ∷ [])) mid g w after → Calls p j (takes_of (take (k + 1) frames)) before g w after
takes-more p j frames k f before mid after g v w lt is first next =
    subst (λ es. Calls p j es before g w after)
    (sym (ap takes_of (take_more frames k f lt ∙ ap (λ x. take k frames ++ x ∷ []) is) ∙ map-append (λ (y : Frame). Take y.tag) (take k frames) (f ∷ [])))
    (calls-then p j (takes_of (take k frames)) (takes_of (f ∷ [])) before mid after g v w first next)

-- ---- a Close and an End

pub closes-one : (p : PresenceView) (j : List Line) (r : ℕ) (before : LinesView) (g : ℕ) (v : GroupView) (after : LinesView) (said : Closing)
    → PagesEnd p j (λ b c. CloseEnds b g r said c) before g v after → Calls p j (close_of g (Some r)) before g v after
closes-one p j r before g v after said end = record {
  added = end.added;
  events_are = ap (map event_of) (append_cancel_left j end.added _ end.ends.adds.journal);
  pages = end.pages;
  group = end.group;
  own = end.own;
  lines = end.lines;
}

pub ends-one : (p : PresenceView) (j : List Line) (r : ℕ) (before : LinesView) (g : ℕ) (v : GroupView) (after : LinesView) (said : Ending)
    → PagesEnd p j (λ b c. EndEnds b g r said c) before g v after → Calls p j (end_of g (Some r)) before g v after
ends-one p j r before g v after said end = record {
  added = end.added;
  events_are = ap (map event_of) (append_cancel_left j end.added _ end.ends.adds.journal);
  pages = end.pages;
  group = end.group;
  own = end.own;
  lines = end.lines;
}

-- the calls of a tick are the Close and the End of the rounds that are due
pub calls-due_rounds : (c : Clock) (t g : ℕ) → close_of g (if is_due c.rounds c.w1 t then Some (t - c.w1) else None) ++ end_of g (if is_due c.rounds (c.w1 + c.w2) t then Some (t - (c.w1 + c.w2)) else None) ≡ calls_of c t g
calls-due_rounds c t g = ap (λ l. l ++ end_of g (if is_due c.rounds (c.w1 + c.w2) t then Some (t - (c.w1 + c.w2)) else None)) (first (is_due c.rounds c.w1 t))
    ∙ ap (λ l. (if is_due c.rounds c.w1 t then Close g (t - c.w1) ∷ [] else []) ++ l) (second (is_due c.rounds (c.w1 + c.w2) t))
  where
    first : (b : Bool) → close_of g (if b then Some (t - c.w1) else None) ≡ (if b then Close g (t - c.w1) ∷ [] else [])
    first true = refl
    first false = refl

    second : (b : Bool) → end_of g (if b then Some (t - (c.w1 + c.w2)) else None) ≡ (if b then End g (t - (c.w1 + c.w2)) ∷ [] else [])
    second true = refl
    second false = refl

-- a Close and an End of the rounds that are due
pub closed-and-ended : (p : PresenceView) (j : List Line) (c : Clock) (t g : ℕ) (closing ending : Option ℕ) (start before mid after : LinesView) (v w : GroupView) → before.items ≡ start.items
    → closing ≡ (if is_due c.rounds c.w1 t then Some (t - c.w1) else None) → ending ≡ (if is_due c.rounds (c.w1 + c.w2) t then Some (t - (c.w1 + c.w2)) else None)
    → (first : Calls p j (close_of g closing) before g v mid) → Calls p (j ++ first.added) (end_of v.group ending) mid v.group w after → Calls p j (calls_of c t g) start g w after
closed-and-ended p j c t g closing ending start before mid after v w same closes ends first next =
    let more : Calls p (j ++ first.added) (end_of g ending) mid g w after = subst (λ (h : ℕ). Calls p (j ++ first.added) (end_of h ending) mid h w after) first.group next in
    let both = calls-then p j (close_of g closing) (end_of g ending) before mid after g v w first more in
    record {
      added = both.added;
      events_are = both.events_are ∙ ap (λ o. close_of g o ++ end_of g ending) closes
          ∙ ap (λ o. close_of g (if is_due c.rounds c.w1 t then Some (t - c.w1) else None) ++ end_of g o) ends ∙ calls-due_rounds c t g;
      pages = both.pages;
      group = both.group;
      own = both.own;
      lines = both.lines ∙ ap (λ l. l ++ both.added) same;
    }

pub on_ok : {A E P Q : Type 0} (r : Result A E) → (P → Q) → OnOk r P → OnOk r Q
on_ok (Ok x) f h = f h
on_ok (Err e) f h = tt

-- ---- Sends

pub record SendsOne (p : PresenceView) (j : List Line) (f : Frame) (before : LinesView) (g : ℕ) (v : GroupView) (after : LinesView) : Type 0 where
  pub sends : SendsAll p j (f ∷ []) before g v after
  pub spare : before.spare ≤ after.spare + 1

-- a frame that can be sent has its line
pub sends-one : (p : PresenceView) (j : List Line) (f : Frame) (before : LinesView) (g : ℕ) (v : GroupView) (after : LinesView) (answer : SendAnswer) → IsSendable p g j f → IsFrame f
    → PagesEnd p j (λ b c. SendEnds b f answer c) before g v after → SendsOne p j f before g v after
sends-one p j f before g v after answer can framed end =
    let adds = can.adds before.spare answer (book_at p (j ++ end.added) after.spare) end.ends in
    let line : end.added ≡ send_line f ∷ [] = append_cancel_left j end.added (send_line f ∷ []) (adds.journal ∙ ap (λ l. j ++ l ∷ []) can.line) in
    record {
      sends = record {
        pages = subst (λ ls. Replays p (j ++ ls) v) line end.pages;
        group = end.group;
        framed = All-cons IsFrame f [] framed (All-nil IsFrame);
        lines = end.lines ∙ ap (λ ls. before.items ++ ls) line;
      };
      spare = adds.spare;
    }

-- the first k frames were sent, and the others can be
pub record SendsUpto (p : PresenceView) (j : List Line) (k : ℕ) (frames : List Frame) (before : LinesView) (g : ℕ) (v : GroupView) (after : LinesView) : Type 0 where
  pub first : SendsAll p j (take k frames) before g v after
  pub rest : AreSendable p g (j ++ map send_line (take k frames)) (drop k frames)

-- the next one of a list
pub next_of : {X : Type 0} (k : ℕ) (xs : List X) (x : X) → k < length xs → get_or xs k x ≡ x → drop k xs ≡ x ∷ drop (k + 1) xs
next_of k xs x lt is = drop_more xs k x lt ∙ ap (λ y. y ∷ drop (k + 1) xs) is

-- the one that comes next can
pub sends-next : (p : PresenceView) (j : List Line) (k : ℕ) (frames : List Frame) (f : Frame) (before : LinesView) (g : ℕ) (v : GroupView) (mid : LinesView) → k < length frames → get_or frames k f ≡ f
    → SendsUpto p j k frames before g v mid → AreSendable p v.group (j ++ map send_line (take k frames)) (f ∷ [])
sends-next p j k frames f before g v mid lt is upto =
    let all = subst (AreSendable p g (j ++ map send_line (take k frames))) (next_of k frames f lt is) upto.rest in
    subst (λ h. AreSendable p h (j ++ map send_line (take k frames)) (f ∷ [])) (sym upto.first.group) (all.0, tt)

pub sends-more : (p : PresenceView) (j : List Line) (k : ℕ) (frames : List Frame) (f : Frame) (before mid after : LinesView) (g : ℕ) (v w : GroupView) → k < length frames → get_or frames k f ≡ f
    → SendsUpto p j k frames before g v mid → SendsAll p (j ++ map send_line (take k frames)) (f ∷ []) mid v.group w after → SendsUpto p j (k + 1) frames before g w after
sends-more p j k frames f before mid after g v w lt is upto one =
    let some : take (k + 1) frames ≡ take k frames ++ f ∷ [] = take_more frames k f lt ∙ ap (λ x. take k frames ++ x ∷ []) is in
    let lines : map send_line (take (k + 1) frames) ≡ map send_line (take k frames) ++ send_line f ∷ [] = ap (map send_line) some ∙ map-append send_line (take k frames) (f ∷ []) in
    let journal : (j ++ map send_line (take k frames)) ++ send_line f ∷ [] ≡ j ++ map send_line (take (k + 1) frames) = append_assoc j (map send_line (take k frames)) (send_line f ∷ []) ∙ ap (λ l. j ++ l) (sym lines) in
    let all = subst (AreSendable p g (j ++ map send_line (take k frames))) (next_of k frames f lt is) upto.rest in
    record {
      first = record {
        pages = subst (λ x. Replays p x w) journal one.pages;
        group = one.group ∙ upto.first.group;
        framed = subst (All IsFrame) (sym some) (All-append IsFrame (take k frames) (f ∷ []) upto.first.framed one.framed);
        lines = one.lines ∙ ap (λ l. l ++ send_line f ∷ []) upto.first.lines ∙ append_assoc before.items (map send_line (take k frames)) (send_line f ∷ []) ∙ ap (λ l. before.items ++ l) (sym lines);
      };
      rest = subst (λ x. AreSendable p g x (drop (k + 1) frames)) journal all.1;
    }

-- ---- copies

-- one more frame went off
pub post-next : (t k : ℕ) (frames : List Frame) (fates : List (List ℕ)) (f : Frame) (fate : List ℕ) (start now next : List Arrival) → k < length frames → get_or frames k f ≡ f → k < length fates → get_or fates k fate ≡ fate
    → posted_all t (drop k frames) (drop k fates) now ≡ posted_all t frames fates start → next ≡ posted t (spelling f) fate now
    → posted_all t (drop (k + 1) frames) (drop (k + 1) fates) next ≡ posted_all t frames fates start
post-next t k frames fates f fate start now next in_frames at in_fates with_fate so_far is =
    ap (posted_all t (drop (k + 1) frames) (drop (k + 1) fates)) is
    ∙ sym (ap (λ fs. posted_all t fs (drop k fates) now) (next_of k frames f in_frames at) ∙ ap (λ es. posted_all t (f ∷ drop (k + 1) frames) es now) (next_of k fates fate in_fates with_fate)) ∙ so_far

pub post-end : (t k : ℕ) (frames : List Frame) (fates : List (List ℕ)) (start now : List Arrival) → length frames ≤ k → posted_all t (drop k frames) (drop k fates) now ≡ posted_all t frames fates start → now ≡ posted_all t frames fates start
post-end t k frames fates start now over so_far = sym (ap (λ fs. posted_all t fs (drop k fates) now) (drop_all k frames over)) ∙ so_far
