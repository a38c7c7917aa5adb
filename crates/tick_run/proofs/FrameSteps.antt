-- The frames of a tick stay what they are while it goes on.
use Rattle.std.proofs.Common.{◌≡◌, ℕ, ◌<◌, Bool, true, false, cond, List, [], ◌∷◌, ◌++◌, map, refl, sym, ap, ◌∙◌, subst, append_assoc, append-nil, arith}
use Rattle.std.specs.Prelude.{if◌then◌else◌, Option, Some, None}
use mathlib.Core.List.{reverse}
use Rattle.std.specs.List.{All}
use Rattle.std.proofs.lemmas.Bool.{and_from, and_parts}
use Rattle.std.proofs.lemmas.List.Elements.{All-head, All-tail}
use Rattle.group_plan.specs.declared.Kind.{Kind}
use Rattle.group_plan.specs.declared.Kind.TheVariants.{Reading, Announcement, Answer}
use Rattle.group_plan.specs.declared.Tag.{Tag}
use Rattle.meter_frames.specs.declared.Frame.{Frame}
use Rattle.event_schedule.specs.declared.Event.{Event}
use Rattle.event_schedule.specs.declared.Line.{Line}
use Rattle.event_schedule.specs.declared.Line.TheVariants.{Send as SendLine, Take as TakeLine, Close as CloseLine, End as EndLine}
use Rattle.event_schedule.specs.declared.Entry.{Entry}
use Rattle.event_schedule.specs.Events.{event_of, events_of, lines_of}
use Rattle.event_schedule.specs.Schedule.{Shape, is_closed, reaches_floor, is_announced, is_reading_taken, may_send}
use Rattle.event_schedule.specs.Transcript.{Contents, set_sent, word_sent, frame}
use Rattle.event_schedule.specs.Journal.{past_of, HasFramesOf}
use Rattle.event_schedule.proofs.ScheduleLemmas.{after-keeps, once-more, is_announced-more, is_reading_taken-closed, missing-closed, is_closed-from_taken}
use Rattle.run_rows.specs.Ticks.{phase}
use Rattle.tick_run.specs.Progress.{past_of_entries}
use Rattle.tick_run.proofs.PastLemmas.{past-append}

-- what a Send of this kind carries, and that it has effect, stays
record Stays (s : Shape) (w : Contents) (k : Kind) (g r i : ℕ) (e : Event) (p : List Event) : Type 0 where
  may : may_send s k g r i (e ∷ p) ≡ true
  set : set_sent s k g r (e ∷ p) ≡ set_sent s k g r p
  word : word_sent s w k g r i (e ∷ p) ≡ word_sent s w k g r i p

stays : (s : Shape) (w : Contents) (k : Kind) (g r i : ℕ) (e : Event) (p : List Event) → may_send s k g r i p ≡ true → Stays s w k g r i e p
stays s w Reading g r i e p may = record { may = may; set = refl; word = refl }
stays s w Announcement g r i e p may =
    let both = and_parts (is_announced s g r p) (is_reading_taken s g r i p) may in
    let closed : is_closed g r p ≡ true = (and_parts (is_closed g r p) (reaches_floor s g r p) both.0).0 in
    record {
      may = and_from (is_announced s g r (e ∷ p)) (is_reading_taken s g r i (e ∷ p)) (is_announced-more s g r e p both.0) (is_reading_taken-closed s g r i e p closed ∙ both.1);
      set = missing-closed s g r e p closed;
      word = refl;
    }
stays s w Answer g r i e p may =
    let closed : is_closed g r p ≡ true = is_closed-from_taken s g r i p may in
    record {
      may = once-more _ e p may;
      set = missing-closed s g r e p closed;
      word = ap (w.answer g r i) (missing-closed s g r e p closed);
    }

-- a frame says that its Send has effect
pub may_of_frame : (s : Shape) (w : Contents) (tag : Tag) (f : Frame) (p : List Event) → frame s w tag p ≡ Some f → may_send s tag.kind tag.group tag.round tag.meter p ≡ true
may_of_frame s w tag f p is = step (may_send s tag.kind tag.group tag.round tag.meter p) is
  where
    step : (b : Bool) → (if b then Some (record { tag = tag; missing = set_sent s tag.kind tag.group tag.round p; word = word_sent s w tag.kind tag.group tag.round tag.meter p }) else None) ≡ Some f → b ≡ true
    step true h = refl
    step false h = absurd (cc h)

pub frame_more : (s : Shape) (w : Contents) (tag : Tag) (f : Frame) (e : Event) (p : List Event) → frame s w tag p ≡ Some f → frame s w tag (e ∷ p) ≡ Some f
frame_more s w tag f e p is =
    let may = may_of_frame s w tag f p is in
    let kept = stays s w tag.kind tag.group tag.round tag.meter e p may in
    let some : List ℕ → ℕ → Option Frame = λ set word. Some (record { tag = tag; missing = set; word = word }) in
    ap (λ b. cond b (some (set_sent s tag.kind tag.group tag.round (e ∷ p)) (word_sent s w tag.kind tag.group tag.round tag.meter (e ∷ p))) None) kept.may
    ∙ ap (λ l. some l (word_sent s w tag.kind tag.group tag.round tag.meter (e ∷ p))) kept.set
    ∙ ap (some (set_sent s tag.kind tag.group tag.round p)) kept.word
    ∙ sym (ap (λ b. cond b (some (set_sent s tag.kind tag.group tag.round p) (word_sent s w tag.kind tag.group tag.round tag.meter p)) None) may)
    ∙ is

-- a frame of a Send that has effect is the same after later entries
pub frame-append : (s : Shape) (w : Contents) (tag : Tag) (f : Frame) (xs ys : List Entry) → frame s w tag (past_of_entries xs) ≡ Some f → frame s w tag (past_of_entries (xs ++ ys)) ≡ Some f
frame-append s w tag f xs ys is =
    subst (λ p. frame s w tag p ≡ Some f) (sym (past-append xs ys))
    (after-keeps (λ p. frame s w tag p ≡ Some f) (frame_more s w tag f) (past_of_entries xs) (events_of ys) is)

-- ---- journals with these frames

pub has_frames-append : (s : Shape) (w : Contents) (journal xs ys : List Line) → HasFramesOf s w journal xs → HasFramesOf s w (journal ++ xs) ys → HasFramesOf s w journal (xs ++ ys)
has_frames-append s w journal [] ys first last = subst (λ j. HasFramesOf s w j ys) (append-nil journal) last
has_frames-append s w journal (SendLine tag f ∷ xs) ys first last =
    (first.0, has_frames-append s w (journal ++ SendLine tag f ∷ []) xs ys first.1 (subst (λ j. HasFramesOf s w j ys) (sym (append_assoc journal (SendLine tag f ∷ []) xs)) last))
has_frames-append s w journal (TakeLine tag v ∷ xs) ys first last =
    has_frames-append s w (journal ++ TakeLine tag v ∷ []) xs ys first (subst (λ j. HasFramesOf s w j ys) (sym (append_assoc journal (TakeLine tag v ∷ []) xs)) last)
has_frames-append s w journal (CloseLine g r v ∷ xs) ys first last =
    has_frames-append s w (journal ++ CloseLine g r v ∷ []) xs ys first (subst (λ j. HasFramesOf s w j ys) (sym (append_assoc journal (CloseLine g r v ∷ []) xs)) last)
has_frames-append s w journal (EndLine g r v ∷ xs) ys first last =
    has_frames-append s w (journal ++ EndLine g r v ∷ []) xs ys first (subst (λ j. HasFramesOf s w j ys) (sym (append_assoc journal (EndLine g r v ∷ []) xs)) last)

-- lines that are no Sends ask nothing
pub has_frames-silent : (s : Shape) (w : Contents) (journal ys : List Line) → All (λ l. phase (event_of l) < 2) ys → HasFramesOf s w journal ys
has_frames-silent s w journal [] silent = tt
has_frames-silent s w journal (SendLine tag f ∷ ys) silent = let no : 2 < 2 = All-head (λ l. phase (event_of l) < 2) (SendLine tag f) ys silent in absurd (omega arith)
has_frames-silent s w journal (TakeLine tag v ∷ ys) silent = has_frames-silent s w (journal ++ TakeLine tag v ∷ []) ys (All-tail (λ l. phase (event_of l) < 2) (TakeLine tag v) ys silent)
has_frames-silent s w journal (CloseLine g r v ∷ ys) silent = has_frames-silent s w (journal ++ CloseLine g r v ∷ []) ys (All-tail (λ l. phase (event_of l) < 2) (CloseLine g r v) ys silent)
has_frames-silent s w journal (EndLine g r v ∷ ys) silent = has_frames-silent s w (journal ++ EndLine g r v ∷ []) ys (All-tail (λ l. phase (event_of l) < 2) (EndLine g r v) ys silent)

pub map_map : (entries : List Entry) → map event_of (lines_of entries) ≡ events_of entries
map_map [] = refl
map_map (e ∷ entries) = ap (λ l. event_of e.line ∷ l) (map_map entries)

-- the past of the lines is that of the entries
pub past_of-lines : (entries : List Entry) → past_of (lines_of entries) ≡ past_of_entries entries
past_of-lines entries = ap reverse (map_map entries)
