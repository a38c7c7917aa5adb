-- Each Send of a run has the frame that the whole run gives its tag, and each Take is of such a frame.
use Rattle.std.proofs.Common.{◌≡◌, ℕ, Bool, true, false, not, ◌&&◌, List, [], ◌∷◌, ◌⊎◌, refl, sym, ap, ◌∙◌, subst, ⊎_elim, inl, inr}
use Rattle.std.specs.Prelude.{if◌then◌else◌, Some, None, is_some}
use mathlib.Core.List.{reverse_aux, reverse}
use mathlib.Core.Path.{fun_ext}
use Rattle.std.specs.List.{filter}
use Rattle.std.proofs.lemmas.Bool.{false≢true}
use Rattle.group_plan.specs.declared.Kind.{Kind}
use Rattle.group_plan.specs.declared.Kind.TheVariants.{Reading, Announcement, Answer}
use Rattle.group_plan.specs.declared.Tag.{Tag}
use Rattle.meter_frames.specs.declared.Frame.{Frame}
use Rattle.event_schedule.specs.declared.Event.{Event}
use Rattle.event_schedule.specs.declared.Line.{Line}
use Rattle.event_schedule.specs.declared.Line.TheVariants.{Send as SendLine}
use Rattle.event_schedule.specs.declared.Entry.{Entry}
use Rattle.event_schedule.specs.Events.{is_send, is_take, events_of, lines_of, event_of, frame_of}
use Rattle.event_schedule.specs.Schedule.{Shape, is_closed, missing, may_send, is_announced, is_reading_taken, reaches_floor, members_of}
use Rattle.event_schedule.specs.Transcript.{Contents, set_sent, word_sent, frame, line, lines_after}
use Rattle.event_schedule.proofs.EventLemmas.{is_send-true}
use Rattle.event_schedule.proofs.ListLemmas.{and_first}
use Rattle.event_schedule.proofs.ScheduleLemmas.{is_closed-from_taken}
use Rattle.group_book.specs.Books.{posted}
use Rattle.run_rows.specs.Ticks.{Clock, tag_of}
use Rattle.run_rows.proofs.TickLemmas.{In, Member, Stands, TickFacts, taken_same}
use Rattle.run_rows.proofs.Effective.{effective}

-- the frame that a whole run gives a tag
abbrev pub whole_frame : Shape → Contents → List Event → Tag → Frame
whole_frame s w past tag = record {
  tag = tag;
  missing = set_sent s tag.kind tag.group tag.round past;
  word = word_sent s w tag.kind tag.group tag.round tag.meter past;
}

-- ---- lines

head_or : Line → List Line → Line
head_or l [] = l
head_or l (x ∷ xs) = x

rest_of : List Line → List Line
rest_of [] = []
rest_of (x ∷ xs) = xs

-- each entry has the line of its event after those before it
lines_at : (s : Shape) (w : Contents) (xs acc : List Entry) → lines_of xs ≡ lines_after s w (events_of acc) (events_of xs)
    → (e : Entry) (older : List Entry) → In e older (reverse_aux xs acc) → In e older acc ⊎ (e.line ≡ line s w (events_of older) (event_of e.line))
unfolding lines_after head_or rest_of
lines_at s w [] acc same e older at = inl at
lines_at s w (x ∷ xs) acc same e older at =
    let head : x.line ≡ line s w (events_of acc) (event_of x.line) = ap (head_or x.line) same in
    ⊎_elim
    (λ newer. ⊎_elim
    (λ (here : (x ≡ e) × (acc ≡ older)).
    inr (subst (λ o. e.line ≡ line s w (events_of o) (event_of e.line)) here.1 (subst (λ (z : Entry). z.line ≡ line s w (events_of acc) (event_of z.line)) here.0 head)))
    (λ there. inl there) newer)
    (λ good. inr good)
    (lines_at s w xs (x ∷ acc) (ap rest_of same) e older at)

pub line_at : (s : Shape) (w : Contents) (xs : List Entry) → lines_of xs ≡ lines_after s w [] (events_of xs)
    → (e : Entry) (older : List Entry) → In e older (reverse xs) → e.line ≡ line s w (events_of older) (event_of e.line)
line_at s w xs same e older at = ⊎_elim (λ none. absurd none) (λ is. is) (lines_at s w xs [] same e older at)

-- ---- members of a list and of the list that is turned round

member_reverse_aux : {X : Type 0} (e : X) (xs ys : List X) → Member e xs ⊎ Member e ys → Member e (reverse_aux xs ys)
member_reverse_aux e [] ys at = ⊎_elim (λ no. absurd no) (λ there. there) at
member_reverse_aux e (x ∷ xs) ys at =
    member_reverse_aux e xs (x ∷ ys) (⊎_elim (λ first. ⊎_elim (λ here. inr (inl here)) (λ there. inl there) first) (λ second. inr (inr second)) at)

member_from_reverse_aux : {X : Type 0} (e : X) (xs ys : List X) → Member e (reverse_aux xs ys) → Member e xs ⊎ Member e ys
member_from_reverse_aux e [] ys at = inr at
member_from_reverse_aux e (x ∷ xs) ys at =
    ⊎_elim (λ first. inl (inr first)) (λ second. ⊎_elim (λ here. inl (inl here)) (λ there. inr there) second) (member_from_reverse_aux e xs (x ∷ ys) at)

pub member_of_in : (e : Entry) (older xs : List Entry) → In e older xs → Member e xs
member_of_in e older [] at = absurd at
member_of_in e older (x ∷ xs) at = ⊎_elim (λ here. inl here.0) (λ there. inr (member_of_in e older xs there)) at

pub in_of_member : (e : Entry) (xs : List Entry) → Member e xs → (older : List Entry) × In e older xs
in_of_member e [] at = absurd at
in_of_member e (x ∷ xs) at =
    ⊎_elim (λ here. (xs, inl (here, refl))) (λ there. let found = in_of_member e xs there in (found.0, inr found.1)) at

-- an entry that stands is one of the run, and each one stands
pub member_of : (test : Event → Bool) (t : ℕ) (xs : List Entry) (st : Stands test t (reverse xs)) → Member st.entry xs
member_of test t xs st = ⊎_elim (λ is. is) (λ none. absurd none) (member_from_reverse_aux st.entry xs [] (member_of_in st.entry st.older (reverse xs) st.at))

pub in_whole : (e : Entry) (xs : List Entry) → Member e xs → (older : List Entry) × In e older (reverse xs)
in_whole e xs at = in_of_member e (reverse xs) (member_reverse_aux e xs [] (inl at))

pub stands : (test : Event → Bool) (e : Entry) (xs : List Entry) → Member e xs → test (event_of e.line) ≡ true → Stands test e.tick (reverse xs)
stands test e xs at is =
    let found = in_whole e xs at in
    record { entry = e; older = found.0; at = found.1; passes = is; when = refl }

-- ---- frames

missing_then : (s : Shape) (g r : ℕ) (e : Entry) (older xs : List Entry) → In e older xs → is_closed g r (events_of older) ≡ true → missing s g r (events_of older) ≡ missing s g r (events_of xs)
missing_then s g r e older xs at closed =
    ap (λ (t : ℕ → Bool). filter (λ i. not (t i)) (members_of s g r)) (fun_ext (λ i. sym (taken_same s g r i e older xs at closed)))

frame_then : (k : Kind) (s : Shape) (w : Contents) (g r i : ℕ) (e : Entry) (older xs : List Entry) → In e older xs → may_send s k g r i (events_of older) ≡ true
    → frame s w (tag_of k g r i) (events_of older) ≡ Some (whole_frame s w (events_of xs) (tag_of k g r i))
frame_then Reading s w g r i e older xs at may = ap (λ b. if b then Some (whole_frame s w (events_of xs) (tag_of Reading g r i)) else None) may
frame_then Announcement s w g r i e older xs at may =
    let closed = and_first (is_closed g r (events_of older)) (reaches_floor s g r (events_of older)) (and_first (is_announced s g r (events_of older)) (is_reading_taken s g r i (events_of older)) may) in
    ap (λ b. if b then Some (whole_frame s w (events_of older) (tag_of Announcement g r i)) else None) may
    ∙ ap (λ set. Some (record { tag = tag_of Announcement g r i; missing = set; word = 0 })) (missing_then s g r e older xs at closed)
frame_then Answer s w g r i e older xs at may =
    let closed = is_closed-from_taken s g r i (events_of older) may in
    ap (λ b. if b then Some (whole_frame s w (events_of older) (tag_of Answer g r i)) else None) may
    ∙ ap (λ set. Some (record { tag = tag_of Answer g r i; missing = set; word = w.answer g r i set })) (missing_then s g r e older xs at closed)

module _ (s : Shape) (c : Clock) (fate : ℕ → Tag → List ℕ) (w : Contents) (xs : List Entry) (facts : TickFacts s c fate (reverse xs)) (same : lines_of xs ≡ lines_after s w [] (events_of xs)) where
  -- the line of a Send
  pub sent_line : (g r i : ℕ) (k : Kind) (e : Entry) → Member e xs → is_send g r i k (event_of e.line) ≡ true
      → e.line ≡ SendLine (tag_of k g r i) (Some (whole_frame s w (events_of (reverse xs)) (tag_of k g r i)))
  unfolding stands
  sent_line g r i k e member is =
      let st = stands (is_send g r i k) e xs member is in
      line_at s w xs same e st.older st.at
      ∙ ap (line s w (events_of st.older)) (is_send-true g r i k (event_of e.line) is)
      ∙ ap (SendLine (tag_of k g r i)) (frame_then k s w g r i e st.older (reverse xs) st.at (effective s c fate (reverse xs) facts k g r i e.tick st))

  -- the frame that is posted under a tag that was sent
  posted_is : (g r i : ℕ) (k : Kind) (f : Frame) (ys : List Entry) → ((e : Entry) → Member e ys → is_send g r i k (event_of e.line) ≡ true → e.line ≡ SendLine (tag_of k g r i) (Some f))
      → (e : Entry) → Member e ys → is_send g r i k (event_of e.line) ≡ true → posted g r i k (lines_of ys) ≡ Some f
  unfolding posted
  posted_is g r i k f [] each e at is = absurd at
  posted_is g r i k f (y ∷ ys) each e at is = by (is_send g r i k (event_of y.line)) refl (λ there. posted_is g r i k f ys (λ z in_ys. each z (inr in_ys)) e there is)
    where
      by : (b : Bool) → is_send g r i k (event_of y.line) ≡ b → (Member e ys → posted g r i k (lines_of ys) ≡ Some f)
          → (if is_send g r i k (event_of y.line) && is_some (frame_of y.line) then frame_of y.line else posted g r i k (lines_of ys)) ≡ Some f
      by true here later =
          let l = each y (inl refl) here in
          ap (λ b. if b && is_some (frame_of y.line) then frame_of y.line else posted g r i k (lines_of ys)) here
          ∙ ap (λ z. if is_some (frame_of z) then frame_of z else posted g r i k (lines_of ys)) l
      by false other later =
          ap (λ b. if b && is_some (frame_of y.line) then frame_of y.line else posted g r i k (lines_of ys)) other
          ∙ ⊎_elim
          (λ here. absurd (false≢true (sym other ∙ ap (λ (z : Entry). is_send g r i k (event_of z.line)) here ∙ is)))
          later at

  -- a Take is of the whole run's frame
  pub taken_frame : (g r i : ℕ) (k : Kind) (e : Entry) → Member e xs → is_take g r i k (event_of e.line) ≡ true
      → posted g r i k (lines_of xs) ≡ Some (whole_frame s w (events_of (reverse xs)) (tag_of k g r i))
  taken_frame g r i k e member is =
      let came = facts.take_from g r i k e.tick (stands (is_take g r i k) e xs member is) in
      posted_is g r i k (whole_frame s w (events_of (reverse xs)) (tag_of k g r i)) xs (sent_line g r i k) came.send.entry
      (member_of (is_send g r i k) came.sent xs came.send) came.send.passes
