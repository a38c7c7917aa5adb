-- What a book says of the event of a line, and whether it is the line that its frames make.
use Rattle.std.proofs.Common.{◌≡◌, ◌≢◌, ℕ, Bool, true, false, List, [], ◌∷◌, ◌++◌, refl, sym, ap, ◌∙◌, subst}
use Rattle.std.specs.Prelude.{if◌then◌else◌, is_some, Option, Some, None}
use Rattle.group_plan.specs.declared.Kind.{Kind}
use Rattle.group_plan.specs.declared.Kind.TheVariants.{Reading, Announcement, Answer}
use Rattle.group_plan.specs.declared.Tag.{Tag}
use Rattle.meter_frames.specs.declared.Frame.{Frame}
use Rattle.meter_frames.specs.Frames.{FitsKind}
use Rattle.round_machine.specs.declared.Ending.{Ending}
use Rattle.event_schedule.specs.declared.Event.{Event}
use Rattle.event_schedule.specs.declared.Event.TheVariants.{Send}
use Rattle.event_schedule.specs.declared.Line.{Line}
use Rattle.event_schedule.specs.declared.Line.TheVariants.{Send as SendLine, End as EndLine}
use Rattle.event_schedule.specs.Events.{event_of, frame_of, is_send}
use Rattle.event_schedule.specs.Schedule.{Shape, may_send, is_closed, missing, is_announced, reaches_floor, is_reading_taken}
use Rattle.event_schedule.specs.Transcript.{Contents, set_sent, word_sent, frame, ending, line}
use Rattle.event_schedule.specs.Frames.{word_or_zero, first_word, contents_of_lines}
use Rattle.event_schedule.specs.Journal.{past_of}
use Rattle.event_schedule.proofs.EventLemmas.{is_send-true, is_send-itself}
use Rattle.event_schedule.proofs.ListLemmas.{and_first}
use Rattle.event_schedule.proofs.ScheduleLemmas.{missing-closed, is_closed-more, is_closed-from_taken}
use Rattle.group_book.specs.Books.{BookView, shape_of, past, posted, posted_in, posted_of, allows, missing_of, Adds, IsFree, HasSet, IsPosted, EndEnds}
use Rattle.group_book.specs.Replay.{IsJournal}
use Rattle.group_book.proofs.LineLemmas.{first_of, posts, posted-push, first_word-posted, past_of-push}
use Rattle.audit_check.specs.Steps.{IsTold}
use Rattle.audit_check.specs.Replays.{Gains, Says, IsPostedOrEmpty}
use Rattle.audit_check.specs.Deciding.{Decides}
use Rattle.audit_check.proofs.TellLemmas.{line_by_line, first_word-more}
use Rattle.audit_check.proofs.JournalLemmas.{journal-pop, same_contents}

-- ---- a frame that is posted

-- a Send that may be sent, other than a reading, comes after the Close
closed_from_may : (s : Shape) (k : Kind) (g r i : ℕ) (p : List Event) → k ≢ Reading → may_send s k g r i p ≡ true → is_closed g r p ≡ true
closed_from_may s Reading g r i p other may = absurd (other refl)
closed_from_may s Announcement g r i p other may = and_first (is_closed g r p) (reaches_floor s g r p) (and_first (is_announced s g r p) (is_reading_taken s g r i p) may)
closed_from_may s Answer g r i p other may = is_closed-from_taken s g r i p may

-- the set that it carries stays
set_stays : (s : Shape) (k : Kind) (g r : ℕ) (e : Event) (p : List Event) → (k ≢ Reading → is_closed g r p ≡ true) → set_sent s k g r p ≡ set_sent s k g r (e ∷ p)
set_stays s Reading g r e p closed = refl
set_stays s Announcement g r e p closed = sym (missing-closed s g r e p (closed (λ same. absurd cc)))
set_stays s Answer g r e p closed = sym (missing-closed s g r e p (closed (λ same. absurd cc)))

-- its tag, its set, and in an announcement its word
record IsOwn (s : Shape) (g r i : ℕ) (k : Kind) (p : List Event) (f : Frame) : Type 0 where
  own_tag : f.tag ≡ record { group = g; round = r; meter = i; kind = k }
  own_set : f.missing ≡ set_sent s k g r p
  silent : k ≡ Announcement → f.word ≡ 0
  closed : k ≢ Reading → is_closed g r p ≡ true

abbrev pub tag_of : ℕ → ℕ → ℕ → Kind → Tag
tag_of g r i k = record { group = g; round = r; meter = i; kind = k }

abbrev pub made : Shape → Contents → ℕ → ℕ → ℕ → Kind → List Event → Frame
made s c g r i k p = record { tag = tag_of g r i k; missing = set_sent s k g r p; word = word_sent s c k g r i p }

some_same : (f h : Frame) → ◌≡◌ {A = Option Frame} (Some f) (Some h) → f ≡ h
some_same f h e = cc

none_some : (f : Frame) → ◌≡◌ {A = Option Frame} None (Some f) → ⊥
none_some f e = cc

-- a Send with a frame may be sent, and its frame is the one that is made of these contents
pub frame_made : (s : Shape) (c : Contents) (g r i : ℕ) (k : Kind) (p : List Event) (f : Frame) → frame s c (tag_of g r i k) p ≡ Some f → (may_send s k g r i p ≡ true) × (made s c g r i k p ≡ f)
frame_made s c g r i k p f is = by_case (may_send s k g r i p) refl is
  where
    by_case : (q : Bool) → may_send s k g r i p ≡ q → (if q then Some (made s c g r i k p) else None) ≡ Some f → (may_send s k g r i p ≡ true) × (made s c g r i k p ≡ f)
    by_case true may is = (may, some_same (made s c g r i k p) f is)
    by_case false may is = absurd (none_some f is)

silent_word : (s : Shape) (c : Contents) (g r i : ℕ) (k : Kind) (p : List Event) → k ≡ Announcement → word_sent s c k g r i p ≡ 0
silent_word s c g r i k p is = ap (λ x. word_sent s c x g r i p) is

own_now : (s : Shape) (c : Contents) (g r i : ℕ) (k : Kind) (p : List Event) (f : Frame) → frame s c (tag_of g r i k) p ≡ Some f → IsOwn s g r i k p f
own_now s c g r i k p f is =
    let both = frame_made s c g r i k p f is in
    record {
      own_tag = ap (λ (h : Frame). h.tag) (sym both.1);
      own_set = ap (λ (h : Frame). h.missing) (sym both.1);
      silent = λ announcement. ap (λ (h : Frame). h.word) (sym both.1) ∙ silent_word s c g r i k p announcement;
      closed = λ other. closed_from_may s k g r i p other both.0;
    }

own_more : (s : Shape) (g r i : ℕ) (k : Kind) (e : Event) (p : List Event) (f : Frame) → IsOwn s g r i k p f → IsOwn s g r i k (e ∷ p) f
own_more s g r i k e p f is = record {
  own_tag = is.own_tag;
  own_set = is.own_set ∙ set_stays s k g r e p is.closed;
  silent = is.silent;
  closed = λ other. is_closed-more g r e p (is.closed other);
}

pub none_posted : (g r i : ℕ) (k : Kind) → posted g r i k [] ≡ None
unfolding posted
none_posted g r i k = refl

-- what is posted under a tag
own_frame : (s : Shape) (g r i : ℕ) (k : Kind) (j : List Line) → IsJournal s j → (f : Frame) → posted g r i k j ≡ Some f → IsOwn s g r i k (past_of j) f
own_frame s g r i k j =
    line_by_line (λ x. IsJournal s x → (f : Frame) → posted g r i k x ≡ Some f → IsOwn s g r i k (past_of x) f) (λ is f at. absurd (none_some f (sym (none_posted g r i k) ∙ at))) step j
  where
    step : (x : List Line) (l : Line) → (IsJournal s x → (f : Frame) → posted g r i k x ≡ Some f → IsOwn s g r i k (past_of x) f) → IsJournal s (x ++ l ∷ []) → (f : Frame) → posted g r i k (x ++ l ∷ []) ≡ Some f
        → IsOwn s g r i k (past_of (x ++ l ∷ [])) f
    step x l before is f at =
        let both = journal-pop s x l is in
        subst (λ p. IsOwn s g r i k p f) (sym (past_of-push x l))
        (own_more s g r i k (event_of l) (past_of x) f
        (by_posted (posted g r i k x) refl (sym (posted-push g r i k x l) ∙ at) (before both.0) both.1))
      where
        by_send : (q : Bool) → is_send g r i k (event_of l) ≡ q → (if q then frame_of l else None) ≡ Some f → IsTold s x l → IsOwn s g r i k (past_of x) f
        by_send true here at told =
            let c : Contents = contents_of_lines (x ++ l ∷ []) in
            own_now s c g r i k (past_of x) f
            (sym (ap frame_of told ∙ ap (λ e. frame_of (line s c (past_of x) e)) (is_send-true g r i k (event_of l) here)) ∙ at)
        by_send false here at told = absurd (none_some f at)

        by_posted : (o : Option Frame) → posted g r i k x ≡ o → first_of o (posts g r i k l) ≡ Some f → ((h : Frame) → posted g r i k x ≡ Some h → IsOwn s g r i k (past_of x) h) → IsTold s x l
            → IsOwn s g r i k (past_of x) f
        by_posted (Some h) here at before told = before f (here ∙ at)
        by_posted None here at before told = by_send (is_send g r i k (event_of l)) refl at told

-- ---- a Send with a frame

-- the word of a frame that is posted, or that is the first of its tag
word_first : (k : Kind) (g r i : ℕ) (j rest : List Line) (p : Frame) → posted g r i k j ≡ Some p → first_word g r i k (j ++ rest) ≡ p.word
word_first k g r i j rest p at =
    first_word-more g r i k j rest (ap is_some at) ∙ first_word-posted g r i k j ∙ ap word_or_zero at

same_frame : (f h : Frame) → f.tag ≡ h.tag → f.missing ≡ h.missing → f.word ≡ h.word → f ≡ h
same_frame f h tag missing word = λ k. record { tag = tag k; missing = missing k; word = word k }

-- two frames of one tag differ, so the second isn't what the frames make
pub differs_untold : (b : BookView) (f p : Frame) → IsJournal (shape_of b) b.journal → posted_of b f.tag ≡ Some p → p ≢ f → ¬ IsTold (shape_of b) b.journal (SendLine f.tag (Some f))
differs_untold b f p is at differ told =
    let s : Shape = shape_of b in
    let tag : Tag = f.tag in
    let own : IsOwn s tag.group tag.round tag.meter tag.kind (past b) p = own_frame s tag.group tag.round tag.meter tag.kind b.journal is p at in
    let c : Contents = contents_of_lines (b.journal ++ SendLine tag (Some f) ∷ []) in
    let both = frame_made s c tag.group tag.round tag.meter tag.kind (past b) f (sym (ap frame_of told)) in
    differ (same_frame p f own.own_tag (own.own_set ∙ ap (λ (h : Frame). h.missing) both.1) (word_is tag.kind refl (ap (λ (h : Frame). h.word) both.1) own.silent at))
  where
    word_is : (k : Kind) → k ≡ f.tag.kind
        → word_sent (shape_of b) (contents_of_lines (b.journal ++ SendLine f.tag (Some f) ∷ [])) k f.tag.group f.tag.round f.tag.meter (past b) ≡ f.word
        → (k ≡ Announcement → p.word ≡ 0) → posted f.tag.group f.tag.round f.tag.meter k b.journal ≡ Some p → p.word ≡ f.word
    word_is Reading same is silent at = sym (word_first Reading f.tag.group f.tag.round f.tag.meter b.journal (SendLine f.tag (Some f) ∷ []) p at) ∙ is
    word_is Announcement same is silent at = silent refl ∙ is
    word_is Answer same is silent at = sym (word_first Answer f.tag.group f.tag.round f.tag.meter b.journal (SendLine f.tag (Some f) ∷ []) p at) ∙ is

set_is : (s : Shape) (k : Kind) (g r : ℕ) (p : List Event) (set : List ℕ) (w : ℕ) → HasSet k (missing s g r p) set → FitsKind k set w → set_sent s k g r p ≡ set
set_is s Reading g r p set w has fits = sym fits
set_is s Announcement g r p set w has fits = has
set_is s Answer g r p set w has fits = has

-- what is posted under the tag of a Send, once it is sent
posted_free : (j : List Line) (f : Frame) → IsFree (posted_in f.tag j) f → posted_in f.tag (j ++ SendLine f.tag (Some f) ∷ []) ≡ Some f
posted_free j f free =
    posted-push f.tag.group f.tag.round f.tag.meter f.tag.kind j (SendLine f.tag (Some f))
    ∙ ap (λ q. first_of (posted_in f.tag j) (if q then Some f else None)) (is_send-itself f.tag.group f.tag.round f.tag.meter f.tag.kind)
    ∙ first (posted_in f.tag j) free
  where
    first : (o : Option Frame) → IsFree o f → first_of o (Some f) ≡ Some f
    first None free = refl
    first (Some p) free = ap Some free

word_is_own : (s : Shape) (k : Kind) (g r i : ℕ) (p : List Event) (j : List Line) (set : List ℕ) (w : ℕ) → FitsKind k set w → first_word g r i k j ≡ w → word_sent s (contents_of_lines j) k g r i p ≡ w
word_is_own s Reading g r i p j set w fits first = first
word_is_own s Announcement g r i p j set w fits first = sym fits
word_is_own s Answer g r i p j set w fits first = first

-- the book has taken the frame
pub sent_told : (b : BookView) (f : Frame) (c : BookView) → allows b f.tag ≡ true → HasSet f.tag.kind (missing_of b f.tag) f.missing → FitsKind f.tag.kind f.missing f.word → IsFree (posted_of b f.tag) f
    → Adds b (Send f.tag) (Some f) c → Gains b (SendLine f.tag (Some f)) c × IsTold (shape_of b) b.journal (SendLine f.tag (Some f))
sent_told b f c may has fits free adds =
    let s : Shape = shape_of b in
    let tag : Tag = f.tag in
    let more : List Line = b.journal ++ SendLine tag (Some f) ∷ [] in
    let word : first_word tag.group tag.round tag.meter tag.kind more ≡ f.word
    = first_word-posted tag.group tag.round tag.meter tag.kind more ∙ ap word_or_zero (posted_free b.journal f free) in
    let is : made s (contents_of_lines more) tag.group tag.round tag.meter tag.kind (past b) ≡ f
    = same_frame (made s (contents_of_lines more) tag.group tag.round tag.meter tag.kind (past b)) f refl
    (set_is s tag.kind tag.group tag.round (past b) f.missing f.word has fits)
    (word_is_own s tag.kind tag.group tag.round tag.meter (past b) more f.missing f.word fits word) in (
      record { presence = adds.presence; journal = adds.journal ∙ ap (λ q. b.journal ++ SendLine tag (if q then Some f else None) ∷ []) may; spare = adds.spare },
      ap (SendLine tag) (sym (ap (λ q. if q then Some (made s (contents_of_lines more) tag.group tag.round tag.meter tag.kind (past b)) else None) may ∙ ap Some is)),
    )

-- ---- a frame to be taken

pub posted_is_own : (b : BookView) (tag : Tag) (f : Frame) → IsJournal (shape_of b) b.journal → IsPosted b tag (Some f) → IsPostedOrEmpty b tag f
posted_is_own b tag f is posted = record {
  tag_is = (own_frame (shape_of b) tag.group tag.round tag.meter tag.kind b.journal is f posted.0).own_tag;
  free = subst (λ o. IsFree o f) (sym posted.0) refl;
}

-- ---- an End

pub end_said : (b : BookView) (g r : ℕ) (said told : Ending) (q : Bool) (c : BookView) → EndEnds b g r said c → Decides (said ≡ told) q → Says b (EndLine g r told) q c
end_said b g r said told q c ends same = by_case q same
  where
    s : Shape
    s = shape_of b

    words : contents_of_lines (b.journal ++ EndLine g r told ∷ []) ≡ contents_of_lines b.journal
    words = same_contents b.journal (EndLine g r told) (λ a m i k. refl)

    by_case : (q : Bool) → Decides (said ≡ told) q → Says b (EndLine g r told) q c
    by_case true same = (
      record {
        presence = ends.adds.presence;
        journal = ends.adds.journal ∙ ap (λ e. b.journal ++ EndLine g r e ∷ []) (sym ends.is ∙ same);
        spare = ends.adds.spare;
      },
      ap (EndLine g r) (sym same ∙ ends.is ∙ ap (λ x. ending s x g r (past b)) (sym words)),
    )
    by_case false differ = λ is.
        differ (ends.is ∙ ap (λ x. ending s x g r (past b)) (sym words) ∙ sym (ending_in is))
      where
        ending_in : IsTold s b.journal (EndLine g r told) → told ≡ ending s (contents_of_lines (b.journal ++ EndLine g r told ∷ [])) g r (past b)
        ending_in is = cc
