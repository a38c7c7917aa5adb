-- What each call on the pages of a group leaves, and what it reads off what is kept of the group.
use Rattle.std.proofs.Common.{◌≡◌, ℕ, ◌<◌, ◌≤◌, Bool, true, false, not, ◌&&◌, List, [], ◌∷◌, ◌++◌, length, set, refl, sym, ap, ◌∙◌, subst, inl, inr, arith, append-nil}
use Rattle.std.specs.Prelude.{◌==◌, nat_lt, if◌then◌else◌, filter, slice_index_or, Option, Some, None, is_some}
use mathlib.Core.Path.{fun_ext}
use Rattle.std.proofs.Math.ListN.{length-set}
use Rattle.std.proofs.Math.Bool.{and-false}
use Rattle.std.proofs.lemmas.Bool.{false≢true, cases_Bool, and_from}
use Rattle.missing_round.specs.Sets.{IsSet, is_member}
use Rattle.missing_round.proofs.SetLemmas.{is_member-picked, set-picked}
use Rattle.group_plan.specs.declared.Kind.{Kind}
use Rattle.group_plan.specs.declared.Kind.TheVariants.{Reading, Announcement, Answer}
use Rattle.group_plan.specs.declared.Tag.{Tag}
use Rattle.group_plan.specs.Plans.{size, is_place, members}
use Rattle.group_plan.specs.Plans.{is_member as is_member_of_group}
use Rattle.group_plan.specs.Tables.{PresenceView}
use Rattle.group_plan.proofs.MeterNumbers.{in_place}
use Rattle.group_plan.proofs.TableLemmas.{entry_outside}
use Rattle.meter_frames.specs.declared.Frame.{Frame}
use Rattle.meter_frames.specs.Frames.{FitsKind}
use Rattle.round_machine.specs.declared.Verdict.{Verdict}
use Rattle.round_machine.specs.declared.Verdict.TheVariants.{Fresh, Again, Late, Void}
use Rattle.round_machine.specs.declared.Closing.{Closing}
use Rattle.round_machine.specs.declared.Ending.{Ending}
use Rattle.round_machine.specs.Rounds.{Closes, Ends}
use Rattle.round_machine.specs.Rounds.{is_announced as round_announced}
use Rattle.event_schedule.specs.declared.Event.{Event}
use Rattle.event_schedule.specs.declared.Event.TheVariants.{Send}
use Rattle.event_schedule.specs.declared.Line.{Line}
use Rattle.event_schedule.specs.declared.Line.TheVariants.{Send as SendLine, Take as TakeLine, Close as CloseLine, End as EndLine}
use Rattle.event_schedule.specs.Events.{event_of, frame_of, is_tag, is_send}
use Rattle.event_schedule.specs.Schedule.{Shape, shape_of_presence, members_of, is_closed, reaches_floor, may_send, is_sent, is_taken, is_late, verdict, is_fresh, has_fresh_take, missing, is_announced, may_announce, is_reading_taken}
use Rattle.event_schedule.specs.Transcript.{set_sent, word_sent}
use Rattle.event_schedule.specs.Frames.{word_or_zero, first_word, contents_of_lines}
use Rattle.event_schedule.specs.Journal.{past_of}
use Rattle.event_schedule.proofs.ScheduleLemmas.{once-gives, missing-closed, is_announced-from_sent, is_closed-from_answer, is_reading_taken-from_answer, is_announced-from_answer, present-from_taken}
use Rattle.event_schedule.proofs.ListLemmas.{and_first, and_last}
use Rattle.transcript_log.specs.Lines.{LinesView}
use Rattle.event_schedule.specs.ByGroup.{group_of}
use Rattle.group_book.specs.Groups.{GroupView, holds, word_in}
use Rattle.std.proofs.lemmas.List.Elements.{All-nil, All-cons}
use Rattle.group_book.specs.Pages.{PageView, taken_in, PageTakes, can_take}
use Rattle.group_book.specs.Books.{BookView, posted, IsFree, HasSet}
use Rattle.group_book.specs.Replay.{IsPage, frame_with, IsWord, IsLedger, Replays, PagesEnd, book_at}
use Rattle.group_book.proofs.Tags.{everywhere, is_tag-itself}
use Rattle.group_book.proofs.LineLemmas.{past_of-push, is_sent-from_taken, posts, first_of, posted-push, posted-stays, first_word-posted, IsCore, HasOwnFrame, IsFramed, journal-push, framed-push}
use Rattle.group_book.proofs.PageLemmas.{AreFramed, page_ended, end_leaves, ending-is, is_member-taken, is_announced-is, closing-is, page_still, LeavesRound, send_leaves, stale_leaves, Took, page_takes, close_leaves, page_closed}
use Rattle.group_book.proofs.PlaceLemmas.{in_group, pages_after, words_after}

-- ---- what is kept of a round and of a tag

pub page_of : (p : PresenceView) (j : List Line) (v : GroupView) (g r : ℕ) (x : PageView) → Replays p j v → g ≡ v.group → r < v.rounds → x ≡ slice_index_or v.pages r x → IsPage (shape_of_presence p) g r x j
page_of p j v g r x rep own lt x_is =
    subst (λ y. IsPage (shape_of_presence p) g r y j) (sym x_is) (subst (λ h. IsPage (shape_of_presence p) h r (slice_index_or v.pages r x) j) (sym own) (rep.page r x lt))

pub word_of_tag : (p : PresenceView) (j : List Line) (v : GroupView) (tag : Tag) (at : ℕ) (x : Option ℕ) → Replays p j v → tag.group ≡ v.group → holds v tag ≡ true
    → at ≡ word_in v.rounds v.meters tag.round tag.meter tag.kind → x ≡ slice_index_or v.words at x → IsWord (shape_of_presence p) tag.group tag.round tag.meter tag.kind x j
word_of_tag p j v tag at x rep own held at_is x_is =
    let inside = in_group v tag held in
    subst (λ y. IsWord (shape_of_presence p) tag.group tag.round tag.meter tag.kind y j) (sym (x_is ∙ ap (λ n. slice_index_or v.words n x) at_is))
    (subst (λ g. IsWord (shape_of_presence p) g tag.round tag.meter tag.kind (slice_index_or v.words (word_in v.rounds v.meters tag.round tag.meter tag.kind) x) j) (sym own)
    (rep.word tag.round tag.meter tag.kind x inside.0 inside.1))

-- the plan has exactly the tags that its groups hold
pub place-held : (p : PresenceView) (j : List Line) (v : GroupView) (tag : Tag) → Replays p j v → tag.group ≡ v.group → is_place p.plan tag.group tag.round tag.meter ≡ holds v tag
place-held p j v tag rep own =
    ap (λ g. nat_lt tag.round p.plan.rounds && nat_lt tag.meter (size p.plan.groups g)) own
    ∙ ap (λ n. nat_lt tag.round n && nat_lt tag.meter (size p.plan.groups v.group)) (sym rep.rounds)
    ∙ ap (λ n. nat_lt tag.round v.rounds && nat_lt tag.meter n) (sym rep.meters)

-- ---- whose frames are sent

-- who was sent a frame has a reading
present-from_sent : (s : Shape) (k : Kind) (g r i : ℕ) (q : List Event) → is_sent s k g r i q ≡ true → s.present g r i ≡ true
present-from_sent s Reading g r i q h =
    once-gives (λ e _. is_send g r i Reading e && s.present g r i) (λ _. s.present g r i ≡ true) (λ e before t. and_last (is_send g r i Reading e) (s.present g r i) t) (λ e before u. u) q h
present-from_sent s Announcement g r i q h =
    once-gives (λ e before. is_send g r i Announcement e && may_announce s g r i before) (λ _. s.present g r i ≡ true)
    (λ e before t. present-from_taken s g r i before (and_last (is_announced s g r before) (is_reading_taken s g r i before) (and_last (is_send g r i Announcement e) (may_announce s g r i before) t)))
    (λ e before u. u) q h
present-from_sent s Answer g r i q h = present-from_taken s g r i q (is_reading_taken-from_answer s g r i q h)

-- outside the plan nothing is sent
pub unsent_outside : (p : PresenceView) (j : List Line) (g r i : ℕ) (k : Kind) → IsLedger p j
    → is_place p.plan g r i ≡ false → is_sent (shape_of_presence p) k g r i (past_of j) ≡ false
unsent_outside p j g r i k rep outside =
    elim (cases_Bool (is_sent (shape_of_presence p) k g r i (past_of j))) [
      | inl sent ↦ absurd (false≢true (sym (entry_outside p.plan p.table rep.table.shape false g r i outside) ∙ present-from_sent (shape_of_presence p) k g r i (past_of j) sent))
      | inr unsent ↦ unsent
    ]

-- and no frame is posted
pub none_outside : (p : PresenceView) (j : List Line) (g r i : ℕ) (k : Kind) → IsLedger p j
    → is_place p.plan g r i ≡ false → posted g r i k j ≡ None
none_outside p j g r i k rep outside = none (posted g r i k j) (rep.framed g r i k ∙ unsent_outside p j g r i k rep outside)
  where
    none : (f : Option Frame) → is_some f ≡ false → f ≡ None
    none None h = refl
    none (Some f) h = absurd (false≢true (sym h))

-- who was sent a frame is a member of the round
member-from_sent : (p : PresenceView) (j : List Line) (g r i : ℕ) (k : Kind) → IsLedger p j
    → is_place p.plan g r i ≡ true → is_sent (shape_of_presence p) k g r i (past_of j) ≡ true → is_member i (members p.plan.groups g r) ≡ true
member-from_sent p j g r i k rep known sent =
    let below : i < size p.plan.groups g = (in_place p.plan g r i known).1 in
    is_member-picked (is_member_of_group p.plan.groups g r) 0 (size p.plan.groups g) i (omega arith) (omega (arith, below))
    ∙ rep.table.of_members g r i (present-from_sent (shape_of_presence p) k g r i (past_of j) sent)

members-set : (p : PresenceView) (j : List Line) (g r : ℕ) → IsLedger p j → IsSet (members p.plan.groups g r)
members-set p j g r rep =
    let few : size p.plan.groups g ≤ 256 = rep.limits.meters g in
    set-picked (is_member_of_group p.plan.groups g r) 0 (size p.plan.groups g) (omega (arith, few))

-- who is among the meters whose frame was taken
pub taken_who : (p : PresenceView) (j : List Line) (g r : ℕ) (page : PageView) → IsLedger p j
    → IsPage (shape_of_presence p) g r page j → (i : ℕ) (k : Kind) → is_member i (taken_in k page) ≡ is_taken (shape_of_presence p) k g r i (past_of j)
taken_who p j g r page rep is i k =
    is_member-taken (shape_of_presence p) g r i k page j is
    ∙ both (is_member i (members p.plan.groups g r)) (is_taken (shape_of_presence p) k g r i (past_of j))
    (λ t. elim (cases_Bool (is_place p.plan g r i)) [
      | inl known ↦ member-from_sent p j g r i k rep known (is_sent-from_taken (shape_of_presence p) k g r i (past_of j) t)
      | inr outside ↦ absurd (false≢true (sym (unsent_outside p j g r i k rep outside) ∙ is_sent-from_taken (shape_of_presence p) k g r i (past_of j) t))
    ])
  where
    both : (a b : Bool) → (b ≡ true → a ≡ true) → (a && b) ≡ b
    both true b h = refl
    both false true h = absurd (false≢true (h refl))
    both false false h = refl

-- ---- one line more

ledger_line : (p : PresenceView) (j : List Line) (l : Line) → IsLedger p j → IsCore (shape_of_presence p) j l → HasOwnFrame (shape_of_presence p) j l → IsFramed (shape_of_presence p) j l → IsLedger p (j ++ l ∷ [])
ledger_line p j l led core own framed = record {
  limits = led.limits;
  table = led.table;
  journal = journal-push (shape_of_presence p) j l led.journal core own;
  framed = framed-push (shape_of_presence p) j l led.framed framed;
}

replays_line : (p : PresenceView) (j : List Line) (l : Line) (v : GroupView) (pages : List PageView) (words : List (Option ℕ)) → Replays p j v
    → IsCore (shape_of_presence p) j l → HasOwnFrame (shape_of_presence p) j l → IsFramed (shape_of_presence p) j l → length pages ≡ length v.pages → length words ≡ length v.words
    → ((r : ℕ) (d : PageView) → r < v.rounds → IsPage (shape_of_presence p) v.group r (slice_index_or pages r d) (j ++ l ∷ []))
    → ((r i : ℕ) (k : Kind) (d : Option ℕ) → r < v.rounds → i < v.meters → IsWord (shape_of_presence p) v.group r i k (slice_index_or words (word_in v.rounds v.meters r i k) d) (j ++ l ∷ []))
    → Replays p (j ++ l ∷ []) (record v { pages = pages; words = words })
replays_line p j l v pages words rep core own framed pages_long words_long page word = record {
  ledger = ledger_line p j l rep.ledger core own framed;
  inside = rep.inside;
  rounds = rep.rounds;
  meters = rep.meters;
  pages_long = pages_long ∙ rep.pages_long;
  words_long = words_long ∙ rep.words_long;
  page = page;
  word = word;
}

-- every frame of a round is posted where it was sent
framed_in : (p : PresenceView) (j : List Line) → IsLedger p j → (g r : ℕ) → AreFramed (shape_of_presence p) g r j
framed_in p j led g r i k = led.framed g r i k

-- ---- the set that a frame carries, and the word that is kept of it

-- a Send takes nothing
missing-send : (s : Shape) (g r : ℕ) (tag : Tag) (q : List Event) → missing s g r (Send tag ∷ q) ≡ missing s g r q
missing-send s g r tag q = ap (λ t. filter t (members_of s g r)) (fun_ext (λ i. ap not ((send_leaves s g r tag q).takes i Reading)))

-- a Send changes no set
set_sent-send : (s : Shape) (k : Kind) (g r : ℕ) (tag : Tag) (q : List Event) → set_sent s k g r (Send tag ∷ q) ≡ set_sent s k g r q
set_sent-send s Reading g r tag q = refl
set_sent-send s Announcement g r tag q = missing-send s g r tag q
set_sent-send s Answer g r tag q = missing-send s g r tag q

-- the set that a frame carries stays once one was sent
set_sent-stays : (s : Shape) (k : Kind) (g r i : ℕ) (e : Event) (q : List Event) → is_sent s k g r i q ≡ true → set_sent s k g r (e ∷ q) ≡ set_sent s k g r q
set_sent-stays s Reading g r i e q sent = refl
set_sent-stays s Announcement g r i e q sent = missing-closed s g r e q (and_first (is_closed g r q) (reaches_floor s g r q) (is_announced-from_sent s g r i q sent))
set_sent-stays s Answer g r i e q sent = missing-closed s g r e q (is_closed-from_answer s g r i q sent)

-- the word of a tag under which a line posts nothing
word_still : (s : Shape) (g r i : ℕ) (k : Kind) (w : Option ℕ) (j : List Line) (l : Line) → IsWord s g r i k w j
    → is_some (posted g r i k j) ≡ is_sent s k g r i (past_of j) → posts g r i k l ≡ None → IsWord s g r i k w (j ++ l ∷ [])
word_still s g r i k None j l is framed none = is ∙ sym (posted-stays g r i k j l none)
word_still s g r i k (Some w) j l is framed none =
    ap (λ set. frame_with (record { group = g; round = r; meter = i; kind = k }) set (Some w))
    (ap (set_sent s k g r) (past_of-push j l) ∙ set_sent-stays s k g r i (event_of l) (past_of j) (sym framed ∙ sym (ap is_some is)))
    ∙ is ∙ sym (posted-stays g r i k j l none)

-- ---- Sends

nothing : (q : Bool) → ◌≡◌ {A = Option Frame} (if q then None else None) None
nothing true = refl
nothing false = refl

some_if : (q : Bool) (f : Frame) → q ≡ true → Some f ≡ (if q then Some f else None)
some_if true f h = refl
some_if false f h = absurd (false≢true h)

none_if : (q : Bool) (f : Frame) → q ≡ false → None ≡ (if q then Some f else None)
none_if false f h = refl
none_if true f h = absurd (false≢true (sym h))

-- the frame of an effective Send, with the word that these lines have for it
abbrev frame_made : Shape → Tag → List Event → List Line → Frame
frame_made s tag q js = record { tag = tag; missing = set_sent s tag.kind tag.group tag.round q; word = word_sent s (contents_of_lines js) tag.kind tag.group tag.round tag.meter q }

-- a Send that has no effect
replays_void : (p : PresenceView) (j : List Line) (v : GroupView) (tag : Tag) → Replays p j v
    → may_send (shape_of_presence p) tag.kind tag.group tag.round tag.meter (past_of j) ≡ false → Replays p (j ++ SendLine tag None ∷ []) v
replays_void p j v tag rep void =
    replays_line p j (SendLine tag None) v v.pages v.words rep
    (sym (ap (SendLine tag) (nothing (may_send (shape_of_presence p) tag.kind tag.group tag.round tag.meter (past_of j)))))
    (none_if (may_send (shape_of_presence p) tag.kind tag.group tag.round tag.meter (past_of j)) (frame_made (shape_of_presence p) tag (past_of j) (j ++ SendLine tag None ∷ [])) void)
    (everywhere tag (λ g r i k. is_some (posts g r i k (SendLine tag None)) ≡ (is_tag g r i k tag && may_send (shape_of_presence p) k g r i (past_of j)))
    (ap is_some (nothing (is_tag tag.group tag.round tag.meter tag.kind tag)) ∙ sym (ap (λ b. is_tag tag.group tag.round tag.meter tag.kind tag && b) void ∙ and-false (is_tag tag.group tag.round tag.meter tag.kind tag)))
    (λ g r i k differs. ap is_some (nothing (is_tag g r i k tag)) ∙ ap (λ b. b && may_send (shape_of_presence p) k g r i (past_of j)) (sym differs)))
    refl refl
    (λ r d hr. page_still (shape_of_presence p) v.group r (slice_index_or v.pages r d) j (SendLine tag None) (rep.page r d hr) (framed_in p j rep.ledger v.group r) (send_leaves (shape_of_presence p) v.group r tag (past_of j)))
    (λ r i k d hr hi. word_still (shape_of_presence p) v.group r i k (slice_index_or v.words (word_in v.rounds v.meters r i k) d) j (SendLine tag None) (rep.word r i k d hr hi) (rep.ledger.framed v.group r i k)
    (nothing (is_tag v.group r i k tag)))

first_of-free : (found : Option Frame) (f : Frame) → IsFree found f → first_of found (Some f) ≡ Some f
first_of-free None f free = refl
first_of-free (Some p) f free = ap Some free

-- what is posted under the tag of a Send that has effect
posted_sent : (f : Frame) (j : List Line) → IsFree (posted f.tag.group f.tag.round f.tag.meter f.tag.kind j) f → posted f.tag.group f.tag.round f.tag.meter f.tag.kind (j ++ SendLine f.tag (Some f) ∷ []) ≡ Some f
posted_sent f j free =
    posted-push f.tag.group f.tag.round f.tag.meter f.tag.kind j (SendLine f.tag (Some f))
    ∙ ap (λ b. first_of (posted f.tag.group f.tag.round f.tag.meter f.tag.kind j) (if b then Some f else None)) (is_tag-itself f.tag)
    ∙ first_of-free (posted f.tag.group f.tag.round f.tag.meter f.tag.kind j) f free

set_is : (s : Shape) (k : Kind) (g r : ℕ) (q : List Event) (set : List ℕ) (w : ℕ) → HasSet k (missing s g r q) set → FitsKind k set w → set ≡ set_sent s k g r q
set_is s Reading g r q set w has fits = fits
set_is s Announcement g r q set w has fits = sym has
set_is s Answer g r q set w has fits = sym has

-- what is kept under the tag of a Send that has effect
word_sent_is : (s : Shape) (f : Frame) (j : List Line) → HasSet f.tag.kind (missing s f.tag.group f.tag.round (past_of j)) f.missing → FitsKind f.tag.kind f.missing f.word
    → IsFree (posted f.tag.group f.tag.round f.tag.meter f.tag.kind j) f → IsWord s f.tag.group f.tag.round f.tag.meter f.tag.kind (Some f.word) (j ++ SendLine f.tag (Some f) ∷ [])
word_sent_is s f j has fits free =
    ap (λ set. frame_with f.tag set (Some f.word))
    (ap (set_sent s f.tag.kind f.tag.group f.tag.round) (past_of-push j (SendLine f.tag (Some f)))
    ∙ set_sent-send s f.tag.kind f.tag.group f.tag.round f.tag (past_of j)
    ∙ sym (set_is s f.tag.kind f.tag.group f.tag.round (past_of j) f.missing f.word has fits))
    ∙ sym (posted_sent f j free)

word_is : (s : Shape) (k : Kind) (g r i : ℕ) (q : List Event) (js : List Line) (set : List ℕ) (w : ℕ) → FitsKind k set w → w ≡ first_word g r i k js → w ≡ word_sent s (contents_of_lines js) k g r i q
word_is s Reading g r i q js set w fits is = is
word_is s Announcement g r i q js set w fits is = fits
word_is s Answer g r i q js set w fits is = is

-- a Send that has effect
replays_sent : (p : PresenceView) (j : List Line) (v : GroupView) (f : Frame) → Replays p j v → f.tag.group ≡ v.group → holds v f.tag ≡ true
    → may_send (shape_of_presence p) f.tag.kind f.tag.group f.tag.round f.tag.meter (past_of j) ≡ true
    → HasSet f.tag.kind (missing (shape_of_presence p) f.tag.group f.tag.round (past_of j)) f.missing → FitsKind f.tag.kind f.missing f.word
    → IsFree (posted f.tag.group f.tag.round f.tag.meter f.tag.kind j) f
    → Replays p (j ++ SendLine f.tag (Some f) ∷ []) (record v { words = set v.words (word_in v.rounds v.meters f.tag.round f.tag.meter f.tag.kind) (Some f.word) })
replays_sent p j v f rep own held may has fits free =
    replays_line p j l v v.pages (set v.words (word_in v.rounds v.meters tag.round tag.meter tag.kind) (Some f.word)) rep
    (ap (λ b. SendLine tag (if b then Some f else None)) (sym may))
    (ap Some made ∙ some_if (may_send s tag.kind tag.group tag.round tag.meter (past_of j)) (frame_made s tag (past_of j) (j ++ l ∷ [])) may)
    (everywhere tag (λ g r i k. is_some (posts g r i k l) ≡ (is_tag g r i k tag && may_send s k g r i (past_of j)))
    (ap (λ b. is_some (if b then Some f else None)) (is_tag-itself tag) ∙ sym (ap (λ b. b && may_send s tag.kind tag.group tag.round tag.meter (past_of j)) (is_tag-itself tag) ∙ may))
    (λ g r i k differs. ap (λ b. is_some (if b then Some f else None)) differs ∙ ap (λ b. b && may_send s k g r i (past_of j)) (sym differs)))
    refl (length-set v.words (word_in v.rounds v.meters tag.round tag.meter tag.kind) (Some f.word))
    (λ r d hr. page_still s v.group r (slice_index_or v.pages r d) j l (rep.page r d hr) (framed_in p j rep.ledger v.group r) (send_leaves s v.group r tag (past_of j)))
    (words_after v tag (Some f.word) (λ g r i k y. IsWord s g r i k y (j ++ l ∷ [])) own (in_group v tag held).0 (in_group v tag held).1 rep.words_long (word_sent_is s f j has fits free)
    (λ r i k d hr hi differs. word_still s v.group r i k (slice_index_or v.words (word_in v.rounds v.meters r i k) d) j l (rep.word r i k d hr hi) (rep.ledger.framed v.group r i k)
    (ap (λ b. if b then Some f else None) differs)))
  where
    s : Shape
    s = shape_of_presence p

    tag : Tag
    tag = f.tag

    l : Line
    l = SendLine f.tag (Some f)

    first : f.word ≡ first_word tag.group tag.round tag.meter tag.kind (j ++ l ∷ [])
    first = sym (first_word-posted tag.group tag.round tag.meter tag.kind (j ++ l ∷ []) ∙ ap word_or_zero (posted_sent f j free))

    made : f ≡ frame_made s tag (past_of j) (j ++ l ∷ [])
    made = λ n. record {
      tag = tag;
      missing = set_is s tag.kind tag.group tag.round (past_of j) f.missing f.word has fits n;
      word = word_is s tag.kind tag.group tag.round tag.meter (past_of j) (j ++ l ∷ []) f.missing f.word fits first n;
    }

-- ---- lines without a frame

pub void_verdict : (s : Shape) (tag : Tag) (q : List Event) → is_sent s tag.kind tag.group tag.round tag.meter q ≡ false → Void ≡ verdict s tag.kind tag.group tag.round tag.meter q
void_verdict s tag q unsent =
    sym (ap (λ b. if not b then Void else if is_fresh s tag.kind tag.group tag.round tag.meter q then Fresh else if has_fresh_take s tag.kind tag.group tag.round tag.meter q then Again else Late) unsent)

replays_plain : (p : PresenceView) (j : List Line) (l : Line) (v : GroupView) (pages : List PageView) → Replays p j v
    → IsCore (shape_of_presence p) j l → HasOwnFrame (shape_of_presence p) j l → ((g r i : ℕ) (k : Kind) → is_send g r i k (event_of l) ≡ false) → length pages ≡ length v.pages
    → ((r : ℕ) (d : PageView) → r < v.rounds → IsPage (shape_of_presence p) v.group r (slice_index_or pages r d) (j ++ l ∷ []))
    → Replays p (j ++ l ∷ []) (record v { pages = pages })
replays_plain p j l v pages rep core own unsent long page =
    replays_line p j l v pages v.words rep core own
    (λ g r i k. ap is_some (none g r i k) ∙ sym (ap (λ b. b && may_send (shape_of_presence p) k g r i (past_of j)) (unsent g r i k)))
    long refl page
    (λ r i k d hr hi. word_still (shape_of_presence p) v.group r i k (slice_index_or v.words (word_in v.rounds v.meters r i k) d) j l (rep.word r i k d hr hi) (rep.ledger.framed v.group r i k) (none v.group r i k))
  where
    none : (g r i : ℕ) (k : Kind) → posts g r i k l ≡ None
    none g r i k = ap (λ b. if b then frame_of l else None) (unsent g r i k)

-- a Take under whose tag no frame is posted
replays_unsent : (p : PresenceView) (j : List Line) (v : GroupView) (tag : Tag) → Replays p j v
    → is_sent (shape_of_presence p) tag.kind tag.group tag.round tag.meter (past_of j) ≡ false → Replays p (j ++ TakeLine tag Void ∷ []) v
replays_unsent p j v tag rep unsent =
    let s : Shape = shape_of_presence p in
    replays_plain p j (TakeLine tag Void) v v.pages rep
    (ap (TakeLine tag) (void_verdict s tag (past_of j) unsent)) tt (λ g r i k. refl) refl
    (λ r d hr. page_still s v.group r (slice_index_or v.pages r d) j (TakeLine tag Void) (rep.page r d hr) (framed_in p j rep.ledger v.group r)
    (stale_leaves s tag (past_of j) (ap (λ b. b && not (is_late tag.kind tag.group tag.round (past_of j)) && not (is_taken s tag.kind tag.group tag.round tag.meter (past_of j))) unsent) v.group r))

-- a line of one round, whose page is set
replays_round : (p : PresenceView) (j : List Line) (l : Line) (v : GroupView) (g r : ℕ) (new : PageView) → Replays p j v → g ≡ v.group → r < v.rounds
    → IsCore (shape_of_presence p) j l → HasOwnFrame (shape_of_presence p) j l → ((g r i : ℕ) (k : Kind) → is_send g r i k (event_of l) ≡ false)
    → IsPage (shape_of_presence p) g r new (j ++ l ∷ []) → ((h q : ℕ) → ((g == h) && (r == q)) ≡ false → LeavesRound (shape_of_presence p) h q (event_of l) (past_of j))
    → Replays p (j ++ l ∷ []) (record v { pages = set v.pages r new })
replays_round p j l v g r new rep own lt core frame unsent page others =
    let s : Shape = shape_of_presence p in
    let inside : r < length v.pages = rw rep.pages_long lt in
    replays_plain p j l v (set v.pages r new) rep core frame unsent (length-set v.pages r new)
    (pages_after v.pages v.rounds r new (λ q y. IsPage s v.group q y (j ++ l ∷ [])) inside (subst (λ h. IsPage s h r new (j ++ l ∷ [])) own page)
    (λ q d hq other. page_still s v.group q (slice_index_or v.pages q d) j l (rep.page q d hq) (framed_in p j rep.ledger v.group q)
    (others v.group q (ap (λ b. (g == v.group) && b) other ∙ and-false (g == v.group)))))

-- ---- what a call leaves, from what it found

-- a call on a group came to this, with one line more
pub ends_with : (p : PresenceView) (j : List Line) (call : BookView → BookView → Type 0) (before after : LinesView) (g : ℕ) (v : GroupView) (l : Line)
    → call (book_at p j before.spare) (book_at p (j ++ l ∷ []) after.spare) → Replays p (j ++ l ∷ []) v → v.group ≡ g → group_of (event_of l) ≡ g → after.items ≡ before.items ++ l ∷ []
    → PagesEnd p j call before g v after
ends_with p j call before after g v l is pages same own lines = record {
  added = l ∷ [];
  ends = is;
  pages = pages;
  group = same;
  own = All-cons (λ l. group_of (event_of l) ≡ g) l [] own (All-nil (λ l. group_of (event_of l) ≡ g));
  lines = lines;
}

-- or it was refused, and nothing changed
pub ends_refused : (p : PresenceView) (j : List Line) (call : BookView → BookView → Type 0) (before after : LinesView) (v : GroupView)
    → call (book_at p j before.spare) (book_at p j before.spare) → Replays p j v → after ≡ before → PagesEnd p j call before v.group v after
ends_refused p j call before after v is pages same = record {
  added = [];
  ends = subst (λ x. call (book_at p j before.spare) (book_at p x after.spare)) (sym (append-nil j)) (subst (λ x. call (book_at p j before.spare) (book_at p j x.spare)) (sym same) is);
  pages = subst (λ x. Replays p x v) (sym (append-nil j)) pages;
  group = refl;
  own = All-nil (λ l. group_of (event_of l) ≡ v.group);
  lines = ap (λ x. x.items) same ∙ sym (append-nil before.items);
}

pub void_now : (p : PresenceView) (j : List Line) (v : GroupView) (tag : Tag) → Replays p j v
    → may_send (shape_of_presence p) tag.kind tag.group tag.round tag.meter (past_of j) ≡ false → Replays p (j ++ SendLine tag None ∷ []) v
void_now = replays_void

pub sent_now : (p : PresenceView) (j : List Line) (v : GroupView) (f : Frame) (at : ℕ) → Replays p j v → f.tag.group ≡ v.group → holds v f.tag ≡ true
    → at ≡ word_in v.rounds v.meters f.tag.round f.tag.meter f.tag.kind
    → may_send (shape_of_presence p) f.tag.kind f.tag.group f.tag.round f.tag.meter (past_of j) ≡ true
    → HasSet f.tag.kind (missing (shape_of_presence p) f.tag.group f.tag.round (past_of j)) f.missing → FitsKind f.tag.kind f.missing f.word
    → IsFree (posted f.tag.group f.tag.round f.tag.meter f.tag.kind j) f
    → Replays p (j ++ SendLine f.tag (Some f) ∷ []) (record v { words = set v.words at (Some f.word) })
sent_now p j v f at rep own held at_is may has fits free =
    subst (λ n. Replays p (j ++ SendLine f.tag (Some f) ∷ []) (record v { words = set v.words n (Some f.word) })) (sym at_is) (replays_sent p j v f rep own held may has fits free)

pub unsent_now : (p : PresenceView) (j : List Line) (v : GroupView) (tag : Tag) → Replays p j v
    → is_sent (shape_of_presence p) tag.kind tag.group tag.round tag.meter (past_of j) ≡ false → Replays p (j ++ TakeLine tag Void ∷ []) v
unsent_now = replays_unsent

-- a frame that was sent can be asked of its meter
pub can_ask_now : (p : PresenceView) (j : List Line) (tag : Tag) (page : PageView) → IsLedger p j
    → is_place p.plan tag.group tag.round tag.meter ≡ true → is_sent (shape_of_presence p) tag.kind tag.group tag.round tag.meter (past_of j) ≡ true
    → IsPage (shape_of_presence p) tag.group tag.round page j → can_take tag.kind page tag.meter ≡ true
can_ask_now p j tag page rep known sent is =
    by_kind tag.kind (ap (is_member tag.meter) is.members ∙ member-from_sent p j tag.group tag.round tag.meter tag.kind rep known sent) sent
  where
    s : Shape
    s = shape_of_presence p

    by_kind : (k : Kind) → is_member tag.meter page.round.members ≡ true → is_sent s k tag.group tag.round tag.meter (past_of j) ≡ true → can_take k page tag.meter ≡ true
    by_kind Reading m h = m
    by_kind Announcement m h = refl
    by_kind Answer m h =
        and_from (is_member tag.meter page.round.members) (round_announced page.round && is_member tag.meter page.round.taken) m
        (and_from (round_announced page.round) (is_member tag.meter page.round.taken)
        (is_announced-is s tag.group tag.round page j is ∙ is_announced-from_answer s tag.group tag.round tag.meter (past_of j) h)
        (taken_who p j tag.group tag.round page rep is tag.meter Reading ∙ is_reading_taken-from_answer s tag.group tag.round tag.meter (past_of j) h))

-- what a Take of a posted frame says and leaves
pub took_now : (p : PresenceView) (j : List Line) (tag : Tag) (v : Verdict) (w : ℕ) (page new : PageView) → IsLedger p j
    → is_place p.plan tag.group tag.round tag.meter ≡ true → is_sent (shape_of_presence p) tag.kind tag.group tag.round tag.meter (past_of j) ≡ true
    → w ≡ first_word tag.group tag.round tag.meter tag.kind j → IsPage (shape_of_presence p) tag.group tag.round page j → PageTakes page tag.kind tag.meter w v new
    → Took (shape_of_presence p) tag v new j
took_now p j tag v w page new rep known sent w_is is takes =
    page_takes (shape_of_presence p) tag v w page new j is (framed_in p j rep) (members-set p j tag.group tag.round rep)
    (member-from_sent p j tag.group tag.round tag.meter tag.kind rep known sent) sent w_is takes

pub taken_now : (p : PresenceView) (j : List Line) (v : GroupView) (tag : Tag) (w : Verdict) (new : PageView) → Replays p j v → tag.group ≡ v.group → tag.round < v.rounds
    → Took (shape_of_presence p) tag w new j → Replays p (j ++ TakeLine tag w ∷ []) (record v { pages = set v.pages tag.round new })
taken_now p j v tag w new rep own lt took =
    replays_round p j (TakeLine tag w) v tag.group tag.round new rep own lt (ap (TakeLine tag) took.verdict) tt (λ g r i k. refl) took.page took.others

pub closed_now : (p : PresenceView) (j : List Line) (v : GroupView) (r : ℕ) (c : Closing) (page new : PageView) → Replays p j v → r < v.rounds
    → IsPage (shape_of_presence p) v.group r page j → Closes page.round c new.round → new.told ≡ page.told → Replays p (j ++ CloseLine v.group r c ∷ []) (record v { pages = set v.pages r new })
closed_now p j v r c page new rep lt is closes told =
    let s : Shape = shape_of_presence p in
    replays_round p j (CloseLine v.group r c) v v.group r new rep refl lt (ap (CloseLine v.group r) (closing-is s v.group r c page new j is closes)) tt (λ g r i k. refl)
    (page_closed s v.group r c c page new j is (framed_in p j rep.ledger v.group r) closes told) (close_leaves s v.group r (past_of j))

pub ended_now : (p : PresenceView) (j : List Line) (v : GroupView) (r : ℕ) (e : Ending) (page new : PageView) → Replays p j v → r < v.rounds
    → IsPage (shape_of_presence p) v.group r page j → Ends page.round e new.round → new.told ≡ page.told → Replays p (j ++ EndLine v.group r e ∷ []) (record v { pages = set v.pages r new })
ended_now p j v r e page new rep lt is ends told =
    let s : Shape = shape_of_presence p in
    replays_round p j (EndLine v.group r e) v v.group r new rep refl lt (ap (EndLine v.group r) (ending-is s v.group r e page new j is ends)) tt (λ g r i k. refl)
    (page_ended s v.group r e e page new j is (framed_in p j rep.ledger v.group r) ends told) (end_leaves s v.group r (past_of j))
