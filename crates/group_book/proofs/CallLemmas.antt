-- What each call of a book answers, by what it reads off what it keeps.
use Rattle.std.proofs.Common.{◌≡◌, ℕ, ◌+◌, ◌<◌, ◌≤◌, Bool, true, false, ◌&&◌, List, [], ◌∷◌, ◌++◌, refl, sym, ap, ◌∙◌, subst}
use Rattle.std.specs.Prelude.{if◌then◌else◌, slice_index_or, Option, Some, None, is_some}
use Rattle.std.proofs.lemmas.Bool.{false≢true}
use Rattle.missing_round.specs.Sets.{is_member}
use Rattle.group_plan.specs.declared.Kind.{Kind}
use Rattle.group_plan.specs.declared.Kind.TheVariants.{Reading, Announcement, Answer}
use Rattle.group_plan.specs.declared.Tag.{Tag}
use Rattle.group_plan.specs.Plans.{is_place}
use Rattle.group_plan.specs.Tables.{PresenceView}
use Rattle.meter_frames.specs.declared.Frame.{Frame}
use Rattle.round_machine.specs.declared.Verdict.{Verdict}
use Rattle.round_machine.specs.Rounds.{missing as missing_in, is_announced as round_announced}
use Rattle.event_schedule.specs.declared.Event.{Event}
use Rattle.event_schedule.specs.declared.Line.{Line}
use Rattle.event_schedule.specs.Schedule.{Shape, shape_of_presence, is_sent, may_send, is_taken, missing, is_announced, is_reading_taken}
use Rattle.event_schedule.specs.Transcript.{set_sent}
use Rattle.event_schedule.specs.Frames.{word_or_zero, first_word}
use Rattle.event_schedule.specs.Journal.{past_of, core_line}
use Rattle.event_schedule.proofs.ScheduleLemmas.{is_announced-from_sent, is_announced-from_answer, is_announcement_sent-from_taken}
use Rattle.event_schedule.proofs.ListLemmas.{and_first}
use Rattle.group_book.specs.Groups.{GroupView, holds}
use Rattle.group_book.specs.Pages.{PageView, taken_in, announced_in, PageTakes}
use Rattle.group_book.specs.Books.{BookView, shape_of, past, posted_of, was_sent, allows, missing_of, Adds, IsFree, HasSet, IsPosted, IsAnnounced}
use Rattle.group_book.specs.BookParts.{HasWord, set_carried, HasSetOf, IsOtherSet}
use Rattle.group_book.specs.Replay.{IsPage, IsWord, Replays, book_at}
use Rattle.group_book.proofs.LineLemmas.{first_word-posted}
use Rattle.group_book.proofs.PageLemmas.{is_announced-is, announced-is, Took}
use Rattle.group_book.proofs.PlaceLemmas.{in_group}
use Rattle.group_book.proofs.GroupLemmas.{page_of, place-held, took_now}

-- ---- announced

pub announced_now : (b : BookView) (g r : ℕ) (page : PageView) (found : Option (List ℕ)) → IsPage (shape_of b) g r page b.journal → found ≡ announced_in page.round → IsAnnounced b g r found
announced_now b g r page found is found_is = cases (is_announced (shape_of b) g r (past b)) refl (found_is ∙ announced-is (shape_of b) g r page b.journal is)
  where
    cases : (q : Bool) → is_announced (shape_of b) g r (past b) ≡ q → found ≡ (if q then Some (missing (shape_of b) g r (past b)) else None) → IsAnnounced b g r found
    cases true e h = subst (IsAnnounced b g r) (sym h) (e, refl)
    cases false e h = subst (IsAnnounced b g r) (sym h) e

-- ---- what may be sent

is_some-if : (q : Bool) (ms : List ℕ) → is_some (if q then Some ms else None) ≡ q
is_some-if true ms = refl
is_some-if false ms = refl

-- an announcement to a survivor of an announced round
pub may_announce_now : (b : BookView) (tag : Tag) (page : PageView) (found : Option (List ℕ)) (some has : Bool) (set : List ℕ) → tag.kind ≡ Announcement → IsPage (shape_of b) tag.group tag.round page b.journal
    → ((i : ℕ) (k : Kind) → is_member i (taken_in k page) ≡ is_taken (shape_of b) k tag.group tag.round i (past b))
    → found ≡ announced_in page.round → some ≡ is_some found → set ≡ page.round.taken → has ≡ is_member tag.meter set → (some && has) ≡ allows b tag
may_announce_now b tag page found some has set kind is who found_is some_is set_is has_is =
    ap (λ q. q && has) (some_is ∙ ap is_some found_is ∙ is_some-if (round_announced page.round) (missing_in page.round) ∙ is_announced-is (shape_of b) tag.group tag.round page b.journal is)
    ∙ ap (λ q. is_announced (shape_of b) tag.group tag.round (past b) && q) (has_is ∙ ap (is_member tag.meter) set_is ∙ who tag.meter Reading)
    ∙ ap (λ k. may_send (shape_of b) k tag.group tag.round tag.meter (past b)) (sym kind)

-- an answer of a meter that took its announcement
pub may_answer_now : (b : BookView) (tag : Tag) (page : PageView) (told : Bool) → tag.kind ≡ Answer
    → ((i : ℕ) (k : Kind) → is_member i (taken_in k page) ≡ is_taken (shape_of b) k tag.group tag.round i (past b)) → told ≡ is_member tag.meter page.told → told ≡ allows b tag
may_answer_now b tag page told kind who told_is =
    told_is ∙ who tag.meter Announcement ∙ ap (λ k. may_send (shape_of b) k tag.group tag.round tag.meter (past b)) (sym kind)

-- ---- the set that a frame carries

-- where no set was announced, only readings may be sent
no_set : (s : Shape) (k : Kind) (g r i : ℕ) (q : List Event) (set : List ℕ) → may_send s k g r i q ≡ true → is_announced s g r q ≡ false → HasSet k (missing s g r q) set
no_set s Reading g r i q set may none = tt
no_set s Announcement g r i q set may none = absurd (false≢true (sym none ∙ and_first (is_announced s g r q) (is_reading_taken s g r i q) may))
no_set s Answer g r i q set may none = absurd (false≢true (sym none ∙ is_announced-from_sent s g r i q (is_announcement_sent-from_taken s g r i q may)))

pub other_set_now : (b : BookView) (f : Frame) (announced found : Option (List ℕ)) → allows b f.tag ≡ true → IsAnnounced b f.tag.group f.tag.round announced → IsOtherSet announced f found
    → HasSetOf (missing_of b f.tag) f found
other_set_now b f None found may none is =
    subst (HasSetOf (missing_of b f.tag) f) (sym is) (no_set (shape_of b) f.tag.kind f.tag.group f.tag.round f.tag.meter (past b) f.missing may none)
other_set_now b f (Some set) found may some is = subst (λ ms. HasSetOf ms f found) some.1 is

-- ---- the line that a call adds

pub adds_line : (b0 b c : BookView) (e : Event) (given : Option Frame) (l : Line) → b0 ≡ b → c.presence ≡ b0.presence → c.journal ≡ b0.journal ++ l ∷ [] → b0.spare ≤ c.spare + 1
    → l ≡ core_line (shape_of b0) b0.journal e given → Adds b e given c
adds_line b0 b c e given l same presence journal spare is =
    subst (λ x. Adds x e given c) same
    (record { presence = presence; journal = journal ∙ ap (λ x. b0.journal ++ x ∷ []) is; spare = spare })

-- ---- the posted frame

pub word_now : (b : BookView) (tag : Tag) (found : Option ℕ) → IsWord (shape_of b) tag.group tag.round tag.meter tag.kind found b.journal → is_some (posted_of b tag) ≡ was_sent b tag → HasWord b tag found
word_now b tag None is framed = (sym is, sym framed ∙ sym (ap is_some is))
word_now b tag (Some w) is framed = (sym is, sym framed ∙ sym (ap is_some is))

-- the set that a frame carries, where one was sent
carried : (b : BookView) (tag : Tag) (found : Option (List ℕ)) → IsAnnounced b tag.group tag.round found → was_sent b tag ≡ true
    → set_carried tag.kind found ≡ set_sent (shape_of b) tag.kind tag.group tag.round (past b)
carried b tag = by_kind tag.kind
  where
    by_kind : (k : Kind) (found : Option (List ℕ)) → IsAnnounced b tag.group tag.round found → is_sent (shape_of b) k tag.group tag.round tag.meter (past b) ≡ true
        → set_carried k found ≡ set_sent (shape_of b) k tag.group tag.round (past b)
    by_kind Reading found is sent = refl
    by_kind Announcement (Some set) is sent = is.1
    by_kind Announcement None none sent = absurd (false≢true (sym none ∙ is_announced-from_sent (shape_of b) tag.group tag.round tag.meter (past b) sent))
    by_kind Answer (Some set) is sent = is.1
    by_kind Answer None none sent = absurd (false≢true (sym none ∙ is_announced-from_answer (shape_of b) tag.group tag.round tag.meter (past b) sent))

-- the frame that is put together of the kept word and the announced set
pub posted_now : (b : BookView) (tag : Tag) (w : ℕ) (set : List ℕ) (found : Option (List ℕ)) → HasWord b tag (Some w) → IsAnnounced b tag.group tag.round found → set ≡ set_carried tag.kind found
    → IsPosted b tag (Some (record { tag = tag; missing = set; word = w }))
posted_now b tag w set found is announced set_is =
    (is.0 ∙ ap (λ x. Some (record { tag = tag; missing = x; word = w })) (sym (set_is ∙ carried b tag found announced is.1)), is.1)

pub posted_is : (b : BookView) (tag : Tag) (found : Option Frame) → IsPosted b tag found → posted_of b tag ≡ found
posted_is b tag None is = is.0
posted_is b tag (Some p) is = is.0

-- a frame that is posted, and that came, was sent with its word
pub record IsKnown (b : BookView) (f : Frame) : Type 0 where
  pub sent : was_sent b f.tag ≡ true
  pub word : f.word ≡ first_word f.tag.group f.tag.round f.tag.meter f.tag.kind b.journal

pub known_now : (b : BookView) (f : Frame) (found : Option Frame) → IsPosted b f.tag found → IsFree found f → is_some found ≡ true → IsKnown b f
known_now b f None is free some = absurd (false≢true some)
known_now b f (Some p) is free some = record {
  sent = is.1;
  word = sym (first_word-posted f.tag.group f.tag.round f.tag.meter f.tag.kind b.journal ∙ ap word_or_zero (is.0 ∙ ap Some free));
}

pub unknown_now : (b : BookView) (tag : Tag) (found : Option Frame) → IsPosted b tag found → is_some found ≡ false → was_sent b tag ≡ false
unknown_now b tag None is none = is.1
unknown_now b tag (Some p) is none = absurd (false≢true (sym none))

-- ---- a Take of a posted frame

-- what is kept of the group where the frame is taken
pub record Finds (p : PresenceView) (j : List Line) (v : GroupView) (f : Frame) (held : PageView) : Type 0 where
  pub replays : Replays p j v
  pub own : f.tag.group ≡ v.group
  pub round : f.tag.round < v.rounds
  pub place : is_place p.plan f.tag.group f.tag.round f.tag.meter ≡ true
  pub sent : is_sent (shape_of_presence p) f.tag.kind f.tag.group f.tag.round f.tag.meter (past_of j) ≡ true
  pub word : f.word ≡ first_word f.tag.group f.tag.round f.tag.meter f.tag.kind j
  pub page : IsPage (shape_of_presence p) f.tag.group f.tag.round held j

pub finds : (p : PresenceView) (j : List Line) (v : GroupView) (f : Frame) (found : Option Frame) (page : PageView) → Replays p j v → f.tag.group ≡ v.group → holds v f.tag ≡ true
    → IsPosted (book_at p j 0) f.tag found → IsFree found f → is_some found ≡ true → page ≡ slice_index_or v.pages f.tag.round page → Finds p j v f page
finds p j v f found page rep own held posted free some page_is =
    let is : IsKnown (book_at p j 0) f = known_now (book_at p j 0) f found posted free some in
    let round : f.tag.round < v.rounds = (in_group v f.tag held).0 in
    record {
      replays = rep;
      own = own;
      round = round;
      place = place-held p j v f.tag rep own ∙ held;
      sent = is.sent;
      word = is.word;
      page = page_of p j v f.tag.group f.tag.round page rep own round page_is;
    }

pub took : (p : PresenceView) (j : List Line) (v : GroupView) (f : Frame) (page new : PageView) (w : Verdict) → Finds p j v f page
    → PageTakes page f.tag.kind f.tag.meter f.word w new → Took (shape_of_presence p) f.tag w new j
took p j v f page new w h takes = took_now p j f.tag w f.word page new h.replays.ledger h.place h.sent h.word h.page takes
