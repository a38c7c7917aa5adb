-- What a book keeps is what its journal says, whichever of two lines is first whose events are apart.
use Rattle.std.proofs.Common.{◌≡◌, ℕ, true, false, ◌&&◌, List, [], ◌∷◌, ◌++◌, length, map, refl, sym, ap, ◌∙◌, subst, arith, append_assoc}
use Rattle.std.specs.Prelude.{◌==◌, if◌then◌else◌, reverse, filter, Option, None, is_some}
use Rattle.std.specs.List.{sum_by}
use mathlib.Core.Path.{fun_ext}
use Rattle.std.proofs.lemmas.List.{map-append}
use Rattle.missing_round.specs.Words.{word, frame_total}
use Rattle.group_plan.specs.declared.Kind.{Kind}
use Rattle.group_plan.specs.declared.Kind.TheVariants.{Reading, Answer}
use Rattle.group_plan.specs.declared.Tag.{Tag}
use Rattle.group_plan.specs.Tables.{PresenceView}
use Rattle.meter_frames.specs.declared.Frame.{Frame}
use Rattle.event_schedule.specs.declared.Event.{Event}
use Rattle.event_schedule.specs.declared.Event.TheVariants.{Send, Take, Close, End}
use Rattle.event_schedule.specs.declared.Line.{Line}
use Rattle.event_schedule.specs.declared.Line.TheVariants.{Send as SendLine, Take as TakeLine, Close as CloseLine, End as EndLine}
use Rattle.event_schedule.specs.declared.Entry.{Entry}
use Rattle.event_schedule.specs.Events.{event_of, frame_of, lines_of, is_send}
use Rattle.event_schedule.specs.Schedule.{Shape, shape_of_presence, members_of, is_closed, is_ended, is_sent, is_taken, may_send}
use Rattle.event_schedule.specs.Transcript.{Contents, frame, line, set_sent}
use Rattle.event_schedule.specs.Frames.{word_or_zero, first_word, contents_of_lines}
use Rattle.event_schedule.specs.Journal.{past_of, core_line, IsJournalAfter}
use Rattle.group_book.specs.Pages.{PageView}
use Rattle.group_book.specs.Books.{posted}
use Rattle.group_book.specs.Groups.{GroupView}
use Rattle.group_book.specs.Replay.{AreReplayed, HasOwnFrames, IsLedger, IsPage, IsWord, Replays, frame_with}
use Rattle.group_book.proofs.LineLemmas.{past_of-push, posted-stays, first_word-posted}
use Rattle.cut_resume.specs.Order.{are_apart, may_pass}
use Rattle.cut_resume.proofs.Moves.{no_tags, reverse-two}
use Rattle.cut_resume.proofs.Picks.{right_of}
use Rattle.cut_resume.proofs.Swapped.{apart_turned, quiet, closed-swap, ended-swap, taken-swap, sent-swap, may_send-swap, set_sent-swap, frame-swap, line-swap}

-- ---- lines that are no Send

not_sent : (g r i : ℕ) (k : Kind) (a b : Event) → are_apart a b ≡ true → is_send g r i k a ≡ false
not_sent g r i k (Take x) b apart = refl
not_sent g r i k (Close h q) b apart = refl
not_sent g r i k (End h q) b apart = refl
not_sent g r i k (Send x) b apart = absurd (let none = ap length (no_tags (Send x) b apart) in omega (arith, none))

core_call : (s : Shape) (j : List Line) (given : Option Frame) (a b : Event) → are_apart a b ≡ true → core_line s j a given ≡ line s (contents_of_lines j) (past_of j) a
core_call s j given (Take x) b apart = refl
core_call s j given (Close h q) b apart = refl
core_call s j given (End h q) b apart = refl
core_call s j given (Send x) b apart = absurd (let none = ap length (no_tags (Send x) b apart) in omega (arith, none))

frames_out : (s : Shape) (j rest : List Line) (l : Line) (b : Event) → are_apart (event_of l) b ≡ true → HasOwnFrames s j (l ∷ rest) → HasOwnFrames s (j ++ l ∷ []) rest
frames_out s j rest (TakeLine x v) b apart has = has
frames_out s j rest (CloseLine h q v) b apart has = has
frames_out s j rest (EndLine h q v) b apart has = has
frames_out s j rest (SendLine x f) b apart has = absurd (let none = ap length (no_tags (Send x) b apart) in omega (arith, none))

frames_back : (s : Shape) (j rest : List Line) (l : Line) (b : Event) → are_apart (event_of l) b ≡ true → HasOwnFrames s (j ++ l ∷ []) rest → HasOwnFrames s j (l ∷ rest)
frames_back s j rest (TakeLine x v) b apart has = has
frames_back s j rest (CloseLine h q v) b apart has = has
frames_back s j rest (EndLine h q v) b apart has = has
frames_back s j rest (SendLine x f) b apart has = absurd (let none = ap length (no_tags (Send x) b apart) in omega (arith, none))

-- ---- the words of frames

-- what lines contain, by the first word of each tag
by_words : (ℕ → ℕ → ℕ → Kind → ℕ) → Contents
by_words first = record {
  reading = λ g r i. first g r i Reading;
  answer = λ g r i set. first g r i Answer;
  total = λ g r meters. frame_total (λ i. first g r i Reading) (λ i. first g r i Answer) meters;
}

same_contents : (one other : List Line) → ((g r i : ℕ) (k : Kind) → posted g r i k one ≡ posted g r i k other) → contents_of_lines one ≡ contents_of_lines other
unfolding by_words
same_contents one other same =
    ap by_words (fun_ext (λ g. fun_ext (λ r. fun_ext (λ i. fun_ext (λ k. first_word-posted g r i k one ∙ ap word_or_zero (same g r i k) ∙ sym (first_word-posted g r i k other))))))

-- a line that is no Send posts nothing
contents_stay : (j : List Line) (l : Line) (b : Event) → are_apart (event_of l) b ≡ true → contents_of_lines (j ++ l ∷ []) ≡ contents_of_lines j
contents_stay j l b apart = same_contents (j ++ l ∷ []) j (λ g r i k. posted-stays g r i k j l (ap (λ q. if q then frame_of l else None) (not_sent g r i k (event_of l) b apart)))

-- ---- two lines

module _ (s : Shape) (ls : List Line) (x e : Line) (apart : are_apart (event_of x) (event_of e) ≡ true) where
  turned : are_apart (event_of e) (event_of x) ≡ true
  turned = apart_turned (event_of x) (event_of e) apart

  abbrev one : List Line → List Line
  one more = ls ++ x ∷ e ∷ more

  abbrev other : List Line → List Line
  other more = ls ++ e ∷ x ∷ more

  posted-two : (g r i : ℕ) (k : Kind) (zs more : List Line) → posted g r i k (zs ++ x ∷ e ∷ more) ≡ posted g r i k (zs ++ e ∷ x ∷ more)
  unfolding posted
  posted-two g r i k [] more =
      ap (λ q. if q && is_some (frame_of x) then frame_of x else posted g r i k (e ∷ more)) (not_sent g r i k (event_of x) (event_of e) apart)
      ∙ ap (λ q. if q && is_some (frame_of e) then frame_of e else posted g r i k more) (not_sent g r i k (event_of e) (event_of x) turned)
      ∙ sym (ap (λ q. if q && is_some (frame_of x) then frame_of x else posted g r i k more) (not_sent g r i k (event_of x) (event_of e) apart))
      ∙ sym (ap (λ q. if q && is_some (frame_of e) then frame_of e else posted g r i k (x ∷ more)) (not_sent g r i k (event_of e) (event_of x) turned))
  posted-two g r i k (z ∷ zs) more = ap (λ f. if is_send g r i k (event_of z) && is_some (frame_of z) then frame_of z else f) (posted-two g r i k zs more)

  contents-two : (more : List Line) → contents_of_lines (one more) ≡ contents_of_lines (other more)
  contents-two more = same_contents (one more) (other more) (λ g r i k. posted-two g r i k ls more)

  abbrev before : List Event
  before = past_of ls

  past_one : (more : List Line) → past_of (one more) ≡ past_of more ++ event_of e ∷ event_of x ∷ before
  past_one more = ap reverse (map-append event_of ls (x ∷ e ∷ more)) ∙ reverse-two (map event_of ls) (map event_of more) (event_of x) (event_of e)

  past_other : (more : List Line) → past_of (other more) ≡ past_of more ++ event_of x ∷ event_of e ∷ before
  past_other more = ap reverse (map-append event_of ls (e ∷ x ∷ more)) ∙ reverse-two (map event_of ls) (map event_of more) (event_of e) (event_of x)

  -- what reads the past and is the same of both orders
  by_past : {X : Type 0} (more : List Line) (D : List Event → X) → (D (past_of more ++ event_of e ∷ event_of x ∷ before) ≡ D (past_of more ++ event_of x ∷ event_of e ∷ before)) → D (past_of (one more)) ≡ D (past_of (other more))
  by_past more D same = ap D (past_one more) ∙ same ∙ sym (ap D (past_other more))

  lines-two : (more : List Line) (v : Event) → line s (contents_of_lines (one more)) (past_of (one more)) v ≡ line s (contents_of_lines (other more)) (past_of (other more)) v
  lines-two more v =
      ap (λ c. line s c (past_of (one more)) v) (contents-two more)
      ∙ by_past more (λ p. line s (contents_of_lines (other more)) p v) (line-swap s before (event_of x) (event_of e) apart (contents_of_lines (other more)) v (past_of more))

  core_line-two : (more : List Line) (v : Event) (given : Option Frame) → core_line s (one more) v given ≡ core_line s (other more) v given
  core_line-two more (Send tag) given =
      ap (λ q. SendLine tag (if q then given else None)) (by_past more (λ p. may_send s tag.kind tag.group tag.round tag.meter p) (may_send-swap s before (event_of x) (event_of e) apart tag.kind tag.group tag.round tag.meter (past_of more)))
  core_line-two more (Take tag) given = lines-two more (Take tag)
  core_line-two more (Close g r) given = lines-two more (Close g r)
  core_line-two more (End g r) given = lines-two more (End g r)

  joined : (l1 l2 z : Line) (more : List Line) → (ls ++ l1 ∷ l2 ∷ more) ++ z ∷ [] ≡ ls ++ l1 ∷ l2 ∷ (more ++ z ∷ [])
  joined l1 l2 z more = append_assoc ls (l1 ∷ l2 ∷ more) (z ∷ [])

  frame-two : (more : List Line) (tag : Tag) (f : Option Frame) → frame s (contents_of_lines (one more ++ SendLine tag f ∷ [])) tag (past_of (one more)) ≡ frame s (contents_of_lines (other more ++ SendLine tag f ∷ [])) tag (past_of (other more))
  frame-two more tag f =
      ap (λ j. frame s (contents_of_lines j) tag (past_of (one more))) (joined x e (SendLine tag f) more)
      ∙ ap (λ c. frame s c tag (past_of (one more))) (contents-two (more ++ SendLine tag f ∷ []))
      ∙ ap (λ j. frame s (contents_of_lines j) tag (past_of (one more))) (sym (joined e x (SendLine tag f) more))
      ∙ by_past more (λ p. frame s (contents_of_lines (other more ++ SendLine tag f ∷ [])) tag p) (frame-swap s before (event_of x) (event_of e) apart (contents_of_lines (other more ++ SendLine tag f ∷ [])) tag (past_of more))

  -- the lines behind both
  lines_more : (more rest : List Line) → IsJournalAfter s (one more) rest → IsJournalAfter s (other more) rest
  lines_more more [] is = tt
  lines_more more (z ∷ rest) is = (
    is.0 ∙ core_line-two more (event_of z) (frame_of z),
    subst (λ j. IsJournalAfter s j rest) (sym (joined e x z more)) (lines_more (more ++ z ∷ []) rest (subst (λ j. IsJournalAfter s j rest) (joined x e z more) is.1)),
  )

  forth : (more : List Line) (z : Line) (rest : List Line) → HasOwnFrames s (one more ++ z ∷ []) rest → HasOwnFrames s (one (more ++ z ∷ [])) rest
  forth more z rest has = subst (λ j. HasOwnFrames s j rest) (joined x e z more) has

  back : (more : List Line) (z : Line) (rest : List Line) → HasOwnFrames s (other (more ++ z ∷ [])) rest → HasOwnFrames s (other more ++ z ∷ []) rest
  back more z rest has = subst (λ j. HasOwnFrames s j rest) (sym (joined e x z more)) has

  frames_more : (more rest : List Line) → HasOwnFrames s (one more) rest → HasOwnFrames s (other more) rest
  frames_more more [] has = tt
  frames_more more (SendLine tag f ∷ rest) has =
      (has.0 ∙ frame-two more tag f, back more (SendLine tag f) rest (frames_more (more ++ SendLine tag f ∷ []) rest (forth more (SendLine tag f) rest has.1)))
  frames_more more (TakeLine tag v ∷ rest) has = back more (TakeLine tag v) rest (frames_more (more ++ TakeLine tag v ∷ []) rest (forth more (TakeLine tag v) rest has))
  frames_more more (CloseLine g r v ∷ rest) has = back more (CloseLine g r v) rest (frames_more (more ++ CloseLine g r v ∷ []) rest (forth more (CloseLine g r v) rest has))
  frames_more more (EndLine g r v ∷ rest) has = back more (EndLine g r v) rest (frames_more (more ++ EndLine g r v ∷ []) rest (forth more (EndLine g r v) rest has))

  pair : (l1 l2 : Line) → (ls ++ l1 ∷ []) ++ l2 ∷ [] ≡ ls ++ l1 ∷ l2 ∷ []
  pair l1 l2 = append_assoc ls (l1 ∷ []) (l2 ∷ [])

  -- a line after another that is apart from it
  core_over : (l1 l2 : Line) → are_apart (event_of l1) (event_of l2) ≡ true → core_line s (ls ++ l1 ∷ []) (event_of l2) (frame_of l2) ≡ core_line s ls (event_of l2) (frame_of l2)
  core_over l1 l2 far =
      let back = apart_turned (event_of l1) (event_of l2) far in
      core_call s (ls ++ l1 ∷ []) (frame_of l2) (event_of l2) (event_of l1) back
      ∙ ap (λ c. line s c (past_of (ls ++ l1 ∷ [])) (event_of l2)) (contents_stay ls l1 (event_of l2) far)
      ∙ ap (λ p. line s (contents_of_lines ls) p (event_of l2)) (past_of-push ls l1)
      ∙ (quiet s (past_of ls) (event_of l1) (event_of l2) far).says (contents_of_lines ls)
      ∙ sym (core_call s ls (frame_of l2) (event_of l2) (event_of l1) back)

  lines_here : (more : List Line) → IsJournalAfter s ls (x ∷ e ∷ more) → IsJournalAfter s ls (e ∷ x ∷ more)
  lines_here more is = (
    is.1.0 ∙ core_over x e apart,
    (
      is.0 ∙ sym (core_over e x turned),
      subst (λ j. IsJournalAfter s j more) (sym (pair e x)) (lines_more [] more (subst (λ j. IsJournalAfter s j more) (pair x e) is.1.1)),
    ),
  )

  frames_here : (more : List Line) → HasOwnFrames s ls (x ∷ e ∷ more) → HasOwnFrames s ls (e ∷ x ∷ more)
  frames_here more has =
      let inner = frames_out s (ls ++ x ∷ []) more e (event_of x) turned (frames_out s ls (e ∷ more) x (event_of e) apart has) in
      let swapped = subst (λ j. HasOwnFrames s j more) (sym (pair e x)) (frames_more [] more (subst (λ j. HasOwnFrames s j more) (pair x e) inner)) in
      frames_back s ls (x ∷ more) e (event_of x) turned (frames_back s (ls ++ e ∷ []) more x (event_of e) apart swapped)

-- ---- anywhere among the lines

module _ (s : Shape) (x e : Line) (apart : are_apart (event_of x) (event_of e) ≡ true) where
  lines_among : (before zs more : List Line) → IsJournalAfter s before (zs ++ x ∷ e ∷ more) → IsJournalAfter s before (zs ++ e ∷ x ∷ more)
  lines_among before [] more is = lines_here s before x e apart more is
  lines_among before (z ∷ zs) more is = (is.0, lines_among (before ++ z ∷ []) zs more is.1)

  frames_among : (before zs more : List Line) → HasOwnFrames s before (zs ++ x ∷ e ∷ more) → HasOwnFrames s before (zs ++ e ∷ x ∷ more)
  frames_among before [] more has = frames_here s before x e apart more has
  frames_among before (SendLine tag f ∷ zs) more has = (has.0, frames_among (before ++ SendLine tag f ∷ []) zs more has.1)
  frames_among before (TakeLine tag v ∷ zs) more has = frames_among (before ++ TakeLine tag v ∷ []) zs more has
  frames_among before (CloseLine g r v ∷ zs) more has = frames_among (before ++ CloseLine g r v ∷ []) zs more has
  frames_among before (EndLine g r v ∷ zs) more has = frames_among (before ++ EndLine g r v ∷ []) zs more has

module _ (p : PresenceView) (ls more : List Line) (x e : Line) (apart : are_apart (event_of x) (event_of e) ≡ true) where
  s : Shape
  s = shape_of_presence p

  abbrev first_one : List Line
  first_one = ls ++ x ∷ e ∷ more

  abbrev first_other : List Line
  first_other = ls ++ e ∷ x ∷ more

  past_same : {X : Type 0} (D : List Event → X) → (D (past_of more ++ event_of e ∷ event_of x ∷ past_of ls) ≡ D (past_of more ++ event_of x ∷ event_of e ∷ past_of ls)) → D (past_of first_one) ≡ D (past_of first_other)
  past_same D same = by_past (shape_of_presence p) ls x e apart more D same

  posted_same : (g r i : ℕ) (k : Kind) → posted g r i k first_one ≡ posted g r i k first_other
  posted_same g r i k = posted-two (shape_of_presence p) ls x e apart g r i k ls more

  ledger_moved : IsLedger p first_one → IsLedger p first_other
  ledger_moved led = record {
    limits = led.limits;
    table = led.table;
    journal = record { lines = lines_among (shape_of_presence p) x e apart [] ls more led.journal.lines; frames = frames_among (shape_of_presence p) x e apart [] ls more led.journal.frames };
    framed = λ g r i k. ap is_some (sym (posted_same g r i k)) ∙ led.framed g r i k
        ∙ past_same (λ q. is_sent (shape_of_presence p) k g r i q) (sent-swap (shape_of_presence p) (past_of ls) (event_of x) (event_of e) apart k g r i (past_of more));
  }

  words_same : (g r : ℕ) (k : Kind) (xs : List ℕ) → sum_by (λ i. first_word g r i k first_one) xs ≡ sum_by (λ i. first_word g r i k first_other) xs
  words_same g r k xs = ap (λ f. sum_by f xs) (fun_ext (λ i. first_word-posted g r i k first_one ∙ ap word_or_zero (posted_same g r i k) ∙ sym (first_word-posted g r i k first_other)))

  page_moved : (g r : ℕ) (page : PageView) → IsPage (shape_of_presence p) g r page first_one → IsPage (shape_of_presence p) g r page first_other
  page_moved g r page is = record {
    members = is.members;
    floor = is.floor;
    closed = is.closed ∙ past_same (λ q. is_closed g r q) (closed-swap (shape_of_presence p) (past_of ls) (event_of x) (event_of e) apart g r (past_of more));
    ended = is.ended ∙ past_same (λ q. is_ended g r q) (ended-swap (shape_of_presence p) (past_of ls) (event_of x) (event_of e) apart g r (past_of more));
    taken = λ k. is.taken k ∙ past_same (λ q. filter (λ i. is_taken (shape_of_presence p) k g r i q) (members_of (shape_of_presence p) g r))
        (ap (λ t. filter t (members_of (shape_of_presence p) g r)) (fun_ext (λ i. taken-swap (shape_of_presence p) (past_of ls) (event_of x) (event_of e) apart k g r i (past_of more))));
    readings = is.readings ∙ ap word (words_same g r Reading page.round.taken);
    answers = is.answers ∙ ap word (words_same g r Answer page.round.answered);
  }

  word_moved : (g r i : ℕ) (k : Kind) (w : Option ℕ) → IsWord (shape_of_presence p) g r i k w first_one → IsWord (shape_of_presence p) g r i k w first_other
  word_moved g r i k w is =
      ap (λ set. frame_with (record { group = g; round = r; meter = i; kind = k }) set w)
      (sym (past_same (λ q. set_sent (shape_of_presence p) k g r q) (set_sent-swap (shape_of_presence p) (past_of ls) (event_of x) (event_of e) apart k g r (past_of more))))
      ∙ is ∙ posted_same g r i k

  replays_moved : (v : GroupView) → Replays p first_one v → Replays p first_other v
  replays_moved v rep = record {
    ledger = ledger_moved rep.ledger;
    inside = rep.inside;
    rounds = rep.rounds;
    meters = rep.meters;
    pages_long = rep.pages_long;
    words_long = rep.words_long;
    page = λ r d hr. page_moved v.group r _ (rep.page r d hr);
    word = λ r i k d hr hi. word_moved v.group r i k _ (rep.word r i k d hr hi);
  }

  book_moved : (groups : List GroupView) → AreReplayed p first_one groups → AreReplayed p first_other groups
  book_moved groups is = record {
    ledger = ledger_moved is.ledger;
    long = is.long;
    each = λ g d lt. record { group = (is.each g d lt).group; replays = replays_moved _ (is.each g d lt).replays };
  }

-- what a book keeps of entries it keeps of them where two change places
pub replayed_moved : (p : PresenceView) (groups : List GroupView) (xs ys : List Entry) (x e : Entry) → may_pass e x ≡ true → AreReplayed p (lines_of (xs ++ x ∷ e ∷ ys)) groups → AreReplayed p (lines_of (xs ++ e ∷ x ∷ ys)) groups
replayed_moved p groups xs ys x e may is =
    let apart = right_of (x.tick == e.tick) (are_apart (event_of x.line) (event_of e.line)) may in
    subst (λ j. AreReplayed p j groups) (sym (map-append (λ (z : Entry). z.line) xs (e ∷ x ∷ ys)))
    (book_moved p (lines_of xs) (lines_of ys) x.line e.line apart groups (subst (λ j. AreReplayed p j groups) (map-append (λ (z : Entry). z.line) xs (x ∷ e ∷ ys)) is))
