-- What two shapes that differ at no reading that was sent make of a journal.
use Rattle.std.proofs.Common.{◌≡◌, ℕ, Bool, true, false, not, ◌&&◌, ◌||◌, List, [], ◌∷◌, ◌++◌, refl, sym, ap, ◌∙◌, subst, append-nil, append_assoc}
use Rattle.std.specs.Prelude.{◌==◌, if◌then◌else◌, is_some, Option, Some, None}
use Rattle.std.specs.List.{filter}
use mathlib.Core.Path.{fun_ext}
use Rattle.group_plan.specs.declared.Kind.{Kind}
use Rattle.group_plan.specs.declared.Kind.TheVariants.{Reading, Announcement, Answer}
use Rattle.group_plan.specs.declared.Tag.{Tag}
use Rattle.group_plan.specs.Plans.{Group, members}
use Rattle.meter_frames.specs.declared.Frame.{Frame}
use Rattle.event_schedule.specs.declared.Event.{Event}
use Rattle.event_schedule.specs.declared.Event.TheVariants.{Send, Take, Close, End}
use Rattle.event_schedule.specs.declared.Line.{Line}
use Rattle.event_schedule.specs.declared.Line.TheVariants.{Send as SendLine, Take as TakeLine, Close as CloseLine, End as EndLine}
use Rattle.event_schedule.specs.Events.{once, event_of, frame_of, is_send, is_take}
use Rattle.event_schedule.specs.Schedule.{Shape, is_ended, is_answer_sent, may_announce, may_send, is_sent, is_taken}
use Rattle.event_schedule.specs.Transcript.{Contents, set_sent, frame, line, lines_after}
use Rattle.event_schedule.specs.Frames.{contents_of_lines}
use Rattle.event_schedule.specs.Journal.{past_of, core_line, IsJournalAfter}
use Rattle.event_schedule.proofs.ScheduleLemmas.{after, once-cons, once-more, once-now}
use Rattle.event_schedule.proofs.ShapeLemmas.{AgreeOn, reply_agree, survivors_agree, missing_agree, lines_agree}
use Rattle.group_book.specs.Replay.{HasOwnFrames, IsJournal}
use Rattle.group_book.proofs.LineLemmas.{past_of-push}

-- ---- on fewer events, and on more

less : (s t : Shape) (e : Event) (p : List Event) → AgreeOn s t (e ∷ p) → AgreeOn s t p
unfolding AgreeOn
less s t e p agree = λ g r i h. agree g r i (once-more _ e p h)

-- an event that sends no reading
more : (s t : Shape) (e : Event) (p : List Event) → ((g r i : ℕ) → is_send g r i Reading e ≡ false) → AgreeOn s t p → AgreeOn s t (e ∷ p)
unfolding AgreeOn
more s t e p none agree = λ g r i h.
    agree g r i (sym (once-cons (λ x _. is_send g r i Reading x) e p ∙ ap (λ q. q || once (λ x _. is_send g r i Reading x) p) (none g r i)) ∙ h)

before : (s t : Shape) (j rest : List Line) → AgreeOn s t (past_of (j ++ rest)) → AgreeOn s t (past_of j)
before s t j [] agree = subst (λ x. AgreeOn s t (past_of x)) (append-nil j) agree
before s t j (l ∷ rest) agree =
    less s t (event_of l) (past_of j) (subst (AgreeOn s t) (past_of-push j l) (before s t (j ++ l ∷ []) rest (subst (λ x. AgreeOn s t (past_of x)) (sym (append_assoc j (l ∷ []) rest)) agree)))

same_once : (s t : Shape) (test other : Event → List Event → Bool) → ((e : Event) (p : List Event) → AgreeOn s t (e ∷ p) → test e p ≡ other e p) → (p : List Event) → AgreeOn s t p → once test p ≡ once other p
unfolding once
same_once s t test other same [] agree = refl
same_once s t test other same (e ∷ p) agree =
    ap (λ q. q || once test p) (same e p agree) ∙ ap (λ q. other e p || q) (same_once s t test other same p (less s t e p agree))

-- ---- one event

head_same : (x y : Line) → ◌≡◌ {A = List Line} (x ∷ []) (y ∷ []) → x ≡ y
head_same x y e = cc

some_is : (q : Bool) (f : Frame) → is_some (if q then Some f else None) ≡ q
some_is true f = refl
some_is false f = refl

and_same : (a b c : Bool) → (a ≡ true → b ≡ c) → (a && b) ≡ (a && c)
and_same true b c same = same refl
and_same false b c same = refl

ends_false : (a b c : Bool) → (a && b && c && false) ≡ false
ends_false true true true = refl
ends_false true true false = refl
ends_false true false c = refl
ends_false false b c = refl

abbrev tag_of : ℕ → ℕ → ℕ → Kind → Tag
tag_of g r i k = record { group = g; round = r; meter = i; kind = k }

module _ (groups : List Group) (one two : ℕ → ℕ → ℕ → Bool) where
  abbrev s : Shape
  s = record { groups = groups; present = one }

  abbrev t : Shape
  t = record { groups = groups; present = two }

  line_same : (c : Contents) (p : List Event) (e : Event) → AgreeOn s t (e ∷ p) → line s c p e ≡ line t c p e
  unfolding after lines_after
  line_same c p e agree = head_same (line s c p e) (line t c p e) (lines_agree groups one two c p (e ∷ []) agree)

  frame_same : (c : Contents) (tag : Tag) (p : List Event) → AgreeOn s t (Send tag ∷ p) → frame s c tag p ≡ frame t c tag p
  frame_same c tag p agree = ap frame_of (line_same c p (Send tag) agree)

  may_same : (tag : Tag) (p : List Event) → AgreeOn s t (Send tag ∷ p) → may_send s tag.kind tag.group tag.round tag.meter p ≡ may_send t tag.kind tag.group tag.round tag.meter p
  may_same tag p agree =
      sym (some_is (may_send s tag.kind tag.group tag.round tag.meter p) _) ∙ ap is_some (frame_same (contents_of_lines []) tag p agree)
      ∙ some_is (may_send t tag.kind tag.group tag.round tag.meter p) _

  announce_same : (g r i : ℕ) (p : List Event) → AgreeOn s t p → may_announce s g r i p ≡ may_announce t g r i p
  announce_same g r i p agree =
      may_same (tag_of g r i Announcement) p (more s t (Send (tag_of g r i Announcement)) p (λ a b c. ends_false (g == a) (r == b) (i == c)) agree)

  told_same : (g r i : ℕ) (p : List Event) → AgreeOn s t p → is_taken s Announcement g r i p ≡ is_taken t Announcement g r i p
  told_same g r i p agree = may_same (tag_of g r i Answer) p (more s t (Send (tag_of g r i Answer)) p (λ a b c. ends_false (g == a) (r == b) (i == c)) agree)

  -- ---- what was sent and taken

  pub sent_same : (k : Kind) (g r i : ℕ) (p : List Event) → AgreeOn s t p → is_sent s k g r i p ≡ is_sent t k g r i p
  unfolding AgreeOn
  sent_same Reading g r i p agree =
      same_once s t (λ e _. is_send g r i Reading e && one g r i) (λ e _. is_send g r i Reading e && two g r i)
      (λ e q h. and_same (is_send g r i Reading e) (one g r i) (two g r i) (λ now. h g r i (once-now (λ x _. is_send g r i Reading x) e q now))) p agree
  sent_same Announcement g r i p agree =
      same_once s t (λ e q. is_send g r i Announcement e && may_announce s g r i q) (λ e q. is_send g r i Announcement e && may_announce t g r i q)
      (λ e q h. ap (λ z. is_send g r i Announcement e && z) (announce_same g r i q (less s t e q h))) p agree
  sent_same Answer g r i p agree = reply_agree groups one two g r i p agree

  answered_same : (g r i : ℕ) (p : List Event) → AgreeOn s t p → is_taken s Answer g r i p ≡ is_taken t Answer g r i p
  answered_same g r i p agree =
      same_once s t (λ e q. is_take g r i Answer e && is_answer_sent s g r i q && not (is_ended g r q)) (λ e q. is_take g r i Answer e && is_answer_sent t g r i q && not (is_ended g r q))
      (λ e q h. ap (λ z. is_take g r i Answer e && z && not (is_ended g r q)) (reply_agree groups one two g r i q (less s t e q h))) p agree

  pub takers_same : (k : Kind) (g r : ℕ) (p : List Event) → AgreeOn s t p → filter (λ i. is_taken s k g r i p) (members groups g r) ≡ filter (λ i. is_taken t k g r i p) (members groups g r)
  takers_same Reading g r p agree = survivors_agree groups one two g r p agree
  takers_same Announcement g r p agree = ap (λ f. filter f (members groups g r)) (fun_ext (λ i. told_same g r i p agree))
  takers_same Answer g r p agree = ap (λ f. filter f (members groups g r)) (fun_ext (λ i. answered_same g r i p agree))

  pub set_same : (k : Kind) (g r : ℕ) (p : List Event) → AgreeOn s t p → set_sent s k g r p ≡ set_sent t k g r p
  set_same Reading g r p agree = refl
  set_same Announcement g r p agree = missing_agree groups one two g r p agree
  set_same Answer g r p agree = missing_agree groups one two g r p agree

  -- ---- journals

  core_same : (j : List Line) (e : Event) (given : Option Frame) → AgreeOn s t (e ∷ past_of j) → core_line s j e given ≡ core_line t j e given
  core_same j (Send tag) given agree = ap (λ q. SendLine tag (if q then given else None)) (may_same tag (past_of j) agree)
  core_same j (Take tag) given agree = line_same (contents_of_lines j) (past_of j) (Take tag) agree
  core_same j (Close g r) given agree = line_same (contents_of_lines j) (past_of j) (Close g r) agree
  core_same j (End g r) given agree = line_same (contents_of_lines j) (past_of j) (End g r) agree

  -- on the first of the lines that are left
  next_agree : (j rest : List Line) (l : Line) → AgreeOn s t (past_of (j ++ l ∷ rest)) → AgreeOn s t (past_of ((j ++ l ∷ []) ++ rest)) × AgreeOn s t (event_of l ∷ past_of j)
  next_agree j rest l agree =
      let all : AgreeOn s t (past_of ((j ++ l ∷ []) ++ rest)) = subst (λ x. AgreeOn s t (past_of x)) (sym (append_assoc j (l ∷ []) rest)) agree in
      (all, subst (AgreeOn s t) (past_of-push j l) (before s t (j ++ l ∷ []) rest all))

  lines_same : (j rest : List Line) → AgreeOn s t (past_of (j ++ rest)) → IsJournalAfter s j rest → IsJournalAfter t j rest
  lines_same j [] agree is = tt
  lines_same j (l ∷ rest) agree is =
      let both = next_agree j rest l agree in
      (is.0 ∙ core_same j (event_of l) (frame_of l) both.1, lines_same (j ++ l ∷ []) rest both.0 is.1)

  frames_same : (j rest : List Line) → AgreeOn s t (past_of (j ++ rest)) → HasOwnFrames s j rest → HasOwnFrames t j rest
  frames_same j [] agree is = tt
  frames_same j (SendLine tag f ∷ rest) agree is =
      let both = next_agree j rest (SendLine tag f) agree in
      (is.0 ∙ frame_same (contents_of_lines (j ++ SendLine tag f ∷ [])) tag (past_of j) both.1, frames_same (j ++ SendLine tag f ∷ []) rest both.0 is.1)
  frames_same j (TakeLine tag v ∷ rest) agree is = frames_same (j ++ TakeLine tag v ∷ []) rest (next_agree j rest (TakeLine tag v) agree).0 is
  frames_same j (CloseLine g r v ∷ rest) agree is = frames_same (j ++ CloseLine g r v ∷ []) rest (next_agree j rest (CloseLine g r v) agree).0 is
  frames_same j (EndLine g r v ∷ rest) agree is = frames_same (j ++ EndLine g r v ∷ []) rest (next_agree j rest (EndLine g r v) agree).0 is

  pub journal_same : (j : List Line) → AgreeOn s t (past_of j) → IsJournal s j → IsJournal t j
  journal_same j agree is = record { lines = lines_same [] j agree is.lines; frames = frames_same [] j agree is.frames }
