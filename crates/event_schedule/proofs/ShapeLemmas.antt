-- Two shapes that differ at no reading that was sent give one transcript.
use Rattle.std.proofs.Common.{◌≡◌, ℕ, Bool, true, false, cond, not, ◌&&◌, ◌||◌, List, [], ◌∷◌, length, refl, sym, ap, ◌∙◌}
use Rattle.std.specs.Prelude.{if◌then◌else◌, nat_le, Some, None}
use Rattle.std.specs.List.{filter, list_all}
use mathlib.Core.Path.{fun_ext}
use Rattle.group_plan.specs.declared.Kind.{Kind}
use Rattle.group_plan.specs.declared.Kind.TheVariants.{Reading, Announcement, Answer}
use Rattle.group_plan.specs.declared.Tag.{Tag}
use Rattle.event_schedule.specs.declared.Event.{Event}
use Rattle.event_schedule.specs.declared.Event.TheVariants.{Send, Take, Close, End}
use Rattle.event_schedule.specs.declared.Line.TheVariants.{Send as SendLine, Take as TakeLine, Close as CloseLine, End as EndLine}
use Rattle.round_machine.specs.declared.Verdict.TheVariants.{Fresh, Again, Late, Void}
use Rattle.round_machine.specs.declared.Closing.TheVariants.{Announced, Thin as ThinClosing, Already as AlreadyClosed}
use Rattle.round_machine.specs.declared.Ending.TheVariants.{Total, Lacking, Thin, Already, NotClosed}
use Rattle.group_plan.specs.Plans.{Group}
use Rattle.event_schedule.specs.Schedule.{Shape, is_closed, is_ended, is_reading_sent, is_reading_taken, survivors, missing, reaches_floor, is_announced, may_announce, is_announcement_sent, is_announcement_taken, is_answer_sent, is_answer_taken, all_taken, lacking, verdict, members_of, floor_of, verdict_by_table}
use Rattle.event_schedule.specs.Events.{once, is_take, is_send}
use Rattle.event_schedule.specs.Transcript.{Contents, frame, line, lines_after}
use Rattle.event_schedule.proofs.ScheduleLemmas.{after, once-more, once-now}
use Rattle.event_schedule.proofs.EventLemmas.{is_send-itself}
use Rattle.event_schedule.proofs.VerdictLemmas.{verdict-table}

-- ---- two shapes that differ at no reading that was sent

unfoldable pub AgreeOn : Shape → Shape → List Event → Type 0
AgreeOn s t p = (g r i : ℕ) → once (λ e _. is_send g r i Reading e) p ≡ true → s.present g r i ≡ t.present g r i

agree_less : (s t : Shape) (e : Event) (p : List Event) → AgreeOn s t (e ∷ p) → AgreeOn s t p
unfolding AgreeOn
agree_less s t e p agree = λ g r i h. agree g r i (once-more _ e p h)

once_agree : (test other : Event → List Event → Bool) (H : List Event → Type 0) → ((e : Event) (p : List Event) → H (e ∷ p) → H p)
    → ((e : Event) (p : List Event) → H (e ∷ p) → test e p ≡ other e p) → (p : List Event) → H p → once test p ≡ once other p
unfolding once
once_agree test other H less same [] h = refl
once_agree test other H less same (e ∷ p) h =
    ap (λ q. q || once test p) (same e p h) ∙ ap (λ q. other e p || q) (once_agree test other H less same p (less e p h))

and_same : (a b c : Bool) → (a ≡ true → b ≡ c) → (a && b) ≡ (a && c)
and_same true b c same = same refl
and_same false b c same = refl

sent_agree : (s t : Shape) (g r i : ℕ) (p : List Event) → AgreeOn s t p → is_reading_sent s g r i p ≡ is_reading_sent t g r i p
unfolding AgreeOn
sent_agree s t g r i p agree =
    once_agree (λ e _. is_send g r i Reading e && s.present g r i) (λ e _. is_send g r i Reading e && t.present g r i) (AgreeOn s t) (agree_less s t)
    (λ e q h. and_same (is_send g r i Reading e) (s.present g r i) (t.present g r i) (λ now. h g r i (once-now _ e q now))) p agree

taken_agree : (s t : Shape) (g r i : ℕ) (p : List Event) → AgreeOn s t p → is_reading_taken s g r i p ≡ is_reading_taken t g r i p
taken_agree s t g r i p agree =
    once_agree (λ e q. is_take g r i Reading e && is_reading_sent s g r i q && not (is_closed g r q)) (λ e q. is_take g r i Reading e && is_reading_sent t g r i q && not (is_closed g r q)) (AgreeOn s t) (agree_less s t)
    (λ e q h. ap (λ z. is_take g r i Reading e && z && not (is_closed g r q)) (sent_agree s t g r i q (agree_less s t e q h))) p agree

all_taken_agree : (s t : Shape) (g r : ℕ) (p : List Event) → AgreeOn s t p → ◌≡◌ {A = ℕ → Bool} (λ i. is_reading_taken s g r i p) (λ i. is_reading_taken t g r i p)
all_taken_agree s t g r p agree = fun_ext (λ i. taken_agree s t g r i p agree)

-- a test that holds wherever another does
pub and_where : (p m f : Bool) → (p ≡ true → m ≡ true) → p ≡ f → p ≡ (m && f)
and_where true m f holds same = same ∙ ap (λ q. q && f) (sym (holds refl))
and_where false true f holds same = same
and_where false false f holds same = refl

module _ (groups : List Group) (one two : ℕ → ℕ → ℕ → Bool) where
  abbrev pub s : Shape
  s = record { groups = groups; present = one }

  abbrev pub t : Shape
  t = record { groups = groups; present = two }

  pub announced_agree : (g r : ℕ) (p : List Event) → AgreeOn s t p → is_announced s g r p ≡ is_announced t g r p
  announced_agree g r p agree = ap (λ f. is_closed g r p && nat_le (floor_of s g) (length (filter f (members_of s g r)))) (all_taken_agree s t g r p agree)

  may_agree : (g r i : ℕ) (p : List Event) → AgreeOn s t p → may_announce s g r i p ≡ may_announce t g r i p
  may_agree g r i p agree = ap (λ z. z && is_reading_taken s g r i p) (announced_agree g r p agree) ∙ ap (λ z. is_announced t g r p && z) (taken_agree s t g r i p agree)

  notice_agree : (g r i : ℕ) (p : List Event) → AgreeOn s t p → is_announcement_sent s g r i p ≡ is_announcement_sent t g r i p
  notice_agree g r i p agree =
      once_agree (λ e q. is_send g r i Announcement e && may_announce s g r i q) (λ e q. is_send g r i Announcement e && may_announce t g r i q) (AgreeOn s t) (agree_less s t)
      (λ e q h. ap (λ z. is_send g r i Announcement e && z) (may_agree g r i q (agree_less s t e q h))) p agree

  heard_agree : (g r i : ℕ) (p : List Event) → AgreeOn s t p → is_announcement_taken s g r i p ≡ is_announcement_taken t g r i p
  heard_agree g r i p agree =
      once_agree (λ e q. is_take g r i Announcement e && is_announcement_sent s g r i q) (λ e q. is_take g r i Announcement e && is_announcement_sent t g r i q) (AgreeOn s t) (agree_less s t)
      (λ e q h. ap (λ z. is_take g r i Announcement e && z) (notice_agree g r i q (agree_less s t e q h))) p agree

  pub reply_agree : (g r i : ℕ) (p : List Event) → AgreeOn s t p → is_answer_sent s g r i p ≡ is_answer_sent t g r i p
  reply_agree g r i p agree =
      once_agree (λ e q. is_send g r i Answer e && is_announcement_taken s g r i q) (λ e q. is_send g r i Answer e && is_announcement_taken t g r i q) (AgreeOn s t) (agree_less s t)
      (λ e q h. ap (λ z. is_send g r i Answer e && z) (heard_agree g r i q (agree_less s t e q h))) p agree

  got_agree : (g r i : ℕ) (p : List Event) → AgreeOn s t p → is_answer_taken s g r i p ≡ is_answer_taken t g r i p
  got_agree g r i p agree =
      once_agree (λ e q. is_take g r i Answer e && is_answer_sent s g r i q && not (is_ended g r q)) (λ e q. is_take g r i Answer e && is_answer_sent t g r i q && not (is_ended g r q)) (AgreeOn s t) (agree_less s t)
      (λ e q h. ap (λ z. is_take g r i Answer e && z && not (is_ended g r q)) (reply_agree g r i q (agree_less s t e q h))) p agree

  pub survivors_agree : (g r : ℕ) (p : List Event) → AgreeOn s t p → survivors s g r p ≡ survivors t g r p
  survivors_agree g r p agree = ap (λ f. filter f (members_of s g r)) (all_taken_agree s t g r p agree)

  pub missing_agree : (g r : ℕ) (p : List Event) → AgreeOn s t p → missing s g r p ≡ missing t g r p
  missing_agree g r p agree = ap (λ f. filter (λ i. not (f i)) (members_of s g r)) (all_taken_agree s t g r p agree)

  floor_agree : (g r : ℕ) (p : List Event) → AgreeOn s t p → reaches_floor s g r p ≡ reaches_floor t g r p
  floor_agree g r p agree = ap (λ f. nat_le (floor_of s g) (length (filter f (members_of s g r)))) (all_taken_agree s t g r p agree)

  frame_agree : (c : Contents) (g r i : ℕ) (k : Kind) (p : List Event) → AgreeOn s t (Send (record { group = g; round = r; meter = i; kind = k }) ∷ p)
      → frame s c (record { group = g; round = r; meter = i; kind = k }) p ≡ frame t c (record { group = g; round = r; meter = i; kind = k }) p
  unfolding AgreeOn
  frame_agree c g r i Reading p agree =
      ap (λ q. cond q (Some (record { tag = record { group = g; round = r; meter = i; kind = Reading }; missing = []; word = c.reading g r i })) None)
      (agree g r i (once-now (λ e _. is_send g r i Reading e) (Send (record { group = g; round = r; meter = i; kind = Reading })) p (is_send-itself g r i Reading)))
  frame_agree c g r i Announcement p agree =
      let tag : Tag = record { group = g; round = r; meter = i; kind = Announcement } in
      let less = agree_less s t (Send tag) p agree in
      ap (λ q. cond q (Some (record { tag = tag; missing = missing s g r p; word = 0 })) None) (may_agree g r i p less)
      ∙ ap (λ m. cond (may_announce t g r i p) (Some (record { tag = tag; missing = m; word = 0 })) None) (missing_agree g r p less)
  frame_agree c g r i Answer p agree =
      let tag : Tag = record { group = g; round = r; meter = i; kind = Answer } in
      let less = agree_less s t (Send tag) p agree in
      ap (λ q. cond q (Some (record { tag = tag; missing = missing s g r p; word = c.answer g r i (missing s g r p) })) None) (heard_agree g r i p less)
      ∙ ap (λ m. cond (is_announcement_taken t g r i p) (Some (record { tag = tag; missing = m; word = c.answer g r i m })) None) (missing_agree g r p less)

  table_agree : (g r i : ℕ) (k : Kind) (p : List Event) → AgreeOn s t p → verdict_by_table s k g r i p ≡ verdict_by_table t k g r i p
  table_agree g r i Reading p agree =
      ap (λ q. if not q then Void else if is_reading_taken s g r i p then Again else if is_closed g r p then Late else Fresh) (sent_agree s t g r i p agree)
      ∙ ap (λ q. if not (is_reading_sent t g r i p) then Void else if q then Again else if is_closed g r p then Late else Fresh) (taken_agree s t g r i p agree)
  table_agree g r i Announcement p agree =
      ap (λ q. if not q then Void else if is_announcement_taken s g r i p then Again else Fresh) (notice_agree g r i p agree)
      ∙ ap (λ q. if not (is_announcement_sent t g r i p) then Void else if q then Again else Fresh) (heard_agree g r i p agree)
  table_agree g r i Answer p agree =
      ap (λ q. if not q then Void else if is_answer_taken s g r i p then Again else if is_ended g r p then Late else Fresh) (reply_agree g r i p agree)
      ∙ ap (λ q. if not (is_answer_sent t g r i p) then Void else if q then Again else if is_ended g r p then Late else Fresh) (got_agree g r i p agree)

  verdict_agree : (g r i : ℕ) (k : Kind) (p : List Event) → AgreeOn s t p → verdict s k g r i p ≡ verdict t k g r i p
  verdict_agree g r i k p agree = verdict-table s k g r i p ∙ table_agree g r i k p agree ∙ sym (verdict-table t k g r i p)

  all_got_agree : (g r : ℕ) (p : List Event) → AgreeOn s t p → ◌≡◌ {A = ℕ → Bool} (λ i. is_answer_taken s g r i p) (λ i. is_answer_taken t g r i p)
  all_got_agree g r p agree = fun_ext (λ i. got_agree g r i p agree)

  line_agree : (c : Contents) (e : Event) (p : List Event) → AgreeOn s t (e ∷ p) → line s c p e ≡ line t c p e
  line_agree c (Send tag) p agree = ap (SendLine tag) (frame_agree c tag.group tag.round tag.meter tag.kind p agree)
  line_agree c (Take tag) p agree = ap (TakeLine tag) (verdict_agree tag.group tag.round tag.meter tag.kind p (agree_less s t (Take tag) p agree))
  line_agree c (Close g r) p agree =
      let less = agree_less s t (Close g r) p agree in
      ap (CloseLine g r) (
      ap (λ q. if is_closed g r p then AlreadyClosed else if q then Announced (missing s g r p) else ThinClosing (missing s g r p)) (floor_agree g r p less)
      ∙ ap (λ m. if is_closed g r p then AlreadyClosed else if reaches_floor t g r p then Announced m else ThinClosing m) (missing_agree g r p less))
  line_agree c (End g r) p agree =
      let less = agree_less s t (End g r) p agree in
      ap (EndLine g r) (
      ap (λ q. if not (is_closed g r p) then NotClosed else if is_ended g r p then Already else if not q then Thin else if all_taken s g r p then Total (c.total g r (survivors s g r p)) else Lacking (lacking s g r p)) (announced_agree g r p less)
      ∙ ap (λ a. if not (is_closed g r p) then NotClosed else if is_ended g r p then Already else if not (is_announced t g r p) then Thin else if list_all (λ i. is_answer_taken s g r i p) a then Total (c.total g r a) else Lacking (filter (λ i. not (is_answer_taken s g r i p)) a)) (survivors_agree g r p less)
      ∙ ap (λ f. if not (is_closed g r p) then NotClosed else if is_ended g r p then Already else if not (is_announced t g r p) then Thin else if list_all f (survivors t g r p) then Total (c.total g r (survivors t g r p)) else Lacking (filter (λ i. not (f i)) (survivors t g r p))) (all_got_agree g r p less))

  agree_before : (p rest : List Event) → AgreeOn s t (after p rest) → AgreeOn s t p
  unfolding after
  agree_before p [] agree = agree
  agree_before p (e ∷ rest) agree = agree_less s t e p (agree_before (e ∷ p) rest agree)

  pub lines_agree : (c : Contents) (p rest : List Event) → AgreeOn s t (after p rest) → lines_after s c p rest ≡ lines_after t c p rest
  unfolding after lines_after
  lines_agree c p [] agree = refl
  lines_agree c p (e ∷ rest) agree =
      ap (λ l. l ∷ lines_after s c (e ∷ p) rest) (line_agree c e p (agree_before (e ∷ p) rest agree))
      ∙ ap (λ ls. line t c p e ∷ ls) (lines_agree c (e ∷ p) rest agree)
