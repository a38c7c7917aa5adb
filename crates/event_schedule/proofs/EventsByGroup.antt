-- What a schedule makes of a round depends on the events of its group alone.
use Rattle.std.proofs.Common.{◌≡◌, ℕ, Bool, true, false, cond, not, ◌&&◌, ◌||◌, List, [], ◌∷◌, length, refl, sym, ap, ◌∙◌}
use Rattle.std.specs.Prelude.{◌==◌, nat_le, if◌then◌else◌}
use Rattle.std.specs.List.{filter, list_all}
use mathlib.Core.List.{reverse_aux}
use mathlib.Core.Path.{fun_ext}
use Rattle.group_plan.specs.declared.Kind.{Kind}
use Rattle.group_plan.specs.declared.Kind.TheVariants.{Reading, Announcement, Answer}
use Rattle.round_machine.specs.declared.Verdict.TheVariants.{Fresh, Again, Late, Void}
use Rattle.round_machine.specs.declared.Closing.TheVariants.{Announced, Thin as ThinClosing, Already as AlreadyClosed}
use Rattle.event_schedule.specs.declared.Event.{Event}
use Rattle.event_schedule.specs.declared.Event.TheVariants.{Send, Take, Close, End}
use Rattle.event_schedule.specs.Events.{once, is_send, is_take, is_close, is_end, same_kind}
use Rattle.event_schedule.specs.Schedule.{Shape, members_of, floor_of, is_closed, is_reading_sent, is_reading_taken, survivors, missing, reaches_floor, is_announced, may_announce, is_announcement_sent, is_announcement_taken, is_answer_sent, is_ended, is_answer_taken, all_taken, lacking, may_send, is_sent, is_taken, is_late, has_effective_take, is_fresh, has_fresh_take, verdict, closing}
use Rattle.event_schedule.specs.Transcript.{set_sent}
use Rattle.event_schedule.specs.ByGroup.{group_of, events_in}

-- ---- some events, turned round

pub reverse_aux-filter : (t : Event → Bool) (xs ys : List Event) → filter t (reverse_aux xs ys) ≡ reverse_aux (filter t xs) (filter t ys)
reverse_aux-filter t [] ys = refl
reverse_aux-filter t (x ∷ xs) ys = reverse_aux-filter t xs (x ∷ ys) ∙ step (t x)
  where
    step : (b : Bool) → reverse_aux (filter t xs) (cond b (x ∷ filter t ys) (filter t ys)) ≡ reverse_aux (cond b (x ∷ filter t xs) (filter t xs)) (filter t ys)
    step true = refl
    step false = refl

-- ---- events of other groups

pub send-elsewhere : (g r i : ℕ) (k : Kind) (e : Event) → (group_of e == g) ≡ false → is_send g r i k e ≡ false
send-elsewhere g r i k (Send tag) h = ap (λ b. b && (tag.round == r) && (tag.meter == i) && same_kind tag.kind k) h
send-elsewhere g r i k (Take tag) h = refl
send-elsewhere g r i k (Close a b) h = refl
send-elsewhere g r i k (End a b) h = refl

pub take-elsewhere : (g r i : ℕ) (k : Kind) (e : Event) → (group_of e == g) ≡ false → is_take g r i k e ≡ false
take-elsewhere g r i k (Take tag) h = ap (λ b. b && (tag.round == r) && (tag.meter == i) && same_kind tag.kind k) h
take-elsewhere g r i k (Send tag) h = refl
take-elsewhere g r i k (Close a b) h = refl
take-elsewhere g r i k (End a b) h = refl

pub close-elsewhere : (g r : ℕ) (e : Event) → (group_of e == g) ≡ false → is_close g r e ≡ false
close-elsewhere g r (Close a b) h = ap (λ q. q && (b == r)) h
close-elsewhere g r (Send tag) h = refl
close-elsewhere g r (Take tag) h = refl
close-elsewhere g r (End a b) h = refl

pub end-elsewhere : (g r : ℕ) (e : Event) → (group_of e == g) ≡ false → is_end g r e ≡ false
end-elsewhere g r (End a b) h = ap (λ q. q && (b == r)) h
end-elsewhere g r (Send tag) h = refl
end-elsewhere g r (Take tag) h = refl
end-elsewhere g r (Close a b) h = refl

-- a test that no event of another group passes, and that reads the group's events alone, is passed among these exactly where it is passed at all
pub once-in : (g : ℕ) (test : Event → List Event → Bool)
    → ((e : Event) (p : List Event) → (group_of e == g) ≡ false → test e p ≡ false)
    → ((e : Event) (p : List Event) → test e (events_in g p) ≡ test e p)
    → (p : List Event) → once test (events_in g p) ≡ once test p
unfolding once
once-in g test elsewhere same [] = refl
once-in g test elsewhere same (e ∷ p) = step (group_of e == g) refl (once-in g test elsewhere same p)
  where
    step : (b : Bool) → (group_of e == g) ≡ b → once test (events_in g p) ≡ once test p → once test (cond b (e ∷ events_in g p) (events_in g p)) ≡ (test e p || once test p)
    step true h rest = ap (λ q. q || once test (events_in g p)) (same e p) ∙ ap (λ q. test e p || q) rest
    step false h rest = rest ∙ ap (λ q. q || once test p) (sym (elsewhere e p h))

-- ---- a round by the events of its group

module _ (s : Shape) (g : ℕ) where
  pub closed-in : (r : ℕ) (p : List Event) → is_closed g r (events_in g p) ≡ is_closed g r p
  closed-in r p = once-in g _ (λ e q h. close-elsewhere g r e h) (λ e q. refl) p

  reading_sent-in : (r i : ℕ) (p : List Event) → is_reading_sent s g r i (events_in g p) ≡ is_reading_sent s g r i p
  reading_sent-in r i p = once-in g _ (λ e q h. ap (λ b. b && s.present g r i) (send-elsewhere g r i Reading e h)) (λ e q. refl) p

  pub reading_taken-in : (r i : ℕ) (p : List Event) → is_reading_taken s g r i (events_in g p) ≡ is_reading_taken s g r i p
  reading_taken-in r i p =
      once-in g _ (λ e q h. ap (λ b. b && is_reading_sent s g r i q && not (is_closed g r q)) (take-elsewhere g r i Reading e h))
      (λ e q. ap (λ b. is_take g r i Reading e && b && not (is_closed g r (events_in g q))) (reading_sent-in r i q)
      ∙ ap (λ b. is_take g r i Reading e && is_reading_sent s g r i q && not b) (closed-in r q)) p

  pub survivors-in : (r : ℕ) (p : List Event) → survivors s g r (events_in g p) ≡ survivors s g r p
  survivors-in r p = ap (λ t. filter t (members_of s g r)) (fun_ext (λ i. reading_taken-in r i p))

  pub missing-in : (r : ℕ) (p : List Event) → missing s g r (events_in g p) ≡ missing s g r p
  missing-in r p = ap (λ t. filter t (members_of s g r)) (fun_ext (λ i. ap not (reading_taken-in r i p)))

  reaches_floor-in : (r : ℕ) (p : List Event) → reaches_floor s g r (events_in g p) ≡ reaches_floor s g r p
  reaches_floor-in r p = ap (λ a. nat_le (floor_of s g) (length a)) (survivors-in r p)

  pub announced-in : (r : ℕ) (p : List Event) → is_announced s g r (events_in g p) ≡ is_announced s g r p
  announced-in r p = ap (λ b. b && reaches_floor s g r (events_in g p)) (closed-in r p) ∙ ap (λ b. is_closed g r p && b) (reaches_floor-in r p)

  may_announce-in : (r i : ℕ) (p : List Event) → may_announce s g r i (events_in g p) ≡ may_announce s g r i p
  may_announce-in r i p = ap (λ b. b && is_reading_taken s g r i (events_in g p)) (announced-in r p) ∙ ap (λ b. is_announced s g r p && b) (reading_taken-in r i p)

  announcement_sent-in : (r i : ℕ) (p : List Event) → is_announcement_sent s g r i (events_in g p) ≡ is_announcement_sent s g r i p
  announcement_sent-in r i p =
      once-in g _ (λ e q h. ap (λ b. b && may_announce s g r i q) (send-elsewhere g r i Announcement e h))
      (λ e q. ap (λ b. is_send g r i Announcement e && b) (may_announce-in r i q)) p

  pub announcement_taken-in : (r i : ℕ) (p : List Event) → is_announcement_taken s g r i (events_in g p) ≡ is_announcement_taken s g r i p
  announcement_taken-in r i p =
      once-in g _ (λ e q h. ap (λ b. b && is_announcement_sent s g r i q) (take-elsewhere g r i Announcement e h))
      (λ e q. ap (λ b. is_take g r i Announcement e && b) (announcement_sent-in r i q)) p

  answer_sent-in : (r i : ℕ) (p : List Event) → is_answer_sent s g r i (events_in g p) ≡ is_answer_sent s g r i p
  answer_sent-in r i p =
      once-in g _ (λ e q h. ap (λ b. b && is_announcement_taken s g r i q) (send-elsewhere g r i Answer e h))
      (λ e q. ap (λ b. is_send g r i Answer e && b) (announcement_taken-in r i q)) p

  pub ended-in : (r : ℕ) (p : List Event) → is_ended g r (events_in g p) ≡ is_ended g r p
  ended-in r p =
      once-in g _ (λ e q h. ap (λ b. b && is_closed g r q) (end-elsewhere g r e h))
      (λ e q. ap (λ b. is_end g r e && b) (closed-in r q)) p

  pub answer_taken-in : (r i : ℕ) (p : List Event) → is_answer_taken s g r i (events_in g p) ≡ is_answer_taken s g r i p
  answer_taken-in r i p =
      once-in g _ (λ e q h. ap (λ b. b && is_answer_sent s g r i q && not (is_ended g r q)) (take-elsewhere g r i Answer e h))
      (λ e q. ap (λ b. is_take g r i Answer e && b && not (is_ended g r (events_in g q))) (answer_sent-in r i q)
      ∙ ap (λ b. is_take g r i Answer e && is_answer_sent s g r i q && not b) (ended-in r q)) p

  pub all_taken-in : (r : ℕ) (p : List Event) → all_taken s g r (events_in g p) ≡ all_taken s g r p
  all_taken-in r p =
      ap (list_all (λ i. is_answer_taken s g r i (events_in g p))) (survivors-in r p)
      ∙ ap (λ t. list_all t (survivors s g r p)) (fun_ext (λ i. answer_taken-in r i p))

  pub lacking-in : (r : ℕ) (p : List Event) → lacking s g r (events_in g p) ≡ lacking s g r p
  lacking-in r p =
      ap (filter (λ i. not (is_answer_taken s g r i (events_in g p)))) (survivors-in r p)
      ∙ ap (λ t. filter t (survivors s g r p)) (fun_ext (λ i. ap not (answer_taken-in r i p)))

  -- ---- by kind

  pub may_send-in : (k : Kind) (r i : ℕ) (p : List Event) → may_send s k g r i (events_in g p) ≡ may_send s k g r i p
  may_send-in Reading r i p = refl
  may_send-in Announcement r i p = may_announce-in r i p
  may_send-in Answer r i p = announcement_taken-in r i p

  pub sent-in : (k : Kind) (r i : ℕ) (p : List Event) → is_sent s k g r i (events_in g p) ≡ is_sent s k g r i p
  sent-in Reading r i p = reading_sent-in r i p
  sent-in Announcement r i p = announcement_sent-in r i p
  sent-in Answer r i p = answer_sent-in r i p

  pub taken-in : (k : Kind) (r i : ℕ) (p : List Event) → is_taken s k g r i (events_in g p) ≡ is_taken s k g r i p
  taken-in Reading r i p = reading_taken-in r i p
  taken-in Announcement r i p = announcement_taken-in r i p
  taken-in Answer r i p = answer_taken-in r i p

  late-in : (k : Kind) (r : ℕ) (p : List Event) → is_late k g r (events_in g p) ≡ is_late k g r p
  late-in Reading r p = closed-in r p
  late-in Announcement r p = refl
  late-in Answer r p = ended-in r p

  effective_take-in : (k : Kind) (r i : ℕ) (p : List Event) → has_effective_take s k g r i (events_in g p) ≡ has_effective_take s k g r i p
  effective_take-in k r i p =
      once-in g _ (λ e q h. ap (λ b. b && is_sent s k g r i q) (take-elsewhere g r i k e h))
      (λ e q. ap (λ b. is_take g r i k e && b) (sent-in k r i q)) p

  fresh-in : (k : Kind) (r i : ℕ) (p : List Event) → is_fresh s k g r i (events_in g p) ≡ is_fresh s k g r i p
  fresh-in k r i p =
      ap (λ b. b && not (has_effective_take s k g r i (events_in g p)) && not (is_late k g r (events_in g p))) (sent-in k r i p)
      ∙ ap (λ b. is_sent s k g r i p && not b && not (is_late k g r (events_in g p))) (effective_take-in k r i p)
      ∙ ap (λ b. is_sent s k g r i p && not (has_effective_take s k g r i p) && not b) (late-in k r p)

  fresh_take-in : (k : Kind) (r i : ℕ) (p : List Event) → has_fresh_take s k g r i (events_in g p) ≡ has_fresh_take s k g r i p
  fresh_take-in k r i p =
      once-in g _ (λ e q h. ap (λ b. b && is_fresh s k g r i q) (take-elsewhere g r i k e h))
      (λ e q. ap (λ b. is_take g r i k e && b) (fresh-in k r i q)) p

  pub verdict-in : (k : Kind) (r i : ℕ) (p : List Event) → verdict s k g r i (events_in g p) ≡ verdict s k g r i p
  verdict-in k r i p =
      ap (λ b. if not b then Void else if is_fresh s k g r i (events_in g p) then Fresh else if has_fresh_take s k g r i (events_in g p) then Again else Late) (sent-in k r i p)
      ∙ ap (λ b. if not (is_sent s k g r i p) then Void else if b then Fresh else if has_fresh_take s k g r i (events_in g p) then Again else Late) (fresh-in k r i p)
      ∙ ap (λ b. if not (is_sent s k g r i p) then Void else if is_fresh s k g r i p then Fresh else if b then Again else Late) (fresh_take-in k r i p)

  pub closing-in : (r : ℕ) (p : List Event) → closing s g r (events_in g p) ≡ closing s g r p
  closing-in r p =
      ap (λ b. if b then AlreadyClosed else if reaches_floor s g r (events_in g p) then Announced (missing s g r (events_in g p)) else ThinClosing (missing s g r (events_in g p))) (closed-in r p)
      ∙ ap (λ b. if is_closed g r p then AlreadyClosed else if b then Announced (missing s g r (events_in g p)) else ThinClosing (missing s g r (events_in g p))) (reaches_floor-in r p)
      ∙ ap (λ set. if is_closed g r p then AlreadyClosed else if reaches_floor s g r p then Announced set else ThinClosing set) (missing-in r p)

  pub set_sent-in : (k : Kind) (r : ℕ) (p : List Event) → set_sent s k g r (events_in g p) ≡ set_sent s k g r p
  set_sent-in Reading r p = refl
  set_sent-in Announcement r p = missing-in r p
  set_sent-in Answer r p = missing-in r p
