-- What stays true of a round as events come, and what came before what.
use Rattle.std.proofs.Common.{◌≡◌, ℕ, Bool, true, not, ◌&&◌, ◌||◌, List, [], ◌∷◌, length, refl, ap, ◌∙◌, ⊎_elim}
use Rattle.std.specs.Prelude.{nat_le}
use Rattle.std.specs.List.{filter, list_all}
use mathlib.Core.Path.{fun_ext}
use Rattle.std.proofs.lemmas.Bool.{false≢true, or_cases, or_left, or_right, and_from}
use Rattle.group_plan.specs.declared.Kind.TheVariants.{Reading, Announcement, Answer}
use Rattle.event_schedule.specs.declared.Event.{Event}
use Rattle.event_schedule.specs.Schedule.{Shape, is_closed, is_ended, is_reading_sent, is_reading_taken, survivors, missing, reaches_floor, is_announced, may_announce, is_announcement_sent, is_announcement_taken, is_answer_sent, is_answer_taken, all_answered, all_taken, is_opened, members_of, floor_of}
use Rattle.event_schedule.specs.Events.{once, is_take, is_send}
use mathlib.Core.List.{reverse_aux, reverse}
use Rattle.event_schedule.proofs.ListLemmas.{and_first, and_last, list_all-weaker, or-and_not}

-- the past after more events
unfoldable pub after : List Event → List Event → List Event
after past [] = past
after past (e ∷ rest) = after (e ∷ past) rest

pub once-cons : (test : Event → List Event → Bool) (e : Event) (p : List Event) → once test (e ∷ p) ≡ (test e p || once test p)
unfolding once
once-cons test e p = refl

-- once is for good
pub once-more : (test : Event → List Event → Bool) (e : Event) (p : List Event) → once test p ≡ true → once test (e ∷ p) ≡ true
once-more test e p h = once-cons test e p ∙ or_right (test e p) (once test p) h

pub once-now : (test : Event → List Event → Bool) (e : Event) (p : List Event) → test e p ≡ true → once test (e ∷ p) ≡ true
once-now test e p h = once-cons test e p ∙ or_left (test e p) (once test p) h

-- what began when the test passed, and stays, holds
pub once-gives : (test : Event → List Event → Bool) (Q : List Event → Type 0)
    → ((e : Event) (p : List Event) → test e p ≡ true → Q p)
    → ((e : Event) (p : List Event) → Q p → Q (e ∷ p))
    → (p : List Event) → once test p ≡ true → Q p
unfolding once
once-gives test Q starts stays [] h = absurd (false≢true h)
once-gives test Q starts stays (e ∷ p) h =
    ⊎_elim (λ now. stays e p (starts e p now)) (λ then. stays e p (once-gives test Q starts stays p then)) (or_cases (test e p) (once test p) h)

-- what stays at each event stays
pub after-keeps : (Q : List Event → Type 0) → ((e : Event) (p : List Event) → Q p → Q (e ∷ p)) → (p rest : List Event) → Q p → Q (after p rest)
unfolding after
after-keeps Q stays p [] q = q
after-keeps Q stays p (e ∷ rest) q = after-keeps Q stays (e ∷ p) rest (stays e p q)

-- no reading is taken after the Close
pub is_reading_taken-closed : (s : Shape) (g r i : ℕ) (e : Event) (p : List Event) → is_closed g r p ≡ true → is_reading_taken s g r i (e ∷ p) ≡ is_reading_taken s g r i p
is_reading_taken-closed s g r i e p closed =
    once-cons _ e p ∙ or-and_not (is_take g r i Reading e && is_reading_sent s g r i p) (is_closed g r p) (is_reading_taken s g r i p) closed

pub is_closed-more : (g r : ℕ) (e : Event) (p : List Event) → is_closed g r p ≡ true → is_closed g r (e ∷ p) ≡ true
is_closed-more g r e p h = once-more _ e p h

pub survivors-closed : (s : Shape) (g r : ℕ) (e : Event) (p : List Event) → is_closed g r p ≡ true → survivors s g r (e ∷ p) ≡ survivors s g r p
survivors-closed s g r e p closed = ap (λ t. filter t (members_of s g r)) (fun_ext (λ i. is_reading_taken-closed s g r i e p closed))

pub missing-closed : (s : Shape) (g r : ℕ) (e : Event) (p : List Event) → is_closed g r p ≡ true → missing s g r (e ∷ p) ≡ missing s g r p
missing-closed s g r e p closed = ap (λ t. filter t (members_of s g r)) (fun_ext (λ i. ap not (is_reading_taken-closed s g r i e p closed)))

pub is_announced-more : (s : Shape) (g r : ℕ) (e : Event) (p : List Event) → is_announced s g r p ≡ true → is_announced s g r (e ∷ p) ≡ true
is_announced-more s g r e p h =
    let closed = and_first (is_closed g r p) (reaches_floor s g r p) h in
    and_from (is_closed g r (e ∷ p)) (reaches_floor s g r (e ∷ p)) (is_closed-more g r e p closed)
    (ap (λ a. nat_le (floor_of s g) (length a)) (survivors-closed s g r e p closed) ∙ and_last (is_closed g r p) (reaches_floor s g r p) h)

-- ---- one after another

pub is_announced-from_sent : (s : Shape) (g r i : ℕ) (p : List Event) → is_announcement_sent s g r i p ≡ true → is_announced s g r p ≡ true
is_announced-from_sent s g r i p h =
    once-gives _ (λ q. is_announced s g r q ≡ true)
    (λ e q t. and_first (is_announced s g r q) (is_reading_taken s g r i q) (and_last (is_send g r i Announcement e) (may_announce s g r i q) t))
    (is_announced-more s g r) p h

pub is_announcement_sent-from_taken : (s : Shape) (g r i : ℕ) (p : List Event) → is_announcement_taken s g r i p ≡ true → is_announcement_sent s g r i p ≡ true
is_announcement_sent-from_taken s g r i p h =
    once-gives _ (λ q. is_announcement_sent s g r i q ≡ true)
    (λ e q t. and_last (is_take g r i Announcement e) (is_announcement_sent s g r i q) t)
    (λ e q u. once-more _ e q u) p h

pub is_announcement_taken-from_answer : (s : Shape) (g r i : ℕ) (p : List Event) → is_answer_sent s g r i p ≡ true → is_announcement_taken s g r i p ≡ true
is_announcement_taken-from_answer s g r i p h =
    once-gives _ (λ q. is_announcement_taken s g r i q ≡ true)
    (λ e q t. and_last (is_send g r i Answer e) (is_announcement_taken s g r i q) t)
    (λ e q u. once-more _ e q u) p h

pub is_answer_sent-from_taken : (s : Shape) (g r i : ℕ) (p : List Event) → is_answer_taken s g r i p ≡ true → is_answer_sent s g r i p ≡ true
is_answer_sent-from_taken s g r i p h =
    once-gives _ (λ q. is_answer_sent s g r i q ≡ true)
    (λ e q t. and_last (is_take g r i Answer e) (is_answer_sent s g r i q) (and_first (is_take g r i Answer e && is_answer_sent s g r i q) (not (is_ended g r q)) t))
    (λ e q u. once-more _ e q u) p h

-- a published round is opened
pub is_opened-from_taken : (s : Shape) (g r : ℕ) (p : List Event) → is_announced s g r p ≡ true → all_taken s g r p ≡ true → is_opened s g r p ≡ true
is_opened-from_taken s g r p announced taken =
    and_from (is_announced s g r p) (all_answered s g r p) announced
    (list_all-weaker (λ i. is_answer_taken s g r i p) (λ i. is_answer_sent s g r i p) (λ i. is_answer_sent-from_taken s g r i p) (survivors s g r p) taken)

pub is_opened-more : (s : Shape) (g r : ℕ) (e : Event) (p : List Event) → is_opened s g r p ≡ true → is_opened s g r (e ∷ p) ≡ true
is_opened-more s g r e p h =
    let announced = and_first (is_announced s g r p) (all_answered s g r p) h in
    let closed = and_first (is_closed g r p) (reaches_floor s g r p) announced in
    and_from (is_announced s g r (e ∷ p)) (all_answered s g r (e ∷ p)) (is_announced-more s g r e p announced)
    (list_all-weaker (λ i. is_answer_sent s g r i p) (λ i. is_answer_sent s g r i (e ∷ p)) (λ i u. once-more _ e p u) (survivors s g r (e ∷ p))
    (ap (list_all (λ i. is_answer_sent s g r i p)) (survivors-closed s g r e p closed) ∙ and_last (is_announced s g r p) (all_answered s g r p) h))

-- ---- at the end of the schedule

pub is_opened-after : (s : Shape) (g r : ℕ) (p rest : List Event) → is_opened s g r p ≡ true → is_opened s g r (after p rest) ≡ true
is_opened-after s g r p rest h = after-keeps (λ q. is_opened s g r q ≡ true) (is_opened-more s g r) p rest h

-- the survivors and the missing of a closed round stay
pub record Stays (s : Shape) (g r : ℕ) (a m : List ℕ) (p : List Event) : Type 0 where
  closed : is_closed g r p ≡ true
  survivors_stay : survivors s g r p ≡ a
  missing_stay : missing s g r p ≡ m

stays-after : (s : Shape) (g r : ℕ) (p rest : List Event) → is_closed g r p ≡ true → Stays s g r (survivors s g r p) (missing s g r p) (after p rest)
stays-after s g r p rest closed =
    after-keeps (Stays s g r (survivors s g r p) (missing s g r p))
    (λ e q k. record {
      closed = is_closed-more g r e q k.closed;
      survivors_stay = survivors-closed s g r e q k.closed ∙ k.survivors_stay;
      missing_stay = missing-closed s g r e q k.closed ∙ k.missing_stay;
    }) p rest (record { closed = closed; survivors_stay = refl; missing_stay = refl })

pub survivors-after : (s : Shape) (g r : ℕ) (p rest : List Event) → is_closed g r p ≡ true → survivors s g r (after p rest) ≡ survivors s g r p
survivors-after s g r p rest closed = (stays-after s g r p rest closed).survivors_stay

pub missing-after : (s : Shape) (g r : ℕ) (p rest : List Event) → is_closed g r p ≡ true → missing s g r (after p rest) ≡ missing s g r p
missing-after s g r p rest closed = (stays-after s g r p rest closed).missing_stay

-- the events, the newest first
pub after-reverse_aux : (p rest : List Event) → after p rest ≡ reverse_aux rest p
unfolding after
after-reverse_aux p [] = refl
after-reverse_aux p (e ∷ rest) = after-reverse_aux (e ∷ p) rest

pub after-reverse : (events : List Event) → after [] events ≡ reverse events
after-reverse events = after-reverse_aux [] events

-- who was sent an announcement is a survivor, and so is who answered
is_reading_taken-from_announcement : (s : Shape) (g r i : ℕ) (p : List Event) → is_announcement_sent s g r i p ≡ true → is_reading_taken s g r i p ≡ true
is_reading_taken-from_announcement s g r i p h =
    once-gives _ (λ q. is_reading_taken s g r i q ≡ true)
    (λ e q t. and_last (is_announced s g r q) (is_reading_taken s g r i q) (and_last (is_send g r i Announcement e) (may_announce s g r i q) t))
    (λ e q u. once-more _ e q u) p h

pub is_reading_taken-from_answer : (s : Shape) (g r i : ℕ) (p : List Event) → is_answer_sent s g r i p ≡ true → is_reading_taken s g r i p ≡ true
is_reading_taken-from_answer s g r i p h =
    is_reading_taken-from_announcement s g r i p (is_announcement_sent-from_taken s g r i p (is_announcement_taken-from_answer s g r i p h))

pub is_announced-from_answer : (s : Shape) (g r i : ℕ) (p : List Event) → is_answer_sent s g r i p ≡ true → is_announced s g r p ≡ true
is_announced-from_answer s g r i p h =
    is_announced-from_sent s g r i p (is_announcement_sent-from_taken s g r i p (is_announcement_taken-from_answer s g r i p h))

pub is_closed-from_taken : (s : Shape) (g r i : ℕ) (p : List Event) → is_announcement_taken s g r i p ≡ true → is_closed g r p ≡ true
is_closed-from_taken s g r i p h =
    and_first (is_closed g r p) (reaches_floor s g r p) (is_announced-from_sent s g r i p (is_announcement_sent-from_taken s g r i p h))

pub is_closed-from_answer : (s : Shape) (g r i : ℕ) (p : List Event) → is_answer_sent s g r i p ≡ true → is_closed g r p ≡ true
is_closed-from_answer s g r i p h = is_closed-from_taken s g r i p (is_announcement_taken-from_answer s g r i p h)

-- ---- the sums

pub is_reading_sent-from_taken : (s : Shape) (g r i : ℕ) (p : List Event) → is_reading_taken s g r i p ≡ true → is_reading_sent s g r i p ≡ true
is_reading_sent-from_taken s g r i p h =
    once-gives _ (λ q. is_reading_sent s g r i q ≡ true)
    (λ e q t. and_last (is_take g r i Reading e) (is_reading_sent s g r i q) (and_first (is_take g r i Reading e && is_reading_sent s g r i q) (not (is_closed g r q)) t))
    (λ e q u. once-more _ e q u) p h

pub present-from_taken : (s : Shape) (g r i : ℕ) (p : List Event) → is_reading_taken s g r i p ≡ true → s.present g r i ≡ true
present-from_taken s g r i p h =
    once-gives (λ e _. is_send g r i Reading e && s.present g r i) (λ _. s.present g r i ≡ true) (λ e q t. and_last (is_send g r i Reading e) (s.present g r i) t) (λ e q u. u) p
    (is_reading_sent-from_taken s g r i p h)

-- ---- by kinds

pub is_ended-more : (g r : ℕ) (e : Event) (p : List Event) → is_ended g r p ≡ true → is_ended g r (e ∷ p) ≡ true
is_ended-more g r e p h = once-more _ e p h
