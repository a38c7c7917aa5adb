-- Each Send of a tick run is effective.
use Rattle.std.proofs.Common.{◌≡◌, ℕ, ◌+◌, ◌<◌, true, ◌&&◌, List, sym, ◌∙◌, arith}
use Rattle.std.proofs.lemmas.Bool.{and_from}
use Rattle.group_plan.specs.declared.Kind.{Kind}
use Rattle.group_plan.specs.declared.Kind.TheVariants.{Reading, Announcement, Answer}
use Rattle.group_plan.specs.declared.Tag.{Tag}
use Rattle.event_schedule.specs.Schedule.{Shape, is_closed, is_announced, is_reading_taken, may_announce, is_announcement_sent, may_send}
use Rattle.event_schedule.specs.Events.{is_send, is_take, is_close, events_of, event_of}
use Rattle.run_rows.specs.Ticks.{Clock, phase}
use Rattle.event_schedule.specs.declared.Entry.{Entry}
use Rattle.run_rows.proofs.TickLemmas.{In, Stands, TickFacts, announced_same, earlier_is_older, once-from, phase_close, phase_send, phase_take, taken_same}

may_announce_at : (s : Shape) (c : Clock) (fate : ℕ → Tag → List ℕ) (xs : List Entry) → TickFacts s c fate xs → (g r i t : ℕ) (st : Stands (is_send g r i Announcement) t xs)
    → may_announce s g r i (events_of st.older) ≡ true
may_announce_at s c fate xs facts g r i t st =
    let from = facts.announcement_from g r i t st in
    let close = from.0 in
    let tick : t ≡ r + c.w1 = facts.announcement_tick g r i t st in
    let p2 : phase (event_of st.entry.line) ≡ 2 = phase_send g r i Announcement (event_of st.entry.line) st.passes in
    let p1 : phase (event_of close.entry.line) ≡ 1 = phase_close g r (event_of close.entry.line) close.passes in
    let when : st.entry.tick ≡ t = st.when in
    let close_when : close.entry.tick ≡ r + c.w1 = close.when in
    let inside : In close.entry close.older st.older = earlier_is_older st.entry close.entry st.older close.older xs facts.falling st.at close.at (omega arith) in
    let closed : is_closed g r (events_of st.older) ≡ true = once-from (λ f _. is_close g r f) close.entry close.older st.older inside close.passes in
    and_from (is_announced s g r (events_of st.older)) (is_reading_taken s g r i (events_of st.older)) (announced_same s g r st.entry st.older xs st.at closed from.1)
    (sym (taken_same s g r i st.entry st.older xs st.at closed) ∙ from.2)

pub effective : (s : Shape) (c : Clock) (fate : ℕ → Tag → List ℕ) (xs : List Entry) → TickFacts s c fate xs → (k : Kind) (g r i t : ℕ) (st : Stands (is_send g r i k) t xs)
    → may_send s k g r i (events_of st.older) ≡ true
effective s c fate xs facts Reading g r i t st = facts.reading_present g r i t st
effective s c fate xs facts Announcement g r i t st = may_announce_at s c fate xs facts g r i t st
effective s c fate xs facts Answer g r i t st =
    let heard = facts.answer_from g r i t st in
    let came = facts.take_from g r i Announcement t heard in
    let notice = came.send in
    let some : 0 < came.delay = facts.positive came.sent came.delay (record { group = g; round = r; meter = i; kind = Announcement }) came.member in
    let arrives : came.sent + came.delay ≡ t = came.arrives in
    let p2 : phase (event_of st.entry.line) ≡ 2 = phase_send g r i Answer (event_of st.entry.line) st.passes in
    let p0 : phase (event_of heard.entry.line) ≡ 0 = phase_take g r i Announcement (event_of heard.entry.line) heard.passes in
    let n2 : phase (event_of notice.entry.line) ≡ 2 = phase_send g r i Announcement (event_of notice.entry.line) notice.passes in
    let when : st.entry.tick ≡ t = st.when in
    let heard_when : heard.entry.tick ≡ t = heard.when in
    let notice_when : notice.entry.tick ≡ came.sent = notice.when in
    let inside : In heard.entry heard.older st.older = earlier_is_older st.entry heard.entry st.older heard.older xs facts.falling st.at heard.at (omega arith) in
    let before : In notice.entry notice.older heard.older = earlier_is_older heard.entry notice.entry heard.older notice.older xs facts.falling heard.at notice.at (omega arith) in
    let sent : is_announcement_sent s g r i (events_of heard.older) ≡ true
    = once-from (λ f q. is_send g r i Announcement f && may_announce s g r i q) notice.entry notice.older heard.older before
    (and_from (is_send g r i Announcement (event_of notice.entry.line)) (may_announce s g r i (events_of notice.older)) notice.passes (may_announce_at s c fate xs facts g r i came.sent notice)) in
    once-from (λ f q. is_take g r i Announcement f && is_announcement_sent s g r i q) heard.entry heard.older st.older inside
    (and_from (is_take g r i Announcement (event_of heard.entry.line)) (is_announcement_sent s g r i (events_of heard.older)) heard.passes sent)
