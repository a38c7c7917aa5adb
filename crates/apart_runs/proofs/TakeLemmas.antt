-- What a run's Take finds: whether its round is closed or has ended, and whether its tag was taken.
use Rattle.std.proofs.Common.{◌≡◌, ℕ, ◌+◌, ◌<◌, ◌≤◌, Bool, true, false, not, ◌&&◌, ◌||◌, List, refl, sym, ◌∙◌, ⊎_elim, arith}
use Rattle.std.specs.Prelude.{◌==◌, nat_lt, nat_le}
use mathlib.Core.List.{reverse}
use Rattle.std.specs.List.{list_any}
use Rattle.std.proofs.lemmas.Bool.{false≢true, and_from, and_parts, or_cases, or_left, or_right, lt-ltb, ltb-true, le-ltb, le-leb, leb-true, eq-eqb, cases_lt, not_from_false, not-true}
use Rattle.group_plan.specs.declared.Kind.{Kind}
use Rattle.group_plan.specs.declared.Kind.TheVariants.{Reading, Announcement, Answer}
use Rattle.group_plan.specs.declared.Tag.{Tag}
use Rattle.event_schedule.specs.declared.Entry.{Entry}
use Rattle.event_schedule.specs.Events.{once, is_send, is_take, is_close, is_end, events_of, event_of}
use Rattle.event_schedule.specs.Schedule.{Shape, is_closed, is_ended, is_announcement_taken, is_sent, is_taken, is_late}
use Rattle.event_schedule.proofs.ListLemmas.{and_first}
use Rattle.run_rows.specs.Ticks.{Clock, phase, moment, tag_of}
use Rattle.run_rows.specs.Report.{comes_in_time}
use Rattle.run_rows.proofs.TickLemmas.{In, Stands, TickFacts, once-at, once-from, older_below, earlier_is_older, in_older, same_from_both, phase_take, phase_send, phase_close, phase_end, is_reading_taken-ticks}
use Rattle.run_rows.proofs.TickRun.{member_any}
use Rattle.run_rows.proofs.Effective.{effective}
use Rattle.apart_runs.specs.Carried.{is_from_head}
use Rattle.apart_runs.proofs.FrameLemmas.{member_of_in, in_of_member, in_whole, member_of}
use Rattle.apart_runs.proofs.CameLemmas.{came, comes, holds}

-- the last tick in which a Take of this kind is in time
abbrev pub last_by : Clock → Kind → ℕ → ℕ
last_by c Reading r = r + c.w1
last_by c Announcement r = 0
last_by c Answer r = r + c.w1 + c.w2

unless : (b : Bool) (l t : ℕ) → b ≡ nat_lt l t → not b ≡ true → t ≤ l
unless b l t is none = ⊎_elim
    (λ over. absurd (false≢true (sym (not-true b none) ∙ is ∙ lt-ltb l t over)))
    (λ within. within)
    (cases_lt l t)

module _ (s : Shape) (c : Clock) (fate : ℕ → Tag → List ℕ) (xs : List Entry) (facts : TickFacts s c fate (reverse xs)) where
  -- a Take with what came before it
  pub record IsTake (g r i : ℕ) (k : Kind) (e : Entry) (older : List Entry) : Type 0 where
    pub at : In e older (reverse xs)
    pub takes : is_take g r i k (event_of e.line) ≡ true

  abbrev stands_so : (g r i : ℕ) (k : Kind) (e : Entry) (older : List Entry) → IsTake g r i k e older → Stands (is_take g r i k) e.tick (reverse xs)
  stands_so g r i k e older is = record { entry = e; older = older; at = is.at; passes = is.takes; when = refl }

  -- its meter has a reading in the round
  has_reading : (g r i : ℕ) (k : Kind) (e : Entry) (older : List Entry) → is_from_head k ≡ false → IsTake g r i k e older → s.present g r i ≡ true
  has_reading g r i Reading e older to is =
      let from = facts.take_from g r i Reading e.tick (stands_so g r i Reading e older is) in
      facts.reading_present g r i from.sent from.send
  has_reading g r i Announcement e older to is = absurd (false≢true (sym to))
  has_reading g r i Answer e older to is =
      let from = facts.take_from g r i Answer e.tick (stands_so g r i Answer e older is) in
      let told = facts.take_from g r i Announcement from.sent (facts.answer_from g r i from.sent from.send) in
      let made = facts.announcement_from g r i told.sent told.send in
      (and_parts (s.present g r i) (comes_in_time c fate g r i) (sym (is_reading_taken-ticks s c fate (reverse xs) facts g r i) ∙ made.2)).0

  -- ---- closed, and ended

  closed_before : (g r i : ℕ) (k : Kind) (e : Entry) (older : List Entry) → IsTake g r i k e older → s.present g r i ≡ true → is_closed g r (events_of older) ≡ nat_lt (r + c.w1) e.tick
  closed_before g r i k e older is present = same_from_both (is_closed g r (events_of older)) (nat_lt (r + c.w1) e.tick) there back
    where
      there : is_closed g r (events_of older) ≡ true → nat_lt (r + c.w1) e.tick ≡ true
      there shut =
          let found = once-at (λ f before. is_close g r f) older shut in
          let p1 : phase (event_of found.0.line) ≡ 1 = phase_close g r (event_of found.0.line) found.3 in
          let p0 : phase (event_of e.line) ≡ 0 = phase_take g r i k (event_of e.line) is.takes in
          let le : moment found.0 ≤ moment e = older_below e found.0 older found.1 (reverse xs) facts.falling is.at found.2 in
          let when : found.0.tick ≡ r + c.w1 = facts.close_tick g r found.0.tick (record { entry = found.0; older = found.1; at = in_older e found.0 older found.1 (reverse xs) is.at found.2; passes = found.3; when = refl }) in
          lt-ltb (r + c.w1) e.tick (omega (arith, p1, p0, le, when))

      back : nat_lt (r + c.w1) e.tick ≡ true → is_closed g r (events_of older) ≡ true
      back over =
          let close = facts.closes g r i present in
          let lt : r + c.w1 < e.tick = ltb-true (r + c.w1) e.tick over in
          let p1 : phase (event_of close.entry.line) ≡ 1 = phase_close g r (event_of close.entry.line) close.passes in
          let p0 : phase (event_of e.line) ≡ 0 = phase_take g r i k (event_of e.line) is.takes in
          let when : close.entry.tick ≡ r + c.w1 = close.when in
          let inside : In close.entry close.older older = earlier_is_older e close.entry older close.older (reverse xs) facts.falling is.at close.at (omega (arith, lt, p1, p0, when)) in
          once-from (λ f before. is_close g r f) close.entry close.older older inside close.passes

  ended_before : (g r i : ℕ) (k : Kind) (e : Entry) (older : List Entry) → IsTake g r i k e older → s.present g r i ≡ true → is_ended g r (events_of older) ≡ nat_lt (r + c.w1 + c.w2) e.tick
  ended_before g r i k e older is present = same_from_both (is_ended g r (events_of older)) (nat_lt (r + c.w1 + c.w2) e.tick) there back
    where
      there : is_ended g r (events_of older) ≡ true → nat_lt (r + c.w1 + c.w2) e.tick ≡ true
      there over =
          let found = once-at (λ f before. is_end g r f && is_closed g r before) older over in
          let ends : is_end g r (event_of found.0.line) ≡ true = and_first (is_end g r (event_of found.0.line)) (is_closed g r (events_of found.1)) found.3 in
          let p1 : phase (event_of found.0.line) ≡ 1 = phase_end g r (event_of found.0.line) ends in
          let p0 : phase (event_of e.line) ≡ 0 = phase_take g r i k (event_of e.line) is.takes in
          let le : moment found.0 ≤ moment e = older_below e found.0 older found.1 (reverse xs) facts.falling is.at found.2 in
          let when : found.0.tick ≡ r + c.w1 + c.w2 = facts.end_tick g r found.0.tick (record { entry = found.0; older = found.1; at = in_older e found.0 older found.1 (reverse xs) is.at found.2; passes = ends; when = refl }) in
          lt-ltb (r + c.w1 + c.w2) e.tick (omega (arith, p1, p0, le, when))

      back : nat_lt (r + c.w1 + c.w2) e.tick ≡ true → is_ended g r (events_of older) ≡ true
      back over =
          let close = facts.closes g r i present in
          let end = facts.end_of g r close in
          let lt : r + c.w1 + c.w2 < e.tick = ltb-true (r + c.w1 + c.w2) e.tick over in
          let some : 0 < c.w2 = facts.later in
          let c1 : phase (event_of close.entry.line) ≡ 1 = phase_close g r (event_of close.entry.line) close.passes in
          let e1 : phase (event_of end.entry.line) ≡ 1 = phase_end g r (event_of end.entry.line) end.passes in
          let p0 : phase (event_of e.line) ≡ 0 = phase_take g r i k (event_of e.line) is.takes in
          let close_when : close.entry.tick ≡ r + c.w1 = close.when in
          let end_when : end.entry.tick ≡ r + c.w1 + c.w2 = end.when in
          let inside : In end.entry end.older older = earlier_is_older e end.entry older end.older (reverse xs) facts.falling is.at end.at (omega (arith, lt, e1, p0, end_when)) in
          let before : In close.entry close.older end.older = earlier_is_older end.entry close.entry end.older close.older (reverse xs) facts.falling end.at close.at (omega (arith, some, c1, e1, close_when, end_when)) in
          once-from (λ f q. is_end g r f && is_closed g r q) end.entry end.older older inside
          (and_from (is_end g r (event_of end.entry.line)) (is_closed g r (events_of end.older)) end.passes (once-from (λ f q. is_close g r f) close.entry close.older end.older before close.passes))

  pub late_before : (g r i : ℕ) (k : Kind) (e : Entry) (older : List Entry) → is_from_head k ≡ false → IsTake g r i k e older → is_late k g r (events_of older) ≡ nat_lt (last_by c k r) e.tick
  late_before g r i Reading e older to is = closed_before g r i Reading e older is (has_reading g r i Reading e older to is)
  late_before g r i Announcement e older to is = absurd (false≢true (sym to))
  late_before g r i Answer e older to is = ended_before g r i Answer e older is (has_reading g r i Answer e older to is)

  -- ---- sent

  pub sent_before : (g r i : ℕ) (k : Kind) (e : Entry) (older : List Entry) → is_from_head k ≡ false → IsTake g r i k e older → is_sent s k g r i (events_of older) ≡ true
  sent_before g r i k e older to is = by k refl to is
    where
      inside : (l : Kind) (t : IsTake g r i l e older) → (came_from : Entry) × (before : List Entry) × In came_from before older × (is_send g r i l (event_of came_from.line) ≡ true) × In came_from before (reverse xs)
      inside l t =
          let from = facts.take_from g r i l e.tick (stands_so g r i l e older t) in
          let send = from.send in
          let some : 0 < from.delay = facts.positive from.sent from.delay (tag_of l g r i) from.member in
          let arrives : from.sent + from.delay ≡ e.tick = from.arrives in
          let p2 : phase (event_of send.entry.line) ≡ 2 = phase_send g r i l (event_of send.entry.line) send.passes in
          let p0 : phase (event_of e.line) ≡ 0 = phase_take g r i l (event_of e.line) t.takes in
          let when : send.entry.tick ≡ from.sent = send.when in
          (send.entry, send.older, earlier_is_older e send.entry older send.older (reverse xs) facts.falling t.at send.at (omega (arith, some, arrives, p2, p0, when)), send.passes, send.at)

      by : (l : Kind) → k ≡ l → is_from_head l ≡ false → IsTake g r i l e older → is_sent s l g r i (events_of older) ≡ true
      by Reading kind own t =
          let f = inside Reading t in
          once-from (λ z before. is_send g r i Reading z && s.present g r i) f.0 f.1 older f.2 (and_from (is_send g r i Reading (event_of f.0.line)) (s.present g r i) f.3 (has_reading g r i Reading e older own t))
      by Announcement kind own t = absurd (false≢true (sym own))
      by Answer kind own t =
          let f = inside Answer t in
          let may = effective s c fate (reverse xs) facts Answer g r i f.0.tick (record { entry = f.0; older = f.1; at = f.4; passes = f.3; when = refl }) in
          once-from (λ z before. is_send g r i Answer z && is_announcement_taken s g r i before) f.0 f.1 older f.2 (and_from (is_send g r i Answer (event_of f.0.line)) (is_announcement_taken s g r i (events_of f.1)) f.3 may)

  -- ---- taken

  -- a Take in time among these
  abbrev pub in_time : List Entry → ℕ → ℕ → Kind → ℕ → Bool
  in_time older g r k i = list_any (λ z. is_take g r i k (event_of z.line) && nat_le z.tick (last_by c k r)) older

  once_in_time : (g r i : ℕ) (k : Kind) (e : Entry) (older : List Entry) → is_from_head k ≡ false → In e older (reverse xs)
      → once (λ f before. is_take g r i k f && is_sent s k g r i before && not (is_late k g r before)) (events_of older) ≡ in_time older g r k i
  once_in_time g r i k e older to at = same_from_both (once (λ f before. is_take g r i k f && is_sent s k g r i before && not (is_late k g r before)) (events_of older)) (in_time older g r k i) there back
    where
      there : once (λ f before. is_take g r i k f && is_sent s k g r i before && not (is_late k g r before)) (events_of older) ≡ true → in_time older g r k i ≡ true
      there is =
          let found = once-at (λ f before. is_take g r i k f && is_sent s k g r i before && not (is_late k g r before)) older is in
          let z = found.0 in
          let parts = and_parts (is_take g r i k (event_of z.line) && is_sent s k g r i (events_of found.1)) (not (is_late k g r (events_of found.1))) found.3 in
          let takes = and_first (is_take g r i k (event_of z.line)) (is_sent s k g r i (events_of found.1)) parts.0 in
          let t : IsTake g r i k z found.1 = record { at = in_older e z older found.1 (reverse xs) at found.2; takes = takes } in
          holds (λ y. is_take g r i k (event_of y.line) && nat_le y.tick (last_by c k r)) z older (member_of_in z found.1 older found.2)
          (and_from (is_take g r i k (event_of z.line)) (nat_le z.tick (last_by c k r)) takes (le-leb z.tick (last_by c k r) (unless (is_late k g r (events_of found.1)) (last_by c k r) z.tick (late_before g r i k z found.1 to t) parts.1)))

      back : in_time older g r k i ≡ true → once (λ f before. is_take g r i k f && is_sent s k g r i before && not (is_late k g r before)) (events_of older) ≡ true
      back is =
          let found = member_any (λ y. is_take g r i k (event_of y.line) && nat_le y.tick (last_by c k r)) older is in
          let z = found.0 in
          let parts = and_parts (is_take g r i k (event_of z.line)) (nat_le z.tick (last_by c k r)) found.2 in
          let inner = in_of_member z older found.1 in
          let t : IsTake g r i k z inner.0 = record { at = in_older e z older inner.0 (reverse xs) at inner.1; takes = parts.0 } in
          once-from (λ f before. is_take g r i k f && is_sent s k g r i before && not (is_late k g r before)) z inner.0 older inner.1
          (and_from (is_take g r i k (event_of z.line) && is_sent s k g r i (events_of inner.0)) (not (is_late k g r (events_of inner.0)))
          (and_from (is_take g r i k (event_of z.line)) (is_sent s k g r i (events_of inner.0)) parts.0 (sent_before g r i k z inner.0 to t))
          (not_from_false (is_late k g r (events_of inner.0)) (late_before g r i k z inner.0 to t ∙ le-ltb (last_by c k r) z.tick (leb-true z.tick (last_by c k r) parts.1))))

  taken_before : (g r i : ℕ) (k : Kind) (e : Entry) (older : List Entry) → is_from_head k ≡ false → In e older (reverse xs) → is_taken s k g r i (events_of older) ≡ in_time older g r k i
  taken_before g r i Reading e older to at = once_in_time g r i Reading e older to at
  taken_before g r i Announcement e older to at = absurd (false≢true (sym to))
  taken_before g r i Answer e older to at = once_in_time g r i Answer e older to at

  -- of the Takes that came before this tick, or before this one in it
  pub taken_by : (g r i : ℕ) (k : Kind) (e : Entry) (older : List Entry) → is_from_head k ≡ false → IsTake g r i k e older
      → is_taken s k g r i (events_of older) ≡ (came xs g r k i e.tick (last_by c k r) || comes older g r k i e.tick (last_by c k r))
  taken_by g r i k e older to is = taken_before g r i k e older to is.at ∙ same_from_both (in_time older g r k i) (came xs g r k i e.tick (last_by c k r) || comes older g r k i e.tick (last_by c k r)) there back
    where
      there : in_time older g r k i ≡ true → (came xs g r k i e.tick (last_by c k r) || comes older g r k i e.tick (last_by c k r)) ≡ true
      there some =
          let found = member_any (λ y. is_take g r i k (event_of y.line) && nat_le y.tick (last_by c k r)) older some in
          let z = found.0 in
          let parts = and_parts (is_take g r i k (event_of z.line)) (nat_le z.tick (last_by c k r)) found.2 in
          let inner = in_of_member z older found.1 in
          let st : Stands (is_take g r i k) z.tick (reverse xs) = record { entry = z; older = inner.0; at = in_older e z older inner.0 (reverse xs) is.at inner.1; passes = parts.0; when = refl } in
          let zp : phase (event_of z.line) ≡ 0 = phase_take g r i k (event_of z.line) parts.0 in
          let ep : phase (event_of e.line) ≡ 0 = phase_take g r i k (event_of e.line) is.takes in
          let le : moment z ≤ moment e = older_below e z older inner.0 (reverse xs) facts.falling is.at inner.1 in
          ⊎_elim
          (λ (lt : z.tick < e.tick).
          or_left (came xs g r k i e.tick (last_by c k r)) (comes older g r k i e.tick (last_by c k r))
          (holds (λ y. is_take g r i k (event_of y.line) && (nat_lt y.tick e.tick && nat_le y.tick (last_by c k r))) z xs (member_of (is_take g r i k) z.tick xs st)
          (and_from (is_take g r i k (event_of z.line)) (nat_lt z.tick e.tick && nat_le z.tick (last_by c k r)) parts.0 (and_from (nat_lt z.tick e.tick) (nat_le z.tick (last_by c k r)) (lt-ltb z.tick e.tick lt) parts.1))))
          (λ (ge : e.tick ≤ z.tick).
          or_right (came xs g r k i e.tick (last_by c k r)) (comes older g r k i e.tick (last_by c k r))
          (holds (λ y. is_take g r i k (event_of y.line) && ((y.tick == e.tick) && nat_le y.tick (last_by c k r))) z older found.1
          (and_from (is_take g r i k (event_of z.line)) ((z.tick == e.tick) && nat_le z.tick (last_by c k r)) parts.0
          (and_from (z.tick == e.tick) (nat_le z.tick (last_by c k r)) (eq-eqb z.tick e.tick (omega (arith, ge, zp, ep, le))) parts.1))))
          (cases_lt z.tick e.tick)

      earlier : came xs g r k i e.tick (last_by c k r) ≡ true → in_time older g r k i ≡ true
      earlier some =
          let found = member_any (λ y. is_take g r i k (event_of y.line) && (nat_lt y.tick e.tick && nat_le y.tick (last_by c k r))) xs some in
          let z = found.0 in
          let parts = and_parts (is_take g r i k (event_of z.line)) (nat_lt z.tick e.tick && nat_le z.tick (last_by c k r)) found.2 in
          let times = and_parts (nat_lt z.tick e.tick) (nat_le z.tick (last_by c k r)) parts.1 in
          let lt : z.tick < e.tick = ltb-true z.tick e.tick times.0 in
          let zp : phase (event_of z.line) ≡ 0 = phase_take g r i k (event_of z.line) parts.0 in
          let ep : phase (event_of e.line) ≡ 0 = phase_take g r i k (event_of e.line) is.takes in
          let whole = in_whole z xs found.1 in
          let inside : In z whole.0 older = earlier_is_older e z older whole.0 (reverse xs) facts.falling is.at whole.1 (omega (arith, lt, zp, ep)) in
          holds (λ y. is_take g r i k (event_of y.line) && nat_le y.tick (last_by c k r)) z older (member_of_in z whole.0 older inside)
          (and_from (is_take g r i k (event_of z.line)) (nat_le z.tick (last_by c k r)) parts.0 times.1)

      now : comes older g r k i e.tick (last_by c k r) ≡ true → in_time older g r k i ≡ true
      now some =
          let found = member_any (λ y. is_take g r i k (event_of y.line) && ((y.tick == e.tick) && nat_le y.tick (last_by c k r))) older some in
          let z = found.0 in
          let parts = and_parts (is_take g r i k (event_of z.line)) ((z.tick == e.tick) && nat_le z.tick (last_by c k r)) found.2 in
          holds (λ y. is_take g r i k (event_of y.line) && nat_le y.tick (last_by c k r)) z older found.1
          (and_from (is_take g r i k (event_of z.line)) (nat_le z.tick (last_by c k r)) parts.0 (and_parts (z.tick == e.tick) (nat_le z.tick (last_by c k r)) parts.1).1)

      back : (came xs g r k i e.tick (last_by c k r) || comes older g r k i e.tick (last_by c k r)) ≡ true → in_time older g r k i ≡ true
      back either = ⊎_elim earlier now (or_cases (came xs g r k i e.tick (last_by c k r)) (comes older g r k i e.tick (last_by c k r)) either)
