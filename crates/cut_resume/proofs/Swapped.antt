-- Two events next to each other that are apart: whichever is first, the schedule says the same of each round, and each event has the same line.
use Rattle.std.proofs.Common.{◌≡◌, ◌⊎◌, ℕ, Bool, true, false, not, ◌&&◌, ◌||◌, List, [], ◌∷◌, ◌++◌, length, refl, sym, ap, ◌∙◌, subst, inl, inr}
use Rattle.std.specs.Prelude.{◌==◌, nat_le, if◌then◌else◌, None, Some}
use Rattle.std.specs.List.{filter, list_all}
use mathlib.Core.Path.{fun_ext}
use Rattle.std.proofs.lemmas.Bool.{true≢false, cases_Bool, eq-eqb, eqb-true, and_from}
use Rattle.group_plan.specs.declared.Kind.{Kind}
use Rattle.group_plan.specs.declared.Kind.TheVariants.{Reading, Announcement, Answer}
use Rattle.group_plan.specs.declared.Tag.{Tag}
use Rattle.round_machine.specs.declared.Verdict.TheVariants.{Fresh, Again, Late, Void}
use Rattle.round_machine.specs.declared.Closing.TheVariants.{Announced, Thin as ThinClosing, Already as AlreadyClosed}
use Rattle.round_machine.specs.declared.Ending.TheVariants.{Total, Lacking, Thin, Already, NotClosed}
use Rattle.meter_frames.specs.declared.Frame.{Frame}
use Rattle.event_schedule.specs.declared.Event.{Event}
use Rattle.event_schedule.specs.declared.Event.TheVariants.{Send, Take, Close, End}
use Rattle.event_schedule.specs.declared.Line.TheVariants.{Send as SendLine, Take as TakeLine, Close as CloseLine, End as EndLine}
use Rattle.event_schedule.specs.Events.{once, is_tag, is_send, is_take, is_close, is_end}
use Rattle.event_schedule.specs.Schedule.{Shape, members_of, floor_of, is_closed, is_reading_sent, is_reading_taken, survivors, missing, reaches_floor, is_announced, may_announce, is_announcement_sent, is_announcement_taken, is_answer_sent, is_ended, is_answer_taken, all_taken, lacking, may_send, is_sent, is_taken, is_late, verdict, verdict_by_table, closing}
use Rattle.event_schedule.specs.Transcript.{Contents, line, lines_after, set_sent, word_sent, frame, ending}
use Rattle.event_schedule.proofs.EventLemmas.{is_send-itself, is_send-true}
use Rattle.event_schedule.proofs.VerdictLemmas.{verdict-table}
use Rattle.cut_resume.specs.Order.{are_apart}

-- ---- apart, the other way round

pub same_pair : (g r h q : ℕ) → ((g == h) && (r == q)) ≡ true → (g ≡ h) × (r ≡ q)
same_pair g r h q is = (eqb-true g h (first (g == h) (r == q) is), eqb-true r q (last (g == h) (r == q) is))
  where
    first : (x y : Bool) → (x && y) ≡ true → x ≡ true
    first true y is = refl
    first false y is = is

    last : (x y : Bool) → (x && y) ≡ true → y ≡ true
    last true y is = is
    last false y is = absurd (true≢false (sym is))

itself : (g r : ℕ) → ((g == g) && (r == r)) ≡ true
itself g r = and_from (g == g) (r == r) (eq-eqb g g refl) (eq-eqb r r refl)

-- a test that fails where another fails does
fails : (x y : Bool) → (x ≡ true → y ≡ true) → not y ≡ true → x ≡ false
fails false y gives fail = refl
fails true y gives fail = absurd (true≢false (sym fail ∙ ap not (gives refl)))

not_back : (x : Bool) → x ≡ false → not x ≡ true
not_back x is = ap not is

other_round : (g r h q : ℕ) → not ((g == h) && (r == q)) ≡ true → ((g == h) && (r == q)) ≡ false
other_round g r h q apart = fails ((g == h) && (r == q)) ((g == h) && (r == q)) (λ is. is) apart

turned_round : (g r h q : ℕ) → not ((g == h) && (r == q)) ≡ true → ((h == g) && (q == r)) ≡ false
turned_round g r h q apart =
    fails ((h == g) && (q == r)) ((g == h) && (r == q))
    (λ is. let both = same_pair h q g r is in and_from (g == h) (r == q) (eq-eqb g h (sym both.0)) (eq-eqb r q (sym both.1))) apart

other_tag : (x y : Tag) → not (is_tag x.group x.round x.meter x.kind y) ≡ true → is_tag x.group x.round x.meter x.kind y ≡ false
other_tag x y apart = fails (is_tag x.group x.round x.meter x.kind y) (is_tag x.group x.round x.meter x.kind y) (λ is. is) apart

sent_tag : Event → Tag → Tag
sent_tag (Send tag) d = tag
sent_tag _ d = d

pub same_tag : (x y : Tag) → is_tag x.group x.round x.meter x.kind y ≡ true → y ≡ x
unfolding sent_tag
same_tag x y is = ap (λ e. sent_tag e x) (is_send-true x.group x.round x.meter x.kind (Send y) is)

turned_tag : (x y : Tag) → not (is_tag x.group x.round x.meter x.kind y) ≡ true → is_tag y.group y.round y.meter y.kind x ≡ false
turned_tag x y apart =
    fails (is_tag y.group y.round y.meter y.kind x) (is_tag x.group x.round x.meter x.kind y)
    (λ is. subst (λ z. is_tag x.group x.round x.meter x.kind z ≡ true) (same_tag y x is) (is_send-itself x.group x.round x.meter x.kind)) apart

pub apart_turned : (a b : Event) → are_apart a b ≡ true → are_apart b a ≡ true
apart_turned (Take x) (Take y) apart = not_back (is_tag y.group y.round y.meter y.kind x) (turned_tag x y apart)
apart_turned (Take x) (Send y) apart = apart
apart_turned (Take x) (Close h q) apart = apart
apart_turned (Take x) (End h q) apart = apart
apart_turned (Send x) (Take y) apart = apart
apart_turned (Send x) (Send y) apart = apart
apart_turned (Send x) (Close h q) apart = apart
apart_turned (Send x) (End h q) apart = apart
apart_turned (Close g r) (Take y) apart = apart
apart_turned (Close g r) (Send y) apart = apart
apart_turned (Close g r) (Close h q) apart = not_back ((h == g) && (q == r)) (turned_round g r h q apart)
apart_turned (Close g r) (End h q) apart = not_back ((h == g) && (q == r)) (turned_round g r h q apart)
apart_turned (End g r) (Take y) apart = apart
apart_turned (End g r) (Send y) apart = apart
apart_turned (End g r) (Close h q) apart = not_back ((h == g) && (q == r)) (turned_round g r h q apart)
apart_turned (End g r) (End h q) apart = not_back ((h == g) && (q == r)) (turned_round g r h q apart)

-- ---- an event says nothing of another one

-- event b means after event a what it means before it
pub record IsQuiet (s : Shape) (before : List Event) (a b : Event) : Type 0 where
  pub reading : (g r i : ℕ) → (is_take g r i Reading b && is_reading_sent s g r i (a ∷ before) && not (is_closed g r (a ∷ before)))
      ≡ (is_take g r i Reading b && is_reading_sent s g r i before && not (is_closed g r before))
  pub announced : (g r i : ℕ) → (is_send g r i Announcement b && may_announce s g r i (a ∷ before)) ≡ (is_send g r i Announcement b && may_announce s g r i before)
  pub announcement : (g r i : ℕ) → (is_take g r i Announcement b && is_announcement_sent s g r i (a ∷ before)) ≡ (is_take g r i Announcement b && is_announcement_sent s g r i before)
  pub answered : (g r i : ℕ) → (is_send g r i Answer b && is_announcement_taken s g r i (a ∷ before)) ≡ (is_send g r i Answer b && is_announcement_taken s g r i before)
  pub ended : (g r : ℕ) → (is_end g r b && is_closed g r (a ∷ before)) ≡ (is_end g r b && is_closed g r before)
  pub answer : (g r i : ℕ) → (is_take g r i Answer b && is_answer_sent s g r i (a ∷ before) && not (is_ended g r (a ∷ before)))
      ≡ (is_take g r i Answer b && is_answer_sent s g r i before && not (is_ended g r before))
  pub says : (c : Contents) → line s c (a ∷ before) b ≡ line s c before b

-- of the verdict of a Take, a Take of another tag says nothing
table_same : (s : Shape) (k : Kind) (g r i : ℕ) (x : Tag) (before : List Event) → is_tag g r i k x ≡ false
    → verdict_by_table s k g r i (Take x ∷ before) ≡ verdict_by_table s k g r i before
unfolding once
table_same s Reading g r i x before other =
    ap (λ z. if not (is_reading_sent s g r i before) then Void else if (z && is_reading_sent s g r i before && not (is_closed g r before)) || is_reading_taken s g r i before then Again else if is_closed g r before then Late else Fresh) other
table_same s Announcement g r i x before other =
    ap (λ z. if not (is_announcement_sent s g r i before) then Void else if (z && is_announcement_sent s g r i before) || is_announcement_taken s g r i before then Again else if false then Late else Fresh) other
table_same s Answer g r i x before other =
    ap (λ z. if not (is_answer_sent s g r i before) then Void else if (z && is_answer_sent s g r i before && not (is_ended g r before)) || is_answer_taken s g r i before then Again else if is_ended g r before then Late else Fresh) other

-- an End of a round and a Close of another one
no_close : (h q g r g' r' : ℕ) (z : Bool) → ((g' == h) && (r' == q)) ≡ false → (((h == g) && (q == r)) && (((g' == g) && (r' == r)) || z)) ≡ (((h == g) && (q == r)) && z)
no_close h q g r g' r' z other = by_round (cases_Bool ((h == g) && (q == r)))
  where
    by_round : (((h == g) && (q == r)) ≡ true) ⊎ (((h == g) && (q == r)) ≡ false) → (((h == g) && (q == r)) && (((g' == g) && (r' == r)) || z)) ≡ (((h == g) && (q == r)) && z)
    by_round (inr off) = ap (λ t. t && (((g' == g) && (r' == r)) || z)) off ∙ sym (ap (λ t. t && z) off)
    by_round (inl here) =
        let both = same_pair h q g r here in
        ap (λ t. ((h == g) && (q == r)) && (t || z)) (subst (λ a. ((g' == a) && (r' == r)) ≡ false) both.0 (subst (λ b. ((g' == h) && (r' == b)) ≡ false) both.1 other))

pub quiet : (s : Shape) (before : List Event) (a b : Event) → are_apart a b ≡ true → IsQuiet s before a b
unfolding once
quiet s before (Take x) (Take y) apart = record {
  reading = λ g r i. refl;
  announced = λ g r i. refl;
  announcement = λ g r i. refl;
  answered = λ g r i. refl;
  ended = λ g r. refl;
  answer = λ g r i. refl;
  says = λ c. ap (TakeLine y) (verdict-table s y.kind y.group y.round y.meter (Take x ∷ before) ∙ table_same s y.kind y.group y.round y.meter x before (turned_tag x y apart) ∙ sym (verdict-table s y.kind y.group y.round y.meter before));
}
quiet s before (Close g' r') (Close h q) apart = record {
  reading = λ g r i. refl;
  announced = λ g r i. refl;
  announcement = λ g r i. refl;
  answered = λ g r i. refl;
  ended = λ g r. refl;
  answer = λ g r i. refl;
  says = λ c. ap (λ z. CloseLine h q (if z || is_closed h q before then AlreadyClosed else if reaches_floor s h q before then Announced (missing s h q before) else ThinClosing (missing s h q before))) (other_round g' r' h q apart);
}
quiet s before (Close g' r') (End h q) apart = record {
  reading = λ g r i. refl;
  announced = λ g r i. refl;
  announcement = λ g r i. refl;
  answered = λ g r i. refl;
  ended = λ g r. no_close h q g r g' r' (is_closed g r before) (other_round g' r' h q apart);
  answer = λ g r i. refl;
  says = λ c. ap (λ z. EndLine h q (
      if not (z || is_closed h q before) then NotClosed else
      if is_ended h q before then Already else
      if not ((z || is_closed h q before) && reaches_floor s h q before) then Thin else
      if all_taken s h q before then Total (c.total h q (survivors s h q before)) else Lacking (lacking s h q before))) (other_round g' r' h q apart);
}
quiet s before (End g' r') (Close h q) apart = record {
  reading = λ g r i. refl;
  announced = λ g r i. refl;
  announcement = λ g r i. refl;
  answered = λ g r i. refl;
  ended = λ g r. refl;
  answer = λ g r i. refl;
  says = λ c. refl;
}
quiet s before (End g' r') (End h q) apart = record {
  reading = λ g r i. refl;
  announced = λ g r i. refl;
  announcement = λ g r i. refl;
  answered = λ g r i. refl;
  ended = λ g r. refl;
  answer = λ g r i. refl;
  says = λ c. ap (λ z. EndLine h q (
      if not (is_closed h q before) then NotClosed else
      if (z && is_closed h q before) || is_ended h q before then Already else
      if not (is_closed h q before && reaches_floor s h q before) then Thin else
      if all_taken s h q before then Total (c.total h q (survivors s h q before)) else Lacking (lacking s h q before))) (other_round g' r' h q apart);
}
quiet s before (Take x) (Send y) apart = absurd (true≢false (sym apart))
quiet s before (Take x) (Close h q) apart = absurd (true≢false (sym apart))
quiet s before (Take x) (End h q) apart = absurd (true≢false (sym apart))
quiet s before (Send x) (Take y) apart = absurd (true≢false (sym apart))
quiet s before (Send x) (Send y) apart = absurd (true≢false (sym apart))
quiet s before (Send x) (Close h q) apart = absurd (true≢false (sym apart))
quiet s before (Send x) (End h q) apart = absurd (true≢false (sym apart))
quiet s before (Close g' r') (Take y) apart = absurd (true≢false (sym apart))
quiet s before (Close g' r') (Send y) apart = absurd (true≢false (sym apart))
quiet s before (End g' r') (Take y) apart = absurd (true≢false (sym apart))
quiet s before (End g' r') (Send y) apart = absurd (true≢false (sym apart))

-- ---- what comes later says the same, whichever was first

once-swap : (test : Event → List Event → Bool) (a b : Event) (before : List Event)
    → ((e : Event) (later : List Event) → test e (later ++ b ∷ a ∷ before) ≡ test e (later ++ a ∷ b ∷ before))
    → test b (a ∷ before) ≡ test b before → test a (b ∷ before) ≡ test a before
    → (later : List Event) → once test (later ++ b ∷ a ∷ before) ≡ once test (later ++ a ∷ b ∷ before)
unfolding once
once-swap test a b before same first second [] =
    ap (λ q. q || (test a before || once test before)) first ∙ turn (test b before) (test a before) (once test before)
    ∙ sym (ap (λ q. q || (test b before || once test before)) second)
  where
    turn : (x y z : Bool) → (x || (y || z)) ≡ (y || (x || z))
    turn true true z = refl
    turn true false z = refl
    turn false true z = refl
    turn false false z = refl
once-swap test a b before same first second (e ∷ later) =
    ap (λ q. q || once test (later ++ b ∷ a ∷ before)) (same e later)
    ∙ ap (λ q. test e (later ++ a ∷ b ∷ before) || q) (once-swap test a b before same first second later)

module _ (s : Shape) (before : List Event) (a b : Event) (apart : are_apart a b ≡ true) where
  ab : IsQuiet s before a b
  ab = quiet s before a b apart

  ba : IsQuiet s before b a
  ba = quiet s before b a (apart_turned a b apart)

  abbrev one : List Event → List Event
  one later = later ++ b ∷ a ∷ before

  abbrev other : List Event → List Event
  other later = later ++ a ∷ b ∷ before

  closed : (g r : ℕ) (later : List Event) → is_closed g r (one later) ≡ is_closed g r (other later)
  closed g r later = once-swap (λ e p. is_close g r e) a b before (λ e l. refl) refl refl later

  reading_sent : (g r i : ℕ) (later : List Event) → is_reading_sent s g r i (one later) ≡ is_reading_sent s g r i (other later)
  reading_sent g r i later = once-swap (λ e p. is_send g r i Reading e && s.present g r i) a b before (λ e l. refl) refl refl later

  reading_taken : (g r i : ℕ) (later : List Event) → is_reading_taken s g r i (one later) ≡ is_reading_taken s g r i (other later)
  reading_taken g r i later =
      once-swap (λ e p. is_take g r i Reading e && is_reading_sent s g r i p && not (is_closed g r p)) a b before
      (λ e l. ap (λ q. is_take g r i Reading e && q && not (is_closed g r (one l))) (reading_sent g r i l)
      ∙ ap (λ q. is_take g r i Reading e && is_reading_sent s g r i (other l) && not q) (closed g r l))
      (ab.reading g r i) (ba.reading g r i) later

  pub survivors-swap : (g r : ℕ) (later : List Event) → survivors s g r (one later) ≡ survivors s g r (other later)
  survivors-swap g r later = ap (λ t. filter t (members_of s g r)) (fun_ext (λ i. reading_taken g r i later))

  pub missing-swap : (g r : ℕ) (later : List Event) → missing s g r (one later) ≡ missing s g r (other later)
  missing-swap g r later = ap (λ t. filter t (members_of s g r)) (fun_ext (λ i. ap not (reading_taken g r i later)))

  reaches : (g r : ℕ) (later : List Event) → reaches_floor s g r (one later) ≡ reaches_floor s g r (other later)
  reaches g r later = ap (λ l. nat_le (floor_of s g) (length l)) (survivors-swap g r later)

  pub announced-swap : (g r : ℕ) (later : List Event) → is_announced s g r (one later) ≡ is_announced s g r (other later)
  announced-swap g r later = ap (λ q. q && reaches_floor s g r (one later)) (closed g r later) ∙ ap (λ q. is_closed g r (other later) && q) (reaches g r later)

  may_be_announced : (g r i : ℕ) (later : List Event) → may_announce s g r i (one later) ≡ may_announce s g r i (other later)
  may_be_announced g r i later =
      ap (λ q. q && is_reading_taken s g r i (one later)) (announced-swap g r later) ∙ ap (λ q. is_announced s g r (other later) && q) (reading_taken g r i later)

  announcement_sent : (g r i : ℕ) (later : List Event) → is_announcement_sent s g r i (one later) ≡ is_announcement_sent s g r i (other later)
  announcement_sent g r i later =
      once-swap (λ e p. is_send g r i Announcement e && may_announce s g r i p) a b before
      (λ e l. ap (λ q. is_send g r i Announcement e && q) (may_be_announced g r i l)) (ab.announced g r i) (ba.announced g r i) later

  announcement_taken : (g r i : ℕ) (later : List Event) → is_announcement_taken s g r i (one later) ≡ is_announcement_taken s g r i (other later)
  announcement_taken g r i later =
      once-swap (λ e p. is_take g r i Announcement e && is_announcement_sent s g r i p) a b before
      (λ e l. ap (λ q. is_take g r i Announcement e && q) (announcement_sent g r i l)) (ab.announcement g r i) (ba.announcement g r i) later

  answer_sent : (g r i : ℕ) (later : List Event) → is_answer_sent s g r i (one later) ≡ is_answer_sent s g r i (other later)
  answer_sent g r i later =
      once-swap (λ e p. is_send g r i Answer e && is_announcement_taken s g r i p) a b before
      (λ e l. ap (λ q. is_send g r i Answer e && q) (announcement_taken g r i l)) (ab.answered g r i) (ba.answered g r i) later

  ended : (g r : ℕ) (later : List Event) → is_ended g r (one later) ≡ is_ended g r (other later)
  ended g r later =
      once-swap (λ e p. is_end g r e && is_closed g r p) a b before
      (λ e l. ap (λ q. is_end g r e && q) (closed g r l)) (ab.ended g r) (ba.ended g r) later

  answer_taken : (g r i : ℕ) (later : List Event) → is_answer_taken s g r i (one later) ≡ is_answer_taken s g r i (other later)
  answer_taken g r i later =
      once-swap (λ e p. is_take g r i Answer e && is_answer_sent s g r i p && not (is_ended g r p)) a b before
      (λ e l. ap (λ q. is_take g r i Answer e && q && not (is_ended g r (one l))) (answer_sent g r i l)
      ∙ ap (λ q. is_take g r i Answer e && is_answer_sent s g r i (other l) && not q) (ended g r l))
      (ab.answer g r i) (ba.answer g r i) later

  all_answers : (g r : ℕ) (later : List Event) → all_taken s g r (one later) ≡ all_taken s g r (other later)
  all_answers g r later =
      ap (list_all (λ i. is_answer_taken s g r i (one later))) (survivors-swap g r later)
      ∙ ap (λ t. list_all t (survivors s g r (other later))) (fun_ext (λ i. answer_taken g r i later))

  lacks : (g r : ℕ) (later : List Event) → lacking s g r (one later) ≡ lacking s g r (other later)
  lacks g r later =
      ap (filter (λ i. not (is_answer_taken s g r i (one later)))) (survivors-swap g r later)
      ∙ ap (λ t. filter t (survivors s g r (other later))) (fun_ext (λ i. ap not (answer_taken g r i later)))

  -- ---- by kind

  pub may_send-swap : (k : Kind) (g r i : ℕ) (later : List Event) → may_send s k g r i (one later) ≡ may_send s k g r i (other later)
  may_send-swap Reading g r i later = refl
  may_send-swap Announcement g r i later = may_be_announced g r i later
  may_send-swap Answer g r i later = announcement_taken g r i later

  pub sent-swap : (k : Kind) (g r i : ℕ) (later : List Event) → is_sent s k g r i (one later) ≡ is_sent s k g r i (other later)
  sent-swap Reading g r i later = reading_sent g r i later
  sent-swap Announcement g r i later = announcement_sent g r i later
  sent-swap Answer g r i later = answer_sent g r i later

  pub taken-swap : (k : Kind) (g r i : ℕ) (later : List Event) → is_taken s k g r i (one later) ≡ is_taken s k g r i (other later)
  taken-swap Reading g r i later = reading_taken g r i later
  taken-swap Announcement g r i later = announcement_taken g r i later
  taken-swap Answer g r i later = answer_taken g r i later

  late : (k : Kind) (g r : ℕ) (later : List Event) → is_late k g r (one later) ≡ is_late k g r (other later)
  late Reading g r later = closed g r later
  late Announcement g r later = refl
  late Answer g r later = ended g r later

  pub set_sent-swap : (k : Kind) (g r : ℕ) (later : List Event) → set_sent s k g r (one later) ≡ set_sent s k g r (other later)
  set_sent-swap Reading g r later = refl
  set_sent-swap Announcement g r later = missing-swap g r later
  set_sent-swap Answer g r later = missing-swap g r later

  word : (c : Contents) (k : Kind) (g r i : ℕ) (later : List Event) → word_sent s c k g r i (one later) ≡ word_sent s c k g r i (other later)
  word c Reading g r i later = refl
  word c Announcement g r i later = refl
  word c Answer g r i later = ap (c.answer g r i) (missing-swap g r later)

  -- ---- lines

  pub verdict-swap : (k : Kind) (g r i : ℕ) (later : List Event) → verdict s k g r i (one later) ≡ verdict s k g r i (other later)
  verdict-swap k g r i later =
      verdict-table s k g r i (one later)
      ∙ ap (λ q. if not q then Void else if is_taken s k g r i (one later) then Again else if is_late k g r (one later) then Late else Fresh) (sent-swap k g r i later)
      ∙ ap (λ q. if not (is_sent s k g r i (other later)) then Void else if q then Again else if is_late k g r (one later) then Late else Fresh) (taken-swap k g r i later)
      ∙ ap (λ q. if not (is_sent s k g r i (other later)) then Void else if is_taken s k g r i (other later) then Again else if q then Late else Fresh) (late k g r later)
      ∙ sym (verdict-table s k g r i (other later))

  pub closing-swap : (g r : ℕ) (later : List Event) → closing s g r (one later) ≡ closing s g r (other later)
  closing-swap g r later =
      ap (λ q. if q then AlreadyClosed else if reaches_floor s g r (one later) then Announced (missing s g r (one later)) else ThinClosing (missing s g r (one later))) (closed g r later)
      ∙ ap (λ q. if is_closed g r (other later) then AlreadyClosed else if q then Announced (missing s g r (one later)) else ThinClosing (missing s g r (one later))) (reaches g r later)
      ∙ ap (λ set. if is_closed g r (other later) then AlreadyClosed else if reaches_floor s g r (other later) then Announced set else ThinClosing set) (missing-swap g r later)

  pub ending-swap : (c : Contents) (g r : ℕ) (later : List Event) → ending s c g r (one later) ≡ ending s c g r (other later)
  ending-swap c g r later =
      ap (λ q. if not q then NotClosed else if is_ended g r (one later) then Already else if not (is_announced s g r (one later)) then Thin else
      if all_taken s g r (one later) then Total (c.total g r (survivors s g r (one later))) else Lacking (lacking s g r (one later))) (closed g r later)
      ∙ ap (λ q. if not (is_closed g r (other later)) then NotClosed else if q then Already else if not (is_announced s g r (one later)) then Thin else
      if all_taken s g r (one later) then Total (c.total g r (survivors s g r (one later))) else Lacking (lacking s g r (one later))) (ended g r later)
      ∙ ap (λ q. if not (is_closed g r (other later)) then NotClosed else if is_ended g r (other later) then Already else if not q then Thin else
      if all_taken s g r (one later) then Total (c.total g r (survivors s g r (one later))) else Lacking (lacking s g r (one later))) (announced-swap g r later)
      ∙ ap (λ q. if not (is_closed g r (other later)) then NotClosed else if is_ended g r (other later) then Already else if not (is_announced s g r (other later)) then Thin else
      if q then Total (c.total g r (survivors s g r (one later))) else Lacking (lacking s g r (one later))) (all_answers g r later)
      ∙ ap (λ l. if not (is_closed g r (other later)) then NotClosed else if is_ended g r (other later) then Already else if not (is_announced s g r (other later)) then Thin else
      if all_taken s g r (other later) then Total (c.total g r l) else Lacking (lacking s g r (one later))) (survivors-swap g r later)
      ∙ ap (λ l. if not (is_closed g r (other later)) then NotClosed else if is_ended g r (other later) then Already else if not (is_announced s g r (other later)) then Thin else
      if all_taken s g r (other later) then Total (c.total g r (survivors s g r (other later))) else Lacking l) (lacks g r later)

  pub frame-swap : (c : Contents) (tag : Tag) (later : List Event) → frame s c tag (one later) ≡ frame s c tag (other later)
  frame-swap c tag later =
      ap (λ q. if q then Some (made (set_sent s tag.kind tag.group tag.round (one later)) (word_sent s c tag.kind tag.group tag.round tag.meter (one later))) else None)
      (may_send-swap tag.kind tag.group tag.round tag.meter later)
      ∙ ap (λ set. if may_send s tag.kind tag.group tag.round tag.meter (other later) then Some (made set (word_sent s c tag.kind tag.group tag.round tag.meter (one later))) else None)
      (set_sent-swap tag.kind tag.group tag.round later)
      ∙ ap (λ w. if may_send s tag.kind tag.group tag.round tag.meter (other later) then Some (made (set_sent s tag.kind tag.group tag.round (other later)) w) else None)
      (word c tag.kind tag.group tag.round tag.meter later)
    where
      made : List ℕ → ℕ → Frame
      made set w = record { tag = tag; missing = set; word = w }

  pub line-swap : (c : Contents) (e : Event) (later : List Event) → line s c (one later) e ≡ line s c (other later) e
  line-swap c (Send tag) later = ap (SendLine tag) (frame-swap c tag later)
  line-swap c (Take tag) later = ap (TakeLine tag) (verdict-swap tag.kind tag.group tag.round tag.meter later)
  line-swap c (Close g r) later = ap (CloseLine g r) (closing-swap g r later)
  line-swap c (End g r) later = ap (EndLine g r) (ending-swap c g r later)

  pub closed-swap : (g r : ℕ) (later : List Event) → is_closed g r (one later) ≡ is_closed g r (other later)
  closed-swap g r later = closed g r later

  pub ended-swap : (g r : ℕ) (later : List Event) → is_ended g r (one later) ≡ is_ended g r (other later)
  ended-swap g r later = ended g r later

  pub lines_after-swap : (c : Contents) (later events : List Event) → lines_after s c (one later) events ≡ lines_after s c (other later) events
  unfolding lines_after
  lines_after-swap c later [] = refl
  lines_after-swap c later (e ∷ events) =
      ap (λ l. l ∷ lines_after s c (e ∷ one later) events) (line-swap c e later) ∙ ap (λ ls. line s c (other later) e ∷ ls) (lines_after-swap c (e ∷ later) events)
