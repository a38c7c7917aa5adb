-- What a meter that is given a run notes, and what it says.
use Rattle.std.proofs.Common.{◌≡◌, ℕ, suc, ◌+◌, ◌^◌, ◌<◌, ◌≤◌, Bool, true, false, not, ◌&&◌, List, [], ◌∷◌, ◌++◌, length, refl, sym, ap, ◌∙◌, subst, ⊎_elim, arith}
use Rattle.std.specs.Prelude.{◌⊎◌, ◌==◌, nat_lt, if◌then◌else◌, filter, unwrap_or, Option, Some, None, is_some, Ok, Err}
use mathlib.Core.List.{reverse}
use Rattle.std.specs.List.{range_with_len}
use Rattle.std.proofs.Math.Bool.{and-false}
use Rattle.std.proofs.lemmas.Bool.{false≢true, and_from, and_parts, lt-ltb, le-ltb, leb-true, eqb-true, eq-eqb, cases_eq}
use Rattle.std.proofs.lemmas.Slice.Eq.{bytes_eq-Decides}
use Rattle.missing_round.specs.Masks.{Masks}
use Rattle.missing_round.specs.Sets.{is_member as is_in, less}
use Rattle.missing_round.proofs.SetLemmas.{is_member-filter, less-picked, filter-picked, none-picked}
use Rattle.group_plan.specs.declared.Kind.TheVariants.{Announcement}
use Rattle.group_plan.specs.declared.Tag.{Tag}
use Rattle.group_plan.specs.Plans.{PlanView, Group, size_or, size, is_member_of, is_member, members, floor_or, floor_of}
use Rattle.meter_core.specs.declared.Why.TheVariants.{OutOfPlan, SelfMissing, Thin, OtherSet}
use Rattle.meter_core.specs.declared.Heard.TheVariants as hears
use Rattle.meter_core.specs.Meters.{is_within, survivors}
use Rattle.event_schedule.specs.declared.Event.{Event}
use Rattle.event_schedule.specs.declared.Entry.{Entry}
use Rattle.event_schedule.specs.Events.{is_take, events_of}
use Rattle.event_schedule.specs.Tables.{Readings, reading_at}
use Rattle.event_schedule.specs.Schedule.{Shape, is_closed, is_reading_taken, is_announced, reaches_floor, missing}
use Rattle.event_schedule.specs.Transcript.{shape_of_readings, contents_of_tables}
use Rattle.event_schedule.proofs.ListLemmas.{and_last}
use Rattle.run_rows.specs.Ticks.{clock_of, IsRunPlan, tag_of}
use Rattle.run_rows.specs.Report.{comes_in_time}
use Rattle.run_rows.proofs.TickLemmas.{Stands, TickFacts, is_reading_taken-ticks}
use Rattle.meter_apart.specs.declared.answers.Noted.{Noted}
use Rattle.meter_apart.specs.declared.answers.Noted.TheVariants.{Read, Kept}
use Rattle.meter_apart.specs.declared.answers.ReadingRefusal.TheVariants as unread
use Rattle.meter_apart.specs.declared.answers.FrameRefusal.TheVariants as unanswered
use Rattle.meter_apart.specs.declared.part.Part.{Part}
use Rattle.meter_apart.specs.Journal.{marked, kept}
use Rattle.meter_apart.specs.Parts.{members_in, takes_part, is_to_me}
use Rattle.meter_apart.specs.Replies.{reading_frame, standing, said_after, is_first, refusal_by, refusal_of, heard_by, heard, said_to, is_answer, after_set}
use Rattle.meter_apart.proofs.JournalLemmas.{marked-nil, kept-nil, marked-read_same, marked-read_other, kept-read, marked-kept}
use Rattle.apart_courses.specs.Steps.{IsPartOf}
use Rattle.apart_courses.proofs.NotedLemmas.{kept_split}
use Rattle.apart_runs.specs.MeterRuns.{Asked, ToRead, ToHear, frame_said, says_to, after_asked, frame_for}
use Rattle.apart_runs.proofs.FrameLemmas.{whole_frame}

-- ---- sets

-- those that pass and those that don't are all
both_parts : (p : ℕ → Bool) (xs : List ℕ) → length (filter p xs) + length (filter (λ i. not (p i)) xs) ≡ length xs
both_parts p [] = refl
both_parts p (x ∷ xs) = by (p x) (both_parts p xs)
  where
    by : (b : Bool) → length (filter p xs) + length (filter (λ i. not (p i)) xs) ≡ length xs
        → length (if b then x ∷ filter p xs else filter p xs) + length (if not b then x ∷ filter (λ i. not (p i)) xs else filter (λ i. not (p i)) xs) ≡ length (x ∷ xs)
    by true is = omega (arith, is)
    by false is = omega (arith, is)

within : (plan : PlanView) (g r : ℕ) (t : ℕ → Bool) → is_within (filter (λ i. not (t i)) (members plan.groups g r)) (members plan.groups g r) ≡ true
within plan g r t =
    ap (λ l. length (less l (members plan.groups g r)) == 0) (filter-picked (is_member plan.groups g r) (λ i. not (t i)) 0 (size plan.groups g))
    ∙ ap (λ l. length l == 0) (less-picked (λ i. is_member plan.groups g r i && not (t i)) (is_member plan.groups g r) 0 (size plan.groups g)
    ∙ none-picked (λ i. (is_member plan.groups g r i && not (t i)) && not (is_member plan.groups g r i)) 0 (size plan.groups g) (λ i from to. never (is_member plan.groups g r i) (not (t i))))
  where
    never : (a b : Bool) → ((a && b) && not a) ≡ false
    never true true = refl
    never true false = refl
    never false b = refl

some_is : (o : Option ℕ) → is_some o ≡ true → (v : ℕ) × (o ≡ Some v)
some_is None is = absurd (false≢true is)
some_is (Some v) is = (v, refl)

nothing≢some : {A : Type 0} (v : A) → None ≡ Some v → ⊥
nothing≢some v is = false≢true (ap is_some is)

value_of : (v u : ℕ) → Some v ≡ Some u → v ≡ u
value_of v u is = ap (λ o. unwrap_or o 0) is

set_in : Option (List ℕ) → List ℕ
set_in None = []
set_in (Some set) = set

abbrev round_of : Noted → ℕ
round_of (Read r v) = r
round_of (Kept r set) = r

abbrev set_of : Noted → List ℕ
set_of (Read r v) = []
set_of (Kept r set) = set

module _ (plan : PlanView) (x : Readings) (m : Masks) (fate : ℕ → Tag → List ℕ) (xs : List Entry)
    (can : IsRunPlan (shape_of_readings plan.groups x) (clock_of plan)) (facts : TickFacts (shape_of_readings plan.groups x) (clock_of plan) fate (reverse xs))
    (small : (g r i : ℕ) → reading_at x g r i < 2 ^ 40) (part : Part) (is_part : IsPartOf plan part.group part.meter part) where
  abbrev s : Shape
  s = shape_of_readings plan.groups x

  abbrev past : List Event
  past = events_of (reverse xs)

  -- the missing set of a round of the meter's group
  abbrev pub lacks : ℕ → List ℕ
  lacks r = missing s part.group r past

  -- ---- the part of the plan

  pub members_are : (r : ℕ) → members_in part r ≡ members plan.groups part.group r
  members_are r = ap (λ (o : Option Group). filter (is_member_of o r) (range_with_len 0 (size_or o))) is_part.home

  takes : (r v : ℕ) → x part.group r part.meter ≡ Some v → takes_part part r ≡ true
  takes r v is =
      let at = can.places part.group r part.meter (ap is_some is) in
      and_from (nat_lt r part.home.rounds) (is_member part.home.groups 0 r part.meter)
      (ap (nat_lt r) is_part.rounds ∙ lt-ltb r plan.rounds at.1)
      (ap (λ (o : Option Group). is_member_of o r part.meter) is_part.home ∙ at.2)

  -- ---- what is noted before tick b: readings of the table, all that were due, and sets of the run

  pub record IsNoted (b : ℕ) (j : List Noted) : Type 0 where
    pub marks : (r v : ℕ) → marked j r ≡ Some v → x part.group r part.meter ≡ Some v
    pub due : (r v : ℕ) → r < b → x part.group r part.meter ≡ Some v → marked j r ≡ Some v
    pub sets : (r : ℕ) (set : List ℕ) → kept j r ≡ Some set → set ≡ lacks r

  pub noted_first : IsNoted 0 []
  noted_first = record {
    marks = λ r v is. absurd (nothing≢some v (marked-nil r ∙ is));
    due = λ r v lt is. absurd (omega (arith, lt));
    sets = λ r set is. absurd (nothing≢some set (kept-nil r ∙ is));
  }

  -- no reading is due
  pub noted_none : (t : ℕ) (j : List Noted) → x part.group t part.meter ≡ None → IsNoted t j → IsNoted (suc t) j
  noted_none t j none is = record {
    marks = is.marks;
    due = λ r v lt some. ⊎_elim
        (λ (here : r ≡ t). absurd (nothing≢some v (sym none ∙ ap (λ q. x part.group q part.meter) (sym here) ∙ some)))
        (λ (other : r ≡ t → ⊥). is.due r v (omega (arith, lt, other)) some)
        (cases_eq r t);
    sets = is.sets;
  }

  -- ---- what is said, and noted, of one line

  pub record Says (own : Masks) (b : ℕ) (j : List Noted) (a : Asked) : Type 0 where
    pub said : says_to part own j a ≡ frame_for part own a ∷ []
    pub noted : IsNoted b (after_asked part j a)

  -- the reading of the tick's round
  pub reads_so : (own : Masks) (t v : ℕ) (j : List Noted) → IsNoted t j → x part.group t part.meter ≡ Some v → Says own (suc t) j (ToRead t v)
  reads_so own t v j is value = by (marked j t) refl
    where
      stands_so : (o : Option ℕ) → standing part o t v ≡ Ok o
      stands_so o =
          ap (λ b. if b then if nat_lt v (2 ^ 40) then Ok o else Err unread.Range else Err unread.Round) (takes t v value)
          ∙ ap (λ b. if b then Ok o else Err unread.Range) (lt-ltb v (2 ^ 40) (subst (λ n. n < 2 ^ 40) (ap (λ o. unwrap_or o 0) value) (small part.group t part.meter)))

      also : (r u : ℕ) → r < suc t → x part.group r part.meter ≡ Some u → marked j t ≡ Some v → marked j r ≡ Some u
      also r u lt some here = ⊎_elim
          (λ (now : r ≡ t). ap (marked j) now ∙ here ∙ sym value ∙ ap (λ q. x part.group q part.meter) (sym now) ∙ some)
          (λ (other : r ≡ t → ⊥). is.due r u (omega (arith, lt, other)) some)
          (cases_eq r t)

      new_mark : (r u : ℕ) (b : Bool) → marked j t ≡ None → (t == r) ≡ b → marked (j ++ Read t v ∷ []) r ≡ Some u → x part.group r part.meter ≡ Some u
      new_mark r u true none here got =
          let at : t ≡ r = eqb-true t r here in
          ap (λ q. x part.group q part.meter) (sym at) ∙ value ∙ sym (marked-read_same j t v none) ∙ ap (marked (j ++ Read t v ∷ [])) at ∙ got
      new_mark r u false none other got = is.marks r u (sym (marked-read_other j t v r other) ∙ got)

      new_due : (r u : ℕ) (b : Bool) → marked j t ≡ None → (t == r) ≡ b → r < suc t → x part.group r part.meter ≡ Some u → marked (j ++ Read t v ∷ []) r ≡ Some u
      new_due r u true none here lt some =
          let at : t ≡ r = eqb-true t r here in
          ap (marked (j ++ Read t v ∷ [])) (sym at) ∙ marked-read_same j t v none ∙ sym value ∙ ap (λ q. x part.group q part.meter) at ∙ some
      new_due r u false none other lt some =
          let differs : r ≡ t → ⊥ = λ at. false≢true (sym other ∙ eq-eqb t r (sym at)) in
          marked-read_other j t v r other ∙ is.due r u (omega (arith, lt, differs)) some

      by : (o : Option ℕ) → marked j t ≡ o → Says own (suc t) j (ToRead t v)
      by None none = record {
        said = ap (λ o. frame_said (said_after part own (standing part o t v) t v)) none ∙ ap (λ e. frame_said (said_after part own e t v)) (stands_so None);
        noted = subst (IsNoted (suc t)) (sym (ap (λ o. if is_first (standing part o t v) then j ++ Read t v ∷ [] else j) none ∙ ap (λ e. if is_first e then j ++ Read t v ∷ [] else j) (stands_so None)))
            (record {
              marks = λ r u got. new_mark r u (t == r) none refl got;
              due = λ r u lt some. new_due r u (t == r) none refl lt some;
              sets = λ r set got. is.sets r set (sym (kept-read j t v r) ∙ got);
            });
      }
      by (Some u) some =
          let same : u ≡ v = value_of u v (sym (is.marks t u some) ∙ value) in
          record {
            said =
                ap (λ o. frame_said (said_after part own (standing part o t v) t v)) some
                ∙ ap (λ e. frame_said (said_after part own e t v)) (stands_so (Some u))
                ∙ ap (λ b. frame_said (if b then Ok (reading_frame part own t v) else Err unread.Twice)) (eq-eqb u v same);
            noted = subst (IsNoted (suc t)) (sym (ap (λ o. if is_first (standing part o t v) then j ++ Read t v ∷ [] else j) some ∙ ap (λ e. if is_first e then j ++ Read t v ∷ [] else j) (stands_so (Some u))))
                (record {
                  marks = is.marks;
                  due = λ r w lt got. also r w lt got (some ∙ ap Some same);
                  sets = is.sets;
                });
          }

  -- an announcement that is taken was sent to a survivor of an announced round
  pub record IsTold (r t : ℕ) : Type 0 where
    pub value : ℕ
    pub has : x part.group r part.meter ≡ Some value
    pub round : r < plan.rounds
    pub over : r < t
    pub announced : is_announced s part.group r past ≡ true
    pub survives : is_reading_taken s part.group r part.meter past ≡ true

  pub told_so : (r t : ℕ) → Stands (is_take part.group r part.meter Announcement) t (reverse xs) → IsTold r t
  told_so r t st =
      let from = facts.take_from part.group r part.meter Announcement t st in
      let made = facts.announcement_from part.group r part.meter from.sent from.send in
      let began : from.sent ≡ r + plan.w1 = facts.announcement_tick part.group r part.meter from.sent from.send in
      let arrives : from.sent + from.delay ≡ t = from.arrives in
      let some : 0 < from.delay = facts.positive from.sent from.delay (tag_of Announcement part.group r part.meter) from.member in
      let present = (and_parts (s.present part.group r part.meter) (comes_in_time (clock_of plan) fate part.group r part.meter)
      (sym (is_reading_taken-ticks s (clock_of plan) fate (reverse xs) facts part.group r part.meter) ∙ made.2)).0 in
      let found = some_is (x part.group r part.meter) present in
      record {
        value = found.0;
        has = found.1;
        round = (can.places part.group r part.meter present).1;
        over = omega (arith, began, arrives, some);
        announced = made.1;
        survives = made.2;
      }

  unrefused : (r t : ℕ) (j : List Noted) → IsNoted (suc t) j → IsTold r t → refusal_of part j r (lacks r) ≡ None
  unrefused r t j is told =
      let over : r < t = told.over in
      let mark : marked j r ≡ Some told.value = is.due r told.value (omega (arith, over)) told.has in
      let ms = members_in part r in
      let lacking : lacks r ≡ filter (λ i. not (is_reading_taken s part.group r i past)) (members plan.groups part.group r) = refl in
      let sum = both_parts (λ i. is_reading_taken s part.group r i past) (members plan.groups part.group r) in
      let floor_met : floor_of plan.groups part.group ≤ length (filter (λ i. is_reading_taken s part.group r i past) (members plan.groups part.group r))
      = leb-true (floor_of plan.groups part.group) (length (filter (λ i. is_reading_taken s part.group r i past) (members plan.groups part.group r)))
      (and_last (is_closed part.group r past) (reaches_floor s part.group r past) told.announced) in
      ap (λ b. if b then refusal_by part (marked j r) r (lacks r) else Some OutOfPlan) (ap (nat_lt r) is_part.rounds ∙ lt-ltb r plan.rounds told.round)
      ∙ ap (λ o. refusal_by part o r (lacks r)) mark
      ∙ ap (λ (l : List ℕ). if not (is_within (lacks r) l) then Some OutOfPlan else if is_in part.meter (lacks r) then Some SelfMissing
      else if nat_lt (survivors l (lacks r)) (floor_of part.home.groups 0) then Some (Thin (survivors l (lacks r))) else None) (members_are r)
      ∙ ap (λ b. if not b then Some OutOfPlan else if is_in part.meter (lacks r) then Some SelfMissing
      else if nat_lt (survivors (members plan.groups part.group r) (lacks r)) (floor_of part.home.groups 0) then Some (Thin (survivors (members plan.groups part.group r) (lacks r))) else None)
      (within plan part.group r (λ i. is_reading_taken s part.group r i past))
      ∙ ap (λ b. if b then Some SelfMissing
      else if nat_lt (survivors (members plan.groups part.group r) (lacks r)) (floor_of part.home.groups 0) then Some (Thin (survivors (members plan.groups part.group r) (lacks r))) else None)
      (is_member-filter (λ i. not (is_reading_taken s part.group r i past)) part.meter (members plan.groups part.group r)
      ∙ ap (λ b. is_in part.meter (members plan.groups part.group r) && not b) told.survives ∙ and-false (is_in part.meter (members plan.groups part.group r)))
      ∙ ap (λ n. if nat_lt (survivors (members plan.groups part.group r) (lacks r)) n then Some (Thin (survivors (members plan.groups part.group r) (lacks r))) else None) (ap floor_or is_part.home)
      ∙ ap (λ b. if b then Some (Thin (survivors (members plan.groups part.group r) (lacks r))) else None)
      (le-ltb (survivors (members plan.groups part.group r) (lacks r)) (floor_of plan.groups part.group) (omega (arith, sum, floor_met)))

  -- an announcement that reaches the meter
  pub hears_so : (own : Masks) (r t : ℕ) (j : List Noted) → IsNoted (suc t) j → Stands (is_take part.group r part.meter Announcement) t (reverse xs)
      → Says own (suc t) j (ToHear (whole_frame s (contents_of_tables plan.groups x m) past (tag_of Announcement part.group r part.meter)))
  hears_so own r t j is st = by (kept j r) refl
    where
      mine : is_to_me part (tag_of Announcement part.group r part.meter) ≡ true
      mine = and_from ((part.group == part.group) && (part.meter == part.meter)) true (and_from (part.group == part.group) (part.meter == part.meter) (eq-eqb part.group part.group refl) (eq-eqb part.meter part.meter refl)) refl

      fine : refusal_of part j r (lacks r) ≡ None
      fine = unrefused r t j is (told_so r t st)

      new_set : (q : ℕ) (set : List ℕ) → (kept j q ≡ Some set) ⊎ (Kept r (lacks r) ≡ Kept q set) → set ≡ lacks q
      new_set q set = ⊎_elim (λ old. is.sets q set old) (λ now. sym (ap set_of now) ∙ ap lacks (ap round_of now))

      by : (o : Option (List ℕ)) → kept j r ≡ o → Says own (suc t) j (ToHear (whole_frame s (contents_of_tables plan.groups x m) past (tag_of Announcement part.group r part.meter)))
      by None none =
          let says : heard part j r (lacks r) ≡ hears.Answer = ap (λ w. heard_by w (kept j r) (lacks r)) fine ∙ ap (λ o. heard_by None o (lacks r)) none in
          record {
            said = ap (λ b. frame_said (if b then said_to part own (heard part j r (lacks r)) r (lacks r) else Err unanswered.Tag)) mine
                ∙ ap (λ h. frame_said (said_to part own h r (lacks r))) says;
            noted = subst (IsNoted (suc t)) (sym (ap (λ b. if b then after_set part j r (lacks r) else j) mine ∙ ap (λ h. if is_answer h then j ++ Kept r (lacks r) ∷ [] else j) says))
                (record {
                  marks = λ q v got. is.marks q v (sym (marked-kept j r (lacks r) q) ∙ got);
                  due = λ q v lt some. marked-kept j r (lacks r) q ∙ is.due q v lt some;
                  sets = λ q set got. new_set q set (kept_split j (Kept r (lacks r)) q set got);
                });
          }
      by (Some before) some =
          let same : before ≡ lacks r = is.sets r before some in
          let says : heard part j r (lacks r) ≡ hears.AnswerAgain
          = ap (λ w. heard_by w (kept j r) (lacks r)) fine ∙ ap (λ o. heard_by None o (lacks r)) some
          ∙ ap (λ b. if b then hears.AnswerAgain else hears.Refused (OtherSet before)) ((bytes_eq-Decides before (lacks r)).1 same) in
          record {
            said = ap (λ b. frame_said (if b then said_to part own (heard part j r (lacks r)) r (lacks r) else Err unanswered.Tag)) mine
                ∙ ap (λ h. frame_said (said_to part own h r (lacks r))) says;
            noted = subst (IsNoted (suc t)) (sym (ap (λ b. if b then after_set part j r (lacks r) else j) mine ∙ ap (λ h. if is_answer h then j ++ Kept r (lacks r) ∷ [] else j) says)) is;
          }
