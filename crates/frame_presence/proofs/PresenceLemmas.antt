-- The presence of lines, noted from the last line to the first.
use Rattle.std.proofs.Common.{◌≡◌, ℕ, zero, suc, ◌-◌, ◌<◌, ◌≤◌, Bool, true, false, ◌&&◌, List, [], ◌∷◌, length, drop, refl, sym, ap, ◌∙◌, subst, arith, get_or}
use Rattle.std.specs.Prelude.{if◌then◌else◌, is_some, Option, None, Result, Ok, Err, IfOk}
use Rattle.std.proofs.lemmas.List.{drop_all}
use Rattle.meter_frames.specs.declared.Frame.{Frame}
use mathlib.Core.Path.{fun_ext}
use Rattle.std.proofs.Math.Bool.{and-false}
use Rattle.group_plan.specs.declared.Kind.TheVariants.{Reading}
use Rattle.group_plan.specs.Plans.{PlanView, is_member, is_place}
use Rattle.group_plan.specs.Tables.{ReadingsView, PresenceView, reading, presence_of, absent}
use Rattle.group_plan.proofs.TableLemmas.{is_present-map, entry-table_of, entry_outside, is_table-table_of}
use Rattle.event_schedule.specs.declared.Entry.{Entry}
use Rattle.event_schedule.specs.declared.Line.{Line}
use Rattle.event_schedule.specs.Events.{event_of, frame_of, is_send, lines_of}
use Rattle.event_schedule.specs.Frames.{first_frame, shape_of_lines}
use Rattle.event_schedule.specs.Transcript.{shape_of_readings}
use Rattle.frame_presence.specs.Presence.{IsPresenceOf, Notes, IsNoted}

-- where no line is noted no reading stands
pub noted_none : (plan : PlanView) → IsNoted plan [] (absent plan)
noted_none plan = record { plan_is = refl; present = λ g r i. by_place g r i (is_place plan g r i) refl ∙ sym (and-false (is_member plan.groups g r i)) }
  where
    by_place : (g r i : ℕ) (q : Bool) → is_place plan g r i ≡ q → is_some (reading (absent plan).table g r i) ≡ false
    by_place g r i true is = ap is_some (entry-table_of plan (λ g r i. None) None g r i is)
    by_place g r i false is = ap is_some (entry_outside plan (absent plan).table (is_table-table_of plan (λ g r i. None)) None g r i is)

-- one line more, before those that are noted
pub noted_more : (plan : PlanView) (l : Line) (ls : List Line) (old new : ReadingsView) → IsNoted plan ls old → Notes old l new → IsNoted plan (l ∷ ls) new
noted_more plan l ls old new noted notes = record {
  plan_is = notes.plan_stays ∙ noted.plan_is;
  present = λ g r i.
      notes.present g r i ∙ ap (λ p. if is_send g r i Reading (event_of l) then is_member p.groups g r i && is_some (frame_of l) else is_some (reading old.table g r i)) noted.plan_is
      ∙ ap (λ b. if is_send g r i Reading (event_of l) then is_member plan.groups g r i && is_some (frame_of l) else b) (noted.present g r i)
      ∙ inside (is_send g r i Reading (event_of l)) (is_member plan.groups g r i) (frame_of l) (first_frame g r i ls);
}
  where
    inside : (q m : Bool) (f h : Option Frame) → (if q then m && is_some f else m && is_some h) ≡ (m && is_some (if q then f else h))
    inside true m f h = refl
    inside false m f h = refl

-- the presence of what is noted
presence_is : (plan : PlanView) (ls : List Line) (readings : ReadingsView) (presence : PresenceView) → IsNoted plan ls readings → presence ≡ presence_of readings → IsPresenceOf plan ls presence
presence_is plan ls readings presence noted is = subst (IsPresenceOf plan ls) (sym is) (record {
  plan_is = noted.plan_is;
  shape_is = λ k. record {
    groups = (noted.plan_is k).groups;
    present = fun_ext (λ g. fun_ext (λ r. fun_ext (λ i. is_present-map readings.table g r i ∙ noted.present g r i))) k;
  };
})

-- the lines of an entry and those after it
lines_from : (entries : List Entry) (n : ℕ) (d : Entry) → n < length entries → lines_of (drop n entries) ≡ (get_or entries n d).line ∷ lines_of (drop (suc n) entries)
lines_from [] n d lt = absurd (omega (arith, lt))
lines_from (x ∷ entries) zero d lt = refl
lines_from (x ∷ entries) (suc n) d lt = lines_from entries n d (omega (arith, lt))

-- ---- in the loop, which goes from the last entry to the first

pub none_noted : (plan : PlanView) (entries : List Entry) (len : ℕ) (readings : ReadingsView) → len ≡ length entries → readings ≡ absent plan → IsNoted plan (lines_of (drop len entries)) readings
none_noted plan entries len readings long is =
    subst (λ es. IsNoted plan (lines_of es) readings) (sym (drop_all len entries (omega (arith, long)))) (subst (IsNoted plan []) (sym is) (noted_none plan))

pub next_noted : (plan : PlanView) (entries : List Entry) (at : ℕ) (e : Entry) (old new : ReadingsView) → 0 < at → at ≤ length entries → IsNoted plan (lines_of (drop at entries)) old
    → e ≡ get_or entries (at - 1) e → Notes old e.line new → IsNoted plan (lines_of (drop (at - 1) entries)) new
next_noted plan entries zero e old new some le noted here notes = absurd (omega (arith, some))
next_noted plan entries (suc n) e old new some le noted here notes =
    let before : suc n - 1 ≡ n = omega arith in
    let read : e ≡ get_or entries n e = rw before at here in
    subst (λ k. IsNoted plan (lines_of (drop k entries)) new) (sym before)
    (subst (λ ls. IsNoted plan ls new) (sym (lines_from entries n e (omega (arith, le)) ∙ ap (λ (x : Entry). x.line ∷ lines_of (drop (suc n) entries)) (sym read)))
    (noted_more plan e.line (lines_of (drop (suc n) entries)) old new noted notes))

pub all_noted : (plan : PlanView) (entries : List Entry) (at : ℕ) (readings : ReadingsView) → at ≤ 0 → IsNoted plan (lines_of (drop at entries)) readings → IsNoted plan (lines_of entries) readings
all_noted plan entries zero readings none noted = noted
all_noted plan entries (suc at) readings none noted = absurd (omega (arith, none))

-- ---- the two answers

pub presence_ends : {E : Type 0} (plan : PlanView) (ls : List Line) (readings : ReadingsView) (result : Result PresenceView E) → IsNoted plan ls readings
    → IfOk result (λ presence. presence ≡ presence_of readings) → IfOk result (IsPresenceOf plan ls)
presence_ends plan ls readings (Ok presence) noted is = presence_is plan ls readings presence noted is
presence_ends plan ls readings (Err e) noted is = tt

-- the table has the lines' own shape
pub shape_noted : (plan : PlanView) (ls : List Line) (x : ReadingsView) → IsNoted plan ls x → shape_of_readings x.plan.groups (reading x.table) ≡ shape_of_lines plan.groups ls
shape_noted plan ls x noted = λ k. record {
  groups = (noted.plan_is k).groups;
  present = fun_ext (λ g. fun_ext (λ r. fun_ext (λ i. noted.present g r i))) k;
}
