use Rattle.std.proofs.Common.{◌∙◌, ◌+◌, ◌<◌, List, ℕ, Option, IsTrue, arith, ap, length, sym, subst, take}
use Rattle.group_plan.specs.Places.{places}
use Rattle.group_plan.specs.Plans.{PlanView, is_place}
use Rattle.event_schedule.specs.Events.{lines_of}
use Rattle.register_words.proofs.ReportLemmas.{Noted, entry_fits, line_noted, line_passed, next_line}
use Rattle.register_words.proofs.SideLemmas.{frame_fits}
use Rattle.register_words.proofs.report.first_rows.Goals as goal
use Rattle.register_words.proofs.report.first_rows.Goals.{in-Some, in_default}

pub note_frame-requires-clause-place : goal.note_frame-requires-clause-place
note_frame-requires-clause-place c =
    let t = c.args.transcript.now in
    let f = c.in-Some.frame in
    let lt = c.loop-at-test.true in
    let len = c.len-at-end.ensures.len in
    subst (λ (p : PlanView). IsTrue (is_place p f.tag.group f.tag.round f.tag.meter)) (sym c.plan-plan.ensures)
    (frame_fits t c.loop-at.at c.entry.result f c.len-at-end.ensures.sound (omega (arith, lt, len)) c.entry.ensures (sym c.side_frame.ensures ∙ c.in-Some.is)).place

pub note_frame-requires-clause-long : goal.note_frame-requires-clause-long
note_frame-requires-clause-long c = c.loop-at.invariant.1.firsts.long ∙ ap places (sym c.plan-plan.ensures)

pub loop-at-preserved : goal.loop-at-preserved
loop-at-preserved c =
    let t = c.args.transcript.now in
    let at = c.loop-at.at in
    let e = c.entry.result in
    let lt = c.loop-at-test.true in
    let len = c.len-at-end.ensures.len in
    let inside : at < length t.entries = omega (arith, lt, len) in
    let sound = c.len-at-end.ensures.sound in
    let next = next_line t.entries at e inside c.entry.ensures in
    let fits = entry_fits t at e sound inside c.entry.ensures in
    let ls = lines_of (take at t.entries) in
    let more = lines_of (take (at + 1) t.entries) in
    let le = c.loop-at.invariant.0 in
    let before = c.loop-at.invariant.1 in
    elim c.match-side_frame.branch [
      | in-Some w ↦
          let f = w.in-Some.frame in
          let some = sym c.side_frame.ensures ∙ w.in-Some.is in
          let place = (frame_fits t at e f sound inside c.entry.ensures some).place in
          let row = w.row-is in (
            omega (arith, row, le),
            line_noted t.plan c.plan-plan.result.now c.args.kind ls more e.fate e.line f c.loop-at.row c.match-side_frame.row c.loop-at.rows.items c.match-side_frame.rows.items c.plan-plan.ensures next fits some place row
                (ap (λ r. r.items) w.rows-is ∙ w.note_frame.ensures) before,
          )
      | in_default w ↦
          let none = sym c.side_frame.ensures ∙ w.in_default.is in
          let row = w.row-is in (
            omega (arith, row, le),
            subst (λ (n : ℕ). Noted t.plan c.args.kind more n c.match-side_frame.rows.items) (sym row)
                (subst (λ (kept : List (Option ℕ)). Noted t.plan c.args.kind more c.loop-at.row kept) (sym (ap (λ r. r.items) w.rows-is))
                (line_passed t.plan c.args.kind ls more e.fate e.line c.loop-at.row c.loop-at.rows.items next fits none c.requires before)),
          )
    ]
