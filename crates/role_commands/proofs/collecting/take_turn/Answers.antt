use Rattle.std.proofs.Common.{refl, inl, inr, ◌∙◌}
use Rattle.command_words.specs.Commands.{collect_names_of}
use Rattle.role_commands.specs.CollectEnds.{due_steps}
use Rattle.role_commands.proofs.FaultLemmas.{done_same, quiet_due, run_fault, run_same, stops_fault, from_same}
use Rattle.role_commands.proofs.ToldLemmas.{told_rose}
use Rattle.role_commands.proofs.CourseLemmas.{due_stopped, journal_behind, lines_stopped, report_stopped, turn_taken}
use Rattle.role_commands.proofs.collecting.take_turn.Goals as goal

pub returns-in-Err-clause-ends : goal.returns-in-Err-clause-ends
returns-in-Err-clause-ends g c plan journal after =
    let v = g.D.Desk.view c.args.desk.now in
    lines_stopped plan (collect_names_of c.args.files) journal v v (g.W.Wire.view c.args.wire.now) (g.W.Wire.view c.run_head_end.new.wire) c.in-Err.error c.stopped.result c.run_head_end.new.head refl
    c.stopped.ensures (c.in-Err.ensures.runs plan journal after)

pub returns-in-Err-clause-cause : goal.returns-in-Err-clause-cause
returns-in-Err-clause-cause g c fault =
    let plan = c.args.head.now.plan in
    let x = g.W.Wire.view c.args.wire.now in
    let y = g.W.Wire.view c.run_head_end.new.wire in
    inr (told_rose c.args.files.journal.now c.in-Err.error c.stopped.result x y c.stopped.ensures
    (run_fault plan c.requires.journal c.in-Err.error x y (c.in-Err.ensures.runs plan c.requires.journal (record { plan_is = refl; after = c.requires.after }))) fault)

pub returns-in-Err-put_report-clause-ends : goal.returns-in-Err-put_report-clause-ends
returns-in-Err-put_report-clause-ends g c plan journal after =
    let run = c.in-Ok.ensures.runs plan journal after in
    let x = g.W.Wire.view c.args.wire.now in
    let m = g.W.Wire.view c.run_head_end.new.wire in
    let next = journal_behind plan journal x m c.in-Ok.pause c.run_head_end.new.head run in
    report_stopped plan (collect_names_of c.args.files) journal (g.D.Desk.view c.args.desk.now) (g.D.Desk.view c.put_report.new.desk) x m c.in-Ok.pause c.in-Err-put_report.outcome c.run_head_end.new.head run
    (c.in-Err-put_report.ensures.ends plan next run.heard.after)

pub returns-in-Err-put_report-clause-cause : goal.returns-in-Err-put_report-clause-cause
returns-in-Err-put_report-clause-cause g c fault = inl (c.in-Err-put_report.ensures.cause fault)

pub returns-in-Ok-say_due-clause-ends : goal.returns-in-Ok-say_due-clause-ends
returns-in-Ok-say_due-clause-ends g c plan journal after =
    let run = c.in-Ok.ensures.runs plan journal after in
    let x = g.W.Wire.view c.args.wire.now in
    let m = g.W.Wire.view c.run_head_end.new.wire in
    let next = journal_behind plan journal x m c.in-Ok.pause c.run_head_end.new.head run in
    turn_taken plan (collect_names_of c.args.files) journal (g.D.Desk.view c.args.desk.now) (g.D.Desk.view c.put_report.new.desk) x m (g.W.Wire.view c.say_due.new.wire) c.in-Ok.pause c.run_head_end.new.head run
    (c.in-Ok-put_report.ensures.ends plan next run.heard.after) (c.in-Ok-say_due.ensures plan next run.heard.after)

pub returns-in-Ok-say_due-clause-calm : goal.returns-in-Ok-say_due-clause-calm
returns-in-Ok-say_due-clause-calm g c =
    let plan = c.args.head.now.plan in
    let x = g.W.Wire.view c.args.wire.now in
    let m = g.W.Wire.view c.run_head_end.new.wire in
    let run = c.in-Ok.ensures.runs plan c.requires.journal (record { plan_is = refl; after = c.requires.after }) in
    let next = journal_behind plan c.requires.journal x m c.in-Ok.pause c.run_head_end.new.head run in
    done_same m (g.W.Wire.view c.say_due.new.wire) (due_steps plan next c.in-Ok.pause) (quiet_due plan next c.in-Ok.pause) (c.in-Ok-say_due.ensures plan next run.heard.after)
    ∙ run_same plan c.requires.journal x m c.in-Ok.pause c.run_head_end.new.head run

pub returns-in-Err-say_due-clause-ends : goal.returns-in-Err-say_due-clause-ends
returns-in-Err-say_due-clause-ends g c plan journal after =
    let run = c.in-Ok.ensures.runs plan journal after in
    let x = g.W.Wire.view c.args.wire.now in
    let m = g.W.Wire.view c.run_head_end.new.wire in
    let next = journal_behind plan journal x m c.in-Ok.pause c.run_head_end.new.head run in
    due_stopped plan (collect_names_of c.args.files) journal (g.D.Desk.view c.args.desk.now) (g.D.Desk.view c.put_report.new.desk) x m (g.W.Wire.view c.say_due.new.wire) c.in-Ok.pause c.in-Err-say_due.error
    c.stopped-in-Err-say_due.result c.run_head_end.new.head run (c.in-Ok-put_report.ensures.ends plan next run.heard.after) c.stopped-in-Err-say_due.ensures (c.in-Err-say_due.ensures plan next run.heard.after)

pub returns-in-Err-say_due-clause-cause : goal.returns-in-Err-say_due-clause-cause
returns-in-Err-say_due-clause-cause g c fault =
    let plan = c.args.head.now.plan in
    let x = g.W.Wire.view c.args.wire.now in
    let m = g.W.Wire.view c.run_head_end.new.wire in
    let y = g.W.Wire.view c.say_due.new.wire in
    let run = c.in-Ok.ensures.runs plan c.requires.journal (record { plan_is = refl; after = c.requires.after }) in
    let next = journal_behind plan c.requires.journal x m c.in-Ok.pause c.run_head_end.new.head run in
    let cause = c.in-Err-say_due.error in
    inr (told_rose c.args.files.journal.now cause c.stopped-in-Err-say_due.result x y c.stopped-in-Err-say_due.ensures
    (from_same cause x m y (run_same plan c.requires.journal x m c.in-Ok.pause c.run_head_end.new.head run)
    (stops_fault cause (due_steps plan next c.in-Ok.pause) m y (quiet_due plan next c.in-Ok.pause) (c.in-Err-say_due.ensures plan next run.heard.after))) fault)
