use Rattle.std.proofs.Common.{Ok, Err, subst}
use Rattle.apart_roles.specs.HeadEndStarts.{HeadEndStarts, IfHeadEndReady}
use Rattle.role_commands.proofs.FaultLemmas.{head_end_fault, head_end_ready, head_end_unread}
use Rattle.role_commands.proofs.ToldLemmas.{told_not_started, told_rose}
use Rattle.role_commands.proofs.collecting.start.Goals as goal

pub returns-in-Ok-Ready-clause-calm : goal.returns-in-Ok-Ready-clause-calm
returns-in-Ok-Ready-clause-calm g c =
    let came = c.in-Ok-Ready in
    let x = g.W.Wire.view c.args.wire.now in
    let y = g.W.Wire.view c.start_head_end.new.wire in
    head_end_ready c.args.plan.now c.args.journal.now x y came.head (subst (λ s. IfHeadEndReady (Ok s)) came.field-0-is came.ensures.ready)
    (subst (λ s. HeadEndStarts c.args.plan.now c.args.journal.now x y (Ok s)) came.field-0-is came.ensures.starts)

pub returns-in-Ok-Unreadable-clause-cause : goal.returns-in-Ok-Unreadable-clause-cause
returns-in-Ok-Unreadable-clause-cause g c fault =
    let came = c.in-Ok-Unreadable in
    let x = g.W.Wire.view c.args.wire.now in
    let y = g.W.Wire.view c.start_head_end.new.wire in
    head_end_unread c.args.plan.now c.args.journal.now x y (subst (λ s. HeadEndStarts c.args.plan.now c.args.journal.now x y (Ok s)) came.field-0-is came.ensures.starts)

pub returns-in-Err-clause-ends : goal.returns-in-Err-clause-ends
returns-in-Err-clause-ends g c =
    told_not_started c.args.journal.now (HeadEndStarts c.args.plan.now c.args.journal.now (g.W.Wire.view c.args.wire.now) (g.W.Wire.view c.start_head_end.new.wire)) c.in-Err.error c.stopped.result
    c.stopped.ensures c.in-Err.ensures.starts

pub returns-in-Err-clause-cause : goal.returns-in-Err-clause-cause
returns-in-Err-clause-cause g c fault =
    told_rose c.args.journal.now c.in-Err.error c.stopped.result (g.W.Wire.view c.args.wire.now) (g.W.Wire.view c.start_head_end.new.wire) c.stopped.ensures
    (head_end_fault c.args.plan.now c.args.journal.now (g.W.Wire.view c.args.wire.now) (g.W.Wire.view c.start_head_end.new.wire) c.in-Err.error c.in-Err.ensures.starts) fault
