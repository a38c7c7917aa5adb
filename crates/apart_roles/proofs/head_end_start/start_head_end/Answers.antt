use Rattle.std.proofs.Common.{rules, Ok, inr}
use Rattle.apart_lines.specs.Heads.{journal_head}
use Rattle.apart_roles.specs.declared.outcome.Start.TheVariants as starts
use Rattle.apart_roles.specs.HeadEndStarts.{HeadEndOpens, follow_logged}
use Rattle.apart_roles.specs.HeadEndTurns.{IsHeadEnd}
use Rattle.apart_roles.proofs.StartLemmas.{ready_has}
use Rattle.apart_roles.proofs.head_end_start.start_head_end.Goals as goal

pub returns-in-Err-welcome-clause-starts : goal.returns-in-Err-welcome-clause-starts
returns-in-Err-welcome-clause-starts g c =
    let plan = c.args.plan.now in
    let opens : HeadEndOpens plan c.args.name.now (g.W.Wire.view c.args.wire.now) (g.W.Wire.view c.open.new.wire) (Ok (starts.Ready c.in-Ok-Ready.head)) = search rules in
    let has = ready_has (follow_logged plan) (IsHeadEnd plan) c.args.name.now (journal_head plan) (g.W.Wire.view c.args.wire.now) (g.W.Wire.view c.open.new.wire) c.in-Ok-Ready.head opens in
    inr (record {
      head = c.in-Ok-Ready.head;
      view = g.W.Wire.view c.open.new.wire;
      opens = opens;
      stops = λ journal after. c.in-Err-welcome.ensures plan journal (record { plan_is = has.after.plan_is; after = after });
    })

pub returns-in-Ok-clause-ready : goal.returns-in-Ok-clause-ready
returns-in-Ok-clause-ready g c =
    let plan = c.args.plan.now in
    let opens : HeadEndOpens plan c.args.name.now (g.W.Wire.view c.args.wire.now) (g.W.Wire.view c.open.new.wire) (Ok (starts.Ready c.in-Ok-Ready.head)) = search rules in
    let has = ready_has (follow_logged plan) (IsHeadEnd plan) c.args.name.now (journal_head plan) (g.W.Wire.view c.args.wire.now) (g.W.Wire.view c.open.new.wire) c.in-Ok-Ready.head opens in
    record { journal = has.journal; after = has.after.after }
