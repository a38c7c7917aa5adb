use Rattle.std.proofs.Common.{◌≡◌, ◌∙◌, ◌++◌, ◌/◌, ◌%◌, List, arith, ap, sym, subst, get_or, length}
use Rattle.group_plan.specs.Plans.{PlanView}
use Rattle.totals_report.specs.declared.row.ReportRow.{ReportRow}
use Rattle.event_schedule.specs.Events.{lines_of}
use Rattle.transcript_text.specs.Spelling.{ended}
use Rattle.register_words.specs.declared.row.SideRow.{SideRow}
use Rattle.register_words.specs.ReportParts.{KnowsFirsts}
use Rattle.register_words.specs.SideReports.{lines_from, register_heading, register_line, register_report}
use Rattle.register_words.proofs.ReportLemmas.{line_more, lines_end}
use Rattle.register_words.proofs.report.register_report.Goals as goal

pub loop-row-preserved : goal.loop-row-preserved
loop-row-preserved c =
    let plan = c.plan-plan.result.now in
    let ls = lines_of c.args.transcript.now.entries in
    let place = c.loop-row.invariant.place in
    let at = c.loop-row.at in
    let row = c.row-item.result in
    let lt = c.loop-row-test.true in
    let long = ap length c.rows-row-items.ensures in
    let is : row ≡ get_or c.args.report.now at row = c.row-item.is ∙ ap (λ (l : List ReportRow). get_or l c.loop-row.row-index row) c.rows-row-items.ensures ∙ ap (λ n. get_or c.args.report.now n row) (sym place) in
    let knows = subst (λ (p : PlanView). KnowsFirsts p ls c.in_ok-firsts.firsts) (sym c.plan-plan.ensures) c.in_ok-firsts.ensures in
    let added = c.in_ok-put_line.ensures ls knows
    ∙ ap (λ (s : List SideRow). c.loop-row.out.items ++ ended (register_line plan ls s (at / c.rounds.result) (at % c.rounds-in-loop-row.result) row)) c.rows.ensures
    ∙ ap (λ n. c.loop-row.out.items ++ ended (register_line plan ls c.args.words.now (at / n) (at % c.rounds-in-loop-row.result) row)) c.rounds.ensures.rounds
    ∙ ap (λ n. c.loop-row.out.items ++ ended (register_line plan ls c.args.words.now (at / plan.rounds) (at % n) row)) c.rounds-in-loop-row.ensures.rounds in
    record {
      place = omega (arith, place);
      lines = line_more plan ls c.args.words.now at c.args.report.now row c.loop-row.out.items c.put_line.new.out.items _ (omega (arith, lt, place, long)) is added c.loop-row.invariant.lines;
    }

pub returns : goal.returns
unfolding register_report
returns c =
    let plan = c.plan-plan.result.now in
    let ls = lines_of c.args.transcript.now.entries in
    let place = c.loop-row.invariant.place in
    let over = c.loop-row-test.false in
    let long = ap length c.rows-row-items.ensures in
    lines_end plan ls c.args.words.now c.loop-row.at c.args.report.now c.loop-row.out.items _ (omega (arith, over, place, long)) c.loop-row.invariant.lines
    ∙ ap (λ (p : PlanView). ended register_heading ++ lines_from p ls c.args.words.now 0 c.args.report.now) c.plan-plan.ensures
