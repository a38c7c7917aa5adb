use Rattle.std.proofs.Common.{◌≡◌, ◌+◌, ◌<◌, ◌≤◌, length, take, sym, ap, ◌∙◌, arith}
use Rattle.std.specs.List.{count_by}
use Rattle.std.proofs.lemmas.List.Sums.{count_by_more_yes, count_by_more_no}
use Rattle.round_machine.specs.declared.Closing.TheVariants.{Already}
use Rattle.event_schedule.specs.declared.Line.{Line}
use Rattle.event_schedule.specs.declared.Line.TheVariants.{Close}
use Rattle.run_rows.specs.Summary.{is_sending, is_taking}
use Rattle.totals_report.proofs.counts.count_lines.Goals.{then-is_sending, else-is_sending, then-is_taking, else-is_taking}
use Rattle.totals_report.proofs.counts.count_lines.Goals as goal

pub loop-at-preserved : goal.loop-at-preserved
loop-at-preserved c =
    let lines = c.args.lines.now.items in
    let at = c.loop-at.at in
    let within : at < length lines = omega (arith, c.loop-at-test.true, c.len-at-end.ensures.len) in
    let other : Line = Close 0 0 Already in
    let sending = c.is_sending.ensures other in
    let taking = c.is_taking.ensures other in
    let sends : (c.if-is_sending.sends ≡ count_by is_sending (take (at + 1) lines)) × (c.if-is_sending.sends ≤ at + 1) =
    elim c.if-is_sending.branch [
      | then-is_sending w ↦ (
        w.sends-is ∙ ap (λ n. n + 1) c.loop-at.invariant.sends ∙ sym (count_by_more_yes is_sending lines at other within (sym sending ∙ w.if-is_sending.true)),
        omega (arith, w.sends-is, c.loop-at.invariant.few_sends),
      )
      | else-is_sending w ↦ (
        w.sends-is ∙ c.loop-at.invariant.sends ∙ sym (count_by_more_no is_sending lines at other within (sym sending ∙ w.if-is_sending.false)),
        omega (arith, w.sends-is, c.loop-at.invariant.few_sends),
      )
    ] in
    let takes : (c.if-is_taking.takes ≡ count_by is_taking (take (at + 1) lines)) × (c.if-is_taking.takes ≤ at + 1) =
    elim c.if-is_taking.branch [
      | then-is_taking w ↦ (
        w.takes-is ∙ ap (λ n. n + 1) c.loop-at.invariant.takes ∙ sym (count_by_more_yes is_taking lines at other within (sym taking ∙ w.if-is_taking.true)),
        omega (arith, w.takes-is, c.loop-at.invariant.few_takes),
      )
      | else-is_taking w ↦ (
        w.takes-is ∙ c.loop-at.invariant.takes ∙ sym (count_by_more_no is_taking lines at other within (sym taking ∙ w.if-is_taking.false)),
        omega (arith, w.takes-is, c.loop-at.invariant.few_takes),
      )
    ] in
    record { sends = sends.0; takes = takes.0; few_sends = sends.1; few_takes = takes.1 }
