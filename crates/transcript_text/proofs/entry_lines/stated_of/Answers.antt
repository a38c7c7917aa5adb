use Rattle.std.proofs.Common.{sym, ap, ◌∙◌, ◌+◌, arith}
use Rattle.transcript_text.proofs.LineNumbers.{one_stated, none_stated}
use Rattle.transcript_text.proofs.entry_lines.stated_of.Goals.{then-is_stated, else-is_stated}
use Rattle.transcript_text.proofs.entry_lines.stated_of.Goals as goal

pub loop-meter-preserved : goal.loop-meter-preserved
loop-meter-preserved c =
    let few = c.loop-meter.invariant.few in
    elim c.if-is_stated.branch [
      | then-is_stated w ↦ record {
        spans = w.stated-is ∙ ap (λ n. n + 1) c.loop-meter.invariant.spans ∙ sym (one_stated c.args.plan.now c.args.group c.loop-meter.meter (sym c.is_stated.ensures ∙ w.if-is_stated.true));
        few = let is = w.stated-is in omega (arith, few, is);
      }
      | else-is_stated w ↦ record {
        spans = w.stated-is ∙ c.loop-meter.invariant.spans ∙ sym (none_stated c.args.plan.now c.args.group c.loop-meter.meter (sym c.is_stated.ensures ∙ w.if-is_stated.false));
        few = let is = w.stated-is in omega (arith, few, is);
      }
    ]
