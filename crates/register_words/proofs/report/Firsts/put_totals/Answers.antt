use Rattle.std.proofs.Common.{◌∙◌, ◌++◌, ◌∷◌, [], ap, append_assoc, decimal}
use Rattle.std.specs.Prelude.{codes}
use Rattle.register_words.specs.SideReports.{side_total}
use Rattle.register_words.proofs.ReportLemmas.{totals_more}
use Rattle.register_words.proofs.report.Firsts.put_totals.Goals as goal

pub loop-at-preserved : goal.loop-at-preserved
loop-at-preserved c = λ ls knows.
    let out = c.loop-at.out.items in
    totals_more (side_total ls c.args.sides.now c.args.group c.args.round c.args.meters) c.loop-at.at c.args.out.now.items out c.put_number.new.out.items (c.loop-at.invariant ls knows)
    (c.in_ok-put_number.ensures.written ∙ ap (λ l. l ++ decimal c.total.result) c.in_ok-push.ensures.items ∙ append_assoc out (43 ∷ []) (decimal c.total.result)
    ∙ ap (λ t. out ++ (codes "+" ++ decimal t)) (c.total.ensures ls knows))
