use Rattle.std.proofs.Common.{◌∙◌, ap, sum_by, List, ℕ, Option, None}
use Rattle.std.specs.Prelude.{slice_index_or}
use Rattle.group_plan.specs.Places.{place_at}
use Rattle.missing_round.specs.Words.{word}
use Rattle.register_words.specs.ReportParts.{word_from}
use Rattle.register_words.proofs.ReportLemmas.{total_is}
use Rattle.register_words.proofs.report.Firsts.total.Goals as goal

pub returns : goal.returns
returns c = λ ls knows.
    let plan = c.args.plan.now in
    let sum : List (Option ℕ) → ℕ = λ kept. word (sum_by (λ i. word_from c.args.at c.args.sides.now (slice_index_or kept (place_at plan c.args.group c.args.round i) None)) c.args.meters) in
    c.value.ensures
    ∙ total_is plan ls c.args.self.now c.args.sides.now c.args.group c.args.round c.args.at c.sum_of-readings.result c.sum_of-answers.result c.sub.result c.args.meters c.requires.meters knows
    (c.sum_of-readings.ensures ∙ ap sum c.deref.ensures.value) (c.sum_of-answers.ensures ∙ ap sum c.deref-2.ensures.value) c.sub.ensures
