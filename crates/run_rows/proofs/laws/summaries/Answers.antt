use Rattle.std.proofs.Common.{ap, ◌∙◌}
use Rattle.run_rows.specs.Summary.{summary_of_posts}
use Rattle.run_rows.proofs.PostLemmas.{posts_are}
use Rattle.run_rows.proofs.SummaryLemmas.{summaries}
use Rattle.run_rows.proofs.laws.summaries.Goals as goal

pub returns : goal.returns
returns c = λ s c slots entries words plan delays run.
    summaries s c slots entries words plan delays run ∙ ap (summary_of_posts s c words.total) (posts_are s c slots entries plan delays run)
