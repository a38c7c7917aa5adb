use Rattle.std.proofs.Common.{ap, ◌∙◌}
use Rattle.run_rows.specs.Report.{row, fate_at}
use Rattle.run_rows.proofs.FateLemmas.{rows_by_posts}
use Rattle.run_rows.proofs.PostLemmas.{posts_are}
use Rattle.run_rows.proofs.laws.rows.Goals as goal

pub returns : goal.returns
returns c = λ s c slots entries total plan delays run g r g_in r_in.
    rows_by_posts s c slots entries plan delays run total g r g_in r_in
    ∙ ap (λ p. row s c (fate_at p) total g r) (posts_are s c slots entries plan delays run)
