use Rattle.std.proofs.Common.{◌∙◌, ◌==◌, ap, length}
use Rattle.plan_files.specs.KeptRows.{fields_in}
use Rattle.plan_files.proofs.KeptLemmas.{kept_long}
use Rattle.plan_files.proofs.row.is_long.Goals as goal

pub returns : goal.returns
returns c = ap (λ n. n == c.args.count) (c.len.ensures ∙ ap length c.requires.kept.kept) ∙ kept_long c.args.count (fields_in c.args.row.now) c.requires.few
