use Rattle.std.proofs.Common.{ap, ◌∙◌, length}
use Rattle.std.specs.Prelude.{◌==◌}
use Rattle.missing_round.specs.Sets.{is_member}
use Rattle.sparse_masks.proofs.RoundLemmas.{none-left}
use Rattle.sparse_masks.proofs.round.Round.is_opened.Goals as goal

pub returns : goal.returns
returns c =
    ap (λ n. n == 0) (c.len.ensures ∙ ap length c.minus.ensures) ∙ none-left (λ i. is_member i c.args.self.now.answered) c.args.component
