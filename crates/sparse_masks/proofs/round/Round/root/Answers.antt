use Rattle.std.proofs.Common.{ap, ◌∙◌}
use Rattle.std.specs.Prelude.{unwrap_or, slice_get}
use Rattle.missing_round.specs.Sets.{is_member}
use Rattle.sparse_masks.proofs.ForestLemmas.{root_in}
use Rattle.sparse_masks.proofs.TreeLoops.{root-is}
use Rattle.sparse_masks.proofs.round.Round.root.Goals as goal

pub returns : goal.returns
returns c =
    let b = c.args.self.now.answered in
    root-is b c.args.members c.args.meter c.unwrap_or-least.result c.unwrap_or.result
    (c.unwrap_or-least.ensures ∙ ap (λ o. unwrap_or o c.args.meter) c.nth.ensures)
    (c.unwrap_or.ensures ∙ ap (λ o. unwrap_or o c.unwrap_or-least.result) (c.nth-2.ensures ∙ ap (λ l. slice_get l 0) c.minus-silent.ensures))
    ∙ ap (λ l. root_in (λ i. is_member i b) l c.args.meter) c.requires
