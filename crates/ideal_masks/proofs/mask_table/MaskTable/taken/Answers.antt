use Rattle.std.proofs.Common.{sym, subst}
use Rattle.ideal_masks.specs.KeptMasks.{KeepsMasks}
use Rattle.ideal_masks.proofs.KeptLemmas.{made-keeps, made-words}
use Rattle.ideal_masks.proofs.mask_table.MaskTable.taken.Goals as goal

pub invariant_of-result : goal.invariant_of-result
invariant_of-result g c =
    subst (λ plan. KeepsMasks plan c.in_ok-all_words.field-0.items) (sym c.in_ok-try_copy.ensures)
    (made-keeps c.args.plan.now (g.M.Masks.table c.args.masks.now) c.in_ok-all_words.field-0.items c.all_words.ensures.limits c.in_ok-all_words.ensures.words c.in_ok-all_words.ensures.small)

pub returns-clause-words : goal.returns-clause-words
returns-clause-words g c =
    made-words c.args.plan.now (g.M.Masks.table c.args.masks.now) c.in_ok-all_words.field-0.items c.all_words.ensures.limits c.in_ok-all_words.ensures.words c.in_ok-all_words.ensures.small
