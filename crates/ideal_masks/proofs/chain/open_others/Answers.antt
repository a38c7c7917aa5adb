use Rattle.std.proofs.Common.{◌∙◌, sym}
use Rattle.group_book.specs.Books.{shape_of, past}
use Rattle.ideal_masks.specs.Pools.{pool_of}
use Rattle.ideal_masks.proofs.AgreementLemmas.{open-if, not_open, sets-same, sets-differ}
use Rattle.ideal_masks.proofs.chain.open_others.Goals as goal

pub returns-then-ne : goal.returns-then-ne
returns-then-ne c =
    let b = c.args.book.now in
    let chain = c.in-Some.ensures in
    not_open (pool_of c.args.known.now) (shape_of b) c.args.group c.args.round (past b)
    (λ same. sets-differ c.in-Some.chain.answered c.in-Some.chain.others (sym c.if-ne.ensures) (chain.answered ∙ same ∙ sym chain.others))

pub returns : goal.returns
returns c =
    let b = c.args.book.now in
    let chain = c.in-Some.ensures in (
      open-if (pool_of c.args.known.now) (shape_of b) c.args.group c.args.round (past b) chain.announced (sym chain.answered ∙ sets-same c.in-Some.chain.answered c.in-Some.chain.others (sym c.if-ne.ensures) ∙ chain.others),
      chain.others,
    )
