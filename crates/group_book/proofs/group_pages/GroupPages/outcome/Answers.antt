use Rattle.std.proofs.Common.{refl, ◌∙◌}
use Rattle.group_plan.specs.declared.Kind.TheVariants.{Reading}
use Rattle.group_book.proofs.PageLemmas.{state-is}
use Rattle.group_book.proofs.GroupLemmas.{page_of}
use Rattle.group_book.proofs.group_pages.GroupPages.outcome.Goals as goal

pub returns : goal.returns
returns c = λ p j rep.
    let page = page_of p j c.args.self.now c.args.self.now.group c.args.round c.page-page.result.now rep refl c.requires.round c.page-page.ensures in
    λ k. record {
      survivors = (c.survivors.ensures ∙ page.taken Reading) k;
      state = (c.state.ensures ∙ state-is _ _ _ _ _ page) k;
    }
