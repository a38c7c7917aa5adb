use Rattle.std.proofs.Common.{refl}
use Rattle.group_book.specs.Replay.{book_at}
use Rattle.group_book.proofs.GroupLemmas.{page_of}
use Rattle.group_book.proofs.CallLemmas.{announced_now}
use Rattle.group_book.proofs.group_pages.GroupPages.announced.Goals as goal

pub returns : goal.returns
returns c = λ p j rep.
    announced_now (book_at p j 0) c.args.self.now.group c.args.round c.page.result.now _
    (page_of p j c.args.self.now c.args.self.now.group c.args.round c.page.result.now rep refl c.requires.round c.page.ensures) c.announced.ensures
