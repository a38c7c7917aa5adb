use Rattle.std.proofs.Common.{sym, subst}
use Rattle.group_book.specs.Books.{IsAnnounced}
use Rattle.group_book.specs.Replay.{book_at}
use Rattle.group_book.proofs.CallLemmas.{other_set_now}
use Rattle.group_book.proofs.group_pages.GroupPages.other_set.Goals as goal

pub returns : goal.returns
returns c = λ p j rep may.
    let tag = c.args.frame.now.tag in
    other_set_now (book_at p j 0) c.args.frame.now _ _ may
    (subst (λ g. IsAnnounced (book_at p j 0) g tag.round c.announced-announced.result) (sym c.requires.own) (c.announced-announced.ensures p j rep)) c.other_set.ensures
