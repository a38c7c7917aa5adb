use Rattle.std.proofs.Common.{ap, sym, subst, ◌∙◌}
use Rattle.group_book.specs.Groups.{holds}
use Rattle.group_book.specs.Replay.{Replays, book_at}
use Rattle.group_book.proofs.GroupLemmas.{word_of_tag}
use Rattle.group_book.proofs.CallLemmas.{word_now}
use Rattle.group_book.proofs.group_pages.GroupPages.word.Goals as goal

pub returns : goal.returns
returns c = λ p j rep.
    let tag = c.args.tag in
    let own = c.requires.own ∙ ap (λ v. v.group) (sym c.self.view_is) in
    word_now (book_at p j 0) tag _
    (word_of_tag p j _ tag _ _ (subst (Replays p j) (sym c.self.view_is) rep) own (ap (λ v. holds v tag) c.self.view_is ∙ c.requires.held) c.word_in.ensures c.get.ensures)
    (rep.ledger.framed tag.group tag.round tag.meter tag.kind)
