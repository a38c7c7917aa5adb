use Rattle.std.proofs.Common.{◌≡◌, false, sym, subst, ◌∙◌}
use Rattle.group_plan.specs.Plans.{is_place}
use Rattle.group_book.specs.Books.{IsAnnounced}
use Rattle.group_book.specs.Replay.{book_at}
use Rattle.group_book.proofs.GroupLemmas.{place-held, none_outside, unsent_outside}
use Rattle.group_book.proofs.CallLemmas.{posted_now}
use Rattle.group_book.proofs.group_pages.GroupPages.posted.Goals as goal

pub returns-then-not-holds : goal.returns-then-not-holds
returns-then-not-holds c = λ p j rep.
    let tag = c.args.tag in
    let outside : is_place p.plan tag.group tag.round tag.meter ≡ false = place-held p j c.args.self.now tag rep c.requires.own ∙ sym c.holds.ensures ∙ c.if-not-holds.true in (
      none_outside p j tag.group tag.round tag.meter tag.kind rep.ledger outside,
      unsent_outside p j tag.group tag.round tag.meter tag.kind rep.ledger outside,
    )

pub returns : goal.returns
returns c = λ p j rep.
    posted_now (book_at p j 0) c.args.tag _ _ c.announced.result (c.in_ok-word.ensures p j rep)
    (subst (λ g. IsAnnounced (book_at p j 0) g c.args.tag.round c.announced.result) (sym c.requires.own) (c.announced.ensures p j rep)) c.set_carried-missing.ensures
