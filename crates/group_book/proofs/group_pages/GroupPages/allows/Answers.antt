use Rattle.std.proofs.Common.{ap, sym, ◌∙◌, refl, Bool}
use Rattle.std.specs.Prelude.{◌&&◌}
use Rattle.missing_round.specs.Sets.{is_member}
use Rattle.group_book.specs.Replay.{book_at}
use Rattle.group_book.proofs.PlaceLemmas.{in_group}
use Rattle.group_book.proofs.GroupLemmas.{page_of, taken_who}
use Rattle.group_book.proofs.CallLemmas.{may_announce_now, may_answer_now}
use Rattle.group_book.proofs.group_pages.GroupPages.allows.Goals as goal

pub returns-then-is_some : goal.returns-then-is_some
returns-then-is_some c = λ j rep.
    let p = c.args.presence.now in
    let tag = c.args.tag in
    let is = page_of p j c.args.self.now tag.group tag.round c.page-page.result.now rep c.requires.own (in_group c.args.self.now tag c.requires.held).0 c.page-page.ensures in
    ap (λ q. q && c.has-then-is_some.result) (sym c.if-is_some.true)
    ∙ may_announce_now (book_at p j 0) tag c.page-page.result.now _ _ _ _ c.in-Announcement.is is (taken_who p j tag.group tag.round c.page-page.result.now rep.ledger is)
    c.announced.ensures c.is_some.ensures c.survivors.ensures c.has-then-is_some.ensures

pub returns-else-is_some : goal.returns-else-is_some
returns-else-is_some c = λ j rep.
    let p = c.args.presence.now in
    let tag = c.args.tag in
    let is = page_of p j c.args.self.now tag.group tag.round c.page-page.result.now rep c.requires.own (in_group c.args.self.now tag c.requires.held).0 c.page-page.ensures in
    let taken : Bool = is_member tag.meter c.page-page.result.now.round.taken in
    c.if-is_some.false ∙ ap (λ q. q && taken) (sym c.if-is_some.false)
    ∙ may_announce_now (book_at p j 0) tag c.page-page.result.now _ _ taken c.page-page.result.now.round.taken c.in-Announcement.is is (taken_who p j tag.group tag.round c.page-page.result.now rep.ledger is)
    c.announced.ensures c.is_some.ensures refl refl

pub returns-in-Answer : goal.returns-in-Answer
returns-in-Answer c = λ j rep.
    let p = c.args.presence.now in
    let tag = c.args.tag in
    let is = page_of p j c.args.self.now tag.group tag.round c.page.result.now rep c.requires.own (in_group c.args.self.now tag c.requires.held).0 c.page.ensures in
    may_answer_now (book_at p j 0) tag c.page.result.now _ c.in-Answer.is (taken_who p j tag.group tag.round c.page.result.now rep.ledger is) c.is_told.ensures
