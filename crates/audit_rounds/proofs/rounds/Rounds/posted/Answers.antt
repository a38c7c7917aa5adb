use Rattle.std.proofs.Common.{◌≡◌, false, ap, sym, ◌∙◌}
use Rattle.group_plan.specs.Plans.{is_place}
use Rattle.group_book.specs.Books.{posted_of, was_sent}
use Rattle.group_book.proofs.GroupLemmas.{none_outside, unsent_outside}
use Rattle.audit_rounds.proofs.rounds.Rounds.posted.Goals as goal

pub returns-then-not-holds : goal.returns-then-not-holds
returns-then-not-holds c =
    let tag = c.args.tag in
    let outside : is_place c.self.inside.presence.plan tag.group tag.round tag.meter ≡ false
    = ap (λ q. is_place q tag.group tag.round tag.meter) (sym c.plan.ensures.plan) ∙ sym c.holds.ensures ∙ c.if-not-holds.true in (
      sym (ap (λ b. posted_of b tag) c.self.view_is) ∙ none_outside _ _ tag.group tag.round tag.meter tag.kind c.self.invariant.ledger outside,
      sym (ap (λ b. was_sent b tag) c.self.view_is) ∙ unsent_outside _ _ tag.group tag.round tag.meter tag.kind c.self.invariant.ledger outside,
    )

pub returns : goal.returns
returns c = c.posted.ensures _ _ c.group.ensures.replays
