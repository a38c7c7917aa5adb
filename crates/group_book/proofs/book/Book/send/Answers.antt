use Rattle.std.specs.List.{All}
use Rattle.event_schedule.specs.Events.{event_of}
use Rattle.event_schedule.specs.ByGroup.{group_of}
use Rattle.std.proofs.Common.{◌≡◌, ◌<◌, refl, length, ap, sym, ◌∙◌, subst}
use Rattle.group_plan.specs.Plans.{is_place}
use Rattle.group_book.specs.Books.{SendEnds}
use Rattle.group_book.specs.Replay.{IsGroup, PagesEnd, book_at}
use Rattle.group_book.proofs.BookLemmas.{group_at, place_group, groups_after, came_to}
use Rattle.group_book.proofs.book.Book.send.Goals as goal

inside : (c : goal.After-self-1) → c.args.frame.tag.group < length c.self.inside.presence.plan.groups
inside c =
    let tag = c.args.frame.tag in
    place_group c.self.inside.presence.plan tag
    (ap (λ b. is_place b.presence.plan tag.group tag.round tag.meter) c.self.view_is ∙ ap (λ q. is_place q tag.group tag.round tag.meter) (sym c.plan.ensures) ∙ sym c.holds.ensures ∙ c.if-not-holds.false)

found : (c : goal.After-self-1) → IsGroup c.self.inside.presence c.self.inside.journal.items c.args.frame.tag.group c.index_mut.result.now
found c = group_at _ _ _ _ _ c.self.invariant (inside c) c.index_mut.ensures.value

ended : (c : goal.After-self-1)
    → PagesEnd c.self.inside.presence c.self.inside.journal.items (λ b d. SendEnds b c.args.frame c.send.result d) c.self.inside.journal c.index_mut.result.now.group c.send.new.self c.send.new.lines
ended c = c.send.ensures _ (found c).replays

pub invariant_of-self : goal.invariant_of-self
invariant_of-self c =
    groups_after _ _ _ (ended c).added _ _ _ c.self.invariant (inside c) ((ended c).group ∙ (found c).group) (ended c).pages
    (subst (λ n. All (λ l. group_of (event_of l) ≡ n) (ended c).added) (found c).group (ended c).own) (ended c).lines

pub returns : goal.returns
returns c = subst (λ b. SendEnds b c.args.frame c.send.result (book_at c.self.inside.presence c.send.new.lines.items c.send.new.lines.spare)) c.self.view_is (came_to _ _ _ _ _ _ _ (ended c) refl)
