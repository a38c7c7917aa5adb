use Rattle.std.proofs.Common.{◌≡◌, ◌<◌, List, ◌++◌, length, ap, sym, ◌∙◌, subst}
use Rattle.std.specs.List.{All}
use Rattle.group_plan.specs.Plans.{is_place}
use Rattle.event_schedule.specs.declared.Line.{Line}
use Rattle.event_schedule.specs.Events.{event_of}
use Rattle.event_schedule.specs.ByGroup.{group_of}
use Rattle.group_book.specs.Books.{TakeEnds}
use Rattle.group_book.specs.Replay.{IsGroup, PagesEnd, book_at}
use Rattle.group_book.proofs.BookLemmas.{group_at, place_group, groups_after}
use Rattle.audit_rounds.specs.Told.{all_told}
use Rattle.audit_rounds.proofs.ToldLemmas.{lines_now, came_to}
use Rattle.audit_rounds.proofs.rounds.Rounds.take.Goals as goal

abbrev said : goal.After-self-1 → List Line
said c = all_told c.self.inside.told.items ++ c.self.inside.last.items

inside : (c : goal.After-self-1) → c.args.frame.now.tag.group < length c.self.inside.presence.plan.groups
inside c =
    let tag = c.args.frame.now.tag in
    place_group c.self.inside.presence.plan tag
    (ap (λ b. is_place b.presence.plan tag.group tag.round tag.meter) c.self.view_is ∙ ap (λ q. is_place q tag.group tag.round tag.meter) (sym c.plan.ensures) ∙ sym c.holds.ensures ∙ c.if-not-holds.false)

found : (c : goal.After-self-1) → IsGroup c.self.inside.presence (said c) c.args.frame.now.tag.group c.index_mut.result.now
found c = group_at _ _ _ _ _ c.self.invariant (inside c) c.index_mut.ensures.value

ended : (c : goal.After-self-1) → PagesEnd c.self.inside.presence (said c) (λ b d. TakeEnds b c.args.frame.now c.take.result d) c.self.inside.last c.index_mut.result.now.group c.take.new.self c.take.new.lines
ended c = c.take.ensures _ _ (found c).replays

pub invariant_of-self : goal.invariant_of-self
invariant_of-self c =
    groups_after _ _ _ (ended c).added _ _ _ c.self.invariant (inside c) ((ended c).group ∙ (found c).group) (ended c).pages
    (subst (λ n. All (λ l. group_of (event_of l) ≡ n) (ended c).added) (found c).group (ended c).own) (lines_now _ (all_told c.self.inside.told.items) _ _ _ _ _ (ended c))

pub returns : goal.returns
returns c =
    subst (λ b. TakeEnds b c.args.frame.now c.take.result (book_at c.self.inside.presence (all_told c.self.inside.told.items ++ c.take.new.lines.items) c.take.new.lines.spare)) c.self.view_is
    (came_to _ (all_told c.self.inside.told.items) _ _ _ _ _ (ended c))
