use Rattle.std.specs.List.{All}
use Rattle.event_schedule.specs.Events.{event_of}
use Rattle.event_schedule.specs.ByGroup.{group_of}
use Rattle.std.proofs.Common.{◌≡◌, ◌<◌, ℕ, refl, length, ap, ◌∙◌, subst}
use Rattle.group_book.specs.Books.{has_round, EndEnds}
use Rattle.group_book.specs.Replay.{IsGroup, PagesEnd, book_at}
use Rattle.group_book.proofs.PlaceLemmas.{in_round}
use Rattle.group_book.proofs.BookLemmas.{group_at, groups_after, came_to}
use Rattle.group_book.proofs.book.Book.end.Goals as goal

inside : (c : goal.After-self-1) → c.args.group < length c.self.inside.presence.plan.groups
inside c = (in_round c.self.inside.presence.plan c.args.group c.args.round (ap (λ b. has_round b c.args.group c.args.round) c.self.view_is ∙ c.requires.known)).0

found : (c : goal.After-self-1) → IsGroup c.self.inside.presence c.self.inside.journal.items c.args.group c.index_mut.result.now
found c = group_at _ _ _ _ _ c.self.invariant (inside c) c.index_mut.ensures.value

ended : (c : goal.After-self-1)
    → PagesEnd c.self.inside.presence c.self.inside.journal.items (λ b d. EndEnds b c.index_mut.result.now.group c.args.round c.end.result d) c.self.inside.journal c.index_mut.result.now.group c.end.new.self c.end.new.lines
ended c = c.end.ensures _ _ (found c).replays

pub invariant_of-self : goal.invariant_of-self
invariant_of-self c =
    groups_after _ _ _ (ended c).added _ _ _ c.self.invariant (inside c) ((ended c).group ∙ (found c).group) (ended c).pages
    (subst (λ n. All (λ l. group_of (event_of l) ≡ n) (ended c).added) (found c).group (ended c).own) (ended c).lines

pub returns : goal.returns
returns c =
    subst (λ b. EndEnds b c.args.group c.args.round c.end.result (book_at c.self.inside.presence c.end.new.lines.items c.end.new.lines.spare)) c.self.view_is
    (subst (λ (n : ℕ). EndEnds (book_at c.self.inside.presence c.self.inside.journal.items c.self.inside.journal.spare) n c.args.round c.end.result (book_at c.self.inside.presence c.end.new.lines.items c.end.new.lines.spare)) (found c).group
    (came_to _ _ _ _ _ _ _ (ended c) refl))
