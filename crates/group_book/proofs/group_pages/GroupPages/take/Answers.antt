use Rattle.std.proofs.Common.{◌≡◌, ◌<◌, true, ◌++◌, ◌∷◌, [], ap, sym, refl, ◌∙◌, subst}
use Rattle.std.specs.Prelude.{None, List, slice_index_or}
use Rattle.group_plan.specs.Tables.{PresenceView}
use Rattle.event_schedule.specs.declared.Event.TheVariants.{Take}
use Rattle.event_schedule.specs.declared.Line.{Line}
use Rattle.event_schedule.specs.declared.Line.TheVariants.{Take as TakeLine}
use Rattle.event_schedule.specs.Schedule.{shape_of_presence}
use Rattle.round_machine.specs.declared.Verdict.TheVariants.{Void}
use Rattle.group_book.specs.Books.{BookView, IsFree}
use Rattle.group_book.specs.Groups.{GroupView, holds}
use Rattle.group_book.specs.Replay.{Replays, book_at}
use Rattle.group_book.proofs.PageLemmas.{Took}
use Rattle.group_book.proofs.GroupLemmas.{place-held, can_ask_now, unsent_now, taken_now, void_verdict, ends_with}
use Rattle.group_book.proofs.CallLemmas.{adds_line, posted_is, unknown_now, Finds, finds, took}
use Rattle.group_book.proofs.group_pages.GroupPages.take.Goals as goal

held : (c : goal.After-take-arg-1) → holds c.args.self.now c.args.frame.now.tag ≡ true
held c = sym c.holds.ensures ∙ c.if-not-holds.false

found_at : (c : goal.After-take-arg-1) (p : PresenceView) (j : List Line) → Replays p j c.args.self.now → Finds p j c.args.self.now c.args.frame.now c.index_mut.result.now
found_at c p j now =
    finds p j c.args.self.now c.args.frame.now c.posted-posted.result c.index_mut.result.now now c.requires.own (held c) (c.posted-posted.ensures p j now) c.in_default.ensures c.if-is_none.ensures
    (c.index_mut.ensures.value ∙ ap (λ (v : GroupView). slice_index_or v.pages c.args.frame.now.tag.round c.index_mut.result.now) c.self.view_is)

pub take-verdict-requires : goal.take-verdict-requires
take-verdict-requires c =
    let p = c.requires.can.presence in
    let j = c.requires.can.journal in
    let found = found_at c p j c.requires.can.replays in
    can_ask_now p j c.args.frame.now.tag c.index_mut.result.now found.replays.ledger found.place found.sent found.page

pub returns-then-is_none : goal.returns-then-is_none
returns-then-is_none c = λ p j now.
    let tag = c.args.frame.now.tag in
    let before : BookView = book_at p j c.args.lines.now.spare in
    let after : BookView = book_at p (j ++ TakeLine tag Void ∷ []) c.add_take.new.journal.spare in
    let unsent = unknown_now (book_at p j 0) tag _ (c.posted-posted.ensures p j now) c.if-is_none.ensures in
    let verdict = void_verdict (shape_of_presence p) tag _ unsent in
    ends_with p j _ c.args.lines.now c.add_take.new.journal _ _ (TakeLine tag Void) (
      place-held p j c.args.self.now tag now c.requires.own ∙ sym c.holds.ensures ∙ c.if-not-holds.false,
      subst (λ x. IsFree x c.args.frame.now) (sym (posted_is (book_at p j 0) tag _ (c.posted-posted.ensures p j now))) c.in_default.ensures,
      verdict,
      adds_line before before after (Take tag) None (TakeLine tag Void) refl refl refl c.add_take.ensures.spare (ap (TakeLine tag) verdict),
    )
    (unsent_now p j c.args.self.now tag now unsent) refl c.requires.own c.add_take.ensures.lines

found_at_end : (c : goal.After-add_take-2) (p : PresenceView) (j : List Line) → Replays p j c.args.self.now → Finds p j c.args.self.now c.args.frame.now c.index_mut.result.now
found_at_end c p j now =
    finds p j c.args.self.now c.args.frame.now c.posted-posted.result c.index_mut.result.now now c.requires.own (sym c.holds.ensures ∙ c.if-not-holds.false) (c.posted-posted.ensures p j now) c.in_default.ensures c.if-is_none.ensures
    (c.index_mut.ensures.value ∙ ap (λ (v : GroupView). slice_index_or v.pages c.args.frame.now.tag.round c.index_mut.result.now) c.self.view_is)

pub returns : goal.returns
returns c = λ p j now.
    let tag = c.args.frame.now.tag in
    let rep = subst (Replays p j) (sym c.self.view_is) now in
    let own = c.requires.own ∙ ap (λ (v : GroupView). v.group) (sym c.self.view_is) in
    let found = found_at_end c p j now in
    let took_is : Took (shape_of_presence p) tag c.take-verdict.result c.take-verdict.new.self j = took p j c.args.self.now c.args.frame.now c.index_mut.result.now c.take-verdict.new.self c.take-verdict.result found c.take-verdict.ensures in
    let before : BookView = book_at p j c.args.lines.now.spare in
    let after : BookView = book_at p (j ++ TakeLine tag c.take-verdict.result ∷ []) c.add_take-2.new.journal.spare in
    ends_with p j _ c.args.lines.now c.add_take-2.new.journal _ _ (TakeLine tag c.take-verdict.result) (
      found.place,
      subst (λ x. IsFree x c.args.frame.now) (sym (posted_is (book_at p j 0) tag _ (c.posted-posted.ensures p j now))) c.in_default.ensures,
      took_is.verdict,
      adds_line before before after (Take tag) None (TakeLine tag c.take-verdict.result) refl refl refl c.add_take-2.ensures.spare (ap (TakeLine tag) took_is.verdict),
    )
    (taken_now p j _ tag c.take-verdict.result c.take-verdict.new.self rep own (subst (λ (v : GroupView). tag.round < v.rounds) (sym c.self.view_is) found.round) took_is) (ap (λ (v : GroupView). v.group) c.self.view_is) c.requires.own c.add_take-2.ensures.lines
