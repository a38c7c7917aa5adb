use Rattle.std.proofs.Common.{rules, ◌≡◌, ◌∙◌, List, refl, subst, IfErr}
use Rattle.std.specs.Prelude.{Result, Err}
use Rattle.group_plan.specs.Tables.{ReadingsView, presence_of}
use Rattle.group_book.specs.Books.{BookView}
use Rattle.ideal_masks.specs.declared.Differ.{Differ}
use Rattle.ideal_masks.specs.declared.Offset.{Offset}
use Rattle.ideal_masks.specs.Pools.{pool_of}
use Rattle.ideal_masks.specs.OffsetEnds.{HasNoWorldsFor}
use Rattle.ideal_masks.specs.AgreementParts.{MovesEnd}
use Rattle.ideal_masks.specs.Replaying.{HasEvents, events_in}
use Rattle.ideal_masks.proofs.WorldLemmas.{agreed, list-between, between-moves, between-places, worlds, ends-total, ends-no_worlds}
use Rattle.ideal_masks.proofs.worlds.agreed_moves.Goals as goal

-- the book has its own events
has : (x : ReadingsView) (b : BookView) → b.presence ≡ presence_of x → HasEvents x (events_in b) b
has x b presence = record { presence = presence; past = refl }

pub returns-in_err-check_totals-clause-ends : goal.returns-in_err-check_totals-clause-ends
returns-in_err-check_totals-clause-ends c =
    let pool = pool_of c.args.known.now in
    let x = c.args.first.now in
    let y = c.args.second.now in
    let events = events_in c.args.book.now in
    let differ : Differ = c.in_err-check_totals.field-0.0 in
    let answered : Err differ ≡ c.from_residual.result = search rules in
    subst (MovesEnd pool x y events) answered
    (ends-total pool x y events c.args.book.now differ (has c.args.first.now c.args.book.now c.requires.first) c.in_err-check_totals.ensures)

pub returns-in_err-check_totals-clause-converse : goal.returns-in_err-check_totals-clause-converse
returns-in_err-check_totals-clause-converse c =
    let pool = pool_of c.args.known.now in
    let x = c.args.first.now in
    let y = c.args.second.now in
    let events = events_in c.args.book.now in
    let differ : Differ = c.in_err-check_totals.field-0.0 in
    let answered : Err differ ≡ c.from_residual.result = search rules in
    subst (λ (r : Result (List Offset) Differ). IfErr r (HasNoWorldsFor pool x y events)) answered
    (ends-no_worlds pool x y events c.args.book.now differ c.plan-first.ensures.table c.plan-second.ensures.table c.requires.second c.requires.limits
    (has c.args.first.now c.args.book.now c.requires.first) c.requires.alike c.requires.known c.in_err-check_totals.ensures)

pub of-requires : goal.of-requires
of-requires c =
    let pool = pool_of c.args.known.now in
    between-moves pool c.args.first.now c.args.second.now (events_in c.args.book.now) c.in_ok-all_moves.field-0.items
    (c.in_ok-all_moves.ensures ∙ list-between pool c.args.first.now c.args.second.now (events_in c.args.book.now) c.args.book.now (has c.args.first.now c.args.book.now c.requires.first))

pub returns-clause-ends : goal.returns-clause-ends
returns-clause-ends c =
    let pool = pool_of c.args.known.now in
    let x = c.args.first.now in
    let y = c.args.second.now in
    let events = events_in c.args.book.now in (
      agreed pool x y events c.args.book.now (has c.args.first.now c.args.book.now c.requires.first) c.requires.alike c.requires.known c.in_ok-check_totals.ensures,
      c.of.ensures ∙ c.in_ok-all_moves.ensures ∙ list-between pool x y events c.args.book.now (has c.args.first.now c.args.book.now c.requires.first),
    )

pub returns-clause-places : goal.returns-clause-places
returns-clause-places c =
    let pool = pool_of c.args.known.now in
    between-places pool c.args.first.now c.args.second.now (events_in c.args.book.now) c.of.result
    (c.of.ensures ∙ c.in_ok-all_moves.ensures ∙ list-between pool c.args.first.now c.args.second.now (events_in c.args.book.now) c.args.book.now (has c.args.first.now c.args.book.now c.requires.first))

pub returns-clause-two_worlds : goal.returns-clause-two_worlds
returns-clause-two_worlds c =
    let pool = pool_of c.args.known.now in
    let x = c.args.first.now in
    let y = c.args.second.now in
    let events = events_in c.args.book.now in
    worlds pool x y events c.of.result c.plan-first.ensures.table c.plan-second.ensures.table c.requires.second
    (agreed pool x y events c.args.book.now (has c.args.first.now c.args.book.now c.requires.first) c.requires.alike c.requires.known c.in_ok-check_totals.ensures)
    (c.of.ensures ∙ c.in_ok-all_moves.ensures ∙ list-between pool x y events c.args.book.now (has c.args.first.now c.args.book.now c.requires.first))
