use Rattle.std.proofs.Common.{List, subst, sym, ◌∙◌, IfOk, IfErr}
use Rattle.group_plan.specs.Tables.{reading}
use Rattle.event_schedule.specs.declared.Event.{Event}
use Rattle.event_schedule.specs.Events.{events_of}
use Rattle.ideal_masks.specs.OffsetEnds.{OffsetsEnd, HasTwoWorlds, HasNoWorlds}
use Rattle.ideal_masks.specs.Replaying.{events_in}
use Rattle.ideal_masks.proofs.ReplayLemmas.{events-same}
use Rattle.ideal_masks.proofs.WorldLemmas.{nobody-known, ends-nobody, no_worlds-end}
use Rattle.ideal_masks.proofs.worlds.offsets.Goals as goal

pub agreed_moves-requires-clause-known : goal.agreed_moves-requires-clause-known
agreed_moves-requires-clause-known c = nobody-known (reading c.args.first.now.table) (reading c.args.second.now.table)

pub returns-clause-ends : goal.returns-clause-ends
returns-clause-ends c =
    subst (λ (events : List Event). OffsetsEnd c.args.first.now c.args.second.now events c.agreed_moves.result)
    (events-same c.args.first.now (events_of c.args.transcript.now.entries) c.in_ok-book.book c.in_ok-book.ensures.events)
    (ends-nobody c.args.first.now c.args.second.now (events_in c.in_ok-book.book) c.agreed_moves.result c.in_ok-check_presence.ensures.ends c.agreed_moves.ensures.ends)

pub returns-clause-two_worlds : goal.returns-clause-two_worlds
returns-clause-two_worlds c =
    subst (λ (events : List Event). IfOk c.agreed_moves.result (HasTwoWorlds c.args.first.now c.args.second.now events))
    (events-same c.args.first.now (events_of c.args.transcript.now.entries) c.in_ok-book.book c.in_ok-book.ensures.events)
    c.agreed_moves.ensures.two_worlds

pub returns-clause-converse : goal.returns-clause-converse
returns-clause-converse c =
    subst (λ (events : List Event). IfErr c.agreed_moves.result (HasNoWorlds c.args.first.now c.args.second.now events))
    (events-same c.args.first.now (events_of c.args.transcript.now.entries) c.in_ok-book.book c.in_ok-book.ensures.events)
    (no_worlds-end c.args.first.now c.args.second.now (events_in c.in_ok-book.book) c.agreed_moves.result c.agreed_moves.ensures.converse)
