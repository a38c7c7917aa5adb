use Rattle.std.proofs.Common.{◌++◌, ◌∷◌, List, [], take, sym, subst, arith}
use Rattle.std.specs.Prelude.{All}
use Rattle.std.proofs.lemmas.List.Elements.{All-cons, All-nil}
use Rattle.group_plan.specs.Tables.{PresenceView}
use Rattle.event_schedule.specs.declared.Line.{Line}
use Rattle.tick_run.specs.GroupRuns.{Calls, IsTakeable, takes_of}
use Rattle.tick_run.proofs.GroupCalls.{still-takeable, takes-more}
use Rattle.tick_run.proofs.group_tick.take_all.Goals as goal

-- the frame that comes next can be taken
next : (c : goal.After-take_one-arg-in-loop-frame-1) (p : PresenceView) (j : List Line) (all : All (IsTakeable p c.args.pages.now.group j) c.args.came.now)
    → (first : Calls p j (takes_of (take c.loop-frame.frame-index c.args.came.now)) c.args.lines.now c.args.pages.now.group c.loop-frame.pages c.loop-frame.lines)
    → IsTakeable p c.loop-frame.pages.group (j ++ first.added) c.frame-item.result
next c p j all first =
    subst (λ g. IsTakeable p g (j ++ first.added) c.frame-item.result) (sym first.group)
    (still-takeable p c.args.pages.now.group j first.added (take c.loop-frame.frame-index c.args.came.now) c.frame-item.result first.events_are
    (subst (IsTakeable p c.args.pages.now.group j) (sym c.frame-item.is) (all c.loop-frame.frame-index c.frame-item.result c.loop-frame-test.true)))

pub take_one-requires-clause-can : goal.take_one-requires-clause-can
take_one-requires-clause-can c =
    let p = c.requires.can.presence in
    let j = c.requires.can.journal in
    let first = c.loop-frame.invariant.takes p j c.requires.can.replays c.requires.can.takeable in
    let able = IsTakeable p c.loop-frame.pages.group (j ++ first.added) in
    record {
      presence = p;
      journal = j ++ first.added;
      replays = first.pages;
      takeable = All-cons able c.frame-item.result [] (next c p j c.requires.can.takeable first) (All-nil able);
    }

next_at : (c : goal.After-take_one) (p : PresenceView) (j : List Line) (all : All (IsTakeable p c.args.pages.now.group j) c.args.came.now)
    → (first : Calls p j (takes_of (take c.loop-frame.frame-index c.args.came.now)) c.args.lines.now c.args.pages.now.group c.loop-frame.pages c.loop-frame.lines)
    → IsTakeable p c.loop-frame.pages.group (j ++ first.added) c.frame-item.result
next_at c p j all first =
    subst (λ g. IsTakeable p g (j ++ first.added) c.frame-item.result) (sym first.group)
    (still-takeable p c.args.pages.now.group j first.added (take c.loop-frame.frame-index c.args.came.now) c.frame-item.result first.events_are
    (subst (IsTakeable p c.args.pages.now.group j) (sym c.frame-item.is) (all c.loop-frame.frame-index c.frame-item.result c.loop-frame-test.true)))

pub loop-frame-preserved : goal.loop-frame-preserved
loop-frame-preserved c = record {
  takes = λ p j rep all.
      let first = c.loop-frame.invariant.takes p j rep all in
      let one = c.take_one.ensures.takes p (j ++ first.added) first.pages (next_at c p j all first) in
      takes-more p j c.args.came.now c.loop-frame.frame-index c.frame-item.result c.args.lines.now c.loop-frame.lines c.take_one.new.lines c.args.pages.now.group c.loop-frame.pages c.take_one.new.pages
      c.loop-frame-test.true (sym c.frame-item.is) first
      (subst (λ g. Calls p (j ++ first.added) (takes_of (c.frame-item.result ∷ [])) c.loop-frame.lines g c.take_one.new.pages c.take_one.new.lines) first.group one);
  spare = let room = c.loop-frame.invariant.spare in let more = c.take_one.ensures.spare in omega (arith, room, more);
}
