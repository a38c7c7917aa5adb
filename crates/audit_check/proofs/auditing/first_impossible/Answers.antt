use Rattle.std.proofs.Common.{◌<◌, ◌∙◌, ◌++◌, ◌∷◌, [], length, sym, ap, subst, arith}
use Rattle.event_schedule.specs.Frames.{IsPossible}
use Rattle.audit_check.specs.Following.{LineEnds, Follows}
use Rattle.audit_check.proofs.EndLemmas.{none_possible, more_possible, not_possible, next_line, lines_long}
use Rattle.audit_check.proofs.auditing.first_impossible.Goals as goal

pub loop-at-init : goal.loop-at-init
loop-at-init c = record {
  plan = c.requires.plan;
  journal = c.requires.journal;
  replay = c.requires.replay;
  possible = none_possible c.args.transcript.now.plan.groups;
}

pub returns-then-not-branch : goal.returns-then-not-branch
returns-then-not-branch c =
    let t = c.args.transcript.now in
    let r = c.loop-at.replay in
    let here = c.loop-at.invariant in
    let long = lines_long t.entries in
    let len = c.len-at-end.ensures.len in
    let lt : c.loop-at.at < length t.entries = omega (arith, len) in
    let may_not = subst (λ may. LineEnds r.rounds.presence r.rounds.journal c.entry-entry.result.line may c.line.new.self.rounds c.line.new.self.seen c.line.new.self.answered.items) c.if-not-branch.true c.in_ok-line.ensures in (
      omega (arith, lt, long),
      here.possible,
      λ possible. not_possible t.plan r.rounds.presence.plan _ r.rounds.journal c.entry-entry.result.line here.plan here.journal may_not
          (subst (IsPossible t.plan.groups) (next_line t.entries c.loop-at.at c.entry-entry.result lt c.entry-entry.ensures) possible),
    )

pub loop-at-preserved : goal.loop-at-preserved
loop-at-preserved c =
    let t = c.args.transcript.now in
    let r = c.loop-at.replay in
    let here = c.loop-at.invariant in
    let l = c.entry-entry.result.line in
    let len = c.len-at-end.ensures.len in
    let lt : c.loop-at.at < length t.entries = omega (arith, len) in
    let next = next_line t.entries c.loop-at.at c.entry-entry.result lt c.entry-entry.ensures in
    let follows : Follows r.rounds.presence r.rounds.journal l c.line.new.self.rounds c.line.new.self.seen c.line.new.self.answered.items
    = subst (λ may. LineEnds r.rounds.presence r.rounds.journal l may c.line.new.self.rounds c.line.new.self.seen c.line.new.self.answered.items) c.if-not-branch.false c.in_ok-line.ensures in
    record {
      plan = follows.plan ∙ here.plan;
      journal = follows.journal ∙ ap (λ j. j ++ l ∷ []) here.journal ∙ sym next;
      replay = follows.replay;
      possible = subst (IsPossible t.plan.groups) (sym next) (more_possible t.plan r.rounds.presence.plan _ r.rounds.journal l here.plan here.journal here.possible follows.may);
    }
