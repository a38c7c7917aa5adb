use Rattle.std.proofs.Common.{◌∙◌, ap, arith}
use Rattle.transcript_text.specs.EntryLines.{entry_line}
use Rattle.cut_resume.proofs.LeftLemmas.{leaves_next, none_of}
use Rattle.cut_resume.proofs.left.pick_all.Goals as goal

pub returns-then-not-branch-clause-picks : goal.returns-then-not-branch-clause-picks
returns-then-not-branch-clause-picks c =
    (c.loop-at.at, c.entry_line.ensures.number ∙ ap (λ p. entry_line p c.loop-at.at) c.plan.ensures, none_of c.args.cut.now.entries c.args.run.entries _ _ c.loop-at.at c.entry.result c.in_ok-pick.field-0 (omega (arith, c.loop-at-test.true, c.len-at-end.ensures.len)) c.entry.ensures c.if-not-branch.true c.loop-at.invariant.leaves c.in_ok-pick.ensures.picks)

pub loop-at-preserved : goal.loop-at-preserved
loop-at-preserved c = record {
  left = c.in_ok-pick.ensures.left;
  run = c.pick.ensures.run ∙ c.loop-at.invariant.run;
  leaves = leaves_next c.args.cut.now.entries c.args.run.entries _ _ c.loop-at.at c.entry.result c.in_ok-pick.field-0 (omega (arith, c.loop-at-test.true, c.len-at-end.ensures.len)) c.entry.ensures c.if-not-branch.false c.loop-at.invariant.leaves c.in_ok-pick.ensures.picks;
}
