use Rattle.std.proofs.Common.{sym, ◌∙◌}
use Rattle.cut_resume.proofs.LeftLemmas.{passed_more}
use Rattle.cut_resume.proofs.left.pass_next.Goals as goal

pub returns-clause-passed : goal.returns-clause-passed
returns-clause-passed c =
    passed_more c.args.entry.now c.entry-other.result c.args.left.now.run.entries c.args.left.now.passed.items c.push.new.self.items c.args.left.now.next c.in_ok-push.ensures.items c.requires.next c.entry-other.ensures
    (sym c.may_pass.ensures ∙ c.if-not-may_pass.false) c.requires.passed
