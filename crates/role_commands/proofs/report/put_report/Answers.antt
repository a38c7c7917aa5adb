use Rattle.std.proofs.Common.{[], subst, ◌∙◌}
use Rattle.head_end.specs.Lines.{rows}
use Rattle.totals_report.specs.Texts.{rows_text}
use Rattle.role_commands.proofs.CourseLemmas.{committed_puts}
use Rattle.role_commands.proofs.report.put_report.Goals as goal

pub returns-clause-ends : goal.returns-clause-ends
returns-clause-ends g c plan journal after =
    let file = c.append.new.self.file in
    let has = subst (g.D.Begun.BegunFile.has file) (c.deref.ensures.value ∙ c.in-Ok.ensures plan journal after) (c.append.ensures.has [] c.in-Ok-begin.ensures.begun.1) in
    committed_puts (g.D.Begun.BegunFile.has file) (g.D.Begun.BegunFile.failed file) c.args.name.now c.append.new.self.name.now (rows_text (rows plan journal)) (g.D.Desk.view c.args.desk.now)
    (g.D.Desk.view c.begin.new.desk) (g.D.Desk.view c.commit.new.desk) c.commit.result c.begin.ensures.same_view (c.append.ensures.name ∙ c.in-Ok-begin.ensures.begun.0) has c.commit.ensures.ends
