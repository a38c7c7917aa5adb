use Rattle.std.proofs.Common.{sym, ◌∙◌}
use Rattle.command_texts.proofs.ResumeLemmas.{begins_with, resumes}
use Rattle.command_texts.proofs.resume.resume_texts.Goals as goal

pub returns-in-Ok-clause-ends : goal.returns-in-Ok-clause-ends
returns-in-Ok-clause-ends g c = resumes _ c.args.cut.now _ c.in-Ok.texts c.in_ok-finished.ensures c.in-Ok.ensures.texts

pub returns-in-Ok-clause-begins : goal.returns-in-Ok-clause-begins
returns-in-Ok-clause-begins g c =
    begins_with _ _ _ c.args.cut.now _ c.in-Ok.texts.transcript (c.requires.cut ∙ sym c.requires.same_plan) c.in_ok-finished.ensures c.in-Ok.ensures.transcript
