use Rattle.command_texts.proofs.resume.cut_in.Goals as goal

pub returns-in-Err-clause-ends : goal.returns-in-Err-clause-ends
returns-in-Err-clause-ends g c = c.refused_cut.ensures.refused c.args.plan.now c.args.text.now c.in-Err.ensures.exact
