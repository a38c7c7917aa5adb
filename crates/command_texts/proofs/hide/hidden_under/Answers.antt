use Rattle.std.proofs.Common.{inl}
use Rattle.command_words.specs.Commands.{hide_names_of}
use Rattle.command_texts.proofs.BillingLemmas.{finds_in}
use Rattle.command_texts.proofs.hide.hidden_under.Goals as goal

pub returns-in-Err-clause-ends : goal.returns-in-Err-clause-ends
returns-in-Err-clause-ends c = λ text read. inl (c.in-Err.ensures.refused text read)

pub returns-clause-ends : goal.returns-clause-ends
returns-clause-ends c = λ text read.
    finds_in (hide_names_of c.args.words.files) c.args.words.period c.args.words.place c.args.plan.now c.args.readings.now text c.in-Ok.value c.hidden_in.result
    (c.in-Ok.ensures.read text read) c.hidden_in.ensures.hidden c.hidden_in.ensures.alone
