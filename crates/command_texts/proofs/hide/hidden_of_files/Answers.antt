use Rattle.command_words.specs.Commands.{hide_names_of}
use Rattle.command_texts.specs.BillingParts.{hide_bytes_with}
use Rattle.command_texts.proofs.BillingLemmas.{hides_in, refuses_in}
use Rattle.command_texts.proofs.hide.hidden_of_files.Goals as goal

pub returns-clause-hidden : goal.returns-clause-hidden
returns-clause-hidden c = λ tb read.
    hides_in (hide_names_of c.args.words.files) c.args.words.period c.args.words.place (hide_bytes_with c.args.texts tb) _ _ c.in-Ok.ensures.read (c.hidden_under.ensures.ends tb read)

pub returns-clause-refused : goal.returns-clause-refused
returns-clause-refused c = λ tb read.
    refuses_in (hide_names_of c.args.words.files) c.args.words.period c.args.words.place (hide_bytes_with c.args.texts tb) _ _ c.in-Ok.ensures.read (c.hidden_under.ensures.ends tb read)
