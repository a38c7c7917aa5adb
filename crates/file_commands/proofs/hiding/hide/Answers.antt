use Rattle.std.proofs.Common.{[], ◌∷◌, inl, ◌∙◌}
use Rattle.command_words.specs.Commands.{hide_names_of}
use Rattle.command_files.proofs.CallLemmas.{then_unread}
use Rattle.file_commands.proofs.BillingEndings.{hide_refused, hide_ends}
use Rattle.file_commands.proofs.hiding.hide.Goals as goal

pub returns-in-Err-fetch_and_pour-clause-ends : goal.returns-in-Err-fetch_and_pour-clause-ends
returns-in-Err-fetch_and_pour-clause-ends g c =
    inl (then_unread (c.args.words.files.plan.now ∷ []) (c.args.words.files.readings.now ∷ c.args.words.files.transcript.now ∷ []) _ _ _ _ c.in-Ok.ensures.ends.1 c.in-Err-fetch_and_pour.ensures.ends)

pub returns-in-Err-hidden_of_files-clause-ends : goal.returns-in-Err-hidden_of_files-clause-ends
returns-in-Err-hidden_of_files-clause-ends g c =
    let poured = c.in-Ok-fetch_and_pour.ensures.ends in
    hide_refused (hide_names_of c.args.words.files) c.args.words.period c.args.words.place _ _ _ _ _ _ poured.0 _ _ c.in-Ok.ensures.ends.0 c.in-Ok.ensures.ends.1
    poured.1 poured.2 poured.3 c.deref.ensures.value c.deref-2.ensures.value (c.in-Err-hidden_of_files.ensures.refused poured.0 poured.4)

pub returns-clause-ends : goal.returns-clause-ends
returns-clause-ends g c =
    let poured = c.in-Ok-fetch_and_pour.ensures.ends in
    hide_ends (hide_names_of c.args.words.files) c.args.words.period c.args.words.place _ _ _ _ _ c.in-Ok-hidden_of_files.value _ _ poured.0 _ _ _ _ c.in-Ok.ensures.ends.0 c.in-Ok.ensures.ends.1
    poured.1 poured.2 poured.3 c.deref.ensures.value c.deref-2.ensures.value (c.in-Ok-hidden_of_files.ensures.hidden poured.0 poured.4) c.as_slice.ensures.value (c.as_bytes.ensures.value ∙ c.in-Ok-hidden_line.ensures) c.put_one.ensures.ends
