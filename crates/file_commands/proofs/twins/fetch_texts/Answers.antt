use Rattle.std.proofs.Common.{[], ◌∷◌}
use Rattle.command_words.specs.Commands.{twin_names_of}
use Rattle.file_commands.proofs.TwinEndings.{four_read}
use Rattle.command_files.proofs.CallLemmas.{then_unread}
use Rattle.file_commands.proofs.twins.fetch_texts.Goals as goal

pub returns-in-Err-fetch_and_pour-clause-ends : goal.returns-in-Err-fetch_and_pour-clause-ends
returns-in-Err-fetch_and_pour-clause-ends g c =
    then_unread (c.args.files.plan.now ∷ c.args.files.readings.now ∷ []) (c.args.files.other.now ∷ c.args.files.transcript.now ∷ []) _ _ _ _
    c.in-Ok.ensures.ends.2 c.in-Err-fetch_and_pour.ensures.ends

pub returns-clause-ends : goal.returns-clause-ends
returns-clause-ends g c =
    let poured = c.in-Ok-fetch_and_pour.ensures.ends in
    let read = four_read (twin_names_of c.args.files) _ _ _ _ _ _ _ c.in-Ok.ensures.ends.0 c.in-Ok.ensures.ends.1 c.in-Ok.ensures.ends.2 poured.1 poured.2 poured.3 in
    (poured.0, read.0, poured.4, read.1)
