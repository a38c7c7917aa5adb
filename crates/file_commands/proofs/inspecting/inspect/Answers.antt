use Rattle.std.proofs.Common.{[], ◌∷◌, inl, ◌∙◌}
use Rattle.command_words.specs.Commands.{inspect_names_of}
use Rattle.command_files.proofs.CallLemmas.{then_unread}
use Rattle.file_commands.proofs.InspectEndings.{inspect_refused, inspect_ends}
use Rattle.file_commands.proofs.inspecting.inspect.Goals as goal

pub returns-in-Err-fetch-clause-ends : goal.returns-in-Err-fetch-clause-ends
returns-in-Err-fetch-clause-ends g c =
    inl (then_unread (c.args.files.public.now ∷ c.args.files.transcript.now ∷ []) (c.args.files.report.now ∷ []) _ _ _ _ c.in-Ok.ensures.ends.3 c.in-Err-fetch.ensures.ends)

pub returns-in-Err-inspect_texts-clause-ends : goal.returns-in-Err-inspect_texts-clause-ends
returns-in-Err-inspect_texts-clause-ends g c =
    let poured = c.in-Ok.ensures.ends in
    inspect_refused (inspect_names_of c.args.files) _ _ _ _ _ poured.0 _ _ _ poured.1 poured.2 poured.3 c.in-Ok-fetch.ensures.ends.0 c.in-Ok-fetch.ensures.ends.1
    c.deref.ensures.value c.deref-2.ensures.value (c.in-Err-inspect_texts.ensures.refused poured.0 poured.4)

pub returns-clause-ends : goal.returns-clause-ends
returns-clause-ends g c =
    let poured = c.in-Ok.ensures.ends in
    inspect_ends (inspect_names_of c.args.files) _ _ _ _ _ c.in-Ok-inspect_texts.value _ poured.0 _ _ _ _ poured.1 poured.2 poured.3
    c.in-Ok-fetch.ensures.ends.0 c.in-Ok-fetch.ensures.ends.1 c.deref.ensures.value c.deref-2.ensures.value
    (c.in-Ok-inspect_texts.ensures.found poured.0 poured.4) (c.as_bytes.ensures.value ∙ c.in-Ok-inspected_line.ensures) c.say.ensures.ends
