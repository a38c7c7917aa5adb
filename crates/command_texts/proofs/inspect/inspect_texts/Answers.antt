use Rattle.std.proofs.Common.{rules}
use Rattle.command_words.specs.Commands.{inspect_names_of}
use Rattle.command_texts.specs.InspectParts.{inspect_bytes_with}
use Rattle.command_texts.proofs.InspectLemmas.{judged_in, refused_in}
use Rattle.command_texts.proofs.inspect.inspect_texts.Goals as goal

pub returns-clause-found : goal.returns-clause-found
returns-clause-found c = λ tb read.
    let texts = c.in-Ok-read_texts.ensures.ends tb read in
    judged_in (inspect_names_of c.args.files) (inspect_bytes_with c.args.texts tb) _ _ _ c.in-Ok.ensures.value texts.0 texts.1 c.judge.result c.judge.ensures.ends

pub returns-clause-refused : goal.returns-clause-refused
returns-clause-refused c = λ tb read.
    let texts = c.in-Ok-read_texts.ensures.ends tb read in
    refused_in (inspect_names_of c.args.files) (inspect_bytes_with c.args.texts tb) _ _ _ c.in-Ok.ensures.value texts.0 texts.1 c.judge.result c.judge.ensures.ends

pub returns-in-Err-read_texts-clause-refused : goal.returns-in-Err-read_texts-clause-refused
returns-in-Err-read_texts-clause-refused c = λ tb read. search (rules, c.in-Err-read_texts.ensures.ends tb read, c.in-Ok.ensures.value)
