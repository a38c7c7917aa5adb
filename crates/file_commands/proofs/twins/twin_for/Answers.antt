use Rattle.command_words.specs.Commands.{twin_names_of}
use Rattle.command_words.specs.Known.{known_in}
use Rattle.file_commands.specs.TwinEnds.{MovesPooled}
use Rattle.command_texts.specs.Pooled.{PooledRefuses}
use Rattle.command_texts.specs.TwinTexts.{bytes_with}
use Rattle.file_commands.proofs.TwinEndings.{twin_ends, twin_refused}
use Rattle.file_commands.proofs.twins.twin_for.Goals as goal

pub returns-in-Err-words_moved-clause-ends : goal.returns-in-Err-words_moved-clause-ends
returns-in-Err-words_moved-clause-ends g c =
    let fetched = c.in-Ok.ensures.ends in
    let bytes = bytes_with c.in-Ok.value.texts fetched.0 in
    twin_refused c.args.verb.now (PooledRefuses (known_in c.args.known.now) (twin_names_of c.args.files)) (MovesPooled (known_in c.args.known.now)) (twin_names_of c.args.files) _ _ _ bytes
    fetched.1 fetched.3 (c.in-Err-words_moved.ensures.ends fetched.0 fetched.2)

pub returns-clause-ends : goal.returns-clause-ends
returns-clause-ends g c =
    let fetched = c.in-Ok.ensures.ends in
    let bytes = bytes_with c.in-Ok.value.texts fetched.0 in
    twin_ends c.args.verb.now (PooledRefuses (known_in c.args.known.now) (twin_names_of c.args.files)) (MovesPooled (known_in c.args.known.now)) (twin_names_of c.args.files) _ _ _ _ _ bytes
    fetched.1 fetched.3 (c.in-Ok-words_moved.ensures.ends fetched.0 fetched.2) c.put_moved.ensures.ends
