use Rattle.std.specs.Prelude.{codes}
use Rattle.command_words.specs.Commands.{twin_names_of}
use Rattle.command_texts.specs.RingTwins.{RingCompared, RingTwinRefuses}
use Rattle.command_texts.specs.TwinTexts.{bytes_with}
use Rattle.file_commands.proofs.TwinEndings.{twin_ends, twin_refused}
use Rattle.file_commands.proofs.ring_twins.ring_twin.Goals as goal

pub returns-in-Err-ring_words_moved-clause-ends : goal.returns-in-Err-ring_words_moved-clause-ends
returns-in-Err-ring_words_moved-clause-ends g c =
    let fetched = c.in-Ok.ensures.ends in
    let bytes = bytes_with c.in-Ok.value.texts fetched.0 in
    twin_refused (codes "twin") (RingTwinRefuses c.args.words.width (twin_names_of c.args.words.files)) (RingCompared c.args.words.width) (twin_names_of c.args.words.files) _ _ _ bytes
    fetched.1 fetched.3 (c.in-Err-ring_words_moved.ensures.ends fetched.0 fetched.2)

pub returns-clause-ends : goal.returns-clause-ends
returns-clause-ends g c =
    let fetched = c.in-Ok.ensures.ends in
    let bytes = bytes_with c.in-Ok.value.texts fetched.0 in
    twin_ends (codes "twin") (RingTwinRefuses c.args.words.width (twin_names_of c.args.words.files)) (RingCompared c.args.words.width) (twin_names_of c.args.words.files) _ _ _ _ _ bytes
    fetched.1 fetched.3 (c.in-Ok-ring_words_moved.ensures.ends fetched.0 fetched.2) c.put_moved.ensures.ends
