use Rattle.command_words.specs.Commands.{twin_names_of}
use Rattle.command_words.specs.Known.{known_of}
use Rattle.file_commands.proofs.TwinEndings.{nobody_named, ends_of_nobody}
use Rattle.file_commands.proofs.twins.twin.Goals as goal

pub twin_for-requires-after_bounds : goal.twin_for-requires-after_bounds
twin_for-requires-after_bounds g c κs within = nobody_named

pub returns-clause-ends : goal.returns-clause-ends
unfolding known_of
returns-clause-ends g c = ends_of_nobody (twin_names_of c.args.files) _ _ _ c.twin_for.ensures.ends
