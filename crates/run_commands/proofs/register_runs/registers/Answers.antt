use Rattle.std.proofs.Common.{◌∙◌, refl}
use Rattle.command_words.specs.Commands.{register_names_of}
use Rattle.command_files.proofs.CommitLemmas.{three_named}
use Rattle.run_commands.proofs.RegisterEndings.{registers_end, registers_refused, registers_unwritable}
use Rattle.run_commands.proofs.register_runs.registers.Goals as goal

pub returns-clause-ends : goal.returns-clause-ends
returns-clause-ends g c =
    registers_end _ _ (register_names_of c.args.words.files) _ _ _ c.in-Ok-register_texts.texts _ _ _ _ _ _ _ c.in-Ok.ensures.ends.0 c.in-Ok.ensures.ends.1
    (c.in-Ok-begin_three.ensures.same_view ∙ c.in-Ok.ensures.ends.2) (c.in-Ok-register_texts.ensures _ _ _ _ c.in-Ok-read_register_run.ensures.values)
    refl refl c.as_slice.ensures.value c.as_slice-2.ensures.value
    (three_named _ _ _ _ _ _ _ _ _ _ _ _ _ c.in-Ok-begin_three.ensures.first.0 c.in-Ok-begin_three.ensures.second.0 c.in-Ok-begin_three.ensures.third.0
    (c.commit_three.ensures.ends c.in-Ok-begin_three.ensures.first.1 c.in-Ok-begin_three.ensures.second.1 c.in-Ok-begin_three.ensures.third.1))

pub returns-in-Err-read_register_run-clause-ends : goal.returns-in-Err-read_register_run-clause-ends
returns-in-Err-read_register_run-clause-ends g c =
    registers_refused _ _ (register_names_of c.args.words.files) _ _ _ _ _ c.in-Ok.ensures.ends.0 c.in-Ok.ensures.ends.1
    (c.in-Ok-begin_three.ensures.same_view ∙ c.in-Ok.ensures.ends.2) c.in-Err-read_register_run.ensures.refused

pub returns-then-has_failed-clause-ends : goal.returns-then-has_failed-clause-ends
returns-then-has_failed-clause-ends g c =
    registers_unwritable _ _ (register_names_of c.args.words.files) _ _ _ _ _ _ _ _ _ _ c.in-Ok.ensures.ends.0 c.in-Ok.ensures.ends.1
    (c.in-Ok-begin_three.ensures.same_view ∙ c.in-Ok.ensures.ends.2) c.in-Ok-read_register_run.ensures.values
    c.in-Ok-begin_three.ensures.first.0 c.in-Ok-begin_three.ensures.second.0 c.in-Ok-begin_three.ensures.third.0 c.first_of_three.ensures.ends
