use Rattle.std.proofs.Common.{◌∙◌, ap, refl}
use Rattle.command_words.specs.Words.{names_of}
use Rattle.command_texts.specs.RunTexts.{texts_of}
use Rattle.command_files.proofs.CallLemmas.{puts_named}
use Rattle.run_commands.proofs.RunEndings.{run_ends, run_refused, run_unwritable}
use Rattle.run_commands.proofs.running.run_order.Goals as goal

pub returns-clause-ends : goal.returns-clause-ends
returns-clause-ends g c =
    run_ends _ _ (names_of c.args.order.files) _ _ _ (texts_of c.in-Ok-run_texts.told.0) _ _ _ _ _ _ c.in-Ok.ensures.ends.0 c.in-Ok.ensures.ends.1
    (c.in-Ok-begin-2.ensures.same_view ∙ c.in-Ok-begin.ensures.same_view ∙ c.in-Ok.ensures.ends.2)
    (c.in-Ok-run_texts.ensures.texts _ _ _ c.in-Ok-read_run.ensures.values) refl c.as_slice.ensures.value c.as_slice-line.ensures.value
    (puts_named _ _ _ _ _ _ _ _ _ _
    (c.finished-transcript.ensures.name ∙ c.in-Ok-run_texts.ensures.name ∙ ap (λ b. b.name.now) c.new-ahead.ensures.begun ∙ c.in-Ok-begin.ensures.begun.0)
    c.in-Ok-begin-2.ensures.begun.0
    (c.commit_two.ensures.ends _ c.finished-transcript.ensures.text c.in-Ok-begin-2.ensures.begun.1))

pub returns-in-Err-read_run-clause-ends : goal.returns-in-Err-read_run-clause-ends
returns-in-Err-read_run-clause-ends g c =
    run_refused _ _ (names_of c.args.order.files) _ _ _ _ _ c.in-Ok.ensures.ends.0 c.in-Ok.ensures.ends.1
    (c.in-Ok-begin-2.ensures.same_view ∙ c.in-Ok-begin.ensures.same_view ∙ c.in-Ok.ensures.ends.2) c.in-Err-read_run.ensures.refused

pub returns-then-has_failed-clause-ends : goal.returns-then-has_failed-clause-ends
returns-then-has_failed-clause-ends g c =
    run_unwritable _ _ (names_of c.args.order.files) _ _ _ _ _ _ _ _ _ c.in-Ok.ensures.ends.0 c.in-Ok.ensures.ends.1
    (c.in-Ok-begin-2.ensures.same_view ∙ c.in-Ok-begin.ensures.same_view ∙ c.in-Ok.ensures.ends.2)
    c.in-Ok-read_run.ensures.values c.in-Ok-begin.ensures.begun.0 c.in-Ok-begin-2.ensures.begun.0 c.first_of_two.ensures.ends
