use Rattle.std.proofs.Common.{[], ◌∷◌, inl, refl, ap, sym, ◌∙◌}
use Rattle.std.specs.Prelude.{None, Some}
use Rattle.command_words.specs.Commands.{size_in, name_in}
use Rattle.command_texts.specs.RunTexts.{texts_of}
use Rattle.run_commands.proofs.LoadEndings.{load_ends, load_refused, load_unwritable}
use Rattle.run_commands.proofs.loading.load.Goals as goal

pub returns-in-Err-clause-ends : goal.returns-in-Err-clause-ends
returns-in-Err-clause-ends g c =
    load_refused _ (size_in c.args.words.size) (name_in c.args.words.transcript) _ _ _ _ _ _ _
    (record { plan = c.in-Ok.ensures.made.1; readings = c.in-Ok.ensures.made.2; read = c.in-Ok.ensures.read }) refl c.in-Err.ensures.refused

pub returns-in-None-clause-ends : goal.returns-in-None-clause-ends
returns-in-None-clause-ends g c =
    load_ends _ (size_in c.args.words.size) (name_in c.args.words.transcript) None _ _ _ (texts_of c.in-Ok-texts_in_memory.texts) _ _ _ _ _ (ap name_in c.in-None.is)
    (record { plan = c.in-Ok.ensures.made.1; readings = c.in-Ok.ensures.made.2; read = c.in-Ok.ensures.read })
    (c.in-Ok-texts_in_memory.ensures _ _ _ c.in-Ok-read_run.ensures.values) refl c.as_slice.ensures.value refl c.say.ensures.ends

pub returns-then-has_failed-clause-ends : goal.returns-then-has_failed-clause-ends
returns-then-has_failed-clause-ends g c =
    load_unwritable _ (size_in c.args.words.size) (name_in c.args.words.transcript) _ c.in-Some.name.now _ _ _ _ _ _ _ (ap name_in c.in-Some.is)
    (record { plan = c.in-Ok.ensures.made.1; readings = c.in-Ok.ensures.made.2; read = c.in-Ok.ensures.read })
    c.in-Ok-read_run.ensures.values c.in-Ok-begin.ensures.begun.0 c.in-Ok-begin.ensures.same_view
    (c.commit_failed.ensures.ends (c.in-Ok-begin.transcript.name.now ∷ []) (inl refl))

pub returns-clause-ends : goal.returns-clause-ends
returns-clause-ends g c =
    load_ends _ (size_in c.args.words.size) (name_in c.args.words.transcript) (Some c.finished-transcript.result.name.now) _ _ _ (texts_of c.in-Ok-run_texts.told.0) _ _ _ _ _
    (ap name_in c.in-Some.is ∙ ap Some (sym (c.finished-transcript.ensures.name ∙ c.in-Ok-run_texts.ensures.name ∙ ap (λ b. b.name.now) c.new-ahead.ensures.begun ∙ c.in-Ok-begin.ensures.begun.0)))
    (record { plan = c.in-Ok.ensures.made.1; readings = c.in-Ok.ensures.made.2; read = c.in-Ok.ensures.read })
    (c.in-Ok-run_texts.ensures.texts _ _ _ c.in-Ok-read_run.ensures.values) refl c.as_slice-2.ensures.value c.in-Ok-begin.ensures.same_view
    (c.commit_one.ensures.ends _ c.finished-transcript.ensures.text)
