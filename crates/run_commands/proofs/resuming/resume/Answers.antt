use Rattle.std.proofs.Common.{◌∙◌, [], ◌∷◌, inl, refl, arith, rules}
use Rattle.command_words.specs.Commands.{resume_names_of}
use Rattle.command_files.proofs.CallLemmas.{then_unread}
use Rattle.command_texts.proofs.ResumeLemmas.{begun_with}
use Rattle.run_commands.proofs.ResumeEndings.{cut_refused, off_course, resume_ends, resume_refused, resume_unwritable}
use Rattle.run_commands.proofs.resuming.resume.Goals as goal

pub returns-in-Err-fetch-clause-ends : goal.returns-in-Err-fetch-clause-ends
returns-in-Err-fetch-clause-ends g c =
    inl (then_unread (c.args.words.files.plan.now ∷ c.args.words.files.readings.now ∷ []) (c.args.words.files.cut.now ∷ []) _ _ _ _ c.in-Ok.ensures.ends.2 c.in-Err-fetch.ensures.ends)

pub returns-in-Err-read_run-clause-ends : goal.returns-in-Err-read_run-clause-ends
returns-in-Err-read_run-clause-ends g c =
    resume_refused _ (resume_names_of c.args.words.files) _ _ _ _ _ _ _ c.in-Ok.ensures.ends.0 c.in-Ok.ensures.ends.1 c.in-Ok.ensures.ends.2 c.in-Ok-fetch.ensures.ends.0 c.in-Ok-fetch.ensures.ends.1
    (c.in-Ok-begin-2.ensures.same_view ∙ c.in-Ok-begin.ensures.same_view) _ c.in-Err-read_run.ensures.refused

pub returns-in-Err-cut_in-clause-ends : goal.returns-in-Err-cut_in-clause-ends
returns-in-Err-cut_in-clause-ends g c =
    cut_refused _ (resume_names_of c.args.words.files) _ _ _ _ _ _ _ c.in-Ok.ensures.ends.0 c.in-Ok.ensures.ends.1 c.in-Ok.ensures.ends.2 c.in-Ok-fetch.ensures.ends.0 c.in-Ok-fetch.ensures.ends.1
    (c.in-Ok-begin-2.ensures.same_view ∙ c.in-Ok-begin.ensures.same_view) _ _ _ c.deref.ensures.value c.in-Ok-read_run.ensures.values c.in-Err-cut_in.ensures.ends

pub returns-then-has_failed-clause-ends : goal.returns-then-has_failed-clause-ends
returns-then-has_failed-clause-ends g c =
    resume_unwritable _ (resume_names_of c.args.words.files) _ _ _ _ _ _ _ c.in-Ok.ensures.ends.0 c.in-Ok.ensures.ends.1 c.in-Ok.ensures.ends.2 c.in-Ok-fetch.ensures.ends.0 c.in-Ok-fetch.ensures.ends.1
    (c.in-Ok-begin-2.ensures.same_view ∙ c.in-Ok-begin.ensures.same_view) _ _ _ _ _ c.in-Ok-read_run.ensures.values c.in-Ok-begin.ensures.begun.0 c.in-Ok-begin-2.ensures.begun.0
    c.first_of_two.ensures.ends

pub returns-in-NotThis-clause-ends : goal.returns-in-NotThis-clause-ends
returns-in-NotThis-clause-ends g c =
    off_course _ (resume_names_of c.args.words.files) _ _ _ _ _ _ _ c.in-Ok.ensures.ends.0 c.in-Ok.ensures.ends.1 c.in-Ok.ensures.ends.2 c.in-Ok-fetch.ensures.ends.0 c.in-Ok-fetch.ensures.ends.1
    (c.in-Ok-begin-2.ensures.same_view ∙ c.in-Ok-begin.ensures.same_view) _ _ _ c.args.words.files.cut _ c.in-Err-resume_texts.fault c.deref.ensures.value c.in-Ok-read_run.ensures.values c.in-Ok-cut_in.ensures.ends refl
    c.in-NotThis.is c.in-Err-resume_texts.ensures.ends

pub finished-transcript-requires : goal.finished-transcript-requires
finished-transcript-requires g c =
    let t = c.in-Ok-resume_texts.texts.transcript in
    let begun = begun_with c.in-Ok-cut_in.value t _ c.len.result c.in-Ok-resume_texts.ensures.begins c.len.ensures.len c.begun_bytes.ensures in
    (search rules, c.behind-ahead.ensures.ahead t begun.0 begun.1)

pub returns-clause-ends : goal.returns-clause-ends
returns-clause-ends g c =
    resume_ends _ (resume_names_of c.args.words.files) _ _ _ _ _ _ _ c.in-Ok.ensures.ends.0 c.in-Ok.ensures.ends.1 c.in-Ok.ensures.ends.2 c.in-Ok-fetch.ensures.ends.0 c.in-Ok-fetch.ensures.ends.1
    (c.in-Ok-begin-2.ensures.same_view ∙ c.in-Ok-begin.ensures.same_view) _ _ _ c.in-Ok-resume_texts.texts _ _ _ _ _ _ _ c.deref.ensures.value c.in-Ok-read_run.ensures.values
    c.in-Ok-cut_in.ensures.ends c.in-Ok-resume_texts.ensures.ends
    (c.finished-transcript.ensures.name ∙ c.behind-ahead.ensures.name ∙ c.in-Ok-begin.ensures.begun.0) c.in-Ok-begin-2.ensures.begun.0 refl c.as_slice.ensures.value c.as_slice-line.ensures.value
    (c.commit_two.ensures.ends _ c.finished-transcript.ensures.text c.in-Ok-begin-2.ensures.begun.1)

pub returns-clause-cause : goal.returns-clause-cause
returns-clause-cause g c fault =
    let h = c.commit_two.ensures.cause fault in
    omega (arith, h, c.in-Ok.ensures.later, c.in-Ok-fetch.ensures.later, c.in-Ok-begin.ensures.same_faults, c.in-Ok-begin-2.ensures.same_faults)
