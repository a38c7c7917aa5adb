use Rattle.std.proofs.Common.{[], ◌∷◌, ◌∙◌, inl, inr}
use Rattle.command_files.specs.Calls.{putting}
use Rattle.command_files.specs.Sources.{source_bytes}
use Rattle.command_files.proofs.CallLemmas.{unwritable_puts}
use Rattle.command_files.proofs.CommitLemmas.{none_of_three, three_put}
use Rattle.command_files.proofs.desk_calls.commit_three.Goals as goal

pub returns-then-fails_to_flush-clause-ends : goal.returns-then-fails_to_flush-clause-ends
returns-then-fails_to_flush-clause-ends g c one two three =
    unwritable_puts (putting c.args.begun.first.name.now (source_bytes c.args.sources.first) ∷ putting c.args.begun.second.name.now (source_bytes c.args.sources.second) ∷ putting c.args.begun.third.name.now (source_bytes c.args.sources.third) ∷ []) _ _ _ _
    (c.commit_failed.ensures.ends (c.args.begun.first.name.now ∷ c.args.begun.second.name.now ∷ c.args.begun.third.name.now ∷ [])
    (inl (c.fails_to_flush.ensures.name ∙ c.append_source.ensures.name)))

pub returns-then-fails_to_flush-2-clause-ends : goal.returns-then-fails_to_flush-2-clause-ends
returns-then-fails_to_flush-2-clause-ends g c one two three =
    unwritable_puts (putting c.args.begun.first.name.now (source_bytes c.args.sources.first) ∷ putting c.args.begun.second.name.now (source_bytes c.args.sources.second) ∷ putting c.args.begun.third.name.now (source_bytes c.args.sources.third) ∷ []) _ _ _ _
    (c.commit_failed-then-fails_to_flush-2.ensures.ends (c.args.begun.first.name.now ∷ c.args.begun.second.name.now ∷ c.args.begun.third.name.now ∷ [])
    (inr (inl (c.fails_to_flush-2.ensures.name ∙ c.append_source-2.ensures.name))))

pub returns-then-fails_to_flush-3-clause-ends : goal.returns-then-fails_to_flush-3-clause-ends
returns-then-fails_to_flush-3-clause-ends g c one two three =
    unwritable_puts (putting c.args.begun.first.name.now (source_bytes c.args.sources.first) ∷ putting c.args.begun.second.name.now (source_bytes c.args.sources.second) ∷ putting c.args.begun.third.name.now (source_bytes c.args.sources.third) ∷ []) _ _ _ _
    (c.commit_failed-then-fails_to_flush-3.ensures.ends (c.args.begun.first.name.now ∷ c.args.begun.second.name.now ∷ c.args.begun.third.name.now ∷ [])
    (inr (inr (inl (c.fails_to_flush-3.ensures.name ∙ c.append_source-3.ensures.name)))))

pub returns-clause-ends : goal.returns-clause-ends
returns-clause-ends g c one two three =
    three_put _ _ _ _ _ _ _ _ (source_bytes c.args.sources.first) (source_bytes c.args.sources.second) (source_bytes c.args.sources.third) c.args.line.now
    (g.D.Desk.view c.args.desk.now) (g.D.Desk.view c.commit.new.desk) (g.D.Desk.view c.commit_then.new.desk) _ c.commit_then.result
    (c.fails_to_flush.ensures.name ∙ c.append_source.ensures.name) (c.fails_to_flush-2.ensures.name ∙ c.append_source-2.ensures.name)
    (c.fails_to_flush-3.ensures.name ∙ c.append_source-3.ensures.name)
    c.in-Ok.ensures.ends (c.fails_to_flush.ensures.has _ (c.append_source.ensures.has [] one))
    (c.commit_then.ensures.ends _ _ (c.fails_to_flush-2.ensures.has _ (c.append_source-2.ensures.has [] two)) (c.fails_to_flush-3.ensures.has _ (c.append_source-3.ensures.has [] three)))

pub returns-in-Err-clause-ends : goal.returns-in-Err-clause-ends
returns-in-Err-clause-ends g c one two three =
    none_of_three (g.B.BegunFile.has c.fails_to_flush.new.self.file) (g.B.BegunFile.failed c.fails_to_flush.new.self.file) _ _ _ _ _ _ (source_bytes c.args.sources.first) (source_bytes c.args.sources.second) (source_bytes c.args.sources.third) c.args.line.now
    (g.D.Desk.view c.args.desk.now) (g.D.Desk.view c.commit.new.desk) c.in-Err.outcome
    (c.fails_to_flush.ensures.name ∙ c.append_source.ensures.name) (c.fails_to_flush-2.ensures.name ∙ c.append_source-2.ensures.name)
    (c.fails_to_flush-3.ensures.name ∙ c.append_source-3.ensures.name) c.in-Err.ensures.ends
