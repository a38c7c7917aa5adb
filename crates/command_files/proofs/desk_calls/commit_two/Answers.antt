use Rattle.std.proofs.Common.{[], ◌∷◌, ◌∙◌, inl, inr}
use Rattle.command_files.specs.Calls.{putting}
use Rattle.command_files.specs.Sources.{source_bytes}
use Rattle.command_files.proofs.CallLemmas.{unwritable_puts}
use Rattle.command_files.proofs.desk_calls.commit_two.Goals as goal

pub returns-then-fails_to_flush-clause-ends : goal.returns-then-fails_to_flush-clause-ends
returns-then-fails_to_flush-clause-ends g c one has_one none =
    unwritable_puts (putting c.args.first.name.now one ∷ putting c.args.second.begun.name.now (source_bytes c.args.second.source) ∷ []) _ _ _ _
    (c.commit_failed.ensures.ends (c.args.first.name.now ∷ c.args.second.begun.name.now ∷ []) (inl c.fails_to_flush.ensures.name))

pub returns-then-fails_to_flush-2-clause-ends : goal.returns-then-fails_to_flush-2-clause-ends
returns-then-fails_to_flush-2-clause-ends g c one has_one none =
    unwritable_puts (putting c.args.first.name.now one ∷ putting c.args.second.begun.name.now (source_bytes c.args.second.source) ∷ []) _ _ _ _
    (c.commit_failed-then-fails_to_flush-2.ensures.ends (c.args.first.name.now ∷ c.args.second.begun.name.now ∷ [])
    (inr (inl (c.fails_to_flush-2.ensures.name ∙ c.append_source.ensures.name))))
