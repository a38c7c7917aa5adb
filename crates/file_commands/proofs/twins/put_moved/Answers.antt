use Rattle.std.proofs.Common.{ap, length, ◌∙◌}
use Rattle.file_commands.proofs.TwinEndings.{moved_are_said}
use Rattle.file_commands.proofs.twins.put_moved.Goals as goal

pub returns-clause-ends : goal.returns-clause-ends
returns-clause-ends g c =
    moved_are_said c.args.verb.now c.args.name.now c.args.moved.now _ _ _ _ _ _ (c.as_slice.ensures.value ∙ c.in-Ok.ensures) (c.as_bytes.ensures.value ∙ c.in-Ok-counted_line.ensures)
    (ap length c.rows.ensures) c.put_one.ensures.ends
