use Rattle.std.proofs.Common.{◌∙◌, refl}
use Rattle.file_commands.proofs.PublicEndings.{line_is, public_ends, public_refused}
use Rattle.file_commands.proofs.publishing.public.Goals as goal

pub returns-in-Err-plan_in-clause-ends : goal.returns-in-Err-plan_in-clause-ends
returns-in-Err-plan_in-clause-ends g c =
    public_refused _ _ _ _ _ _ _ c.in-Ok.ensures.ends.0 c.in-Ok.ensures.ends.1 c.deref.ensures.value c.in-Err-plan_in.ensures.refused

pub returns-clause-ends : goal.returns-clause-ends
returns-clause-ends g c =
    public_ends _ _ _ _ _ _ _ _ _ _ _ c.in-Ok.ensures.ends.0 c.in-Ok.ensures.ends.1 c.deref.ensures.value c.in-Ok-plan_in.ensures.value
    (c.as_slice.ensures.value ∙ c.in-Ok-public_text.ensures)
    (line_is _ _ _ _ _ _ (c.as_bytes.ensures.value ∙ c.in-Ok-public_line.ensures) refl c.groups.ensures.groups c.rounds.ensures.rounds) c.put_one.ensures.ends
