use Rattle.std.proofs.Common.{◌∙◌, refl, sym}
use Rattle.file_commands.proofs.PartsEndings.{parts_refused, no_group, parts_ends}
use Rattle.file_commands.proofs.part_files.parts.Goals as goal

pub returns-in-Err-plan_in-clause-ends : goal.returns-in-Err-plan_in-clause-ends
returns-in-Err-plan_in-clause-ends g c =
    parts_refused _ _ _ _ _ _ _ _ c.in-Ok.ensures.ends.0 c.in-Ok.ensures.ends.1 c.deref.ensures.value c.in-Err-plan_in.ensures.refused

pub returns-then-has_group-clause-ends : goal.returns-then-has_group-clause-ends
returns-then-has_group-clause-ends g c =
    parts_ends _ _ _ _ _ _ _ _ _ _ c.in-Ok.ensures.ends.0 c.in-Ok.ensures.ends.1 c.deref.ensures.value c.in-Ok-plan_in.ensures.value (sym c.has_group.ensures ∙ c.if-has_group.true)
    c.put_and_say.ensures.ends

pub returns-clause-ends : goal.returns-clause-ends
returns-clause-ends g c =
    no_group c.args.words.plan.now c.args.words.group c.args.words.prefix.now _ _ c.args.words.plan _ _ _ c.in-Ok.ensures.ends.0 c.in-Ok.ensures.ends.1 c.deref.ensures.value c.in-Ok-plan_in.ensures.value refl
    (sym c.has_group.ensures ∙ c.if-has_group.false)
