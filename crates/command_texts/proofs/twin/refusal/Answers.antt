use Rattle.std.proofs.Common.{Err, subst}
use Rattle.twin_worlds.specs.declared.answers.PoolTwinError.{PoolTwinError}
use Rattle.command_texts.specs.Pooled.{PooledCompared}
use Rattle.command_texts.proofs.twin.refusal.Goals as goal

pub returns-in-Other-clause-ends : goal.returns-in-Other-clause-ends
returns-in-Other-clause-ends c known names bytes named compared =
    c.world_refusal.ensures.pooled known names bytes named (subst (λ (error : PoolTwinError). PooledCompared known bytes (Err error)) c.in-Other.is compared)
