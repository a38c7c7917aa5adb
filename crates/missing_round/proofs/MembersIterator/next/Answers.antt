use Rattle.std.proofs.Common.{◌≡◌, ◌∙◌, sym, arith}
use Rattle.std.proofs.lemmas.Grind.{common_steps}
use Rattle.missing_round.proofs.BlockLemmas.{members-next, members-none}
use Rattle.missing_round.proofs.MembersIterator.next.Goals as goal

pub returns-then-block-ne0-clause-steps : goal.returns-then-block-ne0-clause-steps
returns-then-block-ne0-clause-steps c =
    sym c.loop-self.invariant.1 ∙ members-next c.loop-self.self-inside.blocks c.loop-self.self-inside.at c.loop-self.invariant.0 (omega arith) c.if-block-ne0.true

pub returns-then-block-ne0-clause-goes : goal.returns-then-block-ne0-clause-goes
returns-then-block-ne0-clause-goes c = grind (arith, common_steps, c.loop-self.invariant.1, members-next c.loop-self.self-inside.blocks c.loop-self.self-inside.at c.loop-self.invariant.0 (omega arith) c.if-block-ne0.true)

pub returns-clause-steps : goal.returns-clause-steps
returns-clause-steps c =
    let e : _ ≡ _ = members-none c.loop-self.self-inside.blocks c.loop-self.self-inside.at c.loop-self.invariant.0 (omega arith) in
    (sym c.loop-self.invariant.1 ∙ e, e)
