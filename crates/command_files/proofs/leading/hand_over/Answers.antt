use Rattle.std.proofs.Common.{◌≡◌, ◌<◌, ◌++◌, ◌∷◌, [], ap, ◌∙◌, arith, length}
use Rattle.rtrb.specs.Ring.{sent}
use Rattle.tick_run.specs.Runs.{told_by}
use Rattle.command_files.proofs.AheadLemmas.{handed-more}
use Rattle.command_files.proofs.leading.hand_over.Goals as goal

pub returns-clause-handed : goal.returns-clause-handed
returns-clause-handed g c = λ first are.
    let before = sent c.args.parts.now.ring in
    let given : sent c.give.new.self.ring ≡ before ++ c.in_ok-part.part ∷ [] = c.give.ensures.sent ∙ ap (λ l. l ++ c.in_ok-part.part ∷ []) c.has_room.ensures.ring.1 in
    let some : c.args.handed < length c.args.run.now.entries = omega (arith, c.if-new-enough.false, c.requires.enough, c.len.ensures, c.requires.handed) in
    handed-more first c.args.handed c.len-2.result (told_by c.args.run.now) c.in_ok-part.part before (sent c.give.new.self.ring) given c.in_ok-part.ensures some c.len-2.ensures are
