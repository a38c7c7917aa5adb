use Rattle.std.proofs.Common.{◌∙◌, ap, refl, List, [], Some}
use Rattle.desk_outside.specs.declared.desk.DeskCall.{DeskCall}
use Rattle.desk_outside.specs.Memory.{view_of}
use Rattle.desk_outside.proofs.Steps.{nothing_complained}
use Rattle.desk_outside.proofs.memory.MemoryDeskDesk.complain.Goals as goal

pub returns-then-take-clause-ends : goal.returns-then-take-clause-ends
returns-then-take-clause-ends c =
    let noted = ap (λ (calls : List DeskCall). record (view_of c.args.self.now) { calls = Some calls }) c.in_ok-note.ensures.ok in
    ([], (0, refl), noted ∙ nothing_complained (view_of c.args.self.now))
