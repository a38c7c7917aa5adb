use Rattle.std.proofs.Common.{ℕ, ◌<◌, Vec, length}
use Rattle.std.specs.declared.alloc.Global.{Global}
use Rattle.std.proofs.lemmas.List.Elements.{All-rest}
use Rattle.transcript_text.proofs.pieces.take_first.Goals as goal

pub returns-in-Some-clause-filled : goal.returns-in-Some-clause-filled
returns-in-Some-clause-filled c =
    All-rest (λ (piece : Vec ℕ Global). 0 < length piece.items) c.in-Some.first c.pop_front.new.self.items c.args.pieces.now.items c.in-Some.ensures.items c.requires
