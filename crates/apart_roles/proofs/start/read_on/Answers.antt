use Rattle.std.proofs.Common.{subst, inr, Ok}
use Rattle.apart_roles.specs.Inputs.{follow_came}
use Rattle.apart_roles.specs.Starts.{GoesThrough}
use Rattle.apart_roles.proofs.start.read_on.Goals as goal

pub returns-in-Err-trim : goal.returns-in-Err-trim
returns-in-Err-trim g c fixed first =
    let follow = follow_came g.R.Role.reads (g.R.Role.can fixed) in
    let ready = subst (λ s. GoesThrough follow (g.R.Role.is_in fixed) c.args.first (g.W.Wire.view c.args.wire.now) (g.W.Wire.view c.follow.new.wire) (Ok s)) c.in-Ok-Ready.field-0-is (c.in-Ok-Ready.ensures fixed first) in
    inr (record { role = c.in-Ok-Ready.role; view = g.W.Wire.view c.follow.new.wire; ready = ready; stops = c.in-Err-trim.ensures })
