use Rattle.std.proofs.Common.{◌∙◌, ap, arith}
use Rattle.lossy_link.specs.Arrivals.{due_at, due_elsewhere}
use Rattle.lossy_link.proofs.CallLemmas.{taken_out}
use Rattle.lossy_link.proofs.WaitingLemmas.{copies_at}
use Rattle.lossy_link.proofs.Link.due.Goals as goal

pub overflow_sub-self : goal.overflow_sub-self
overflow_sub-self c =
    let out = taken_out c.args.tick c.self.inside.waiting.entries c.remove.new.self.entries c.in-Some.copies.items c.self.inside.left c.self.invariant (ap copies_at c.in-Some.ensures.value) c.in-Some.ensures.entries in
    omega (arith, out.2, c.in-Some.copies.ok.0)

pub invariant_of-self-in-Some : goal.invariant_of-self-in-Some
invariant_of-self-in-Some c =
    let out = taken_out c.args.tick c.self.inside.waiting.entries c.remove.new.self.entries c.in-Some.copies.items c.self.inside.left c.self.invariant (ap copies_at c.in-Some.ensures.value) c.in-Some.ensures.entries in
    record { ordered = c.in-Some.ensures.ordered; counted = omega (arith, out.2, out.3, c.in-Some.copies.ok.0) }

pub returns-in-None : goal.returns-in-None
returns-in-None c =
    let out = taken_out c.args.tick c.self.inside.waiting.entries c.remove.new.self.entries c.new.result.items c.self.inside.left c.self.invariant (c.new.ensures.items ∙ ap copies_at c.in-None.ensures.value) c.in-None.ensures.entries in
    (out.0 ∙ ap (due_at c.args.tick) c.self.view_is, out.1 ∙ ap (due_elsewhere c.args.tick) c.self.view_is)

pub returns-in-Some : goal.returns-in-Some
returns-in-Some c =
    let out = taken_out c.args.tick c.self.inside.waiting.entries c.remove.new.self.entries c.in-Some.copies.items c.self.inside.left c.self.invariant (ap copies_at c.in-Some.ensures.value) c.in-Some.ensures.entries in
    (out.0 ∙ ap (due_at c.args.tick) c.self.view_is, out.1 ∙ ap (due_elsewhere c.args.tick) c.self.view_is)
