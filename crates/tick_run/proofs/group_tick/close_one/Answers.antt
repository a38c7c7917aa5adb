use Rattle.std.proofs.Common.{ℕ, sym, subst}
use Rattle.std.specs.Prelude.{Option}
use Rattle.tick_run.specs.GroupRuns.{Calls, close_of}
use Rattle.tick_run.proofs.GroupCalls.{closes-one}
use Rattle.tick_run.proofs.group_tick.close_one.Goals as goal

pub returns-in-Some-clause-calls : goal.returns-in-Some-clause-calls
returns-in-Some-clause-calls c = λ p j rep.
    subst (λ (o : Option ℕ). Calls p j (close_of c.args.pages.now.group o) c.args.lines.now c.args.pages.now.group c.close-closing.new.self c.close-closing.new.lines) (sym c.in-Some.is)
    (closes-one p j c.in-Some.round c.args.lines.now c.args.pages.now.group c.close-closing.new.self c.close-closing.new.lines c.close-closing.result (c.close-closing.ensures p j rep))
