use Rattle.std.proofs.Common.{ℕ, sym, subst}
use Rattle.std.specs.Prelude.{Option}
use Rattle.tick_run.specs.GroupRuns.{Calls, end_of}
use Rattle.tick_run.proofs.GroupCalls.{ends-one}
use Rattle.tick_run.proofs.group_tick.end_one.Goals as goal

pub returns-in-Some : goal.returns-in-Some
returns-in-Some c = λ p j rep.
    subst (λ (o : Option ℕ). Calls p j (end_of c.args.pages.now.group o) c.args.lines.now c.args.pages.now.group c.end-ending.new.self c.end-ending.new.lines) (sym c.in-Some.is)
    (ends-one p j c.in-Some.round c.args.lines.now c.args.pages.now.group c.end-ending.new.self c.end-ending.new.lines c.end-ending.result (c.end-ending.ensures p j rep))
