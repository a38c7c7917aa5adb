use Rattle.std.proofs.Common.{inl, inr, subst, ⊎_elim}
use Rattle.desk_outside.specs.Desk.{Rose}
use Rattle.command_words.specs.Commands.{collect_names_of}
use Rattle.role_commands.proofs.EndLemmas.{collected, rose_behind}
use Rattle.role_commands.proofs.collecting.collect.Goals as goal

pub returns-clause-ends : goal.returns-clause-ends
returns-clause-ends g c =
    let plan = c.in-Ok.value in
    collected (collect_names_of c.args.files) (g.D.Desk.view c.args.desk.now) (g.D.Desk.view c.fetch_plan.new.desk) (g.D.Desk.view c.take_turns.new.desk) (g.W.Wire.view c.args.wire.now)
    (g.W.Wire.view c.start.new.wire) (g.W.Wire.view c.take_turns.new.wire) plan c.in-Ok-start.value c.take_turns.result c.in-Ok.ensures.ends c.in-Ok-start.ensures.ends
    (λ journal after. c.take_turns.ensures.ends plan journal after)

pub returns-clause-cause : goal.returns-clause-cause
returns-clause-cause g c fault =
    let later = (g.W.Wire.view c.take_turns.new.wire).faults in
    ⊎_elim
    (λ rose. inl (rose_behind (g.D.Desk.faults c.args.desk.now) (g.D.Desk.faults c.fetch_plan.new.desk) (g.D.Desk.faults c.take_turns.new.desk) c.fetch_plan.ensures.later rose))
    (λ rose. inr (subst (λ n. Rose n later) c.in-Ok-start.ensures.calm rose))
    (c.take_turns.ensures.cause fault)
