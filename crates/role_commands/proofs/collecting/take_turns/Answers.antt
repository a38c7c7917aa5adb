use Rattle.std.proofs.Common.{ℕ, ◌≡◌, ◌≤◌, arith, inl, inr, ◌∙◌, sym, subst, refl, ⊎_elim}
use Rattle.std.specs.Prelude.{Ok}
use Rattle.desk_outside.specs.Desk.{Rose}
use Rattle.command_words.specs.Commands.{collect_names_of}
use Rattle.role_commands.specs.CollectEnds.{place}
use Rattle.role_commands.specs.Parts.{TakesTurn}
use Rattle.role_commands.proofs.CourseLemmas.{course_over, course_stopped, once_more}
use Rattle.role_commands.proofs.collecting.take_turns.Goals as goal

pub loop-turn-preserved : goal.loop-turn-preserved
loop-turn-preserved g c =
    let before = c.loop-turn.invariant in
    let came = c.in-Ok-Report in (
      came.ensures.onward,
      (let first = before.1 in let then = c.take_turn.ensures.later in omega (arith, first, then)),
      came.ensures.calm ∙ before.2,
      λ plan journal after.
          let has = before.3 plan journal after in
          once_more plan (collect_names_of c.args.files) journal (g.D.Desk.view c.args.desk.now) (g.D.Desk.view c.loop-turn.desk) (g.D.Desk.view c.take_turn.new.desk) (g.W.Wire.view c.args.wire.now)
          (g.W.Wire.view c.loop-turn.wire) (g.W.Wire.view c.take_turn.new.wire) c.loop-turn.head c.take_turn.new.head has came.field-0 came.field-0-is (came.ensures.ends plan has.last has.after),
    )

pub returns-in-Ok-Over-clause-ends : goal.returns-in-Ok-Over-clause-ends
returns-in-Ok-Over-clause-ends g c plan journal after =
    let came = c.in-Ok-Over in
    let has = c.loop-turn.invariant.3 plan journal after in
    course_over plan (collect_names_of c.args.files) journal (g.D.Desk.view c.args.desk.now) (g.D.Desk.view c.loop-turn.desk) (g.D.Desk.view c.take_turn.new.desk) (g.W.Wire.view c.args.wire.now)
    (g.W.Wire.view c.loop-turn.wire) (g.W.Wire.view c.take_turn.new.wire) c.loop-turn.head c.take_turn.new.head has came.field-0 came.field-0-is (came.ensures.ends plan has.last has.after)

pub returns-in-Err-clause-ends : goal.returns-in-Err-clause-ends
returns-in-Err-clause-ends g c plan journal after =
    let has = c.loop-turn.invariant.3 plan journal after in
    course_stopped plan (collect_names_of c.args.files) journal (g.D.Desk.view c.args.desk.now) (g.D.Desk.view c.loop-turn.desk) (g.D.Desk.view c.take_turn.new.desk) (g.W.Wire.view c.args.wire.now)
    (g.W.Wire.view c.loop-turn.wire) (g.W.Wire.view c.take_turn.new.wire) c.loop-turn.head c.take_turn.new.head c.in-Err.outcome has (c.in-Err.ensures.ends plan has.last has.after)
