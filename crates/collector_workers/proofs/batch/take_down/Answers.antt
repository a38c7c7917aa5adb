use Rattle.std.proofs.Common.{◌+◌, ◌++◌, ◌∷◌, [], List, take, get_or, ap, sym, ◌∙◌, arith, append_assoc}
use Rattle.event_schedule.specs.declared.Line.{Line}
use Rattle.collector_workers.specs.declared.mark.Mark.{Mark}
use Rattle.collector_workers.specs.declared.outcome.Outcome.{Outcome}
use Rattle.collector_workers.specs.Outcomes.{lines_told, line_before}
use Rattle.collector_workers.proofs.Told.{own_line, told_next, marks_next}
use Rattle.collector_workers.proofs.batch.take_down.Goals as goal

pub add_line-requires-clause-own : goal.add_line-requires-clause-own
add_line-requires-clause-own c = own_line c.args.outcomes.now c.loop-place.place c.index-outcomes-place.result c.loop-place-test.true c.requires.own

pub loop-place-preserved : goal.loop-place-preserved
loop-place-preserved c =
    let i = c.loop-place.invariant in
    let lt = c.loop-place-test.true in
    let xs : List Outcome = c.args.outcomes.now in
    let a = c.add_line.ensures in
    let p = c.push_reserved.ensures in
    let spare = i.spare in
    let less = a.spare in record {
      lines = a.items ∙ ap (λ (ls : List Line). ls ++ line_before (get_or xs c.loop-place.place c.index-outcomes-place.result).line []) i.lines
          ∙ append_assoc c.args.lines.now.items (lines_told (take c.loop-place.place xs)) (line_before (get_or xs c.loop-place.place c.index-outcomes-place.result).line [])
          ∙ ap (λ (ls : List Line). c.args.lines.now.items ++ ls) (sym (told_next xs c.loop-place.place c.index-outcomes-place.result lt));
      marks = p.items ∙ ap (λ (ms : List Mark). ms ++ (get_or xs c.loop-place.place c.index-outcomes-place-in-loop-place.result).mark ∷ []) i.marks ∙ sym (marks_next xs c.loop-place.place c.index-outcomes-place-in-loop-place.result lt);
      spare = omega arith;
      long = p.len ∙ ap (λ k. k + 1) i.long;
      room = p.capacity ∙ i.room;
    }
