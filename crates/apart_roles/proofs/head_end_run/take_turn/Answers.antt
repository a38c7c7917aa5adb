use Rattle.apart_roles.proofs.HeadEndRunLemmas.{end_taken, line_taken, long_taken, rest_taken}
use Rattle.apart_roles.proofs.head_end_run.take_turn.Goals as goal

pub returns-in-Ok-Line : goal.returns-in-Ok-Line
returns-in-Ok-Line g c plan journal after =
    line_taken plan journal c.in-Ok-Line.field-0 c.hear.new.line.items c.deref.result.now (g.W.Wire.view c.args.wire.now) (g.W.Wire.view c.hear.new.self) (g.W.Wire.view c.answer_line.new.wire)
    c.answer_line.result c.answer_line.new.head c.in-Ok-Line.field-0-is c.in-Ok-Line.ensures c.deref.ensures.value (c.answer_line.ensures plan journal after)

pub returns-in-Ok-TooLong : goal.returns-in-Ok-TooLong
returns-in-Ok-TooLong g c plan journal after =
    long_taken plan journal c.in-Ok-TooLong.field-0 c.hear.new.line.items (g.W.Wire.view c.args.wire.now) (g.W.Wire.view c.hear.new.self) (g.W.Wire.view c.answer_long.new.wire) c.answer_long.result c.args.head.now
    c.in-Ok-TooLong.field-0-is c.in-Ok-TooLong.ensures (c.answer_long.ensures plan journal after)

pub returns-in-Ok-Rest : goal.returns-in-Ok-Rest
returns-in-Ok-Rest g c plan journal after =
    rest_taken plan journal c.in-Ok-Rest.field-0 c.hear.new.line.items (g.W.Wire.view c.args.wire.now) (g.W.Wire.view c.hear.new.self) c.args.head.now after c.in-Ok-Rest.field-0-is c.in-Ok-Rest.ensures

pub returns-in-Ok-End : goal.returns-in-Ok-End
returns-in-Ok-End g c plan journal after =
    end_taken plan journal c.in-Ok-End.field-0 c.hear.new.line.items (g.W.Wire.view c.args.wire.now) (g.W.Wire.view c.hear.new.self) c.args.head.now after c.in-Ok-End.field-0-is c.in-Ok-End.ensures
