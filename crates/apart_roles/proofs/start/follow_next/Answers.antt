use Rattle.std.proofs.Common.{inl, inr}
use Rattle.apart_roles.specs.Inputs.{follow_came}
use Rattle.apart_roles.proofs.StartLemmas.{line_recalled, long_recalled, none_recalled}
use Rattle.apart_roles.proofs.start.follow_next.Goals as goal

pub returns-in-Ok-Line : goal.returns-in-Ok-Line
returns-in-Ok-Line g c fixed journal after =
    line_recalled g.R.Role.reads (g.R.Role.can fixed) (g.R.Role.is_in fixed) journal c.in-Ok-Line.field-0 c.recall.new.line.items c.deref.result.now (g.W.Wire.view c.args.wire.now)
    (g.W.Wire.view c.recall.new.self) c.follow_line.result c.follow_line.new.self c.in-Ok-Line.field-0-is c.in-Ok-Line.ensures c.deref.ensures.value (c.follow_line.ensures fixed journal after)

pub returns-in-Ok-TooLong : goal.returns-in-Ok-TooLong
returns-in-Ok-TooLong g c fixed journal after =
    long_recalled g.R.Role.reads (g.R.Role.can fixed) (g.R.Role.is_in fixed) journal c.in-Ok-TooLong.field-0 c.recall.new.line.items (g.W.Wire.view c.args.wire.now) (g.W.Wire.view c.recall.new.self)
    c.args.role.now c.in-Ok-TooLong.field-0-is c.in-Ok-TooLong.ensures

pub returns-in-Ok-Rest : goal.returns-in-Ok-Rest
returns-in-Ok-Rest g c fixed journal after =
    none_recalled (follow_came g.R.Role.reads (g.R.Role.can fixed)) (g.R.Role.is_in fixed) journal c.in-Ok-Rest.field-0 c.recall.new.line.items (g.W.Wire.view c.args.wire.now)
    (g.W.Wire.view c.recall.new.self) c.args.role.now after (inl c.in-Ok-Rest.field-0-is) c.in-Ok-Rest.ensures

pub returns-in-Ok-End : goal.returns-in-Ok-End
returns-in-Ok-End g c fixed journal after =
    none_recalled (follow_came g.R.Role.reads (g.R.Role.can fixed)) (g.R.Role.is_in fixed) journal c.in-Ok-End.field-0 c.recall.new.line.items (g.W.Wire.view c.args.wire.now)
    (g.W.Wire.view c.recall.new.self) c.args.role.now after (inr c.in-Ok-End.field-0-is) c.in-Ok-End.ensures
