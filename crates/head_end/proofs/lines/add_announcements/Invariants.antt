use Rattle.std.proofs.Common.{◌≡◌, ◌++◌, map}
use Rattle.head_end.specs.Lines.{announcement}
use Rattle.head_end.proofs.lines.add_announcements.Given as goal

abbrev pub invariant-loop-meter : goal.invariant-loop-meter
invariant-loop-meter l =
    l.lines.items ++ map (announcement l.group l.round l.missing) l.meter-iterator ≡ l.fn.lines.items ++ map (announcement l.group l.round l.missing) l.fn.to
