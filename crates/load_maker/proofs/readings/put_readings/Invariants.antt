use Rattle.std.proofs.Common.{◌≡◌, ◌++◌, ◌*◌}
use Rattle.load_maker.specs.Drawing.{ahead}
use Rattle.load_maker.specs.Writing.{fields_text}
use Rattle.load_maker.proofs.readings.put_readings.Given as goal

-- the fields so far are written
abbrev pub invariant-loop-meter : goal.invariant-loop-meter
invariant-loop-meter l = record {
  written : l.out.items ≡ l.fn.out.items ++ fields_text l.fn.stream l._meter;
  stream : l.stream ≡ ahead l.fn.stream (2 * l._meter);
}
