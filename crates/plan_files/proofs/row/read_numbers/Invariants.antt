use Rattle.std.proofs.Common.{◌≡◌, ◌≤◌, ◌+◌, ◌-◌, length}
use Rattle.field_texts.specs.Sets.{ahead}
use Rattle.plan_files.specs.Registers.{numbers_of}
use Rattle.plan_files.proofs.row.read_numbers.Given as goal

-- the numbers so far, and those that are to come, are those of the text
abbrev pub invariant-loop-done : goal.invariant-loop-done
invariant-loop-done l = record {
  turns : l._done + 1 ≤ l.count;
  long : length l.numbers.items ≡ l._done;
  so_far : ahead l.numbers.items (numbers_of (l.count - l._done) l.rest) ≡ numbers_of l.count l.fn.text;
}
