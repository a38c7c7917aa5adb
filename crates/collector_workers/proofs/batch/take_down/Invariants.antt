use Rattle.std.proofs.Common.{◌≡◌, ◌≤◌, ◌+◌, ◌++◌, take, map, length, vec_capacity, vec_len}
use Rattle.collector_workers.specs.Outcomes.{lines_told}
use Rattle.collector_workers.proofs.batch.take_down.Given as goal

abbrev pub invariant-loop-place : goal.invariant-loop-place
invariant-loop-place l = record {
  lines : l.lines.items ≡ l.fn.lines.items ++ lines_told (take l.place l.outcomes);
  marks : l.marks.items ≡ map (λ x. x.mark) (take l.place l.outcomes);
  spare : length l.outcomes ≤ l.place + l.lines.spare;
  long : vec_len l.marks ≡ l.place;
  room : vec_capacity l.marks ≡ vec_capacity l.fn.marks;
}
