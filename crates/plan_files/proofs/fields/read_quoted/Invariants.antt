use Rattle.std.proofs.Common.{◌≡◌, ◌≤◌, ℕ, List, drop, length, take}
use Rattle.plan_files.specs.Fields.{field_from, first_field, state_of}
use Rattle.plan_files.proofs.fields.read_quoted.Given as goal

-- the field is read so far
abbrev pub invariant-loop-at : goal.invariant-loop-at
invariant-loop-at l = record {
  said : (text : List ℕ) × (first_field l.bytes ≡ field_from (state_of l.place) text (drop l.at l.bytes)) × (l.text.items ≡ take l.most text) × (length text ≤ l.at);
}
