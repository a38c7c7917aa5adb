use Rattle.std.proofs.Common.{length, ◌≡◌, ◌++◌, map, take}
use Rattle.field_texts.specs.Parts.{parts}
use Rattle.transcript_text.proofs.cut.split_fields.Given as goal

abbrev pub invariant-loop-i : goal.invariant-loop-i
invariant-loop-i l = record { long : length l.at ≡ 8; so_far : parts 44 l.line ≡ map (λ s. s.now) (take l.i l.at) ++ parts 44 l.rest }
