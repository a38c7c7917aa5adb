use Rattle.std.proofs.Common.{◌≡◌, None, length}
use Rattle.std.specs.Prelude.{is_some}
use Rattle.field_texts.specs.Parts.{parts}
use Rattle.command_words.specs.Known.{ascending}
use Rattle.command_words.proofs.known.names_meters.Given as goal

-- the rest names meters behind the last one exactly where the word names meters
abbrev pub invariant-loop-part : goal.invariant-loop-part
invariant-loop-part l = is_some (ascending l.last (parts 43 l.rest)) ≡ is_some (ascending None (parts 43 l.fn.word))

abbrev pub decreases-loop-part : goal.decreases-loop-part
decreases-loop-part l = length l.rest
