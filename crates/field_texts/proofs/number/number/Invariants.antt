use Rattle.std.proofs.Common.{◌≡◌, ◌<◌, ◌^◌, drop}
use Rattle.field_texts.specs.Numbers.{number_of}
use Rattle.field_texts.proofs.Digits.{number_after}
use Rattle.field_texts.proofs.number.number.Given as goal

abbrev pub invariant-loop-digit : goal.invariant-loop-digit
invariant-loop-digit l = record { fits : l.number < 2 ^ 64; so_far : number_of l.text ≡ number_after l.number (drop l.digit-index l.text) }
