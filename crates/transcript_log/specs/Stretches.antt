-- How a list of stamps is kept: equal ones one after another once, with their number.
use Rattle.std.specs.Prelude.{List, replicate}
use Rattle.std.specs.List.{flat_map}
use Rattle.transcript_log.specs.declared.transcript.Stamp.{Stamp}
use Rattle.transcript_log.specs.declared.stretches.Stretch.{Stretch}

-- the stamps that stretches stand for: of each as many as its count says
abbrev pub stamps_in : List Stretch → List Stamp
stamps_in stretches = flat_map (λ s. replicate s.count s.stamp) stretches
