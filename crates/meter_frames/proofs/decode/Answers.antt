use Rattle.std.proofs.Common.{arith}
use Rattle.meter_frames.proofs.FrameLemmas.{decodes, read-spelling}
use Rattle.meter_frames.proofs.decode.Goals as goal

pub returns-clause-decodes : goal.returns-clause-decodes
returns-clause-decodes c = decodes c.read.result c.args.bytes.now (λ i. omega (arith, c.type_inv.bytes i)) c.read.ensures

pub returns-clause-only : goal.returns-clause-only
returns-clause-only c = read-spelling c.read.result c.args.bytes.now c.read.ensures
