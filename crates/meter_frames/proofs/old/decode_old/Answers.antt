use Rattle.std.proofs.Common.{arith}
use Rattle.meter_frames.proofs.OldFrameLemmas.{decodes_old, read_old-spelling}
use Rattle.meter_frames.proofs.old.decode_old.Goals as goal

pub returns-clause-decodes : goal.returns-clause-decodes
returns-clause-decodes c = decodes_old c.read_old.result c.args.bytes.now (λ i. omega (arith, c.type_inv.bytes i)) c.read_old.ensures

pub returns-clause-only : goal.returns-clause-only
returns-clause-only c = read_old-spelling c.read_old.result c.args.bytes.now c.read_old.ensures
