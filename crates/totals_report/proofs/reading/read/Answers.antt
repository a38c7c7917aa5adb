use Rattle.std.proofs.Common.{sym}
use Rattle.totals_report.proofs.LineLemmas.{heading_read, heading_wrong}
use Rattle.totals_report.proofs.reading.read.Goals as goal

pub returns-then-eq : goal.returns-then-eq
returns-then-eq c = rw (heading_read c.args.bytes.now c.in-Some.heading.now c.in-Some.rest.now c.in-Some.ensures.0 (sym c.if-eq.ensures)) c.rows.ensures

pub returns-else-eq : goal.returns-else-eq
returns-else-eq c = heading_wrong c.args.bytes.now c.in-Some.heading.now c.in-Some.rest.now c.in-Some.ensures.0 (sym c.if-eq.ensures)
