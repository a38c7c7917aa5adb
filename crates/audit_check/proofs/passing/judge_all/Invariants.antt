use Rattle.std.proofs.Common.{◌≡◌, List}
use Rattle.event_schedule.specs.declared.Entry.{Entry}
use Rattle.transcript_text.specs.Reading.{before}
use Rattle.audit_check.specs.Passes.{Judges}
use Rattle.audit_check.proofs.passing.judge_all.Given as goal

-- these entries are judged too, and the others are left
abbrev pub invariant-batches : goal.invariant-batches
invariant-batches g l = (es : List Entry) × (before es l.reader.left ≡ l.fn.reader.left) × (l.reader.plan ≡ l.fn.reader.plan) × Judges l.fn.pass es l.pass

abbrev pub decreases-batches : goal.decreases-batches
decreases-batches g l = l.reader.most
