use Rattle.std.proofs.Common.{sym, ◌∙◌}
use Rattle.audit_check.proofs.MeetLemmas.{none_met, old_met, present_met, absent_met}
use Rattle.audit_check.proofs.replay.Replay.meet.Goals as goal

pub returns-in_default-clause-meets : goal.returns-in_default-clause-meets
returns-in_default-clause-meets c =
    let is = c.requires.replay in
    none_met c.args.self.now.rounds c.args.line.now c.args.self.now.seen is.shape is.seen c.in_default.ensures

pub returns-then-not-is_first-clause-meets : goal.returns-then-not-is_first-clause-meets
returns-then-not-is_first-clause-meets c =
    let is = c.requires.replay in
    let sends = c.in-Some.ensures in
    old_met c.args.self.now.rounds c.args.line.now c.args.self.now.seen is.shape is.seen c.in-Some.tag sends.0 sends.1 (sym c.is_first.ensures ∙ c.if-not-is_first.true)

pub returns-then-has_frame-clause-meets : goal.returns-then-has_frame-clause-meets
returns-then-has_frame-clause-meets c =
    let is = c.requires.replay in
    let sends = c.in-Some.ensures in
    let noted = c.note-then-has_frame.ensures in
    present_met c.args.self.now.rounds c.args.line.now c.args.self.now.seen is.shape is.seen c.in-Some.tag sends.0 sends.1 (sym c.is_first.ensures ∙ c.if-not-is_first.false)
    c.note-then-has_frame.new.self c.note.new.self c.note.ensures (sym c.has_frame.ensures ∙ c.if-has_frame.true) noted.presence noted.journal noted.spare

pub returns-else-has_frame-clause-meets : goal.returns-else-has_frame-clause-meets
returns-else-has_frame-clause-meets c =
    let is = c.requires.replay in
    let sends = c.in-Some.ensures in
    absent_met c.args.self.now.rounds c.args.line.now c.args.self.now.seen is.shape is.seen c.in-Some.tag sends.0 sends.1 (sym c.is_first.ensures ∙ c.if-not-is_first.false)
    c.note.new.self c.note.ensures (sym c.has_frame.ensures ∙ c.if-has_frame.false)
