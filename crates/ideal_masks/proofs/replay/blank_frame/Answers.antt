use Rattle.std.proofs.Common.{◌∙◌}
use Rattle.group_book.specs.Books.{shape_of, past}
use Rattle.ideal_masks.proofs.BlankFrames.{blank-frame, other_kind}
use Rattle.ideal_masks.proofs.replay.blank_frame.Goals.{in-Reading, in-Announcement}
use Rattle.ideal_masks.proofs.replay.blank_frame.Goals as goal

pub returns-clause-frame : goal.returns-clause-frame
returns-clause-frame c = elim c.match-tag.branch [
  | in-Reading w ↦
      blank-frame (shape_of c.args.book.now) c.args.tag c.match-tag.missing (past c.args.book.now)
      (λ _. w.missing-is ∙ w.empty-missing.ensures) (λ other. absurd (other w.in-Reading.is))
  | in-Announcement w ↦
      blank-frame (shape_of c.args.book.now) c.args.tag c.match-tag.missing (past c.args.book.now)
      (λ reading. absurd (other_kind c.args.tag.kind w.in-Announcement.is reading)) (λ _ announced. w.missing-is ∙ w.announced_set-missing.ensures announced)
]
