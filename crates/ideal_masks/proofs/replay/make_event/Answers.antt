use Rattle.std.proofs.Common.{sym, subst}
use Rattle.ideal_masks.specs.Replaying.{IsOfBook, MakesEvent}
use Rattle.ideal_masks.proofs.BlankFrames.{sends, takes, closes, ends_round}
use Rattle.ideal_masks.proofs.replay.make_event.Goals as goal

pub returns-in-Send : goal.returns-in-Send
returns-in-Send c =
    let frame = c.blank_frame-frame in
    subst (λ e. MakesEvent c.args.book.now e c.send-sent.new.self) (sym c.in-Send.is)
    (sends c.args.book.now c.send-sent.new.self frame.result c.in-Send.tag c.send-sent.result frame.ensures.tag c.requires.blank (subst (IsOfBook c.args.book.now) c.in-Send.is c.requires.event) frame.ensures.frame c.send-sent.ensures)

pub returns-in-Take : goal.returns-in-Take
returns-in-Take c =
    let frame = c.blank_frame-frame-in-Take in
    subst (λ e. MakesEvent c.args.book.now e c.take-verdict.new.self) (sym c.in-Take.is)
    (takes c.args.book.now c.take-verdict.new.self frame.result c.in-Take.tag c.take-verdict.result frame.ensures.tag c.requires.blank (subst (IsOfBook c.args.book.now) c.in-Take.is c.requires.event) frame.ensures.frame c.take-verdict.ensures)

pub returns-in-Close : goal.returns-in-Close
returns-in-Close c =
    subst (λ e. MakesEvent c.args.book.now e c.close-closing.new.self) (sym c.in-Close.is)
    (closes c.args.book.now c.close-closing.new.self c.in-Close.group c.in-Close.round c.requires.blank c.close-closing.ensures.adds)

pub returns-in-End : goal.returns-in-End
returns-in-End c =
    subst (λ e. MakesEvent c.args.book.now e c.end-ending.new.self) (sym c.in-End.is)
    (ends_round c.args.book.now c.end-ending.new.self c.in-End.group c.in-End.round c.requires.blank c.end-ending.ensures.adds)
