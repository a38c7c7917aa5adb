use Rattle.group_book.specs.Books.{shape_of, past}
use Rattle.twin_worlds.specs.Worlds.{contents_of}
use Rattle.twin_worlds.proofs.FilledLines.{blank-may, with-word}
use Rattle.twin_worlds.proofs.world.filled_frame.Goals as goal

pub word_of-requires-clause-sent : goal.word_of-requires-clause-sent
word_of-requires-clause-sent g c =
    let b = c.args.world.now.book.now in
    blank-may (shape_of b) c.args.tag (past b) c.args.blank.now c.requires.line.1

pub returns : goal.returns
returns g c =
    let b = c.args.world.now.book.now in
    with-word (shape_of b) (contents_of g.M.Masks.table c.args.world.now.known) c.args.tag (past b) c.args.blank.now c.word_of.result c.requires.line.1 c.word_of.ensures
