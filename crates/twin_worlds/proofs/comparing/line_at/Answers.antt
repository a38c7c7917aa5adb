use Rattle.std.proofs.Common.{◌≡◌, ◌<◌, length, get_or, sym, ap, ◌∙◌, subst, Some}
use Rattle.std.specs.Prelude.{slice_get}
use Rattle.std.proofs.lemmas.List.Elements.{All-get_or}
use Rattle.group_book.specs.Books.{shape_of, past}
use Rattle.twin_worlds.specs.Worlds.{IsLineOf, contents_of, filled}
use Rattle.twin_worlds.proofs.CompareLemmas.{found-at, get-map, within-journal}
use Rattle.twin_worlds.proofs.comparing.line_at.Goals as goal

pub at-requires : goal.at-requires
at-requires g c =
    let w = c.args.world.now in
    let b = w.book.now in
    let f = filled (shape_of b) (contents_of g.M.Masks.table w.known) (past b) in
    subst (λ l. c.args.at < length l) (sym c.journal.ensures.lines)
    (within-journal w.known.readings.now (g.M.Masks.table w.known.masks.now) c.args.transcript.now f b.journal c.args.at c.requires.tells.are c.requires.within)

pub filled-requires-clause-line : goal.filled-requires-clause-line
filled-requires-clause-line g c =
    let w = c.args.world.now in
    let b = w.book.now in
    let f = filled (shape_of b) (contents_of g.M.Masks.table w.known) (past b) in
    let is : c.at.result ≡ get_or b.journal c.args.at c.at.result = c.at.ensures ∙ ap (λ l. get_or l c.args.at c.at.result) c.journal.ensures.lines in
    subst (IsLineOf b) (sym is)
    (All-get_or (IsLineOf b) b.journal c.args.at c.at.result (within-journal w.known.readings.now (g.M.Masks.table w.known.masks.now) c.args.transcript.now f b.journal c.args.at c.requires.tells.are c.requires.within)
    c.requires.tells.lines)

pub returns : goal.returns
returns g c =
    let w = c.args.world.now in
    let b = w.book.now in
    let f = filled (shape_of b) (contents_of g.M.Masks.table w.known) (past b) in
    let is : c.at.result ≡ get_or b.journal c.args.at c.at.result = c.at.ensures ∙ ap (λ l. get_or l c.args.at c.at.result) c.journal.ensures.lines in
    let inside = within-journal w.known.readings.now (g.M.Masks.table w.known.masks.now) c.args.transcript.now f b.journal c.args.at c.requires.tells.are c.requires.within in
    ap (λ l. slice_get l c.args.at) (sym c.requires.tells.are)
    ∙ get-map f b.journal c.args.at c.at.result (found-at b.journal c.args.at c.at.result inside is)
    ∙ ap Some (sym c.filled.ensures)
