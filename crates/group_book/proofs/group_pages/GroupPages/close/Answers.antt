use Rattle.std.proofs.Common.{◌<◌, ℕ, ◌++◌, ◌∷◌, [], ap, sym, refl, subst}
use Rattle.std.specs.Prelude.{None}
use Rattle.event_schedule.specs.declared.Event.TheVariants.{Close}
use Rattle.event_schedule.specs.declared.Line.TheVariants.{Close as CloseLine}
use Rattle.event_schedule.specs.Schedule.{shape_of_presence}
use Rattle.group_book.specs.Books.{BookView, CloseEnds}
use Rattle.group_book.specs.Groups.{GroupView}
use Rattle.group_book.specs.Replay.{Replays, book_at}
use Rattle.group_book.proofs.PageLemmas.{closing-is}
use Rattle.group_book.proofs.GroupLemmas.{page_of, closed_now, ends_with}
use Rattle.group_book.proofs.CallLemmas.{adds_line}
use Rattle.group_book.proofs.group_pages.GroupPages.close.Goals as goal

pub returns : goal.returns
returns c = λ p j now.
    let rep = subst (Replays p j) (sym c.self.view_is) now in
    let g = c.self.inside.group in
    let r = c.args.round in
    let lt = subst (λ (v : GroupView). c.args.round < v.rounds) (sym c.self.view_is) c.requires.round in
    let page = page_of p j _ g r c.index_mut.result.now rep refl lt c.index_mut.ensures.value in
    let is = closing-is (shape_of_presence p) g r c.close-closing.result c.index_mut.result.now c.close-closing.new.self j page c.close-closing.ensures.round in
    let before : BookView = book_at p j c.args.lines.now.spare in
    let after : BookView = book_at p (j ++ CloseLine g r c.close-closing.result ∷ []) c.add_close.new.journal.spare in
    ends_with p j _ c.args.lines.now c.add_close.new.journal _ _ (CloseLine g r c.close-closing.result)
    (subst (λ (n : ℕ). CloseEnds before n r c.close-closing.result after) (ap (λ (v : GroupView). v.group) c.self.view_is) (record {
      is = is;
      adds = adds_line before before after (Close g r) None (CloseLine g r c.close-closing.result) refl refl refl c.add_close.ensures.spare (ap (CloseLine g r) is);
    }))
    (closed_now p j _ r c.close-closing.result c.index_mut.result.now c.close-closing.new.self rep lt page c.close-closing.ensures.round c.close-closing.ensures.told) (ap (λ (v : GroupView). v.group) c.self.view_is) (ap (λ (v : GroupView). v.group) c.self.view_is) c.add_close.ensures.lines
