use Rattle.std.proofs.Common.{◌<◌, ℕ, ◌++◌, ◌∷◌, [], ap, sym, refl, subst}
use Rattle.std.specs.Prelude.{None}
use Rattle.event_schedule.specs.declared.Event.TheVariants.{End}
use Rattle.event_schedule.specs.declared.Line.TheVariants.{End as EndLine}
use Rattle.event_schedule.specs.Schedule.{shape_of_presence}
use Rattle.group_book.specs.Books.{BookView, EndEnds}
use Rattle.group_book.specs.Groups.{GroupView}
use Rattle.group_book.specs.Replay.{Replays, book_at}
use Rattle.group_book.proofs.PageLemmas.{ending-is}
use Rattle.group_book.proofs.GroupLemmas.{page_of, ended_now, ends_with}
use Rattle.group_book.proofs.CallLemmas.{adds_line}
use Rattle.group_book.proofs.group_pages.GroupPages.end.Goals as goal

pub returns : goal.returns
returns c = λ p j now.
    let rep = subst (Replays p j) (sym c.self.view_is) now in
    let g = c.self.inside.group in
    let r = c.args.round in
    let lt = subst (λ (v : GroupView). c.args.round < v.rounds) (sym c.self.view_is) c.requires.round in
    let page = page_of p j _ g r c.index_mut.result.now rep refl lt c.index_mut.ensures.value in
    let is = ending-is (shape_of_presence p) g r c.end-ending.result c.index_mut.result.now c.end-ending.new.self j page c.end-ending.ensures.round in
    let before : BookView = book_at p j c.args.lines.now.spare in
    let after : BookView = book_at p (j ++ EndLine g r c.end-ending.result ∷ []) c.add_end.new.journal.spare in
    ends_with p j _ c.args.lines.now c.add_end.new.journal _ _ (EndLine g r c.end-ending.result)
    (subst (λ (n : ℕ). EndEnds before n r c.end-ending.result after) (ap (λ (v : GroupView). v.group) c.self.view_is) (record {
      is = is;
      adds = adds_line before before after (End g r) None (EndLine g r c.end-ending.result) refl refl refl c.add_end.ensures.spare (ap (EndLine g r) is);
    }))
    (ended_now p j _ r c.end-ending.result c.index_mut.result.now c.end-ending.new.self rep lt page c.end-ending.ensures.round c.end-ending.ensures.told) (ap (λ (v : GroupView). v.group) c.self.view_is) (ap (λ (v : GroupView). v.group) c.self.view_is) c.add_end.ensures.lines
