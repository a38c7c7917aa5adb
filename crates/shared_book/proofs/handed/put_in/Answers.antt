use Rattle.std.proofs.Common.{◌≡◌, ◌+◌, List, ◌++◌, ◌∷◌, [], ap, sym, subst, refl, ◌∙◌, arith}
use Rattle.std.specs.Prelude.{Option, None}
use Rattle.std.proofs.lemmas.List.{length-append}
use Rattle.std.proofs.lemmas.List.Elements.{All-push}
use Rattle.std.proofs.lemmas.Iterator.Adapters.{YieldsList-from_vec}
use Rattle.std.proofs.lemmas.Iterator.Consumers.{YieldsList-turn, YieldsList-end}
use Rattle.group_book.specs.Groups.{GroupView}
use Rattle.shared_book.specs.declared.handed.Handed.{Handed}
use Rattle.shared_book.specs.Slots.{HavePages, last_in, AreNew}
use Rattle.shared_book.proofs.Slots.{map-same, have_more}
use Rattle.shared_book.proofs.handed.put_in.Goals as goal

pub push_reserved-requires : goal.push_reserved-requires
push_reserved-requires c =
    let groups = c.args.groups.items in
    let at = c.into_iter-pages-iterator.ensures.into_iter_gives in
    let turn = YieldsList-turn (YieldsList-from_vec {s = c.into_iter-pages-iterator.result} groups at.0 (at.1 ∙ c.args.groups.ok.0)) c.loop-pages.yielded c.loop-pages.pages-iterator c.loop-pages.yielded_by c.next.result c.next.new.self c.in-Some.pages c.in-Some.is c.next.ensures.steps in
    let lt = turn.0 in
    let long = c.loop-pages.invariant.long in
    let room = c.loop-pages.invariant.room in
    omega arith

pub loop-pages-preserved : goal.loop-pages-preserved
loop-pages-preserved c =
    let e = c.push_reserved.ensures in
    let long = c.loop-pages.invariant.long in
    let room = c.loop-pages.invariant.room in
    let len = e.len in
    let capacity = e.capacity in record {
      can_next = tt;
      finite = tt;
      made = subst (λ (xs : List (Option Handed)). HavePages xs (c.loop-pages.yielded ++ c.in-Some.pages ∷ [])) (sym e.items) (have_more c.loop-pages.slots.items c.loop-pages.yielded _ c.in-Some.pages refl c.loop-pages.invariant.made);
      new = subst AreNew (sym e.items) (All-push (λ slot. last_in slot ≡ None) c.loop-pages.slots.items _ c.loop-pages.invariant.new refl);
      long = len ∙ ap (λ n. n + 1) long ∙ sym (length-append c.loop-pages.yielded (c.in-Some.pages ∷ []));
      room = omega arith;
    }

pub returns-clause-pages : goal.returns-clause-pages
returns-clause-pages c =
    let groups = c.args.groups.items in
    let at = c.into_iter-pages-iterator.ensures.into_iter_gives in
    let end = YieldsList-end (YieldsList-from_vec {s = c.into_iter-pages-iterator.result} groups at.0 (at.1 ∙ c.args.groups.ok.0)) c.loop-pages.yielded c.loop-pages.pages-iterator c.loop-pages.yielded_by c.next.result c.next.new.self c.in-None.is c.next.ensures.steps in
    subst (λ (vs : List GroupView). HavePages c.loop-pages.slots.items vs) (sym (map-same c.loop-pages.yielded) ∙ end.0) c.loop-pages.invariant.made
