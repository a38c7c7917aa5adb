use Rattle.std.proofs.Common.{◌+◌, List, ◌++◌, ◌∷◌, [], length, ap, sym, subst, ◌∙◌, arith}
use Rattle.std.specs.Prelude.{Option, is_some, IsTrue}
use Rattle.std.proofs.lemmas.List.{length-append}
use Rattle.std.proofs.lemmas.Iterator.Adapters.{YieldsList-from_vec}
use Rattle.std.proofs.lemmas.Iterator.Consumers.{YieldsList-turn, YieldsList-end}
use Rattle.group_book.specs.Groups.{GroupView}
use Rattle.shared_book.specs.declared.handed.Handed.{Handed}
use Rattle.shared_book.specs.Slots.{HavePages}
use Rattle.shared_book.proofs.Slots.{map-same, have_more}
use Rattle.shared_book.proofs.handed.take_out.Goals as goal

pub pages_in-requires : goal.pages_in-requires
pages_in-requires c =
    let slots = c.args.slots.items in
    let at = c.into_iter-slot-iterator.ensures.into_iter_gives in
    let turn = YieldsList-turn (YieldsList-from_vec {s = c.into_iter-slot-iterator.result} slots at.0 (at.1 ∙ c.args.slots.ok.0)) c.loop-slot.yielded c.loop-slot.slot-iterator c.loop-slot.yielded_by c.next.result c.next.new.self c.in-Some.slot c.in-Some.is c.next.ensures.steps in
    subst (λ (x : Option Handed). IsTrue (is_some x)) (sym turn.1) (c.requires.full (length c.loop-slot.yielded) c.in-Some.slot turn.0)

pub push_reserved-requires : goal.push_reserved-requires
push_reserved-requires c =
    let slots = c.args.slots.items in
    let at = c.into_iter-slot-iterator.ensures.into_iter_gives in
    let turn = YieldsList-turn (YieldsList-from_vec {s = c.into_iter-slot-iterator.result} slots at.0 (at.1 ∙ c.args.slots.ok.0)) c.loop-slot.yielded c.loop-slot.slot-iterator c.loop-slot.yielded_by c.next.result c.next.new.self c.in-Some.slot c.in-Some.is c.next.ensures.steps in
    let lt = turn.0 in
    let long = c.loop-slot.invariant.long in
    let room = c.loop-slot.invariant.room in
    omega arith

pub loop-slot-preserved : goal.loop-slot-preserved
loop-slot-preserved c =
    let e = c.push_reserved.ensures in
    let long = c.loop-slot.invariant.long in
    let room = c.loop-slot.invariant.room in
    let len = e.len in
    let capacity = e.capacity in record {
      can_next = tt;
      finite = tt;
      made = subst (λ (vs : List GroupView). HavePages (c.loop-slot.yielded ++ c.in-Some.slot ∷ []) vs) (sym e.items) (have_more c.loop-slot.yielded c.loop-slot.groups.items c.in-Some.slot _ c.pages_in.ensures c.loop-slot.invariant.made);
      long = len ∙ ap (λ n. n + 1) long ∙ sym (length-append c.loop-slot.yielded (c.in-Some.slot ∷ []));
      room = omega arith;
    }

pub returns : goal.returns
returns c =
    let slots = c.args.slots.items in
    let at = c.into_iter-slot-iterator.ensures.into_iter_gives in
    let end = YieldsList-end (YieldsList-from_vec {s = c.into_iter-slot-iterator.result} slots at.0 (at.1 ∙ c.args.slots.ok.0)) c.loop-slot.yielded c.loop-slot.slot-iterator c.loop-slot.yielded_by c.next.result c.next.new.self c.in-None.is c.next.ensures.steps in
    subst (λ (xs : List (Option Handed)). HavePages xs c.loop-slot.groups.items) (sym (map-same c.loop-slot.yielded) ∙ end.0) c.loop-slot.invariant.made
