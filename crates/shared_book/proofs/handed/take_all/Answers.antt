use Rattle.std.proofs.Common.{◌≡◌, ◌∙◌, ◌+◌, ℕ, Bool, List, false, get_or, take, ap, sym, subst, arith}
use Rattle.std.specs.Prelude.{Option}
use mathlib.Core.Option.{some}
use lib.ListN.{get_elem?}
use Rattle.std.specs.Mem.Slots.{slots_items}
use Rattle.shared_book.specs.declared.handed.Handed.{Handed}
use Rattle.shared_book.specs.Slots.{HavePages}
use Rattle.shared_book.proofs.Slots.{full_at, have_taken, flag_else, flags_off}
use Rattle.shared_book.proofs.handed.take_all.Goals as goal

pub pages_in-requires : goal.pages_in-requires
pages_in-requires c =
    full_at (slots_items c.args.closed.now.slots) c.loop-slot.slot c.take-handed.result c.requires.some
    (subst (λ (xs : List (Option Handed)). get_elem? xs c.loop-slot.slot ≡ some c.take-handed.result) c.loop-slot.invariant.items c.take-handed.ensures.value)

pub loop-slot-preserved : goal.loop-slot-preserved
loop-slot-preserved c =
    let inv = c.loop-slot.invariant in
    let e = c.take-handed.ensures.others in
    let push = c.push_reserved.ensures in
    let count = c.slot_count.ensures in
    let test = c.loop-slot-test.true in
    let len = e.2 in
    let capacity = push.capacity in
    let room = inv.room in record {
      items = e.0 ∙ inv.items;
      len = len ∙ inv.len;
      within = omega arith;
      filled = λ k le lt. ap (λ (fs : List Bool). get_or fs k false) e.1 ∙ flag_else _ c.loop-slot.slot k (λ z. omega arith) ∙ inv.filled k (omega arith) (omega arith);
      taken = λ k lt. ap (λ (fs : List Bool). get_or fs k false) e.1 ∙ flags_off _ c.loop-slot.slot inv.taken k lt;
      made = subst (λ (xs : List (Option Handed)). HavePages (take (c.loop-slot.slot + 1) xs) c.push_reserved.new.self.items) (sym e.0)
          (subst (HavePages (take (c.loop-slot.slot + 1) (slots_items c.loop-slot.closed.slots))) (sym push.items)
          (have_taken (slots_items c.loop-slot.closed.slots) c.loop-slot.groups.items c.loop-slot.slot c.take-handed.result c.pages_in.result c.take-handed.ensures.value c.pages_in.ensures inv.made));
      long = push.len ∙ ap (λ (n : ℕ). n + 1) inv.long;
      room = omega arith;
    }
