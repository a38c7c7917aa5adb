use Rattle.std.proofs.Common.{◌∙◌, ℕ, List, [], length, replicate, ap, sym, subst, arith}
use Rattle.group_plan.specs.Tables.{PresenceView}
use Rattle.event_schedule.specs.declared.Line.{Line}
use Rattle.group_book.specs.Replay.{AreReplayed}
use Rattle.atomic_table.specs.Table.{opening}
use Rattle.std.specs.Prelude.{Option, is_some, IsTrue}
use Rattle.std.specs.List.{All}
use Rattle.std.proofs.lemmas.List.{length-replicate}
use Rattle.shared_book.specs.declared.handed.Handed.{Handed}
use Rattle.shared_book.specs.declared.law.Key.{Key}
use Rattle.shared_book.specs.Slots.{HavePages}
use Rattle.shared_book.specs.Law.{Kept}
use Rattle.shared_book.specs.Opened.{newcomer}
use Rattle.shared_book.proofs.Openings.{opens, pages_long}
use Rattle.shared_book.proofs.Slots.{all_full, groups_same}
use Rattle.shared_book.proofs.calls.begin_with.Goals as goal

pub put_in-requires-clause-room : goal.put_in-requires-clause-room
put_in-requires-clause-room c = let r = c.requires.slots.2 in let l = c.requires.groups.long in omega arith

pub new-requires : goal.new-requires
new-requires c =
    let o = c.args.key.book.value in
    let key = c.requires.key in
    let are : AreReplayed o.presence o.journal c.args.parts.groups.items = subst (λ (x : PresenceView × List Line). AreReplayed x.0 x.1 c.args.parts.groups.items) (λ i. (sym key.0 i, sym key.1 i)) c.requires.groups in
    let P : List ℕ → Type 0 = λ ws. Kept o (opening ws c.put_in.new.slots.items (newcomer o 0 [])) in
    subst P (sym (c.deref.ensures.value ∙ c.requires.words ∙ ap (λ (p : PresenceView). replicate (length p.plan.groups) 0) (sym key.0))) (opens o c.put_in.new.slots.items c.args.parts.groups.items are c.put_in.ensures.pages c.put_in.ensures.new)

pub invariant_of-result : goal.invariant_of-result
invariant_of-result c =
    let h = c.in-Ok.ensures.ok in
    let key = c.requires.key in record {
      presence_is = sym key.0 ∙ ap (λ (k : Key). k.book.value.presence) (sym h.5);
      journal_is = sym key.1 ∙ ap (λ (k : Key). k.book.value.journal) (sym h.5);
      words_are = h.0 ∙ ap length (c.deref.ensures.value ∙ c.requires.words) ∙ length-replicate (length c.args.parts.presence.plan.groups) 0;
      lines_fit = c.requires.lines;
      slots_are = h.1 ∙ pages_long c.put_in.new.slots.items c.args.parts.groups.items c.put_in.ensures.pages ∙ c.requires.groups.long;
      some_group = c.requires.groups.ledger.limits.some_group;
      empty = (c.requires.room.0, c.requires.room.1);
      roomy = c.requires.room.2;
    }

pub take_out-requires-clause-full : goal.take_out-requires-clause-full
take_out-requires-clause-full c = subst (All (λ (slot : Option Handed). IsTrue (is_some slot))) (sym c.in-Err.ensures.err) (all_full c.put_in.new.slots.items c.args.parts.groups.items c.put_in.ensures.pages)

pub of_parts-book-requires : goal.of_parts-book-requires
of_parts-book-requires c =
    let have = subst (λ (xs : List (Option Handed)). HavePages xs c.take_out.new.groups.items) c.in-Err.ensures.err c.take_out.ensures in
    subst (AreReplayed c.args.parts.presence c.args.parts.journal.items) (sym (groups_same c.put_in.new.slots.items c.args.parts.groups.items c.take_out.new.groups.items c.put_in.ensures.pages have)) c.requires.groups
