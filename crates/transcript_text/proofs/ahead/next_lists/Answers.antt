use Rattle.transcript_text.proofs.NextLists.{one_more}
use Rattle.transcript_text.proofs.ahead.next_lists.Goals as goal

pub lists-preserved : goal.lists-preserved
lists-preserved c = record {
  lists = one_more c.args.reader.now c.lists.reader c.first_entries.new.reader c.lists.lists.items c.push.new.self.items c.in-Some.entries c.lists.invariant.lists c.in-Some.ensures.entries c.in_ok-push.ensures.items;
  pieces = c.first_entries.ensures.pieces;
}
