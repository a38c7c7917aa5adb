use Rattle.transcript_log.proofs.Tails.{place_of_both, tail_stamped, tail_is}
use Rattle.transcript_log.proofs.draft.Draft.tail.Goals as goal

pub tail-requires : goal.tail-requires
tail-requires c =
    (place_of_both c.self.inside.plan c.self.inside.stamps c.self.inside.lines.value.items c.args.journal.now.items c.args.self.now c.args.from c.self.view_is c.self.invariant c.requires.journal c.requires.within).0

pub tail-requires-2 : goal.tail-requires-2
tail-requires-2 c =
    (place_of_both c.self.inside.plan c.self.inside.stamps c.self.inside.lines.value.items c.args.journal.now.items c.args.self.now c.args.from c.self.view_is c.self.invariant c.requires.journal c.requires.within).1

pub invariant_of-result : goal.invariant_of-result
invariant_of-result c =
    tail_stamped c.self.inside.plan c.self.inside.stamps c.self.inside.lines.value.items c.args.journal.now.items c.args.self.now c.args.from c.self.view_is c.self.invariant c.requires.journal
    c.in_ok-try_copy.field-0 c.in_ok-tail.field-0.items c.in_ok-tail-2.field-0.items c.in_ok-try_copy.ensures c.in_ok-tail.ensures c.in_ok-tail-2.ensures

pub returns : goal.returns
returns c =
    tail_is c.self.inside.plan c.self.inside.stamps c.self.inside.lines.value.items c.args.journal.now.items c.args.self.now c.args.from c.self.view_is c.self.invariant c.requires.journal
    c.in_ok-try_copy.field-0 c.in_ok-tail.field-0.items c.in_ok-tail-2.field-0.items c.in_ok-try_copy.ensures c.in_ok-tail.ensures c.in_ok-tail-2.ensures
