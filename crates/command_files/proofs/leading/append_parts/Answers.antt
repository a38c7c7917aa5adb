use Rattle.rtrb.specs.Ring.{received}
use Rattle.command_files.proofs.AheadLemmas.{written-more, same_consumer}
use Rattle.command_files.proofs.leading.append_parts.Goals as goal

pub returns-then-has_failed-clause-ahead : goal.returns-then-has_failed-clause-ahead
returns-then-has_failed-clause-ahead g c = λ t few next ahead.
    (written-more g.B.BegunFile.has c.args.file.now.begun.file c.loop.file.begun.file c.append.new.self.begun.file c.args.file.now.entries c.loop.file.entries c.append.new.self.entries
    (received c.loop.parts.ring) (received c.next-in-loop.new.self.ring) c.in-Some-next.part c.in-Some-next.ensures.some c.loop.invariant.ahead c.append.ensures.ahead t few next ahead).0

pub loop-preserved : goal.loop-preserved
loop-preserved g c = record {
  ring = same_consumer c.args.parts.now.ring c.loop.parts.ring c.next-in-loop.new.self.ring c.loop.invariant.ring c.next-in-loop.ensures.ring;
  name = search;
  ahead = written-more g.B.BegunFile.has c.args.file.now.begun.file c.loop.file.begun.file c.append.new.self.begun.file c.args.file.now.entries c.loop.file.entries c.append.new.self.entries
      (received c.loop.parts.ring) (received c.next-in-loop.new.self.ring) c.in-Some-next.part c.in-Some-next.ensures.some c.loop.invariant.ahead c.append.ensures.ahead;
}
