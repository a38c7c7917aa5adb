use Rattle.std.proofs.Common.{List}
use Rattle.link_lanes.specs.Lanes.{Slot}
use Rattle.link_lanes.specs.Racks.{slots, posts_of, HasRoom}
use Rattle.tick_run.specs.Runs.{HaveMet, MakesTicks, told_by}
use Rattle.rtrb.specs.Ring.{sent, SameProducer}
use Rattle.command_files.specs.Ahead.{AreHanded}
use Rattle.command_files.proofs.leading.lead.Given as goal

-- so many ticks are made, their frames met the fates of the lanes, and so many entries are handed over
abbrev pub invariant-loop : goal.invariant-loop
invariant-loop g l = record {
  makes : MakesTicks l.counter l.fn.run l.run;
  met : (opening : List Slot) → HaveMet opening l.fn.run (slots (λ b. (goal.Lane-dyn g (b.vtable, b.value)).meaning b.value) l.fn.rack) (posts_of l.fn.rack)
      → HaveMet opening l.run (slots (λ b. (goal.Lane-dyn g (b.vtable, b.value)).meaning b.value) l.rack) (posts_of l.rack);
  room : HasRoom (λ b. (goal.Lane-dyn g (b.vtable, b.value)).meaning b.value) l.rack;
  ring : SameProducer l.fn.parts.ring l.parts.ring;
  handed : AreHanded l.fn.first (told_by l.run) (sent l.parts.ring) l.handed;
}
