use Rattle.std.proofs.Common.{◌≡◌, ◌≤◌, rules, arith}
use Rattle.std.specs.Prelude.{Err}
use Rattle.head_end.specs.Journal.{passed}
use Rattle.apart_roles.specs.HeadEndTurns.{logged_tick, with_logged}
use Rattle.apart_roles.proofs.HeadEndTurnLemmas.{tick_answered, tick_stops}
use Rattle.apart_roles.proofs.head_end_turn.answer_tick.Goals as goal

pub returns-in_err-flush_tick : goal.returns-in_err-flush_tick
returns-in_err-flush_tick g c plan journal after =
    let error = c.in_err-flush_tick.field-0.0 in
    let is : c.from_residual.result ≡ Err error = search rules in
    let ticks = c.ticks.ensures journal after.after in
    let from = c.from.ensures in
    let off = c.if-tick-from.false in
    let le : c.args.tick ≤ passed journal = omega (arith, ticks, from, off) in
    tick_stops plan journal c.args.tick (g.W.Wire.view c.args.wire.now) (g.W.Wire.view c.flush_tick.new.wire) error c.from_residual.result c.flush_tick.new.head is le
    (c.in_err-flush_tick.ensures.flushes plan journal after)

pub returns : goal.returns
returns g c plan journal after =
    let ticks = c.ticks.ensures journal after.after in
    let from = c.from.ensures in
    let off = c.if-tick-from.false in
    let le : c.args.tick ≤ passed journal = omega (arith, ticks, from, off) in
    let on_disk = c.in_ok-flush_tick.ensures.flushes plan journal after in
    tick_answered plan journal c.args.tick (g.W.Wire.view c.args.wire.now) (g.W.Wire.view c.flush_tick.new.wire) (g.W.Wire.view c.say_tick.new.wire) c.say_tick.result c.flush_tick.new.head le on_disk
    (c.say_tick.ensures plan (with_logged journal (logged_tick plan journal c.args.tick)) on_disk.after)
