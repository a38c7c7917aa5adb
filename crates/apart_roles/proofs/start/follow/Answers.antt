use Rattle.std.proofs.Common.{◌≡◌, rules}
use Rattle.std.specs.Prelude.{Err}
use Rattle.apart_roles.specs.Inputs.{follow_came}
use Rattle.apart_roles.proofs.StartLemmas.{all_followed, one_more, one_wrong, part_followed, then_broken}
use Rattle.apart_roles.proofs.start.follow.Goals as goal

pub returns-in_err-follow_next : goal.returns-in_err-follow_next
returns-in_err-follow_next g c fixed first =
    let has = c.loop-turn.invariant fixed first in
    let error = c.in_err-follow_next.field-0.0 in
    let is : c.from_residual.result ≡ Err error = search rules in
    part_followed (follow_came g.R.Role.reads (g.R.Role.can fixed)) (g.R.Role.is_in fixed) c.args.first (g.W.Wire.view c.args.wire.now) c.loop-turn.turn (g.W.Wire.view c.loop-turn.wire)
    (g.W.Wire.view c.follow_next.new.wire) c.loop-turn.role c.follow_next.new.role error c.from_residual.result has is (c.in_err-follow_next.ensures fixed has.journal has.after)

pub returns-in-Wrong : goal.returns-in-Wrong
returns-in-Wrong g c fixed first =
    let has = c.loop-turn.invariant fixed first in
    one_wrong (follow_came g.R.Role.reads (g.R.Role.can fixed)) (g.R.Role.is_in fixed) c.args.first (g.W.Wire.view c.args.wire.now) c.loop-turn.turn (g.W.Wire.view c.loop-turn.wire)
    (g.W.Wire.view c.follow_next.new.wire) c.loop-turn.role c.follow_next.new.role c.in_ok-follow_next.field-0 c.saturating_add.result has c.in-Wrong.is
    (c.in_ok-follow_next.ensures fixed has.journal has.after) c.saturating_add.ensures

pub returns-in-Over : goal.returns-in-Over
returns-in-Over g c fixed first =
    let has = c.loop-turn.invariant fixed first in
    all_followed (follow_came g.R.Role.reads (g.R.Role.can fixed)) (g.R.Role.is_in fixed) (g.W.Wire.view c.args.wire.now) c.loop-turn.turn (g.W.Wire.view c.loop-turn.wire)
    (g.W.Wire.view c.follow_next.new.wire) c.loop-turn.role c.follow_next.new.role c.in_ok-follow_next.field-0 has c.in-Over.is (c.in_ok-follow_next.ensures fixed has.journal has.after)

pub returns-in-Unreadable : goal.returns-in-Unreadable
returns-in-Unreadable g c fixed first =
    let has = c.loop-turn.invariant fixed first in
    then_broken (follow_came g.R.Role.reads (g.R.Role.can fixed)) (g.R.Role.is_in fixed) (g.W.Wire.view c.args.wire.now) c.loop-turn.turn (g.W.Wire.view c.loop-turn.wire)
    (g.W.Wire.view c.follow_next.new.wire) c.loop-turn.role c.follow_next.new.role c.in_ok-follow_next.field-0 has c.in-Unreadable.is (c.in_ok-follow_next.ensures fixed has.journal has.after)

pub loop-turn-preserved : goal.loop-turn-preserved
loop-turn-preserved g c fixed first =
    let has = c.loop-turn.invariant fixed first in
    one_more (follow_came g.R.Role.reads (g.R.Role.can fixed)) (g.R.Role.is_in fixed) (g.W.Wire.view c.args.wire.now) c.loop-turn.turn (g.W.Wire.view c.loop-turn.wire)
    (g.W.Wire.view c.follow_next.new.wire) c.loop-turn.role c.follow_next.new.role c.in_ok-follow_next.field-0 has c.in-Followed.is (c.in_ok-follow_next.ensures fixed has.journal has.after)
