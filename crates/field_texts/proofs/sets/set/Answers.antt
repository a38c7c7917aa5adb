use Rattle.std.proofs.Common.{arith, sym, ◌∙◌, []}
use Rattle.field_texts.specs.Parts.{parts}
use Rattle.field_texts.proofs.Cutting.{parts_some}
use Rattle.field_texts.proofs.SetLoop.{set_more, set_bad, set_full}
use Rattle.field_texts.proofs.sets.set.Goals as goal

pub loop-preserved : goal.loop-preserved
loop-preserved c =
    let s = c.loop.invariant in
    let e = sym c.in-Some-read_number_within-2.is ∙ (rw c.from-in-Some.ensures at c.read_number_within-in-Some.ensures.number) in
    let m = set_more c.loop.low c.args.high c.in-Some-read_number_within-2.meter c.loop.set c.in-Some.part.now c.in-Some.after.now _ _ s.under e c.in-Some.ensures.0 s.so_far in
    rw c.with-set.ensures (record { under = m.1; turns = omega (arith, s.turns, m.2); small = omega (arith, m.3); so_far = m.0 })

pub returns-in_default : goal.returns-in_default
returns-in_default c =
    let s = c.loop.invariant in
    let e = sym c.in_default.is ∙ (rw c.from.ensures at c.read_number_within.ensures.number) in
    set_bad c.loop.low c.args.high c.loop.set c.loop.rest.now _ [] _ e c.in-None.ensures s.so_far

pub returns-in_default-read_number_within : goal.returns-in_default-read_number_within
returns-in_default-read_number_within c =
    let s = c.loop.invariant in
    let e = sym c.in_default-read_number_within.is ∙ (rw c.from-in-Some.ensures at c.read_number_within-in-Some.ensures.number) in
    set_bad c.loop.low c.args.high c.loop.set c.in-Some.part.now _ _ _ e c.in-Some.ensures.0 s.so_far

pub returns : goal.returns
returns c =
    let s = c.loop.invariant in
    set_full c.loop.low c.args.high c.loop.set c.loop.rest.now (parts 43 c.loop.rest.now) _ (omega (arith, s.turns, s.small)) (parts_some 43 c.loop.rest.now) s.so_far
