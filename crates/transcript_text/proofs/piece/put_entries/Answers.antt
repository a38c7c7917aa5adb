use Rattle.std.proofs.Common.{ℕ, Option, subst}
use Rattle.transcript_text.specs.Ahead.{PutEnds}
use Rattle.transcript_text.proofs.AheadLemmas.{goes_on}
use Rattle.transcript_text.proofs.piece.put_entries.Goals as goal

pub loop-rest-preserved : goal.loop-rest-preserved
loop-rest-preserved c =
    let s = c.loop-rest in
    let new = c.put_entry.new.entries.items in
    let put = subst (λ (o : Option ℕ). PutEnds c.args.version c.args.plan.now s.last c.in-Some.line.now s.entries.items new o) c.in-Some-2.is c.in_ok-tick.ensures in
    goes_on c.args.version c.args.plan.now c.args.text.now s.rest.now c.in-Some.line.now c.in-Some.after.now s.last c.in-Some-2.tick s.entries.items new c.groups-groups.ensures.limits s.invariant c.in-Some.ensures.0 put
