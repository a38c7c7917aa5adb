use Rattle.std.proofs.Common.{◌∷◌, ◌+◌, [], arith, drop, sym}
use Rattle.std.proofs.lemmas.List.{drop_all}
use Rattle.audit_check.proofs.PassLemmas.{all_judged, can_now, goes_on, next_of}
use Rattle.audit_check.proofs.passing.Pass.entries.Goals as goal

pub entry-requires : goal.entry-requires
entry-requires c =
    let e = c.entry-item.result in
    let at = c.loop-entry.entry-index in
    let es = c.args.entries.now in
    let within = c.loop-entry-test.true in
    let next = next_of es at e (omega (arith, within)) (sym c.entry-item.is) in
    can_now c.args.self.now c.loop-entry.self es (drop at es) (e ∷ []) (drop (at + 1) es) c.loop-entry.invariant next

pub loop-entry-preserved : goal.loop-entry-preserved
loop-entry-preserved c =
    let e = c.entry-item.result in
    let at = c.loop-entry.entry-index in
    let es = c.args.entries.now in
    let within = c.loop-entry-test.true in
    let next = next_of es at e (omega (arith, within)) (sym c.entry-item.is) in
    goes_on c.args.self.now c.loop-entry.self es (drop at es) (e ∷ []) (drop (at + 1) es) c.loop-entry.invariant next c.entry.new.self c.in_ok-entry.ensures

pub returns : goal.returns
returns c =
    let at = c.loop-entry.entry-index in
    let es = c.args.entries.now in
    let over = c.loop-entry-test.false in
    all_judged c.args.self.now c.loop-entry.self es (drop at es) c.loop-entry.invariant (drop_all at es (omega (arith, over)))
