use Rattle.std.proofs.Common.{◌+◌, ap, arith, drop, subst, sym}
use Rattle.std.proofs.lemmas.List.{drop_all}
use Rattle.transcript_text.specs.Ahead.{entries_of}
use Rattle.audit_check.specs.Passes.{CanJudge, Judges}
use Rattle.audit_check.proofs.PassLemmas.{all_judged, can_now, goes_on, next_of}
use Rattle.audit_check.proofs.passing.Pass.over.Goals as goal

pub entries-requires : goal.entries-requires
entries-requires c =
    let es = c.entries-item.result in
    let at = c.loop-entries.entries-index in
    let lists = c.args.batch.now in
    let within = c.loop-entries-test.true in
    let next = ap entries_of (next_of lists at es (omega (arith, within)) (sym c.entries-item.is)) in
    subst (CanJudge c.loop-entries.self) (sym c.deref.ensures.value)
    (can_now c.args.self c.loop-entries.self (entries_of lists) (entries_of (drop at lists)) es.items (entries_of (drop (at + 1) lists)) c.loop-entries.invariant next)

pub loop-entries-preserved : goal.loop-entries-preserved
loop-entries-preserved c =
    let es = c.entries-item.result in
    let at = c.loop-entries.entries-index in
    let lists = c.args.batch.now in
    let within = c.loop-entries-test.true in
    let next = ap entries_of (next_of lists at es (omega (arith, within)) (sym c.entries-item.is)) in
    goes_on c.args.self c.loop-entries.self (entries_of lists) (entries_of (drop at lists)) es.items (entries_of (drop (at + 1) lists)) c.loop-entries.invariant next c.entries.new.self
    (subst (λ xs. Judges c.loop-entries.self xs c.entries.new.self) c.deref.ensures.value c.in_ok-entries.ensures)

pub returns : goal.returns
returns c =
    let at = c.loop-entries.entries-index in
    let lists = c.args.batch.now in
    let over = c.loop-entries-test.false in
    all_judged c.args.self c.loop-entries.self (entries_of lists) (entries_of (drop at lists)) c.loop-entries.invariant (ap entries_of (drop_all at lists (omega (arith, over))))
