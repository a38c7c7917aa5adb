use Rattle.std.proofs.Common.{◌∙◌, ap, subst, arith}
use Rattle.transcript_text.specs.EntryLines.{entry_line}
use Rattle.audit_check.specs.Audits.{lines_in}
use Rattle.audit_check.specs.Ends.{LinesEnd}
use Rattle.audit_check.proofs.EndLemmas.{first_found, all_replayed, lines_long}
use Rattle.audit_check.proofs.auditing.replay.Goals as goal

pub entry_line-requires : goal.entry_line-requires
entry_line-requires c =
    let t = c.args.transcript.now in
    let ends = subst (λ found. LinesEnd t.plan (lines_in t) found c.first_impossible.new.replay.rounds) c.in-Some.is c.in_ok-first_impossible.ensures in
    let lt = ends.0 in
    let long = lines_long t.entries in
    let len = c.len-entries.ensures.len in
    let few = c.len-entries.ensures.few in
    omega (arith, lt, long, len, few)

pub returns-in-Some : goal.returns-in-Some
returns-in-Some c =
    let t = c.args.transcript.now in
    let k = c.in-Some.at in
    let ends = subst (λ found. LinesEnd t.plan (lines_in t) found c.first_impossible.new.replay.rounds) c.in-Some.is c.in_ok-first_impossible.ensures in (
      k,
      c.entry_line.ensures.number ∙ ap (λ p. entry_line p k) c.plan-in-Some.ensures,
      first_found t k c.first_impossible.new.replay.rounds c.len-entries.ensures.sound ends,
    )

pub returns-in-None : goal.returns-in-None
returns-in-None c =
    let t = c.args.transcript.now in
    let ends = subst (λ found. LinesEnd t.plan (lines_in t) found c.first_impossible.new.replay.rounds) c.in-None.is c.in_ok-first_impossible.ensures in
    all_replayed t c.first_impossible.new.replay.rounds c.len-entries.ensures.sound ends
