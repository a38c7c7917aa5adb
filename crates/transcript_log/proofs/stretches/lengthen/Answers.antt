use Rattle.std.proofs.Common.{◌≡◌, ◌<◌, ◌+◌, ◌++◌, ◌-◌, length, replicate, get_or, set, ap, sym, ◌∙◌, arith}
use Rattle.transcript_log.specs.declared.transcript.Stamp.{Stamp}
use Rattle.transcript_log.specs.declared.stretches.Stretch.{Stretch}
use Rattle.transcript_log.specs.Stretches.{stamps_in}
use Rattle.transcript_log.proofs.StretchLemmas.{longer_stretch}
use Rattle.transcript_log.proofs.stretches.lengthen.Goals as goal

pub returns-in-Some-clause-longer : goal.returns-in-Some-clause-longer
returns-in-Some-clause-longer c is =
    let ss = c.args.stretches.now in
    let last = c.in-Some.last.now in
    let some : 0 < length ss = c.in-Some.ensures.item.3.0 in
    let read : last ≡ get_or ss (length ss - 1) last = c.in-Some.ensures.item.1 in
    ap (λ (s : Stretch). stamps_in (set ss (length ss - 1) (record { stamp = s.stamp; count = s.count + c.args.count }))) read
    ∙ longer_stretch ss (length ss - 1) last c.args.count (omega (arith, some))
    ∙ ap (λ (s : Stretch). stamps_in ss ++ replicate c.args.count s.stamp) (sym read)
    ∙ ap (λ (s : Stamp). stamps_in ss ++ replicate c.args.count s) (c.is_same.ensures c.if-is_same.true)
