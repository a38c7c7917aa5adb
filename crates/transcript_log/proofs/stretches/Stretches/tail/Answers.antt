use Rattle.std.proofs.Common.{◌≡◌, ◌-◌, List, length, drop, ap, ◌∙◌, subst}
use Rattle.std.specs.Prelude.{IfOk}
use Rattle.std.proofs.lemmas.List.{take_rest}
use Rattle.transcript_log.specs.declared.transcript.Stamp.{Stamp}
use Rattle.transcript_log.specs.declared.stretches.Stretch.{Stretch}
use Rattle.transcript_log.specs.Stretches.{stamps_in}
use Rattle.transcript_log.proofs.StretchLemmas.{last_spelled_out}
use Rattle.transcript_log.proofs.stretches.Stretches.tail.Goals as goal

pub returns : goal.returns
returns c =
    let first = c.last_stretches-first.result.0 in
    let len = c.last_stretches-first.result.1 in
    subst (λ (stamps : List Stamp). IfOk c.from_slice.result (λ made. made.items ≡ stamps))
    (take_rest c.deref-3.result.now (len - (c.self.inside.len - c.args.from))
    ∙ last_spelled_out c.self.inside.stretches.items c.deref-3.result.now c.args.self.now first len c.self.inside.len c.args.from
    (c.deref-3.ensures.value ∙ c.in_ok-stamps.ensures ∙ ap stamps_in (take_rest c.deref-2.result.now first) ∙ ap (λ (ss : List Stretch). stamps_in (drop first ss)) c.deref-2.ensures.value)
    c.self.view_is c.self.invariant
    (c.last_stretches-first.ensures.len ∙ ap (λ (ss : List Stretch). length (stamps_in (drop first ss))) c.deref.ensures.value)
    c.last_stretches-first.ensures.enough c.requires)
    c.from_slice.ensures.items
