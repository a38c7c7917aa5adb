use Rattle.std.proofs.Common.{◌≡◌, ◌-◌, ℕ, List, Result, IfOk, ap, ◌∙◌, subst, arith}
use Rattle.std.specs.declared.alloc.AllocError.{AllocError}
use Rattle.std.specs.List.{range_with_len, AllZip}
use Rattle.rayon.specs.Numbers.{nat_range}
use Rattle.transcript_text.specs.Ahead.{IsPieceOf}
use Rattle.transcript_text.specs.declared.piece.Piece.{Piece}
use Rattle.transcript_text.proofs.AheadLemmas.{pieces_are}
use Rattle.transcript_text.proofs.piece.pieces.Goals as goal

pub collect-requires-clause-ready : goal.collect-requires-clause-ready
collect-requires-clause-ready g c κs within =
    let ends = c.into_par_iter.ensures in
    rw (c.map.ensures.base, c.with_min_len.ensures.base, c.map.ensures.f, ends.0, ends.1) (λ k d lt. (c.requires, λ y p. tt))

pub returns : goal.returns
returns g c =
    let ends = c.into_par_iter.ensures in
    let start = ap (λ r. r.start) c.with_min_len.ensures.base ∙ ends.0 in
    let end = ap (λ r. r.end) c.with_min_len.ensures.base ∙ ends.1 in
    let count = c.min-count.result in
    let whole : count - 0 ≡ count = omega arith in
    let P : ℕ → Result Piece AllocError → Type 0 = λ k piece. IfOk piece (IsPieceOf c.args.version c.args.plan.now c.args.text.now) in
    let all = c.in_ok-collect.ensures in
    let chain = rw (c.map.ensures.base, c.map.ensures.f) at all.1 in
    let numbers = chain.1 ∙ (λ i. nat_range (start i) (end i)) ∙ ap (range_with_len 0) whole in
    let each : AllZip P (range_with_len 0 count) all.0
    = subst (λ (xs : List ℕ). AllZip P xs all.0) numbers chain.2 in
    pieces_are c.args.version c.args.plan.now c.args.text.now (range_with_len 0 count) all.0 c.in_ok-collect.field-0 all.2 each
