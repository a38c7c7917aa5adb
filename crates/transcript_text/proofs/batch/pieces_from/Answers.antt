use Rattle.std.proofs.Common.{◌≡◌, ◌-◌, ℕ, List, Vec, Result, IfOk, ap, ◌∙◌, subst, arith}
use Rattle.std.specs.declared.alloc.Global.{Global}
use Rattle.std.specs.declared.alloc.AllocError.{AllocError}
use Rattle.std.specs.List.{range_with_len, AllZip}
use Rattle.rayon.specs.Numbers.{nat_range}
use Rattle.rayon.proofs.ToStd.{nat_range-All}
use Rattle.transcript_text.specs.Batches.{HasPiece, IsPiece}
use Rattle.transcript_text.proofs.PieceLemmas.{all_there}
use Rattle.transcript_text.proofs.batch.pieces_from.Goals as goal

pub collect-requires-clause-ready : goal.collect-requires-clause-ready
collect-requires-clause-ready g c κs within =
    let ends = c.into_par_iter.ensures in
    let inside = nat_range-All (HasPiece c.args.transcript.now.entries c.args.at) 0 c.args.count (λ i low high. c.requires i high) in
    rw (c.map.ensures.base, c.with_min_len.ensures.base, c.map.ensures.f, ends.0, ends.1) (λ k d lt. (inside k d lt, λ y p. tt))

pub returns : goal.returns
returns g c =
    let ends = c.into_par_iter.ensures in
    let start = ap (λ r. r.start) c.with_min_len.ensures.base ∙ ends.0 in
    let end = ap (λ r. r.end) c.with_min_len.ensures.base ∙ ends.1 in
    let whole : c.args.count - 0 ≡ c.args.count = omega arith in
    let R : ℕ → Vec ℕ Global → Type 0 = λ k lines. IsPiece c.args.transcript.now.entries c.args.at k lines.items in
    let P : ℕ → Result (Vec ℕ Global) AllocError → Type 0 = λ k lines. IfOk lines (R k) in
    let all = c.in_ok-collect.ensures in
    let chain = rw (c.map.ensures.base, c.map.ensures.f) at all.1 in
    let numbers = chain.1 ∙ (λ i. nat_range (start i) (end i)) ∙ ap (range_with_len 0) whole in
    let each : AllZip P (range_with_len 0 c.args.count) all.0
    = subst (λ (xs : List ℕ). AllZip P xs all.0) numbers chain.2 in
    all_there R (range_with_len 0 c.args.count) all.0 c.in_ok-collect.field-0 all.2 each
