use Rattle.std.proofs.Common.{◌≡◌, ℕ, ◌-◌, List, length, sym, ap, ◌∙◌, subst, zero-add, arith}
use Rattle.std.specs.List.{AllZip, range_with_len}
use Rattle.std.proofs.lemmas.List.{length-map}
use Rattle.rayon.specs.Numbers.{nat_range}
use Rattle.rayon.proofs.ToStd.{nat_range-All}
use Rattle.event_schedule.specs.declared.Entry.{Entry}
use Rattle.event_schedule.specs.Events.{lines_of}
use Rattle.twin_worlds.specs.Comparing.{IsOther, DifferAt, CanCompare}
use Rattle.twin_worlds.specs.Twins.{lines_under}
use Rattle.twin_worlds.proofs.CompareLemmas.{lines-long, first-differ, differ-few}
use Rattle.twin_worlds.proofs.comparing.first_other.Goals as goal

pub position_first-requires-clause-items : goal.position_first-requires-clause-items
position_first-requires-clause-items g c κs within =
    let ends = c.into_par_iter.ensures in
    let inside = nat_range-All (CanCompare g.M.Masks.plan g.M.Masks.table c.args.world.now c.args.transcript.now) 0 c.len.result
    (λ i low high. record { tells = c.requires; within = omega (arith, high, c.len.ensures.len) }) in
    rw (c.with_min_len.ensures.base, ends.0, ends.1) inside

pub returns-clause-place : goal.returns-clause-place
returns-clause-place g c =
    let ends = c.into_par_iter.ensures in
    let w = c.args.world.now in
    let t = c.args.transcript.now in
    let x = w.known.readings.now in
    let m = g.M.Masks.table w.known.masks.now in
    let found = lines_of t.entries in
    let due = lines_under x m t in
    let n : length t.entries ≡ length found = sym (length-map t.entries (λ (e : Entry). e.line)) in
    let start = ap (λ r. r.start) c.with_min_len.ensures.base ∙ ends.0 in
    let end = ap (λ r. r.end) c.with_min_len.ensures.base ∙ ends.1 ∙ c.len.ensures.len ∙ n in
    let all = c.position_first.ensures in
    let whole : length found - 0 ≡ length found = omega arith in
    let numbers = all.2 ∙ (λ i. nat_range (start i) (end i)) ∙ ap (range_with_len 0) whole in
    let answers : AllZip (IsOther found due) (range_with_len 0 (length found)) all.1 = subst (λ (xs : List ℕ). AllZip (IsOther found due) xs all.1) numbers all.3 in
    subst (DifferAt found due) (sym all.4)
    (first-differ found due 0 (IsOther found due) (λ k b is. subst (λ j. IsOther found due j b) (zero-add k) is) (lines-long x m t ∙ n) (omega (arith, n, c.len.ensures.len, c.len.ensures.few)) all.1 answers)

pub returns-clause-few : goal.returns-clause-few
returns-clause-few g c =
    let w = c.args.world.now in
    let t = c.args.transcript.now in
    differ-few w.known.readings.now (g.M.Masks.table w.known.masks.now) t c.position_first.result (omega (arith, c.len.ensures.len, c.len.ensures.few)) (returns-clause-place g c)
