use Rattle.std.proofs.Common.{◌≡◌, ◌*◌, ◌-◌, ℕ, List, Vec, Result, Ok, Err, IfOk, length, map, ap, ◌∙◌, sym, subst, arith}
use Rattle.std.specs.declared.alloc.Global.{Global}
use Rattle.std.specs.declared.alloc.AllocError.{AllocError}
use Rattle.std.specs.Prelude.{MatchResult}
use Rattle.std.specs.List.{range_with_len, AllZip, Contains}
use Rattle.rayon.specs.Numbers.{nat_range}
use Rattle.rayon.proofs.ToStd.{nat_range-All}
use Rattle.plan_meters.proofs.HiddenLemmas.{all-there}
use Rattle.twin_worlds.specs.Answers.{AreAnswersAt, CanAnswer, AreAllAnswers}
use Rattle.twin_worlds.proofs.answer_words.all_rows.Goals as goal

pub collect-requires-clause-ready : goal.collect-requires-clause-ready
collect-requires-clause-ready g c κs within =
    let ends = c.into_par_iter.ensures in
    let b = c.args.book.now in
    let places : c.places_in.result ≡ b.presence.plan.rounds * length b.presence.plan.groups = c.places_in.ensures ∙ ap (λ p. p.rounds * length p.groups) c.plan.ensures in
    let inside = nat_range-All (CanAnswer (g.M.Masks.plan c.args.masks.now) b) 0 c.places_in.result
    (λ i low high. record { masks = c.requires; within = omega (arith, high, places) }) in
    rw (c.map.ensures.base, c.with_min_len.ensures.base, c.map.ensures.f, ends.0, ends.1) (λ k d lt. (inside k d lt, λ y p. tt))

-- what holds of all that it may give, holds where it gives something
gives : {Y : Type 0} (P Are : Y → Type 0) (Lacks : AllocError → Type 0) (r : Result Y AllocError) → ((y : Y) → Are y → P y) → MatchResult r Are Lacks → IfOk r P
gives P Are Lacks (Ok y) each is = each y is
gives P Are Lacks (Err e) each is = tt

pub returns : goal.returns
returns g c =
    let ends = c.into_par_iter.ensures in
    let b = c.args.book.now in
    let m = g.M.Masks.table c.args.masks.now in
    let n = b.presence.plan.rounds * length b.presence.plan.groups in
    let start = ap (λ r. r.start) c.with_min_len.ensures.base ∙ ends.0 in
    let end = ap (λ r. r.end) c.with_min_len.ensures.base ∙ ends.1 ∙ c.places_in.ensures ∙ ap (λ p. p.rounds * length p.groups) c.plan.ensures in
    let R : ℕ → Vec ℕ Global → Type 0 = λ k row. AreAnswersAt m b k row.items in
    let P : ℕ → Result (Vec ℕ Global) AllocError → Type 0 = λ k row. IfOk row (R k) in
    let all = c.in_ok-collect.ensures in
    let chain = rw (c.map.ensures.base, c.map.ensures.f) at all.1 in
    let whole : n - 0 ≡ n = omega arith in
    let numbers = chain.1 ∙ (λ i. nat_range (start i) (end i)) ∙ ap (range_with_len 0) whole in
    let Are : Vec (Vec ℕ Global) Global → Type 0 = λ rows. (ys : List (Vec ℕ Global)) × (all.0 ≡ map Ok ys) × (rows.items ≡ ys) in
    let Lacks : AllocError → Type 0 = λ e. Contains all.0 (Err e) in
    gives (λ rows. AreAllAnswers m b rows.items) Are Lacks c.in_ok-collect.field-0
    (λ rows ok.
    let each : AllZip P (range_with_len 0 n) (map Ok ok.0)
    = subst (λ (xs : List ℕ). AllZip P xs (map Ok ok.0)) numbers (subst (λ (ys : List (Result (Vec ℕ Global) AllocError)). AllZip P chain.0 ys) ok.1 chain.2) in
    record { each = subst (λ (ys : List (Vec ℕ Global)). AllZip R (range_with_len 0 n) ys) (sym ok.2) (all-there R (range_with_len 0 n) ok.0 each) }) all.2
