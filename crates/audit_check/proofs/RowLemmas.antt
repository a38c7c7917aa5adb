-- Two lists of rows, compared place by place.
use Rattle.std.proofs.Common.{◌≡◌, ◌≢◌, ℕ, zero, suc, ◌<◌, ◌≤◌, Bool, true, false, List, [], ◌∷◌, length, take, refl, sym, ap, ◌∙◌, arith}
use Rattle.std.specs.Prelude.{slice_get, Option, None}
use Rattle.totals_report.specs.declared.row.ReportRow.{ReportRow}
use Rattle.std.proofs.lemmas.Bool.{false≢true}
use Rattle.audit_check.specs.Deciding.{Decides}

-- the same row at one place more
pub same_more : (xs ys : List ReportRow) (at : ℕ) → at < length xs → slice_get xs at ≡ slice_get ys at → take at xs ≡ take at ys → (take (suc at) xs ≡ take (suc at) ys) × (at < length ys)
same_more [] ys at lt same before = absurd (omega (arith, lt))
same_more (x ∷ xs) [] zero lt same before = absurd cc
same_more (x ∷ xs) [] (suc at) lt same before = absurd cc
same_more (x ∷ xs) (y ∷ ys) zero lt same before = let is : x ≡ y = cc in (ap (λ z. z ∷ []) is, omega arith)
same_more (x ∷ xs) (y ∷ ys) (suc at) lt same before =
    let first : x ≡ y = cc in
    let rest : take at xs ≡ take at ys = cc in
    let more = same_more xs ys at (omega (arith, lt)) same rest in
    (ap (λ z. z ∷ take (suc at) xs) first ∙ ap (λ zs. y ∷ zs) more.0, let le = more.1 in omega (arith, le))

-- one list has ended, and the other has not
pub one_ended : (xs ys : List ReportRow) (at : ℕ) → length xs ≤ at → at < length ys → slice_get xs at ≢ slice_get ys at
one_ended xs [] at past lt same = absurd (omega (arith, lt))
one_ended [] (y ∷ ys) zero past lt same = absurd cc
one_ended [] (y ∷ ys) (suc at) past lt same = one_ended [] ys at (omega arith) (omega (arith, lt)) (none at ∙ same)
  where
    none : (n : ℕ) → ◌≡◌ {A = Option ReportRow} (slice_get [] n) None
    none zero = refl
    none (suc n) = refl
one_ended (x ∷ xs) (y ∷ ys) zero past lt same = absurd (omega (arith, past))
one_ended (x ∷ xs) (y ∷ ys) (suc at) past lt same = one_ended xs ys at (omega (arith, past)) (omega (arith, lt)) same

-- what a comparison says
pub same_if : (one other : Option ReportRow) (q : Bool) → Decides (one ≡ other) q → q ≡ true → one ≡ other
same_if one other true is h = is
same_if one other false is h = absurd (false≢true h)

pub differ_if : (one other : Option ReportRow) (q : Bool) → Decides (one ≡ other) q → q ≡ false → one ≢ other
differ_if one other false is h = is
differ_if one other true is h = absurd (false≢true (sym h))
