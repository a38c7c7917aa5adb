-- The digits of a number below 1000.
use Rattle.std.proofs.Common.{◌≡◌, ℕ, ◌+◌, ◌/◌, ◌%◌, ◌<◌, ◌≤◌, List, [], ◌∷◌, ◌++◌, decimal, sym, ap, ◌∙◌, append_assoc, arith}
use Rattle.std.proofs.lemmas.Fmt.{decimal_digit, decimal_step}

pub one_digit : (n x : ℕ) (before after : List ℕ) → n < 10 → x ≡ 48 + n → after ≡ before ++ x ∷ [] → after ≡ before ++ decimal n
one_digit n x before after few is put = rw (decimal_digit n few, ← is) put

-- one digit more at the end
pub digit_more : (n x : ℕ) (before middle after : List ℕ) → 10 ≤ n → n < 1000 → x ≡ 48 + n % 10 → middle ≡ before ++ decimal (n / 10) → after ≡ middle ++ x ∷ []
    → after ≡ before ++ decimal n
digit_more n x before middle after some few is so_far put =
    put ∙ ap (λ q. q ++ x ∷ []) so_far ∙ append_assoc before (decimal (n / 10)) (x ∷ [])
    ∙ ap (λ d. before ++ (decimal (n / 10) ++ d ∷ [])) is ∙ ap (λ q. before ++ q) (sym (decimal_step n some (omega arith)))
