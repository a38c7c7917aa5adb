-- Fates read delay by delay.
use Rattle.std.proofs.Common.{◌≡◌, ◌∙◌, ◌<◌, ℕ, zero, suc, List, [], ◌∷◌, ◌++◌, length, Option, Some, None, Err, refl, sym, ap, arith, append_assoc}
use Rattle.link_lanes.specs.declared.FateError.{FateError}
use Rattle.link_lanes.specs.declared.FateError.TheVariants.{Copies, Delay, Order}
use Rattle.link_lanes.specs.Fates.{MakesFate, IsFate}
use Rattle.field_texts.specs.Numbers.{number_of, within}
use Rattle.field_texts.specs.Parts.{parts}
use Rattle.field_texts.specs.Sets.{ahead, with_first}
use Rattle.link_lanes.specs.Texts.{delays_from}
use Rattle.field_texts.proofs.Cutting.{parts_some}

-- what is a fate is made one
pub is_fate : (delays : List ℕ) (e : FateError) → IsFate delays → MakesFate delays (Err e) → ⊥
is_fate delays Copies f h = let l = f.few in omega (arith, h, l)
is_fate delays Delay f h = absurd (let a = f.delays in let b = h.1 in cc)
is_fate delays Order f h = absurd (let a = f.order in let b = h.2 in cc)

step : (k low : ℕ) (ps : List (List ℕ)) (p : List ℕ) (more : List (List ℕ)) → ps ≡ p ∷ more → delays_from (suc k) low ps ≡ with_first (within low 17 (number_of p)) (λ d. delays_from k d more)
unfolding delays_from
step k low ps p more cut = ap (delays_from (suc k) low) cut

none_left : (k d : ℕ) → delays_from k d [] ≡ Some []
unfolding delays_from
none_left zero d = refl
none_left (suc k) d = refl

-- the last delay
pub delay_last : (xs : List ℕ) (k low d : ℕ) (text : List ℕ) → parts 43 text ≡ text ∷ [] → Some d ≡ within low 17 (number_of text) → Some (xs ++ d ∷ []) ≡ ahead xs (delays_from (suc k) low (parts 43 text))
delay_last xs k low d text cut is =
    sym (ap (ahead xs) (step k low (parts 43 text) text [] cut ∙ ap (λ o. with_first o (λ x. delays_from k x [])) (sym is) ∙ ap (ahead (d ∷ [])) (none_left k d)))

ahead_ahead : (xs ys : List ℕ) (z : Option (List ℕ)) → ahead xs (ahead ys z) ≡ ahead (xs ++ ys) z
ahead_ahead xs ys None = refl
ahead_ahead xs ys (Some zs) = ap Some (sym (append_assoc xs ys zs))

-- a delay, and more
pub delay_more : (xs : List ℕ) (k low d : ℕ) (text part rest : List ℕ) → parts 43 text ≡ part ∷ parts 43 rest → Some d ≡ within low 17 (number_of part)
    → ahead (xs ++ d ∷ []) (delays_from k d (parts 43 rest)) ≡ ahead xs (delays_from (suc k) low (parts 43 text))
delay_more xs k low d text part rest cut is =
    sym (ap (ahead xs) (step k low (parts 43 text) part (parts 43 rest) cut ∙ ap (λ o. with_first o (λ x. delays_from k x (parts 43 rest))) (sym is))
    ∙ ahead_ahead xs (d ∷ []) (delays_from k d (parts 43 rest)))

-- a part that is no delay
pub delay_bad : (xs : List ℕ) (k low : ℕ) (text part : List ℕ) (more : List (List ℕ)) → parts 43 text ≡ part ∷ more → None ≡ within low 17 (number_of part) → None ≡ ahead xs (delays_from (suc k) low (parts 43 text))
delay_bad xs k low text part more cut is =
    sym (ap (ahead xs) (step k low (parts 43 text) part more cut ∙ ap (λ o. with_first o (λ x. delays_from k x more)) (sym is)))

nothing : (o : Option ℕ) (ps : List (List ℕ)) → 0 < length ps → with_first o (λ x. delays_from 0 x ps) ≡ None
unfolding delays_from
nothing None ps some = refl
nothing (Some d) [] some = absurd (omega arith)
nothing (Some d) (p ∷ ps) some = refl

-- one part too many
pub delay_over : (xs : List ℕ) (low : ℕ) (text part rest : List ℕ) → parts 43 text ≡ part ∷ parts 43 rest → None ≡ ahead xs (delays_from 1 low (parts 43 text))
delay_over xs low text part rest cut = sym (ap (ahead xs) (step 0 low (parts 43 text) part (parts 43 rest) cut ∙ nothing (within low 17 (number_of part)) (parts 43 rest) (parts_some 43 rest)))

-- nothing before
pub ahead_none : (o : Option (List ℕ)) → ahead [] o ≡ o
ahead_none None = refl
ahead_none (Some xs) = refl
