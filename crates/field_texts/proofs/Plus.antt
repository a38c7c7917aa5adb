-- Numbers joined by `+`, as they are written one by one.
use Rattle.std.proofs.Common.{◌≡◌, ◌∙◌, ℕ, List, [], ◌∷◌, ◌++◌, map, sym, ap, append_assoc, decimal}
use Rattle.std.specs.List.{join_with_byte}

abbrev pub plus : List ℕ → List ℕ
plus xs = join_with_byte 43 (map decimal xs)

plus_next : (y : ℕ) (ys : List ℕ) (x : ℕ) → plus ((y ∷ ys) ++ x ∷ []) ≡ (plus (y ∷ ys) ++ 43 ∷ []) ++ decimal x
plus_next y [] x = sym (append_assoc (decimal y) (43 ∷ []) (decimal x))
plus_next y (z ∷ zs) x =
    ap (λ q. decimal y ++ 43 ∷ q) (plus_next z zs x)
    ∙ sym (ap (λ q. q ++ decimal x) (append_assoc (decimal y) (43 ∷ plus (z ∷ zs)) (43 ∷ []))
    ∙ append_assoc (decimal y) ((43 ∷ plus (z ∷ zs)) ++ 43 ∷ []) (decimal x))

-- one more number is written
pub plus_more : (out old : List ℕ) (y : ℕ) (ys more : List ℕ) (x : ℕ) → out ≡ old ++ plus (y ∷ ys) → more ≡ (out ++ 43 ∷ []) ++ decimal x → more ≡ old ++ plus (y ∷ (ys ++ x ∷ []))
plus_more out old y ys more x so written =
    written ∙ ap (λ q. (q ++ 43 ∷ []) ++ decimal x) so ∙ ap (λ q. q ++ decimal x) (append_assoc old (plus (y ∷ ys)) (43 ∷ []))
    ∙ append_assoc old (plus (y ∷ ys) ++ 43 ∷ []) (decimal x) ∙ sym (ap (λ q. old ++ q) (plus_next y ys x))
