-- Lists that are mapped and filtered.
use Rattle.std.proofs.Common.{◌≡◌, ◌∙◌, ap, refl, Bool, true, false, cond, List, [], ◌∷◌, map}
use Rattle.std.specs.List.{filter}

-- filtering before a map
pub map-filter : {X Y : Type 0} (f : X → Y) (p : Y → Bool) (xs : List X) → map f (filter (λ x. p (f x)) xs) ≡ filter p (map f xs)
map-filter f p [] = refl
map-filter f p (x ∷ xs) =
    let rest : map f (filter (λ y. p (f y)) xs) ≡ filter p (map f xs) = map-filter f p xs in
    elim (p (f x)) as (λ b. map f (cond b (x ∷ filter (λ y. p (f y)) xs) (filter (λ y. p (f y)) xs)) ≡ cond b (f x ∷ filter p (map f xs)) (filter p (map f xs)))
    [ true ↦ ap (λ l. f x ∷ l) rest | false ↦ rest ]

pub map-filtered : {X Y : Type 0} (f : X → Y) (p : Y → Bool) (xs ys : List X) → ys ≡ filter (λ x. p (f x)) xs → map f ys ≡ filter p (map f xs)
map-filtered f p xs ys e = ap (map f) e ∙ map-filter f p xs
