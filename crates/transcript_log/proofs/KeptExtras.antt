-- Small extras under a list of sets that grows.
use Rattle.std.proofs.Common.{◌≡◌, ℕ, ◌+◌, ◌*◌, ◌-◌, ◌^◌, ◌<◌, List, [], ◌∷◌, ◌++◌, length, map, All, refl, ap, ap₂, ◌∙◌, length-append, arith}
use Rattle.std.proofs.lemmas.List.{map-append}
use Rattle.std.proofs.lemmas.List.Elements.{All-head, All-tail, All-push, All-weaker}
use Rattle.transcript_log.specs.declared.extras.Extra.{Extra}
use Rattle.transcript_log.specs.declared.extras.SmallExtra.{SmallExtra}
use Rattle.transcript_log.specs.Extras.{extra_in, HasSet, Grows, HaveSets}

-- ---- a longer list of sets gives the same, where the place is one of the shorter list

extra-grown : (xs ys : List (List ℕ)) (e : SmallExtra) → Grows xs ys → HasSet (length xs) e → extra_in ys e ≡ extra_in xs e
extra-grown xs ys e grows has = ap (λ (set : List ℕ). record { set = set; word = e.low + 2 ^ 32 * e.high }) (grows.same e.set [] has)

extras-grown : (xs ys : List (List ℕ)) (es : List SmallExtra) → Grows xs ys → All (HasSet (length xs)) es → map (extra_in ys) es ≡ map (extra_in xs) es
extras-grown xs ys [] grows have = refl
extras-grown xs ys (e ∷ es) grows have =
    ap₂ (λ (x : Extra) (rest : List Extra). x ∷ rest)
    (extra-grown xs ys e grows (All-head (HasSet (length xs)) e es have))
    (extras-grown xs ys es grows (All-tail (HasSet (length xs)) e es have))

-- ---- one more

pub one_extra_more : (xs ys : List (List ℕ)) (es : List SmallExtra) (e : SmallExtra) (extra : Extra) → HaveSets xs es → Grows xs ys → extra_in ys e ≡ extra → map (extra_in ys) (es ++ e ∷ []) ≡ map (extra_in xs) es ++ extra ∷ []
one_extra_more xs ys es e extra have grows is =
    map-append (extra_in ys) es (e ∷ [])
    ∙ ap₂ (λ (front : List Extra) (x : Extra). front ++ x ∷ []) (extras-grown xs ys es grows have.placed) is

pub still_have_sets : (xs ys : List (List ℕ)) (es : List SmallExtra) (e : SmallExtra) → HaveSets xs es → length es < 2 ^ 32 - 1 → Grows xs ys → HasSet (length ys) e → HaveSets ys (es ++ e ∷ [])
still_have_sets xs ys es e have few grows has =
    let long = length-append es (e ∷ []) in
    record {
      few = omega (arith, few, long);
      fewer = omega (arith, have.fewer, grows.most, long);
      placed = All-push (HasSet (length ys)) es e (All-weaker (HasSet (length xs)) (HasSet (length ys)) (λ (x : SmallExtra) (p : HasSet (length xs) x). omega (arith, p, grows.least)) es have.placed) has;
    }
