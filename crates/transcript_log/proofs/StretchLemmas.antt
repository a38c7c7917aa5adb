-- Stretches of which the last is longer, and the last stretches.
use Rattle.std.proofs.Common.{◌≡◌, ℕ, zero, suc, ◌+◌, ◌-◌, ◌<◌, ◌≤◌, ◌++◌, ◌∷◌, [], List, length, set, get_or, take, drop, replicate, ap, sym, ◌∙◌, arith, append_assoc, append-nil, length-append}
use Rattle.std.proofs.lemmas.List.{replicate-append-replicate, length-replicate, take-append-drop, drop_more}
use Rattle.std.proofs.lemmas.Grind.{flat_map-append}
use Rattle.std.proofs.Math.Seq.{drop-append-add}
use Rattle.transcript_log.specs.declared.transcript.Stamp.{Stamp}
use Rattle.transcript_log.specs.declared.stretches.Stretch.{Stretch}
use Rattle.transcript_log.specs.Stretches.{stamps_in}

-- a last stretch that is longer by n adds its stamp n times
pub longer_stretch : (ss : List Stretch) (k : ℕ) (d : Stretch) (n : ℕ) → length ss ≡ suc k
    → stamps_in (set ss k (record { stamp = (get_or ss k d).stamp; count = (get_or ss k d).count + n })) ≡ stamps_in ss ++ replicate n (get_or ss k d).stamp
longer_stretch [] k d n long = absurd (omega arith)
longer_stretch (s ∷ []) zero d n long =
    append-nil (replicate (s.count + n) s.stamp)
    ∙ sym (replicate-append-replicate s.count n s.stamp)
    ∙ ap (λ (stamps : List Stamp). stamps ++ replicate n s.stamp) (sym (append-nil (replicate s.count s.stamp)))
longer_stretch (s ∷ []) (suc k) d n long = absurd (omega arith)
longer_stretch (s ∷ t ∷ ts) zero d n long = absurd (omega arith)
longer_stretch (s ∷ t ∷ ts) (suc k) d n long =
    ap (λ (stamps : List Stamp). replicate s.count s.stamp ++ stamps) (longer_stretch (t ∷ ts) k d n (omega arith))
    ∙ sym (append_assoc (replicate s.count s.stamp) (stamps_in (t ∷ ts)) (replicate n (get_or (t ∷ ts) k d).stamp))

-- ---- the last stretches

-- the stamps before a place, and those from there on
both_parts : (ss : List Stretch) (at : ℕ) → stamps_in ss ≡ stamps_in (take at ss) ++ stamps_in (drop at ss)
both_parts ss at = ap stamps_in (sym (take-append-drop at ss)) ∙ flat_map-append (λ (s : Stretch). replicate s.count s.stamp) (take at ss) (drop at ss)

pub no_more : (ss : List Stretch) (at : ℕ) → length (stamps_in (drop at ss)) ≤ length (stamps_in ss)
no_more ss at =
    let both = ap length (both_parts ss at) ∙ length-append (stamps_in (take at ss)) (stamps_in (drop at ss)) in
    omega (arith, both)

-- where the last stretches have too few stamps, there is one before them
pub one_before : (ss : List Stretch) (at wanted : ℕ) → wanted ≤ length (stamps_in ss) → length (stamps_in (drop at ss)) < wanted → 0 < at
one_before ss zero wanted enough few = absurd (omega (arith, enough, few))
one_before ss (suc at) wanted enough few = omega arith

-- with the stretch before them there are more by its count
pub with_one_before : (ss : List Stretch) (k at : ℕ) (d : Stretch) → k < length ss → at ≡ k + 1 → length (stamps_in (drop k ss)) ≡ length (stamps_in (drop at ss)) + (get_or ss k d).count
with_one_before ss k at d lt is =
    let s : Stretch = get_or ss k d in
    let parts : length (stamps_in (drop k ss)) ≡ length (replicate s.count s.stamp) + length (stamps_in (drop (k + 1) ss))
    = ap (λ (rest : List Stretch). length (stamps_in rest)) (drop_more ss k d lt) ∙ length-append (replicate s.count s.stamp) (stamps_in (drop (k + 1) ss)) in
    let rest : length (stamps_in (drop at ss)) ≡ length (stamps_in (drop (k + 1) ss)) = ap (λ (n : ℕ). length (stamps_in (drop n ss))) is in
    omega (arith, parts, rest, length-replicate s.count s.stamp)

-- the stamps from a place on are the last ones of the last stretches
pub last_of_last : (ss : List Stretch) (first from : ℕ) → from ≤ length (stamps_in ss) → length (stamps_in ss) - from ≤ length (stamps_in (drop first ss))
    → drop (length (stamps_in (drop first ss)) - (length (stamps_in ss) - from)) (stamps_in (drop first ss)) ≡ drop from (stamps_in ss)
last_of_last ss first from within enough =
    let xs : List Stamp = stamps_in (take first ss) in
    let ys : List Stamp = stamps_in (drop first ss) in
    let rest : ℕ = length ys - (length (stamps_in ss) - from) in
    let both : length (stamps_in ss) ≡ length xs + length ys = ap length (both_parts ss first) ∙ length-append xs ys in
    let at : length xs + rest ≡ from = omega (arith, both, within, enough) in
    sym (drop-append-add xs ys rest) ∙ ap (λ n. drop n (xs ++ ys)) at ∙ ap (drop from) (sym (both_parts ss first))

pub last_spelled_out : (ss : List Stretch) (spelled now : List Stamp) (first len all from : ℕ) → spelled ≡ stamps_in (drop first ss) → stamps_in ss ≡ now → all ≡ length (stamps_in ss)
    → len ≡ length (stamps_in (drop first ss)) → all - from ≤ len → from ≤ length now → drop (len - (all - from)) spelled ≡ drop from now
last_spelled_out ss spelled now first len all from out is whole last enough within =
    let ys : List Stamp = stamps_in (drop first ss) in
    let same : length (stamps_in ss) ≡ length now = ap length is in
    let place : len - (all - from) ≡ length ys - (length (stamps_in ss) - from) = omega (arith, whole, last) in
    ap (λ (n : ℕ). drop n spelled) place
    ∙ ap (drop (length ys - (length (stamps_in ss) - from))) out
    ∙ last_of_last ss first from (omega (arith, within, same)) (omega (arith, whole, last, enough))
    ∙ ap (drop from) is
