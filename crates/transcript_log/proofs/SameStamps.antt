-- Stamps are the same where their ticks and the fields of their fates are.
use Rattle.std.proofs.Common.{◌≡◌, ℕ, ◌≤◌, ◌&&◌, true, List, [], ◌∷◌, length, take, refl, sym, ◌∙◌, arith}
use Rattle.std.specs.Prelude.{◌==◌}
use Rattle.std.specs.Cmp.Lexicographic.{pointwise}
use Rattle.std.proofs.lemmas.Bool.{false≢true, and_parts, eqb-true}
use Rattle.link_lanes.specs.FateFields.{delays_of, fields_of}
use Rattle.transcript_log.specs.declared.transcript.Stamp.{Stamp}

same_list : (x y : List ℕ) → pointwise (λ a b. a == b) x y ≡ true → x ≡ y
same_list [] [] is = refl
same_list [] (b ∷ y) is = absurd (false≢true is)
same_list (a ∷ x) [] is = absurd (false≢true is)
same_list (a ∷ x) (b ∷ y) is =
    let both = and_parts (a == b) (pointwise (λ c d. c == d) x y) is in
    let first : a ≡ b = eqb-true a b both.0 in
    let rest : x ≡ y = same_list x y both.1 in
    λ i. first i ∷ rest i

-- the fields of a fate give it back
kept : (fate : List ℕ) → length fate ≤ 3 → delays_of (fields_of fate) ≡ fate
kept [] few = refl
kept (a ∷ []) few = refl
kept (a ∷ b ∷ []) few = refl
kept (a ∷ b ∷ c ∷ []) few = refl
kept (a ∷ b ∷ c ∷ d ∷ more) few = absurd (omega arith)

pub same_stamp : (x y : Stamp) → length x.fate ≤ 3 → length y.fate ≤ 3
    → ((x.tick == y.tick) && (((fields_of x.fate).count == (fields_of y.fate).count) && pointwise (λ a b. a == b) (fields_of x.fate).delays (fields_of y.fate).delays)) ≡ true → x ≡ y
same_stamp x y few_x few_y is =
    let parts = and_parts (x.tick == y.tick) (((fields_of x.fate).count == (fields_of y.fate).count) && pointwise (λ a b. a == b) (fields_of x.fate).delays (fields_of y.fate).delays) is in
    let fields = and_parts ((fields_of x.fate).count == (fields_of y.fate).count) (pointwise (λ a b. a == b) (fields_of x.fate).delays (fields_of y.fate).delays) parts.1 in
    let tick : x.tick ≡ y.tick = eqb-true x.tick y.tick parts.0 in
    let count : (fields_of x.fate).count ≡ (fields_of y.fate).count = eqb-true (fields_of x.fate).count (fields_of y.fate).count fields.0 in
    let delays : (fields_of x.fate).delays ≡ (fields_of y.fate).delays = same_list (fields_of x.fate).delays (fields_of y.fate).delays fields.1 in
    let fate : x.fate ≡ y.fate = sym (kept x.fate few_x) ∙ (λ i. take (count i) (delays i)) ∙ kept y.fate few_y in
    λ i. record { tick = tick i; fate = fate i }
