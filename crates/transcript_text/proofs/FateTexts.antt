-- Fates, read and written.
use Rattle.std.proofs.Common.{◌≡◌, ◌∙◌, ◌<◌, ◌≤◌, ◌&&◌, nat_le, nat_lt, ℕ, zero, suc, Bool, true, false, List, [], ◌∷◌, map, All, refl, ap, arith, decimal, Some, None, inl, inr, subst}
use Rattle.std.specs.Prelude.{codes}
use Rattle.std.specs.Str.{bytes_eq}
use Rattle.std.specs.List.{list_all}
use Rattle.std.proofs.lemmas.Bool.Decides.{nat_tests}
use Rattle.std.proofs.lemmas.List.Elements.{All-cons, All-nil, All-head, All-tail}
use Rattle.link_lanes.specs.Fates.{is_delay, IsFate}
use Rattle.field_texts.specs.Numbers.{number_of}
use Rattle.field_texts.specs.Parts.{parts}
use Rattle.event_schedule.specs.Transcripts.{IsWithin}
use Rattle.field_texts.specs.Sets.{numbers_text}
use Rattle.link_lanes.specs.Texts.{delays_from, fate_of}
use Rattle.transcript_text.specs.Reading.{is_within}
use Rattle.field_texts.proofs.NumberLaws.{within_again, within_back}
use Rattle.field_texts.proofs.SetLaws.{clean_numbers, first_back, not_dash, some_numbers}
use Rattle.field_texts.proofs.TextLaws.{parts_joined}
use Rattle.field_texts.proofs.Choices.{is_word, pick}

pub within_all : (n : ℕ) (xs : List ℕ) → is_within n xs ≡ true → IsWithin n xs
within_all n [] h = All-nil (λ i. i < n)
within_all n (x ∷ xs) h = All-cons (λ i. i < n) x xs (grind (arith, nat_tests, h)) (within_all n xs (by_test (nat_lt x n) h))
  where
    by_test : (b : Bool) → (b && is_within n xs) ≡ true → is_within n xs ≡ true
    by_test true h = h
    by_test false h = absurd cc

pub all_within : (n : ℕ) (xs : List ℕ) → IsWithin n xs → is_within n xs ≡ true
all_within n [] w = refl
all_within n (x ∷ xs) w =
    let t : nat_lt x n ≡ true = (let l = All-head (λ i. i < n) x xs w in grind (arith, nat_tests, l)) in
    rw (t, all_within n xs (All-tail (λ i. i < n) x xs w)) refl

-- ---- fates back

-- up to k delays that don't fall, from low on
abbrev pub Delays : ℕ → ℕ → List ℕ → Type 0
Delays k low [] = Unit {0}
Delays zero low (d ∷ ds) = ⊥
Delays (suc k) low (d ∷ ds) = (low ≤ d) × (d < 17) × Delays k d ds

delays_back : (k low : ℕ) (ps : List (List ℕ)) (ds : List ℕ) → delays_from k low ps ≡ Some ds → (ps ≡ map decimal ds) × Delays k low ds
unfolding delays_from
delays_back zero low [] ds h = let e : ds ≡ [] = cc in rw e (refl, tt)
delays_back (suc k) low [] ds h = let e : ds ≡ [] = cc in rw e (refl, tt)
delays_back zero low (p ∷ ps) ds h = absurd cc
delays_back (suc k) low (p ∷ ps) ds h =
    let f = first_back _ _ ds h in
    let w = within_back low 17 f.0 p f.2 in
    let r = delays_back k f.0 ps f.1 f.3 in
    rw f.4 (ap (λ q. q ∷ ps) w.0 ∙ ap (λ q. decimal f.0 ∷ q) r.0, (w.1, w.2, r.1))

delay_test : (d : ℕ) → 1 ≤ d → d < 17 → is_delay d ≡ true
delay_test d a b = grind (arith, nat_tests)

order_test : (a b : ℕ) → a ≤ b → nat_le a b ≡ true
order_test a b h = grind (arith, nat_tests)

pub delays_fate : (ds : List ℕ) → Delays 3 1 ds → IsFate ds
delays_fate [] h = record { few = omega arith; delays = refl; order = refl }
delays_fate (a ∷ []) h = record { few = omega arith; delays = rw (delay_test a h.0 h.1) refl; order = refl }
delays_fate (a ∷ b ∷ []) h =
    let lb : 1 ≤ b = omega (arith, h.0, h.2.0) in
    record { few = omega arith; delays = rw (delay_test a h.0 h.1, delay_test b lb h.2.1) refl; order = rw (order_test a b h.2.0) refl }
delays_fate (a ∷ b ∷ c ∷ []) h =
    let lb : 1 ≤ b = omega (arith, h.0, h.2.0) in
    let lc : 1 ≤ c = omega (arith, lb, h.2.2.0) in
    record { few = omega arith; delays = rw (delay_test a h.0 h.1, delay_test b lb h.2.1, delay_test c lc h.2.2.1) refl; order = rw (order_test a b h.2.0, order_test b c h.2.2.0) refl }
delays_fate (a ∷ b ∷ c ∷ d ∷ ds) h = absurd h.2.2.2

pub fate_back : (text ds : List ℕ) → fate_of text ≡ Some ds → (text ≡ numbers_text ds) × IsFate ds
unfolding fate_of
fate_back text ds h = elim (pick (bytes_eq text (codes "-")) (Some []) (delays_from 3 1 (parts 43 text)) (Some ds) h) [
  | inl w ↦ let e : [] ≡ ds = cc in (is_word text (codes "-") w.0 ∙ ap numbers_text e, subst (λ (q : List ℕ). IsFate q) e (delays_fate [] tt))
  | inr w ↦ let a = delays_back 3 1 (parts 43 text) ds w.1 in (some_numbers text ds a.0, delays_fate ds a.1)
]

-- ---- forth

delays_again : (k low : ℕ) (ds : List ℕ) → Delays k low ds → delays_from k low (map decimal ds) ≡ Some ds
unfolding delays_from
delays_again zero low [] h = refl
delays_again (suc k) low [] h = refl
delays_again zero low (d ∷ ds) h = absurd h
delays_again (suc k) low (d ∷ ds) h =
    let w = within_again low 17 d h.0 h.1 (omega arith) in
    let ih = delays_again k d ds h.2 in
    rw (w, ih) refl

dash_no_delay : delays_from 3 1 (parts 43 (codes "-")) ≡ None
unfolding delays_from number_of
dash_no_delay = refl

delays_small : (k low : ℕ) (ds : List ℕ) → Delays k low ds → All (λ i. i < 17) ds
delays_small k low [] h = All-nil (λ i. i < 17)
delays_small zero low (d ∷ ds) h = absurd h
delays_small (suc k) low (d ∷ ds) h = All-cons (λ i. i < 17) d ds h.1 (delays_small k d ds h.2)

and_both : (a b : Bool) → (a && b) ≡ true → (a ≡ true) × (b ≡ true)
and_both true b h = (refl, h)
and_both false b h = absurd cc

from_delay : (d : ℕ) → is_delay d ≡ true → (1 ≤ d) × (d < 17)
from_delay d h = (grind (arith, nat_tests, h), grind (arith, nat_tests, h))

from_order : (a b : ℕ) → nat_le a b ≡ true → a ≤ b
from_order a b h = grind (arith, nat_tests, h)

pub fate_delays : (ds : List ℕ) → IsFate ds → Delays 3 1 ds
fate_delays [] f = tt
fate_delays (a ∷ []) f = let x = from_delay a (and_both (is_delay a) true f.delays).0 in (x.0, x.1, tt)
fate_delays (a ∷ b ∷ []) f =
    let d = and_both (is_delay a) (list_all is_delay (b ∷ [])) f.delays in
    let x = from_delay a d.0 in
    let y = from_delay b (and_both (is_delay b) true d.1).0 in
    let o = from_order a b (and_both (nat_le a b) true f.order).0 in
    (x.0, x.1, (o, y.1, tt))
fate_delays (a ∷ b ∷ c ∷ []) f =
    let d = and_both (is_delay a) (list_all is_delay (b ∷ c ∷ [])) f.delays in
    let e = and_both (is_delay b) (list_all is_delay (c ∷ [])) d.1 in
    let x = from_delay a d.0 in
    let y = from_delay b e.0 in
    let z = from_delay c (and_both (is_delay c) true e.1).0 in
    let o = and_both (nat_le a b) (nat_le b c && true) f.order in
    let p = from_order b c (and_both (nat_le b c) true o.1).0 in
    (x.0, x.1, (from_order a b o.0, y.1, (p, z.1, tt)))
fate_delays (a ∷ b ∷ c ∷ d ∷ ds) f = let l = f.few in absurd (omega (arith, l))

pub fate_again : (ds : List ℕ) → IsFate ds → fate_of (numbers_text ds) ≡ Some ds
unfolding fate_of
fate_again [] f = refl
fate_again (d ∷ ds) f =
    let h = fate_delays (d ∷ ds) f in
    not_dash (delays_from 3 1) (numbers_text (d ∷ ds)) (d ∷ ds) dash_no_delay
    (ap (delays_from 3 1) (parts_joined 43 (decimal d) (map decimal ds) (clean_numbers 43 17 (d ∷ ds) (omega arith) (omega arith) (delays_small 3 1 (d ∷ ds) h))) ∙ delays_again 3 1 (d ∷ ds) h)

pub fate_small : (ds : List ℕ) → IsFate ds → All (λ i. i < 17) ds
fate_small ds f = delays_small 3 1 ds (fate_delays ds f)
