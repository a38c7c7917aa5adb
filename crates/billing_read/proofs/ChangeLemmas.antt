-- The changed table, place by place.
use Rattle.std.proofs.Common.{◌≡◌, ◌≢◌, ℕ, Bool, true, false, not, ◌&&◌, ◌||◌, refl, sym, ap, ◌∙◌, arith}
use Rattle.std.specs.Prelude.{◌==◌, Option, Some, None, is_some, unwrap_or, if◌then◌else◌}
use Rattle.std.specs.Option.{option_map}
use Rattle.std.proofs.lemmas.Bool.{false≢true, eq-eqb, ne_eqb}
use Rattle.event_schedule.specs.Tables.{Readings, reading_at}
use Rattle.billing_read.specs.declared.partners.Partner.{Partner}
use Rattle.billing_read.specs.Partners.{CanMove, CanExchange, move_of, moved, changed}
use Rattle.billing_read.proofs.CountLemmas.{Steps, Exchanges}

-- ---- one reading

mapped-none : (o : Option ℕ) → unwrap_or (option_map (moved None) o) 0 ≡ unwrap_or o 0
mapped-none None = refl
mapped-none (Some v) = refl

mapped-some : (plus : Bool) (o : Option ℕ) → CanMove plus o → Steps plus (unwrap_or o 0) (unwrap_or (option_map (moved (Some plus)) o) 0)
mapped-some plus None can = absurd can
mapped-some true (Some v) can = refl
mapped-some false (Some v) can = omega (arith, can)

mapped-present : (m : Option Bool) (o : Option ℕ) → is_some (option_map (moved m) o) ≡ is_some o
mapped-present m None = refl
mapped-present m (Some v) = refl

-- the changed table has the presence of the first
pub present-changed : (x : Readings) (g r i : ℕ) (p : Partner) (a b c : ℕ) → is_some (changed x g r i p a b c) ≡ is_some (x a b c)
present-changed x g r i p a b c = mapped-present (move_of g r i p a b c) (x a b c)

stays : (x : Readings) (g r i : ℕ) (p : Partner) (a b c : ℕ) → move_of g r i p a b c ≡ None → reading_at (changed x g r i p) a b c ≡ reading_at x a b c
stays x g r i p a b c is = ap (λ m. unwrap_or (option_map (moved m) (x a b c)) 0) is ∙ mapped-none (x a b c)

steps : (x : Readings) (g r i : ℕ) (p : Partner) (a b c : ℕ) (plus : Bool) → move_of g r i p a b c ≡ Some plus → CanMove plus (x a b c)
    → Steps plus (reading_at x a b c) (reading_at (changed x g r i p) a b c)
steps x g r i p a b c plus is can = rw is (mapped-some plus (x a b c) can)

-- ---- which places move

-- what two tests on the round and two on the meter come to
choice : (same here there meter partner plus : Bool) → Option Bool
choice same here there meter partner plus =
    if not same then None else if (here && meter) || (there && partner) then Some plus else if (here && partner) || (there && meter) then Some (not plus) else None

move-none : (same here there meter partner plus : Bool) → (same ≡ false) → choice same here there meter partner plus ≡ None
unfolding choice
move-none false here there meter partner plus is = refl
move-none true here there meter partner plus is = absurd (false≢true (sym is))

pub move-other_group : (g r i : ℕ) (p : Partner) (a b c : ℕ) → a ≢ g → move_of g r i p a b c ≡ None
unfolding choice
move-other_group g r i p a b c off = move-none (a == g) (b == r) (b == p.round) (c == i) (c == p.meter) p.plus (ne_eqb a g off)

no_rounds : (same meter partner plus : Bool) → choice same false false meter partner plus ≡ None
unfolding choice
no_rounds true meter partner plus = refl
no_rounds false meter partner plus = refl

pub move-other_round : (g r i : ℕ) (p : Partner) (a b c : ℕ) → b ≢ r → b ≢ p.round → move_of g r i p a b c ≡ None
unfolding choice
move-other_round g r i p a b c off on =
    ap (λ h. choice (a == g) h (b == p.round) (c == i) (c == p.meter) p.plus) (ne_eqb b r off)
    ∙ ap (λ t. choice (a == g) false t (c == i) (c == p.meter) p.plus) (ne_eqb b p.round on)
    ∙ no_rounds (a == g) (c == i) (c == p.meter) p.plus

no_meters : (same here there plus : Bool) → choice same here there false false plus ≡ None
unfolding choice
no_meters true true true plus = refl
no_meters true true false plus = refl
no_meters true false true plus = refl
no_meters true false false plus = refl
no_meters false here there plus = refl

pub move-other_meter : (g r i : ℕ) (p : Partner) (a b c : ℕ) → c ≢ i → c ≢ p.meter → move_of g r i p a b c ≡ None
unfolding choice
move-other_meter g r i p a b c off on =
    ap (λ m. choice (a == g) (b == r) (b == p.round) m (c == p.meter) p.plus) (ne_eqb c i off)
    ∙ ap (λ m. choice (a == g) (b == r) (b == p.round) false m p.plus) (ne_eqb c p.meter on)
    ∙ no_meters (a == g) (b == r) (b == p.round) p.plus

-- the four places, by their tests
at_tests : (g r i : ℕ) (p : Partner) (a b c : ℕ) (same here there meter partner : Bool)
    → (a == g) ≡ same → (b == r) ≡ here → (b == p.round) ≡ there → (c == i) ≡ meter → (c == p.meter) ≡ partner
    → move_of g r i p a b c ≡ choice same here there meter partner p.plus
unfolding choice
at_tests g r i p a b c same here there meter partner e f h k l = rw (e, f, h, k, l) refl

-- ---- the exchanges of a partner

-- where the readings can move, the four places step, and no other does
pub record AreMoved (x : Readings) (g r i : ℕ) (p : Partner) : Type 0 where
  pub here : Steps p.plus (reading_at x g r i) (reading_at (changed x g r i p) g r i)
  pub there : Steps p.plus (reading_at x g p.round p.meter) (reading_at (changed x g r i p) g p.round p.meter)
  pub partner_here : Steps (not p.plus) (reading_at x g r p.meter) (reading_at (changed x g r i p) g r p.meter)
  pub meter_there : Steps (not p.plus) (reading_at x g p.round i) (reading_at (changed x g r i p) g p.round i)

itself : (n : ℕ) → (n == n) ≡ true
itself n = eq-eqb n n refl

pub are_moved : (x : Readings) (g r i : ℕ) (p : Partner) → CanExchange x g r i p → AreMoved x g r i p
unfolding choice
are_moved x g r i p e = record {
  here = steps x g r i p g r i p.plus
      (at_tests g r i p g r i true true false true false (itself g) (itself r) (ne_eqb r p.round (λ z. e.other_round (sym z))) (itself i) (ne_eqb i p.meter (λ z. e.other_meter (sym z)))) e.here;
  there = steps x g r i p g p.round p.meter p.plus
      (at_tests g r i p g p.round p.meter true false true false true (itself g) (ne_eqb p.round r e.other_round) (itself p.round) (ne_eqb p.meter i e.other_meter) (itself p.meter)) e.there;
  partner_here = steps x g r i p g r p.meter (not p.plus)
      (at_tests g r i p g r p.meter true true false false true (itself g) (itself r) (ne_eqb r p.round (λ z. e.other_round (sym z))) (ne_eqb p.meter i e.other_meter) (itself p.meter)) e.partner_here;
  meter_there = steps x g r i p g p.round i (not p.plus)
      (at_tests g r i p g p.round i true false true true false (itself g) (ne_eqb p.round r e.other_round) (itself p.round) (itself i) (ne_eqb i p.meter (λ z. e.other_meter (sym z)))) e.meter_there;
}

apart : {u v : ℕ} → u ≢ v → v ≢ u
apart off = λ same. off (sym same)

-- in the round of the reading
pub exchange-here : (x : Readings) (g r i : ℕ) (p : Partner) → CanExchange x g r i p → Exchanges p.plus (reading_at x g r) (reading_at (changed x g r i p) g r) i p.meter
exchange-here x g r i p e = let m = are_moved x g r i p e in record {
  apart = apart e.other_meter;
  first = m.here;
  second = m.partner_here;
  others = λ k off on. stays x g r i p g r k (move-other_meter g r i p g r k off on);
}

-- in the round of the partner
pub exchange-there : (x : Readings) (g r i : ℕ) (p : Partner) → CanExchange x g r i p → Exchanges p.plus (reading_at x g p.round) (reading_at (changed x g r i p) g p.round) p.meter i
exchange-there x g r i p e = let m = are_moved x g r i p e in record {
  apart = e.other_meter;
  first = m.there;
  second = m.meter_there;
  others = λ k off on. stays x g r i p g p.round k (move-other_meter g r i p g p.round k on off);
}

-- of the meter of the reading, over the rounds
pub exchange-meter : (x : Readings) (g r i : ℕ) (p : Partner) → CanExchange x g r i p
    → Exchanges p.plus (λ b. reading_at x g b i) (λ b. reading_at (changed x g r i p) g b i) r p.round
exchange-meter x g r i p e = let m = are_moved x g r i p e in record {
  apart = apart e.other_round;
  first = m.here;
  second = m.meter_there;
  others = λ k off on. stays x g r i p g k i (move-other_round g r i p g k i off on);
}

-- of the meter of the partner
pub exchange-partner : (x : Readings) (g r i : ℕ) (p : Partner) → CanExchange x g r i p
    → Exchanges p.plus (λ b. reading_at x g b p.meter) (λ b. reading_at (changed x g r i p) g b p.meter) p.round r
exchange-partner x g r i p e = let m = are_moved x g r i p e in record {
  apart = e.other_round;
  first = m.there;
  second = m.partner_here;
  others = λ k off on. stays x g r i p g k p.meter (move-other_round g r i p g k p.meter on off);
}

-- readings of another group, round or meter stay
pub stays-group : (x : Readings) (g r i : ℕ) (p : Partner) (a b c : ℕ) → a ≢ g → reading_at (changed x g r i p) a b c ≡ reading_at x a b c
stays-group x g r i p a b c off = stays x g r i p a b c (move-other_group g r i p a b c off)

pub stays-round : (x : Readings) (g r i : ℕ) (p : Partner) (a b c : ℕ) → b ≢ r → b ≢ p.round → reading_at (changed x g r i p) a b c ≡ reading_at x a b c
stays-round x g r i p a b c off on = stays x g r i p a b c (move-other_round g r i p a b c off on)

pub stays-meter : (x : Readings) (g r i : ℕ) (p : Partner) (a b c : ℕ) → c ≢ i → c ≢ p.meter → reading_at (changed x g r i p) a b c ≡ reading_at x a b c
stays-meter x g r i p a b c off on = stays x g r i p a b c (move-other_meter g r i p a b c off on)
