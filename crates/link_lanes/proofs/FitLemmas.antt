-- Lanes that rows take out of a cupboard.
use Rattle.std.proofs.Common.{◌≡◌, ◌∙◌, sym, ap, subst, ℕ, suc, ◌+◌, ◌-◌, ◌<◌, ◌≤◌, List, [], ◌∷◌, ◌++◌, map, take, drop, get_or, length, arith, add-one, Bool, false, cond, Some, Result, Ok, Err}
use Rattle.std.proofs.lemmas.List.{take_all}
use Rattle.std.specs.List.{remove}
use Rattle.std.specs.Option.{option_map}
use Rattle.std.specs.Prelude.{bytes_eq}
use Rattle.link_lanes.specs.declared.row.LaneRow.{LaneRow}
use Rattle.link_lanes.specs.declared.cupboard.RackError.{RackError}
use Rattle.link_lanes.specs.Lanes.{Meaning, Slot}
use Rattle.link_lanes.specs.Fits.{take_named, hung_by}

-- ---- the first lane of a name

-- the lane at this place is the first of the name
abbrev pub IsNamed : {X : Type 0} → (X → Meaning) → List ℕ → List X → ℕ → Type 0
IsNamed {X} f name xs at =
    (at < length xs) × ((d : X) → take_named name (map f xs) ≡ Some (f (get_or xs at d), map f (remove xs at)))

named_behind : {X : Type 0} (f : X → Meaning) (name : List ℕ) (y : X) (ys : List X) (at : ℕ) → bytes_eq (f y).called name ≡ false → IsNamed f name ys at → IsNamed f name (y ∷ ys) (suc at)
named_behind f name y ys at other h = (
  omega (arith, h.0),
  λ d.
      ap (λ b. cond b (Some (f y, map f ys)) (option_map (λ p. (p.0, f y ∷ p.1)) (take_named name (map f ys)))) other
      ∙ ap (option_map (λ p. (p.0, f y ∷ p.1))) (h.1 d),
)

-- behind a first lane of another name
pub named_next : {X : Type 0} (f : X → Meaning) (name : List ℕ) (xs : List X) (x : X) (at : ℕ) (r : Bool) → x ≡ get_or xs 0 x → 1 ≤ length xs → r ≡ bytes_eq (f x).called name → r ≡ false → IsNamed f name (take (length xs - 1) (drop 1 xs)) at → IsNamed f name xs (at + 1)
named_next f name [] x at r is_x lt is_r other h = absurd (omega arith)
named_next f name (y ∷ ys) x at r is_x lt is_r other h =
    let tail : take (length (y ∷ ys) - 1) (drop 1 (y ∷ ys)) ≡ ys = take_all (length (y ∷ ys) - 1) ys (omega arith) in
    let h' : IsNamed f name ys at = subst (λ l. IsNamed f name l at) tail h in
    let other' : bytes_eq (f y).called name ≡ false = ap (λ z. bytes_eq (f z).called name) (sym is_x) ∙ sym is_r ∙ other in
    rw add-one (named_behind f name y ys at other' h')

-- a lane that refuses its argument
pub refused_argument : {X : Type 0} (f : X → Meaning) (name name' arg arg' : List ℕ) (xs xs' : List X) (at : ℕ) (x : X) → ((d : X) → take_named name' (map f xs') ≡ Some (f (get_or xs' at d), map f (remove xs' at))) → name' ≡ name → xs' ≡ xs → x ≡ get_or xs at x → arg' ≡ arg → (f x).fits arg' ≡ false → (m : Meaning) × (rest : List Meaning) × (take_named name (map f xs) ≡ Some (m, rest)) × (m.fits arg ≡ false)
refused_argument f name name' arg arg' xs xs' at x h is_name is_xs is_x is_arg is_false = (
  f (get_or xs at x),
  map f (remove xs at),
  subst (λ n. take_named n (map f xs) ≡ Some (f (get_or xs at x), map f (remove xs at))) is_name
      (subst (λ l. take_named name' (map f l) ≡ Some (f (get_or l at x), map f (remove l at))) is_xs (h x)),
  sym (ap (λ z. (f z).fits arg) is_x) ∙ sym (ap (λ a. (f x).fits a) is_arg) ∙ is_false,
)

-- ---- rows

-- these lanes before those that the later rows hang
abbrev pub all_before : List Slot → Result (List Slot) RackError → Result (List Slot) RackError
all_before slots (Ok later) = Ok (slots ++ later)
all_before slots (Err e) = Err e

-- what the rows make of all the lanes, from those that hang and those that are left
abbrev pub GoesOn : List Slot → List Meaning → List LaneRow → List Meaning → List LaneRow → Type 0
GoesOn hung left rows cupboard all = all_before hung (hung_by left rows) ≡ hung_by cupboard all
