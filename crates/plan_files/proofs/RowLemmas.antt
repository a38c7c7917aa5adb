-- Fields of a record.
use Rattle.std.proofs.Common.{◌≡◌, ℕ, zero, suc, List, [], ◌∷◌, get_or, Option, Some, None, refl}
use Rattle.csv.specs.Records.{field_at}

pub field_some : (fields : List (List ℕ)) (place : ℕ) (x : List ℕ) → Some x ≡ field_at fields place → x ≡ get_or fields place []
unfolding field_at
field_some [] place x h = cc
field_some (f ∷ fs) zero x h = cc
field_some (f ∷ fs) (suc place) x h = field_some fs place x h

pub field_none : (fields : List (List ℕ)) (place : ℕ) → ◌≡◌ {A = Option (List ℕ)} None (field_at fields place) → ◌≡◌ {A = List ℕ} [] (get_or fields place [])
unfolding field_at
field_none [] place h = refl
field_none (f ∷ fs) zero h = cc
field_none (f ∷ fs) (suc place) h = field_none fs place h
