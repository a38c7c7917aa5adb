-- What a choice or a test says.
use Rattle.std.proofs.Common.{◌≡◌, ℕ, Bool, true, false, if◌then◌else◌, List, refl, ◌⊎◌, inl, inr}
use Rattle.std.specs.Str.{bytes_eq}
use Rattle.std.proofs.lemmas.Slice.Eq.{bytes_eq-Decides}

pub pick : {A : Type 0} (b : Bool) (x y z : A) → (if b then x else y) ≡ z → ((b ≡ true) × (x ≡ z)) ⊎ ((b ≡ false) × (y ≡ z))
pick true x y z h = inl (refl, h)
pick false x y z h = inr (refl, h)

pub is_word : (text word : List ℕ) → bytes_eq text word ≡ true → text ≡ word
is_word text word h = (bytes_eq-Decides text word).0 h
