-- What a step, a choice or a test that went well says.
use Rattle.std.proofs.Common.{◌≡◌, ◌==◌, ◌&&◌, ℕ, Bool, true, false, List, [], ◌∷◌, length, refl, ap, arith, Option, Some, None, Result, Ok, Err}
use Rattle.std.specs.Option.{ok_or, option_map}
use Rattle.std.proofs.lemmas.Bool.Decides.{nat_tests}
use Rattle.transcript_text.specs.Parts.{at}
use Rattle.transcript_text.specs.Reading.{◌>>=◌}

pub bind_ok : {A B E : Type 0} (r : Result A E) (f : A → Result B E) (y : B) → (r >>= f) ≡ Ok y → (x : A) × (r ≡ Ok x) × (f x ≡ Ok y)
bind_ok (Ok x) f y h = (x, refl, h)
bind_ok (Err e) f y h = absurd cc

pub ok_some : {A E : Type 0} (o : Option A) (e : E) (x : A) → ok_or o e ≡ Ok x → o ≡ Some x
ok_some None e x h = absurd cc
ok_some (Some y) e x h = cc

pub mapped : {A B E : Type 0} (f : A → B) (o : Option A) (e : E) (y : B) → ok_or (option_map f o) e ≡ Ok y → (x : A) × (o ≡ Some x) × (f x ≡ y)
mapped f None e y h = absurd cc
mapped f (Some x) e y h = (x, refl, cc)

pub test_of : (a b : Bool) → (a && b) ≡ true → (a ≡ true) × (b ≡ true)
test_of true b h = (refl, h)
test_of false b h = absurd cc

pub long_of : (fs : List (List ℕ)) (n : ℕ) → (length fs == n) ≡ true → length fs ≡ n
long_of fs n h = grind (arith, nat_tests, h)

-- ---- a list of fields is its fields

one : (fs : List (List ℕ)) → length fs ≡ 1 → fs ≡ at fs 0 ∷ []
one [] h = absurd (omega arith)
one (a ∷ []) h = refl
one (a ∷ b ∷ fs) h = absurd (omega arith)

two : (fs : List (List ℕ)) → length fs ≡ 2 → fs ≡ at fs 0 ∷ at fs 1 ∷ []
two [] h = absurd (omega arith)
two (a ∷ fs) h = ap (λ q. a ∷ q) (one fs (omega arith))

three : (fs : List (List ℕ)) → length fs ≡ 3 → fs ≡ at fs 0 ∷ at fs 1 ∷ at fs 2 ∷ []
three [] h = absurd (omega arith)
three (a ∷ fs) h = ap (λ q. a ∷ q) (two fs (omega arith))

four : (fs : List (List ℕ)) → length fs ≡ 4 → fs ≡ at fs 0 ∷ at fs 1 ∷ at fs 2 ∷ at fs 3 ∷ []
four [] h = absurd (omega arith)
four (a ∷ fs) h = ap (λ q. a ∷ q) (three fs (omega arith))

five : (fs : List (List ℕ)) → length fs ≡ 5 → fs ≡ at fs 0 ∷ at fs 1 ∷ at fs 2 ∷ at fs 3 ∷ at fs 4 ∷ []
five [] h = absurd (omega arith)
five (a ∷ fs) h = ap (λ q. a ∷ q) (four fs (omega arith))

six : (fs : List (List ℕ)) → length fs ≡ 6 → fs ≡ at fs 0 ∷ at fs 1 ∷ at fs 2 ∷ at fs 3 ∷ at fs 4 ∷ at fs 5 ∷ []
six [] h = absurd (omega arith)
six (a ∷ fs) h = ap (λ q. a ∷ q) (five fs (omega arith))

seven : (fs : List (List ℕ)) → length fs ≡ 7 → fs ≡ at fs 0 ∷ at fs 1 ∷ at fs 2 ∷ at fs 3 ∷ at fs 4 ∷ at fs 5 ∷ at fs 6 ∷ []
seven [] h = absurd (omega arith)
seven (a ∷ fs) h = ap (λ q. a ∷ q) (six fs (omega arith))

eight : (fs : List (List ℕ)) → length fs ≡ 8 → fs ≡ at fs 0 ∷ at fs 1 ∷ at fs 2 ∷ at fs 3 ∷ at fs 4 ∷ at fs 5 ∷ at fs 6 ∷ at fs 7 ∷ []
eight [] h = absurd (omega arith)
eight (a ∷ fs) h = ap (λ q. a ∷ q) (seven fs (omega arith))

pub spell_one : (fs : List (List ℕ)) → length fs ≡ 1 → {a : List ℕ} → at fs 0 ≡ a → fs ≡ a ∷ []
spell_one fs l a = let s = one fs l in cc

pub spell_two : (fs : List (List ℕ)) → length fs ≡ 2 → {a b : List ℕ} → at fs 0 ≡ a → at fs 1 ≡ b → fs ≡ a ∷ b ∷ []
spell_two fs l a b = let s = two fs l in cc

pub spell_three : (fs : List (List ℕ)) → length fs ≡ 3 → {a b c : List ℕ} → at fs 0 ≡ a → at fs 1 ≡ b → at fs 2 ≡ c → fs ≡ a ∷ b ∷ c ∷ []
spell_three fs l a b c = let s = three fs l in cc

pub spell_four : (fs : List (List ℕ)) → length fs ≡ 4 → {a b c d : List ℕ} → at fs 0 ≡ a → at fs 1 ≡ b → at fs 2 ≡ c → at fs 3 ≡ d → fs ≡ a ∷ b ∷ c ∷ d ∷ []
spell_four fs l a b c d = let s = four fs l in cc

pub spell_five : (fs : List (List ℕ)) → length fs ≡ 5 → {a b c d e : List ℕ} → at fs 0 ≡ a → at fs 1 ≡ b → at fs 2 ≡ c → at fs 3 ≡ d → at fs 4 ≡ e → fs ≡ a ∷ b ∷ c ∷ d ∷ e ∷ []
spell_five fs l a b c d e = let s = five fs l in cc

pub spell_six : (fs : List (List ℕ)) → length fs ≡ 6 → {a k b c : List ℕ} {d : List (List ℕ)} → at fs 0 ≡ a → at fs 1 ≡ k → at fs 2 ≡ b → at fs 3 ≡ c → at fs 4 ∷ at fs 5 ∷ [] ≡ d → fs ≡ a ∷ k ∷ b ∷ c ∷ d
spell_six fs l a k b c d = let s = six fs l in cc

pub spell_seven : (fs : List (List ℕ)) → length fs ≡ 7 → {a k b c d e f : List ℕ} → at fs 0 ≡ a → at fs 1 ≡ k → at fs 2 ≡ b → at fs 3 ≡ c → at fs 4 ≡ d → at fs 5 ≡ e → at fs 6 ≡ f → fs ≡ a ∷ k ∷ b ∷ c ∷ d ∷ e ∷ f ∷ []
spell_seven fs l a k b c d e f = let s = seven fs l in cc

pub spell_eight : (fs : List (List ℕ)) → length fs ≡ 8 → {a k b c d e : List ℕ} {f : List (List ℕ)} → at fs 0 ≡ a → at fs 1 ≡ k → at fs 2 ≡ b → at fs 3 ≡ c → at fs 4 ≡ d → at fs 5 ≡ e → at fs 6 ∷ at fs 7 ∷ [] ≡ f → fs ≡ a ∷ k ∷ b ∷ c ∷ d ∷ e ∷ f
spell_eight fs l a k b c d e f = let s = eight fs l in cc

pub pair : {w t a b : List ℕ} → w ≡ a → t ≡ b → w ∷ t ∷ [] ≡ a ∷ b ∷ []
pair e f = cc
