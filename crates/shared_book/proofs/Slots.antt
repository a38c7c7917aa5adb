-- Pages that are put into slots and taken out of them.
use Rattle.std.proofs.Common.{◌≡◌, ◌≢◌, zero, suc, set, subst, ◌<◌, ◌+◌, ℕ, Bool, false, List, [], ◌∷◌, ◌++◌, map, length, take, get_or, refl, sym, ap, ◌∙◌, arith}
use Rattle.std.specs.Prelude.{Option, Some, None, is_some, IsTrue}
use mathlib.Core.Logic.{dite}
use mathlib.Core.Option.{some, some-injective, some-ne-none}
use native.Mathlib.Decide.{ℕ_discrete}
use lib.ListN.{get_elem?}
use Rattle.std.specs.List.{All}
use Rattle.std.proofs.lemmas.List.Elements.{All-nil, All-cons}
use Rattle.std.proofs.lemmas.List.{map-append, take_more}
use Rattle.group_book.specs.Groups.{GroupView}
use Rattle.shared_book.specs.declared.handed.Handed.{Handed}
use Rattle.shared_book.specs.Slots.{pages_in, HavePages}

pub map-same : {A : Type 0} (xs : List A) → map (λ x. x) xs ≡ xs
map-same [] = refl
map-same (x ∷ xs) = ap (λ l. x ∷ l) (map-same xs)

-- one slot more, and one group more
pub have_more : (slots : List (Option Handed)) (groups : List GroupView) (slot : Option Handed) (v : GroupView) → pages_in slot ≡ Some v → HavePages slots groups → HavePages (slots ++ slot ∷ []) (groups ++ v ∷ [])
have_more slots groups slot v is have = map-append pages_in slots (slot ∷ []) ∙ (λ i. have i ++ is i ∷ []) ∙ sym (map-append Some groups (v ∷ []))

-- the first slots, and one more
pub have_next : (slots : List (Option Handed)) (groups : List GroupView) (k : ℕ) (slot : Option Handed) (v : GroupView) → k < length slots → get_or slots k slot ≡ slot → pages_in slot ≡ Some v
    → HavePages (take k slots) groups → HavePages (take (k + 1) slots) (groups ++ v ∷ [])
have_next slots groups k slot v lt at is have =
    ap (map pages_in) (take_more slots k slot lt ∙ ap (λ x. take k slots ++ x ∷ []) at) ∙ have_more (take k slots) groups slot v is have

view_same : (v w : GroupView) → ◌≡◌ {A = Option GroupView} (Some v) (Some w) → v ≡ w
view_same v w e = cc

first_same : {A : Type 0} (x y : A) (xs ys : List A) → ◌≡◌ {A = List A} (x ∷ xs) (y ∷ ys) → (x ≡ y) × (xs ≡ ys)
first_same x y xs ys e = (cc, cc)

-- the same groups
some_same : (vs ws : List GroupView) → map Some vs ≡ map Some ws → vs ≡ ws
some_same [] [] e = refl
some_same [] (w ∷ ws) e = let none : List (Option GroupView) = [] in let n : length none ≡ length (Some w ∷ map Some ws) = ap length e in absurd (omega arith)
some_same (v ∷ vs) [] e = let none : List (Option GroupView) = [] in let n : length (Some v ∷ map Some vs) ≡ length none = ap length e in absurd (omega arith)
some_same (v ∷ vs) (w ∷ ws) e =
    let two = first_same (Some v) (Some w) (map Some vs) (map Some ws) e in
    (λ i. view_same v w two.0 i ∷ some_same vs ws two.1 i)

pub groups_same : (slots : List (Option Handed)) (one other : List GroupView) → HavePages slots one → HavePages slots other → other ≡ one
groups_same slots one other have also = some_same other one (sym also ∙ have)

-- each slot has pages
pub all_full : (slots : List (Option Handed)) (groups : List GroupView) → HavePages slots groups → All (λ slot. IsTrue (is_some slot)) slots
all_full [] groups have = All-nil (λ slot. IsTrue (is_some slot))
all_full (x ∷ ss) [] have = let n : length (pages_in x ∷ map pages_in ss) ≡ 0 = ap length have in absurd (omega arith)
all_full (None ∷ ss) (v ∷ vs) have = let two = first_same None (Some v) (map pages_in ss) (map Some vs) have in absurd (cc)
all_full (Some h ∷ ss) (v ∷ vs) have = All-cons (λ slot. IsTrue (is_some slot)) (Some h) ss refl (all_full ss vs (first_same (Some h.pages) (Some v) (map pages_in ss) (map Some vs) have).1)

-- ---- a table that is emptied

at_get : {A : Type 0} (l : List A) (k : ℕ) (a d : A) → get_elem? l k ≡ some a → get_or l k d ≡ a
at_get [] k a d e = absurd (some-ne-none a (sym e))
at_get (x ∷ xs) zero a d e = some-injective x a e
at_get (x ∷ xs) (suc k) a d e = at_get xs k a d e

pub within : {A : Type 0} (l : List A) (k : ℕ) (a : A) → get_elem? l k ≡ some a → k < length l
within [] k a e = absurd (some-ne-none a (sym e))
within (x ∷ xs) zero a e = omega arith
within (x ∷ xs) (suc k) a e = let h = within xs k a e in omega arith

pub full_at : (slots : List (Option Handed)) (k : ℕ) (x : Option Handed) → All (λ slot. IsTrue (is_some slot)) slots → get_elem? slots k ≡ some x → IsTrue (is_some x)
full_at slots k x all at = subst (λ (y : Option Handed). IsTrue (is_some y)) (at_get slots k x x at) (all k x (within slots k x at))

-- one slot more was emptied
pub have_taken : (slots : List (Option Handed)) (groups : List GroupView) (k : ℕ) (x : Option Handed) (v : GroupView) → get_elem? slots k ≡ some x → pages_in x ≡ Some v → HavePages (take k slots) groups → HavePages (take (k + 1) slots) (groups ++ v ∷ [])
have_taken slots groups k x v at is have = have_next slots groups k x v (within slots k x at) (at_get slots k x x at) is have

flag_here : (fs : List Bool) (i : ℕ) → get_or (set fs i false) i false ≡ false
flag_here [] i = refl
flag_here (f ∷ fs) zero = refl
flag_here (f ∷ fs) (suc i) = flag_here fs i

pub flag_else : (fs : List Bool) (i k : ℕ) → k ≢ i → get_or (set fs i false) k false ≡ get_or fs k false
flag_else [] i k ne = refl
flag_else (f ∷ fs) zero zero ne = absurd (ne refl)
flag_else (f ∷ fs) zero (suc k) ne = refl
flag_else (f ∷ fs) (suc i) zero ne = refl
flag_else (f ∷ fs) (suc i) (suc k) ne = flag_else fs i k (λ e. ne (ap suc e))

pub flags_off : (fs : List Bool) (i : ℕ) → ((k : ℕ) → k < i → get_or fs k false ≡ false) → (k : ℕ) → k < i + 1 → get_or (set fs i false) k false ≡ false
flags_off fs i off k lt = dite (ℕ_discrete k i) (λ (e : k ≡ i). subst (λ (n : ℕ). get_or (set fs i false) n false ≡ false) (sym e) (flag_here fs i)) (λ (n : k ≢ i). flag_else fs i k n ∙ off k (omega arith))
