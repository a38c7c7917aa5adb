-- Lists that a loop makes place by place, and tables in which one place changes.
use Rattle.std.proofs.Common.{◌≡◌, ℕ, ◌+◌, ◌<◌, false, List, [], ◌∷◌, ◌++◌, length, get_or, set, refl, sym, ap, ◌∙◌, ⊎_elim, arith}
use Rattle.std.specs.List.{All}
use Rattle.std.proofs.lemmas.Bool.{cases_eq}
use Rattle.std.proofs.lemmas.Bool.Decides.{nat_tests}
use Rattle.std.proofs.lemmas.List.{length-set, get_or-set_same, get_or-set_other}
use Rattle.std.proofs.lemmas.List.Elements.{All-push, All-nil}
use Rattle.std.proofs.lemmas.List.FromFn.{map-range_with_len_more}
use Rattle.group_plan.specs.Plans.{PlanView}
use Rattle.group_plan.specs.Tables.{Table, entry, IsTable, is_same_place}
use Rattle.ideal_masks.specs.ListTables.{tabulate}

-- the elements are f 0 to f (k - 1), and P holds of each
pub record Upto {X : Type 0} (P : X → Type 0) (f : ℕ → X) (k : ℕ) (xs : List X) : Type 0 where
  pub is : xs ≡ tabulate k f
  pub all : All P xs

pub upto-none : {X : Type 0} (P : X → Type 0) (f : ℕ → X) → Upto P f 0 []
upto-none P f = record { is = refl; all = All-nil P }

pub upto-more : {X : Type 0} (P : X → Type 0) (f : ℕ → X) (k : ℕ) (xs ys : List X) (x : X) → ys ≡ xs ++ x ∷ [] → x ≡ f k → P x → Upto P f k xs → Upto P f (k + 1) ys
upto-more P f k xs ys x pushed is holds before = record {
  is = pushed ∙ ap (λ l. l ++ x ∷ []) before.is ∙ ap (λ y. tabulate k f ++ y ∷ []) is ∙ sym (map-range_with_len_more f 0 k k (omega arith));
  all = rw pushed (All-push P xs x before.all holds);
}

-- ---- one place of a table changes

abbrev pub change : {X : Type 0} → X → ℕ → ℕ → ℕ → (X → X) → Table X → Table X
change d g r i f t = set t g (set (get_or t g []) r (set (get_or (get_or t g []) r []) i (f (entry d t g r i))))

pub change-here : {X : Type 0} (d : X) (g r i : ℕ) (f : X → X) (t : Table X) → g < length t → r < length (get_or t g []) → i < length (get_or (get_or t g []) r [])
    → entry d (change d g r i f t) g r i ≡ f (entry d t g r i)
change-here d g r i f t g_in r_in i_in =
    ap (λ l. get_or (get_or l r []) i d) (get_or-set_same t g (set (get_or t g []) r (set (get_or (get_or t g []) r []) i (f (entry d t g r i)))) [] g_in)
    ∙ ap (λ l. get_or l i d) (get_or-set_same (get_or t g []) r (set (get_or (get_or t g []) r []) i (f (entry d t g r i))) [] r_in)
    ∙ get_or-set_same (get_or (get_or t g []) r []) i (f (entry d t g r i)) d i_in

-- another group is as it was
change-group : {X : Type 0} (d : X) (g r i : ℕ) (f : X → X) (t : Table X) (a : ℕ) → (a ≡ g → ⊥) → get_or (change d g r i f t) a [] ≡ get_or t a []
change-group d g r i f t a ne = get_or-set_other t g a (set (get_or t g []) r (set (get_or (get_or t g []) r []) i (f (entry d t g r i)))) [] ne

change-round : {X : Type 0} (d : X) (g r i : ℕ) (f : X → X) (t : Table X) → g < length t → (b : ℕ) → (b ≡ r → ⊥) → get_or (get_or (change d g r i f t) g []) b [] ≡ get_or (get_or t g []) b []
change-round d g r i f t g_in b ne =
    ap (λ l. get_or l b []) (get_or-set_same t g (set (get_or t g []) r (set (get_or (get_or t g []) r []) i (f (entry d t g r i)))) [] g_in)
    ∙ get_or-set_other (get_or t g []) r b (set (get_or (get_or t g []) r []) i (f (entry d t g r i))) [] ne

change-meters : {X : Type 0} (d : X) (g r i : ℕ) (f : X → X) (t : Table X) → g < length t → r < length (get_or t g [])
    → get_or (get_or (change d g r i f t) g []) r [] ≡ set (get_or (get_or t g []) r []) i (f (entry d t g r i))
change-meters d g r i f t g_in r_in =
    ap (λ l. get_or l r []) (get_or-set_same t g (set (get_or t g []) r (set (get_or (get_or t g []) r []) i (f (entry d t g r i)))) [] g_in)
    ∙ get_or-set_same (get_or t g []) r (set (get_or (get_or t g []) r []) i (f (entry d t g r i))) [] r_in

not_same : (g r i a b c : ℕ) → is_same_place g r i a b c ≡ false → a ≡ g → b ≡ r → c ≡ i → ⊥
not_same g r i a b c other x y z = grind (arith, nat_tests, other, x, y, z)

pub change-elsewhere : {X : Type 0} (d : X) (g r i : ℕ) (f : X → X) (t : Table X) → g < length t → r < length (get_or t g []) → (a b c : ℕ) → is_same_place g r i a b c ≡ false
    → entry d (change d g r i f t) a b c ≡ entry d t a b c
change-elsewhere d g r i f t g_in r_in a b c other =
    ⊎_elim
    (λ (same_group : a ≡ g). ⊎_elim
    (λ (same_round : b ≡ r).
    rw (same_group, same_round)
    (ap (λ l. get_or l c d) (change-meters d g r i f t g_in r_in)
    ∙ get_or-set_other (get_or (get_or t g []) r []) i c (f (entry d t g r i)) d (λ same_meter. not_same g r i a b c other same_group same_round same_meter)))
    (λ ne. rw same_group (ap (λ l. get_or l c d) (change-round d g r i f t g_in b ne)))
    (cases_eq b r))
    (λ ne. ap (λ l. get_or (get_or l b []) c d) (change-group d g r i f t a ne))
    (cases_eq a g)

pub change-shape : {X : Type 0} (plan : PlanView) (d : X) (g r i : ℕ) (f : X → X) (t : Table X) → g < length plan.groups → r < plan.rounds → IsTable plan t → IsTable plan (change d g r i f t)
change-shape plan d g r i f t g_in r_in fits =
    let g_t : g < length t = rw fits.groups g_in in
    let r_t : r < length (get_or t g []) = rw (fits.rounds g g_in) r_in in
    record {
      groups = length-set t g _ ∙ fits.groups;
      rounds = λ a a_in.
          ⊎_elim
          (λ (same : a ≡ g). rw same (ap length (get_or-set_same t g (set (get_or t g []) r (set (get_or (get_or t g []) r []) i (f (entry d t g r i)))) [] g_t) ∙ length-set (get_or t g []) r _ ∙ fits.rounds g g_in))
          (λ ne. ap length (change-group d g r i f t a ne) ∙ fits.rounds a a_in)
          (cases_eq a g);
      meters = λ a b a_in b_in.
          ⊎_elim
          (λ (same : a ≡ g). ⊎_elim
          (λ (same_round : b ≡ r). rw (same, same_round) (ap length (change-meters d g r i f t g_t r_t) ∙ length-set (get_or (get_or t g []) r []) i _ ∙ fits.meters g r g_in r_in))
          (λ ne. rw same (ap length (change-round d g r i f t g_t b ne) ∙ fits.meters g b g_in b_in))
          (cases_eq b r))
          (λ ne. ap (λ l. length (get_or l b [])) (change-group d g r i f t a ne) ∙ fits.meters a b a_in b_in)
          (cases_eq a g);
    }
