-- The rows of moved words, said of the two tables.
use Rattle.std.proofs.Common.{◌≡◌, ◌≢◌, ℕ, ◌+◌, ◌-◌, ◌^◌, ◌<◌, ◌==◌, Bool, true, false, ◌&&◌, ◌||◌, List, [], ◌∷◌, length, get_or, refl, sym, ap, subst, ◌∙◌, arith}
use Rattle.std.specs.Prelude.{if◌then◌else◌}
use Rattle.std.specs.List.{All, list_any}
use Rattle.std.proofs.lemmas.Bool.{false≢true}
use Rattle.std.proofs.lemmas.List.Elements.{All-append, All-map}
use Rattle.std.proofs.lemmas.List.Sums.{sum_by-cons}
use Rattle.missing_round.specs.Words.{word}
use Rattle.group_plan.specs.Plans.{PlanView, size}
use Rattle.pair_keys.specs.declared.KeyId.{KeyId}
use Rattle.pair_keys.specs.declared.KeyId.TheVariants.{Own, Pair}
use Rattle.event_schedule.specs.Tables.{Masks, IsMasks}
use Rattle.ideal_masks.specs.declared.Offset.{Offset}
use Rattle.ideal_masks.specs.Offsets.{shift}
use Rattle.ideal_masks.specs.Moves.{offset_list, own_list, pair_list, moved_by, same_id, IsKeyOf}
use Rattle.ideal_masks.specs.Order.{IsAscending}
use Rattle.ideal_masks.proofs.MoveLemmas.{all_range, all_moved_at, list_is}
use Rattle.ideal_masks.proofs.OrderLemmas.{list-ascends}
use Rattle.twin_worlds.specs.declared.rows.MovedRow.{MovedRow}
use Rattle.twin_worlds.specs.MovedRows.{word_of, row_of, rows_of, IsMoved, is_row_of, comes_before, AreInOrder, AreMoved, AreMovedBy}

-- ---- each row

-- each offset of the list is by how much its word moves
abbrev IsBy : Masks → Offset → Type 0
IsBy o e = e.by ≡ word (word_of o e.id e.round)

all-by : (plan : PlanView) (o : Masks) → All (IsBy o) (offset_list plan o)
all-by plan o =
    all_range (IsBy o) _ (length plan.groups) 0 (λ g _ g_in. all_range (IsBy o) _ plan.rounds 0 (λ r _ r_in.
    All-append (IsBy o) (own_list o g r (size plan.groups g)) (pair_list o g r (size plan.groups g))
    (all_range (IsBy o) _ (size plan.groups g) 0 (λ i _ i_in. all_moved_at (IsBy o) (Own g i) r (o.own g r i) refl))
    (all_range (IsBy o) _ (size plan.groups g) 0 (λ i _ i_in. all_range (IsBy o) _ (size plan.groups g - (i + 1)) (i + 1) (λ j above j_in.
    all_moved_at (IsBy o) (Pair g i j) r (o.pair g r i j) refl)))))

word-shift : (o m : Masks) (id : KeyId) (r : ℕ) → word_of (shift o m) id r ≡ word (word_of m id r + word_of o id r)
word-shift o m (Own g i) r = refl
word-shift o m (Pair g i j) r = refl

word-small : (m : Masks) (id : KeyId) (r : ℕ) → IsMasks m → word_of m id r < 2 ^ 64
word-small m (Own g i) r fits = fits.own g r i
word-small m (Pair g i j) r fits = fits.pair g r i j

add_word : (a b : ℕ) → word (a + word b) ≡ word (a + b)
add_word a b = omega arith

moves-word : (a b : ℕ) → a < 2 ^ 64 → 0 < b → b < 2 ^ 64 → a ≡ word (a + b) → ⊥
moves-word a b small some fits same = omega arith

moved-row : (plan : PlanView) (o m : Masks) (e : Offset) → IsMasks m → IsKeyOf plan e.id × (e.round < plan.rounds) → (0 < e.by) × (e.by < 2 ^ 64) → IsBy o e → IsMoved plan m (shift o m) (row_of m e)
moved-row plan o m e fits place by is = record {
  key = place.0;
  round = place.1;
  old_is = refl;
  new_is = ap (λ b. word (word_of m e.id e.round + b)) is ∙ add_word (word_of m e.id e.round) (word_of o e.id e.round) ∙ sym (word-shift o m e.id e.round);
  moves = moves-word (word_of m e.id e.round) e.by (word-small m e.id e.round fits) by.0 by.1;
}

-- ---- no other word moves

none-by : (list : List Offset) (m : Masks) (id : KeyId) (r : ℕ) → list_any (is_row_of id r) (rows_of m list) ≡ false → moved_by list id r ≡ 0
none-by [] m id r none = refl
none-by (o ∷ list) m id r none = step (same_id o.id id && (o.round == r)) refl none (λ h. none-by list m id r h)
  where
    step : (b : Bool) → (same_id o.id id && (o.round == r)) ≡ b → (b || list_any (is_row_of id r) (rows_of m list)) ≡ false
        → (list_any (is_row_of id r) (rows_of m list) ≡ false → moved_by list id r ≡ 0) → moved_by (o ∷ list) id r ≡ 0
    step true is h rest = absurd (false≢true (sym h))
    step false is h rest =
        sum_by-cons (λ (z : Offset). if same_id z.id id && (z.round == r) then z.by else 0) o list
        ∙ ap (λ b. (if b then o.by else 0) + moved_by list id r) is
        ∙ ap (λ n. 0 + n) (rest h)

offset-is : (plan : PlanView) (o : Masks) (id : KeyId) (r : ℕ) → IsKeyOf plan id → r < plan.rounds → moved_by (offset_list plan o) id r ≡ word (word_of o id r)
offset-is plan o (Own g i) r key lt = (list_is plan o).own g r i key.0 lt key.1
offset-is plan o (Pair g i j) r key lt = (list_is plan o).pair g r i j key.0 lt key.1 key.2

still-word : (a b : ℕ) → a < 2 ^ 64 → word b ≡ 0 → a ≡ word (a + b)
still-word a b small none = omega arith

has-row : (plan : PlanView) (o m : Masks) (id : KeyId) (r : ℕ) → IsMasks m → IsKeyOf plan id → r < plan.rounds → word_of m id r ≢ word_of (shift o m) id r → list_any (is_row_of id r) (rows_of m (offset_list plan o)) ≡ true
has-row plan o m id r fits key lt differ = step (list_any (is_row_of id r) (rows_of m (offset_list plan o))) refl
  where
    step : (b : Bool) → list_any (is_row_of id r) (rows_of m (offset_list plan o)) ≡ b → b ≡ true
    step true is = refl
    step false is =
        let none : word (word_of o id r) ≡ 0 = sym (offset-is plan o id r key lt) ∙ none-by (offset_list plan o) m id r is in
        absurd (differ (still-word (word_of m id r) (word_of o id r) (word-small m id r fits) none ∙ sym (word-shift o m id r)))

-- ---- their order

in-order : (m : Masks) (list : List Offset) → IsAscending list → AreInOrder (rows_of m list)
in-order m [] order = tt
in-order m (o ∷ list) order = (All-map (λ later. comes_before (row_of m o) later ≡ true) (row_of m) list order.0, in-order m list order.1)

pub are-moved : (plan : PlanView) (o m : Masks) → IsMasks m → AreMoved plan m (shift o m) (rows_of m (offset_list plan o))
are-moved plan o m fits =
    let list : List Offset = offset_list plan o in
    let is = list_is plan o in
    record {
      each = All-map (IsMoved plan m (shift o m)) (row_of m) list (λ k d lt. moved-row plan o m (get_or list k d) fits (is.places k d lt) (is.nonzero k d lt) (all-by plan o k d lt));
      all = λ id r key lt differ. has-row plan o m id r fits key lt differ;
      order = in-order m list (list-ascends plan o);
    }

pub are-moved_by : (plan : PlanView) (m : Masks) (list : List Offset) (rows : List MovedRow) → rows ≡ rows_of m list → AreMovedBy plan m list rows
are-moved_by plan m list rows is = λ fits o same. subst (AreMoved plan m (shift o m)) (sym (is ∙ ap (rows_of m) same)) (are-moved plan o m fits)
