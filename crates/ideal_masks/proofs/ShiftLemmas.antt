-- A loop that moves the words of a list one by one shifts the table.
use Rattle.std.proofs.Common.{◌≡◌, ℕ, Bool, true, false, ◌&&◌, ◌+◌, ◌-◌, ◌^◌, ◌<◌, ◌≤◌, List, [], ◌∷◌, ◌++◌, length, get_or, take, refl, sym, ap, ◌∙◌, subst, arith}
use Rattle.std.specs.Prelude.{◌==◌, if◌then◌else◌}
use Rattle.std.proofs.lemmas.List.{take_more, take_all}
use Rattle.std.proofs.lemmas.List.Elements.{All-get_or}
use Rattle.std.proofs.lemmas.List.Sums.{sum_by_push}
use Rattle.missing_round.specs.Words.{word, minus}
use Rattle.pair_keys.specs.declared.KeyId.{KeyId}
use Rattle.pair_keys.specs.declared.KeyId.TheVariants.{Own, Pair}
use Rattle.ideal_masks.specs.declared.Offset.{Offset}
use Rattle.ideal_masks.specs.Offsets.{shift, unshift}
use Rattle.ideal_masks.specs.ListTables.{masks_in, IsMaskTable, shift_table, unshift_table}
use Rattle.ideal_masks.specs.Moves.{same_id, moved_by, listed}
use Rattle.ideal_masks.specs.KeptMasks.{MasksView}
use Rattle.ideal_masks.specs.Order.{AreMoves}
use Rattle.ideal_masks.specs.Shifting.{move_of, MovesOne}
use Rattle.ideal_masks.proofs.MoveLemmas.{part}
use Rattle.ideal_masks.proofs.TableLemmas.{table_of-same}

-- each word of the old table has moved by the moves so far, where f adds or takes away
pub record Moved (f : ℕ → ℕ → ℕ) (list : List Offset) (old new : MasksView) : Type 0 where
  pub plan : new.plan ≡ old.plan
  pub table : IsMaskTable new.plan new.words
  pub own : (g r i : ℕ) → (masks_in new.words).own g r i ≡ f ((masks_in old.words).own g r i) (moved_by list (Own g i) r)
  pub pair : (g r i j : ℕ) → i < j → (masks_in new.words).pair g r i j ≡ f ((masks_in old.words).pair g r i j) (moved_by list (Pair g i j) r)

abbrev pub plus : ℕ → ℕ → ℕ
plus a by = word (a + by)

abbrev pub less : ℕ → ℕ → ℕ
less a by = word (a + minus by)

pub moved-none : (f : ℕ → ℕ → ℕ) → ((a : ℕ) → a < 2 ^ 64 → f a 0 ≡ a) → (old : MasksView) → IsMaskTable old.plan old.words → Moved f [] old old
moved-none f stays old fits = record {
  plan = refl;
  table = fits;
  own = λ g r i. sym (stays ((masks_in old.words).own g r i) (fits.own_words g r i));
  pair = λ g r i j below. sym (stays ((masks_in old.words).pair g r i j) (fits.pair_words g r i j));
}

pub plus-none : (a : ℕ) → a < 2 ^ 64 → plus a 0 ≡ a
plus-none a fits = omega arith

pub less-none : (a : ℕ) → a < 2 ^ 64 → less a 0 ≡ a
less-none a fits = omega arith

moved_by-push : (list : List Offset) (o : Offset) (key : KeyId) (r : ℕ) → moved_by (list ++ o ∷ []) key r ≡ moved_by list key r + part key r o
moved_by-push list o key r = sum_by_push (part key r) list o

-- one more move, of `by` or what stands for it in f
pub moved-more : (f : ℕ → ℕ → ℕ) (list : List Offset) (o : Offset) (by : ℕ) (old mid new : MasksView)
    → ((a s : ℕ) (key : KeyId) (r : ℕ) → word (f a s + move_of o.id o.round by key r) ≡ f a (s + part key r o))
    → Moved f list old mid → MovesOne mid o.id o.round by new → IsMaskTable new.plan new.words → Moved f (list ++ o ∷ []) old new
moved-more f list o by old mid new step before moves fits = record {
  plan = moves.plan ∙ before.plan;
  table = fits;
  own = λ g r i.
      moves.own g r i
      ∙ ap (λ z. word (z + move_of o.id o.round by (Own g i) r)) (before.own g r i)
      ∙ step ((masks_in old.words).own g r i) (moved_by list (Own g i) r) (Own g i) r
      ∙ ap (f ((masks_in old.words).own g r i)) (sym (moved_by-push list o (Own g i) r));
  pair = λ g r i j below.
      moves.pair g r i j below
      ∙ ap (λ z. word (z + move_of o.id o.round by (Pair g i j) r)) (before.pair g r i j below)
      ∙ step ((masks_in old.words).pair g r i j) (moved_by list (Pair g i j) r) (Pair g i j) r
      ∙ ap (f ((masks_in old.words).pair g r i j)) (sym (moved_by-push list o (Pair g i j) r));
}

pub plus-more : (o : Offset) (a s : ℕ) (key : KeyId) (r : ℕ) → word (plus a s + move_of o.id o.round o.by key r) ≡ plus a (s + part key r o)
plus-more o a s key r = omega arith

-- ---- at the end

pub moved-shift : (list : List Offset) (old new : MasksView) → Moved plus list old new → new.words ≡ shift_table old.plan (listed list) old.words
moved-shift list old new moved =
    rw (← moved.plan)
    (sym (table_of-same new.plan new.words (shift (listed list) (masks_in old.words)) moved.table
    (λ g r i g_in r_in i_in. sym (moved.own g r i))
    (λ g r i j g_in r_in below j_in. sym (moved.pair g r i j below))))

pub moved-unshift : (list : List Offset) (old new : MasksView) → Moved less list old new → new.words ≡ unshift_table old.plan (listed list) old.words
moved-unshift list old new moved =
    rw (← moved.plan)
    (sym (table_of-same new.plan new.words (unshift (listed list) (masks_in old.words)) moved.table
    (λ g r i g_in r_in i_in. sym (moved.own g r i))
    (λ g r i j g_in r_in below j_in. sym (moved.pair g r i j below))))

-- ---- the loop

-- the place that the loop reads is one more of the list
pub moved-next : (f : ℕ → ℕ → ℕ) (list items : List Offset) (k : ℕ) (o : Offset) (by : ℕ) (old mid new : MasksView) → items ≡ list → o ≡ get_or items k o → k < length items
    → ((a s : ℕ) (key : KeyId) (r : ℕ) → word (f a s + move_of o.id o.round by key r) ≡ f a (s + part key r o))
    → Moved f (take k list) old mid → MovesOne mid o.id o.round by new → IsMaskTable new.plan new.words → Moved f (take (k + 1) list) old new
moved-next f list items k o by old mid new same is lt step before moves fits =
    let lt_list : k < length list = rw (← same) lt in
    let read : o ≡ get_or list k o = rw (← same) is in
    let at : take (k + 1) list ≡ take k list ++ o ∷ [] = take_more list k o lt_list ∙ ap (λ x. take k list ++ x ∷ []) (sym read) in
    rw at (moved-more f (take k list) o by old mid new step before moves fits)

-- after the last one
pub moved-all : (f : ℕ → ℕ → ℕ) (list items : List Offset) (k : ℕ) (old new : MasksView) → items ≡ list → length items ≤ k → Moved f (take k list) old new → Moved f list old new
moved-all f list items k old new same past moved = subst (λ l. Moved f l old new) (take_all k list (rw (← same) past)) moved

pub less-more : (o : Offset) (by : ℕ) → by ≡ word (2 ^ 64 - o.by) → o.by < 2 ^ 64 → (a s : ℕ) (key : KeyId) (r : ℕ) → word (less a s + move_of o.id o.round by key r) ≡ less a (s + part key r o)
less-more o by is small a s key r = step (same_id o.id key && (o.round == r))
  where
    step : (b : Bool) → word (less a s + (if b then by else 0)) ≡ less a (s + (if b then o.by else 0))
    step true = omega (arith, is, small)
    step false = omega arith

-- an offset of a list is less than 2^64
pub small_at : (list items : List Offset) (k : ℕ) (o : Offset) → AreMoves list → items ≡ list → o ≡ get_or items k o → k < length items → o.by < 2 ^ 64
small_at list items k o are same is lt =
    let lt_list : k < length list = rw (← same) lt in
    let read : get_or list k o ≡ o = rw (← same) (sym is) in
    rw read at ((All-get_or (λ m. (0 < m.by) × (m.by < 2 ^ 64)) list k o lt_list are.nonzero).1)
