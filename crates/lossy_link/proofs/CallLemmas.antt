-- What the calls of a link do, by what its map does.
use Rattle.std.proofs.Common.{◌≡◌, ◌∙◌, sym, ap, ℕ, ◌+◌, ◌-◌, ◌≤◌, List, [], ◌∷◌, ◌++◌, length, arith, Vec, Some, None, Result, Ok, Err, IsErr}
use Rattle.std.specs.declared.alloc.AllocError.{AllocError}
use Rattle.std.specs.declared.alloc.Global.{Global}
use Rattle.std.specs.BTreeMap.{insert_entry, is_at}
use Rattle.std.specs.List.Sorted.{IsStrictlySortedBy}
use Rattle.std.specs.Map.{keys_of, lookup, set_value, remove_entry}
use Rattle.std.specs.Ordering.{nat_cmp}
use Rattle.std.proofs.lemmas.Map.Steps.{set_value_same}
use Rattle.lossy_link.specs.Arrivals.{Arrival, arrival, placed, due_at, due_elsewhere}
use Rattle.lossy_link.specs.Calls.{AddEnds}
use Rattle.lossy_link.specs.Waiting.{copies_of, IsKept}
use Rattle.lossy_link.proofs.ArrivalLemmas.{length-due}
use Rattle.lossy_link.proofs.WaitingLemmas.{Entries, ascends_from, set-more, insert-first, due_at-copies, due_elsewhere-copies, copies_at}

pub add_refused : (a : Arrival) (earlier later : List Arrival) (r : Result (Unit {0}) AllocError) → IsErr r → later ≡ earlier → AddEnds a earlier later r
add_refused a earlier later (Ok done) refused e = absurd cc
add_refused a earlier later (Err lack) refused e = e

-- a copy more behind a tick that has some
pub added_behind : (k : ℕ) (es es' : Entries) (v w : Vec (List ℕ) Global) (bytes : List ℕ) → IsStrictlySortedBy nat_cmp (keys_of es) → Some v ≡ lookup (is_at (nat_cmp k)) es
    → es' ≡ set_value (is_at (nat_cmp k)) es w → w.items ≡ v.items ++ bytes ∷ [] → copies_of es' ≡ placed (arrival k bytes) (copies_of es)
added_behind k es es' v w bytes ordered found is more =
    ap copies_of is ∙ set-more k es v v w bytes (ascends_from es ordered) (sym found) more ∙ ap (λ l. placed (arrival k bytes) (copies_of l)) (set_value_same (is_at (nat_cmp k)) es v (sym found))

-- a first copy behind a tick
pub added_first : (k : ℕ) (es found es' : Entries) (w : Vec (List ℕ) Global) (several : List (List ℕ)) (bytes : List ℕ) → IsStrictlySortedBy nat_cmp (keys_of es) → None ≡ lookup (is_at (nat_cmp k)) es
    → found ≡ es → es' ≡ insert_entry nat_cmp found k w → w.items ≡ several ++ bytes ∷ [] → several ≡ [] → copies_of es' ≡ placed (arrival k bytes) (copies_of es)
added_first k es found es' w several bytes ordered none same is items empty =
    ap copies_of (is ∙ ap (λ l. insert_entry nat_cmp l k w) same) ∙ insert-first k es w bytes (ascends_from es ordered) (sym none) (items ∙ ap (λ l. l ++ bytes ∷ []) empty)

-- a tick's copies are taken out
pub taken_out : (k : ℕ) (es es' : Entries) (several : List (List ℕ)) (left : ℕ) → IsKept es left → several ≡ copies_at (lookup (is_at (nat_cmp k)) es) → es' ≡ remove_entry (is_at (nat_cmp k)) es
    → (several ≡ due_at k (copies_of es)) × (copies_of es' ≡ due_elsewhere k (copies_of es)) × (length several ≤ left) × (left - length several ≡ length (copies_of es'))
taken_out k es es' several left kept found is =
    let here : several ≡ due_at k (copies_of es) = found ∙ due_at-copies k es (ascends_from es kept.ordered) in
    let there : copies_of es' ≡ due_elsewhere k (copies_of es) = ap copies_of is ∙ due_elsewhere-copies k es (ascends_from es kept.ordered) in
    let count : length (due_at k (copies_of es)) + length (due_elsewhere k (copies_of es)) ≡ length (copies_of es) = length-due k (copies_of es) in
    let counted : left ≡ length (copies_of es) = kept.counted in
    let n : length several ≡ length (due_at k (copies_of es)) = ap length here in
    let m : length (copies_of es') ≡ length (due_elsewhere k (copies_of es)) = ap length there in
    (here, there, omega arith, omega arith)
