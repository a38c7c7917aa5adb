-- Piles and tables of keys.
use Rattle.std.specs.Prelude.{◌≡◌, ℕ, true, false, List, Option, Some, None, is_some, Result, Ok, Err, if◌then◌else◌}
use Rattle.group_plan.specs.Plans.{PlanView}
use Rattle.pair_keys.specs.declared.KeyId.{KeyId}
use Rattle.pair_keys.specs.declared.KeyError.{KeyError}
use Rattle.pair_keys.specs.declared.KeyError.TheVariants.{Range, Twice, Missing}
use Rattle.pair_keys.specs.declared.pile.KeyPile.{KeyPile}
use Rattle.pair_keys.specs.declared.pile.Unfinished.{Unfinished}
use Rattle.pair_keys.specs.declared.pile.KeyTable.{KeyTable}
use Rattle.pair_keys.specs.Ids.{is_key, same_id, comes_before}
use Rattle.pair_keys.specs.KeyParts.{kept_key}

-- a plan, and the keys that are there
pub record Keys : Type 0 where
  pub plan : PlanView
  pub key : KeyId → Option (List ℕ)

-- what a pile has
abbrev pub keys_of : KeyPile → Keys
keys_of pile = record { plan = pile.plan; key = kept_key pile.groups.items }

-- what a table has
abbrev pub table_of : KeyTable → Keys
table_of table = keys_of table.pile

-- no key is there
abbrev pub no_keys : PlanView → Keys
no_keys plan = record { plan = plan; key = λ id. None }

-- the keys with one more, or with another in its place
abbrev pub with_key : Keys → KeyId → List ℕ → Keys
with_key keys id key = record keys { key = λ other. if same_id id other then Some key else keys.key other }

-- a key of the plan that is not there yet is put; one outside the plan or one that is there is refused, and nothing changes
abbrev pub PutsKey : Keys → KeyId → List ℕ → Result (Unit {0}) KeyError → Keys → Type 0
PutsKey old id key (Ok done) new = (is_key old.plan id ≡ true) × (old.key id ≡ None) × (new ≡ with_key old id key)
PutsKey old id key (Err Range) new = (is_key old.plan id ≡ false) × (new ≡ old)
PutsKey old id key (Err (Twice there)) new = (is_key old.plan id ≡ true) × (is_some (old.key id) ≡ true) × (there ≡ id) × (new ≡ old)
PutsKey old id key (Err (Missing lacking)) new = ⊥

-- every key of the plan is there
abbrev pub IsComplete : Keys → Type 0
IsComplete keys = (id : KeyId) → is_key keys.plan id ≡ true → is_some (keys.key id) ≡ true

-- a key of the plan is lacking, and all before it in the order of keys are there
pub record IsFirstMissing (keys : Keys) (id : KeyId) : Type 0 where
  pub of_plan : is_key keys.plan id ≡ true
  pub lacking : keys.key id ≡ None
  pub first : (other : KeyId) → is_key keys.plan other ≡ true → comes_before other id ≡ true → is_some (keys.key other) ≡ true

-- a complete pile becomes a table of the same keys; any other comes back with its first missing key
abbrev pub Finishes : Keys → Result KeyTable Unfinished → Type 0
Finishes keys (Ok table) = (table_of table ≡ keys) × IsComplete keys
Finishes keys (Err unfinished) = (keys_of unfinished.pile ≡ keys) × IsFirstMissing keys unfinished.missing
