-- A meter file that is whole makes keys.
use Rattle.std.proofs.Common.{◌≡◌, ◌<◌, ◌+◌, ℕ, Bool, true, false, List, [], ◌∷◌, length, Option, Some, None, refl, sym, ap, ◌∙◌, subst, arith}
use Rattle.std.specs.Prelude.{◌==◌, ◌&&◌, ◌||◌, not, nat_lt, if◌then◌else◌, is_none, is_some, slice_index_or}
use Rattle.std.specs.List.{find, list_all, range_with_len}
use Rattle.std.specs.Option.{option_map}
use Rattle.std.proofs.lemmas.Bool.{false≢true, lt-ltb}
use Rattle.group_plan.specs.Plans.{PlanView, size}
use Rattle.pair_keys.specs.declared.KeyId.{KeyId}
use Rattle.meter_files.specs.PartFiles.{MeterFileView, OwnerView, lacks, missing_pair}
use Rattle.meter_files.specs.Spelling.{pair_of}
use Rattle.meter_files.specs.Whole.{IsWhole, owner_in}
use Rattle.meter_apart.specs.declared.part.Part.{Part}
use Rattle.meter_apart.specs.Keys.{MakesKeys, has_key, is_complete}
use Rattle.meter_apart.specs.Parts.{MakesPart}

-- ---- no key is missing

has_or_lacks : (own : Bool) (key : Option (List ℕ)) → (not own && is_none key) ≡ false → (own || is_some key) ≡ true
has_or_lacks true key there = refl
has_or_lacks false None there = absurd cc
has_or_lacks false (Some key) there = refl

all_have : (owner : OwnerView) (pairs : List (Option (List ℕ))) (others : List ℕ) → find (lacks owner pairs) others ≡ None → list_all (has_key owner.meter pairs) others ≡ true
all_have owner pairs [] none = refl
all_have owner pairs (j ∷ others) none = by (all_have owner pairs others) (lacks owner pairs j) refl none
  where
    by : (find (lacks owner pairs) others ≡ None → list_all (has_key owner.meter pairs) others ≡ true) → (b : Bool) → lacks owner pairs j ≡ b → (if b then Some j else find (lacks owner pairs) others) ≡ None
        → list_all (has_key owner.meter pairs) (j ∷ others) ≡ true
    by rest true lacking none = absurd cc
    by rest false there none =
        let here : has_key owner.meter pairs j ≡ true = has_or_lacks (j == owner.meter) (slice_index_or pairs j None) there in
        rw here (rest none)

none_lacks : (owner : OwnerView) (pairs : List (Option (List ℕ))) → missing_pair owner pairs ≡ None → find (lacks owner pairs) (range_with_len 0 owner.meters) ≡ None
none_lacks owner pairs none = by (find (lacks owner pairs) (range_with_len 0 owner.meters)) none
  where
    by : (found : Option ℕ) → option_map (pair_of owner.group owner.meter) found ≡ None → found ≡ None
    by None is = refl
    by (Some j) is = absurd cc

-- ---- the keys

pub part_made : (file : MeterFileView) → IsWhole file → MakesPart file.home file.group file.meter None → ⊥
part_made file whole none =
    let one : (length file.home.groups == 1) ≡ true = rw whole.one refl in
    let inside = lt-ltb file.meter (size file.home.groups 0) whole.is_meter in
    let both : ((length file.home.groups == 1) && nat_lt file.meter (size file.home.groups 0)) ≡ true = rw (one, inside) refl in
    false≢true (sym none ∙ both)

pub keys_made : (file : MeterFileView) (part : Part) → IsWhole file → MakesPart file.home file.group file.meter (Some part) → MakesKeys part file.own file.pairs None → ⊥
keys_made file part whole makes none =
    let all : is_complete file.meter (size file.home.groups 0) file.pairs ≡ true = all_have (owner_in file) file.pairs (range_with_len 0 (size file.home.groups 0)) (none_lacks (owner_in file) file.pairs whole.pairs) in
    let same : is_complete part.meter (size part.home.groups 0) file.pairs ≡ is_complete file.meter (size file.home.groups 0) file.pairs
    = ap (λ i. is_complete i (size part.home.groups 0) file.pairs) makes.3 ∙ ap (λ (p : PlanView). is_complete file.meter (size p.groups 0) file.pairs) makes.1 in
    false≢true (sym none ∙ same ∙ all)
