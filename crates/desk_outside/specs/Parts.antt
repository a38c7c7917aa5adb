-- Parts of a desk in memory: its files, the numbers of the calls that fail, and why a begun file has failed.
use Rattle.std.specs.Prelude.{ℕ, Bool, true, false, List, Option, Some, None, Vec, String, nat_eq}
use Rattle.std.specs.List.{list_any}
use Rattle.std.specs.Option.{option_map}
use Rattle.std.specs.BTreeMap.{BTreeMap, get_by_text}
use Rattle.std.specs.declared.alloc.Global.{Global}
use Rattle.desk_outside.specs.declared.desk.DeskError.{DeskError}
use Rattle.desk_outside.specs.declared.desk.DeskError.TheVariants.{Failed, Memory}

-- what a name holds among the files
abbrev pub held_in : BTreeMap (String Global) (Vec ℕ Global) → List ℕ → Option (List ℕ)
held_in files name = option_map (λ bytes. bytes.items) (get_by_text files name)

-- the number is among these
abbrev pub is_listed : List ℕ → ℕ → Bool
is_listed numbers number = list_any (λ n. nat_eq n number) numbers

-- the error of a name that held something, and of no other failure
abbrev pub is_failed : Option DeskError → Bool
is_failed (Some Failed) = true
is_failed (Some Memory) = false
is_failed None = false
