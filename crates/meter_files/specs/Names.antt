-- The names of the files of meters.
use Rattle.std.specs.Prelude.{ℕ, List, [], ◌∷◌, ◌++◌, codes, decimal}
use Rattle.std.specs.List.{flat_map, range_with_len}
use Rattle.meter_files.specs.declared.names.PartFile.{PartFile}
use Rattle.meter_files.specs.declared.names.PartFile.TheVariants.{Keys, Journal}

-- behind the meter's number
abbrev pub part_ending : PartFile → List ℕ
part_ending Keys = codes ".csv"
part_ending Journal = codes ".journal"

-- the name of a file of meter i, behind the prefix
abbrev pub part_name : (prefix : List ℕ) (i : ℕ) → PartFile → List ℕ
part_name prefix i file = prefix ++ (decimal i ++ part_ending file)

-- the names of the files of meter i, in the order in which they are put
abbrev pub names_at : (prefix : List ℕ) (i : ℕ) → List (List ℕ)
names_at prefix i = part_name prefix i Keys ∷ part_name prefix i Journal ∷ []

-- the names of the files of the first n meters
unfoldable pub names_below : (prefix : List ℕ) (n : ℕ) → List (List ℕ)
names_below prefix n = flat_map (names_at prefix) (range_with_len 0 n)
