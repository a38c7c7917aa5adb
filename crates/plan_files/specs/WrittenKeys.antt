-- Rows of keys that stand as they are written, and what rows add to those before them.
use Rattle.std.specs.Prelude.{◌≡◌, ℕ, ◌<◌, ◌+◌, ◌^◌, ◌++◌, List, ◌∷◌, decimal, length, Some, Ok}
use Rattle.std.specs.Result.{result_ok}
use Rattle.hex.specs.Hex.{decode_sized}
use Rattle.plan_files.specs.KeptRows.{rows_in}
use Rattle.plan_files.specs.PlanForms.{after, entries_from}
use Rattle.plan_files.specs.PlanRows.{entry_of}
use Rattle.plan_files.specs.declared.entry.PlanRow.{PlanRow}
use Rattle.plan_files.specs.declared.form.PlanForm.{PlanForm}
use Rattle.plan_files.specs.declared.form.PlanForm.TheVariants.{Whole}

-- the bytes begin with a number below 2^32 in decimal and a comma, and the rest is behind it
pub record IsNumberPart (bytes : List ℕ) (n : ℕ) (rest : List ℕ) : Type 0 where
  pub text : bytes ≡ decimal n ++ 44 ∷ rest
  pub small : n < 2 ^ 32

-- the bytes begin with the digits of a key and a newline, and the rest is behind it
pub record IsKeyPart (bytes key rest : List ℕ) : Type 0 where
  pub digits : List ℕ
  pub text : bytes ≡ digits ++ 10 ∷ rest
  pub read : result_ok (decode_sized digits 32) ≡ Some key

-- the first row of the bytes says this of a key wherever it stands in a plan file, and the rest holds the other rows
pub record IsKeyRow (bytes : List ℕ) (entry : PlanRow) (rest : List ℕ) : Type 0 where
  pub fields : List (List ℕ)
  pub rows : rows_in bytes ≡ fields ∷ rows_in rest
  pub says : (number : ℕ) → entry_of Whole number fields ≡ Ok entry
  pub short : length rest < length bytes

-- what the first of these rows say is added to what those before them said, and the other rows are the rest
pub record AddsRows (form : PlanForm) (rows rest : List (List (List ℕ))) (old new : List PlanRow) : Type 0 where
  pub more : List PlanRow
  pub added : new ≡ old ++ more
  pub says : (n : ℕ) → entries_from form n rows ≡ after more (entries_from form (n + length more) rest)
  pub long : length rows ≡ length more + length rest
