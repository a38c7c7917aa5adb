-- A line by its fields.
use Rattle.std.proofs.Common.{◌≡◌, ◌<◌, ◌==◌, ℕ, false, List, length, refl, arith, Err}
use Rattle.std.proofs.lemmas.Bool.Decides.{nat_tests}
use Rattle.group_plan.specs.Plans.{PlanView}
use Rattle.transcript_text.specs.declared.version.Version.{Version}
use Rattle.transcript_text.specs.declared.fault.RowFault.TheVariants.{Form}
use Rattle.transcript_text.specs.Reading.{row_of}

-- no line has more than 8 fields
pub row_many : (version : Version) (plan : PlanView) (last : ℕ) (fs : List (List ℕ)) → 8 < length fs → row_of version plan last fs ≡ Err Form
unfolding row_of
row_many version plan last fs long =
    let two : (length fs == 2) ≡ false = grind (arith, nat_tests) in
    let six : (length fs == 6) ≡ false = grind (arith, nat_tests) in
    let seven : (length fs == 7) ≡ false = grind (arith, nat_tests) in
    let eight : (length fs == 8) ≡ false = grind (arith, nat_tests) in
    rw (two, six, seven, eight) refl
