-- Lines of the head by their fields.
use Rattle.std.proofs.Common.{◌≡◌, ◌<◌, ◌==◌, ℕ, false, List, length, refl, arith, Option, Err}
use Rattle.std.proofs.lemmas.Bool.Decides.{nat_tests}
use Rattle.group_plan.specs.declared.plan.GroupPlan.{GroupPlan}
use Rattle.group_plan.specs.declared.plan.members.Span.{Span}
use Rattle.transcript_text.specs.declared.version.Version.{Version}
use Rattle.transcript_text.specs.declared.fault.ReadError.TheVariants.{Head}
use Rattle.transcript_text.specs.Heads.{head_row, rounds_of, title_of, windows_of}

-- no line has more than 8 fields

pub title_many : (version : Version) (n : ℕ) (fs : List (List ℕ)) → 8 < length fs → title_of version n fs ≡ Err (Head n)
unfolding title_of
title_many version n fs long = let t : (length fs == 1) ≡ false = grind (arith, nat_tests) in rw t refl

pub rounds_many : (n : ℕ) (fs : List (List ℕ)) → 8 < length fs → rounds_of n fs ≡ Err (Head n)
unfolding rounds_of
rounds_many n fs long = let t : (length fs == 2) ≡ false = grind (arith, nat_tests) in rw t refl

pub windows_many : (n : ℕ) (fs : List (List ℕ)) → 8 < length fs → windows_of n fs ≡ Err (Head n)
unfolding windows_of
windows_many n fs long = let t : (length fs == 3) ≡ false = grind (arith, nat_tests) in rw t refl

pub head_many : (version : Version) (n rounds : ℕ) (groups : List GroupPlan) (last : Option Span) (fs : List (List ℕ)) → 8 < length fs → head_row version n rounds groups last fs ≡ Err (Head n)
unfolding head_row
head_many version n rounds groups last fs long =
    let one : (length fs == 1) ≡ false = grind (arith, nat_tests) in
    let four : (length fs == 4) ≡ false = grind (arith, nat_tests) in
    let five : (length fs == 5) ≡ false = grind (arith, nat_tests) in
    rw (one, four, five) refl
