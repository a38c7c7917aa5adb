-- Calls that append nothing.
use Rattle.std.proofs.Common.{◌≡◌, sym, ap, refl, List, [], true, append-nil, Option, Some, None}
use Rattle.desk_outside.specs.declared.desk.DeskKind.TheVariants.{Say, Complain}
use Rattle.desk_outside.specs.Desk.{View, Said, Complained, call_of, extended, after_step}

extended-nothing : {X : Type 0} (xs : Option (List X)) → extended xs [] ≡ xs
extended-nothing None = refl
extended-nothing (Some xs) = ap Some (append-nil xs)

-- a say that appended nothing
pub nothing_said : (v : View) → record v { calls = extended v.calls (call_of Say [] true) } ≡ after_step v (Said [] true)
unfolding after_step
nothing_said v = ap (λ said. record v { said = said; calls = extended v.calls (call_of Say [] true) }) (sym (extended-nothing v.said))

-- a complaint that appended nothing
pub nothing_complained : (v : View) → record v { calls = extended v.calls (call_of Complain [] true) } ≡ after_step v (Complained [] true)
unfolding after_step
nothing_complained v = ap (λ complained. record v { complained = complained; calls = extended v.calls (call_of Complain [] true) }) (sym (extended-nothing v.complained))
