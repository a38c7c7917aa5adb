-- How sixteen bytes keep a name.
use Rattle.std.specs.Prelude.{◌≡◌, ℕ, ◌-◌, ◌≤◌, IsTrue, List, ◌++◌, length, take, drop, replicate}
use Rattle.std.proofs.Common.{◌∙◌, ap, length-take-le, take-append-drop, arith}
use Rattle.group_plan.specs.Names.{is_name}
use Rattle.group_plan.specs.declared.name.Name.TheInside.{Inside}

-- the name that is kept
abbrev pub name : Inside → List ℕ
name kept = take kept.len kept.bytes

-- the name and zeros after it
abbrev pub kept_by : List ℕ → Inside
kept_by text = record { bytes = text ++ replicate (16 - length text) 0; len = length text }

-- a name is kept in 16 bytes
pub record KeepsName (kept : Inside) : Type 0 where
  pub long : length kept.bytes ≡ 16
  pub fits : kept.len ≤ 16
  pub named : IsTrue (is_name (take kept.len kept.bytes))
  pub rest : drop kept.len kept.bytes ≡ replicate (16 - kept.len) 0

-- a name gives back what keeps it
pub kept_by-name : (kept : Inside) → KeepsName kept → kept_by (name kept) ≡ kept
kept_by-name kept keeps =
    let len : length (take kept.len kept.bytes) ≡ kept.len = length-take-le kept.len kept.bytes (omega (arith, keeps.long, keeps.fits)) in
    let padded : take kept.len kept.bytes ++ replicate (16 - kept.len) 0 ≡ kept.bytes = rw (← keeps.rest) (take-append-drop kept.len kept.bytes) in
    let made : List ℕ → ℕ → Inside = λ b l. record { bytes = b; len = l } in
    ap (λ l. made (take kept.len kept.bytes ++ replicate (16 - l) 0) l) len ∙ ap (λ b. made b kept.len) padded
