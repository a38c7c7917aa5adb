-- The rules that an argument writes.
use Rattle.std.proofs.Common.{◌≡◌, ◌∙◌, sym, ap, ℕ, ◌<◌, ◌≤◌, nat_le, true, cond, List, length, take, get_or, Some, None, arith}
use Rattle.std.proofs.lemmas.Bool.Decides.{nat_tests}
use Rattle.std.proofs.lemmas.List.{take_all}
use Rattle.field_texts.specs.Parts.{parts}
use Rattle.link_lanes.specs.Texts.{each, passing}
use Rattle.link_lanes.specs.Kinds.{Rule, rule_of, rules_of}
use Rattle.link_lanes.proofs.TextLemmas.{each-none, too_long}

-- the part at place i of the argument
abbrev pub IsRule : List ℕ → ℕ → List ℕ → Type 0
IsRule arg i p = (i < length (parts 59 arg)) × (p ≡ get_or (parts 59 arg) i p)

-- a rule more than 64
pub too_many_rules : (arg : List ℕ) (i : ℕ) (p : List ℕ) → i ≡ 64 → IsRule arg i p → None ≡ rules_of arg
too_many_rules arg i p full at =
    sym (too_long rule_of (λ rules. nat_le (length rules) 64) (parts 59 arg) (λ xs same. (let more : 64 < length xs = omega (arith, at.0) in grind (arith, nat_tests))))

-- a part that is no rule
pub no_rule : (arg : List ℕ) (i : ℕ) (p : List ℕ) → IsRule arg i p → rule_of p ≡ None → None ≡ rules_of arg
no_rule arg i p at e =
    sym (ap (passing (λ rules. nat_le (length rules) 64)) (each-none rule_of (parts 59 arg) i p at.0 (ap rule_of (sym at.1) ∙ e)))

-- all parts are rules
pub all_rules : (arg : List ℕ) (rules : List Rule) → length rules ≤ 64 → length rules ≡ length (parts 59 arg) → each rule_of (take (length rules) (parts 59 arg)) ≡ Some rules → Some rules ≡ rules_of arg
all_rules arg rules few all e =
    let whole : take (length rules) (parts 59 arg) ≡ parts 59 arg = take_all (length rules) (parts 59 arg) (omega arith) in
    let within : nat_le (length rules) 64 ≡ true = grind (arith, nat_tests) in
    sym (ap (passing (λ rules. nat_le (length rules) 64)) (ap (each rule_of) (sym whole) ∙ e) ∙ ap (λ b. cond b (Some rules) None) within)
