-- Steps along a chain.
use Rattle.std.proofs.Common.{◌≡◌, ℕ, ◌+◌, true, false, not, ◌&&◌, List, [], ◌∷◌, refl, sym, ap, ◌∙◌, zero-add, arith}
use Rattle.std.specs.Prelude.{◌==◌, if◌then◌else◌}
use Rattle.std.specs.List.{AllByRecursion}
use Rattle.std.proofs.lemmas.Bool.{eq-eqb, ne_eqb}
use Rattle.missing_round.specs.Sets.{is_member}
use Rattle.ideal_masks.specs.Offsets.{link, pair_move as chain_move}
use Rattle.mask_graphs.specs.Graphs.{Graph}
use Rattle.mask_graphs.specs.Steps.{Step, stays, handed}
use Rattle.mask_graphs.specs.Moves.{pair_move}
use Rattle.mask_graphs.specs.Chains.{chain_steps, StandOnce}
use Rattle.mask_graphs.proofs.ListFacts.{member_head, member_later, not_head}
use Rattle.mask_graphs.proofs.TreeLemmas.{apart-members, handed-apart}

handed-on : (graph : Graph) (u v : ℕ) (left : ℕ → ℕ) → (u ≡ v → ⊥) → stays graph (record { from = u; to = v }) ≡ false → handed graph (record { from = u; to = v }) left v ≡ left v + left u
handed-on graph u v left other goes_on =
    ap (λ b. (if b then 0 else left v) + (if (v == v) && not (stays graph (record { from = u; to = v })) then left u else 0)) (ne_eqb v u (λ e. other (sym e)))
    ∙ ap (λ b. left v + (if b && not (stays graph (record { from = u; to = v })) then left u else 0)) (eq-eqb v v refl)
    ∙ ap (λ b. left v + (if not b then left u else 0)) goes_on

along : (graph : Graph) (d : ℕ → ℕ) (sum u : ℕ) (rest : List ℕ) (left : ℕ → ℕ) (i j : ℕ) → StandOnce (u ∷ rest) → AllByRecursion (λ s. stays graph s ≡ false) (chain_steps (u ∷ rest))
    → left u ≡ sum + d u → ((k : ℕ) → is_member k rest ≡ true → left k ≡ d k) → chain_move d sum (u ∷ rest) i j ≡ pair_move graph (chain_steps (u ∷ rest)) left i j
along graph d sum u [] left i j once on head tail = refl
along graph d sum u (v ∷ rest) left i j once on head tail =
    let s : Step = record { from = u; to = v } in
    let other : u ≡ v → ⊥ = not_head u v rest once.0 in
    ap (λ z. link u v z i j + chain_move d (sum + d u) (v ∷ rest) i j) (sym head)
    ∙ ap (λ z. link u v (left u) i j + z)
    (along graph d (sum + d u) v rest (handed graph s left) i j once.1 on.1
    (handed-on graph u v left other on.0 ∙ swap (left v) (left u) (sum + d u) (d v) head (tail v (member_head v rest)))
    (λ k h. handed-apart graph u v left k (λ e. apart-members k u (v ∷ rest) (member_later k v rest h) once.0 (sym e)) (λ e. apart-members k v rest h once.1.0 (sym e)) ∙ tail k (member_later k v rest h)))
  where
    swap : (a b c e : ℕ) → b ≡ c → a ≡ e → a + b ≡ c + e
    swap a b c e f g = omega (arith, f, g)

pub chains : (graph : Graph) (chain : List ℕ) (d : ℕ → ℕ) (i j : ℕ) → StandOnce chain → AllByRecursion (λ s. stays graph s ≡ false) (chain_steps chain)
    → chain_move d 0 chain i j ≡ pair_move graph (chain_steps chain) d i j
chains graph [] d i j once on = refl
chains graph (u ∷ rest) d i j once on = along graph d 0 u rest d i j once on (sym (zero-add (d u))) (λ k h. refl)
