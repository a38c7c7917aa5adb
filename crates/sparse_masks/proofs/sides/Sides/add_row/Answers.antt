use Rattle.std.proofs.Common.{◌≡◌, ◌+◌, ◌-◌, ◌^◌, ◌++◌, ℕ, List, ap, ◌∙◌, arith}
use Rattle.std.proofs.Math.Nat.{mod-mod}
use Rattle.std.specs.List.{flat_map, range_with_len}
use Rattle.missing_round.specs.Words.{word}
use Rattle.pair_keys.specs.declared.KeyId.TheVariants.{Pair}
use Rattle.ideal_masks.specs.declared.Offset.{Offset}
use Rattle.ideal_masks.specs.Moves.{moved}
use Rattle.ideal_masks.proofs.RowLists.{moved-word}
use Rattle.sparse_masks.specs.Rounds.{graph_of}
use Rattle.sparse_masks.specs.SideParts.{moves_in, size_of}
use Rattle.sparse_masks.specs.TreeParts.{delta_in}
use Rattle.sparse_masks.specs.Trees.{tree_pair_move}
use Rattle.sparse_masks.proofs.MoveLemmas.{pair-word, row-more}
use Rattle.sparse_masks.proofs.sides.Sides.add_row.Goals as goal

pub loop-high-preserved : goal.loop-high-preserved
loop-high-preserved c =
    let at = c.args.self.now in
    let low : ℕ = c.args.low in
    let high : ℕ = c.loop-high.high in
    let f : ℕ → List Offset = λ j. moved (Pair at.group low j) at.round ((moves_in at).pair at.group at.round low j) in
    let above = c.loop-high.invariant.above in
    let test = c.loop-high-test.true in
    record {
      above = omega (arith, above);
      below = omega (arith, test);
      list = row-more f (low + 1) high c.args.moves.now.items c.loop-high.moves.items c.add_pair.new.moves.items above c.loop-high.invariant.list
          (c.in_ok-add_pair.ensures
          ∙ ap (λ (l : List Offset). c.loop-high.moves.items ++ l)
          (moved-word (Pair at.group low high) at.round c.pair_move-by.result ((moves_in at).pair at.group at.round low high)
          (ap word c.pair_move-by.ensures ∙ mod-mod (tree_pair_move (graph_of c.args.ring.now) (delta_in c.args.deltas.now) low high) (2 ^ 64)
          ∙ pair-word at c.args.ring.now c.args.deltas.now low high c.requires.ring c.requires.deltas)));
    }

pub returns : goal.returns
returns c =
    let at = c.args.self.now in
    let low : ℕ = c.args.low in
    let f : ℕ → List Offset = λ j. moved (Pair at.group low j) at.round ((moves_in at).pair at.group at.round low j) in
    let test = c.loop-high-test.false in
    let below = c.loop-high.invariant.below in
    let meters = c.requires.ring.meters in
    let all : c.loop-high.high ≡ size_of at = omega (arith, test, below, meters) in
    c.loop-high.invariant.list ∙ ap (λ h. c.args.moves.now.items ++ flat_map f (range_with_len (low + 1) (h - (low + 1)))) all
