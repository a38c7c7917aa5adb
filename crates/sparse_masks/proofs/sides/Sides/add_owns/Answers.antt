use Rattle.std.proofs.Common.{◌^◌, ℕ, ap, refl, ◌∙◌}
use Rattle.std.proofs.Math.Nat.{mod-mod}
use Rattle.missing_round.specs.Words.{word}
use Rattle.pair_keys.specs.declared.KeyId.TheVariants.{Own}
use Rattle.ideal_masks.proofs.OwnLemmas.{own-more}
use Rattle.sparse_masks.specs.Rounds.{graph_of}
use Rattle.sparse_masks.specs.SideParts.{moves_in}
use Rattle.sparse_masks.specs.TreeParts.{delta_in}
use Rattle.sparse_masks.specs.Trees.{tree_own_move}
use Rattle.sparse_masks.proofs.MoveLemmas.{own-word}
use Rattle.sparse_masks.proofs.sides.Sides.add_owns.Goals as goal

pub loop-meter-preserved : goal.loop-meter-preserved
loop-meter-preserved c =
    let at = c.args.self.now in
    let by : ℕ = c.own_move-by.result in
    own-more at.group at.round c.loop-meter.meter by ((moves_in at).own at.group at.round) (Own at.group c.loop-meter.meter) c.args.moves.now.items c.loop-meter.moves.items c.add_own.new.moves.items
    c.loop-meter.invariant refl
    (ap word c.own_move-by.ensures ∙ mod-mod (tree_own_move (graph_of c.args.ring.now) (delta_in c.args.deltas.now) c.loop-meter.meter) (2 ^ 64)
    ∙ own-word at c.args.ring.now c.args.deltas.now c.loop-meter.meter c.requires.ring c.requires.deltas)
    c.in_ok-add_own.ensures
