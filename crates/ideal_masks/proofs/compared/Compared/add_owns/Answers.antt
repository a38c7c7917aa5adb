use Rattle.std.proofs.Common.{◌≡◌, ◌++◌, ◌∙◌, ◌^◌, ℕ, sym, ap, append-nil, arith}
use Rattle.std.proofs.Math.Nat.{mod-mod}
use Rattle.std.specs.List.{flat_map}
use Rattle.missing_round.specs.Words.{word, group}
use Rattle.pair_keys.specs.declared.KeyId.TheVariants.{Own}
use Rattle.group_book.specs.Books.{shape_of, past}
use Rattle.ideal_masks.specs.Moves.{moved}
use Rattle.ideal_masks.specs.Chains.{deltas, pool_in, own_moves_of, size_of}
use Rattle.ideal_masks.proofs.OwnLemmas.{own-more}
use Rattle.ideal_masks.proofs.PairLists.{owns-announced}
use Rattle.ideal_masks.proofs.compared.Compared.add_owns.Goals as goal

pub loop-meter-init : goal.loop-meter-init
loop-meter-init c = sym (append-nil c.args.moves.now.items)

pub loop-meter-preserved : goal.loop-meter-preserved
loop-meter-preserved c =
    let at = c.args.self.now in
    let b = at.book.now in
    let s = shape_of b in
    let w : ℕ → ℕ = own_moves_of at in
    own-more at.group at.round c.loop-meter.meter c.own_move-by.result w c.own_id.result c.args.moves.now.items c.loop-meter.moves.items c.push_moved.new.moves.items
    c.loop-meter.invariant c.own_id.ensures (ap word c.own_move-by.ensures ∙ mod-mod (w c.loop-meter.meter) (2 ^ 64)) c.in_ok-push_moved.ensures

pub returns : goal.returns
returns c =
    let at = c.args.self.now in
    let b = at.book.now in
    let s = shape_of b in
    let w : ℕ → ℕ = own_moves_of at in
    let end : c.loop-meter.meter ≡ size_of at = omega (arith, c.meters-meter-end.ensures.meters, c.loop-meter-test.false, c.loop-meter.auto.meter-end) in
    c.loop-meter.invariant
    ∙ ap (λ n. c.args.moves.now.items ++ flat_map (λ i. moved (Own at.group i) at.round (w i)) (group n)) end
    ∙ ap (λ l. c.args.moves.now.items ++ l) (sym (owns-announced (pool_in at) s (deltas at.first.now at.second.now) (past b) at.group at.round (size_of at) c.requires.chain.announced))
