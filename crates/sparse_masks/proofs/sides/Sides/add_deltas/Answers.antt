use Rattle.std.proofs.Common.{◌≡◌, ◌++◌, ℕ, List, sym, ap, refl, ◌∙◌, append-nil, arith}
use Rattle.std.specs.Prelude.{if◌then◌else◌}
use Rattle.std.specs.List.{flat_map}
use Rattle.missing_round.specs.Words.{word, group}
use Rattle.group_plan.specs.Plans.{size}
use Rattle.pair_keys.specs.declared.KeyId.TheVariants.{Own}
use Rattle.group_book.specs.Books.{shape_of, past}
use Rattle.ideal_masks.specs.declared.Offset.{Offset}
use Rattle.ideal_masks.specs.Moves.{moved}
use Rattle.ideal_masks.proofs.OwnLemmas.{own-more}
use Rattle.sparse_masks.specs.Offsets.{ring_graph}
use Rattle.sparse_masks.specs.Trees.{tree_own_move, tree_pair_move}
use Rattle.sparse_masks.specs.SideParts.{deltas_of, moves_in, owns_of, size_of}
use Rattle.sparse_masks.proofs.MoveLemmas.{pairs-none}
use Rattle.sparse_masks.proofs.sides.Sides.add_deltas.Goals as goal

pub loop-meter-preserved : goal.loop-meter-preserved
loop-meter-preserved c =
    let at = c.args.self.now in
    let k : ℕ = c.loop-meter.meter in
    own-more at.group at.round k c.delta.result ((moves_in at).own at.group at.round) (Own at.group k) c.args.moves.now.items c.loop-meter.moves.items c.add_own.new.moves.items
    c.loop-meter.invariant refl
    (ap word c.delta.ensures
    ∙ ap (λ b. word (if b then tree_own_move (ring_graph at.width (shape_of at.book.now) at.group at.round (past at.book.now)) (deltas_of at) k else deltas_of at k)) (sym c.requires.open))
    c.in_ok-add_own.ensures

pub returns : goal.returns
returns c =
    let at = c.args.self.now in
    let meters = c.meters-meter-end.ensures.meters ∙ ap (λ p. size p.groups at.group) c.plan.ensures in
    let test = c.loop-meter-test.false in
    let end = c.loop-meter.auto.meter-end in
    let all : c.loop-meter.meter ≡ size_of at = omega (arith, meters, test, end) in
    let none = pairs-none (moves_in at) at.group at.round (size_of at)
    (λ i j. ap (λ b. if b then tree_pair_move (ring_graph at.width (shape_of at.book.now) at.group at.round (past at.book.now)) (deltas_of at) i j else 0) c.requires.open) in
    c.loop-meter.invariant
    ∙ ap (λ n. c.args.moves.now.items ++ flat_map (λ i. moved (Own at.group i) at.round ((moves_in at).own at.group at.round i)) (group n)) all
    ∙ ap (λ (l : List Offset). c.args.moves.now.items ++ l) (sym (ap (λ (l : List Offset). owns_of at ++ l) none ∙ append-nil (owns_of at)))
