use Rattle.std.proofs.Common.{◌≡◌, ◌+◌, sym, ap, subst, ◌∙◌, arith}
use Rattle.missing_round.specs.Sets.{is_member}
use Rattle.sparse_masks.specs.Stretches.{place}
use Rattle.sparse_masks.proofs.RoundLemmas.{survivor-below}
use Rattle.sparse_masks.proofs.StretchLemmas.{Leads, lead_begins, lead_finds, lead_passes}
use Rattle.sparse_masks.proofs.round.Round.reach.Goals as goal
use Rattle.sparse_masks.proofs.round.Round.reach.Goals.{then-has, else-has}

pub loop-places-init : goal.loop-places-init
loop-places-init c = lead_begins c.args.self.now c.args.meter c.args.way (survivor-below c.args.self.now c.requires.round c.args.meter c.requires.survivor) c.requires.survivor

pub place-requires-clause-meter : goal.place-requires-clause-meter
place-requires-clause-meter c = survivor-below c.args.self.now c.requires.round c.args.meter c.requires.survivor

pub loop-places-preserved : goal.loop-places-preserved
loop-places-preserved c =
    let r = c.args.self.now in
    let x = c.args.meter in
    let is : c.has.result ≡ is_member (place r.meters c.args.way x c.loop-places.places) r.survivors = c.has.ensures ∙ ap (λ i. is_member i r.survivors) c.place.ensures in
    let wide = c.from.ensures in
    let near = c.if-places-reach.false in
    elim c.if-has.branch [
      | then-has w ↦
          subst (λ reach. Leads r x c.args.way reach (c.loop-places.places + 1)) (sym w.reach-is)
          (lead_finds r x c.args.way c.loop-places.reach c.loop-places.places (survivor-below r c.requires.round x c.requires.survivor) c.requires.survivor c.loop-places-test.true (omega (arith, wide, near))
          (sym is ∙ w.if-has.true) c.loop-places.invariant)
      | else-has w ↦
          subst (λ reach. Leads r x c.args.way reach (c.loop-places.places + 1)) (sym w.reach-is)
          (lead_passes r x c.args.way c.loop-places.reach c.loop-places.places (sym is ∙ w.if-has.false) c.loop-places.invariant)
    ]
