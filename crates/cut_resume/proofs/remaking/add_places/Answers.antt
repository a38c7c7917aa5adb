use Rattle.cut_resume.proofs.RemakingLemmas.{places_next}
use Rattle.cut_resume.proofs.remaking.add_places.Goals as goal

pub add-requires : goal.add-requires
add-requires c =
    places_next c.args.made.now c.loop-at.made c.args.run.now.entries c.args.places.now c.loop-at.at _ c.entry.result c.loop-at-test.true c.requires.places c.entry.ensures c.requires.entries c.loop-at.invariant
