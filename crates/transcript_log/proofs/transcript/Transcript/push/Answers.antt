use Rattle.transcript_log.proofs.Pushing.{has_own_tag, still_stamped, pushed}
use Rattle.transcript_log.proofs.transcript.Transcript.push.Goals as goal

pub add-requires : goal.add-requires
add-requires c = has_own_tag c.args.self.now.plan c.args.entry c.requires.fits

pub invariant_of-self : goal.invariant_of-self
invariant_of-self c =
    still_stamped c.self.inside.plan c.self.inside.stamps.items c.add.new.stamps.items c.self.inside.lines.items c.add.new.lines.items c.args.self.now c.args.entry c.self.view_is c.self.invariant
    c.add.result c.requires.fits c.entry_is.ensures c.requires.tick c.add.ensures.stamps c.add.ensures.lines c.add.ensures.no_stamp c.add.ensures.no_line

pub returns : goal.returns
returns c =
    pushed c.self.inside.plan c.self.inside.stamps.items c.add.new.stamps.items c.self.inside.lines.items c.add.new.lines.items c.args.self.now c.args.entry c.self.view_is c.self.invariant
    c.add.result c.add.ensures.stamps c.add.ensures.lines c.add.ensures.no_stamp c.add.ensures.no_line
