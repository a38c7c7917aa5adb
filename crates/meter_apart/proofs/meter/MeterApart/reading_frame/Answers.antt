use Rattle.std.proofs.Common.{◌≡◌, List, ℕ, true, sym, subst}
use Rattle.missing_round.specs.Sets.{is_member}
use Rattle.blind_core.specs.Blind.{are_places}
use Rattle.meter_apart.proofs.PartLemmas.{members-are_places, takes-round, takes-member}
use Rattle.meter_apart.proofs.meter.MeterApart.reading_frame.Goals as goal

pub masked-requires-clause-members : goal.masked-requires-clause-members
masked-requires-clause-members c =
    let part = c.args.self.now.keys.part in
    subst (λ (ms : List ℕ). are_places part.home 0 c.args.round ms ≡ true) (sym c.members-members.ensures) (members-are_places part.home c.args.round (takes-round part c.args.round c.requires.member))

pub masked-requires-clause-meter : goal.masked-requires-clause-meter
masked-requires-clause-meter c =
    let part = c.args.self.now.keys.part in
    subst (λ i. is_member i c.members-members.result ≡ true) (sym c.meter.ensures)
    (subst (λ (ms : List ℕ). is_member part.meter ms ≡ true) (sym c.members-members.ensures) (takes-member part c.args.round c.requires.member))
