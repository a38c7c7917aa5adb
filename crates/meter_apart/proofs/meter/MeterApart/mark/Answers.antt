use Rattle.std.proofs.Common.{◌≡◌, List, ℕ, true, sym, subst}
use Rattle.missing_round.specs.Sets.{is_member}
use Rattle.meter_apart.proofs.PartLemmas.{takes-member}
use Rattle.meter_apart.proofs.meter.MeterApart.mark.Goals as goal

pub mark_read-requires-clause-member : goal.mark_read-requires-clause-member
mark_read-requires-clause-member c =
    let meter = c.args.self.now in
    subst (λ i. is_member i c.members-members.result ≡ true) (sym meter.keeps.number)
    (subst (λ (ms : List ℕ). is_member meter.keys.part.meter ms ≡ true) (sym c.members-members.ensures) (takes-member meter.keys.part c.args.round c.requires.member))
