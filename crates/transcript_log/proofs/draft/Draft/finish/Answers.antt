use Rattle.std.proofs.Common.{List, sym, ap, subst, ◌∙◌}
use Rattle.transcript_log.specs.declared.transcript.Stamp.{Stamp}
use Rattle.transcript_log.specs.Stamps.{entries_of, IsStamped}
use Rattle.transcript_log.proofs.Drafting.{stamped, finished}
use Rattle.transcript_log.proofs.draft.Draft.finish.Goals as goal

pub invariant_of-result : goal.invariant_of-result
invariant_of-result c =
    subst (λ (stamps : List Stamp). IsStamped c.self.inside.plan stamps c.args.journal.items) (sym c.in_ok-stamps.ensures)
    (stamped c.self.inside.plan c.self.inside.stamps c.self.inside.lines.value.items c.args.journal.items c.args.self c.self.view_is c.self.invariant c.requires)

pub returns : goal.returns
returns c =
    ap (λ (stamps : List Stamp). record { plan = c.self.inside.plan; entries = entries_of stamps c.args.journal.items }) c.in_ok-stamps.ensures
    ∙ finished c.self.inside.plan c.self.inside.stamps c.self.inside.lines.value.items c.args.journal.items c.args.self c.self.view_is c.self.invariant c.requires
