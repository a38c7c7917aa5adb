use Rattle.std.proofs.Common.{◌++◌, ◌∷◌, [], Option, sym, ap, ◌∙◌, map, subst}
use Rattle.transcript_log.specs.declared.extras.Extra.{Extra}
use Rattle.transcript_log.specs.Lines.{LinesView}
use Rattle.transcript_log.specs.SmallLines.{line_in, StandsAt, AreKept, IsKept}
use Rattle.transcript_log.proofs.KeptLines.{still_kept, one_line_more}
use Rattle.transcript_log.proofs.lines.Lines.push_reserved.Goals as goal

is_kept : (c : goal.After-push_reserved) → IsKept c.add_extra-at.new.extras.items c.args.line.now c.small_line.result
is_kept c =
    c.small_line.ensures c.add_extra-at.new.extras.items
    (subst (λ (extra : Option Extra). StandsAt c.add_extra-at.new.extras.items c.add_extra-at.result extra) c.extra_of.ensures c.add_extra-at.ensures.place)

pub invariant_of-self : goal.invariant_of-self
invariant_of-self c =
    subst (AreKept c.add_extra-at.new.extras.items) (sym c.push_reserved.ensures.items)
    (still_kept c.self.inside.extras.items c.add_extra-at.new.extras.items c.self.inside.lines.items c.small_line.result c.args.line.now c.self.invariant
    c.add_extra-at.ensures.items (is_kept c) c.line_is.ensures)

pub returns-clause-items : goal.returns-clause-items
returns-clause-items c =
    ap (map (line_in c.add_extra-at.new.extras.items)) c.push_reserved.ensures.items
    ∙ one_line_more c.self.inside.extras.items c.add_extra-at.new.extras.items c.self.inside.lines.items c.small_line.result c.args.line.now c.self.invariant c.add_extra-at.ensures.items (is_kept c)
    ∙ ap (λ (v : LinesView). v.items ++ c.args.line.now ∷ []) c.self.view_is
