use Rattle.std.proofs.Common.{◌<◌, ◌++◌, ◌∷◌, [], Option, length, get_or, sym, ap, ◌∙◌, map, subst, arith}
use Rattle.std.proofs.lemmas.List.{length-map}
use Rattle.event_schedule.specs.declared.Line.{Line}
use Rattle.transcript_log.specs.declared.extras.Extra.{Extra}
use Rattle.transcript_log.specs.Lines.{LinesView}
use Rattle.transcript_log.specs.SmallLines.{line_in, StandsAt, AreKept, IsKept}
use Rattle.event_schedule.specs.Transcripts.{IsLine}
use Rattle.transcript_log.proofs.KeptLines.{still_kept, one_line_more, line_at, line_at_is}
use Rattle.transcript_log.proofs.lines.Lines.push_from.Goals as goal

-- the line that is added
abbrev added : goal.After-push_reserved → Line
added c = line_in c.others.inside.extras.items c.index-line.result.now

is_kept : (c : goal.After-push_reserved) → IsKept c.add_extra-place.new.extras.items (added c) c.moved.result
is_kept c =
    c.moved.ensures c.others.inside.extras.items c.add_extra-place.new.extras.items
    (subst (λ (extra : Option Extra). StandsAt c.add_extra-place.new.extras.items c.add_extra-place.result extra) c.named_in.ensures c.add_extra-place.ensures.place)

within : (c : goal.After-push_reserved) → c.args.at < length c.others.inside.lines.items
within c =
    let whole = ap (λ (v : LinesView). length v.items) c.others.view_is in
    omega (arith, c.requires.within, whole, length-map c.others.inside.lines.items (line_in c.others.inside.extras.items))

is_line : (c : goal.After-push_reserved) → IsLine (added c)
is_line c = line_at_is c.others.inside.extras.items c.others.inside.lines.items c.args.at c.index-line.result.now c.others.invariant (within c) c.index-line.ensures

pub invariant_of-self : goal.invariant_of-self
invariant_of-self c =
    subst (AreKept c.add_extra-place.new.extras.items) (sym c.push_reserved.ensures.items)
    (still_kept c.self.inside.extras.items c.add_extra-place.new.extras.items c.self.inside.lines.items c.moved.result (added c) c.self.invariant
    c.add_extra-place.ensures.items (is_kept c) (is_line c))

pub returns-clause-items : goal.returns-clause-items
returns-clause-items c line =
    ap (map (line_in c.add_extra-place.new.extras.items)) c.push_reserved.ensures.items
    ∙ one_line_more c.self.inside.extras.items c.add_extra-place.new.extras.items c.self.inside.lines.items c.moved.result (added c) c.self.invariant c.add_extra-place.ensures.items (is_kept c)
    ∙ ap (λ (v : LinesView). v.items ++ added c ∷ []) c.self.view_is
    ∙ ap (λ (l : Line). c.args.self.now.items ++ l ∷ [])
    (sym (line_at c.others.inside.extras.items c.others.inside.lines.items c.args.at c.index-line.result.now line (within c) c.index-line.ensures)
    ∙ ap (λ (v : LinesView). get_or v.items c.args.at line) c.others.view_is)
