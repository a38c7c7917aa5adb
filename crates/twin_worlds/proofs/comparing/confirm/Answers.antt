use Rattle.std.proofs.Common.{◌∙◌, ap}
use Rattle.transcript_text.specs.EntryLines.{entry_line}
use Rattle.twin_worlds.proofs.CompareLemmas.{first-other}
use Rattle.twin_worlds.proofs.comparing.confirm.Goals as goal

pub returns-in-Some : goal.returns-in-Some
returns-in-Some g c =
    let known = c.args.world.now.known in (
      c.in-Some.at,
      c.entry_line.ensures.number ∙ ap (λ p. entry_line p c.in-Some.at) c.plan.ensures,
      first-other known.readings.now (g.M.Masks.table known.masks.now) c.args.transcript.now c.in-Some.at c.entry-entry.result c.line_at.result c.in-Some.ensures.place c.entry-entry.ensures c.line_at.ensures,
    )
