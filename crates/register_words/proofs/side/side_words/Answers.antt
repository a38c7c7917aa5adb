use Rattle.std.proofs.Common.{◌≡◌, ◌∙◌, ◌+◌, ◌-◌, ◌++◌, [], Option, IfSome, arith, ap, sym, subst}
use Rattle.group_plan.specs.Plans.{PlanView}
use Rattle.meter_frames.specs.declared.Frame.{Frame}
use Rattle.pair_keys.specs.Keys.{table_of}
use Rattle.event_schedule.specs.Events.{lines_of}
use Rattle.transcript_text.specs.EntryLines.{entry_line, head_lines}
use Rattle.register_words.specs.SideParts.{FitsFrame}
use Rattle.register_words.specs.Sides.{and_rows, side_rows}
use Rattle.register_words.proofs.SideLemmas.{rows_done, rows_next, some_fits}
use Rattle.register_words.proofs.side.side_words.Goals as goal

pub put_row-requires-clause-fits : goal.put_row-requires-clause-fits
put_row-requires-clause-fits g c =
    let lt = c.loop-at-test.true in
    let len = c.len-count.ensures.len in
    subst (λ (p : PlanView). IfSome c.side_frame.result (λ (f : Frame). FitsFrame p f)) (sym c.requires.tables)
    (some_fits c.args.transcript.now c.loop-at.at c.entry-entry.result c.side_frame.result c.len-count.ensures.sound (omega (arith, lt, len)) c.entry-entry.ensures c.side_frame.ensures)

pub loop-at-preserved : goal.loop-at-preserved
loop-at-preserved g c =
    let registers = c.args.tables.now in
    let keys = table_of c.args.keys.now in
    let first = c.entry_line.result - c.len-count.result in
    let at = c.loop-at.at in
    let lt = c.loop-at-test.true in
    let len = c.len-count.ensures.len in (
      c.in_ok-put_row.ensures.ready,
      rows_next registers keys first at c.args.transcript.now.entries c.entry-entry.result c.loop-at.rows.items c.put_row.new.rows.items _ (omega (arith, lt, len)) c.entry-entry.ensures
          (c.in_ok-put_row.ensures.rows ∙ ap (λ (f : Option Frame). c.loop-at.rows.items ++ and_rows registers keys (first + at) f []) c.side_frame.ensures) c.loop-at.invariant.1,
    )

pub returns : goal.returns
returns g c =
    let registers = c.args.tables.now in
    let keys = table_of c.args.keys.now in
    let t = c.args.transcript.now in
    let first = c.entry_line.result - c.len-count.result in
    let over = c.loop-at-test.false in
    let len = c.len-count.ensures.len in
    let number = c.entry_line.ensures.number in
    let heads : head_lines c.plan.result.now ≡ head_lines t.plan = ap head_lines c.plan.ensures in
    let begun : first ≡ entry_line t.plan 0 = omega (arith, number, heads) in
    c.of.ensures ∙ rows_done registers keys first c.loop-at.at t.entries c.loop-at.rows.items _ (omega (arith, over, len)) c.loop-at.invariant.1
    ∙ ap (λ n. side_rows registers keys n (lines_of t.entries)) begun
