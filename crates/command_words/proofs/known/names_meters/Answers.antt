use Rattle.std.proofs.Common.{sym, ap, ◌∙◌}
use Rattle.std.specs.Prelude.{is_some}
use Rattle.command_words.proofs.KnownLemmas.{ascending-step, ascending-bad, ascending-end, known-ascends}
use Rattle.command_words.proofs.known.names_meters.Goals as goal

pub returns-in_default-read_after : goal.returns-in_default-read_after
returns-in_default-read_after c =
    sym (ap is_some (known-ascends c.args.word.now (sym c.if-eq.ensures)) ∙ sym c.loop-part.invariant
    ∙ ascending-bad c.loop-part.last c.loop-part.rest.now c.in-Some.part.now c.in-Some.after.now c.in-Some.ensures.0 c.in_default-read_after.ensures)

pub loop-part-preserved : goal.loop-part-preserved
loop-part-preserved c =
    sym (ascending-step c.loop-part.last c.loop-part.rest.now c.in-Some.part.now c.in-Some.after.now c.in-Some-read_after.meter c.in-Some.ensures.0 c.in-Some-read_after.ensures)
    ∙ c.loop-part.invariant

pub returns : goal.returns
returns c =
    c.is_some.ensures ∙ ap is_some c.read_after-2.ensures ∙ sym (ascending-end c.loop-part.last c.loop-part.rest.now c.in_default.ensures)
    ∙ c.loop-part.invariant ∙ sym (ap is_some (known-ascends c.args.word.now (sym c.if-eq.ensures)))
