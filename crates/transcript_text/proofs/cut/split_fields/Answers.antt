use Rattle.std.proofs.Common.{rules, arith, sym, ◌∙◌, [], append-nil}
use Rattle.field_texts.specs.Parts.{parts}
use Rattle.transcript_text.proofs.Cutting.{goes_on, long_parts}
use Rattle.transcript_text.proofs.cut.split_fields.Goals as goal

pub returns-in-None : goal.returns-in-None
returns-in-None c =
    let s = c.loop-i.invariant in
    (sym (goes_on c.loop-i.at c.loop-i.i c.loop-i.rest (parts 44 c.args.line.now) _ [] (omega (arith, s.long)) s.so_far c.in-None.ensures ∙ append-nil _), record { count = omega arith; room = search rules })

pub loop-i-preserved : goal.loop-i-preserved
loop-i-preserved c =
    let s = c.loop-i.invariant in
    record {
      long = search rules;
      so_far = goes_on c.loop-i.at c.loop-i.i c.in-Some.field (parts 44 c.args.line.now) _ _ (omega (arith, s.long)) s.so_far c.in-Some.ensures.0;
    }

pub returns : goal.returns
returns c =
    let s = c.loop-i.invariant in
    long_parts c.loop-i.at c.loop-i.rest.now (parts 44 c.args.line.now) s.long c.loop-i.i (omega arith) s.so_far
