use Rattle.std.proofs.Common.{◌∙◌, ◌≤◌, ◌++◌, [], ◌∷◌, if◌then◌else◌, length, get_or, ap, sym, arith, take_all}
use Rattle.plan_files.specs.Fields.{cut_text_with, state_of}
use Rattle.plan_files.proofs.FieldLemmas.{ends_with_bytes, goes_out, goes_within, quoted_some, quoted_starts}
use Rattle.plan_files.proofs.KeptLemmas.{cut_more, long_if}
use Rattle.plan_files.proofs.fields.read_quoted.Goals as goal

pub loop-at-init : goal.loop-at-init
loop-at-init c = record {
  said = ([], quoted_starts c.args.bytes.now c.requires, c.clear.ensures.items ∙ sym (take_all c.args.most [] (omega arith)), omega arith);
}

pub returns-in-End : goal.returns-in-End
returns-in-End c =
    let said = c.loop-at.invariant.said in record {
      text = said.0;
      field = said.1 ∙ goes_out c.loop-at.place said.0 c.args.bytes.now c.loop-at.at (omega arith) c.in-End.ensures;
      cut = said.2;
      short = let few = said.3 in omega (arith, few);
      inside = omega arith;
    }

pub loop-at-preserved : goal.loop-at-preserved
loop-at-preserved c =
    let said = c.loop-at.invariant.said in
    let byte = get_or c.args.bytes.now c.loop-at.at 0 in
    record {
      said = (
        if c.in-Within.is_text then said.0 ++ (byte ∷ []) else said.0,
        said.1 ∙ goes_within c.loop-at.place c.in-Within.next c.in-Within.is_text said.0 c.args.bytes.now c.loop-at.at (omega arith) c.in-Within.ensures,
        c.in_ok-put_byte-in-Within.ensures ∙ ap (λ t. cut_text_with c.args.most t c.in-Within.is_text byte) said.2 ∙ cut_more c.args.most said.0 c.in-Within.is_text byte,
        long_if c.in-Within.is_text said.0 byte c.loop-at.at said.3,
      );
    }

pub returns : goal.returns
returns c =
    let said = c.loop-at.invariant.said in
    let some = quoted_some c.args.bytes.now c.requires in
    let past : length c.args.bytes.now ≤ c.loop-at.at = omega arith in
    record {
      text = said.0;
      field = said.1 ∙ ends_with_bytes (state_of c.loop-at.place) said.0 c.args.bytes.now c.loop-at.at past;
      cut = said.2;
      short = let few = said.3 in omega (arith, few, some);
      inside = omega arith;
    }
