use Rattle.std.proofs.Common.{◌∙◌, ap, arith}
use Rattle.transcript_text.specs.Spelling.{transcript_text}
use Rattle.command_texts.proofs.PublicLemmas.{cut_out, long_enough, text_made}
use Rattle.command_texts.proofs.public.public_text.Goals as goal

pub head_rows-requires : goal.head_rows-requires
head_rows-requires c =
    let long = long_enough c.deref.result.now c.args.plan.now (c.deref.ensures.value ∙ (c.in_ok-transcript.ensures.text ∙ ap transcript_text c.in_ok-empty.ensures)) in
    omega (arith, long)

pub returns : goal.returns
returns c =
    let cut = cut_out c.deref.result.now c.args.plan.now (c.deref.ensures.value ∙ (c.in_ok-transcript.ensures.text ∙ ap transcript_text c.in_ok-empty.ensures)) in
    text_made c.args.plan.now c.new-text.result.items c.head_rows.result.now c.extend_from_slice-2.new.self.items c.extend_from_slice.new.self.items
    c.new-text.ensures.items c.in_ok-extend_from_slice.ensures.items c.in_ok-extend_from_slice-2.ensures.items (c.head_rows.ensures ∙ cut)
