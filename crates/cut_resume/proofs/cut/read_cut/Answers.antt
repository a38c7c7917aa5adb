use Rattle.std.proofs.Common.{◌≡◌, ◌++◌, sym, ap, ◌∙◌, subst, take, IfOk}
use Rattle.transcript_text.specs.declared.version.Version.TheVariants.{Two}
use Rattle.transcript_text.specs.Heads.{read_of}
use Rattle.transcript_text.specs.Spelling.{ended, transcript_text}
use Rattle.cut_resume.specs.Cut.{CutEnds, HasEnd, after_begin, completed, end_line, whole_lines}
use Rattle.cut_resume.proofs.Ended.{completed_ends, is_ended, is_more}
use Rattle.cut_resume.proofs.cut.read_cut.Goals as goal

pub read_ended-requires-clause-ended : goal.read_ended-requires-clause-ended
read_ended-requires-clause-ended g c κs within =
    let whole = c.whole_lines-whole.ensures in
    let is : completed c.args.bytes.now ≡ take c.whole_lines-whole.result.bytes c.args.bytes.now = is_ended c.args.bytes.now whole.few (sym whole.ended ∙ c.if-whole.true) ∙ sym whole.bytes in
    subst HasEnd is (completed_ends c.args.bytes.now whole.few)

pub returns-then-whole-clause-exact : goal.returns-then-whole-clause-exact
returns-then-whole-clause-exact g c =
    let whole = c.whole_lines-whole.ensures in
    let is : completed c.args.bytes.now ≡ take c.whole_lines-whole.result.bytes c.args.bytes.now = is_ended c.args.bytes.now whole.few (sym whole.ended ∙ c.if-whole.true) ∙ sym whole.bytes in
    subst (λ text. CutEnds c.read_ended.result (read_of Two text)) (sym is) c.read_ended.ensures.exact

pub read_ended-requires-2-clause-ended : goal.read_ended-requires-2-clause-ended
read_ended-requires-2-clause-ended g c κs within =
    let whole = c.whole_lines-whole.ensures in
    let last : end_line c.whole_lines-whole.result.after_begin ≡ end_line (after_begin (whole_lines c.args.bytes.now)) = ap end_line (whole.after_begin c.if-whole.false) in
    let is : completed c.args.bytes.now ≡ c.deref.result.now
    = is_more c.args.bytes.now whole.few (sym whole.ended ∙ c.if-whole.false) ∙ sym (ap (λ l. l ++ ended (end_line (after_begin (whole_lines c.args.bytes.now)))) whole.bytes)
    ∙ sym (ap (λ l. take c.whole_lines-whole.result.bytes c.args.bytes.now ++ ended l) last) ∙ sym c.in_ok-text.ensures ∙ sym c.deref.ensures.value in
    subst HasEnd is (completed_ends c.args.bytes.now whole.few)

pub returns-clause-exact : goal.returns-clause-exact
returns-clause-exact g c =
    let whole = c.whole_lines-whole.ensures in
    let last : end_line c.whole_lines-whole.result.after_begin ≡ end_line (after_begin (whole_lines c.args.bytes.now)) = ap end_line (whole.after_begin c.if-whole.false) in
    let is : completed c.args.bytes.now ≡ c.deref.result.now
    = is_more c.args.bytes.now whole.few (sym whole.ended ∙ c.if-whole.false) ∙ sym (ap (λ l. l ++ ended (end_line (after_begin (whole_lines c.args.bytes.now)))) whole.bytes)
    ∙ sym (ap (λ l. take c.whole_lines-whole.result.bytes c.args.bytes.now ++ ended l) last) ∙ sym c.in_ok-text.ensures ∙ sym c.deref.ensures.value in
    subst (λ text. CutEnds c.read_ended-2.result (read_of Two text)) (sym is) c.read_ended-2.ensures.exact

pub returns-then-whole-clause-found : goal.returns-then-whole-clause-found
returns-then-whole-clause-found g c =
    let whole = c.whole_lines-whole.ensures in
    let is : completed c.args.bytes.now ≡ take c.whole_lines-whole.result.bytes c.args.bytes.now = is_ended c.args.bytes.now whole.few (sym whole.ended ∙ c.if-whole.true) ∙ sym whole.bytes in
    subst (λ text. IfOk c.read_ended.result (λ t. text ≡ transcript_text t)) (sym is) c.read_ended.ensures.found

pub returns-clause-found : goal.returns-clause-found
returns-clause-found g c =
    let whole = c.whole_lines-whole.ensures in
    let last : end_line c.whole_lines-whole.result.after_begin ≡ end_line (after_begin (whole_lines c.args.bytes.now)) = ap end_line (whole.after_begin c.if-whole.false) in
    let is : completed c.args.bytes.now ≡ c.deref.result.now
    = is_more c.args.bytes.now whole.few (sym whole.ended ∙ c.if-whole.false) ∙ sym (ap (λ l. l ++ ended (end_line (after_begin (whole_lines c.args.bytes.now)))) whole.bytes)
    ∙ sym (ap (λ l. take c.whole_lines-whole.result.bytes c.args.bytes.now ++ ended l) last) ∙ sym c.in_ok-text.ensures ∙ sym c.deref.ensures.value in
    subst (λ text. IfOk c.read_ended-2.result (λ t. text ≡ transcript_text t)) (sym is) c.read_ended-2.ensures.found
