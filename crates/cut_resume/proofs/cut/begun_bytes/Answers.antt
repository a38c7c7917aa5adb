use Rattle.std.proofs.Common.{◌≡◌, ◌+◌, ◌-◌, ◌∙◌, arith, ap, length, length-append, sym, take}
use Rattle.transcript_text.specs.Spelling.{ended}
use Rattle.transcript_text.specs.Writing.{begun_text}
use Rattle.cut_resume.specs.Cut.{end_line}
use Rattle.cut_resume.proofs.BegunBytes.{begun_is, long, with_its_end, without_end}
use Rattle.cut_resume.proofs.cut.begun_bytes.Goals as goal

pub slice_bounds-result-count : goal.slice_bounds-result-count
slice_bounds-result-count c =
    let whole = c.whole_lines-whole.ensures in
    let t = c.args.cut.now in
    let end = ended (end_line (length t.entries)) in
    let is = with_its_end c.args.bytes.now t c.whole_lines-whole.result.bytes whole.few whole.bytes c.requires (sym whole.ended ∙ c.if-whole.true) in
    let all = long c.args.bytes.now (begun_text t.plan t.entries) end c.whole_lines-whole.result.bytes whole.within is in
    let count : c.end_len-end.result ≡ length end = c.end_len-end.ensures ∙ ap (λ n. length (ended (end_line n))) c.len-entries.ensures.len in
    omega (arith, all, count)

pub returns-then-whole : goal.returns-then-whole
returns-then-whole c =
    let whole = c.whole_lines-whole.ensures in
    let t = c.args.cut.now in
    let end = ended (end_line (length t.entries)) in
    let is = with_its_end c.args.bytes.now t c.whole_lines-whole.result.bytes whole.few whole.bytes c.requires (sym whole.ended ∙ c.if-whole.true) in
    let count : c.end_len-end.result ≡ length end = c.end_len-end.ensures ∙ ap (λ n. length (ended (end_line n))) c.len-entries.ensures.len in
    ap (λ n. take (c.whole_lines-whole.result.bytes - n) c.args.bytes.now) count ∙ begun_is c.args.bytes.now (begun_text t.plan t.entries) end c.whole_lines-whole.result.bytes whole.within is

pub returns : goal.returns
returns c =
    let whole = c.whole_lines-whole.ensures in
    without_end c.args.bytes.now c.args.cut.now c.whole_lines-whole.result.bytes whole.few whole.bytes c.requires (omega (arith, c.len-entries.ensures.len, c.len-entries.ensures.few)) (sym whole.ended ∙ c.if-whole.false)
