use Rattle.std.proofs.Common.{◌≤◌, ℕ, Bool, true, false, cond, sym, ◌∙◌, arith}
use Rattle.cut_resume.proofs.WholeLines.{after_more, bytes_are, ended_more, last_more}
use Rattle.cut_resume.proofs.cut.each_line.Goals as goal

few : (q : Bool) → cond {A = ℕ} q 1 0 ≤ 1
few true = omega arith
few false = omega arith

pub loop-line-preserved : goal.loop-line-preserved
loop-line-preserved c =
    let s = c.loop-line.invariant in
    let cut = c.in-Some.ensures in
    let rest = c.loop-line.rest.now in
    let line = c.in-Some.line.now in
    let after = c.in-Some.after.now in
    let seen = c.loop-line.seen in
    let new = c.see-seen.result in
    record {
      few = omega (arith, s.few, cut.1, c.see-seen.ensures.after_begin, few seen.is_begun);
      last = sym (last_more rest line after cut.0) ∙ s.last;
      ended = ended_more rest line after cut.0 seen.is_ended new.is_ended c.see-seen.ensures.ended ∙ s.ended;
      after = after_more rest line after cut.0 seen.is_begun new.is_begun seen.after_begin new.after_begin c.see-seen.ensures.begun c.see-seen.ensures.after_begin ∙ s.after;
    }

pub returns-clause-bytes : goal.returns-clause-bytes
returns-clause-bytes c = bytes_are c.args.text.now c.loop-line.rest.now (rw c.in_default.is at c.cut_far.ensures) c.loop-line.invariant.last
