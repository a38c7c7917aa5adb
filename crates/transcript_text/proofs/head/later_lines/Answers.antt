use Rattle.std.proofs.Common.{rules, arith, sym, ap, ◌∙◌, ◌≡◌, ◌++◌, ◌∷◌, [], Ok, None}
use Rattle.field_texts.specs.Parts.{parts}
use Rattle.transcript_text.proofs.Failing.{failed}
use Rattle.transcript_text.proofs.HeadLoop.{begins, group_more, last_more, member_more, no_newline, row_wrong, stated_group, stated_member}
use Rattle.transcript_text.proofs.head.later_lines.Goals as goal

pub loop-line-preserved-in-Ok-Group : goal.loop-line-preserved-in-Ok-Group
loop-line-preserved-in-Ok-Group c =
    let s = c.loop-line.invariant in
    let i : c.push.new.self.items ≡ c.loop-line.groups.items ++ c.in-Ok-Group.group ∷ [] = search rules in
    let d : c.deref.result.now ≡ c.loop-line.groups.items = c.deref.ensures.value in
    let is = rw d at (sym (ap Ok c.in-Ok-Group.field-0-is) ∙ c.in-Ok-Group.ensures) in
    record {
      few = omega (arith, s.few, c.in-Some.ensures.1);
      last = s.last;
      stated = rw i (stated_group c.args.version c.loop-line.n c.args.start.rounds c.loop-line.groups.items c.loop-line.last c.loop-line.spans.items (parts 44 c.in-Some.line.now) c.in-Ok-Group.group is s.last);
      so_far = rw i (group_more c.args.version c.args.start c.loop-line.n c.loop-line.last c.loop-line.groups.items c.loop-line.spans.items c.in-Some.line.now c.in-Some.after.now c.loop-line.rest.now _ c.in-Some.ensures.0 s.so_far c.in-Ok-Group.group is);
    }

pub loop-line-preserved : goal.loop-line-preserved
loop-line-preserved c =
    let s = c.loop-line.invariant in
    let i : c.push-in-Ok-Member.new.self.items ≡ c.loop-line.spans.items ++ c.in-Ok-Member.span ∷ [] = search rules in
    let d : c.deref.result.now ≡ c.loop-line.groups.items = c.deref.ensures.value in
    let is = rw d at (sym (ap Ok c.in-Ok-Member.field-0-is) ∙ c.in-Ok-Member.ensures) in
    record {
      few = omega (arith, s.few, c.in-Some.ensures.1);
      last = rw i (sym (last_more None c.loop-line.spans.items c.in-Ok-Member.span));
      stated = rw i (stated_member c.args.version c.loop-line.n c.args.start.rounds c.loop-line.groups.items c.loop-line.last c.loop-line.spans.items (parts 44 c.in-Some.line.now) c.in-Ok-Member.span is s.last s.stated);
      so_far = rw i (member_more c.args.version c.args.start c.loop-line.n c.loop-line.last c.loop-line.groups.items c.loop-line.spans.items c.in-Some.line.now c.in-Some.after.now c.loop-line.rest.now _ c.in-Some.ensures.0 s.so_far c.in-Ok-Member.span is);
    }

pub returns-in-Ok-Begin-clause-given : goal.returns-in-Ok-Begin-clause-given
returns-in-Ok-Begin-clause-given c =
    let s = c.loop-line.invariant in
    let d : c.deref.result.now ≡ c.loop-line.groups.items = c.deref.ensures.value in
    let is = rw d at (sym (ap Ok c.in-Ok-Begin.field-0-is) ∙ c.in-Ok-Begin.ensures) in
    let whole = begins c.args.version c.args.start c.loop-line.n c.loop-line.last c.loop-line.groups.items c.loop-line.spans.items c.in-Some.line.now c.in-Some.after.now c.loop-line.rest.now _ c.in-Some.ensures.0 s.so_far is in
    rw whole (rw (c.deref-in-Ok-Begin.ensures.value, c.deref-in-Ok-Begin-2.ensures.value) at c.begin.ensures.given)

pub returns-in-Err-clause-given : goal.returns-in-Err-clause-given
returns-in-Err-clause-given c =
    let s = c.loop-line.invariant in
    let d : c.deref.result.now ≡ c.loop-line.groups.items = c.deref.ensures.value in
    failed c.in-Err.fault _ (row_wrong c.args.version c.args.start c.loop-line.n c.loop-line.last c.loop-line.groups.items c.loop-line.spans.items c.in-Some.line.now c.in-Some.after.now c.loop-line.rest.now _ c.in-Some.ensures.0 s.so_far c.in-Err.fault (rw d at c.in-Err.ensures))

pub returns-clause-given : goal.returns-clause-given
returns-clause-given c =
    no_newline c.args.version c.args.start c.loop-line.n c.loop-line.last c.loop-line.groups.items c.loop-line.spans.items c.loop-line.rest.now _ (rw c.in_default.is at c.cut_far.ensures) c.loop-line.invariant.so_far
