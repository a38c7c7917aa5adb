use Rattle.std.proofs.Common.{◌≡◌, true, false, List, replicate, take, get_or, refl, sym, ap, ◌∙◌, subst, rules, arith}
use Rattle.std.proofs.lemmas.List.{take_more, take_all}
use Rattle.group_plan.specs.Plans.{all_meters}
use Rattle.group_plan.specs.NewPlans.{whole}
use Rattle.group_plan.specs.declared.plan.members.Span.{Span}
use Rattle.group_plan.specs.Spans.{AreGiven}
use Rattle.group_plan.proofs.Kept.{limits_of, all_is}
use Rattle.group_plan.proofs.Members.{AreMarked, mark_is, fault_range, fault_twice, fault_more, fault_end, few_spans, none_marked, none_given, one_marked, one_given}
use Rattle.group_plan.proofs.plan.Plan.spans_given.Goals as goal

abbrev nowhere : Span
nowhere = record { group = 0; meter = 0; from = 0; until = 0 }

pub loop-at-init : goal.loop-at-init
loop-at-init c =
    let within = limits_of c.self.inside c.args.self.now c.self.invariant c.self.view_is in
    let meters : c.len.result ≡ all_meters c.args.self.now.groups = omega (arith, c.len.ensures, all_is c.self.inside c.args.self.now c.self.invariant c.self.view_is) in
    let meters2 : c.len-2.result ≡ all_meters c.args.self.now.groups = omega (arith, c.len-2.ensures, all_is c.self.inside c.args.self.now c.self.invariant c.self.view_is) in
    let marks : c.in_ok-given.given.items ≡ replicate c.len.result false = search rules in
    record {
      unfaulted = refl;
      marked = subst (AreMarked c.args.self.now (let none : List Span = take 0 c.args.spans.now in none)) (sym (marks ∙ ap (λ n. replicate n false) meters)) (none_marked c.args.self.now);
      placed = subst (AreGiven c.args.self.now (let none : List Span = take 0 c.args.spans.now in none)) (sym (c.in_ok-kept.ensures ∙ ap (λ n. replicate n (whole c.self.inside.rounds)) meters2 ∙ ap (λ v. replicate (all_meters c.args.self.now.groups) (whole v.rounds)) c.self.view_is)) (none_given c.args.self.now within.some_round);
    }

pub overflow_cast-result : goal.overflow_cast-result
overflow_cast-result c = omega (arith, few_spans c.args.self.now c.args.spans.now c.loop-at.at c.loop-at.given.items (limits_of c.self.inside c.args.self.now c.self.invariant c.self.view_is) c.loop-at.invariant.marked c.loop-at.auto.at-end)

pub overflow_cast-result-then-index : goal.overflow_cast-result-then-index
overflow_cast-result-then-index c = omega (arith, few_spans c.args.self.now c.args.spans.now c.loop-at.at c.loop-at.given.items (limits_of c.self.inside c.args.self.now c.self.invariant c.self.view_is) c.loop-at.invariant.marked c.loop-at.auto.at-end)

pub returns-then-not-has_span : goal.returns-then-not-has_span
returns-then-not-has_span c =
    sym c.loop-at.invariant.unfaulted ∙ fault_range c.args.self.now c.args.spans.now c.loop-at.at nowhere (omega arith) (sym c.if-not-has_span.ensures)

pub returns-then-index : goal.returns-then-index
returns-then-index c =
    let mark = mark_is c.args.self.now (take c.loop-at.at c.args.spans.now) c.loop-at.given.items (get_or c.args.spans.now c.loop-at.at nowhere) c.number_of_span-meter.result c.loop-at.invariant.marked (sym c.if-not-has_span.ensures) c.number_of_span-meter.ensures.at true (subst (λ b. b ≡ get_or c.loop-at.given.items c.number_of_span-meter.result b) c.if-index.true c.index.ensures) in
    sym c.loop-at.invariant.unfaulted ∙ fault_twice c.args.self.now c.args.spans.now c.loop-at.at nowhere (omega arith) (sym c.if-not-has_span.ensures) mark.1

pub loop-at-preserved : goal.loop-at-preserved
loop-at-preserved c =
    let span : Span = get_or c.args.spans.now c.loop-at.at nowhere in
    let before : List Span = take c.loop-at.at c.args.spans.now in
    let mark = mark_is c.args.self.now before c.loop-at.given.items span c.number_of_span-meter.result c.loop-at.invariant.marked (sym c.if-not-has_span.ensures) c.number_of_span-meter.ensures.at false (subst (λ b. b ≡ get_or c.loop-at.given.items c.number_of_span-meter.result b) c.if-index.false c.index.ensures) in
    let more = take_more c.args.spans.now c.loop-at.at nowhere (omega arith) in
    record {
      unfaulted = sym (fault_more c.args.self.now c.args.spans.now c.loop-at.at nowhere (omega arith) (sym c.if-not-has_span.ensures) mark.1) ∙ c.loop-at.invariant.unfaulted;
      marked = rw more (one_marked c.args.self.now before c.loop-at.given.items span c.number_of_span-meter.result c.loop-at.invariant.marked (sym c.if-not-has_span.ensures) mark.0 c.number_of_span-meter.ensures.at);
      placed = rw (more, c.rounds.ensures) (one_given c.args.self.now before c.loop-at.kept.items span c.number_of_span-meter.result c.loop-at.invariant.placed (sym c.if-not-has_span.ensures) mark.1 c.number_of_span-meter.ensures.at);
    }

pub returns : goal.returns
returns c =
    (sym c.loop-at.invariant.unfaulted ∙ fault_end c.args.self.now c.args.spans.now c.loop-at.at (omega arith), subst (λ before. AreGiven c.args.self.now before c.loop-at.kept.items) (take_all c.loop-at.at c.args.spans.now (omega arith)) c.loop-at.invariant.placed)
