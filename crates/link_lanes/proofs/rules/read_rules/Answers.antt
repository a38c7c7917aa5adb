use Rattle.std.proofs.Common.{arith, sym, ap, ◌∙◌, lit<, length, take, Some}
use Rattle.std.proofs.lemmas.Iterator.Splits.{YieldsList-from_str_split}
use Rattle.std.proofs.lemmas.Iterator.Consumers.{YieldsList-turn, YieldsList-end}
use Rattle.std.proofs.lemmas.List.{length_push}
use Rattle.field_texts.specs.Parts.{parts}
use Rattle.link_lanes.specs.Texts.{each}
use Rattle.link_lanes.specs.Kinds.{rule_of}
use Rattle.link_lanes.proofs.TextLemmas.{each-next}
use Rattle.link_lanes.proofs.RuleLemmas.{too_many_rules, no_rule, all_rules}
use Rattle.link_lanes.proofs.rules.read_rules.Goals as goal

pub returns-then-len-eq64 : goal.returns-then-len-eq64
returns-then-len-eq64 c =
    let turn = YieldsList-turn (YieldsList-from_str_split {s = c.into_iter-text-iterator.result} 59 c.args.arg.now (lit< tt) (cc) (cc) (cc)) c.loop-text.yielded _ c.loop-text.yielded_by _ _ c.in-Some.text c.in-Some.is c.next.ensures.steps in
    too_many_rules c.args.arg.now (length c.loop-text.rules.items) _ (omega (arith, c.loop-text.rules.ok.0)) (rw (sym c.loop-text.invariant.counted) at turn)

pub returns-in_default : goal.returns-in_default
returns-in_default c =
    let turn = YieldsList-turn (YieldsList-from_str_split {s = c.into_iter-text-iterator.result} 59 c.args.arg.now (lit< tt) (cc) (cc) (cc)) c.loop-text.yielded _ c.loop-text.yielded_by _ _ c.in-Some.text c.in-Some.is c.next.ensures.steps in
    no_rule c.args.arg.now _ _ (rw (sym c.loop-text.invariant.counted) at turn) (sym c.in_default.ensures)

pub loop-text-preserved : goal.loop-text-preserved
loop-text-preserved c =
    let turn = YieldsList-turn (YieldsList-from_str_split {s = c.into_iter-text-iterator.result} 59 c.args.arg.now (lit< tt) (cc) (cc) (cc)) c.loop-text.yielded _ c.loop-text.yielded_by _ _ c.in-Some.text c.in-Some.is c.next.ensures.steps in
    let longer = ap length c.in_ok-push.ensures.items ∙ length_push c.loop-text.rules.items c.in-Some-read_rule.rule in
    record {
      can_next = tt;
      finite = tt;
      counted = omega (arith, longer, length_push c.loop-text.yielded c.in-Some.text);
      few = omega (arith, longer);
      read = ap (λ n. each rule_of (take n (parts 59 c.args.arg.now))) longer ∙ each-next rule_of (parts 59 c.args.arg.now) _ _ _ _ c.loop-text.invariant.read (rw (sym c.loop-text.invariant.counted) at turn) (sym c.in-Some-read_rule.ensures) ∙ ap Some (sym c.in_ok-push.ensures.items);
    }

pub returns : goal.returns
returns c =
    let end = YieldsList-end (YieldsList-from_str_split {s = c.into_iter-text-iterator.result} 59 c.args.arg.now (lit< tt) (cc) (cc) (cc)) c.loop-text.yielded _ c.loop-text.yielded_by _ _ c.in-None.is c.next.ensures.steps in
    all_rules c.args.arg.now _ c.loop-text.invariant.few (omega (arith, end.1)) c.loop-text.invariant.read
