use Rattle.std.proofs.Common.{◌≡◌, ◌<◌, ◌+◌, List, length, get_or, sym, ap, ◌∙◌, subst}
use Rattle.std.proofs.lemmas.Iterator.Adapters.{YieldsList-from_vec}
use Rattle.std.proofs.lemmas.Iterator.Consumers.{YieldsList-turn, YieldsList-end}
use Rattle.shared_book.specs.Ends.{view}
use Rattle.tick_run.specs.declared.running.Group.{Group}
use Rattle.tick_run.specs.Sharing.{IsSplit, JoinsGroups}
use Rattle.tick_run.proofs.FirstLemmas.{map-same}
use Rattle.tick_run.proofs.JoinLemmas.{joins-none, joins-next}
use Rattle.tick_run.proofs.finished.join_all.Goals as goal

pub loop-group-init : goal.loop-group-init
loop-group-init c = record {
  can_next = tt;
  finite = tt;
  pass = c.requires.pass;
  joins = joins-none (length c.args.groups.items) (view c.args.first.now) c.requires.leads;
}

pub join-requires-clause-passes : goal.join-requires-clause-passes
join-requires-clause-passes c =
    let groups : List Group = c.args.groups.items in
    let at = c.into_iter-group-iterator.ensures.into_iter_gives in
    let turn = YieldsList-turn (YieldsList-from_vec {s = c.into_iter-group-iterator.result} groups at.0 (at.1 ∙ c.args.groups.ok.0)) c.loop-group.yielded c.loop-group.group-iterator c.loop-group.yielded_by c.next.result c.next.new.self c.in-Some.group c.in-Some.is c.next.ensures.steps in
    (c.loop-group.invariant.pass, (subst (λ (x : Group). IsSplit c.args.shared.now (length c.loop-group.yielded) x.pass) (sym turn.1) (c.requires.groups (length c.loop-group.yielded) c.in-Some.group turn.0)).of)

pub loop-group-preserved : goal.loop-group-preserved
loop-group-preserved c =
    let groups : List Group = c.args.groups.items in
    let at = c.into_iter-group-iterator.ensures.into_iter_gives in
    let turn = YieldsList-turn (YieldsList-from_vec {s = c.into_iter-group-iterator.result} groups at.0 (at.1 ∙ c.args.groups.ok.0)) c.loop-group.yielded c.loop-group.group-iterator c.loop-group.yielded_by c.next.result c.next.new.self c.in-Some.group c.in-Some.is c.next.ensures.steps in
    let split = subst (λ (x : Group). IsSplit c.args.shared.now (length c.loop-group.yielded) x.pass) (sym turn.1) (c.requires.groups (length c.loop-group.yielded) c.in-Some.group turn.0) in record {
      can_next = tt;
      finite = tt;
      pass = c.join.ensures.pass;
      joins = joins-next (length groups) c.loop-group.yielded c.in-Some.group (view c.loop-group.first) (view c.join.new.pass) c.loop-group.invariant.joins split.number c.join.ensures.ends;
    }

pub returns-clause-joins : goal.returns-clause-joins
returns-clause-joins c =
    let groups : List Group = c.args.groups.items in
    let at = c.into_iter-group-iterator.ensures.into_iter_gives in
    let end = YieldsList-end (YieldsList-from_vec {s = c.into_iter-group-iterator.result} groups at.0 (at.1 ∙ c.args.groups.ok.0)) c.loop-group.yielded c.loop-group.group-iterator c.loop-group.yielded_by c.next.result c.next.new.self c.in-None.is c.next.ensures.steps in
    subst (λ (gs : List Group). JoinsGroups (length groups) gs (view c.loop-group.first)) (sym (map-same c.loop-group.yielded) ∙ end.0) c.loop-group.invariant.joins
