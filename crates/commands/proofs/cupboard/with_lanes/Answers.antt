use Rattle.std.proofs.Common.{[], ◌++◌, ◌∙◌, ap, map, None, arith}
use Rattle.std.specs.Prelude.{string_bytes}
use Rattle.link_lanes.specs.Kinds.{clear_by, rules_by, seeded_by, every_by, burst_by}
use Rattle.link_lanes.specs.MadeLanes.{clear_lane, rules_lane, seeded_lane, every_lane, burst_lane}
use Rattle.commands.specs.Cupboard.{four}
use Rattle.command_words.specs.Words.{command_of}
use Rattle.commands.specs.Outside.{with_wire}
use Rattle.commands.proofs.CupboardLemmas.{boxed, one_more, ends_with_full, done_with_full}
use Rattle.commands.proofs.MadePlanLemmas.{made_files_are_done, made_plans_get_lanes}
use Rattle.commands.proofs.cupboard.with_lanes.OwnLists.{own-1}
use Rattle.commands.proofs.cupboard.with_lanes.Goals as goal

pub loop-preserved : goal.loop-preserved
loop-preserved g c =
    one_more _ [] (clear_by 0) _ _ _ _ c.loop.invariant c.in_ok-push.ensures.items
    (boxed own-1 _ _ c.into_dyn_box.ensures.0 _ _ c.into_dyn_box.ensures.1.codes ∙ ap clear_lane c.in_ok-new.ensures.ok ∙ c.new.ensures)

pub loop-2-preserved : goal.loop-2-preserved
loop-2-preserved g c =
    one_more _ (four (clear_by 0)) (rules_by 0 None) _ _ _ _ c.loop-2.invariant c.in_ok-push-2.ensures.items
    (boxed own-1 _ _ c.into_dyn_box-in_ok-new-2.ensures.0 _ _ c.into_dyn_box-in_ok-new-2.ensures.1.codes ∙ ap rules_lane c.in_ok-new-2.ensures.ok ∙ c.new-in-loop-2.ensures)

pub loop-3-preserved : goal.loop-3-preserved
loop-3-preserved g c =
    one_more _ (four (clear_by 0) ++ four (rules_by 0 None)) (seeded_by 0 None) _ _ _ _ c.loop-3.invariant c.in_ok-push-3.ensures.items
    (boxed own-1 _ _ c.into_dyn_box-in_ok-new-3.ensures.0 _ c.in_ok-new-3.field-0.value c.into_dyn_box-in_ok-new-3.ensures.1.codes ∙ ap seeded_lane c.in_ok-new-3.ensures.ok ∙ c.new-in-loop-3.ensures)

pub loop-4-preserved : goal.loop-4-preserved
loop-4-preserved g c =
    one_more _ (four (clear_by 0) ++ four (rules_by 0 None) ++ four (seeded_by 0 None)) (every_by 0 None) _ _ _ _ c.loop-4.invariant c.in_ok-push-4.ensures.items
    (boxed own-1 _ _ c.into_dyn_box-in_ok-new-4.ensures.0 _ _ c.into_dyn_box-in_ok-new-4.ensures.1.codes ∙ ap every_lane c.in_ok-new-4.ensures.ok ∙ c.new-in-loop-4.ensures)

pub loop-5-preserved : goal.loop-5-preserved
loop-5-preserved g c =
    one_more _ (four (clear_by 0) ++ four (rules_by 0 None) ++ four (seeded_by 0 None) ++ four (every_by 0 None)) (burst_by 0 None) _ _ _ _ c.loop-5.invariant c.in_ok-push-5.ensures.items
    (boxed own-1 _ _ c.into_dyn_box-in_ok-new-5.ensures.0 _ _ c.into_dyn_box-in_ok-new-5.ensures.1.codes ∙ ap burst_lane c.in_ok-new-5.ensures.ok ∙ c.new-in-loop-5.ensures)

pub returns-clause-ends : goal.returns-clause-ends
returns-clause-ends g c =
    ends_with_full _ _ (command_of (map string_bytes c.args.words.now)) _ _ _ _ _ c.loop-5.invariant (omega arith) c.meteragg.ensures.ends

pub returns-clause-accepted : goal.returns-clause-accepted
returns-clause-accepted g c =
    done_with_full _ _ (command_of (map string_bytes c.args.words.now)) _ (with_wire (g.D.Desk.view c.meteragg.new.outside.desk) _) _ _ _ c.loop-5.invariant (omega arith) c.meteragg.ensures.accepted

pub returns-clause-lanes : goal.returns-clause-lanes
returns-clause-lanes g c =
    made_plans_get_lanes (command_of (map string_bytes c.args.words.now)) _ _ _ _ _
    (ends_with_full _ _ (command_of (map string_bytes c.args.words.now)) _ _ _ _ _ c.loop-5.invariant (omega arith) c.meteragg.ensures.ends)

pub returns-clause-made : goal.returns-clause-made
returns-clause-made g c =
    made_files_are_done (command_of (map string_bytes c.args.words.now)) _ (with_wire (g.D.Desk.view c.meteragg.new.outside.desk) _) _ _ _
    (done_with_full _ _ (command_of (map string_bytes c.args.words.now)) _ (with_wire (g.D.Desk.view c.meteragg.new.outside.desk) _) _ _ _ c.loop-5.invariant (omega arith) c.meteragg.ensures.accepted)
