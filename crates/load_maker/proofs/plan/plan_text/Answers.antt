use Rattle.std.proofs.Common.{◌∙◌, ◌+◌, ◌++◌, ap, arith}
use Rattle.std.specs.List.{flat_map, range_with_len}
use Rattle.plan_files.specs.MissingKeys.{group_keys}
use Rattle.load_maker.specs.Drawing.{stream_at}
use Rattle.load_maker.specs.Writing.{group_text, keys_text, lane_text, start_text}
use Rattle.load_maker.proofs.MadePlan.{four_parts, plan_written}
use Rattle.load_maker.proofs.SizeLemmas.{limits_of}
use Rattle.load_maker.proofs.plan.plan_text.Goals as goal

pub put_keys-requires-clause-groups : goal.put_keys-requires-clause-groups
put_keys-requires-clause-groups c = (limits_of c.args.size.groups c.args.size.meters c.args.size.rounds c.args.size.within).few_groups

pub put_keys-requires-clause-meters : goal.put_keys-requires-clause-meters
put_keys-requires-clause-meters c = (limits_of c.args.size.groups c.args.size.meters c.args.size.rounds c.args.size.within).few_meters

pub overflow_add-size : goal.overflow_add-size
overflow_add-size c =
    let few = (limits_of c.args.size.groups c.args.size.meters c.args.size.rounds c.args.size.within).few_rounds in
    omega (arith, few)

pub returns : goal.returns
returns c =
    let size = c.args.size in
    let limits = limits_of size.groups size.meters size.rounds size.within in
    let ids = flat_map (λ g. group_keys g size.meters) (range_with_len 0 size.groups) in
    let keys = c.in_ok-put_keys.ensures ∙ ap (λ s. c.put_groups.new.out.items ++ keys_text s ids) c.stream_of-stream.ensures in
    four_parts _ _ _ _ _ (start_text size.rounds) (flat_map (group_text size.meters) (range_with_len 0 size.groups)) (keys_text (stream_at c.args.seed 1 0) ids) (lane_text c.args.seed (size.rounds + 37))
    c.new-out.ensures.items c.in_ok-put_first_rows.ensures c.in_ok-put_groups.ensures keys c.in_ok-put_lane.ensures
    ∙ plan_written c.args.seed size.groups size.meters size.rounds limits.some_round
