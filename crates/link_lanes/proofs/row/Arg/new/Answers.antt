use Rattle.std.proofs.Common.{◌∙◌, ap}
use Rattle.std.specs.List.{list_all}
use Rattle.link_lanes.specs.ArgBytes.{is_arg_byte}
use Rattle.link_lanes.proofs.ArgLemmas.{graphic, graphic_is_text}
use Rattle.link_lanes.proofs.row.Arg.new.Goals as goal

pub unreachable-requires : goal.unreachable-requires
unreachable-requires c = c.in_default-from_utf8.ensures.cases.0 (graphic_is_text c.args.text.now (graphic c.args.text.now c.in_default.ensures))

pub invariant_of-result : goal.invariant_of-result
invariant_of-result c =
    ap (list_all is_arg_byte) (c.in_ok-from_str.ensures.ok ∙ c.in-Ok.ensures.cases.0) ∙ graphic c.args.text.now c.in_default.ensures

pub returns : goal.returns
returns c = (c.in_ok-from_str.ensures.ok ∙ c.in-Ok.ensures.cases.0, graphic c.args.text.now c.in_default.ensures)
