use Rattle.link_lanes.proofs.FitLemmas.{refused_argument}
use Rattle.link_lanes.proofs.cupboard.fit_row.Goals as goal

pub returns-in-Err-Refused-clause-ends : goal.returns-in-Err-Refused-clause-ends
returns-in-Err-Refused-clause-ends g c =
    refused_argument _ _ _ _ _ c.args.left.now.items c.deref.result.now c.in-Some.at c.remove-lane.result c.in-Some.ensures.1 c.bytes.ensures.bytes c.deref.ensures.value c.remove-lane.ensures.value c.text.ensures.value (rw c.in-Err-Refused.field-0-is at c.in-Err-Refused.ensures).0
