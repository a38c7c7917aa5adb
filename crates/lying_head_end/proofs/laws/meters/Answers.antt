use Rattle.std.proofs.lemmas.List.Elements.{recursion_from_All}
use Rattle.lying_head_end.specs.Meters.{MarksReading}
use Rattle.lying_head_end.proofs.MeterLemmas.{answers_its_set}
use Rattle.lying_head_end.proofs.laws.meters.Goals as goal

pub returns : goal.returns
returns c = λ s g i rounds calls t marks. answers_its_set s g i rounds calls t (recursion_from_All (MarksReading s g i) calls marks)
