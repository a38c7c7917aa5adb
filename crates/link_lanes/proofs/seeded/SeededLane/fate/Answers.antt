use Rattle.std.proofs.Common.{arith, ap}
use Rattle.link_lanes.proofs.seeded.SeededLane.fate.Goals as goal

pub four_words-words-requires : goal.four_words-words-requires
four_words-words-requires c =
    let place = ap (λ s. s.word_pos) (c.args.self.now.at_words c.in-Some.draw c.in-Some.is) in
    omega (arith, place)
