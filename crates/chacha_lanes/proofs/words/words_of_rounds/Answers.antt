use Rattle.std.proofs.Common.{◌^◌, ◌<◌, arith, ap, ◌∙◌, slice_index}
use Rattle.chacha_lanes.specs.Stream.{mask_word}
use Rattle.chacha_lanes.proofs.words.words_of_rounds.Goals as goal

pub returns : goal.returns
returns c j h =
    let at = c.rounds_from.ensures j h in
    let fits : slice_index c.rounds_from.result j < 2 ^ 32 = omega (arith, at) in
    c.words_in_lanes.ensures j c.args.key.now h fits (c.key_in_all_lanes.ensures j h) ∙ ap (mask_word c.args.key.now) at
