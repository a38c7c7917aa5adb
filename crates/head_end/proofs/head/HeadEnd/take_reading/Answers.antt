use Rattle.std.proofs.Common.{refl, ap, ◌∙◌}
use Rattle.missing_round.specs.Sets.{is_member}
use Rattle.head_end.proofs.PlaceLemmas.{known_tag}
use Rattle.head_end.proofs.ReplyLemmas.{ReadingCame, says_reading_late}
use Rattle.head_end.proofs.CallLemmas.{reading_fresh, reading_again}
use Rattle.head_end.proofs.head.HeadEnd.take_reading.Goals as goal

pub take_reading-requires : goal.take_reading-requires
take_reading-requires c =
    ap (is_member c.args.frame.now.tag.meter) c.round_now-round.ensures.members ∙ (known_tag c.args.self.now.plan c.args.frame.now.tag c.requires.known).is_in_round

pub returns-in-Fresh : goal.returns-in-Fresh
returns-in-Fresh c = λ journal after.
    let known = known_tag c.args.self.now.plan c.args.frame.now.tag c.requires.known in
    let came : ReadingCame c.args.self.now.plan journal c.args.frame.now c.round_now-round.result
    = record { kind = c.requires.kind; known = c.requires.known; is_in_round = known.is_in_round; now = c.round_now-round.ensures.now journal after } in
    reading_fresh c.args.self.now c.keep_reading.new.self journal c.args.frame.now c.round_now-round.result c.take_reading.new.self after came known c.round_now-round.ensures.limits c.in-Fresh.ensures c.keep_reading.ensures

pub returns-in-Again : goal.returns-in-Again
returns-in-Again c = λ journal after.
    let known = known_tag c.args.self.now.plan c.args.frame.now.tag c.requires.known in
    let came : ReadingCame c.args.self.now.plan journal c.args.frame.now c.round_now-round.result
    = record { kind = c.requires.kind; known = c.requires.known; is_in_round = known.is_in_round; now = c.round_now-round.ensures.now journal after } in
    reading_again c.args.self.now journal c.args.frame.now c.round_now-round.result c.repeated.result c.index.result.now c.place_at-place.result after came known c.in-Again.ensures.0 c.repeated.ensures c.index.ensures c.place_at-place.ensures.at

pub returns-in-Late : goal.returns-in-Late
returns-in-Late c = λ journal after.
    let known = known_tag c.args.self.now.plan c.args.frame.now.tag c.requires.known in
    let came : ReadingCame c.args.self.now.plan journal c.args.frame.now c.round_now-round.result
    = record { kind = c.requires.kind; known = c.requires.known; is_in_round = known.is_in_round; now = c.round_now-round.ensures.now journal after } in
    record { plan = refl; said_is = says_reading_late c.args.self.now.plan journal c.args.frame.now c.round_now-round.result came c.in-Late.ensures.0 c.in-Late.ensures.1; after = after }
