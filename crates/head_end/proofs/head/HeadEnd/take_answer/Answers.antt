use Rattle.std.proofs.Common.{refl, sym, ap, ◌∙◌}
use Rattle.missing_round.specs.Sets.{is_member}
use Rattle.head_end.proofs.PlaceLemmas.{known_tag}
use Rattle.head_end.proofs.ReplyLemmas.{AnswerCame, says_answer_late, says_answer_void}
use Rattle.head_end.proofs.CallLemmas.{answer_fresh, answer_again}
use Rattle.head_end.proofs.head.HeadEnd.take_answer.Goals as goal

pub take_answer-requires : goal.take_answer-requires
take_answer-requires c =
    ap (is_member c.args.frame.now.tag.meter) c.round_now-round.ensures.members ∙ (known_tag c.args.self.now.plan c.args.frame.now.tag c.requires.known).is_in_round

pub returns-in-Fresh : goal.returns-in-Fresh
returns-in-Fresh c = λ journal after.
    let known = known_tag c.args.self.now.plan c.args.frame.now.tag c.requires.known in
    let came : AnswerCame c.args.self.now.plan journal c.args.frame.now c.round_now-round.result
    = record { kind = c.requires.kind; known = c.requires.known; is_in_round = known.is_in_round; set = sym (c.has_other_set.ensures journal after) ∙ c.if-has_other_set.false; now = c.round_now-round.ensures.now journal after } in
    answer_fresh c.args.self.now c.keep_answer.new.self journal c.args.frame.now c.round_now-round.result c.take_answer.new.self after came known c.round_now-round.ensures.limits c.in-Fresh.ensures c.keep_answer.ensures

pub returns-in-Again : goal.returns-in-Again
returns-in-Again c = λ journal after.
    let known = known_tag c.args.self.now.plan c.args.frame.now.tag c.requires.known in
    let came : AnswerCame c.args.self.now.plan journal c.args.frame.now c.round_now-round.result
    = record { kind = c.requires.kind; known = c.requires.known; is_in_round = known.is_in_round; set = sym (c.has_other_set.ensures journal after) ∙ c.if-has_other_set.false; now = c.round_now-round.ensures.now journal after } in
    answer_again c.args.self.now journal c.args.frame.now c.round_now-round.result c.repeated.result c.index.result.now c.place_at-place.result after came known
    (c.in-Again.ensures.0, c.in-Again.ensures.1, refl) c.repeated.ensures c.index.ensures c.place_at-place.ensures.at

pub returns-in-Late : goal.returns-in-Late
returns-in-Late c = λ journal after.
    let known = known_tag c.args.self.now.plan c.args.frame.now.tag c.requires.known in
    let came : AnswerCame c.args.self.now.plan journal c.args.frame.now c.round_now-round.result
    = record { kind = c.requires.kind; known = c.requires.known; is_in_round = known.is_in_round; set = sym (c.has_other_set.ensures journal after) ∙ c.if-has_other_set.false; now = c.round_now-round.ensures.now journal after } in
    record { plan = refl; said_is = says_answer_late c.args.self.now.plan journal c.args.frame.now c.round_now-round.result came c.in-Late.ensures.0 c.in-Late.ensures.1 c.in-Late.ensures.2; after = after }

pub returns-in-Void : goal.returns-in-Void
returns-in-Void c = λ journal after.
    let known = known_tag c.args.self.now.plan c.args.frame.now.tag c.requires.known in
    let came : AnswerCame c.args.self.now.plan journal c.args.frame.now c.round_now-round.result
    = record { kind = c.requires.kind; known = c.requires.known; is_in_round = known.is_in_round; set = sym (c.has_other_set.ensures journal after) ∙ c.if-has_other_set.false; now = c.round_now-round.ensures.now journal after } in
    record { plan = refl; said_is = says_answer_void c.args.self.now.plan journal c.args.frame.now c.round_now-round.result came c.in-Void.ensures.0; after = after }
