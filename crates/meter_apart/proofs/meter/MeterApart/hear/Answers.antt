use Rattle.std.proofs.Common.{sym, ap, ◌∙◌, refl, Ok}
use Rattle.meter_core.specs.declared.Heard.TheVariants.{Answer, AnswerAgain, Refused}
use Rattle.meter_apart.specs.declared.keys.MeterKeys.{MeterKeys}
use Rattle.meter_apart.specs.Keys.{words_of}
use Rattle.meter_apart.specs.Replies.{answer_frame}
use Rattle.meter_apart.proofs.CallLemmas.{says_to_set}
use Rattle.meter_apart.proofs.meter.MeterApart.hear.Goals as goal

pub returns-in-Answer-clause-says : goal.returns-in-Answer-clause-says
returns-in-Answer-clause-says c = λ journal after.
    says_to_set c.args.self.now c.hear_set.new.self journal c.args.frame.now Answer _ after (sym c.is_to_me.ensures ∙ c.if-not-is_to_me.false) c.in-Answer.ensures
    (ap Ok (c.answer_frame.ensures ∙ ap (λ (k : MeterKeys). answer_frame k.part (words_of k) c.args.frame.now.tag.round c.args.frame.now.missing) c.in-Answer.ensures.keys))

pub returns-in-AnswerAgain-clause-says : goal.returns-in-AnswerAgain-clause-says
returns-in-AnswerAgain-clause-says c = λ journal after.
    says_to_set c.args.self.now c.hear_set.new.self journal c.args.frame.now AnswerAgain _ after (sym c.is_to_me.ensures ∙ c.if-not-is_to_me.false) c.in-AnswerAgain.ensures
    (ap Ok (c.answer_frame-in-AnswerAgain.ensures
    ∙ ap (λ (k : MeterKeys). answer_frame k.part (words_of k) c.args.frame.now.tag.round c.args.frame.now.missing) c.in-AnswerAgain.ensures.keys))

pub returns-in-Refused-clause-says : goal.returns-in-Refused-clause-says
returns-in-Refused-clause-says c = λ journal after.
    says_to_set c.args.self.now c.hear_set.new.self journal c.args.frame.now (Refused c.in-Refused.why) _ after (sym c.is_to_me.ensures ∙ c.if-not-is_to_me.false) c.in-Refused.ensures refl
