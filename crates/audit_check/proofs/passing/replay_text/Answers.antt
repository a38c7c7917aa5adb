use Rattle.std.proofs.Common.{Ok, List, Result, sym, ◌∙◌, [], subst}
use Rattle.event_schedule.specs.declared.Entry.{Entry}
use Rattle.transcript_text.specs.declared.fault.ReadError.{ReadError}
use Rattle.transcript_text.specs.Reading.{Fails}
use Rattle.audit_check.specs.Passes.{IsLineOf, IsPassOver, PassEnds}
use Rattle.audit_check.proofs.PassLemmas.{text_fails, text_replayed}
use Rattle.transcript_feed.proofs.ReadLemmas.{nothing_before}
use Rattle.audit_check.proofs.passing.replay_text.Goals as goal

pub returns : goal.returns
returns g c =
    let reader = c.in-Ok.reader in
    let pass = c.in-Ok-judge_all.pass in
    let is = c.in-Ok-judge_all.ensures in
    let r = c.new-3.result in
    let ends = subst (λ (l : Result (List Entry) ReadError). PassEnds reader.plan l (Ok pass)) (nothing_before reader.left) (is.ends [] (subst (λ p. IsPassOver p [] c.in_ok-pass.pass) c.plan.ensures c.in_ok-pass.ensures)) in
    text_replayed c.args.bytes.now reader.plan reader.left pass r.impossible r.rounds c.in-Ok.ensures.begins.read c.in-Ok.ensures.text ends c.new-3.ensures.rounds
    (subst (IsLineOf reader.plan pass.impossible) (sym c.new-3.ensures.impossible) (subst (λ p. IsLineOf p pass.impossible c.line_of-line.result) (c.plan-2.ensures ∙ is.head) c.line_of-line.ensures))

pub returns-in-Err-judge_all : goal.returns-in-Err-judge_all
returns-in-Err-judge_all g c =
    let reader = c.in-Ok.reader in
    let wrong = c.in-Err-judge_all.ensures.ends [] (subst (λ p. IsPassOver p [] c.in_ok-pass.pass) c.plan.ensures c.in_ok-pass.ensures) in
    text_fails c.args.bytes.now reader.plan reader.left c.in-Ok.ensures.begins.read c.in-Err-judge_all.fault
    (subst (λ (l : Result (List Entry) ReadError). Fails c.in-Err-judge_all.fault l) (nothing_before reader.left) wrong)
