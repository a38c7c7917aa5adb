use Rattle.std.proofs.Common.{◌∙◌, ◌<◌, ◌+◌, arith, ap, unwrap_or}
use Rattle.std.specs.Prelude.{slice_index}
use Rattle.group_plan.specs.Tables.{ReadingsView, reading}
use Rattle.missing_round.specs.Words.{word}
use Rattle.plan_files.specs.Registers.{table}
use Rattle.register_words.proofs.SideLemmas.{set_done, set_left, set_long}
use Rattle.register_words.proofs.hidden.add_readings.Goals as goal

pub loop-register-preserved : goal.loop-register-preserved
loop-register-preserved c =
    let g = c.args.group in
    let r = c.args.round in
    let i = c.args.meter in
    let registers = c.args.tables.now in
    let old = c.args.words.now in
    let n = c.loop-register.register in
    let words = c.loop-register.words in
    let before = c.loop-register.invariant in
    let long = before.long in
    let lt = c.loop-register-test.true in
    let count = c.count-register-end.ensures.count in
    let most = c.count-register-end.ensures.sound.most in
    let few : n < 8 = omega (arith, lt, count, most) in
    let value = c.unwrap_or.ensures ∙ ap (λ o. unwrap_or o 0) (c.get-reading.ensures.reading ∙ ap (λ (t : ReadingsView). reading t.table g r i) c.table.ensures) in
    let next = ap (λ m. word (m + c.unwrap_or.result)) (before.left n (omega arith) few) ∙ ap (λ m. word (slice_index old n + m)) value in
    record {
      long = set_long words n _ long;
      done = set_done (λ k. word (slice_index old k + unwrap_or (reading (table registers k) g r i) 0)) words n _ (omega (arith, few, long)) before.done next;
      left = set_left (slice_index old) words n _ before.left;
    }
