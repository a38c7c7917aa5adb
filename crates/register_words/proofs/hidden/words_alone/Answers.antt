use Rattle.std.proofs.Common.{◌∙◌, ℕ, ◌<◌, List, IsTrue, arith, ap, sym, subst, unwrap_or}
use Rattle.std.specs.List.{list_all}
use Rattle.std.specs.Prelude.{slice_index}
use Rattle.group_plan.specs.Plans.{PlanView, members}
use Rattle.group_plan.specs.Tables.{reading}
use Rattle.missing_round.specs.Sets.{without}
use Rattle.missing_round.specs.Words.{answer_word}
use Rattle.pair_keys.specs.Keys.{table_of}
use Rattle.plan_files.specs.Registers.{table}
use Rattle.register_words.specs.Blocks.{is_end}
use Rattle.register_words.specs.Words.{register_streams}
use Rattle.register_words.proofs.SideLemmas.{member_ends, reading_is}
use Rattle.register_words.proofs.hidden.words_alone.Goals as goal

pub answer_words-words-requires-clause-missing : goal.answer_words-words-requires-clause-missing
answer_words-words-requires-clause-missing c =
    let tag = c.args.tag in
    let others = c.without-others.ensures ∙ ap (without tag.meter) (c.members.ensures ∙ ap (λ (p : PlanView). members p.groups tag.group tag.round) c.plan.ensures.plan) in
    subst (λ (l : List ℕ). IsTrue (list_all (is_end (table_of c.args.keys.now).plan tag.group tag.meter) l)) (sym others)
    (subst (λ (p : PlanView). IsTrue (list_all (is_end p tag.group tag.meter) (without tag.meter (members c.args.tables.now.plan.groups tag.group tag.round)))) (sym c.requires.plan)
    (member_ends c.args.tables.now.plan tag.group tag.round tag.meter))

pub returns : goal.returns
returns c k lt =
    let tag = c.args.tag in
    let registers = c.args.tables.now in
    let keys = table_of c.args.keys.now in
    let most = c.plan.ensures.sound.most in
    let few : k < 8 = omega (arith, lt, most) in
    let own = (register_streams k keys).own tag.group tag.round in
    let pair = (register_streams k keys).pair tag.group tag.round in
    let meters = members registers.plan.groups tag.group tag.round in
    let others = c.without-others.ensures ∙ ap (without tag.meter) (c.members.ensures ∙ ap (λ (p : PlanView). members p.groups tag.group tag.round) c.plan.ensures.plan) in
    c.add_readings.ensures k lt
    ∙ reading_is own pair meters tag.meter (unwrap_or (reading (table registers k) tag.group tag.round tag.meter) 0) (slice_index c.answer_words-words.result k)
    (c.answer_words-words.ensures k few ∙ ap (answer_word own pair tag.meter) others)
