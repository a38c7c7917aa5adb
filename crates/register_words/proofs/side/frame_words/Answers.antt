use Rattle.std.proofs.Common.{◌∙◌, ℕ, List, IsTrue, arith, ap, sym, subst}
use Rattle.std.specs.List.{list_all}
use Rattle.group_plan.specs.declared.Kind.{Kind}
use Rattle.group_plan.specs.Plans.{PlanView}
use Rattle.missing_round.specs.Sets.{without}
use Rattle.missing_round.specs.Words.{answer_word}
use Rattle.pair_keys.specs.Keys.{table_of}
use Rattle.register_words.specs.Blocks.{is_end}
use Rattle.register_words.specs.Sides.{register_contents, word_by_kind}
use Rattle.register_words.specs.Words.{register_streams}
use Rattle.register_words.proofs.SideLemmas.{answer_is, set_ends}
use Rattle.register_words.proofs.side.frame_words.Goals as goal

pub answer_words-requires-clause-missing : goal.answer_words-requires-clause-missing
answer_words-requires-clause-missing c =
    let tag = c.args.frame.now.tag in
    subst (λ (l : List ℕ). IsTrue (list_all (is_end (table_of c.args.keys.now).plan tag.group tag.meter) l)) (sym c.without-missing.ensures)
    (subst (λ (p : PlanView). IsTrue (list_all (is_end p tag.group tag.meter) (without tag.meter c.args.frame.now.missing))) (sym c.requires.plan)
    (set_ends c.args.tables.now.plan tag.group tag.meter c.args.frame.now.missing c.requires.fits.set))

pub returns-in-Answer-clause-words : goal.returns-in-Answer-clause-words
returns-in-Answer-clause-words c k further lt =
    let tag = c.args.frame.now.tag in
    let keys = table_of c.args.keys.now in
    let most = c.plan-plan.ensures.sound.most in
    let own = (register_streams k keys).own tag.group tag.round in
    let pair = (register_streams k keys).pair tag.group tag.round in
    c.answer_words.ensures k (omega (arith, lt, most)) ∙ ap (answer_word own pair tag.meter) c.without-missing.ensures ∙ answer_is own pair tag.meter c.args.frame.now.missing
    ∙ ap (λ (kind : Kind). word_by_kind (register_contents c.args.tables.now keys k) kind tag.group tag.round tag.meter c.args.frame.now.missing) (sym c.in-Answer.is)
