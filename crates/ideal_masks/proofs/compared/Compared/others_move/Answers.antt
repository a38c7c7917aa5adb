use Rattle.std.proofs.Common.{◌∙◌, sym, ap}
use Rattle.std.specs.Prelude.{Some, nat_eq, sum_by}
use Rattle.std.specs.Option.{option_eq}
use Rattle.missing_round.specs.Words.{word}
use Rattle.group_book.specs.Books.{shape_of, past}
use Rattle.event_schedule.specs.Schedule.{is_answer_sent}
use Rattle.ideal_masks.specs.Pools.{others_answered, others_silent}
use Rattle.ideal_masks.specs.Chains.{pool_in, deltas_of}
use Rattle.ideal_masks.proofs.PairLists.{own-end}
use Rattle.ideal_masks.proofs.OwnLemmas.{end_word}
use Rattle.ideal_masks.proofs.compared.Compared.others_move.Goals as goal

pub returns-then-eq : goal.returns-then-eq
returns-then-eq c =
    let at = c.args.self.now in
    let b = at.book.now in
    let s = shape_of b in
    end_word c.delta.result c.args.total (deltas_of at c.args.meter) (sum_by (deltas_of at) (others_answered (pool_in at) s at.group at.round (past b))) c.delta.ensures
    (c.requires.total ∙ ap (λ l. word (sum_by (deltas_of at) l)) c.requires.chain.answered)
    ∙ ap word (sym (own-end (deltas_of at) (λ k. is_answer_sent s at.group at.round k (past b)) (others_answered (pool_in at) s at.group at.round (past b)) (others_silent (pool_in at) s at.group at.round (past b)) c.args.meter
    (sym c.if-is_answer_sent.ensures) (ap (λ o. option_eq nat_eq o (Some c.args.meter)) (sym c.requires.chain.end) ∙ sym c.if-eq.ensures)))
