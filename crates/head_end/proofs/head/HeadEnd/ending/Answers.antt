use Rattle.std.proofs.Common.{subst, sym, ap, ◌∙◌}
use Rattle.std.specs.Prelude.{◌+◌, nat_lt, slice_index_or}
use Rattle.group_book.proofs.PlaceLemmas.{in_round}
use Rattle.head_end.specs.Kept.{closed_where}
use Rattle.head_end.specs.Head.{IsKept}
use Rattle.head_end.proofs.EndLemmas.{ending_is}
use Rattle.head_end.proofs.head.HeadEnd.ending.Goals as goal

pub returns : goal.returns
returns c = λ journal after.
    let plan = c.args.self.now.plan in
    let g = c.args.group in
    let r = c.args.round in
    let s = c.index-kept.result.now in
    let both = in_round plan g r c.requires in
    let kept : IsKept plan journal g r s
    = subst (IsKept plan journal g r) (sym (c.index-kept.ensures ∙ ap (λ n. slice_index_or c.args.self.now.rounds.items n s) c.page_at.ensures.at)) (after.rounds_are g r s both.0 both.1) in
    ending_is plan journal g r s c.closed_where-closed.result c.end.new.self c.end.result kept
    (c.closed_where-closed.ensures ∙ ap (λ b. closed_where b s) (c.is_closed.ensures ∙ ap (λ n. nat_lt (r + plan.w1) n) after.ticks_are)) c.end.ensures
