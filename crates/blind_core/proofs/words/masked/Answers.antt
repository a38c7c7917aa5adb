use Rattle.std.proofs.Common.{◌≡◌, ◌∙◌, sym, ap, subst, arith, List, ℕ, IsTrue, sum_by}
use Rattle.std.specs.List.{list_all}
use Rattle.missing_round.specs.Words.{word, share}
use Rattle.mask_stream.specs.Ends.{is_other}
use Rattle.blind_core.proofs.PlaceLemmas.{test-member}
use Rattle.blind_core.proofs.ShareLemmas.{without-are_ends, shares-without}
use Rattle.blind_core.proofs.words.masked.Goals as goal

pub own-requires : goal.own-requires
own-requires g c = test-member _ c.args.meter c.args.members.now c.requires.members c.requires.meter

pub shares-shares-requires-clause-meter : goal.shares-shares-requires-clause-meter
shares-shares-requires-clause-meter g c = test-member _ c.args.meter c.args.members.now c.requires.members c.requires.meter

pub shares-shares-requires-clause-others : goal.shares-shares-requires-clause-others
shares-shares-requires-clause-others g c =
    let plan = g.M.Masks.plan c.args.masks.now in
    subst (λ (l : List ℕ). IsTrue (list_all (is_other plan c.args.group c.args.round c.args.meter) l)) (sym c.without-others.ensures)
    (without-are_ends plan c.args.group c.args.round c.args.meter c.args.members.now c.requires.members)

pub returns : goal.returns
returns g c =
    let pair = (g.M.Masks.table c.args.masks.now).pair c.args.group c.args.round in
    let others : sum_by (share pair c.args.meter) c.without-others.result ≡ sum_by (share pair c.args.meter) c.args.members.now
    = ap (sum_by (share pair c.args.meter)) c.without-others.ensures ∙ shares-without pair c.args.meter c.args.members.now in
    let sum : word c.shares-shares.result ≡ word (sum_by (share pair c.args.meter) c.args.members.now) = c.shares-shares.ensures ∙ ap word others in
    let own = c.value-own.ensures ∙ c.own.ensures in
    omega (arith, sum, own)
