use Rattle.std.proofs.Common.{rules, ◌≡◌, ◌∙◌, ◌++◌, ℕ, List, ap, drop, length, replicate, subst, sym, take}
use Rattle.std.proofs.lemmas.List.{length-replicate}
use Rattle.blind_core.specs.Columns.{column}
use Rattle.blind_core.specs.Rows.{AreHidingSums}
use Rattle.blind_core.proofs.GroupLemmas.{written}
use Rattle.pair_keys.specs.Keys.{table_of}
use Rattle.register_words.specs.Hidden.{own_words, pair_words}
use Rattle.register_words.proofs.sums.hiding_sums.Goals as goal

pub fill_sums-requires-clause-meters : goal.fill_sums-requires-clause-meters
fill_sums-requires-clause-meters c = ap length (c.as_mut_slice.ensures.value ∙ c.in_ok-sums.ensures) ∙ length-replicate c.args.meters (replicate 8 0) ∙ c.requires.meters

pub returns-clause-long : goal.returns-clause-long
returns-clause-long c =
    let zeros = c.in_ok-sums.sums.items in
    let n = c.in_ok-sums.sums.len in
    let sums = c.fill_sums.new.sums in
    let long : length zeros ≡ n = search rules in
    let all : n ≡ c.args.meters = sym long ∙ ap length c.in_ok-sums.ensures ∙ length-replicate c.args.meters (replicate 8 0) in
    let sums_long : length sums ≡ n = c.fill_sums.auto.sums ∙ ap length c.as_mut_slice.ensures.value ∙ long in
    ap length (written sums zeros n sums_long long) ∙ sums_long ∙ all

pub returns-clause-sums : goal.returns-clause-sums
returns-clause-sums c k h =
    let keys = table_of c.args.keys.now in
    let own = own_words keys c.args.group c.args.round k in
    let pair = pair_words keys c.args.group c.args.round k in
    let zeros = c.in_ok-sums.sums.items in
    let n = c.in_ok-sums.sums.len in
    let sums = c.fill_sums.new.sums in
    let kept = take n (sums ++ drop (length sums) zeros) in
    let long : length zeros ≡ n = search rules in
    let all : length zeros ≡ c.args.meters = ap length c.in_ok-sums.ensures ∙ length-replicate c.args.meters (replicate 8 0) in
    let lent : length c.as_mut_slice.result.now ≡ length zeros = ap length c.as_mut_slice.ensures.value in
    let sums_long : length sums ≡ n = c.fill_sums.auto.sums ∙ lent ∙ long in
    let sums_kept : kept ≡ sums = written sums zeros n sums_long long in
    subst (λ (l : List (List ℕ)). AreHidingSums own pair c.args.members.now c.args.meters (column 0 k l)) (sym sums_kept)
    (subst (λ (m : ℕ). AreHidingSums own pair c.args.members.now m (column 0 k sums)) (lent ∙ all) (c.fill_sums.ensures k h))
