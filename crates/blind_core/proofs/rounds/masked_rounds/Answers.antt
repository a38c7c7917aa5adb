use Rattle.std.proofs.Common.{rules, ◌≡◌, ℕ, ◌+◌, ◌++◌, List, [], None, length, take, drop, get_or, replicate, sym, ap, subst, ◌∙◌, slice_index_or}
use Rattle.std.proofs.lemmas.List.{length-replicate}
use Rattle.blind_core.specs.Blind.{AreGroupWords}
use Rattle.blind_core.specs.Columns.{column}
use Rattle.blind_core.specs.Rows.{AreHidingSums, hidden_or_0}
use Rattle.blind_core.proofs.ColumnLemmas.{column-hidden}
use Rattle.blind_core.proofs.GroupLemmas.{written}
use Rattle.blind_core.proofs.rounds.masked_rounds.Goals as goal

pub returns : goal.returns
returns g c j h =
    let own = (g.M.Masks.table c.args.masks.now).own c.args.group (c.args.first + j) in
    let pair = (g.M.Masks.table c.args.masks.now).pair c.args.group (c.args.first + j) in
    let members = c.args.members.now in
    let readings = c.args.readings.now in
    let n = c.in_ok-words.words.len in
    let zeros = c.in_ok-words.words.items in
    let sums = c.fill_sums.new.sums in
    let words = c.hide.new.sums in
    let kept = take n (sums ++ drop (length sums) zeros) in
    let long : length zeros ≡ n = search rules in
    let all : n ≡ length readings = sym long ∙ ap length c.in_ok-words.ensures ∙ length-replicate (length readings) (replicate 8 0) in
    let zeros_lent : length c.as_mut_slice.result.now ≡ n = ap length c.as_mut_slice.ensures.value ∙ long in
    let sums_long : length sums ≡ n = c.fill_sums.auto.sums ∙ zeros_lent in
    let sums_kept : kept ≡ sums = written sums zeros n sums_long long in
    let sums_lent : c.as_mut_slice-2.result.now ≡ sums = c.as_mut_slice-2.ensures.value ∙ sums_kept in
    let words_long : length words ≡ n = c.hide.auto.sums ∙ ap length sums_lent ∙ sums_long in
    let words_kept : take n (words ++ drop (length words) kept) ≡ words = written words kept n words_long (ap length sums_kept ∙ sums_long) in
    subst (λ (l : List (List ℕ)). AreGroupWords own pair members (column None j readings) (column 0 j l)) (sym words_kept)
    (column-hidden own pair members readings sums words j (sums_long ∙ all) (words_long ∙ all)
    (subst (λ (m : ℕ). AreHidingSums own pair members m (column 0 j sums)) (zeros_lent ∙ all) (c.fill_sums.ensures j h))
    (c.requires.readings j h)
    (λ i inside. c.hide.ensures i j inside h ∙ ap (λ (l : List (List ℕ)). hidden_or_0 (get_or (get_or l i []) j 0) (slice_index_or (slice_index_or readings i []) j None)) sums_lent))
