use Rattle.std.proofs.Common.{◌≡◌, ◌∙◌, List, ℕ, ap, sym, refl, true, false}
use Rattle.plan_files.specs.Fields.{first_field}
use Rattle.plan_files.specs.KeptRows.{is_at_comma, rows_in}
use Rattle.plan_files.proofs.KeptLemmas.{row_left, row_skipped}
use Rattle.plan_files.proofs.kept_row.skip_row.Goals as goal

pub loop-text-init : goal.loop-text-init
loop-text-init c = λ fields. (fields, refl)

pub loop-text-preserved : goal.loop-text-preserved
loop-text-preserved c = λ fields.
    let before = c.loop-text.invariant fields in
    let left = c.loop-text.left.now in
    let comma : is_at_comma left ≡ true = sym c.is_at_comma.ensures ∙ c.loop-text-test.true in
    let step = row_skipped before.0 left c.in_ok-left.left.now comma (ap (λ (b : List ℕ). (first_field b).1) (sym c.behind.ensures) ∙ c.in_ok-left.ensures.field) in
    (step.0, before.1 ∙ step.1)

pub returns : goal.returns
returns c = λ start fields is.
    let more = c.loop-text.invariant fields in
    let ends : is_at_comma c.loop-text.left.now ≡ false = sym c.is_at_comma.ensures ∙ c.loop-text-test.false in
    ap rows_in c.behind-2.ensures ∙ row_left start c.loop-text.left.now more.0 ends (is ∙ more.1)
