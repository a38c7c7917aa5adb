use Rattle.std.proofs.Common.{◌≡◌, ◌∙◌, ◌==◌, if◌then◌else◌, List, ℕ, ap, sym, subst, refl, arith, true, false, drop, length, length-drop}
use Rattle.csv.specs.Records.{fields_of}
use Rattle.plan_files.specs.KeptRows.{KeepsField, goes_on}
use Rattle.plan_files.proofs.KeptLemmas.{IsReadTo, comma_some, goes_on_comma, row_begun, row_continued, row_started}
use Rattle.plan_files.proofs.kept_row.read_fields.Goals as goal

pub loop-next-init : goal.loop-next-init
loop-next-init c =
    let read = c.in_ok-left.ensures in record {
      so_far = row_started c.args.start.now c.in_ok-left.left.now c.clear.new.self c.read_field.new.kept c.args.row.now.third.now c.requires.starts c.requires.some c.clear.ensures.fields read;
      none = read.none;
      start = refl;
    }

pub loop-next-preserved : goal.loop-next-preserved
loop-next-preserved c =
    let start = c.args.start.now in
    let left = c.loop-next.left.now in
    let next = c.in_ok-left-2.left.now in
    let old = c.loop-next.row.kept in
    let new = c.read_field-in-loop-next.new.kept in
    let more : goes_on (length (fields_of old)) left ≡ true = ap (λ n. goes_on n left) (sym c.len.ensures) ∙ sym c.goes_on.ensures ∙ c.loop-next-test.true in
    let read : KeepsField (drop 1 left) (fields_of old) new next = subst (λ (bytes : List ℕ). KeepsField bytes (fields_of old) new next) c.behind-next.ensures c.in_ok-left-2.ensures in
    let third : (if length (fields_of old) == 2 then drop 1 left else c.loop-next.row.third.now) ≡ c.third_from-row.result.now =
    ap (λ (bytes : List ℕ). if length (fields_of old) == 2 then bytes else c.loop-next.row.third.now) (sym c.behind-next.ensures)
    ∙ ap (λ n. if n == 2 then c.behind-next.result.now else c.loop-next.row.third.now) (sym c.len-in-loop-next.ensures) ∙ sym c.third_from-row.ensures in
    record {
      so_far = subst (λ (bytes : List ℕ). IsReadTo start next (fields_of new) bytes) third (row_continued start left next old new c.loop-next.row.third.now more c.loop-next.invariant.so_far read);
      none = read.none;
      start = c.loop-next.invariant.start;
    }

pub loop-next-smaller : goal.loop-next-smaller
loop-next-smaller c =
    let left = c.loop-next.left.now in
    let comma = goes_on_comma c.len.result left (sym c.goes_on.ensures ∙ c.loop-next-test.true) in
    let some = comma_some left comma in
    let short = c.in_ok-left-2.ensures.short in
    let less = ap length c.behind-next.ensures ∙ length-drop 1 left in
    omega (arith, some, short, less)

pub returns-clause-begun : goal.returns-clause-begun
returns-clause-begun c =
    let row = c.loop-next.row in
    let left = c.loop-next.left.now in
    let stops : goes_on (length (fields_of row.kept)) left ≡ false = ap (λ n. goes_on n left) (sym c.len.ensures) ∙ sym c.goes_on.ensures ∙ c.loop-next-test.false in
    row_begun row c.args.start.now left c.loop-next.invariant.start stops c.loop-next.invariant.so_far
