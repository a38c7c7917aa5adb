use Rattle.std.proofs.Common.{◌≡◌, ◌∙◌, ◌+◌, ℕ, List, [], ◌∷◌, ◌++◌, length, drop, ap, sym, arith, rules, length-append, drop-drop}
use Rattle.plan_files.specs.KeptRows.{fields_in}
use Rattle.plan_files.specs.PlanForms.{after, groups_from}
use Rattle.plan_files.specs.RowsLeft.{rows_left}
use Rattle.plan_files.proofs.FormLemmas.{groups_end, groups_fault, groups_more, groups_stop}
use Rattle.plan_files.proofs.head.read_groups.Goals as goal

pub returns-then-not-is_word-clause-read : goal.returns-then-not-is_word-clause-read
returns-then-not-is_word-clause-read c =
    let rows = rows_left c.loop-row.rows in
    c.loop-row.invariant.so_far
    ∙ groups_stop rows (drop 1 rows) (length c.loop-row.groups.items + 4) (fields_in c.in-Some.row.now) c.loop-row.groups.items c.in-Some.ensures.first (search rules)

pub returns-in-Err-clause-fault : goal.returns-in-Err-clause-fault
returns-in-Err-clause-fault c =
    let rows = rows_left c.loop-row.rows in
    let number : c.len.result ≡ length c.loop-row.groups.items = omega (arith, c.loop-row.groups.ok.0) in
    rw number (c.loop-row.invariant.so_far
    ∙ groups_fault rows (drop 1 rows) (length c.loop-row.groups.items + 4) (fields_in c.in-Some.row.now) c.loop-row.groups.items c.in-Err.cause c.in-Some.ensures.first (search rules) (search rules))

pub loop-row-preserved : goal.loop-row-preserved
loop-row-preserved c =
    let groups = c.loop-row.groups.items in
    let rows = rows_left c.loop-row.rows in
    let row = fields_in c.in-Some.row.now in
    let items : c.push.new.self.items ≡ groups ++ c.in-Ok.group ∷ [] = c.in_ok-push-in-Ok.ensures.items in
    let long : length c.push.new.self.items ≡ length groups + 1 = ap length items ∙ length-append groups (c.in-Ok.group ∷ []) in
    let left : rows_left c.advance.new.self ≡ drop 1 rows = c.in_ok-advance.ensures.rows in
    let one : length rows ≡ length (row ∷ drop 1 rows) = ap length c.in-Some.ensures.first in
    let others : length (rows_left c.advance.new.self) ≡ length (drop 1 rows) = ap length left in
    let all = rows_left c.args.rows.now in
    record {
      sound = c.in_ok-advance.ensures.sound;
      rest = left ∙ ap (drop 1) c.loop-row.invariant.rest ∙ drop-drop 1 (length groups) all ∙ ap (λ n. drop n all) (sym long);
      long = omega arith;
      so_far = c.loop-row.invariant.so_far
          ∙ groups_more rows (drop 1 rows) (length groups + 4) (length c.push.new.self.items + 4) row groups c.in-Ok.group c.in-Some.ensures.first (omega arith) (search rules) (search rules)
          ∙ ap (λ l. after l (groups_from (length c.push.new.self.items + 4) (drop 1 rows))) (sym items)
          ∙ ap (λ (l : List (List (List ℕ))). after c.push.new.self.items (groups_from (length c.push.new.self.items + 4) l)) (sym left);
    }

pub returns-clause-read : goal.returns-clause-read
returns-clause-read c =
    c.loop-row.invariant.so_far ∙ groups_end (rows_left c.loop-row.rows) (length c.loop-row.groups.items + 4) c.loop-row.groups.items (search rules)
