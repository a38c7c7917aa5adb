use Rattle.std.proofs.Common.{◌≡◌, ℕ, ◌<◌, ◌≤◌, ◌+◌, ◌-◌, ◌++◌, ◌∷◌, [], List, length, take, drop, get_or, suc, sym, ap, ◌∙◌, append_assoc, arith}
use Rattle.std.proofs.lemmas.List.{drop_more}
use Rattle.round_machine.specs.declared.Closing.TheVariants as closing
use Rattle.event_schedule.specs.declared.Line.{Line}
use Rattle.event_schedule.specs.declared.Line.TheVariants.{Close}
use Rattle.transcript_log.proofs.lines.Lines.append_part.Goals as goal

-- no line of the list: what a place past its end would give
abbrev past_end : Line
past_end = Close 0 0 closing.Already

-- the lines that are left: the next one, and those after it
part_next : (xs : List Line) (at to : ℕ) → at < to → to ≤ length xs → take (to - at) (drop at xs) ≡ get_or xs at past_end ∷ take (to - (at + 1)) (drop (at + 1) xs)
part_next xs at to lt within =
    let more : to - at ≡ suc (to - (at + 1)) = omega (arith, lt) in
    ap (λ n. take n (drop at xs)) more
    ∙ ap (take (suc (to - (at + 1)))) (drop_more xs at past_end (omega (arith, lt, within)))

pub loop-at-preserved : goal.loop-at-preserved
loop-at-preserved c =
    let lines : List Line = c.args.others.now.items in
    let at = c.loop-at.at in
    let to = c.args.to in
    let rest : List Line = take (to - (at + 1)) (drop (at + 1) lines) in
    record {
      lines =
          ap (λ (more : List Line). more ++ rest) (c.push_from.ensures.items past_end)
          ∙ append_assoc c.loop-at.self.items (get_or lines at past_end ∷ []) rest
          ∙ ap (λ (left : List Line). c.loop-at.self.items ++ left) (sym (part_next lines at to c.loop-at-test.true c.requires.within))
          ∙ c.loop-at.invariant.lines;
      room = omega (arith, c.push_from.ensures.spare, c.loop-at.invariant.room);
    }
