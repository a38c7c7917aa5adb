-- Entries of a run that are heard beside those of a cut.
use Rattle.std.proofs.Common.{◌≡◌, ℕ, ◌+◌, ◌<◌, ◌≤◌, List, [], ◌∷◌, ◌++◌, length, length-append, length-drop, take, drop, get_or, Option, Some, None, refl, sym, ap, ◌∙◌, subst, arith}
use Rattle.std.proofs.Math.Seq.{take-add}
use Rattle.std.proofs.lemmas.List.{get_or-drop, take-append-drop, take-append-le, take_all, take_more_same}
use Rattle.event_schedule.specs.declared.Entry.{Entry}
use Rattle.tick_run.specs.Runs.{RunView, MakesTicks}
use Rattle.cut_resume.specs.Heard.{AreAllFirst, AreFirst, AreHeard}

-- one more entry of the part is that of the cut
pub one_more : (cut part : List Entry) (from at : ℕ) (x e : Entry) → from + at < length cut → at < length part → x ≡ get_or cut (from + at) x → e ≡ get_or part at e → x ≡ e
    → take at (drop from cut) ≡ take at part → take (at + 1) (drop from cut) ≡ take (at + 1) part
one_more cut part from at x e within part_within is part_is same before =
    let left = length-drop from cut in
    let here : get_or (drop from cut) at x ≡ x = get_or-drop from cut at x ∙ sym is in
    let there : x ≡ get_or part at x = subst (λ z. z ≡ get_or part at z) (sym same) part_is in
    take_more_same (drop from cut) part at x (omega (arith, left, within)) part_within before (here ∙ there)

-- what was heard stays heard as the run goes on
pub still_first : (cut run more : List Entry) (n : ℕ) → AreFirst cut run n → AreFirst cut (run ++ more) n
still_first cut run more n first = record {
  one = first.one;
  other = (let long = length-append run more in let h = first.other in omega (arith, long, h));
  same = first.same ∙ sym (take-append-le n run more first.other);
}

-- the entries behind them that are the first of both are heard too
pub more_first : (cut run : List Entry) (n m : ℕ) → AreFirst cut run n → AreAllFirst (drop n cut) (drop n run) m → AreFirst cut run (n + m)
more_first cut run n m first next =
    let cut_left = length-drop n cut in
    let run_left = length-drop n run in
    let h = next.first.one in
    let k = next.first.other in
    let a = first.one in
    let b = first.other in
    record {
      one = omega (arith, cut_left, h, a);
      other = omega (arith, run_left, k, b);
      same = take-add n m cut ∙ ap (λ l. l ++ take m (drop n cut)) first.same ∙ ap (λ l. take n run ++ l) next.first.same ∙ sym (take-add n m run);
    }

-- a run that begins with all entries of a cut
pub begins : (cut run : List Entry) → AreFirst cut run (length cut) → run ≡ cut ++ drop (length cut) run
begins cut run first =
    sym (take-append-drop (length cut) run) ∙ ap (λ l. l ++ drop (length cut) run) (sym first.same ∙ take_all (length cut) cut (omega arith))

-- ---- the run goes on

pub heard_more : {M : Type 0} (cut : List Entry) (count : ℕ) (run next : RunView M) (heard : Option ℕ) → MakesTicks count run next → AreHeard cut run.entries heard → AreHeard cut next.entries heard
heard_more cut count run next None makes heard = tt
heard_more cut count run next (Some n) makes heard = subst (λ es. AreFirst cut es n) (sym (ap (λ v. v.entries) makes.is)) (still_first cut run.entries makes.more n heard)

-- all of the cut was heard
pub all_heard : (cut run : List Entry) (heard : Option ℕ) → heard ≡ Some (length cut) → AreHeard cut run heard → AreFirst cut run (length cut)
all_heard cut run heard is are = subst (AreHeard cut run) is are
