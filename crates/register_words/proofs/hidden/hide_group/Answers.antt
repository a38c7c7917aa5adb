use Rattle.std.proofs.Common.{rules, ◌≡◌, ◌∙◌, ◌++◌, ◌+◌, ◌<◌, ℕ, [], List, IsTrue, ap, arith, drop, length, nat_lt, refl, subst, sym, take, unwrap_or}
use Rattle.std.specs.Prelude.{slice_index, slice_index_or}
use Rattle.std.proofs.lemmas.Bool.{ltb-true}
use Rattle.group_plan.specs.Plans.{PlanView, members, size}
use Rattle.group_plan.specs.Tables.{reading}
use Rattle.missing_round.specs.Words.{reading_word, word}
use Rattle.blind_core.specs.Blind.{are_places}
use Rattle.blind_core.proofs.ColumnLemmas.{column-at}
use Rattle.blind_core.proofs.GroupLemmas.{places-within, written}
use Rattle.blind_core.proofs.PlaceLemmas.{test-member}
use Rattle.pair_keys.specs.Keys.{table_of}
use Rattle.plan_files.specs.Registers.{table}
use Rattle.register_words.specs.Words.{register_streams}
use Rattle.register_words.proofs.HidingLemmas.{hidden_is, members_places}
use Rattle.register_words.proofs.hidden.hide_group.Goals as goal

pub hiding_sums-requires-clause-places : goal.hiding_sums-requires-clause-places
hiding_sums-requires-clause-places c =
    let registers = c.args.tables.now in
    subst (λ (p : PlanView). IsTrue (are_places p c.args.group c.args.round c.members-members.result)) (sym c.requires.plan)
    (members_places registers.plan c.args.group c.args.round c.members-members.result
    (c.members-members.ensures ∙ ap (λ (p : PlanView). members p.groups c.args.group c.args.round) c.plan-plan.ensures.plan) c.requires.round.round)

pub returns : goal.returns
returns c =
    let registers = c.args.tables.now in
    let keys = table_of c.args.keys.now in
    let g = c.args.group in
    let r = c.args.round in
    let meters = c.members-members.result in
    let most = c.plan-plan.ensures.sound.most in
    let sums = c.in_ok-words.words.items in
    let after = c.add_all_readings.new.words in
    let n = c.in_ok-words.words.len in
    let long : length sums ≡ n = search rules in
    let lent : length c.as_mut_slice.result.now ≡ length sums = ap length c.as_mut_slice.ensures.value in
    let after_long : length after ≡ n = c.add_all_readings.auto.words ∙ lent ∙ long in
    let sums_kept : take n (after ++ drop (length after) sums) ≡ after = written after sums n after_long long in
    let are_members : meters ≡ members registers.plan.groups g r = c.members-members.ensures ∙ ap (λ (p : PlanView). members p.groups g r) c.plan-plan.ensures.plan in
    let sums_long : length sums ≡ size registers.plan.groups g = c.in_ok-words.ensures.long ∙ c.meters-meters.ensures.meters ∙ ap (λ (p : PlanView). size p.groups g) c.plan-plan.ensures.plan in
    let within = places-within registers.plan g r (size registers.plan.groups g) meters refl (members_places registers.plan g r meters are_members c.requires.round.round) in
    record {
      members = are_members;
      words = λ i member k lt.
          let inside : i < length sums = omega (arith, ltb-true i (size registers.plan.groups g) (test-member (λ j. nat_lt j (size registers.plan.groups g)) i meters within member), sums_long) in
          let lent_inside : i < length c.as_mut_slice.result.now = omega (arith, inside, lent) in
          let few : k < 8 = omega (arith, lt, most) in
          let x = unwrap_or (reading (table registers k) g r i) 0 in
          let own = (register_streams k keys).own g r in
          let pair = (register_streams k keys).pair g r in
          ap (λ (l : List (List ℕ)). slice_index (slice_index_or l i []) k) sums_kept
          ∙ c.add_all_readings.ensures i k lent_inside lt
          ∙ ap (λ (l : List (List ℕ)). word (slice_index (slice_index_or l i []) k + x)) c.as_mut_slice.ensures.value
          ∙ hidden_is keys g r i k meters (slice_index (slice_index_or sums i []) k) x (ap word (sym (column-at 0 k sums i inside)) ∙ (c.in_ok-words.ensures.sums k few).each i member)
          ∙ ap (λ (ms : List ℕ). reading_word own pair ms i x) are_members;
    }
