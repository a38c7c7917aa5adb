-- Equal frames have equal sums over the bare parts.
use Rattle.std.proofs.Common.{◌≡◌, ℕ, Bool, true, false, not, ◌&&◌, ◌||◌, List, [], ◌∷◌, refl, sym, ap, ◌∙◌, ⊎_elim, subst}
use Rattle.std.specs.Prelude.{◌==◌, Option, Some, None, is_some, if◌then◌else◌}
use Rattle.std.specs.Option.{option_or}
use Rattle.std.specs.List.{AllByRecursion}
use Rattle.std.proofs.lemmas.Bool.{false≢true, or_cases, and_parts, eqb-true}
use Rattle.std.proofs.lemmas.Slice.Eq.{bytes_eq-Decides}
use Rattle.missing_round.specs.Words.{answer_word}
use Rattle.group_plan.specs.Plans.{Group}
use Rattle.meter_frames.specs.declared.Frame.{Frame}
use Rattle.event_schedule.specs.Schedule.{Shape}
use Rattle.event_schedule.specs.Tables.{Readings, Masks, reading_at, IsOfPlan, IsBounded}
use Rattle.event_schedule.specs.Transcript.{shape_of_readings, Contents, contents_of_tables}
use Rattle.event_schedule.proofs.TranscriptLemmas.{shape-same}
use Rattle.event_schedule.proofs.MemberLemmas.{plain_sum_fits}
use Rattle.ideal_masks.specs.Pools.{Pool, ShareWords}
use Rattle.mask_graphs.specs.Graphs.{Graph}
use Rattle.mask_graphs.specs.Moves.{left_out}
use Rattle.mask_graphs.proofs.ToldLemmas.{told}
use Rattle.lying_head_end.specs.Acts.{Act, Read, Tell, is_reading, has_read, may_answer, set_heard, set_answered, is_set, does_answer}
use Rattle.lying_head_end.specs.Frames.{frame_sent, frames_after, frames, TellsSet}
use Rattle.lying_head_end.specs.Graphs.{graph_for}
use Rattle.lying_head_end.specs.Offsets.{AgreeTold}
use Rattle.lying_head_end.proofs.ActLemmas.{after, heard}
use Rattle.lying_head_end.proofs.GraphLemmas.{Answers, answers-is, graph-is, left_out-set}

-- what the frames so far tell of the words
pub record ToldWords (s : Shape) (c d : Contents) (past : List Act) : Type 0 where
  pub readings : (g r i : ℕ) → has_read s g r i past ≡ true → c.reading g r i ≡ d.reading g r i
  pub answers : (g r i : ℕ) (set : List ℕ) → set_answered s g r i past ≡ Some set → c.answer g r i set ≡ d.answer g r i set

frame_word : Option Frame → ℕ
frame_word None = 0
frame_word (Some f) = f.word

reading-told : (s : Shape) (c d : Contents) (g r i : ℕ) (act : Act) (past : List Act) → frame_sent s c past act ≡ frame_sent s d past act
    → (is_reading g r i act && s.present g r i) ≡ true → c.reading g r i ≡ d.reading g r i
unfolding frame_word
reading-told s c d g r i (Tell a b e set) past same h = absurd (false≢true h)
reading-told s c d g r i (Read a b e) past same h =
    let both = and_parts ((a == g) && (b == r) && (e == i)) (s.present g r i) h in
    let ab = and_parts ((a == g) && (b == r)) (e == i) both.0 in
    let aa = and_parts (a == g) (b == r) ab.0 in
    at a b e (eqb-true a g aa.0) (eqb-true b r aa.1) (eqb-true e i ab.1) both.1 same
  where
    here : s.present g r i ≡ true → frame_sent s c past (Read g r i) ≡ frame_sent s d past (Read g r i) → c.reading g r i ≡ d.reading g r i
    here present e = rw present at (ap frame_word e)

    at : (a b e : ℕ) → a ≡ g → b ≡ r → e ≡ i → s.present g r i ≡ true → frame_sent s c past (Read a b e) ≡ frame_sent s d past (Read a b e) → c.reading g r i ≡ d.reading g r i
    at a b e is_g is_r is_i present eq = here present (rw is_g at (rw is_r at (rw is_i at eq)))

answer-told : (s : Shape) (c d : Contents) (g r i : ℕ) (set : List ℕ) (act : Act) (past : List Act) → frame_sent s c past act ≡ frame_sent s d past act
    → set_answered s g r i past ≡ None → set_heard s g r i past act ≡ Some set → c.answer g r i set ≡ d.answer g r i set
unfolding frame_word
answer-told s c d g r i set (Read a b e) past same none h = absurd (cc h)
answer-told s c d g r i set (Tell a b e other) past same none h = step ((a == g) && (b == r) && (e == i)) (has_read s g r i past) (may_answer s g r i other) refl refl refl h
  where
    here : set_answered s g r i (Tell g r i set ∷ past) ≡ Some set → frame_sent s c past (Tell g r i set) ≡ frame_sent s d past (Tell g r i set) → c.answer g r i set ≡ d.answer g r i set
    here kept eq =
        let does : does_answer s g r i set past ≡ true = ap (λ o. is_set o set) kept ∙ (bytes_eq-Decides set set).1 refl in
        rw does at (ap frame_word eq)

    at : (a b e : ℕ) → a ≡ g → b ≡ r → e ≡ i → other ≡ set → set_heard s g r i past (Tell a b e other) ≡ Some set → frame_sent s c past (Tell a b e other) ≡ frame_sent s d past (Tell a b e other)
        → c.answer g r i set ≡ d.answer g r i set
    at a b e is_g is_r is_i is_set_ heard_ eq =
        here
        (ap (λ o. option_or o (set_heard s g r i past (Tell g r i set))) none
        ∙ subst (λ z. set_heard s g r i past (Tell z r i set) ≡ Some set) is_g
        (subst (λ z. set_heard s g r i past (Tell a z i set) ≡ Some set) is_r
        (subst (λ z. set_heard s g r i past (Tell a b z set) ≡ Some set) is_i
        (subst (λ z. set_heard s g r i past (Tell a b e z) ≡ Some set) is_set_ heard_))))
        (subst (λ z. frame_sent s c past (Tell z r i set) ≡ frame_sent s d past (Tell z r i set)) is_g
        (subst (λ z. frame_sent s c past (Tell a z i set) ≡ frame_sent s d past (Tell a z i set)) is_r
        (subst (λ z. frame_sent s c past (Tell a b z set) ≡ frame_sent s d past (Tell a b z set)) is_i
        (subst (λ z. frame_sent s c past (Tell a b e z) ≡ frame_sent s d past (Tell a b e z)) is_set_ eq))))

    step : (p q o : Bool) → ((a == g) && (b == r) && (e == i)) ≡ p → has_read s g r i past ≡ q → may_answer s g r i other ≡ o → (if p && q && o then Some other else None) ≡ Some set → c.answer g r i set ≡ d.answer g r i set
    step true true true p_is q_is o_is k =
        let ab = and_parts ((a == g) && (b == r)) (e == i) p_is in
        let aa = and_parts (a == g) (b == r) ab.0 in
        at a b e (eqb-true a g aa.0) (eqb-true b r aa.1) (eqb-true e i ab.1) (cc k) h same
    step true true false p_is q_is o_is k = absurd (cc k)
    step true false true p_is q_is o_is k = absurd (cc k)
    step true false false p_is q_is o_is k = absurd (cc k)
    step false true true p_is q_is o_is k = absurd (cc k)
    step false true false p_is q_is o_is k = absurd (cc k)
    step false false true p_is q_is o_is k = absurd (cc k)
    step false false false p_is q_is o_is k = absurd (cc k)

told-more : (s : Shape) (c d : Contents) (act : Act) (past : List Act) → frame_sent s c past act ≡ frame_sent s d past act → ToldWords s c d past → ToldWords s c d (act ∷ past)
told-more s c d act past same before = record {
  readings = λ g r i h. ⊎_elim (reading-told s c d g r i act past same) (before.readings g r i) (or_cases (is_reading g r i act && s.present g r i) (has_read s g r i past) h);
  answers = λ g r i set h. step g r i set (set_answered s g r i past) refl h;
}
  where
    step : (g r i : ℕ) (set : List ℕ) (o : Option (List ℕ)) → set_answered s g r i past ≡ o → option_or o (set_heard s g r i past act) ≡ Some set → c.answer g r i set ≡ d.answer g r i set
    step g r i set (Some kept) e f = before.answers g r i set (e ∙ f)
    step g r i set None e f = answer-told s c d g r i set act past same e f

told-after : (s : Shape) (c d : Contents) (past rest : List Act) → frames_after s c past rest ≡ frames_after s d past rest → ToldWords s c d past → ToldWords s c d (after past rest)
unfolding after
told-after s c d past [] same before = before
told-after s c d past (act ∷ rest) same before =
    let head : frame_sent s c past act ≡ frame_sent s d past act = cc same in
    let tail : frames_after s c (act ∷ past) rest ≡ frames_after s d (act ∷ past) rest = cc same in
    told-after s c d (act ∷ past) rest tail (told-more s c d act past head before)

told-none : (s : Shape) (c d : Contents) → ToldWords s c d []
told-none s c d = record { readings = λ g r i h. absurd (false≢true h); answers = λ g r i set h. absurd (cc h) }

-- two meters of which one is in the pool
pooled : (a b : Bool) → (not a && not b) ≡ false → (a || b) ≡ true
pooled true b h = refl
pooled false true h = refl
pooled false false h = absurd (false≢true (sym h))

pub converse_told : (pool : Pool) (groups : List Group) (x y : Readings) (m k : Masks) (acts : List Act)
    → ((g r i : ℕ) → is_some (x g r i) ≡ is_some (y g r i)) → ((g r i : ℕ) → pool g i ≡ true → x g r i ≡ y g r i) → IsOfPlan groups x → IsBounded groups x → IsBounded groups y
    → AllByRecursion TellsSet (after [] acts) → ShareWords pool m k → frames groups x m acts ≡ frames groups y k acts → AgreeTold pool groups x y (after [] acts)
converse_told pool groups x y m k acts presence known of_plan x_bounded y_bounded sets shared same =
    let s : Shape = shape_of_readings groups x in
    let whole : List Act = after [] acts in
    let words : ToldWords s (contents_of_tables groups x m) (contents_of_tables groups y k) whole
    = told-after s (contents_of_tables groups x m) (contents_of_tables groups y k) [] acts
    (same ∙ ap (λ z. frames_after z (contents_of_tables groups y k) [] acts) (sym (shape-same groups x y presence)))
    (told-none s (contents_of_tables groups x m) (contents_of_tables groups y k)) in
    record {
      presence = presence;
      readings = known;
      sums = λ g r p part bare.
          let graph : Graph = graph_for pool s whole g r in
          let who : (i : ℕ) → p i ≡ true → Answers pool s g r i whole = λ i within. answers-is pool s whole g r i (part.answered i within) in
          sym (plain_sum_fits groups x g r p x_bounded)
          ∙ told graph p (m.own g r) (m.pair g r) (reading_at x g r) (k.own g r) (k.pair g r) (reading_at y g r) (graph-is pool groups x whole g r of_plan sets) part bare
          (record {
            readings = λ i within. words.readings g r i (heard s g r i whole (who i within).set sets (who i within).is).read;
            answers = λ i within.
                let a = who i within in
                let gone : left_out graph i ≡ a.set = left_out-set pool s whole g r i a.set sets a.is in
                ap (answer_word (m.own g r) (m.pair g r) i) gone ∙ words.answers g r i a.set a.is ∙ ap (answer_word (k.own g r) (k.pair g r) i) (sym gone);
            unmasked = λ i j below none. shared.pair g r i j below (pooled (pool g i) (pool g j) none);
          })
          ∙ plain_sum_fits groups y g r p y_bounded;
    }
