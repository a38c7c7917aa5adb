-- Whatever the meters are told, tables that agree have the same frames under the shift.
use Rattle.std.proofs.Common.{◌≡◌, ℕ, ◌+◌, ◌^◌, ◌<◌, Bool, true, false, not, ◌&&◌, List, [], ◌∷◌, refl, sym, ap, ◌∙◌, zero-add, add-zero, arith, ⊎_elim}
use Rattle.std.specs.Prelude.{◌==◌, nat_lt, if◌then◌else◌, Option, Some, None, unwrap_or}
use Rattle.std.specs.List.{sum_by, AllByRecursion}
use Rattle.std.proofs.lemmas.Bool.{cases_Bool, ne_eqb, or_cases, both_ways}
use Rattle.std.proofs.lemmas.List.Sums.{sum_by-cons}
use Rattle.group_plan.specs.Plans.{Group, members}
use Rattle.missing_round.specs.Words.{word, minus, share, reading_word, answer_word}
use Rattle.missing_round.proofs.WordLemmas.{word-add_both}
use Rattle.meter_frames.specs.declared.Frame.{Frame}
use Rattle.group_plan.specs.declared.Kind.TheVariants.{Reading, Answer}
use Rattle.event_schedule.specs.Schedule.{Shape}
use Rattle.event_schedule.specs.Tables.{Readings, Masks, reading_at, IsOfPlan, IsMasks}
use Rattle.event_schedule.specs.Transcript.{shape_of_readings, Contents, contents_of_tables}
use Rattle.event_schedule.proofs.TranscriptLemmas.{shape-same}
use Rattle.ideal_masks.specs.Pools.{Pool, ShareWords}
use Rattle.ideal_masks.specs.Offsets.{link, delta, shift}
use Rattle.ideal_masks.proofs.OffsetLemmas.{reading_word-shifted, answer_word-shifted}
use Rattle.mask_graphs.specs.Graphs.{Graph, IsGraph}
use Rattle.mask_graphs.specs.Steps.{Step, handed}
use Rattle.mask_graphs.specs.Search.{steps_of}
use Rattle.mask_graphs.specs.Moves.{load, own_move, pair_move}
use Rattle.mask_graphs.specs.Statements.{KeepsRound}
use Rattle.mask_graphs.proofs.TreeLemmas.{Seen, sees-is}
use Rattle.mask_graphs.proofs.ClearLemmas.{AllSeen, steps-seen}
use Rattle.mask_graphs.proofs.KeptLemmas.{kept, search-fits}
use Rattle.lying_head_end.specs.Acts.{Act, Read, Tell, set_answered, does_answer}
use Rattle.lying_head_end.specs.Frames.{frame_sent, frames_after, frames, TellsSet}
use Rattle.lying_head_end.specs.Graphs.{graph_for}
use Rattle.lying_head_end.specs.Offsets.{AgreeTold, own_offset_told, pair_offset_told, offsets_told}
use Rattle.lying_head_end.proofs.ActLemmas.{after, answered-after, told-set}
use Rattle.lying_head_end.proofs.GraphLemmas.{answers-from, graph-is, left_out-set, member-is}

-- ---- contents that are alike in all that is sent

pub record AlikeTold (s : Shape) (c d : Contents) (whole : List Act) : Type 0 where
  pub readings : (g r i : ℕ) → s.present g r i ≡ true → c.reading g r i ≡ d.reading g r i
  pub answers : (g r i : ℕ) (set : List ℕ) → set_answered s g r i whole ≡ Some set → c.answer g r i set ≡ d.answer g r i set

abbrev pub read_frame : ℕ → ℕ → ℕ → ℕ → Option Frame
read_frame g r i word = Some (record { tag = record { group = g; round = r; meter = i; kind = Reading }; missing = []; word = word })

abbrev pub told_frame : ℕ → ℕ → ℕ → List ℕ → ℕ → Option Frame
told_frame g r i set word = Some (record { tag = record { group = g; round = r; meter = i; kind = Answer }; missing = set; word = word })

frame-same : (s : Shape) (c d : Contents) (act : Act) (past rest : List Act) → AlikeTold s c d (after (act ∷ past) rest) → frame_sent s c past act ≡ frame_sent s d past act
frame-same s c d (Read g r i) past rest alike = step (s.present g r i) refl
  where
    step : (b : Bool) → s.present g r i ≡ b
        → (if b then read_frame g r i (c.reading g r i) else None) ≡ (if b then read_frame g r i (d.reading g r i) else None)
    step true e = ap (read_frame g r i) (alike.readings g r i e)
    step false e = refl
frame-same s c d (Tell g r i set) past rest alike = step (does_answer s g r i set past) refl
  where
    step : (b : Bool) → does_answer s g r i set past ≡ b
        → (if b then told_frame g r i set (c.answer g r i set) else None) ≡ (if b then told_frame g r i set (d.answer g r i set) else None)
    step true e =
        ap (told_frame g r i set)
        (alike.answers g r i set (answered-after s g r i (Tell g r i set ∷ past) rest set (told-set s g r i set past e)))
    step false e = refl

pub frames-same : (s : Shape) (c d : Contents) (past rest : List Act) → AlikeTold s c d (after past rest) → frames_after s c past rest ≡ frames_after s d past rest
unfolding after
frames-same s c d past [] alike = refl
frames-same s c d past (act ∷ rest) alike =
    ap (λ f. f ∷ frames_after s c (act ∷ past) rest) (frame-same s c d act past rest alike)
    ∙ ap (λ fs. frame_sent s d past act ∷ fs) (frames-same s c d (act ∷ past) rest alike)

-- ---- no mask of the pool moves

link-apart : (u v sum i j : ℕ) → (u ≡ i → ⊥) → (v ≡ i → ⊥) → (link u v sum i j ≡ 0) × (link u v sum j i ≡ 0)
link-apart u v sum i j not_u not_v = (
  ap (λ b. (if b && (v == j) then sum else 0) + (if (u == j) && (v == i) then minus sum else 0)) (ne_eqb u i not_u)
      ∙ ap (λ b. 0 + (if (u == j) && b then minus sum else 0)) (ne_eqb v i not_v) ∙ ap (λ b. 0 + (if b then minus sum else 0)) (and-false (u == j)),
  ap (λ b. (if (u == j) && b then sum else 0) + (if (u == i) && (v == j) then minus sum else 0)) (ne_eqb v i not_v)
      ∙ ap (λ b. (if b then sum else 0) + (if (u == i) && (v == j) then minus sum else 0)) (and-false (u == j)) ∙ ap (λ b. 0 + (if b && (v == j) then minus sum else 0)) (ne_eqb u i not_u),
)
  where
    and-false : (b : Bool) → (b && false) ≡ false
    and-false true = refl
    and-false false = refl

-- a meter that shares no mask has no pair word that moves
pub pair-apart : (graph : Graph) (steps : List Step) → AllSeen graph steps → (left : ℕ → ℕ) (i j : ℕ) → ((k : ℕ) → graph.masked i k ≡ false) → ((k : ℕ) → graph.masked k i ≡ false)
    → (pair_move graph steps left i j ≡ 0) × (pair_move graph steps left j i ≡ 0)
pair-apart graph [] seen left i j alone back = (refl, refl)
pair-apart graph (s ∷ steps) seen left i j alone back =
    let f : Seen graph s.from s.to = sees-is graph s.from s.to seen.0 in
    let not_from : s.from ≡ i → ⊥ = λ e. both_ways (graph.masked s.from s.to) (ap (λ z. graph.masked z s.to) e ∙ alone s.to) f.masked in
    let not_to : s.to ≡ i → ⊥ = λ e. both_ways (graph.masked s.from s.to) (ap (graph.masked s.from) e ∙ back s.from) f.masked in
    let here = link-apart s.from s.to (left s.from) i j not_from not_to in
    let rest = pair-apart graph steps seen.1 (handed graph s left) i j alone back in (
      ap (λ z. z + pair_move graph steps (handed graph s left) i j) here.0 ∙ ap (λ z. 0 + z) rest.0,
      ap (λ z. z + pair_move graph steps (handed graph s left) j i) here.1 ∙ ap (λ z. 0 + z) rest.1,
    )

share-zero : (b c : Bool) (p q : ℕ) → p ≡ 0 → q ≡ 0 → word (if b then p else if c then minus q else 0) ≡ 0
share-zero true c p q e f = ap word e
share-zero false true p q e f = ap (λ z. word (minus z)) f
share-zero false false p q e f = refl

sum_share-apart : (move : ℕ → ℕ → ℕ) (i : ℕ) → ((j : ℕ) → (move i j ≡ 0) × (move j i ≡ 0)) → (xs : List ℕ) → word (sum_by (share move i) xs) ≡ 0
sum_share-apart move i none [] = refl
sum_share-apart move i none (x ∷ xs) =
    ap word (sum_by-cons (share move i) x xs)
    ∙ word-add_both (share move i x) 0 (sum_by (share move i) xs) 0 (share-zero (nat_lt i x) (nat_lt x i) (move i x) (move x i) (none x).0 (none x).1) (sum_share-apart move i none xs)

-- ---- one round

pool-apart : (pool : Pool) (s : Shape) (whole : List Act) (g r i : ℕ) → pool g i ≡ true → (k : ℕ) → (graph_for pool s whole g r).masked i k ≡ false
pool-apart pool s whole g r i inside k = ap (λ b. not b && not (pool g k)) inside

pool-back : (pool : Pool) (s : Shape) (whole : List Act) (g r i : ℕ) → pool g i ≡ true → (k : ℕ) → (graph_for pool s whole g r).masked k i ≡ false
pool-back pool s whole g r i inside k = ap (λ b. not (pool g k) && not b) inside ∙ and-false (not (pool g k))
  where
    and-false : (b : Bool) → (b && false) ≡ false
    and-false true = refl
    and-false false = refl

pub pool-still : (pool : Pool) (groups : List Group) (x : Readings) (d : ℕ → ℕ → ℕ → ℕ) (whole : List Act) (g r i j : ℕ) → pool g i ≡ true
    → (pair_offset_told pool (shape_of_readings groups x) d whole g r i j ≡ 0) × (pair_offset_told pool (shape_of_readings groups x) d whole g r j i ≡ 0)
pool-still pool groups x d whole g r i j inside =
    let s : Shape = shape_of_readings groups x in
    let graph : Graph = graph_for pool s whole g r in
    pair-apart graph (steps_of graph) (steps-seen graph) (load graph (d g r)) i j (pool-apart pool s whole g r i inside) (pool-back pool s whole g r i inside)

-- the words of a meter depend on its own word alone, and not on those of others
reading-one : (own own2 : ℕ → ℕ) (pair : ℕ → ℕ → ℕ) (ms : List ℕ) (i x : ℕ) → own i ≡ own2 i → reading_word own pair ms i x ≡ reading_word own2 pair ms i x
reading-one own own2 pair ms i x e = ap (λ o. word (x + o + sum_by (share pair i) ms)) e

answer-one : (own own2 : ℕ → ℕ) (pair : ℕ → ℕ → ℕ) (i : ℕ) (m : List ℕ) → own i ≡ own2 i → answer_word own pair i m ≡ answer_word own2 pair i m
answer-one own own2 pair i m e = ap (λ o. word (o + sum_by (share pair i) m)) e

pub alike_told : (pool : Pool) (groups : List Group) (x y : Readings) (m : Masks) (whole : List Act) → IsOfPlan groups x → AllByRecursion TellsSet whole → AgreeTold pool groups x y whole
    → AlikeTold (shape_of_readings groups x) (contents_of_tables groups x m) (contents_of_tables groups y (shift (offsets_told pool groups x y whole) m)) whole
alike_told pool groups x y m whole of_plan sets agree =
    let s : Shape = shape_of_readings groups x in
    let is : (g r : ℕ) → IsGraph (graph_for pool s whole g r) = λ g r. graph-is pool groups x whole g r of_plan sets in
    let round : (g r : ℕ) → KeepsRound (graph_for pool s whole g r) (steps_of (graph_for pool s whole g r)) (m.own g r) (m.pair g r) (reading_at x g r) (reading_at y g r)
    = λ g r. kept (graph_for pool s whole g r) (steps_of (graph_for pool s whole g r)) (m.own g r) (m.pair g r) (reading_at x g r) (reading_at y g r) (is g r)
    (search-fits (graph_for pool s whole g r) (reading_at x g r) (reading_at y g r) (is g r) (agree.sums g r)) in
    let own : ℕ → ℕ → ℕ → ℕ = own_offset_told pool s (delta x y) whole in
    let pair : ℕ → ℕ → ℕ → ℕ → ℕ = pair_offset_told pool s (delta x y) whole in
    let moved : (g r i : ℕ) → pool g i ≡ false → word (m.own g r i + own_move (graph_for pool s whole g r) (steps_of (graph_for pool s whole g r)) (delta x y g r) i) ≡ word (m.own g r i + own g r i)
    = λ g r i out. sym (ap (λ b. word (m.own g r i + (if b then 0 else own_move (graph_for pool s whole g r) (steps_of (graph_for pool s whole g r)) (delta x y g r) i))) out) in
    let still : (g r i : ℕ) (xs : List ℕ) → pool g i ≡ true → word (sum_by (share (pair g r) i) xs) ≡ 0
    = λ g r i xs inside. sum_share-apart (pair g r) i (λ j. pool-still pool groups x (delta x y) whole g r i j inside) xs in
    record {
      readings = λ g r i present.
          sym (⊎_elim
          (λ inside.
          reading_word-shifted (m.own g r) (own g r) (m.pair g r) (pair g r) (members groups g r) i (reading_at x g r i) (reading_at y g r i) 0
          (ap (λ b. word ((if b then 0 else own_move (graph_for pool s whole g r) (steps_of (graph_for pool s whole g r)) (delta x y g r) i) + sum_by (share (pair g r) i) (members groups g r))) inside
          ∙ ap word (zero-add (sum_by (share (pair g r) i) (members groups g r))) ∙ still g r i (members groups g r) inside)
          (ap word (add-zero (reading_at y g r i) ∙ sym (ap (λ o. unwrap_or o 0) (agree.readings g r i inside)))))
          (λ out.
          reading-one (λ k. word (m.own g r k + own g r k)) (λ k. word (m.own g r k + own_move (graph_for pool s whole g r) (steps_of (graph_for pool s whole g r)) (delta x y g r) k)) (λ a b. word (m.pair g r a b + pair g r a b)) (members groups g r) i (reading_at y g r i) (sym (moved g r i out))
          ∙ (round g r).readings i (member-is groups g r i (of_plan g r i present)))
          (cases_Bool (pool g i)));
      answers = λ g r i set answered.
          sym (⊎_elim
          (λ inside.
          answer_word-shifted (m.own g r) (own g r) (m.pair g r) (pair g r) i set
          (ap (λ b. if b then 0 else own_move (graph_for pool s whole g r) (steps_of (graph_for pool s whole g r)) (delta x y g r) i) inside)
          (still g r i set inside))
          (λ out.
          answer-one (λ k. word (m.own g r k + own g r k)) (λ k. word (m.own g r k + own_move (graph_for pool s whole g r) (steps_of (graph_for pool s whole g r)) (delta x y g r) k)) (λ a b. word (m.pair g r a b + pair g r a b)) i set (sym (moved g r i out))
          ∙ ap (answer_word (λ k. word (m.own g r k + own_move (graph_for pool s whole g r) (steps_of (graph_for pool s whole g r)) (delta x y g r) k)) (λ a b. word (m.pair g r a b + pair g r a b)) i) (sym (left_out-set pool s whole g r i set sets answered))
          ∙ (round g r).answers i (answers-from pool s whole g r i set out answered)
          ∙ ap (answer_word (m.own g r) (m.pair g r) i) (left_out-set pool s whole g r i set sets answered))
          (cases_Bool (pool g i)));
    }

pub two_worlds_told : (pool : Pool) (groups : List Group) (x y : Readings) (m : Masks) (acts : List Act) → IsOfPlan groups x → AllByRecursion TellsSet (after [] acts) → AgreeTold pool groups x y (after [] acts)
    → frames groups y (shift (offsets_told pool groups x y (after [] acts)) m) acts ≡ frames groups x m acts
two_worlds_told pool groups x y m acts of_plan sets agree =
    let moved : Contents = contents_of_tables groups y (shift (offsets_told pool groups x y (after [] acts)) m) in
    ap (λ s. frames_after s moved [] acts) (sym (shape-same groups x y agree.presence))
    ∙ sym (frames-same (shape_of_readings groups x) (contents_of_tables groups x m) moved [] acts (alike_told pool groups x y m (after [] acts) of_plan sets agree))

-- ---- the pool's words stay

stays-word : (a o : ℕ) → a < 2 ^ 64 → o ≡ 0 → a ≡ word (a + o)
stays-word a o fits none = omega (arith, fits, none)

pub words_stay_told : (pool : Pool) (groups : List Group) (x y : Readings) (m : Masks) (whole : List Act) → IsMasks m
    → ShareWords pool m (shift (offsets_told pool groups x y whole) m)
words_stay_told pool groups x y m whole fits =
    let o : Masks = offsets_told pool groups x y whole in
    record {
      own = λ g r i inside.
          stays-word (m.own g r i) (o.own g r i) (fits.own g r i)
          (ap (λ b. if b then 0 else own_move (graph_for pool (shape_of_readings groups x) whole g r) (steps_of (graph_for pool (shape_of_readings groups x) whole g r)) (delta x y g r) i) inside);
      pair = λ g r i j below inside.
          stays-word (m.pair g r i j) (o.pair g r i j) (fits.pair g r i j)
          (⊎_elim
          (λ first. (pool-still pool groups x (delta x y) whole g r i j first).0)
          (λ second. (pool-still pool groups x (delta x y) whole g r j i second).1)
          (or_cases (pool g i) (pool g j) inside));
    }
