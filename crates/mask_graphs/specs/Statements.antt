-- What the laws of this crate say. Each is proved for every graph of masks.
use Rattle.std.specs.Prelude.{◌≡◌, ℕ, ◌+◌, ◌<◌, ◌≤◌, ◌==◌, Bool, true, false, ◌||◌, List, All, Any, filter, length}
use Rattle.missing_round.specs.Words.{word, minus, reading_word, answer_word}
use Rattle.missing_round.specs.Sets.{is_member}
use Rattle.mask_graphs.specs.Graphs.{Graph, IsGraph, IsPart, IsBare, HaveOneSum, sees, sum_in}
use Rattle.mask_graphs.specs.Steps.{Step}
use Rattle.mask_graphs.specs.Search.{bare_parts, steps_of}
use Rattle.mask_graphs.specs.Moves.{own_move, pair_move, load, left_out, Fit}

-- by how much each reading is more in the first list than in the second
abbrev pub difference : (ℕ → ℕ) → (ℕ → ℕ) → ℕ → ℕ
difference x y i = word (x i + minus (y i))

-- ---- steps keep the words

-- the own words and the pair words of the round, moved by the steps
abbrev pub moved_own : Graph → List Step → (ℕ → ℕ) → (ℕ → ℕ) → ℕ → ℕ
moved_own graph steps d own i = word (own i + own_move graph steps d i)

abbrev pub moved_pair : Graph → List Step → (ℕ → ℕ) → (ℕ → ℕ → ℕ) → ℕ → ℕ → ℕ
moved_pair graph steps d pair i j = word (pair i j + pair_move graph steps (load graph d) i j)

-- with the moved words the readings y have each reading word and each answer word that the readings x have
pub record KeepsRound (graph : Graph) (steps : List Step) (own : ℕ → ℕ) (pair : ℕ → ℕ → ℕ) (x y : ℕ → ℕ) : Type 0 where
  pub readings : (i : ℕ) → is_member i graph.members ≡ true →
      reading_word (moved_own graph steps (difference x y) own) (moved_pair graph steps (difference x y) pair) graph.members i (y i)
      ≡ reading_word own pair graph.members i (x i)
  pub answers : (i : ℕ) → graph.answered i ≡ true →
      answer_word (moved_own graph steps (difference x y) own) (moved_pair graph steps (difference x y) pair) i (left_out graph i)
      ≡ answer_word own pair i (left_out graph i)

-- steps that fit keep the round
abbrev pub StepsKeepRounds : Type 0
StepsKeepRounds = (graph : Graph) (steps : List Step) (own : ℕ → ℕ) (pair : ℕ → ℕ → ℕ) (x y : ℕ → ℕ) →
    IsGraph graph → Fit graph steps (difference x y) → KeepsRound graph steps own pair x y

-- the steps of the search fit for readings that have one sum over each bare part
abbrev pub SearchedStepsFit : Type 0
SearchedStepsFit = (graph : Graph) (x y : ℕ → ℕ) → IsGraph graph → HaveOneSum graph x y → Fit graph (steps_of graph) (difference x y)

-- ---- the search

-- the meters in the list
abbrev pub listed : List ℕ → ℕ → Bool
listed part i = is_member i part

-- each list of the search is a bare part, and each bare part is one of the lists
pub record FindsBareParts (graph : Graph) : Type 0 where
  pub bare : All (λ part. IsPart graph (listed part) × IsBare graph (listed part)) (bare_parts graph)
  pub every : (p : ℕ → Bool) → IsPart graph p → IsBare graph p → Any (λ part. (i : ℕ) → is_member i part ≡ p i) (bare_parts graph)

abbrev pub BarePartsAreFound : Type 0
BarePartsAreFound = (graph : Graph) → IsGraph graph → FindsBareParts graph

-- ---- what the words tell

-- two worlds show the same words of the meters in p, and where two meters share no mask their pair word is the same in both
pub record ShowsTheSame (graph : Graph) (p : ℕ → Bool) (own : ℕ → ℕ) (pair : ℕ → ℕ → ℕ) (x own2 : ℕ → ℕ) (pair2 : ℕ → ℕ → ℕ) (y : ℕ → ℕ) : Type 0 where
  pub readings : (i : ℕ) → p i ≡ true → reading_word own pair graph.members i (x i) ≡ reading_word own2 pair2 graph.members i (y i)
  pub answers : (i : ℕ) → p i ≡ true → answer_word own pair i (left_out graph i) ≡ answer_word own2 pair2 i (left_out graph i)
  pub unmasked : (i j : ℕ) → i < j → graph.masked i j ≡ false → pair i j ≡ pair2 i j

-- then the readings have one sum, modulo 2^64, over a part that is bare
abbrev pub BareSumsAreTold : Type 0
BareSumsAreTold = (graph : Graph) (p : ℕ → Bool) (own : ℕ → ℕ) (pair : ℕ → ℕ → ℕ) (x own2 : ℕ → ℕ) (pair2 : ℕ → ℕ → ℕ) (y : ℕ → ℕ) →
    IsGraph graph → IsPart graph p → IsBare graph p → ShowsTheSame graph p own pair x own2 pair2 y → word (sum_in graph p x) ≡ word (sum_in graph p y)

-- ---- how large a part is

-- a bare part has each meter that one of its meters sees, and so no fewer meters than one of them sees with itself
abbrev pub BarePartsAreLarge : Type 0
BarePartsAreLarge = (graph : Graph) (p : ℕ → Bool) → IsPart graph p → IsBare graph p → (i : ℕ) → p i ≡ true →
    length (filter (λ j. (i == j) || sees graph i j) graph.members) ≤ length (filter p graph.members)
