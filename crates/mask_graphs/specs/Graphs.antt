-- A round as a graph: its members are joined by the masks that hide their readings.
use Rattle.std.specs.Prelude.{◌≡◌, ℕ, ◌==◌, Bool, true, not, ◌&&◌, List, filter, sum_by}
use Rattle.std.specs.List.Sorted.{IsStrictlyIncreasing}
use Rattle.missing_round.specs.Sets.{is_member}

-- the members of a round; which two of them share a mask; which of them answered; and which members the answer of a meter left standing,
-- so that its masks with them aren't in the answer
pub record Graph : Type 0 where
  pub members : List ℕ
  pub masked : ℕ → ℕ → Bool
  pub answered : ℕ → Bool
  pub stands : ℕ → ℕ → Bool

-- a meter sees another one with which it shares a mask, if it answered and its answer left that one standing
abbrev pub sees : Graph → ℕ → ℕ → Bool
sees graph i j = graph.answered i && not (i == j) && graph.masked i j && graph.stands i j

-- two meters are linked where each sees the other
abbrev pub linked : Graph → ℕ → ℕ → Bool
linked graph i j = sees graph i j && sees graph j i

-- no link leads from meters of p to others
abbrev pub IsClosed : Graph → (ℕ → Bool) → Type 0
IsClosed graph p = (i j : ℕ) → linked graph i j ≡ true → p i ≡ p j

-- a part is a smallest set of meters that answered, one at least, which no link leaves
pub record IsPart (graph : Graph) (p : ℕ → Bool) : Type 0 where
  pub one : ℕ
  pub some : p one ≡ true
  pub answered : (i : ℕ) → p i ≡ true → graph.answered i ≡ true
  pub closed : IsClosed graph p
  pub smallest : (q : ℕ → Bool) → IsClosed graph q → (i j : ℕ) → p i ≡ true → p j ≡ true → q i ≡ q j

-- it is bare where each of its meters is seen by every one that it sees
abbrev pub IsBare : Graph → (ℕ → Bool) → Type 0
IsBare graph p = (i j : ℕ) → p i ≡ true → sees graph i j ≡ true → sees graph j i ≡ true

-- the sum of the readings of the members in p
abbrev pub sum_in : Graph → (ℕ → Bool) → (ℕ → ℕ) → ℕ
sum_in graph p x = sum_by x (filter p graph.members)

-- the readings x and y have one sum over each bare part
abbrev pub HaveOneSum : Graph → (ℕ → ℕ) → (ℕ → ℕ) → Type 0
HaveOneSum graph x y = (p : ℕ → Bool) → IsPart graph p → IsBare graph p → sum_in graph p x ≡ sum_in graph p y

-- the members ascend, only members answer or are left standing, and a mask is shared by both
pub record IsGraph (graph : Graph) : Type 0 where
  pub ascending : IsStrictlyIncreasing graph.members
  pub answered : (i : ℕ) → graph.answered i ≡ true → is_member i graph.members ≡ true
  pub stands : (i j : ℕ) → graph.stands i j ≡ true → is_member j graph.members ≡ true
  pub masked : (i j : ℕ) → graph.masked i j ≡ graph.masked j i
