-- The component of a meter: it is closed under joints, the smallest such set, and the component of each of its members.
use Rattle.std.proofs.Common.{◌≡◌, ℕ, zero, suc, ◌≤◌, ◌⊎◌, inl, inr, Bool, true, false, cond, not, ◌&&◌, ◌||◌, List, [], ◌∷◌, length, refl, sym, ap, ◌∙◌, arith, ⊎_elim}
use Rattle.std.specs.Prelude.{◌==◌, Option, Some, None}
use Rattle.std.specs.List.{filter, find, list_any}
use Rattle.std.proofs.lemmas.Bool.{false≢true, cases_eq, ne_eqb, eq-eqb, eqb-true, or_cases, or_left, or_right, and_parts, and_from, both_ways, not-true}
use Rattle.missing_round.specs.Sets.{is_member}
use Rattle.missing_round.proofs.SetLemmas.{is_member-filter, same_filter}
use Rattle.mask_graphs.specs.Graphs.{Graph}
use Rattle.mask_graphs.proofs.ListFacts.{find-member, find-none, find-passes, member_head, member_later, same_test}
use Rattle.sparse_masks.specs.Trees.{are_joined, joined_to, touches, widened, around, component}
use Rattle.sparse_masks.specs.Statements.{IsWhole, IsComponent}

-- ---- members of lists

pub in_filter : (p : ℕ → Bool) (i : ℕ) (xs : List ℕ) → is_member i xs ≡ true → p i ≡ true → is_member i (filter p xs) ≡ true
in_filter p i xs within is = is_member-filter p i xs ∙ and_from (is_member i xs) (p i) within is

pub of_filter : (p : ℕ → Bool) (i : ℕ) (xs : List ℕ) → is_member i (filter p xs) ≡ true → (is_member i xs ≡ true) × (p i ≡ true)
of_filter p i xs h = and_parts (is_member i xs) (p i) (sym (is_member-filter p i xs) ∙ h)

pub any-from : (p : ℕ → Bool) (xs : List ℕ) (j : ℕ) → is_member j xs ≡ true → p j ≡ true → list_any p xs ≡ true
any-from p [] j within is = absurd (false≢true within)
any-from p (x ∷ xs) j within is =
    ⊎_elim
    (λ here. or_left (p x) (list_any p xs) (ap p (eqb-true x j here) ∙ is))
    (λ later. or_right (p x) (list_any p xs) (any-from p xs j later is))
    (or_cases (x == j) (is_member j xs) within)

pub any-gives : (p : ℕ → Bool) (xs : List ℕ) → list_any p xs ≡ true → (j : ℕ) × (is_member j xs ≡ true) × (p j ≡ true)
any-gives p [] h = absurd (false≢true h)
any-gives p (x ∷ xs) h =
    ⊎_elim
    (λ here. (x, member_head x xs, here))
    (λ later. let rest = any-gives p xs later in (rest.0, member_later rest.0 x xs rest.1, rest.2))
    (or_cases (p x) (list_any p xs) h)

-- more pass a weaker test that one more passes
pub more_pass : (p q : ℕ → Bool) → ((i : ℕ) → p i ≡ true → q i ≡ true) → (xs : List ℕ) (j : ℕ) → is_member j xs ≡ true → p j ≡ false → q j ≡ true
    → suc (length (filter p xs)) ≤ length (filter q xs)
more_pass p q weaker [] j within out is = absurd (false≢true within)
more_pass p q weaker (x ∷ xs) j within out is =
    ⊎_elim
    (λ here. let same : x ≡ j = eqb-true x j here in first (p x) (q x) (ap p same ∙ out) (ap q same ∙ is))
    (λ later. next (p x) (q x) (weaker x) (more_pass p q weaker xs j later out is))
    (or_cases (x == j) (is_member j xs) within)
  where
    no_fewer : (ys : List ℕ) → length (filter p ys) ≤ length (filter q ys)
    no_fewer [] = omega arith
    no_fewer (y ∷ ys) = step (p y) (q y) (weaker y) (no_fewer ys)
      where
        step : (b c : Bool) → (b ≡ true → c ≡ true) → length (filter p ys) ≤ length (filter q ys) → length (cond b (y ∷ filter p ys) (filter p ys)) ≤ length (cond c (y ∷ filter q ys) (filter q ys))
        step true true h le = omega (arith, le)
        step true false h le = absurd (false≢true (h refl))
        step false true h le = omega (arith, le)
        step false false h le = le

    first : (b c : Bool) → b ≡ false → c ≡ true → suc (length (cond b (x ∷ filter p xs) (filter p xs))) ≤ length (cond c (x ∷ filter q xs) (filter q xs))
    first false true b_is c_is = omega (arith, no_fewer xs)
    first true c b_is c_is = absurd (false≢true (sym b_is))
    first false false b_is c_is = absurd (false≢true c_is)

    next : (b c : Bool) → (b ≡ true → c ≡ true) → suc (length (filter p xs)) ≤ length (filter q xs) → suc (length (cond b (x ∷ filter p xs) (filter p xs))) ≤ length (cond c (x ∷ filter q xs) (filter q xs))
    next true true h le = omega (arith, le)
    next true false h le = absurd (false≢true (h refl))
    next false true h le = omega (arith, le)
    next false false h le = le

-- ---- joints

abbrev pub IsSymmetric : Graph → Type 0
IsSymmetric graph = (i j : ℕ) → graph.masked i j ≡ graph.masked j i

pub eqb-back : (a b : ℕ) → (a == b) ≡ (b == a)
eqb-back a b = ⊎_elim (λ e. eq-eqb a b e ∙ sym (eq-eqb b a (sym e))) (λ ne. ne_eqb a b ne ∙ sym (ne_eqb b a (λ e. ne (sym e)))) (cases_eq a b)

pub joined-back : (graph : Graph) → IsSymmetric graph → (i j : ℕ) → are_joined graph i j ≡ are_joined graph j i
joined-back graph symmetric i j = ap (λ b. not b && graph.masked i j) (eqb-back i j) ∙ ap (λ b. not (j == i) && b) (symmetric i j)

pub joined-other : (graph : Graph) (i j : ℕ) → are_joined graph i j ≡ true → i ≡ j → ⊥
joined-other graph i j joined e =
    both_ways (i == j) (not-true (i == j) (and_parts (not (i == j)) (graph.masked i j) joined).0) (eq-eqb i j e)

-- ---- a set, and the members that touch it

pub keeps : (graph : Graph) (set : List ℕ) (j : ℕ) → is_member j graph.members ≡ true → is_member j set ≡ true → is_member j (widened graph set) ≡ true
keeps graph set j within in_set = in_filter (λ k. is_member k set || touches graph set k) j graph.members within (or_left (is_member j set) (touches graph set j) in_set)

pub takes : (graph : Graph) (set : List ℕ) (j k : ℕ) → is_member j graph.members ≡ true → is_member k graph.members ≡ true → are_joined graph j k ≡ true → is_member k set ≡ true
    → is_member j (widened graph set) ≡ true
takes graph set j k within other joined in_set =
    in_filter (λ l. is_member l set || touches graph set l) j graph.members within
    (or_right (is_member j set) (touches graph set j) (any-from (λ l. is_member l set) (joined_to graph j) k (in_filter (are_joined graph j) k graph.members other joined) in_set))

-- a member that touches a set
pub record Touches (graph : Graph) (set : List ℕ) (j : ℕ) : Type 0 where
  pub one : ℕ
  pub within : is_member one graph.members ≡ true
  pub joined : are_joined graph j one ≡ true
  pub in_set : is_member one set ≡ true

pub of_widened : (graph : Graph) (set : List ℕ) (j : ℕ) → is_member j (widened graph set) ≡ true → (is_member j set ≡ true) ⊎ Touches graph set j
of_widened graph set j h =
    let is = (of_filter (λ k. is_member k set || touches graph set k) j graph.members h).1 in
    touching (is_member j set) (touches graph set j) refl refl is
  where
    touching : (b c : Bool) → is_member j set ≡ b → touches graph set j ≡ c → (b || c) ≡ true → (is_member j set ≡ true) ⊎ Touches graph set j
    touching true c b_is c_is h = inl b_is
    touching false true b_is c_is h =
        let found = any-gives (λ k. is_member k set) (joined_to graph j) c_is in
        let joint = of_filter (are_joined graph j) found.0 graph.members found.1 in
        inr (record { one = found.0; within = joint.0; joined = joint.1; in_set = found.2 })
    touching false false b_is c_is h = absurd (false≢true h)

-- ---- the sets around a meter

pub around-members : (graph : Graph) (i k j : ℕ) → is_member j (around graph i k) ≡ true → is_member j graph.members ≡ true
around-members graph i zero j h = (of_filter (λ l. l == i) j graph.members h).0
around-members graph i (suc k) j h = (of_filter (λ l. is_member l (around graph i k) || touches graph (around graph i k) l) j graph.members h).0

pub around-self : (graph : Graph) (i : ℕ) → is_member i graph.members ≡ true → is_member i (around graph i zero) ≡ true
around-self graph i within = in_filter (λ l. l == i) i graph.members within (eq-eqb i i refl)

pub around-zero : (graph : Graph) (i j : ℕ) → is_member j (around graph i zero) ≡ true → j ≡ i
around-zero graph i j h = eqb-true j i (of_filter (λ l. l == i) j graph.members h).1

pub around-more : (graph : Graph) (i k j : ℕ) → is_member j (around graph i k) ≡ true → is_member j (around graph i (suc k)) ≡ true
around-more graph i k j h = keeps graph (around graph i k) j (around-members graph i k j h) h

pub around-le : (graph : Graph) (i j k l : ℕ) → k ≤ l → is_member j (around graph i k) ≡ true → is_member j (around graph i l) ≡ true
around-le graph i j k zero le h = let none : k ≡ 0 = omega (arith, le) in ap (λ n. is_member j (around graph i n)) (sym none) ∙ h
around-le graph i j k (suc l) le h =
    ⊎_elim
    (λ e. ap (λ n. is_member j (around graph i n)) (sym e) ∙ h)
    (λ ne. around-more graph i l j (around-le graph i j k l (omega (arith, le, ne)) h))
    (cases_eq k (suc l))

-- what is the same at joined members is the same in all of them
pub around-same : (graph : Graph) (q : ℕ → Bool) → IsWhole graph q → (i : ℕ) → is_member i graph.members ≡ true → (k j : ℕ) → is_member j (around graph i k) ≡ true → q j ≡ q i
around-same graph q whole i within zero j h = ap q (around-zero graph i j h)
around-same graph q whole i within (suc k) j h =
    ⊎_elim
    (λ before. around-same graph q whole i within k j before)
    (λ t. whole j t.one (around-members graph i (suc k) j h) t.within t.joined ∙ around-same graph q whole i within k t.one t.in_set)
    (of_widened graph (around graph i k) j h)

-- ---- they stop growing

abbrev pub IsClosed : Graph → List ℕ → Type 0
IsClosed graph set = (j k : ℕ) → is_member j graph.members ≡ true → is_member k set ≡ true → are_joined graph j k ≡ true → is_member j set ≡ true

still : (graph : Graph) (i k : ℕ) → IsClosed graph (around graph i k) → (j : ℕ) → is_member j (around graph i (suc k)) ≡ true → is_member j (around graph i k) ≡ true
still graph i k closed j h =
    ⊎_elim (λ before. before) (λ t. closed j t.one (around-members graph i (suc k) j h) t.in_set t.joined) (of_widened graph (around graph i k) j h)

closed-more : (graph : Graph) (i k : ℕ) → IsClosed graph (around graph i k) → IsClosed graph (around graph i (suc k))
closed-more graph i k closed j l within in_set joined = around-more graph i k j (closed j l within (still graph i k closed l in_set) joined)

-- how many members are in the set
abbrev pub count_in : Graph → List ℕ → ℕ
count_in graph set = length (filter (λ j. is_member j set) graph.members)

grows : (graph : Graph) (i : ℕ) → is_member i graph.members ≡ true → (k : ℕ) → IsClosed graph (around graph i k) ⊎ (suc k ≤ count_in graph (around graph i k))
grows graph i within zero =
    let one = more_pass (λ _. false) (λ j. is_member j (around graph i zero)) (λ j h. absurd (false≢true h)) graph.members i within refl (around-self graph i within) in
    inr (omega (arith, one))
grows graph i within (suc k) =
    ⊎_elim
    (λ closed. inl (closed-more graph i k closed))
    (λ many. step many (find (λ j. not (is_member j (around graph i k)) && touches graph (around graph i k) j) graph.members) refl)
    (grows graph i within k)
  where
    step : suc k ≤ count_in graph (around graph i k) → (o : Option ℕ) → find (λ j. not (is_member j (around graph i k)) && touches graph (around graph i k) j) graph.members ≡ o
        → IsClosed graph (around graph i (suc k)) ⊎ (suc (suc k) ≤ count_in graph (around graph i (suc k)))
    step many None e =
        inl (closed-more graph i k (λ j l is_in in_set joined.
        inside (is_member j (around graph i k)) (touches graph (around graph i k) j)
        (find-none (λ m. not (is_member m (around graph i k)) && touches graph (around graph i k) m) graph.members e j is_in)
        (any-from (λ m. is_member m (around graph i k)) (joined_to graph j) l (in_filter (are_joined graph j) l graph.members (around-members graph i k l in_set) joined) in_set)))
      where
        inside : (b c : Bool) → (not b && c) ≡ false → c ≡ true → b ≡ true
        inside true c h is = refl
        inside false true h is = absurd (false≢true (sym h))
        inside false false h is = absurd (false≢true is)
    step many (Some j) e =
        let test : ℕ → Bool = λ m. not (is_member m (around graph i k)) && touches graph (around graph i k) m in
        let both = and_parts (not (is_member j (around graph i k))) (touches graph (around graph i k) j) (find-passes test graph.members j e) in
        let is_in = find-member test graph.members j e in
        let more = more_pass (λ m. is_member m (around graph i k)) (λ m. is_member m (around graph i (suc k))) (λ m h. around-more graph i k m h) graph.members j is_in
        (not-true (is_member j (around graph i k)) both.0)
        (in_filter (λ l. is_member l (around graph i k) || touches graph (around graph i k) l) j graph.members is_in (or_right (is_member j (around graph i k)) (touches graph (around graph i k) j) both.1)) in
        inr (omega (arith, many, more))

count_le : (graph : Graph) (set : List ℕ) → count_in graph set ≤ length graph.members
count_le graph set = go graph.members
  where
    go : (xs : List ℕ) → length (filter (λ j. is_member j set) xs) ≤ length xs
    go [] = omega arith
    go (x ∷ xs) = step (is_member x set) (go xs)
      where
        step : (b : Bool) → length (filter (λ j. is_member j set) xs) ≤ length xs → length (cond b (x ∷ filter (λ j. is_member j set) xs) (filter (λ j. is_member j set) xs)) ≤ length (x ∷ xs)
        step true le = omega (arith, le)
        step false le = omega (arith, le)

pub component-closed : (graph : Graph) (i : ℕ) → is_member i graph.members ≡ true → IsClosed graph (component graph i)
component-closed graph i within =
    ⊎_elim (λ closed. closed) (λ many. absurd (omega (arith, many, count_le graph (component graph i)))) (grows graph i within (length graph.members))

-- ---- components

pub component-self : (graph : Graph) (i : ℕ) → is_member i graph.members ≡ true → is_member i (component graph i) ≡ true
component-self graph i within = around-le graph i i zero (length graph.members) (omega arith) (around-self graph i within)

pub component-whole : (graph : Graph) → IsSymmetric graph → (i : ℕ) → is_member i graph.members ≡ true → IsWhole graph (λ j. is_member j (component graph i))
component-whole graph symmetric i within j k j_in k_in joined =
    same_test (is_member j (component graph i)) (is_member k (component graph i))
    (λ h. component-closed graph i within k j k_in h (joined-back graph symmetric k j ∙ joined))
    (λ h. component-closed graph i within j k j_in h joined)

pub is_component : (graph : Graph) → IsSymmetric graph → (i : ℕ) → is_member i graph.members ≡ true → IsComponent graph i
is_component graph symmetric i within = record {
  some = component-self graph i within;
  whole = component-whole graph symmetric i within;
  smallest = λ q whole one j h. around-same graph q whole i within (length graph.members) j h ∙ one;
}

filtered : (p : ℕ → Bool) (xs : List ℕ) → filter p xs ≡ filter (λ j. is_member j (filter p xs)) xs
filtered p xs = same_filter p (λ j. is_member j (filter p xs)) xs (λ j within. sym (is_member-filter p j xs ∙ ap (λ b. b && p j) within))

pub around-filtered : (graph : Graph) (i k : ℕ) → around graph i k ≡ filter (λ j. is_member j (around graph i k)) graph.members
around-filtered graph i zero = filtered (λ l. l == i) graph.members
around-filtered graph i (suc k) = filtered (λ l. is_member l (around graph i k) || touches graph (around graph i k) l) graph.members

-- a member of a component has the same one
pub component-same : (graph : Graph) → IsSymmetric graph → (i j : ℕ) → is_member i graph.members ≡ true → is_member j (component graph i) ≡ true → component graph j ≡ component graph i
component-same graph symmetric i j within h =
    let n : ℕ = length graph.members in
    let j_in : is_member j graph.members ≡ true = around-members graph i n j h in
    let mine : ℕ → Bool = λ l. is_member l (component graph i) in
    let other : ℕ → Bool = λ l. is_member l (component graph j) in
    let back : is_member i (component graph j) ≡ true
    = sym (around-same graph other (component-whole graph symmetric j j_in) i within n j h) ∙ component-self graph j j_in in
    around-filtered graph j n
    ∙ same_filter other mine graph.members
    (λ l l_in. same_test (other l) (mine l)
    (λ is. around-same graph mine (component-whole graph symmetric i within) j j_in n l is ∙ h)
    (λ is. around-same graph other (component-whole graph symmetric j j_in) i within n l is ∙ back))
    ∙ sym (around-filtered graph i n)
