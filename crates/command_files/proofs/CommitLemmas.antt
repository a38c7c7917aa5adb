-- Files that are committed one after the other.
use Rattle.std.proofs.Common.{◌≡◌, ◌⊎◌, List, [], ◌∷◌, ℕ, inl, inr, subst, Bool, Ok, Err}
use Rattle.desk_outside.specs.Desk.{View, Unstored, after_step, Stored}
use Rattle.command_files.specs.Calls.{Putting, EndsAtPut, NonePut, PutsEnd, CommitsEnd, HasPut, Unwritable, putting, Committed}
use Rattle.command_words.specs.declared.outcome.Outcome.{Outcome}
use Rattle.command_words.specs.declared.outcome.Outcome.TheVariants.{Done, NoMemory, Unwritten}
use Rattle.command_words.specs.declared.unwritten.Unwritten.TheVariants as of_unwritten

-- ---- commits

one_end : (p : Putting) (v w : View) (last : List ℕ) → EndsAtPut (p ∷ []) v w last ⊎ NonePut (p.name ∷ []) v w last → EndsAtPut (p ∷ []) v w last
one_end p v w last (inl ends) = ends
one_end p v w last (inr (inl same, unstored)) = inl (same, subst (λ n. w ≡ after_step v (Unstored n)) same unstored)
one_end p v w last (inr (inr none, unstored)) = absurd none

-- one file is put
one_commits : (p : Putting) (line : List ℕ) (v w : View) (outcome : Outcome) → PutsEnd (p ∷ []) line v w outcome → CommitsEnd (p ∷ []) line v w outcome
one_commits p line v w Done ends = ends
one_commits p line v w NoMemory ends = ends
one_commits p line v w (Unwritten (of_unwritten.File name)) ends = one_end p v w name.now ends
one_commits p line v w (Unwritten of_unwritten.Output) ends = ends
one_commits p line v w _ ends = absurd ends

-- a file more was put before
more_commits : (p : Putting) (ps : List Putting) (line : List ℕ) (v u w : View) (outcome : Outcome) → u ≡ after_step v (Stored p.name p.bytes) → CommitsEnd ps line u w outcome
    → CommitsEnd (p ∷ ps) line v w outcome
more_commits p ps line v u w Done put ends = subst (λ u. CommitsEnd ps line u w Done) put ends
more_commits p ps line v u w NoMemory put ends = inr (subst (λ u. HasPut ps u w) put ends)
more_commits p ps line v u w (Unwritten (of_unwritten.File name)) put ends = inr (subst (λ u. EndsAtPut ps u w name.now) put ends)
more_commits p ps line v u w (Unwritten of_unwritten.Output) put ends = subst (λ u. CommitsEnd ps line u w (Unwritten of_unwritten.Output)) put ends
more_commits p ps line v u w _ put ends = absurd ends

first_end : (p : Putting) (ps : List Putting) (v w : View) (last : List ℕ) → NonePut (p.name ∷ []) v w last → EndsAtPut (p ∷ ps) v w last
first_end p ps v w last (inl same, unstored) = inl (same, subst (λ n. w ≡ after_step v (Unstored n)) same unstored)
first_end p ps v w last (inr none, unstored) = absurd none

-- the first of some files can't take its name
first_fails : (p : Putting) (ps : List Putting) (line : List ℕ) (v w : View) (outcome : Outcome) → Unwritable (p.name ∷ []) v w outcome → CommitsEnd (p ∷ ps) line v w outcome
first_fails p ps line v w NoMemory ends = inl ends
first_fails p ps line v w (Unwritten (of_unwritten.File name)) ends = first_end p ps v w name.now ends
first_fails p ps line v w _ ends = absurd ends

pub commits_put : (files : List Putting) (line : List ℕ) (v w : View) (outcome : Outcome) → CommitsEnd files line v w outcome → PutsEnd files line v w outcome
commits_put files line v w Done ends = ends
commits_put files line v w NoMemory ends = ends
commits_put files line v w (Unwritten (of_unwritten.File name)) ends = inl ends
commits_put files line v w (Unwritten of_unwritten.Output) ends = ends
commits_put files line v w _ ends = absurd ends

-- a file was committed, and then the others
pub then_commits : (has : List ℕ → Type 0) (failed : Bool) (name bytes : List ℕ) (ps : List Putting) (line : List ℕ) (v u w : View) (done : Unit {0}) (outcome : Outcome)
    → Committed has failed name v u (Ok done) → has bytes → CommitsEnd ps line u w outcome → CommitsEnd (putting name bytes ∷ ps) line v w outcome
then_commits has failed name bytes ps line v u w done outcome committed holds ends = more_commits (putting name bytes) ps line v u w outcome (committed.1 bytes holds) ends

pub then_one : (has : List ℕ → Type 0) (failed : Bool) (name bytes : List ℕ) (p : Putting) (line : List ℕ) (v u w : View) (done : Unit {0}) (outcome : Outcome)
    → Committed has failed name v u (Ok done) → has bytes → PutsEnd (p ∷ []) line u w outcome → CommitsEnd (putting name bytes ∷ p ∷ []) line v w outcome
then_one has failed name bytes p line v u w done outcome committed holds ends =
    then_commits has failed name bytes (p ∷ []) line v u w done outcome committed holds (one_commits p line u w outcome ends)

pub not_committed : (has : List ℕ → Type 0) (failed : Bool) (name bytes : List ℕ) (ps : List Putting) (line : List ℕ) (v w : View) (outcome : Outcome)
    → Committed has failed name v w (Err outcome) → CommitsEnd (putting name bytes ∷ ps) line v w outcome
not_committed has failed name bytes ps line v w outcome ends = first_fails (putting name bytes) ps line v w outcome ends

-- three files are put under their names
pub three_named : (n m k first second third one two three line : List ℕ) (v w : View) (outcome : Outcome) → n ≡ first → m ≡ second → k ≡ third
    → PutsEnd (putting n one ∷ putting m two ∷ putting k three ∷ []) line v w outcome → PutsEnd (putting first one ∷ putting second two ∷ putting third three ∷ []) line v w outcome
three_named n m k first second third one two three line v w outcome n_is m_is k_is ends =
    subst (λ name. PutsEnd (putting first one ∷ putting second two ∷ putting name three ∷ []) line v w outcome) k_is
    (subst (λ name. PutsEnd (putting first one ∷ putting name two ∷ putting k three ∷ []) line v w outcome) m_is
    (subst (λ name. PutsEnd (putting name one ∷ putting m two ∷ putting k three ∷ []) line v w outcome) n_is ends))

-- three files are committed under their names
pub three_put : (has : List ℕ → Type 0) (failed : Bool) (n m k first second third one two three line : List ℕ) (v u w : View) (done : Unit {0}) (outcome : Outcome) → n ≡ first → m ≡ second → k ≡ third
    → Committed has failed n v u (Ok done) → has one → CommitsEnd (putting m two ∷ putting k three ∷ []) line u w outcome
    → PutsEnd (putting first one ∷ putting second two ∷ putting third three ∷ []) line v w outcome
three_put has failed n m k first second third one two three line v u w done outcome n_is m_is k_is committed holds ends =
    three_named n m k first second third one two three line v w outcome n_is m_is k_is
    (commits_put (putting n one ∷ putting m two ∷ putting k three ∷ []) line v w outcome
    (then_commits has failed n one (putting m two ∷ putting k three ∷ []) line v u w done outcome committed holds ends))

pub none_of_three : (has : List ℕ → Type 0) (failed : Bool) (n m k first second third one two three line : List ℕ) (v w : View) (outcome : Outcome) → n ≡ first → m ≡ second → k ≡ third
    → Committed has failed n v w (Err outcome) → PutsEnd (putting first one ∷ putting second two ∷ putting third three ∷ []) line v w outcome
none_of_three has failed n m k first second third one two three line v w outcome n_is m_is k_is ends =
    three_named n m k first second third one two three line v w outcome n_is m_is k_is
    (commits_put (putting n one ∷ putting m two ∷ putting k three ∷ []) line v w outcome (not_committed has failed n one (putting m two ∷ putting k three ∷ []) line v w outcome ends))
