-- What the calls of a command on the desk come to, one after the other.
use Rattle.std.proofs.Common.{◌≡◌, List, [], ◌∷◌, ℕ, false, refl, subst, ap, ◌∙◌, ◌++◌, inr, Bool, true, inl}
use Rattle.desk_outside.specs.Desk.{View, Fetched, after_step, IsLonger}
use Rattle.command_files.specs.Calls.{after_fetches, IsRead, HasFetched, EndsAtFetch, Unread, Putting, HasPut, names_of, Unwritable, PutsEnd, putting}
use Rattle.command_words.specs.declared.outcome.Outcome.{Outcome}
use Rattle.command_words.specs.declared.outcome.Outcome.TheVariants.{NoMemory, Unwritten}
use Rattle.command_words.specs.declared.outcome.Outcome.TheVariants as outcomes
use Rattle.command_words.specs.declared.unread.Unread.TheVariants as of_unread
use Rattle.command_words.specs.declared.unwritten.Unwritten.TheVariants as of_unwritten
use Rattle.command_words.specs.Limits.{most_bytes}

-- ---- fetches

-- fetches leave what the names hold
held_after : (names : List (List ℕ)) (v : View) → (after_fetches names v).held ≡ v.held
unfolding after_step
held_after [] v = refl
held_after (name ∷ names) v = held_after names (after_step v (Fetched name false))

pub read_after : (names : List (List ℕ)) (name bytes : List ℕ) (v u : View) → u ≡ after_fetches names v → IsRead (u.held name) bytes → IsRead (v.held name) bytes
read_after names name bytes v u after is = subst (λ held. IsRead (held name) bytes) (ap (λ v. v.held) after ∙ held_after names v) is

-- what ends the later fetches, ends them all
some_after : (names more : List (List ℕ)) (v w : View) → HasFetched more (after_fetches names v) w → HasFetched (names ++ more) v w
some_after [] more v w some = some
some_after (name ∷ names) more v w some = inr (some_after names more (after_step v (Fetched name false)) w some)

last_after : (names more : List (List ℕ)) (failed : Bool) (v w : View) (last : List ℕ) → EndsAtFetch more failed (after_fetches names v) w last
    → EndsAtFetch (names ++ more) failed v w last
last_after [] more failed v w last ends = ends
last_after (name ∷ names) more failed v w last ends = inr (last_after names more failed (after_step v (Fetched name false)) w last ends)

pub then_unread : (names more : List (List ℕ)) (v u w : View) (outcome : Outcome) → u ≡ after_fetches names v → Unread more u w outcome
    → Unread (names ++ more) v w outcome
then_unread names more v u w NoMemory after ends = some_after names more v w (subst (λ u. HasFetched more u w) after ends)
then_unread names more v u w (outcomes.Unread (of_unread.File name)) after ends = last_after names more true v w name.now (subst (λ u. EndsAtFetch more true u w name.now) after ends)
then_unread names more v u w (outcomes.Unread (of_unread.TooLong name)) after ends = (
  last_after names more false v w name.now (subst (λ u. EndsAtFetch more false u w name.now) after ends.0),
  subst (λ held. IsLonger (held name.now) most_bytes) (ap (λ v. v.held) after ∙ held_after names v) ends.1,
)
then_unread names more v u w _ after ends = absurd ends

-- two files were read, one after the other
pub two_read : (first second : List ℕ) (v u w : View) (one two : List ℕ) → IsRead (v.held first) one → u ≡ after_fetches (first ∷ []) v
    → IsRead (u.held second) two → w ≡ after_fetches (second ∷ []) u
    → IsRead (v.held first) one × IsRead (v.held second) two × (w ≡ after_fetches (first ∷ second ∷ []) v)
two_read first second v u w one two first_read after second_read end =
    (first_read, read_after (first ∷ []) second two v u after second_read, end ∙ ap (after_fetches (second ∷ [])) after)

-- ---- puts

-- nothing was put
has_put_none : (files : List Putting) (v w : View) → w ≡ v → HasPut files v w
has_put_none [] v w same = same
has_put_none (p ∷ ps) v w same = inl same

-- a name can't be written, so no file was put
pub unwritable_puts : (files : List Putting) (line : List ℕ) (v w : View) (outcome : Outcome) → Unwritable (names_of files) v w outcome → PutsEnd files line v w outcome
unwritable_puts files line v w NoMemory ends = has_put_none files v w ends
unwritable_puts files line v w (Unwritten (of_unwritten.File name)) ends = inr ends
unwritable_puts files line v w _ ends = absurd ends

-- two files are put under their names
pub puts_named : (n m first second one two line : List ℕ) (v w : View) (outcome : Outcome) → n ≡ first → m ≡ second
    → PutsEnd (putting n one ∷ putting m two ∷ []) line v w outcome → PutsEnd (putting first one ∷ putting second two ∷ []) line v w outcome
puts_named n m first second one two line v w outcome n_is m_is ends =
    subst (λ name. PutsEnd (putting first one ∷ putting name two ∷ []) line v w outcome) m_is
    (subst (λ name. PutsEnd (putting name one ∷ putting m two ∷ []) line v w outcome) n_is ends)
