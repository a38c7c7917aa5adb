-- Ends of commands that are no refusals: of fetches that find what is held, and of puts.
use Rattle.std.proofs.Common.{◌≡◌, ℕ, List, subst, arith, Result, Ok, Err, ◌⊎◌, refl, inl, inr, [], false, ◌∷◌}
use Rattle.std.specs.Prelude.{Some}
use Rattle.desk_outside.specs.Desk.{Held, Holds, View, IsLonger}
use Rattle.command_files.specs.Calls.{IsRead, Putting, PutsEnd, names_of, Unwritable, EndsAtFetch, Unread}
use Rattle.commands.specs.Accepted.{HoldsFile}
use Rattle.command_words.specs.Limits.{most_bytes}
use Rattle.command_words.specs.declared.outcome.Outcome.{Outcome}
use Rattle.command_words.specs.Outcomes.{status_of, IsFault}
use Rattle.command_words.specs.declared.outcome.Outcome.TheVariants.{Done, NoMemory, Unwritten}
use Rattle.command_words.specs.declared.outcome.Outcome.TheVariants as outcomes
use Rattle.command_words.specs.declared.unread.Unread.TheVariants as of_unread
use Rattle.command_files.proofs.CallLemmas.{unwritable_puts}

-- ---- what was read

-- the bytes that were read are those that the name holds
same_bytes : (held : Held) (told bytes : List ℕ) → held ≡ Some (Some told) → Holds held bytes → told ≡ bytes
same_bytes held told bytes is holds =
    let h : Holds (Some (Some told)) bytes = subst (λ held. Holds held bytes) is holds in
    cc

pub read_is : (v : View) (name told bytes : List ℕ) → HoldsFile v name told → IsRead (v.held name) bytes → told ≡ bytes
read_is v name told bytes file is = same_bytes (v.held name) told bytes file.held is.0

pub not_longer : (v : View) (name told last : List ℕ) → HoldsFile v name told → last ≡ name → IsLonger (v.held last) most_bytes → ⊥
not_longer v name told last file is longer =
    let here : IsLonger (v.held name) most_bytes = subst (λ n. IsLonger (v.held n) most_bytes) is longer in
    let h : IsLonger (Some (Some told)) most_bytes = subst (λ held. IsLonger held most_bytes) file.held here in
    let short = file.short in
    omega arith

pub ok_or_err : {A E : Type 0} (r : Result A E) (a : A) (e : E) → r ≡ Ok a → r ≡ Err e → ⊥
ok_or_err r a e well refused = cc

pub ok_same : {A E : Type 0} (r : Result A E) (a b : A) → r ≡ Ok a → r ≡ Ok b → a ≡ b
ok_same r a b first second = cc

-- ---- ends that are none of refusals

-- the command is done, or found no memory, or ended with a fault of the desk
abbrev pub IsCalm : Outcome → Type 0
IsCalm outcome = IsFault outcome ⊎ ((status_of outcome ≡ 0) ⊎ (status_of outcome ≡ 1))

-- the ends of the puts
pub puts_calm : (files : List Putting) (line : List ℕ) (v w : View) (outcome : Outcome) → PutsEnd files line v w outcome → IsCalm outcome
puts_calm files line v w Done ends = inr (inl refl)
puts_calm files line v w NoMemory ends = inr (inr refl)
puts_calm files line v w (Unwritten unwritten) ends = inl tt
puts_calm files line v w _ ends = absurd ends

-- a name that can't be written
pub unwritable_calm : (files : List Putting) (v w : View) (outcome : Outcome) → Unwritable (names_of files) v w outcome → IsCalm outcome
unwritable_calm files v w outcome ends = puts_calm files [] v w outcome (unwritable_puts files [] v w outcome ends)

-- fetches of which none finds too many bytes
pub unread_calm : (names : List (List ℕ)) (v w : View) (outcome : Outcome)
    → ((last : List ℕ) → EndsAtFetch names false v w last → IsLonger (v.held last) most_bytes → ⊥) → Unread names v w outcome → IsCalm outcome
unread_calm names v w NoMemory short ends = inr (inr refl)
unread_calm names v w (outcomes.Unread (of_unread.TooLong name)) short ends = absurd (short name.now ends.0 ends.1)
unread_calm names v w (outcomes.Unread unread) short ends = inl tt
unread_calm names v w _ short ends = absurd ends

pub one_is_short : (v w : View) (name told : List ℕ) → HoldsFile v name told → (last : List ℕ) → EndsAtFetch (name ∷ []) false v w last → IsLonger (v.held last) most_bytes → ⊥
one_is_short v w name told file last (inl here) longer = not_longer v name told last file here.0 longer
one_is_short v w name told file last (inr none) longer = absurd none

pub two_are_short : (v w : View) (one two told other : List ℕ) → HoldsFile v one told → HoldsFile v two other
    → (last : List ℕ) → EndsAtFetch (one ∷ two ∷ []) false v w last → IsLonger (v.held last) most_bytes → ⊥
two_are_short v w one two told other first second last (inl here) longer = not_longer v one told last first here.0 longer
two_are_short v w one two told other first second last (inr (inl here)) longer = not_longer v two other last second here.0 longer
two_are_short v w one two told other first second last (inr (inr none)) longer = absurd none

pub three_are_short : (v w : View) (one two three a b c : List ℕ) → HoldsFile v one a → HoldsFile v two b → HoldsFile v three c
    → (last : List ℕ) → EndsAtFetch (one ∷ two ∷ three ∷ []) false v w last → IsLonger (v.held last) most_bytes → ⊥
three_are_short v w one two three a b c first second third last (inl here) longer = not_longer v one a last first here.0 longer
three_are_short v w one two three a b c first second third last (inr (inl here)) longer = not_longer v two b last second here.0 longer
three_are_short v w one two three a b c first second third last (inr (inr (inl here))) longer = not_longer v three c last third here.0 longer
three_are_short v w one two three a b c first second third last (inr (inr (inr none))) longer = absurd none
