-- What comes, one after another.
use Rattle.std.proofs.Common.{◌≡◌, ℕ, true, List, [], ◌∷◌, ◌++◌, refl, sym, ap, ◌∙◌, subst, append_assoc, append-nil}
use Rattle.std.proofs.lemmas.Bool.{and_from, and_parts}
use Rattle.std.specs.Prelude.{Option, Some, None}
use Rattle.std.specs.Option.{option_map}
use Rattle.desk_outside.specs.Wire.{IsNext, Source, WireView, after_step, after_steps, coming_of, passed, rest_of, text_of}
use Rattle.desk_outside.specs.declared.wire.Coming.{Coming}
use Rattle.desk_outside.specs.declared.wire.Coming.TheVariants.{End}
use Rattle.desk_outside.specs.declared.wire.WireStep.{WireStep}
use Rattle.desk_outside.specs.declared.wire.WireStep.TheVariants.{Heard, Recalled}
use Rattle.apart_roles.specs.Inputs.{AreNext, Came, ComesTo, Recalls, are_lines, is_line, journal_of_all, recall_steps, steps_of_all}
use Rattle.apart_roles.proofs.StepLemmas.{done_behind, steps_join}

abbrev pub came_of : Coming → List ℕ → Came
came_of what text = record { what = what; text = text }

-- what comes next, where that is told
abbrev pub next_of : Option Source → Came
next_of None = came_of End []
next_of (Some source) = came_of (coming_of (rest_of source)) (text_of (rest_of source))

pub is_next : (source : Option Source) → IsNext source (next_of source).what (next_of source).text
is_next None = tt
is_next (Some source) = (refl, refl)

-- what is left behind all that came
abbrev pub left : Option Source → List Came → Option Source
left source [] = source
left source (came ∷ others) = left (option_map passed source) others

pub next_join : (source : Option Source) (lines : List Came) (came : Came) → AreNext source lines → IsNext (left source lines) came.what came.text → AreNext source (lines ++ came ∷ [])
next_join source [] came are is = (is, tt)
next_join source (first ∷ lines) came are is = (are.0, next_join (option_map passed source) lines came are.1 is)

pub lines_join : (lines : List Came) (came : Came) → are_lines lines ≡ true → is_line came.what ≡ true → are_lines (lines ++ came ∷ []) ≡ true
lines_join [] came all one = and_from (is_line came.what) true one refl
lines_join (first ∷ lines) came all one =
    let both = and_parts (is_line first.what) (are_lines lines) all in
    and_from (is_line first.what) (are_lines (lines ++ came ∷ [])) both.0 (lines_join lines came both.1 one)

-- ---- the input

pub all_steps_join : {J : Type 0} (steps : J → Came → List WireStep) (next : J → Came → J) (journal : J) (lines : List Came) (came : Came)
    → steps_of_all steps next journal (lines ++ came ∷ []) ≡ steps_of_all steps next journal lines ++ steps (journal_of_all next journal lines) came
all_steps_join steps next journal [] came = append-nil (steps journal came)
all_steps_join steps next journal (first ∷ lines) came =
    ap (λ others. steps journal first ++ others) (all_steps_join steps next (next journal first) lines came)
    ∙ sym (append_assoc (steps journal first) (steps_of_all steps next (next journal first) lines) (steps (journal_of_all next (next journal first) lines) came))

pub all_journal_join : {J : Type 0} (next : J → Came → J) (journal : J) (lines : List Came) (came : Came)
    → journal_of_all next journal (lines ++ came ∷ []) ≡ next (journal_of_all next journal lines) came
all_journal_join next journal [] came = refl
all_journal_join next journal (first ∷ lines) came = all_journal_join next (next journal first) lines came

-- a step that hears nothing leaves the input
pub same_source : (source : Option Source) → option_map (λ s. s) source ≡ source
same_source None = refl
same_source (Some source) = refl

pub heard_input : (v : WireView) (came : Came) → (after_step v (Heard came.what came.text)).input ≡ option_map passed v.input
unfolding after_step
heard_input v came = refl

-- the steps of each leave the input behind it
abbrev pub PassInput : {J : Type 0} → (J → Came → List WireStep) → Type 0
PassInput {J} steps = (v : WireView) (journal : J) (came : Came) → (after_steps v (steps journal came)).input ≡ option_map passed v.input

pub all_input : {J : Type 0} (steps : J → Came → List WireStep) (next : J → Came → J) → PassInput steps → (v : WireView) (journal : J) (lines : List Came)
    → (after_steps v (steps_of_all steps next journal lines)).input ≡ left v.input lines
all_input steps next each v journal [] = refl
all_input steps next each v journal (came ∷ lines) =
    ap (λ (x : WireView). x.input) (steps_join v (steps journal came) (steps_of_all steps next (next journal came) lines))
    ∙ all_input steps next each (after_steps v (steps journal came)) (next journal came) lines
    ∙ ap (λ input. left input lines) (each v journal came)

pub all_heard : {J : Type 0} (steps : J → Came → List WireStep) (next : J → Came → J) → PassInput steps → (journal : J) (lines : List Came) (came : Came) (v u : WireView)
    → u ≡ after_steps v (steps_of_all steps next journal lines) → AreNext v.input lines → IsNext u.input came.what came.text → AreNext v.input (lines ++ came ∷ [])
all_heard steps next each journal lines came v u one are is =
    next_join v.input lines came are (subst (λ input. IsNext input came.what came.text) (ap (λ (x : WireView). x.input) one ∙ all_input steps next each v journal lines) is)

-- ---- the journal

recall_join : (lines : List Came) (came : Came) → recall_steps (lines ++ came ∷ []) ≡ recall_steps lines ++ recall_steps (came ∷ [])
recall_join [] came = refl
recall_join (first ∷ lines) came = ap (λ steps. Recalled first.what first.text ∷ steps) (recall_join lines came)

pub comes_join : {J : Type 0} (follow : J → Came → Option J) (journal : J) (lines : List Came) (came : Came) (all next : J) → ComesTo follow journal lines all → follow all came ≡ Some next
    → ComesTo follow journal (lines ++ came ∷ []) next
comes_join follow journal [] came all next comes follows = (next, subst (λ j. follow j came ≡ Some next) comes follows, refl)
comes_join follow journal (first ∷ lines) came all next comes follows = (comes.0, comes.1, comes_join follow comes.0 lines came all next comes.2 follows)

recalled_journal : (v : WireView) (came : Came) → (after_step v (Recalled came.what came.text)).journal ≡ option_map passed v.journal
unfolding after_step
recalled_journal v came = refl

pub recall_journal : (v : WireView) (lines : List Came) → (after_steps v (recall_steps lines)).journal ≡ left v.journal lines
recall_journal v [] = refl
recall_journal v (came ∷ lines) = recall_journal (after_step v (Recalled came.what came.text)) lines ∙ ap (λ source. left source lines) (recalled_journal v came)

pub all_recalled : (lines : List Came) (came : Came) (v u w : WireView) → u ≡ after_steps v (recall_steps lines) → AreNext v.journal lines → Recalls u w came → AreNext v.journal (lines ++ came ∷ [])
all_recalled lines came v u w one are recalls =
    next_join v.journal lines came are (subst (λ source. IsNext source came.what came.text) (ap (λ (x : WireView). x.journal) one ∙ recall_journal v lines) recalls.next)

pub recall_steps_join : (lines : List Came) (came : Came) (v u w : WireView) → u ≡ after_steps v (recall_steps lines) → Recalls u w came → w ≡ after_steps v (recall_steps (lines ++ came ∷ []))
recall_steps_join lines came v u w one recalls = done_behind v u w (recall_steps lines) (recall_steps (came ∷ [])) one recalls.step ∙ ap (after_steps v) (sym (recall_join lines came))
