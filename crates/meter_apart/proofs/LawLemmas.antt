-- The laws of a meter's journal and words.
use Rattle.std.proofs.Common.{◌≡◌, ℕ, ◌+◌, ◌^◌, ◌<◌, arith, Bool, true, false, List, [], ◌∷◌, ◌++◌, refl, sym, ap, ◌∙◌}
use mathlib.Core.Path.{fun_ext}
use Rattle.std.specs.Prelude.{◌==◌, nat_lt, if◌then◌else◌, bytes_eq, sum_by, slice_index_or, Option, Some, None, is_some, Result, Ok, Err}
use Rattle.std.proofs.lemmas.Bool.{false≢true, eqb-true, eq-eqb, ne_eqb, ltb-true}
use Rattle.std.proofs.lemmas.Slice.Eq.{bytes_eq-Decides}
use Rattle.missing_round.specs.Masks.{Masks}
use Rattle.missing_round.specs.Words.{word, minus, share}
use Rattle.meter_core.specs.declared.Why.{Why}
use Rattle.meter_core.specs.declared.Why.TheVariants.{OtherSet}
use Rattle.meter_core.specs.declared.Heard.TheVariants.{AnswerAgain, Refused}
use Rattle.meter_frames.specs.declared.Frame.{Frame}
use Rattle.meter_apart.specs.declared.answers.Noted.{Noted}
use Rattle.meter_apart.specs.declared.answers.Noted.TheVariants.{Read, Kept}
use Rattle.meter_apart.specs.declared.answers.ReadingRefusal.TheVariants as unread
use Rattle.meter_apart.specs.declared.answers.FrameRefusal.TheVariants as unanswered
use Rattle.meter_apart.specs.declared.part.Part.{Part}
use Rattle.meter_apart.specs.Journal.{marked, kept}
use Rattle.meter_apart.specs.Parts.{takes_part, is_to_me}
use Rattle.meter_apart.specs.Replies.{reading_frame, said_after, to_reading, is_first, after_reading, refusal_of, heard_by, heard, said_to, to_frame, is_answer, after_set, after_frame}
use Rattle.meter_apart.specs.Statements.{OneSetARound, OneReadingARound, HaveSameWords, OwnWordsSuffice, OwnKeysSuffice}
use Rattle.mask_stream.specs.KeyStreams.{word_of}
use Rattle.meter_apart.proofs.JournalLemmas.{marked-read_same, kept-kept_same}

abbrev succeeds : {A B : Type 0} → Result A B → Bool
succeeds (Ok a) = true
succeeds (Err e) = false

-- ---- a journal that goes on

nothing≢some : {A : Type 0} (x : A) → None ≡ Some x → ⊥
nothing≢some x h = false≢true (ap is_some h)

-- what a line or the later ones tell of a round is told of a longer journal too
stays : {A : Type 0} (b : Bool) (here x : A) (old new : Option A) → (if b then Some here else old) ≡ Some x → (old ≡ Some x → new ≡ Some x) → (if b then Some here else new) ≡ Some x
stays true here x old new is later = is
stays false here x old new is later = later is

kept-more : (j more : List Noted) (r : ℕ) (set : List ℕ) → kept j r ≡ Some set → kept (j ++ more) r ≡ Some set
unfolding kept
kept-more [] more r set is = absurd (nothing≢some set is)
kept-more (Read p x ∷ j) more r set is = kept-more j more r set is
kept-more (Kept p s ∷ j) more r set is = stays (p == r) s set (kept j r) (kept (j ++ more) r) is (kept-more j more r set)

marked-more : (j more : List Noted) (r x : ℕ) → marked j r ≡ Some x → marked (j ++ more) r ≡ Some x
unfolding marked
marked-more [] more r x is = absurd (nothing≢some x is)
marked-more (Read p y ∷ j) more r x is = stays (p == r) y x (marked j r) (marked (j ++ more) r) is (marked-more j more r x)
marked-more (Kept p s ∷ j) more r x is = marked-more j more r x is

-- ---- sets

-- an answer is to the set that is kept from then on
answered : (part : Part) (m : Masks) (j : List Noted) (f x : Frame) → to_frame part m j f ≡ Ok x → kept (after_frame part j f) f.tag.round ≡ Some f.missing
answered part m j f x says = by_tag (is_to_me part f.tag) says
  where
    again : (before : List ℕ) (b : Bool) → bytes_eq before f.missing ≡ b → kept j f.tag.round ≡ Some before
        → said_to part m (if b then AnswerAgain else Refused (OtherSet before)) f.tag.round f.missing ≡ Ok x
        → kept (if is_answer (if b then AnswerAgain else Refused (OtherSet before)) then j ++ Kept f.tag.round f.missing ∷ [] else j) f.tag.round ≡ Some f.missing
    again before true same is h = is ∙ ap Some ((bytes_eq-Decides before f.missing).0 same)
    again before false other is h = absurd (false≢true (ap succeeds h))

    by_set : (o : Option Why) (k : Option (List ℕ)) → kept j f.tag.round ≡ k → said_to part m (heard_by o k f.missing) f.tag.round f.missing ≡ Ok x
        → kept (if is_answer (heard_by o k f.missing) then j ++ Kept f.tag.round f.missing ∷ [] else j) f.tag.round ≡ Some f.missing
    by_set (Some why) k is h = absurd (false≢true (ap succeeds h))
    by_set None None is h = kept-kept_same j f.tag.round f.missing is
    by_set None (Some before) is h = again before (bytes_eq before f.missing) refl is h

    by_tag : (b : Bool) → (if b then said_to part m (heard part j f.tag.round f.missing) f.tag.round f.missing else Err unanswered.Tag) ≡ Ok x
        → kept (if b then after_set part j f.tag.round f.missing else j) f.tag.round ≡ Some f.missing
    by_tag true h = by_set (refusal_of part j f.tag.round f.missing) (kept j f.tag.round) refl h
    by_tag false h = absurd (false≢true (ap succeeds h))

-- where a set is kept, an answer is to this one
answered_kept : (part : Part) (m : Masks) (j : List Noted) (f x : Frame) (set : List ℕ) → kept j f.tag.round ≡ Some set → to_frame part m j f ≡ Ok x → set ≡ f.missing
answered_kept part m j f x set is says = by_tag (is_to_me part f.tag) says
  where
    again : (b : Bool) → bytes_eq set f.missing ≡ b → said_to part m (if b then AnswerAgain else Refused (OtherSet set)) f.tag.round f.missing ≡ Ok x → set ≡ f.missing
    again true same h = (bytes_eq-Decides set f.missing).0 same
    again false other h = absurd (false≢true (ap succeeds h))

    by_set : (o : Option Why) → said_to part m (heard_by o (Some set) f.missing) f.tag.round f.missing ≡ Ok x → set ≡ f.missing
    by_set (Some why) h = absurd (false≢true (ap succeeds h))
    by_set None h = again (bytes_eq set f.missing) refl h

    by_tag : (b : Bool) → (if b then said_to part m (heard part j f.tag.round f.missing) f.tag.round f.missing else Err unanswered.Tag) ≡ Ok x → set ≡ f.missing
    by_tag true h =
        by_set (refusal_of part j f.tag.round f.missing) (ap (λ k. said_to part m (heard_by (refusal_of part j f.tag.round f.missing) k f.missing) f.tag.round f.missing) (sym is) ∙ h)
    by_tag false h = absurd (false≢true (ap succeeds h))

pub one_set : OneSetARound
one_set part m n j more f g x y rounds first second =
    let held : kept (after_frame part j f) g.tag.round ≡ Some f.missing = ap (kept (after_frame part j f)) (sym rounds) ∙ answered part m j f x first in
    answered_kept part n (after_frame part j f ++ more) g y f.missing (kept-more (after_frame part j f) more g.tag.round f.missing held) second

-- ---- readings

-- a reading that is said is marked from then on
said_once : (part : Part) (m : Masks) (j : List Noted) (r a : ℕ) (x : Frame) → to_reading part m j r a ≡ Ok x → marked (after_reading part j r a) r ≡ Some a
said_once part m j r a x says = by_size (takes_part part r) (nat_lt a (2 ^ 40)) (marked j r) refl says
  where
    again : (before : ℕ) (b : Bool) → (before == a) ≡ b → marked j r ≡ Some before → (if b then Ok (reading_frame part m r a) else Err unread.Twice) ≡ Ok x → marked j r ≡ Some a
    again before true same is h = is ∙ ap Some (eqb-true before a same)
    again before false other is h = absurd (false≢true (ap succeeds h))

    by_size : (b c : Bool) (k : Option ℕ) → marked j r ≡ k → said_after part m (if b then if c then Ok k else Err unread.Range else Err unread.Round) r a ≡ Ok x
        → marked (if is_first (if b then if c then Ok k else Err unread.Range else Err unread.Round) then j ++ Read r a ∷ [] else j) r ≡ Some a
    by_size true true None is h = marked-read_same j r a is
    by_size true true (Some before) is h = again before (before == a) refl is h
    by_size true false k is h = absurd (false≢true (ap succeeds h))
    by_size false c k is h = absurd (false≢true (ap succeeds h))

-- where a reading is marked, no other one is said
said_marked : (part : Part) (m : Masks) (j : List Noted) (r a b : ℕ) (x : Frame) → marked j r ≡ Some a → to_reading part m j r b ≡ Ok x → a ≡ b
said_marked part m j r a b x is says =
    by_size (takes_part part r) (nat_lt b (2 ^ 40))
    (ap (λ k. said_after part m (if takes_part part r then if nat_lt b (2 ^ 40) then Ok k else Err unread.Range else Err unread.Round) r b) (sym is) ∙ says)
  where
    again : (c : Bool) → (a == b) ≡ c → (if c then Ok (reading_frame part m r b) else Err unread.Twice) ≡ Ok x → a ≡ b
    again true same h = eqb-true a b same
    again false other h = absurd (false≢true (ap succeeds h))

    by_size : (c d : Bool) → said_after part m (if c then if d then Ok (Some a) else Err unread.Range else Err unread.Round) r b ≡ Ok x → a ≡ b
    by_size true true h = again (a == b) refl h
    by_size true false h = absurd (false≢true (ap succeeds h))
    by_size false d h = absurd (false≢true (ap succeeds h))

pub one_reading : OneReadingARound
one_reading part m n j more r a b x y first second =
    said_marked part n (after_reading part j r a ++ more) r a b y (marked-more (after_reading part j r a) more r a (said_once part m j r a x first)) second

-- ---- words

share_same : (i j : ℕ) (pair pair2 : ℕ → ℕ → ℕ) → (i < j → pair i j ≡ pair2 i j) → (j < i → pair j i ≡ pair2 j i) → share pair i j ≡ share pair2 i j
share_same i j pair pair2 lower higher = by (nat_lt i j) refl (nat_lt j i) refl
  where
    by : (b : Bool) → nat_lt i j ≡ b → (c : Bool) → nat_lt j i ≡ c → (if b then pair i j else if c then minus (pair j i) else 0) ≡ (if b then pair2 i j else if c then minus (pair2 j i) else 0)
    by true low c is = lower (ltb-true i j low)
    by false low true high = ap minus (higher (ltb-true j i high))
    by false low false high = refl

shares_same : (i : ℕ) (own : ℕ → ℕ) (pair : ℕ → ℕ → ℕ) (own2 : ℕ → ℕ) (pair2 : ℕ → ℕ → ℕ) → HaveSameWords i own pair own2 pair2 → (js : List ℕ) → sum_by (share pair i) js ≡ sum_by (share pair2 i) js
shares_same i own pair own2 pair2 same js = ap (λ f. sum_by f js) (fun_ext (λ j. share_same i j pair pair2 (same.lower j) (same.higher j)))

pub own_words : OwnWordsSuffice
own_words i own pair own2 pair2 same members set reading = (
  ap (λ n. word (reading + n + sum_by (share pair i) members)) same.own_is ∙ ap (λ n. word (reading + own2 i + n)) (shares_same i own pair own2 pair2 same members),
  ap (λ n. word (n + sum_by (share pair i) set)) same.own_is ∙ ap (λ n. word (own2 i + n)) (shares_same i own pair own2 pair2 same set),
)

-- ---- keys

-- a meter's words are those of the plan's keys, where its keys are
pub own_keys : OwnKeysSuffice
own_keys keys home g i own pairs has r = record {
  own_is = ap (λ b. word_of (if b then Some own else None) r) (eq-eqb i i refl) ∙ ap (λ k. word_of k r) has.own_is;
  lower = λ j lt. ap (λ b. word_of (if b then slice_index_or pairs j None else if j == i then slice_index_or pairs i None else None) r) (eq-eqb i i refl) ∙ ap (λ k. word_of k r) (has.lower j lt);
  higher = λ j lt.
      ap (λ b. word_of (if b then slice_index_or pairs i None else if i == i then slice_index_or pairs j None else None) r) (ne_eqb j i (λ same. omega (arith, lt, same)))
      ∙ ap (λ b. word_of (if b then slice_index_or pairs j None else None) r) (eq-eqb i i refl)
      ∙ ap (λ k. word_of k r) (has.higher j lt);
}
