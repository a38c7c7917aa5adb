-- What each call of a meter comes to, by what it finds.
use Rattle.std.proofs.Common.{◌≡◌, ℕ, Bool, true, false, List, [], ◌∷◌, ◌++◌, refl, sym, ap, ◌∙◌, subst}
use Rattle.std.specs.Prelude.{if◌then◌else◌, slice_index_or, Option, Some, None, Result, Ok, Err}
use Rattle.std.proofs.lemmas.Bool.{eq-eqb, ne_eqb}
use Rattle.meter_core.specs.declared.Heard.{Heard}
use Rattle.meter_frames.specs.declared.Frame.{Frame}
use Rattle.meter_apart.specs.declared.answers.Noted.{Noted}
use Rattle.meter_apart.specs.declared.answers.Noted.TheVariants.{Read, Kept}
use Rattle.meter_apart.specs.declared.answers.ReadingRefusal.{ReadingRefusal}
use Rattle.meter_apart.specs.declared.answers.ReadingRefusal.TheVariants as unread
use Rattle.meter_apart.specs.declared.answers.FrameRefusal.{FrameRefusal}
use Rattle.meter_apart.specs.declared.answers.FrameRefusal.TheVariants as unanswered
use Rattle.meter_apart.specs.declared.keys.MeterKeys.{MeterKeys}
use Rattle.meter_apart.specs.Keys.{words_of}
use Rattle.meter_apart.specs.declared.meter.MeterApart.{MeterApart}
use Rattle.meter_apart.specs.Parts.{is_to_me}
use Rattle.meter_apart.specs.Replies.{reading_frame, standing, said_after, is_first, after_reading, heard, is_answer, said_to, after_set}
use Rattle.meter_apart.specs.Meter.{IsAfter, SaysReading, SaysAnswer, Follows, MarksReading, HearsSet}
use Rattle.meter_apart.proofs.PartLemmas.{takes-round}
use Rattle.meter_apart.proofs.StateLemmas.{state_marked, state_heard}
use Rattle.meter_apart.proofs.ReplyLemmas.{may_read, standing_same, heard_is}

-- what stands against a reading, in the state of a meter
abbrev pub stands : MeterApart → ℕ → ℕ → Result (Option ℕ) ReadingRefusal
stands m r x = standing m.keys.part (slice_index_or m.readings.items r None) r x

-- ---- readings

-- the journal after a reading that is not the first
nothing_noted : (old : MeterApart) (j : List Noted) (r x : ℕ) (found : Result (Option ℕ) ReadingRefusal) → IsAfter j old → found ≡ stands old r x → is_first found ≡ false
    → IsAfter (after_reading old.keys.part j r x) old
nothing_noted old j r x found after is other =
    subst (λ b. IsAfter (if b then j ++ Read r x ∷ [] else j) old) (sym (ap is_first (sym (is ∙ standing_same old j r x after)) ∙ other)) after

first_noted : (old new : MeterApart) (j : List Noted) (r x : ℕ) → IsAfter j old → Ok None ≡ stands old r x → MarksReading old r x new → IsAfter (after_reading old.keys.part j r x) new
first_noted old new j r x after is marks =
    let may = may_read old.keys.part (slice_index_or old.readings.items r None) None r x is in
    subst (λ b. IsAfter (if b then j ++ Read r x ∷ [] else j) new) (ap is_first (is ∙ standing_same old j r x after))
    (state_marked old new j r x (takes-round old.keys.part r may.takes) may.found_is after marks)

pub says_refused : (old : MeterApart) (j : List Noted) (r x : ℕ) (refusal : ReadingRefusal) → IsAfter j old → Err refusal ≡ stands old r x → SaysReading old j r x (Err refusal) old
says_refused old j r x refusal after is = record {
  said_is = ap (λ s. said_after old.keys.part (words_of old.keys) s r x) (is ∙ standing_same old j r x after);
  after = nothing_noted old j r x (Err refusal) after is refl;
}

pub says_first : (old new : MeterApart) (j : List Noted) (r x : ℕ) (f : Frame) → IsAfter j old → Ok None ≡ stands old r x → MarksReading old r x new → f ≡ reading_frame new.keys.part (words_of new.keys) r x
    → SaysReading old j r x (Ok f) new
says_first old new j r x f after is marks frame = record {
  said_is = ap Ok (frame ∙ ap (λ (k : MeterKeys). reading_frame k.part (words_of k) r x) marks.keys) ∙ ap (λ s. said_after old.keys.part (words_of old.keys) s r x) (is ∙ standing_same old j r x after);
  after = first_noted old new j r x after is marks;
}

pub says_again : (old : MeterApart) (j : List Noted) (r x before : ℕ) (f : Frame) → IsAfter j old → Ok (Some before) ≡ stands old r x → before ≡ x → f ≡ reading_frame old.keys.part (words_of old.keys) r x
    → SaysReading old j r x (Ok f) old
says_again old j r x before f after is same frame = record {
  said_is = ap Ok frame ∙ sym (ap (λ b. if b then Ok (reading_frame old.keys.part (words_of old.keys) r x) else Err unread.Twice) (eq-eqb before x same)) ∙ ap (λ s. said_after old.keys.part (words_of old.keys) s r x) (is ∙ standing_same old j r x after);
  after = nothing_noted old j r x (Ok (Some before)) after is refl;
}

pub says_twice : (old : MeterApart) (j : List Noted) (r x before : ℕ) → IsAfter j old → Ok (Some before) ≡ stands old r x → (before ≡ x → ⊥) → SaysReading old j r x (Err unread.Twice) old
says_twice old j r x before after is other = record {
  said_is = sym (ap (λ b. if b then Ok (reading_frame old.keys.part (words_of old.keys) r x) else Err unread.Twice) (ne_eqb before x other)) ∙ ap (λ s. said_after old.keys.part (words_of old.keys) s r x) (is ∙ standing_same old j r x after);
  after = nothing_noted old j r x (Ok (Some before)) after is refl;
}

-- ---- sets

set_noted : (old new : MeterApart) (j : List Noted) (r : ℕ) (set : List ℕ) (said : Heard) → IsAfter j old → HearsSet old r set said new → IsAfter (after_set old.keys.part j r set) new
set_noted old new j r set said after hears =
    subst (λ h. IsAfter (if is_answer h then j ++ Kept r set ∷ [] else j) new) (heard_is old new.core j r set said after hears.core) (state_heard old new j r set said after hears)

pub says_to_set : (old new : MeterApart) (j : List Noted) (f : Frame) (said : Heard) (out : Result Frame FrameRefusal) → IsAfter j old → is_to_me old.keys.part f.tag ≡ true
    → HearsSet old f.tag.round f.missing said new → out ≡ said_to old.keys.part (words_of old.keys) said f.tag.round f.missing → SaysAnswer old j f out new
says_to_set old new j f said out after mine hears out_is = record {
  said_is = out_is
      ∙ ap (λ h. said_to old.keys.part (words_of old.keys) h f.tag.round f.missing) (heard_is old new.core j f.tag.round f.missing said after hears.core)
      ∙ sym (ap (λ b. if b then said_to old.keys.part (words_of old.keys) (heard old.keys.part j f.tag.round f.missing) f.tag.round f.missing else Err unanswered.Tag) mine);
  after = subst (λ b. IsAfter (if b then after_set old.keys.part j f.tag.round f.missing else j) new) (sym mine) (set_noted old new j f.tag.round f.missing said after hears);
}

-- ---- lines

pub follows_first : (old new : MeterApart) (j : List Noted) (r x : ℕ) → IsAfter j old → Ok None ≡ stands old r x → MarksReading old r x new → Follows old j (Read r x) true new
follows_first old new j r x after is marks =
    let may = may_read old.keys.part (slice_index_or old.readings.items r None) None r x is in
    record {
      follows_is = ap is_first (is ∙ standing_same old j r x after);
      after = state_marked old new j r x (takes-round old.keys.part r may.takes) may.found_is after marks;
    }

pub follows_not : (old : MeterApart) (j : List Noted) (r x : ℕ) (found : Result (Option ℕ) ReadingRefusal) → IsAfter j old → found ≡ stands old r x → is_first found ≡ false → Follows old j (Read r x) false old
follows_not old j r x found after is other = record { follows_is = sym (ap is_first (sym (is ∙ standing_same old j r x after)) ∙ other); after = after }

pub follows_set : (old new : MeterApart) (j : List Noted) (r : ℕ) (set : List ℕ) (said : Heard) (follows : Bool) → IsAfter j old → HearsSet old r set said new → follows ≡ is_answer said
    → Follows old j (Kept r set) follows new
follows_set old new j r set said follows after hears is = record {
  follows_is = is ∙ ap is_answer (heard_is old new.core j r set said after hears.core);
  after = subst (λ b. IsAfter (if b then j ++ Kept r set ∷ [] else j) new) (sym is) (state_heard old new j r set said after hears);
}
