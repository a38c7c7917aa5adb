-- The file of a journal along a run.
use Rattle.std.proofs.Common.{◌≡◌, ℕ, zero, suc, Bool, true, false, List, [], ◌∷◌, ◌++◌, take, length, refl, sym, ap, ◌∙◌, subst, append_assoc, append-nil, ⊎_elim}
use Rattle.std.proofs.lemmas.Bool.{and_from, and_parts}
use Rattle.std.proofs.lemmas.Grind.{flat_map-append}
use Rattle.std.proofs.Math.Seq.{take-append_seam}
use Rattle.std.specs.Prelude.{Option, Some, None}
use Rattle.desk_outside.specs.Wire.{WireView, after_step, after_steps, journal_after}
use Rattle.desk_outside.specs.declared.wire.Coming.{Coming}
use Rattle.desk_outside.specs.declared.wire.WireStep.{WireStep}
use Rattle.desk_outside.specs.declared.wire.WireStep.TheVariants.{Opened, Unopened, Recalled, Unrecalled, Emptied, Trimmed, Appended, Flushed, Heard, Unheard, Said}
use Rattle.journal_cuts.specs.Cuts.{bytes_by}
use Rattle.journal_cuts.specs.Files.{BeginsWith, CrashLeaves, IsSettled, JournalFile, KeepsFirst, file_after, file_behind, is_onward}
use Rattle.apart_roles.specs.Inputs.{Came, journal_of_all, steps_of_all}
use Rattle.std.specs.List.{list_all}
use Rattle.std.specs.Option.{option_map}

-- ---- all along steps

abbrev pub AllAlong : (JournalFile → Type 0) → JournalFile → List WireStep → Type 0
AllAlong holds file [] = holds file
AllAlong holds file (step ∷ steps) = holds file × AllAlong holds (file_after file step) steps

pub along_taken : (holds : JournalFile → Type 0) (file : JournalFile) (steps : List WireStep) (n : ℕ) → AllAlong holds file steps → holds (file_behind file (take n steps))
along_taken holds file [] zero all = all
along_taken holds file [] (suc n) all = all
along_taken holds file (step ∷ steps) zero all = all.0
along_taken holds file (step ∷ steps) (suc n) all = along_taken holds (file_after file step) steps n all.1

pub along_join : (holds : JournalFile → Type 0) (file : JournalFile) (first others : List WireStep) → AllAlong holds file first → AllAlong holds (file_behind file first) others → AllAlong holds file (first ++ others)
along_join holds file [] others one two = two
along_join holds file (step ∷ first) others one two = (one.0, along_join holds (file_after file step) first others one.1 two)

along_map : (holds more : JournalFile → Type 0) (file : JournalFile) (steps : List WireStep) → ((f : JournalFile) → holds f → more f) → AllAlong holds file steps → AllAlong more file steps
along_map holds more file [] each all = each file all
along_map holds more file (step ∷ steps) each all = (each file all.0, along_map holds more (file_after file step) steps each all.1)

pub behind_join : (file : JournalFile) (first others : List WireStep) → file_behind file (first ++ others) ≡ file_behind (file_behind file first) others
behind_join file [] others = refl
behind_join file (step ∷ first) others = behind_join (file_after file step) first others

-- the journal that a wire tells is what its file has
pub told_behind : (v : WireView) (file : JournalFile) (steps : List WireStep) → v.journal ≡ Some file.source → (after_steps v steps).journal ≡ Some (file_behind file steps).source
unfolding after_step
told_behind v file [] told = told
told_behind v file (step ∷ steps) told = told_behind (after_step v step) (file_after file step) steps (ap (option_map (journal_after step)) told)

-- ---- what is heard and said leaves the file

abbrev pub AreQuiet : List WireStep → Type 0
AreQuiet [] = Unit {0}
AreQuiet (Opened name front ∷ steps) = ⊥
AreQuiet (Unopened name ∷ steps) = ⊥
AreQuiet (Recalled what text ∷ steps) = ⊥
AreQuiet (Unrecalled ∷ steps) = ⊥
AreQuiet (Emptied failed ∷ steps) = ⊥
AreQuiet (Trimmed failed ∷ steps) = ⊥
AreQuiet (Appended bytes failed ∷ steps) = ⊥
AreQuiet (Flushed failed ∷ steps) = ⊥
AreQuiet (Heard what text ∷ steps) = AreQuiet steps
AreQuiet (Unheard ∷ steps) = AreQuiet steps
AreQuiet (Said bytes failed ∷ steps) = AreQuiet steps

module _ {L : Type 0} (write : L → List ℕ) (head : List ℕ) where
  -- the file has these lines, of which those are on the disk
  pub record IsThere (journal flushed : List L) (file : JournalFile) : Type 0 where
    pub later : List L
    pub is : journal ≡ flushed ++ later
    pub flushed_is : file.flushed ≡ head ++ bytes_by write flushed
    pub bytes_are : file.source.bytes ≡ head ++ bytes_by write journal

  -- it has the first of these lines, of which the first are on the disk
  pub record IsAlong (all : List L) (file : JournalFile) : Type 0 where
    pub journal : List L
    pub flushed : List L
    pub behind : List L
    pub there : IsThere journal flushed file
    pub all_is : all ≡ journal ++ behind

  there_along : (journal flushed : List L) (file : JournalFile) → IsThere journal flushed file → IsAlong journal file
  there_along journal flushed file there = record { journal = journal; flushed = flushed; behind = []; there = there; all_is = sym (append-nil journal) }

  quiet_along : (holds : JournalFile → Type 0) (journal flushed : List L) (file : JournalFile) (steps : List WireStep) → ((f : JournalFile) → IsThere journal flushed f → holds f) → AreQuiet steps → IsThere journal flushed file
      → AllAlong holds file steps × IsThere journal flushed (file_behind file steps)
  quiet_along holds journal flushed file [] lift quiet there = (lift file there, there)
  quiet_along holds journal flushed file (Opened name front ∷ steps) lift quiet there = absurd quiet
  quiet_along holds journal flushed file (Unopened name ∷ steps) lift quiet there = absurd quiet
  quiet_along holds journal flushed file (Recalled what text ∷ steps) lift quiet there = absurd quiet
  quiet_along holds journal flushed file (Unrecalled ∷ steps) lift quiet there = absurd quiet
  quiet_along holds journal flushed file (Emptied failed ∷ steps) lift quiet there = absurd quiet
  quiet_along holds journal flushed file (Trimmed failed ∷ steps) lift quiet there = absurd quiet
  quiet_along holds journal flushed file (Appended bytes failed ∷ steps) lift quiet there = absurd quiet
  quiet_along holds journal flushed file (Flushed failed ∷ steps) lift quiet there = absurd quiet
  quiet_along holds journal flushed file (Heard what text ∷ steps) lift quiet there =
      let rest = quiet_along holds journal flushed (file_after file (Heard what text)) steps lift quiet
      (record { later = there.later; is = there.is; flushed_is = there.flushed_is; bytes_are = there.bytes_are }) in
      ((lift file there, rest.0), rest.1)
  quiet_along holds journal flushed file (Unheard ∷ steps) lift quiet there =
      let rest = quiet_along holds journal flushed (file_after file Unheard) steps lift quiet
      (record { later = there.later; is = there.is; flushed_is = there.flushed_is; bytes_are = there.bytes_are }) in
      ((lift file there, rest.0), rest.1)
  quiet_along holds journal flushed file (Said bytes failed ∷ steps) lift quiet there =
      let rest = quiet_along holds journal flushed (file_after file (Said bytes failed)) steps lift quiet
      (record { later = there.later; is = there.is; flushed_is = there.flushed_is; bytes_are = there.bytes_are }) in
      ((lift file there, rest.0), rest.1)

  -- ---- a turn

  abbrev pub with_line : List L → Option L → List L
  with_line journal None = journal
  with_line journal (Some line) = journal ++ line ∷ []

  abbrev pub logged_steps : Option L → List WireStep
  logged_steps None = []
  logged_steps (Some line) = Appended (write line ++ 10 ∷ []) false ∷ []

  abbrev pub flush_steps : Bool → List WireStep
  flush_steps true = Flushed false ∷ []
  flush_steps false = []

  pub record IsTurnAlong (journal next : List L) (file : JournalFile) (steps : List WireStep) : Type 0 where
    pub flushed : List L
    pub more : List L
    pub next_is : next ≡ journal ++ more
    pub there : IsThere next flushed (file_behind file steps)
    pub along : AllAlong (IsAlong next) file steps

  -- what is there behind a flush, or without one
  record IsFlushedAlong (journal : List L) (file : JournalFile) (steps : List WireStep) : Type 0 where
    flushed : List L
    there : IsThere journal flushed (file_behind file steps)
    along : AllAlong (IsAlong journal) file steps

  flush_along : (b : Bool) (journal flushed : List L) (file : JournalFile) (said : List WireStep) → AreQuiet said → IsThere journal flushed file → IsFlushedAlong journal file (flush_steps b ++ said)
  flush_along true journal flushed file said quiet there =
      let now : IsThere journal journal (file_after file (Flushed false)) = record { later = []; is = sym (append-nil journal); flushed_is = there.bytes_are; bytes_are = there.bytes_are } in
      let rest = quiet_along (IsAlong journal) journal journal (file_after file (Flushed false)) said (λ f. there_along journal journal f) quiet now in
      record { flushed = journal; there = rest.1; along = (there_along journal flushed file there, rest.0) }
  flush_along false journal flushed file said quiet there =
      let rest = quiet_along (IsAlong journal) journal flushed file said (λ f. there_along journal flushed f) quiet there in
      record { flushed = flushed; there = rest.1; along = rest.0 }

  there_appended : (journal flushed : List L) (line : L) (file : JournalFile) → IsThere journal flushed file → IsThere (journal ++ line ∷ []) flushed (file_after file (Appended (write line ++ 10 ∷ []) false))
  there_appended journal flushed line file there = record {
    later = there.later ++ line ∷ [];
    is = ap (λ j. j ++ line ∷ []) there.is ∙ append_assoc flushed there.later (line ∷ []);
    flushed_is = there.flushed_is;
    bytes_are = ap (λ t. t ++ (write line ++ 10 ∷ [])) there.bytes_are ∙ append_assoc head (bytes_by write journal) (write line ++ 10 ∷ [])
        ∙ ap (λ t. head ++ t) (sym (flat_map-append (λ l. write l ++ 10 ∷ []) journal (line ∷ []) ∙ ap (λ t. bytes_by write journal ++ t) (append-nil (write line ++ 10 ∷ []))));
  }

  pub turn_along : (o : Option L) (b : Bool) (journal flushed : List L) (file : JournalFile) (what : Coming) (text : List ℕ) (said : List WireStep) → AreQuiet said → IsThere journal flushed file
      → IsTurnAlong journal (with_line journal o) file (Heard what text ∷ (logged_steps o ++ (flush_steps b ++ said)))
  turn_along None b journal flushed file what text said quiet there =
      let now : IsThere journal flushed (file_after file (Heard what text)) = record { later = there.later; is = there.is; flushed_is = there.flushed_is; bytes_are = there.bytes_are } in
      let rest = flush_along b journal flushed (file_after file (Heard what text)) said quiet now in
      record { flushed = rest.flushed; more = []; next_is = sym (append-nil journal); there = rest.there; along = (there_along journal flushed file there, rest.along) }
  turn_along (Some line) b journal flushed file what text said quiet there =
      let heard = file_after file (Heard what text) in
      let now : IsThere journal flushed heard = record { later = there.later; is = there.is; flushed_is = there.flushed_is; bytes_are = there.bytes_are } in
      let rest = flush_along b (journal ++ line ∷ []) flushed (file_after heard (Appended (write line ++ 10 ∷ []) false)) said quiet (there_appended journal flushed line heard now) in
      record {
        flushed = rest.flushed;
        more = line ∷ [];
        next_is = refl;
        there = rest.there;
        along = (
          record { journal = journal; flushed = flushed; behind = line ∷ []; there = there; all_is = refl },
          (record { journal = journal; flushed = flushed; behind = line ∷ []; there = now; all_is = refl }, rest.along),
        );
      }

  -- ---- a run

  module _ (steps : List L → Came → List WireStep) (next : List L → Came → List L)
      (each : (journal flushed : List L) (file : JournalFile) (came : Came) → IsThere journal flushed file → IsTurnAlong journal (next journal came) file (steps journal came)) where
    pub record IsRunAlong (journal : List L) (file : JournalFile) (came : List Came) : Type 0 where
      pub flushed : List L
      pub more : List L
      pub all_is : journal_of_all next journal came ≡ journal ++ more
      pub there : IsThere (journal_of_all next journal came) flushed (file_behind file (steps_of_all steps next journal came))
      pub along : AllAlong (IsAlong (journal_of_all next journal came)) file (steps_of_all steps next journal came)

    further : (all one more : List L) (file : JournalFile) → all ≡ one ++ more → IsAlong one file → IsAlong all file
    further all one more file is along = record {
      journal = along.journal;
      flushed = along.flushed;
      behind = along.behind ++ more;
      there = along.there;
      all_is = is ∙ ap (λ j. j ++ more) along.all_is ∙ append_assoc along.journal along.behind more;
    }

    pub run_along : (journal flushed : List L) (file : JournalFile) (came : List Came) → IsThere journal flushed file → IsRunAlong journal file came
    run_along journal flushed file [] there = record { flushed = flushed; more = []; all_is = sym (append-nil journal); there = there; along = there_along journal flushed file there }
    run_along journal flushed file (one ∷ others) there =
        let turn = each journal flushed file one there in
        let rest = run_along (next journal one) turn.flushed (file_behind file (steps journal one)) others turn.there in
        let all = journal_of_all next (next journal one) others in
        record {
          flushed = rest.flushed;
          more = turn.more ++ rest.more;
          all_is = rest.all_is ∙ ap (λ j. j ++ rest.more) turn.next_is ∙ append_assoc journal turn.more rest.more;
          there = subst (λ f. IsThere all rest.flushed f) (sym (behind_join file (steps journal one) (steps_of_all steps next (next journal one) others))) rest.there;
          along = along_join (IsAlong all) file (steps journal one) (steps_of_all steps next (next journal one) others)
              (along_map (IsAlong (next journal one)) (IsAlong all) file (steps journal one) (λ f. further all (next journal one) rest.more f rest.all_is) turn.along) rest.along;
        }

-- ---- runs one after another

pub run_join : {J : Type 0} (steps : J → Came → List WireStep) (next : J → Came → J) (journal : J) (earlier later : List Came)
    → steps_of_all steps next journal (earlier ++ later) ≡ steps_of_all steps next journal earlier ++ steps_of_all steps next (journal_of_all next journal earlier) later
run_join steps next journal [] later = refl
run_join steps next journal (came ∷ earlier) later =
    ap (λ others. steps journal came ++ others) (run_join steps next (next journal came) earlier later)
    ∙ sym (append_assoc (steps journal came) (steps_of_all steps next (next journal came) earlier) (steps_of_all steps next (journal_of_all next (next journal came) earlier) later))

-- ---- steps that take nothing away

pub onward_quiet : (steps : List WireStep) → AreQuiet steps → list_all is_onward steps ≡ true
onward_quiet [] quiet = refl
onward_quiet (Opened name front ∷ steps) quiet = absurd quiet
onward_quiet (Unopened name ∷ steps) quiet = absurd quiet
onward_quiet (Recalled what text ∷ steps) quiet = absurd quiet
onward_quiet (Unrecalled ∷ steps) quiet = absurd quiet
onward_quiet (Emptied failed ∷ steps) quiet = absurd quiet
onward_quiet (Trimmed failed ∷ steps) quiet = absurd quiet
onward_quiet (Appended bytes failed ∷ steps) quiet = absurd quiet
onward_quiet (Flushed failed ∷ steps) quiet = absurd quiet
onward_quiet (Heard what text ∷ steps) quiet = onward_quiet steps quiet
onward_quiet (Unheard ∷ steps) quiet = onward_quiet steps quiet
onward_quiet (Said bytes failed ∷ steps) quiet = onward_quiet steps quiet

onward_join : (first others : List WireStep) → list_all is_onward first ≡ true → list_all is_onward others ≡ true → list_all is_onward (first ++ others) ≡ true
onward_join [] others one two = two
onward_join (step ∷ first) others one two =
    let both = and_parts (is_onward step) (list_all is_onward first) one in
    and_from (is_onward step) (list_all is_onward (first ++ others)) both.0 (onward_join first others both.1 two)

pub onward_first : (n : ℕ) (steps : List WireStep) → list_all is_onward steps ≡ true → list_all is_onward (take n steps) ≡ true
onward_first zero [] all = refl
onward_first zero (step ∷ steps) all = refl
onward_first (suc n) [] all = refl
onward_first (suc n) (step ∷ steps) all =
    let both = and_parts (is_onward step) (list_all is_onward steps) all in
    and_from (is_onward step) (list_all is_onward (take n steps)) both.0 (onward_first n steps both.1)

pub onward_run : {J : Type 0} (steps : J → Came → List WireStep) (next : J → Came → J) → ((journal : J) (came : Came) → list_all is_onward (steps journal came) ≡ true) → (journal : J) (came : List Came)
    → list_all is_onward (steps_of_all steps next journal came) ≡ true
onward_run steps next each journal [] = refl
onward_run steps next each journal (one ∷ others) = onward_join (steps journal one) (steps_of_all steps next (next journal one) others) (each journal one) (onward_run steps next each (next journal one) others)

-- ---- first lines

-- the bytes of first lines are the first bytes
pub bytes_first : {L : Type 0} (write : L → List ℕ) (all first more : List L) → all ≡ first ++ more → take (length (bytes_by write first)) (bytes_by write all) ≡ bytes_by write first
bytes_first write all first more is =
    ap (λ j. take (length (bytes_by write first)) (bytes_by write j)) is ∙ ap (take (length (bytes_by write first))) (flat_map-append (λ l. write l ++ 10 ∷ []) first more)
    ∙ take-append_seam (bytes_by write first) (bytes_by write more)

-- ---- first bytes

-- what the file begins with whatever crash comes, it begins with along a flush and what is said behind it
pub welcome_along : (first : List ℕ) (file : JournalFile) (one two : List ℕ) → KeepsFirst first file → AllAlong (KeepsFirst first) file (Flushed false ∷ Said one false ∷ Said two false ∷ [])
welcome_along first file one two keeps =
    let bytes = keeps.bytes in
    let left : (left : List ℕ) → CrashLeaves (file_after file (Flushed false)) left → BeginsWith first left = λ left leaves. ⊎_elim
    (λ seen. record { behind = bytes.behind; is = seen ∙ bytes.is })
    (λ reaches. record { behind = bytes.behind; is = reaches ∙ bytes.is })
    leaves.1 in
    (keeps, (record { bytes = bytes; left = left }, (record { bytes = bytes; left = left }, record { bytes = bytes; left = left })))

-- ---- a settled file

settled_quiet : (file : JournalFile) (steps : List WireStep) → AreQuiet steps → IsSettled file → IsSettled (file_behind file steps)
settled_quiet file [] quiet settled = settled
settled_quiet file (Opened name front ∷ steps) quiet settled = absurd quiet
settled_quiet file (Unopened name ∷ steps) quiet settled = absurd quiet
settled_quiet file (Recalled what text ∷ steps) quiet settled = absurd quiet
settled_quiet file (Unrecalled ∷ steps) quiet settled = absurd quiet
settled_quiet file (Emptied failed ∷ steps) quiet settled = absurd quiet
settled_quiet file (Trimmed failed ∷ steps) quiet settled = absurd quiet
settled_quiet file (Appended bytes failed ∷ steps) quiet settled = absurd quiet
settled_quiet file (Flushed failed ∷ steps) quiet settled = absurd quiet
settled_quiet file (Heard what text ∷ steps) quiet settled = settled_quiet (file_after file (Heard what text)) steps quiet (record { flushed = settled.flushed; since = settled.since })
settled_quiet file (Unheard ∷ steps) quiet settled = settled_quiet (file_after file Unheard) steps quiet (record { flushed = settled.flushed; since = settled.since })
settled_quiet file (Said bytes failed ∷ steps) quiet settled = settled_quiet (file_after file (Said bytes failed)) steps quiet (record { flushed = settled.flushed; since = settled.since })

-- behind a flush all is on the disk
pub settled_flushed : (file : JournalFile) (steps : List WireStep) → AreQuiet steps → IsSettled (file_behind file (Flushed false ∷ steps))
settled_flushed file steps quiet = settled_quiet (file_after file (Flushed false)) steps quiet (record { flushed = refl; since = refl })

-- and behind what is heard and said, where it was before
pub settled_heard : (file : JournalFile) (what : Coming) (text : List ℕ) (steps : List WireStep) → AreQuiet steps → IsSettled file → IsSettled (file_behind file (Heard what text ∷ steps))
settled_heard file what text steps quiet settled = settled_quiet file (Heard what text ∷ steps) quiet settled

pub settled_run : {J : Type 0} (steps : J → Came → List WireStep) (next : J → Came → J) → ((journal : J) (file : JournalFile) (came : Came) → IsSettled file → IsSettled (file_behind file (steps journal came))) → (journal : J) (file : JournalFile)
    (came : List Came) → IsSettled file → IsSettled (file_behind file (steps_of_all steps next journal came))
settled_run steps next each journal file [] settled = settled
settled_run steps next each journal file (one ∷ others) settled =
    subst IsSettled (sym (behind_join file (steps journal one) (steps_of_all steps next (next journal one) others)))
    (settled_run steps next each (next journal one) (file_behind file (steps journal one)) others (each journal file one settled))
