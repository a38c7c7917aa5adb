-- A start over a journal that has lines.
use Rattle.std.proofs.Common.{◌≡◌, ℕ, zero, suc, ◌+◌, ◌-◌, ◌<◌, ◌≤◌, Bool, true, false, not, List, [], ◌∷◌, ◌++◌, length, take, drop, refl, sym, ap, ◌∙◌, subst, append_assoc, append-nil, length-append, arith, ⊎_elim}
use Rattle.std.proofs.lemmas.Bool.{and_from, and_parts, le-leb, lt-ltb}
use Rattle.std.proofs.lemmas.Bool.Decides.{nat_tests}
use Rattle.std.proofs.lemmas.List.Quantifiers.{position-Some}
use Rattle.std.proofs.Math.ListN.{get_or}
use Rattle.std.proofs.lemmas.List.{drop-drop, length-take, take_all}
use Rattle.std.proofs.Math.Seq.{drop-append_seam, take-append_seam}
use Rattle.std.specs.Prelude.{◌==◌, cond, nat_lt, min, if◌then◌else◌, Option, Some, None, Result, Ok, Err}
use Rattle.std.specs.List.{position_or_len}
use Rattle.std.specs.Option.{option_map}
use Rattle.desk_outside.specs.Wire.{IsNext, Source, WireView, after_step, after_steps, coming_by, coming_of, journal_after, newline_in, passed, rest_of, taken_by, taken_of, text_by, text_of}
use Rattle.desk_outside.specs.declared.wire.Coming.{Coming}
use Rattle.desk_outside.specs.declared.wire.Coming.TheVariants.{Line, TooLong, Rest, End}
use Rattle.desk_outside.specs.Desk.{IsPrefixOf}
use Rattle.desk_outside.specs.Wire.{IsFront}
use Rattle.desk_outside.specs.declared.wire.WireStep.TheVariants.{Appended, Emptied, Opened, Recalled, Trimmed}
use Rattle.journal_cuts.specs.Cuts.{bytes_by, is_text}
use Rattle.apart_roles.specs.Inputs.{AreNext, Came, ComesTo, IsEnd, follow_came, if_follows, is_line, line_by, lines_in, most_lines, number_behind, recall_steps, with_last}
use Rattle.apart_lines.specs.declared.heads.HeadFound.{HeadFound}
use Rattle.apart_lines.specs.declared.heads.HeadFound.TheVariants.{Whole, Begun, Other}
use Rattle.apart_lines.specs.Heads.{head_found, line_behind}
use Rattle.apart_roles.specs.declared.outcome.RoleError.{RoleError}
use Rattle.apart_roles.specs.declared.outcome.Start.{Start}
use Rattle.apart_roles.specs.declared.outcome.Start.TheVariants.{Ready, Unreadable, Head}
use Rattle.apart_roles.specs.declared.outcome.Start.TheVariants as starts
use Rattle.apart_roles.specs.Starts.{Begins, GoesOnBy, IsBegun, IsRead, IsWrong, NotOpened, Opens, ReadsOn}
use Rattle.apart_roles.proofs.InputLemmas.{left, recall_journal}
use Rattle.apart_roles.proofs.WrittenLemmas.{IsOpenedAt, opened_at, end_left, followed_line, line_cut, next_first, walk}
use Rattle.desk_outside.specs.declared.wire.WireStep.{WireStep}
use Rattle.apart_roles.proofs.StepLemmas.{done_behind}
use Rattle.journal_cuts.specs.Files.{JournalFile, KeepsFirst, file_after, file_behind}
use Rattle.journal_cuts.proofs.FileLemmas.{trimmed_first}
use Rattle.role_restarts.proofs.FileLemmas.{AllAlong, along_join, behind_join, told_behind}
use Rattle.std.proofs.lemmas.Grind.{flat_map-append}
use Rattle.role_restarts.specs.Restarts.{AreLines, IsLine, IsRestored}

-- ---- a line that comes next

at_newline : (text more : List ℕ) → is_text text ≡ true → position_or_len (λ c. c == 10) ((text ++ 10 ∷ []) ++ more) ≡ length text
at_newline [] more is = refl
at_newline (c ∷ text) more is =
    let both = and_parts (not (c == 10)) (is_text text) is in
    let later = at_newline text more both.1 in
    ap (λ b. cond b (1 + position_or_len (λ d. d == 10) ((text ++ 10 ∷ []) ++ more)) 0) both.0 ∙ omega (arith, later)

newline_behind : (text more : List ℕ) → is_text text ≡ true → newline_in ((text ++ 10 ∷ []) ++ more) ≡ Some (length text)
newline_behind text more is =
    let at = at_newline text more is in
    let one = length-append text (10 ∷ []) in
    let all = length-append (text ++ 10 ∷ []) more in
    ap (λ n. cond (nat_lt n (length ((text ++ 10 ∷ []) ++ more))) (Some n) None) at
    ∙ ap (λ b. cond b (Some (length text)) None) (lt-ltb (length text) (length ((text ++ 10 ∷ []) ++ more)) (omega (arith, one, all)))

-- it comes next, and is taken with its newline
record IsTaken (source : Source) (text more : List ℕ) : Type 0 where
  what : coming_of (rest_of source) ≡ Line
  text_is : text_of (rest_of source) ≡ text
  taken : taken_of (rest_of source) ≡ length (text ++ 10 ∷ [])
  left : drop (source.place + taken_of (rest_of source)) source.bytes ≡ more

line_taken : (source : Source) (text more : List ℕ) → is_text text ≡ true → length text ≤ 4096 → rest_of source ≡ (text ++ 10 ∷ []) ++ more → IsTaken source text more
line_taken source text more is short rest =
    let newline : newline_in (rest_of source) ≡ Some (length text) = ap newline_in rest ∙ newline_behind text more is in
    let one = length-append text (10 ∷ []) in
    let min_is : min (length text) 4096 ≡ length text = omega (arith, short) in
    let taken : taken_of (rest_of source) ≡ length (text ++ 10 ∷ []) = ap taken_by newline ∙ omega (arith, one) in
    record {
      what = ap (coming_by (rest_of source)) newline ∙ ap (λ b. if b then Line else TooLong) (le-leb (length text) 4096 short);
      text_is = ap (text_by (rest_of source)) newline ∙ ap (λ n. take n (rest_of source)) min_is ∙ ap (take (length text)) (rest ∙ append_assoc text (10 ∷ []) more)
          ∙ take-append_seam text (10 ∷ more);
      taken = taken;
      left = ap (λ n. drop (source.place + n) source.bytes) taken ∙ ap (λ n. drop n source.bytes) (omega arith) ∙ sym (drop-drop (length (text ++ 10 ∷ [])) source.place source.bytes) ∙ ap (drop (length (text ++ 10 ∷ []))) rest
          ∙ drop-append_seam (text ++ 10 ∷ []) more;
    }

-- what has no newline is followed by nothing
no_line : {L : Type 0} (reads : List ℕ → Option L) (can : List L → L → Bool) (journal : List L) (bytes : List ℕ) (came : Came) → newline_in bytes ≡ None → came.what ≡ coming_of bytes
    → follow_came reads can journal came ≡ None
no_line reads can journal bytes came none what = by (length bytes == 0) (what ∙ ap (coming_by bytes) none)
  where
    by : (b : Bool) → came.what ≡ (if b then End else Rest) → follow_came reads can journal came ≡ None
    by true is = ap (λ w. if_follows can journal (line_by reads w came.text)) is
    by false is = ap (λ w. if_follows can journal (line_by reads w came.text)) is

-- ---- what is recalled leaves the file

recalled_along : (first : List ℕ) (file : JournalFile) (lines : List Came) → KeepsFirst first file → AllAlong (KeepsFirst first) file (recall_steps lines) × KeepsFirst first (file_behind file (recall_steps lines))
recalled_along first file [] keeps = (keeps, keeps)
recalled_along first file (came ∷ lines) keeps =
    let rest = recalled_along first (file_after file (Recalled came.what came.text)) lines (record { bytes = keeps.bytes; left = keeps.left }) in
    ((keeps, rest.0), rest.1)

-- ---- the first lines

module _ {L : Type 0} (reads : List ℕ → Option L) (write : L → List ℕ) (can : List L → L → Bool) where
  follow : List L → Came → Option (List L)
  follow = follow_came reads can

  line_follows : (before : List L) (line : L) (came : Came) → IsLine reads write line → can before line ≡ true → came.what ≡ Line → came.text ≡ write line
      → follow_came reads can before came ≡ Some (before ++ line ∷ [])
  line_follows before line came is may what text =
      ap (λ w. if_follows can before (line_by reads w came.text)) what ∙ ap (λ t. if_follows can before (reads t)) text
      ∙ ap (if_follows can before) is.read ∙ ap (λ b. if b then Some (before ++ line ∷ []) else None) may

  -- the last that came is not followed; or nothing more was taken behind so many lines
  StopsAt : ℕ → List L → List Came → Option Came → Type 0
  StopsAt n all lines None = length lines ≡ n
  StopsAt n all lines (Some came) = follow_came reads can all came ≡ None

  -- all of the first lines came, and then others
  record Past (bytes : List ℕ) (before all : List L) (came : List Came) (last : Option Came) (lines : List L) (more : List ℕ) : Type 0 where
    others : List Came
    place : ℕ
    next : AreNext (Some (record { bytes = bytes; place = place })) (with_last others last)
    comes : ComesTo (follow_came reads can) (before ++ lines) others all
    rest : drop place bytes ≡ more
    count : length came ≡ length lines + length others

  first_next : (source : Option Source) (came : Came) (others : List Came) (last : Option Came) → AreNext source (with_last (came ∷ others) last)
      → IsNext source came.what came.text × AreNext (option_map passed source) (with_last others last)
  first_next source came others None next = (next.0, next.1)
  first_next source came others (Some other) next = (next.0, next.1)

  past : (bytes : List ℕ) (place : ℕ) (lines before all : List L) (came : List Came) (last : Option Came) (n : ℕ) (more : List ℕ) → AreLines reads write can before lines
      → drop place bytes ≡ bytes_by write lines ++ more → AreNext (Some (record { bytes = bytes; place = place })) (with_last came last) → ComesTo (follow_came reads can) before came all
      → StopsAt n all came last → length lines ≤ n → Past bytes before all came last lines more
  unfolding StopsAt
  past bytes place [] before all came last n more are rest next comes stops few = record {
    others = came;
    place = place;
    next = next;
    comes = subst (λ j. ComesTo (follow_came reads can) j came all) (sym (append-nil before)) comes;
    rest = rest;
    count = omega arith;
  }
  past bytes place (line ∷ lines) before all [] None n more are rest next comes stops few = absurd (omega (arith, stops, few))
  past bytes place (line ∷ lines) before all [] (Some came) n more are rest next comes stops few =
      let is = are.0 in
      let taken = line_taken (record { bytes = bytes; place = place }) (write line) (bytes_by write lines ++ more) is.text is.short (rest ∙ append_assoc (write line ++ 10 ∷ []) (bytes_by write lines) more) in
      let follows = line_follows before line came is are.1 (next.0.0 ∙ taken.what) (next.0.1 ∙ taken.text_is) in
      let none : None ≡ Some (before ++ line ∷ []) = sym stops ∙ ap (λ j. follow_came reads can j came) comes ∙ follows in
      absurd cc
  past bytes place (line ∷ lines) before all (came ∷ others) last n more are rest next comes stops few =
      let is = are.0 in
      let split = first_next (Some (record { bytes = bytes; place = place })) came others last next in
      let taken = line_taken (record { bytes = bytes; place = place }) (write line) (bytes_by write lines ++ more) is.text is.short (rest ∙ append_assoc (write line ++ 10 ∷ []) (bytes_by write lines) more) in
      let follows = line_follows before line came is are.1 (split.0.0 ∙ taken.what) (split.0.1 ∙ taken.text_is) in
      let some : Some comes.0 ≡ Some (before ++ line ∷ []) = sym comes.1 ∙ follows in
      let same : comes.0 ≡ before ++ line ∷ [] = cc in
      let rest_past = past bytes (place + taken_of (drop place bytes)) lines (before ++ line ∷ []) all others last (n - 1) more are.2 taken.left split.1
      (subst (λ j. ComesTo (follow_came reads can) j others all) same comes.2) (stops_later last stops) (omega (arith, few)) in
      let count = rest_past.count in
      record {
        others = rest_past.others;
        place = rest_past.place;
        next = rest_past.next;
        comes = subst (λ j. ComesTo (follow_came reads can) j rest_past.others all) (append_assoc before (line ∷ []) lines) rest_past.comes;
        rest = rest_past.rest;
        count = omega (arith, count);
      }
    where
      stops_later : (last : Option Came) → StopsAt n all (came ∷ others) last → StopsAt (n - 1) all others last
      stops_later None stops = omega (arith, stops)
      stops_later (Some other) stops = stops

  -- ---- the lines behind them

  -- what is recalled and followed are lines
  record Lines (before all : List L) : Type 0 where
    more : List L
    are : AreLines reads write can before more
    all_is : all ≡ before ++ more

  taken_text : (at : ℕ) (bytes : List ℕ) → ((k : ℕ) → k < at → (get_or bytes k 0 == 10) ≡ false) → is_text (take at bytes) ≡ true
  taken_text zero bytes none = refl
  taken_text (suc at) [] none = refl
  taken_text (suc at) (c ∷ bytes) none =
      and_from (not (c == 10)) (is_text (take at bytes)) (ap not (none 0 (omega arith))) (taken_text at bytes (λ k lt. none (suc k) (omega (arith, lt))))

  may_follow : (before next : List L) (line : L) (b : Bool) → (if b then Some (before ++ line ∷ []) else None) ≡ Some next → b ≡ true
  may_follow before next line true is = refl
  may_follow before next line false is = absurd cc

  came_line : (bytes : List ℕ) (came : Came) (line : L) → ((text : List ℕ) (l : L) → reads text ≡ Some l → text ≡ write l) → came.what ≡ coming_of bytes → came.text ≡ text_of bytes → came.what ≡ Line
      → reads came.text ≡ Some line → IsLine reads write line
  came_line bytes came line back what text is says =
      let cut = line_cut bytes (sym what ∙ is) in
      let found = position-Some (λ c. c == 10) bytes cut.at 0 cut.newline in
      let short = cut.short in
      let min_is : min cut.at 4096 ≡ cut.at = omega (arith, short) in
      let told : came.text ≡ take cut.at bytes = text ∙ ap (text_by bytes) cut.newline ∙ ap (λ n. take n bytes) min_is in
      let written : write line ≡ take cut.at bytes = sym (back came.text line says) ∙ told in
      let long = ap length written ∙ length-take cut.at bytes in
      record {
        text = ap is_text written ∙ taken_text cut.at bytes found.2;
        short = omega (arith, long, short);
        read = ap reads (sym (back came.text line says)) ∙ says;
      }

  comes_lines : ((text : List ℕ) (l : L) → reads text ≡ Some l → text ≡ write l) → (source : Source) (came : List Came) (before all : List L) → AreNext (Some source) came
      → ComesTo (follow_came reads can) before came all → Lines before all
  comes_lines back source [] before all next comes = record { more = []; are = tt; all_is = comes ∙ sym (append-nil before) }
  comes_lines back source (came ∷ others) before all next comes =
      let line = followed_line reads can before comes.0 came.what came.text comes.1 in
      let may = may_follow before comes.0 line.line (can before line.line)
      (sym (ap (λ w. if_follows can before (line_by reads w came.text)) line.what_is ∙ ap (if_follows can before) line.says) ∙ comes.1) in
      let rest = comes_lines back (passed source) others (before ++ line.line ∷ []) all next.1 (subst (λ j. ComesTo (follow_came reads can) j others all) line.next_is comes.2) in
      record {
        more = line.line ∷ rest.more;
        are = (came_line (rest_of source) came line.line back next.0.0 next.0.1 line.what_is line.says, may, rest.are);
        all_is = rest.all_is ∙ append_assoc before (line.line ∷ []) rest.more;
      }

  -- ---- the start

  not_followed : (journal : List L) (came : Came) → is_line came.what ≡ false → follow_came reads can journal came ≡ None
  not_followed journal came off = by came.what came.text off
    where
      by : (what : Coming) (text : List ℕ) → is_line what ≡ false → if_follows can journal (line_by reads what text) ≡ None
      by Line text off = absurd cc
      by TooLong text off = absurd cc
      by Rest text off = refl
      by End text off = refl

  ends_stop : (came : List Came) (last : Option Came) (all : List L) → IsEnd came last → StopsAt most_lines all came last
  unfolding StopsAt
  ends_stop came None all ends = ends
  ends_stop came (Some other) all ends = not_followed all other ends

  -- behind the lines stands no further one
  nothing_past : (bytes : List ℕ) (before all : List L) (came : List Came) (last : Option Came) (lines : List L) (more : List ℕ) → newline_in more ≡ None → (p : Past bytes before all came last lines more) → p.others ≡ []
  nothing_past bytes before all came last lines more none p = by p.others p.next p.comes
    where
      by : (others : List Came) → AreNext (Some (record { bytes = bytes; place = p.place })) (with_last others last) → ComesTo (follow_came reads can) (before ++ lines) others all → others ≡ []
      by [] next comes = refl
      by (other ∷ others) next comes =
          let split = first_next (Some (record { bytes = bytes; place = p.place })) other others last next in
          let off = no_line reads can (before ++ lines) (drop p.place bytes) other (ap newline_in p.rest ∙ none) split.0.0 in
          let some : None ≡ Some comes.0 = sym off ∙ comes.1 in
          absurd cc

  -- these bytes are the head, and others behind it
  record IsFronted (head bytes more : List ℕ) : Type 0 where
    within : length head ≤ length bytes
    taken : take (length head) bytes ≡ head
    left_is : drop (length head) bytes ≡ more

  fronted : (head bytes more : List ℕ) → bytes ≡ head ++ more → IsFronted head bytes more
  fronted head bytes more is =
      let long = ap length is ∙ length-append head more in
      record {
        within = omega (arith, long);
        taken = ap (take (length head)) is ∙ take-append_seam head more;
        left_is = ap (drop (length head)) is ∙ drop-append_seam head more;
      }

  module _ {R : Type 0} (back : (text : List ℕ) (line : L) → reads text ≡ Some line → text ≡ write line) (is : List L → R → Type 0) (head bytes : List ℕ) where
    -- the journal is read up to where its lines end, and what stands behind it is cut off
    record ReadTo (view w : WireView) (new : R) (all : List L) : Type 0 where
      place : ℕ
      view_is : view.journal ≡ Some (record { bytes = bytes; place = place })
      taken : take place bytes ≡ head ++ bytes_by write all
      restored : IsRestored write is head all w new

    read_to : (at : ℕ) (u w : WireView) (new : R) (read : IsRead (follow_came reads can) is u w new) → u.journal ≡ Some (record { bytes = bytes; place = at }) → at ≤ length bytes
        → take at bytes ≡ head → ReadTo read.view w new read.ready.journal
    unfolding after_step
    read_to at u w new read told within front =
        let ready = read.ready in
        let start : Source = record { bytes = bytes; place = at } in
        let next = subst (λ s. AreNext s (with_last ready.lines ready.last)) told ready.next in
        let walked = walk reads can write back head bytes at ready.lines [] ready.journal (next_first (Some start) ready.lines ready.last next) ready.comes within (front ∙ sym (append-nil head)) in
        let end = end_left (Some start) ready.lines ready.last bytes walked.place ready.ends next walked.is in
        let view : read.view.journal ≡ Some (record { bytes = bytes; place = walked.place })
        = ap (λ (x : WireView). x.journal) ready.steps ∙ recall_journal u (with_last ready.lines ready.last) ∙ ap (λ s. left s (with_last ready.lines ready.last)) told ∙ end in
        record {
          place = walked.place;
          view_is = view;
          taken = walked.taken;
          restored = record {
            source = record { bytes = take walked.place bytes; place = walked.place };
            told = ap (λ (x : WireView). x.journal) read.trimmed ∙ ap (option_map (journal_after (Trimmed false))) view;
            bytes = walked.taken;
            after = ready.after;
          };
        }

    -- ---- over lines and other bytes

    module _ (lines : List L) (more : List ℕ) (bytes_are : bytes ≡ head ++ (bytes_by write lines ++ more)) (are : AreLines reads write can [] lines) (few : length lines ≤ most_lines) where
      -- it goes on by them, and by others that stand behind them
      pub record GoesBehind (w : WireView) (new : R) : Type 0 where
        pub others : List L
        pub others_are : AreLines reads write can lines others
        pub stand : IsPrefixOf (head ++ bytes_by write (lines ++ others)) bytes
        pub restored : IsRestored write is head (lines ++ others) w new

      abbrev pub RestoresFirst : WireView → Result (Start R) RoleError → Type 0
      RestoresFirst w (Ok (starts.Ready new)) = GoesBehind w new
      RestoresFirst w (Ok (starts.Line number)) = number_behind (number_behind (lines_in head) 1) (length lines) ≤ number
      RestoresFirst w (Ok starts.Unreadable) = Unit {0}
      RestoresFirst w (Ok (starts.Head number)) = ⊥
      RestoresFirst w (Err error) = Unit {0}

      abbrev pub Restores : WireView → Result (Start R) RoleError → Type 0
      Restores w (Ok (starts.Ready new)) = IsRestored write is head lines w new
      Restores w (Ok (starts.Line number)) = ⊥
      Restores w (Ok starts.Unreadable) = Unit {0}
      Restores w (Ok (starts.Head number)) = ⊥
      Restores w (Err error) = Unit {0}

      past_ready : (u w : WireView) (new : R) (read : IsRead (follow_came reads can) is u w new) → u.journal ≡ Some (record { bytes = bytes; place = length head })
          → Past bytes [] read.ready.journal read.ready.lines read.ready.last lines more
      past_ready u w new read told =
          let ready = read.ready in
          past bytes (length head) lines [] ready.journal ready.lines ready.last most_lines more are (fronted head bytes (bytes_by write lines ++ more) bytes_are).left_is
          (subst (λ s. AreNext s (with_last ready.lines ready.last)) told ready.next) ready.comes (ends_stop ready.lines ready.last ready.journal ready.ends) few

      past_wrong : (from : ℕ) (u w : WireView) (number : ℕ) (wrong : IsWrong (follow_came reads can) from u w number) → u.journal ≡ Some (record { bytes = bytes; place = length head })
          → Past bytes [] wrong.journal wrong.lines (Some wrong.came) lines more
      unfolding StopsAt
      past_wrong from u w number wrong told =
          past bytes (length head) lines [] wrong.journal wrong.lines (Some wrong.came) most_lines more are (fronted head bytes (bytes_by write lines ++ more) bytes_are).left_is
          (subst (λ s. AreNext s (wrong.lines ++ wrong.came ∷ [])) told wrong.next) wrong.comes wrong.wrong few

      read_all : (u w : WireView) (new : R) (read : IsRead (follow_came reads can) is u w new) → u.journal ≡ Some (record { bytes = bytes; place = length head }) → ReadTo read.view w new read.ready.journal
      read_all u w new read told =
          let front = fronted head bytes (bytes_by write lines ++ more) bytes_are in
          read_to (length head) u w new read told front.within front.taken

      goes_behind : (u w : WireView) (new : R) (read : IsRead (follow_came reads can) is u w new) → u.journal ≡ Some (record { bytes = bytes; place = length head }) → GoesBehind w new
      goes_behind u w new read told =
          let p = past_ready u w new read told in
          let found = comes_lines back (record { bytes = bytes; place = p.place }) p.others lines read.ready.journal
          (next_first (Some (record { bytes = bytes; place = p.place })) p.others read.ready.last p.next) p.comes in
          let all = read_all u w new read told in
          record {
            others = found.more;
            others_are = found.are;
            stand = (all.place, ap (λ j. head ++ bytes_by write j) (sym found.all_is) ∙ sym all.taken);
            restored = subst (λ j. IsRestored write is head j w new) found.all_is all.restored;
          }

      -- the lines are in the file all along, whatever crash comes
      record ReadAlong (file : JournalFile) (u w : WireView) : Type 0 where
        steps : List WireStep
        steps_are : w ≡ after_steps u steps
        along : AllAlong (KeepsFirst (head ++ bytes_by write lines)) file steps
        end : KeepsFirst (head ++ bytes_by write lines) (file_behind file steps)

      far_enough : (place : ℕ) (all others : List L) → all ≡ lines ++ others → take place bytes ≡ head ++ bytes_by write all → length (head ++ bytes_by write lines) ≤ place
      far_enough place all others all_is taken =
          let long = ap length taken ∙ ap (λ j. length (head ++ bytes_by write j)) all_is ∙ ap (λ t. length (head ++ t)) (flat_map-append (λ l. write l ++ 10 ∷ []) lines others) in
          let cut = length-take place bytes in
          let one = length-append head (bytes_by write lines) in
          let two = length-append head (bytes_by write lines ++ bytes_by write others) in
          let three = length-append (bytes_by write lines) (bytes_by write others) in
          omega (arith, long, cut, one, two, three)

      read_along : (u w : WireView) (new : R) (file : JournalFile) → IsRead (follow_came reads can) is u w new → file.source ≡ record { bytes = bytes; place = length head } → u.journal ≡ Some file.source
          → KeepsFirst (head ++ bytes_by write lines) file → ReadAlong file u w
      read_along u w new file read source_is told keeps =
          let ready = read.ready in
          let now = told ∙ ap Some source_is in
          let p = past_ready u w new read now in
          let found = comes_lines back (record { bytes = bytes; place = p.place }) p.others lines ready.journal
          (next_first (Some (record { bytes = bytes; place = p.place })) p.others ready.last p.next) p.comes in
          let all = read_all u w new read now in
          let recalled = recall_steps (with_last ready.lines ready.last) in
          let read_file = file_behind file recalled in
          let view : Some read_file.source ≡ Some (record { bytes = bytes; place = all.place })
          = sym (ap (λ (x : WireView). x.journal) ready.steps ∙ told_behind u file recalled told) ∙ all.view_is in
          let same : read_file.source ≡ record { bytes = bytes; place = all.place } = cc in
          let place_is : read_file.source.place ≡ all.place = ap (λ (x : Source). x.place) same in
          let far = far_enough all.place read.ready.journal found.more found.all_is all.taken in
          let at : length (head ++ bytes_by write lines) ≤ read_file.source.place = omega (arith, far, place_is) in
          let first = recalled_along (head ++ bytes_by write lines) file (with_last ready.lines ready.last) keeps in
          let last = trimmed_first (head ++ bytes_by write lines) read_file first.1 at in
          record {
            steps = recalled ++ Trimmed false ∷ [];
            steps_are = done_behind u read.view w recalled (Trimmed false ∷ []) ready.steps read.trimmed;
            along = along_join (KeepsFirst (head ++ bytes_by write lines)) file recalled (Trimmed false ∷ []) first.0 (first.1, last);
            end = subst (KeepsFirst (head ++ bytes_by write lines)) (sym (behind_join file recalled (Trimmed false ∷ []))) last;
          }

      goes_on : newline_in more ≡ None → (u w : WireView) (new : R) (read : IsRead (follow_came reads can) is u w new) → u.journal ≡ Some (record { bytes = bytes; place = length head })
          → IsRestored write is head lines w new
      goes_on none u w new read told =
          let p = past_ready u w new read told in
          let over = nothing_past bytes [] read.ready.journal read.ready.lines read.ready.last lines more none p in
          let all : read.ready.journal ≡ lines = subst (λ o. ComesTo (follow_came reads can) lines o read.ready.journal) over p.comes in
          subst (λ j. IsRestored write is head j w new) all (read_all u w new read told).restored

      -- no line behind them is wrong, where there is none
      none_wrong : newline_in more ≡ None → (from : ℕ) (u w : WireView) (number : ℕ) → IsWrong (follow_came reads can) from u w number → u.journal ≡ Some (record { bytes = bytes; place = length head }) → ⊥
      none_wrong none from u w number wrong told =
          let p = past_wrong from u w number wrong told in
          let over = nothing_past bytes [] wrong.journal wrong.lines (Some wrong.came) lines more none p in
          let next = subst (λ o. AreNext (Some (record { bytes = bytes; place = p.place })) (o ++ wrong.came ∷ [])) over p.next in
          by (length (drop p.place bytes) == 0) (next.0.0 ∙ ap (coming_by (drop p.place bytes)) (ap newline_in p.rest ∙ none)) wrong.line
        where
          by : (b : Bool) → wrong.came.what ≡ (if b then End else Rest) → is_line wrong.came.what ≡ true → ⊥
          by true is line = let no : false ≡ true = sym (ap is_line is) ∙ line in absurd cc
          by false is line = let no : false ≡ true = sym (ap is_line is) ∙ line in absurd cc

      wrong_behind : (u w : WireView) (number : ℕ) → IsWrong (follow_came reads can) (number_behind (lines_in head) 1) u w number → u.journal ≡ Some (record { bytes = bytes; place = length head })
          → number_behind (number_behind (lines_in head) 1) (length lines) ≤ number
      wrong_behind u w number wrong told =
          let p = past_wrong (number_behind (lines_in head) 1) u w number wrong told in
          let count = p.count in
          let is = wrong.number_is in
          omega (arith, count, is)

      reads_first : (u w : WireView) (result : Result (Start R) RoleError) → u.journal ≡ Some (record { bytes = bytes; place = length head })
          → ReadsOn (follow_came reads can) is (number_behind (lines_in head) 1) u w result → RestoresFirst w result
      reads_first u w (Ok (starts.Ready new)) told on = goes_behind u w new on told
      reads_first u w (Ok (starts.Line number)) told on = wrong_behind u w number on told
      reads_first u w (Ok starts.Unreadable) told on = tt
      reads_first u w (Ok (starts.Head number)) told on = absurd on
      reads_first u w (Err error) told on = tt

      reads_cut : newline_in more ≡ None → (u w : WireView) (result : Result (Start R) RoleError) → u.journal ≡ Some (record { bytes = bytes; place = length head })
          → ReadsOn (follow_came reads can) is (number_behind (lines_in head) 1) u w result → Restores w result
      reads_cut none u w (Ok (starts.Ready new)) told on = goes_on none u w new on told
      reads_cut none u w (Ok (starts.Line number)) told on = none_wrong none (number_behind (lines_in head) 1) u w number on told
      reads_cut none u w (Ok starts.Unreadable) told on = tt
      reads_cut none u w (Ok (starts.Head number)) told on = absurd on
      reads_cut none u w (Err error) told on = tt

      not_first : (name : List ℕ) (v w : WireView) (result : Result (Start R) RoleError) → NotOpened name v w result → RestoresFirst w result
      not_first name v w (Ok (starts.Ready new)) none = absurd none
      not_first name v w (Ok (starts.Line number)) none = absurd none
      not_first name v w (Ok starts.Unreadable) none = tt
      not_first name v w (Ok (starts.Head number)) none = absurd none
      not_first name v w (Err error) none = tt

      not_cut : (name : List ℕ) (v w : WireView) (result : Result (Start R) RoleError) → NotOpened name v w result → Restores w result
      not_cut name v w (Ok (starts.Ready new)) none = absurd none
      not_cut name v w (Ok (starts.Line number)) none = absurd none
      not_cut name v w (Ok starts.Unreadable) none = tt
      not_cut name v w (Ok (starts.Head number)) none = absurd none
      not_cut name v w (Err error) none = tt

-- ---- heads

head_same : (n : ℕ) (head : List ℕ) → head_found n head head ≡ Whole
head_same n [] = refl
head_same n (c ∷ head) =
    let same : (c == c) ≡ true = grind (arith, nat_tests) in
    ap (λ b. if b then head_found (line_behind c n) head head else Other n) same ∙ head_same (line_behind c n) head

head_begun : (n k : ℕ) (head : List ℕ) → k < length head → head_found n head (take k head) ≡ Begun
head_begun n k [] lt = absurd (omega (arith, lt))
head_begun n zero (c ∷ head) lt = refl
head_begun n (suc k) (c ∷ head) lt =
    let same : (c == c) ≡ true = grind (arith, nat_tests) in
    ap (λ b. if b then head_found (line_behind c n) head (take k head) else Other n) same ∙ head_begun (line_behind c n) k head (omega (arith, lt))

-- ---- opened journals

module _ {L R : Type 0} (reads : List ℕ → Option L) (write : L → List ℕ) (can : List L → L → Bool) (back : (text : List ℕ) (line : L) → reads text ≡ Some line → text ≡ write line) (is : List L → R → Type 0) (name head : List ℕ) (v : WireView) (source : Source)
    (told : v.journal ≡ Some source) where
  view_opened : (front : List ℕ) (u : WireView) → u ≡ after_step v (Opened name front) → u.journal ≡ Some (record { bytes = source.bytes; place = length front })
  unfolding after_step
  view_opened front u is_opened = ap (λ (x : WireView). x.journal) is_opened ∙ ap (option_map (journal_after (Opened name front))) told

  front_told : (front : List ℕ) → IsFront v.journal (length head) front → front ≡ take (min (length source.bytes) (length head)) source.bytes
  front_told front is_front = subst (λ s. IsFront s (length head) front) told is_front

  head_front : (more front : List ℕ) → source.bytes ≡ head ++ more → IsFront v.journal (length head) front → front ≡ head
  head_front more front bytes_are is_front =
      let long = ap length bytes_are ∙ length-append head more in
      let min_is : min (length source.bytes) (length head) ≡ length head = omega (arith, long) in
      front_told front is_front ∙ ap (λ n. take n source.bytes) min_is ∙ ap (take (length head)) bytes_are ∙ take-append_seam head more

  pub opens_first : (lines : List L) (more : List ℕ) (bytes_are : source.bytes ≡ head ++ (bytes_by write lines ++ more)) (are : AreLines reads write can [] lines) (few : length lines ≤ most_lines) (w : WireView)
      (result : Result (Start R) RoleError) → Opens (follow_came reads can) is name head v w result → RestoresFirst reads write can back is head source.bytes lines more bytes_are are few w result
  opens_first lines more bytes_are are few w result opens = ⊎_elim
      (λ none. not_first reads write can back is head source.bytes lines more bytes_are are few name v w result none)
      (λ opened.
      let front_is = head_front (bytes_by write lines ++ more) opened.front bytes_are opened.is_front in
      let now = view_opened opened.front opened.view opened.step ∙ ap (λ f. Some (record { bytes = source.bytes; place = length f })) front_is in
      let found = ap (head_found 1 head) front_is ∙ head_same 1 head in
      reads_first reads write can back is head source.bytes lines more bytes_are are few opened.view w result now
      (subst (λ f. GoesOnBy f (follow_came reads can) is head opened.view w result) found opened.goes_on))
      opens

  pub opens_cut : (lines : List L) (more : List ℕ) (bytes_are : source.bytes ≡ head ++ (bytes_by write lines ++ more)) (are : AreLines reads write can [] lines) (few : length lines ≤ most_lines) → newline_in more ≡ None
      → (w : WireView) (result : Result (Start R) RoleError) → Opens (follow_came reads can) is name head v w result → Restores reads write can back is head source.bytes lines more bytes_are are few w result
  opens_cut lines more bytes_are are few none w result opens = ⊎_elim
      (λ closed. not_cut reads write can back is head source.bytes lines more bytes_are are few name v w result closed)
      (λ opened.
      let front_is = head_front (bytes_by write lines ++ more) opened.front bytes_are opened.is_front in
      let now = view_opened opened.front opened.view opened.step ∙ ap (λ f. Some (record { bytes = source.bytes; place = length f })) front_is in
      let found = ap (head_found 1 head) front_is ∙ head_same 1 head in
      reads_cut reads write can back is head source.bytes lines more bytes_are are few none opened.view w result now
      (subst (λ f. GoesOnBy f (follow_came reads can) is head opened.view w result) found opened.goes_on))
      opens

  -- of a start that is ready the steps up to where nothing more is recalled leave the lines, whatever crash comes
  pub record OpensAlong (lines : List L) (file : JournalFile) (w : WireView) : Type 0 where
    pub steps : List WireStep
    pub steps_are : w ≡ after_steps v steps
    pub along : AllAlong (KeepsFirst (head ++ bytes_by write lines)) file steps
    pub end : KeepsFirst (head ++ bytes_by write lines) (file_behind file steps)

  opened_along : (lines : List L) (more : List ℕ) (bytes_are : source.bytes ≡ head ++ (bytes_by write lines ++ more)) (are : AreLines reads write can [] lines) (few : length lines ≤ most_lines) (file : JournalFile)
      → file.source ≡ source → KeepsFirst (head ++ bytes_by write lines) file → (front : List ℕ) (u w : WireView) (new : R) → u ≡ after_step v (Opened name front) → length front ≡ length head → IsRead (follow_came reads can) is u w new
      → OpensAlong lines file w
  opened_along lines more bytes_are are few file source_is keeps front u w new step long read =
      let there : (file_after file (Opened name front)).source ≡ record { bytes = source.bytes; place = length front } = ap (λ (s : Source). record { bytes = s.bytes; place = length front }) source_is in
      let now : u.journal ≡ Some (file_after file (Opened name front)).source = view_opened front u step ∙ ap Some (sym there) in
      let place : (file_after file (Opened name front)).source ≡ record { bytes = source.bytes; place = length head } = there ∙ ap (λ n. record { bytes = source.bytes; place = n }) long in
      let kept : KeepsFirst (head ++ bytes_by write lines) (file_after file (Opened name front)) = record { bytes = keeps.bytes; left = keeps.left } in
      let rest = read_along reads write can back is head source.bytes lines more bytes_are are few u w new (file_after file (Opened name front)) read place now kept in
      record {
        steps = Opened name front ∷ rest.steps;
        steps_are = rest.steps_are ∙ ap (λ x. after_steps x rest.steps) step;
        along = (keeps, rest.along);
        end = rest.end;
      }

  pub opens_along : (lines : List L) (more : List ℕ) (bytes_are : source.bytes ≡ head ++ (bytes_by write lines ++ more)) (are : AreLines reads write can [] lines) (few : length lines ≤ most_lines) (file : JournalFile)
      → file.source ≡ source → KeepsFirst (head ++ bytes_by write lines) file → (w : WireView) (new : R) → Opens (follow_came reads can) is name head v w (Ok (starts.Ready new)) → OpensAlong lines file w
  opens_along lines more bytes_are are few file source_is keeps w new opens = ⊎_elim (λ closed. absurd closed)
      (λ opened.
      let front_is = head_front (bytes_by write lines ++ more) opened.front bytes_are opened.is_front in
      let found = ap (head_found 1 head) front_is ∙ head_same 1 head in
      opened_along lines more bytes_are are few file source_is keeps opened.front opened.view w new opened.step (ap length front_is)
      (subst (λ f. GoesOnBy f (follow_came reads can) is head opened.view w (Ok (starts.Ready new))) found opened.goes_on))
      opens

  -- it is begun anew
  abbrev pub BeginsAnew : WireView → Result (Start R) RoleError → Type 0
  BeginsAnew w (Ok (starts.Ready new)) = IsRestored write is head [] w new
  BeginsAnew w (Ok (starts.Line number)) = ⊥
  BeginsAnew w (Ok starts.Unreadable) = Unit {0}
  BeginsAnew w (Ok (starts.Head number)) = ⊥
  BeginsAnew w (Err error) = Unit {0}

  begun : (u w : WireView) (new : R) (at : Source) → u.journal ≡ Some at → IsBegun is head u w new → IsRestored write is head [] w new
  unfolding after_step
  begun u w new at now begins = record {
    source = record { bytes = head; place = length head };
    told = ap (λ (x : WireView). x.journal) begins.steps ∙ ap (λ s. option_map (journal_after (Appended head false)) (option_map (journal_after (Emptied false)) s)) now;
    bytes = sym (append-nil head);
    after = begins.after;
  }

  begins_anew : (u w : WireView) (result : Result (Start R) RoleError) (at : Source) → u.journal ≡ Some at → Begins is head u w result → BeginsAnew w result
  begins_anew u w (Ok (starts.Ready new)) at now begins = begun u w new at now begins
  begins_anew u w (Ok (starts.Line number)) at now begins = absurd begins
  begins_anew u w (Ok starts.Unreadable) at now begins = tt
  begins_anew u w (Ok (starts.Head number)) at now begins = absurd begins
  begins_anew u w (Err error) at now begins = tt

  not_begun : (w : WireView) (result : Result (Start R) RoleError) → NotOpened name v w result → BeginsAnew w result
  not_begun w (Ok (starts.Ready new)) none = absurd none
  not_begun w (Ok (starts.Line number)) none = absurd none
  not_begun w (Ok starts.Unreadable) none = tt
  not_begun w (Ok (starts.Head number)) none = absurd none
  not_begun w (Err error) none = tt

  pub opens_begun : (n : ℕ) → n < length head → source.bytes ≡ take n head → (w : WireView) (result : Result (Start R) RoleError) → Opens (follow_came reads can) is name head v w result → BeginsAnew w result
  opens_begun n lt bytes_are w result opens = ⊎_elim
      (λ closed. not_begun w result closed)
      (λ opened.
      let long = ap length bytes_are ∙ length-take n head in
      let min_is : min (length source.bytes) (length head) ≡ length source.bytes = omega (arith, long) in
      let front_is : opened.front ≡ take n head = front_told opened.front opened.is_front ∙ ap (λ k. take k source.bytes) min_is ∙ take_all (length source.bytes) source.bytes (omega arith) ∙ bytes_are in
      let found = ap (head_found 1 head) front_is ∙ head_begun 1 n head lt in
      begins_anew opened.view w result (record { bytes = source.bytes; place = length opened.front }) (view_opened opened.front opened.view opened.step)
      (subst (λ f. GoesOnBy f (follow_came reads can) is head opened.view w result) found opened.goes_on))
      opens

  -- whatever stood in the journal, behind the start it is lines
  pub record Found (w : WireView) (new : R) : Type 0 where
    pub lines : List L
    pub are : AreLines reads write can [] lines
    pub restored : IsRestored write is head lines w new

  read_found : (front : List ℕ) (u w : WireView) (new : R) → u.journal ≡ Some (record { bytes = source.bytes; place = length front }) → IsOpenedAt head front source.bytes → IsRead (follow_came reads can) is u w new
      → Found w new
  read_found front u w new now at read =
      let ready = read.ready in
      let start : Source = record { bytes = source.bytes; place = length front } in
      let next = subst (λ s. AreNext s (with_last ready.lines ready.last)) now ready.next in
      let found = comes_lines reads write can back start ready.lines [] ready.journal (next_first (Some start) ready.lines ready.last next) ready.comes in
      let all = read_to reads write can back is head source.bytes (length front) u w new read now at.within at.taken in
      record {
        lines = found.more;
        are = found.are;
        restored = subst (λ j. IsRestored write is head j w new) found.all_is all.restored;
      }

  pub opens_found : (w : WireView) (new : R) → Opens (follow_came reads can) is name head v w (Ok (starts.Ready new)) → Found w new
  opens_found w new opens = ⊎_elim (λ closed. absurd closed)
      (λ opened. by opened.front opened.view (head_found 1 head opened.front) refl (view_opened opened.front opened.view opened.step) (front_told opened.front opened.is_front) opened.goes_on)
      opens
    where
      by : (front : List ℕ) (u : WireView) (found : HeadFound) → head_found 1 head front ≡ found → u.journal ≡ Some (record { bytes = source.bytes; place = length front })
          → front ≡ take (min (length source.bytes) (length head)) source.bytes → GoesOnBy found (follow_came reads can) is head u w (Ok (starts.Ready new)) → Found w new
      by front u Whole whole now front_is read = read_found front u w new now (opened_at head front source.bytes front_is whole) read
      by front u Begun whole now front_is begins = record { lines = []; are = tt; restored = begun u w new (record { bytes = source.bytes; place = length front }) now begins }
      by front u (Other line) whole now front_is (result, kept) = absurd cc
