-- Pieces of a text, whose entries are read ahead.
use Rattle.std.proofs.Common.{◌≡◌, Bool, true, false, ◌∙◌, ◌<◌, ◌≤◌, ◌+◌, ◌-◌, ℕ, zero, suc, take, drop, length-drop, slice_get, Some, Vec, map, IfOk, List, [], ◌∷◌, ◌++◌, length, length-append, All, refl, sym, ap, arith, append_assoc, subst, Result, Ok, Err}
use Rattle.std.specs.Prelude.{MatchResult}
use Rattle.std.specs.List.{AllZip, Contains}
use Rattle.std.specs.declared.alloc.AllocError.{AllocError}
use Rattle.std.specs.declared.alloc.Global.{Global}
use Rattle.std.proofs.lemmas.List.{take_all}
use Rattle.std.proofs.lemmas.List.Elements.{All-cons, All-head, All-nil, All-tail}
use Rattle.group_plan.specs.Plans.{PlanView, IsWithinLimits}
use Rattle.event_schedule.specs.declared.Entry.{Entry}
use Rattle.event_schedule.specs.Transcripts.{Fits, IsEntry, NeverFalls, last_tick_from}
use Rattle.field_texts.specs.Parts.{parts}
use Rattle.field_texts.proofs.Cutting.{parts_some}
use Rattle.transcript_text.specs.declared.version.Version.{Version}
use Rattle.transcript_text.specs.declared.fault.ReadError.{ReadError}
use Rattle.transcript_text.specs.declared.piece.Piece.{Piece}
use Rattle.transcript_text.specs.Spelling.{ended, entry_text}
use Rattle.transcript_text.specs.Reading.{after_row, before, entries_from, row_of}
use Rattle.transcript_text.specs.ReadBack.{HasHead}
use Rattle.transcript_text.specs.Ahead.{BeginsWith, Follow, IsPieceOf, IsReadUpTo, IsSkipped, IsSoFar, PutEnds, SkipEnds, entry_lines}
use Rattle.transcript_text.specs.Readers.{ReaderView}
use Rattle.transcript_text.proofs.CleanFields.{clean_fields, comma, newline}
use Rattle.transcript_text.proofs.EntriesAgain.{cut_entry}
use Rattle.transcript_text.proofs.EntriesBack.{line_back}
use Rattle.transcript_text.proofs.EntryAgain.{IsSmall}
use Rattle.transcript_text.proofs.EntryBack.{row_back}
use Rattle.transcript_text.proofs.EntryLoop.{before_before, last-push, opens}
use Rattle.transcript_text.proofs.LineAgain.{row_again}
use Rattle.transcript_text.proofs.PieceLemmas.{all_there}
use Rattle.transcript_text.proofs.WrittenFields.{cut_text}

-- ---- lines

lines_cons : (version : Version) (e : Entry) (es : List Entry) (rest : List ℕ) → entry_lines version (e ∷ es) ++ rest ≡ entry_text version e ++ 10 ∷ (entry_lines version es ++ rest)
lines_cons version e es rest = append_assoc (ended (entry_text version e)) (entry_lines version es) rest ∙ append_assoc (entry_text version e) (10 ∷ []) (entry_lines version es ++ rest)

lines_push : (version : Version) (es : List Entry) (e : Entry) (rest : List ℕ) → entry_lines version (es ++ e ∷ []) ++ rest ≡ entry_lines version es ++ (entry_text version e ++ 10 ∷ rest)
lines_push version [] e rest = lines_cons version e [] rest
lines_push version (x ∷ es) e rest =
    append_assoc (ended (entry_text version x)) (entry_lines version (es ++ e ∷ [])) rest ∙ ap (λ q. ended (entry_text version x) ++ q) (lines_push version es e rest)
    ∙ sym (append_assoc (ended (entry_text version x)) (entry_lines version es) (entry_text version e ++ 10 ∷ rest))

-- each entry has a line, so the lines are longer than the entries are many
pub lines_long : (version : Version) (es : List Entry) (rest : List ℕ) → length rest + length es ≤ length (entry_lines version es ++ rest)
lines_long version [] rest = omega arith
lines_long version (e ∷ es) rest =
    let ih = lines_long version es rest in
    let text = ap length (lines_cons version e es rest) in
    let line = length-append (entry_text version e) (10 ∷ (entry_lines version es ++ rest)) in
    omega (arith, ih, text, line)

-- ---- entries that follow one another

follow_push : (plan : PlanView) (last : ℕ) (es : List Entry) (e : Entry) → Follow plan last es → last_tick_from last es ≤ e.tick → Fits plan e → IsEntry e → Follow plan last (es ++ e ∷ [])
follow_push plan last [] e f after fits is = (after, fits, is, tt)
follow_push plan last (x ∷ es) e f after fits is = (f.0, f.1, f.2, follow_push plan x.tick es e f.3 after fits is)

pub fit_all : (plan : PlanView) (last : ℕ) (es : List Entry) → Follow plan last es → All (Fits plan) es
fit_all plan last [] f = All-nil (Fits plan)
fit_all plan last (e ∷ es) f = All-cons (Fits plan) e es f.1 (fit_all plan e.tick es f.3)

pub never_fall : (plan : PlanView) (last : ℕ) (es : List Entry) → Follow plan last es → NeverFalls last es
never_fall plan last [] f = tt
never_fall plan last (e ∷ es) f = (f.0, never_fall plan e.tick es f.3)

-- entries that follow tick 0 follow any tick that isn't above that of the first
pub later : (plan : PlanView) (last : ℕ) (e : Entry) (es : List Entry) → last ≤ e.tick → Follow plan 0 (e ∷ es) → Follow plan last (e ∷ es)
later plan last e es after f = (after, f.1, f.2, f.3)

-- ---- entries that stand first are read

pub nothing_before : (left : Result (List Entry) ReadError) → before [] left ≡ left
nothing_before (Ok es) = refl
nothing_before (Err f) = refl

pub entries_ahead : (version : Version) (plan : PlanView) → IsSmall plan → HasHead version plan → (n last count : ℕ) (es : List Entry) (rest : List ℕ) → Follow plan last es
    → entries_from version plan n last count (parts 10 (entry_lines version es ++ rest)) ≡ before es (entries_from version plan (n + length es) (last_tick_from last es) (count + length es) (parts 10 rest))
entries_ahead version plan s head n last count [] rest f =
    let a : n + 0 ≡ n = omega arith in
    let b : count + 0 ≡ count = omega arith in
    sym (nothing_before (entries_from version plan (n + 0) last (count + 0) (parts 10 rest)) ∙ (λ i. entries_from version plan (a i) last (b i) (parts 10 rest)))
entries_ahead version plan s head n last count (e ∷ es) rest f =
    let more = entry_lines version es ++ rest in
    let cut = cut_entry version e more (clean_fields 44 comma version plan s e f.1 f.2) (clean_fields 10 newline version plan s e f.1 f.2) in
    let ih = entries_ahead version plan s head (n + 1) e.tick (count + 1) es rest f.3 in
    let line = row_again version plan last e s head f.0 f.1 f.2 in
    let a : n + 1 + length es ≡ n + length (e ∷ es) = omega arith in
    let b : count + 1 + length es ≡ count + length (e ∷ es) = omega arith in
    ap (λ q. entries_from version plan n last count (parts 10 q)) (lines_cons version e es rest) ∙ ap (entries_from version plan n last count) cut.0
    ∙ opens version plan n last count (entry_text version e) (parts 10 more) (parts_some 10 more)
    ∙ ap (after_row n count (parts 10 more) (λ x. entries_from version plan (n + 1) x.tick (count + 1) (parts 10 more))) (ap (row_of version plan last) cut.1 ∙ line)
    ∙ ap (before (e ∷ [])) ih ∙ before_before (e ∷ []) es (entries_from version plan (n + 1 + length es) (last_tick_from e.tick es) (count + 1 + length es) (parts 10 rest))
    ∙ (λ i. before (e ∷ es) (entries_from version plan (a i) (last_tick_from e.tick es) (b i) (parts 10 rest)))

-- ---- a piece, line by line

pub goes_on : (version : Version) (plan : PlanView) (text rest line after : List ℕ) (last tick : ℕ) (es new : List Entry) → IsWithinLimits plan → IsSoFar version plan text rest last es
    → parts 10 rest ≡ line ∷ parts 10 after → PutEnds version plan last line es new (Some tick) → IsSoFar version plan text after tick new
goes_on version plan text rest line after last tick es new limits so cut (e, new_is, tick_is, read) =
    let back = row_back version plan last (parts 44 line) e limits.meters (sym read) in
    let text_is : rest ≡ entry_text version e ++ 10 ∷ after = cut_text 10 rest line after cut ∙ ap (λ q. q ++ 10 ∷ after) (line_back version e line back.fields) in
    subst (λ (x : List Entry). IsSoFar version plan text after tick x) (sym new_is) (record {
      lines = so.lines ∙ ap (λ q. entry_lines version es ++ q) text_is ∙ sym (lines_push version es e after);
      follow = follow_push plan 0 es e so.follow (subst (λ t. t ≤ e.tick) so.tick back.after) back.fits back.entry;
      tick = tick_is ∙ sym (last-push 0 es e);
    })

-- what stands behind a line that is cut off stands at the end of the text
pub after_cut : (text : List ℕ) (n : ℕ) (line after : List ℕ) → n ≤ length text → parts 10 (take (length text - n) (drop n text)) ≡ line ∷ parts 10 after → (front : List ℕ) × (text ≡ front ++ after)
after_cut text n line after within cut =
    let long : length (drop n text) ≤ length text - n = (let d = length-drop n text in omega (arith, d)) in
    let back : drop n text ≡ line ++ 10 ∷ after = sym (take_all (length text - n) (drop n text) long) ∙ cut_text 10 (take (length text - n) (drop n text)) line after cut in
    (take n text ++ (line ++ 10 ∷ []), sym (take_drop n text) ∙ ap (λ q. take n text ++ q) (back ∙ sym (append_assoc line (10 ∷ []) after)) ∙ sym (append_assoc (take n text) (line ++ 10 ∷ []) after))
  where
    take_drop : (n : ℕ) (xs : List ℕ) → take n xs ++ drop n xs ≡ xs
    take_drop zero xs = refl
    take_drop (suc n) [] = refl
    take_drop (suc n) (x ∷ xs) = ap (λ q. x ∷ q) (take_drop n xs)

-- texts of one length that end the same text are the same
same_back : (xs ys front back : List ℕ) → xs ++ ys ≡ front ++ back → length ys ≡ length back → ys ≡ back
same_back [] ys [] back is long = is
same_back [] ys (y ∷ front) back is long =
    let all = ap length is in
    let rest = length-append front back in
    absurd (omega (arith, all, rest, long))
same_back (x ∷ xs) ys [] back is long =
    let all = ap length is in
    let rest = length-append xs ys in
    absurd (omega (arith, all, rest, long))
same_back (x ∷ xs) ys (y ∷ front) back is long = same_back xs ys front back (let e : x ∷ (xs ++ ys) ≡ y ∷ (front ++ back) = is in cc) long

pub made : (version : Version) (plan : PlanView) (whole front text : List ℕ) (p : Piece) → whole ≡ front ++ text → IsReadUpTo version plan text p.until p.last p.entries.items → p.from ≡ length text
    → IsPieceOf version plan whole p
made version plan whole front text p is (rest, until, so) from = record {
  lines = λ before back ends long. (rest, sym (same_back front text before back (sym is ∙ ends) (sym from ∙ sym long)) ∙ so.lines, sym until);
  follow = so.follow;
  last = so.tick;
}

pub behind : (version : Version) (plan : PlanView) (text front rest : List ℕ) (p : Piece) → text ≡ front ++ rest → IsPieceOf version plan text p → IsPieceOf version plan rest p
behind version plan text front rest p is piece = record {
  lines = λ before back ends long. piece.lines (front ++ before) back (is ∙ ap (λ q. front ++ q) ends ∙ sym (append_assoc front before back)) long;
  follow = piece.follow;
  last = piece.last;
}

pub all_behind : (version : Version) (plan : PlanView) (text front rest : List ℕ) (ps : List Piece) → text ≡ front ++ rest → All (IsPieceOf version plan text) ps → All (IsPieceOf version plan rest) ps
all_behind version plan text front rest [] is are = All-nil (IsPieceOf version plan rest)
all_behind version plan text front rest (p ∷ ps) is are =
    All-cons (IsPieceOf version plan rest) p ps (behind version plan text front rest p is (All-head (IsPieceOf version plan text) p ps are)) (all_behind version plan text front rest ps is (All-tail (IsPieceOf version plan text) p ps are))

-- ---- the entries of a piece are read

abbrev pub view_at : Version → PlanView → ℕ → ℕ → ℕ → List ℕ → ReaderView
view_at version plan n last count text = record {
  version = version;
  plan = plan;
  line = n;
  last = last;
  count = count;
  left = entries_from version plan n last count (parts 10 text);
  text = text;
  bytes = length text;
}

abbrev pub last_bytes : ℕ → List ℕ → List ℕ
last_bytes until text = take (length text - (length text - until)) (drop (length text - until) text)

last_bytes_of : (front rest text : List ℕ) (until : ℕ) → text ≡ front ++ rest → length rest ≡ until → last_bytes until text ≡ rest
last_bytes_of front rest text until is long =
    let all : length text ≡ length front + length rest = ap length is ∙ length-append front rest in
    let before : length text - until ≡ length front = omega (arith, all, long) in
    let after : length text - (length text - until) ≡ length rest = omega (arith, all, long) in
    ap (λ n. take n (drop (length text - until) text)) after ∙ ap (λ n. take (length rest) (drop n text)) before ∙ ap (λ q. take (length rest) (drop (length front) q)) is
    ∙ ap (take (length rest)) (drop_front front rest) ∙ take_all (length rest) rest (omega arith)
  where
    drop_front : (xs ys : List ℕ) → drop (length xs) (xs ++ ys) ≡ ys
    drop_front [] ys = refl
    drop_front (x ∷ xs) ys = drop_front xs ys

some_first : (es : List Entry) (first : Entry) → slice_get es 0 ≡ Some first → 0 < length es
some_first [] first is = absurd cc
some_first (e ∷ es) first is = omega arith

-- what stands behind the first entry follows a tick that isn't above its
record Starts (plan : PlanView) (last : ℕ) (es : List Entry) : Type 0 where
  follow : Follow plan last es
  tick : last_tick_from 0 es ≡ last_tick_from last es

starts : (plan : PlanView) (last : ℕ) (es : List Entry) (first : Entry) → slice_get es 0 ≡ Some first → last ≤ first.tick → Follow plan 0 es → Starts plan last es
starts plan last [] first is after f = absurd cc
starts plan last (e ∷ es) first is after f =
    let same : e ≡ first = cc in
    record { follow = later plan last e es (subst (λ (x : Entry). last ≤ x.tick) (sym same) after) f; tick = refl }

module _ (version : Version) (plan : PlanView) (text : List ℕ) (p : Piece) (is : IsPieceOf version plan text p) (from : p.from ≡ length text) where
  pub here : BeginsWith version p text
  here = is.lines [] text refl (sym from)

  pub room : p.until + length p.entries.items ≤ length text
  room =
      let all = ap length here.1 in
      let long = lines_long version p.entries.items here.0 in
      let until = here.2 in
      omega (arith, all, long, until)

  pub behind_piece : last_bytes p.until text ≡ here.0
  behind_piece = last_bytes_of (entry_lines version p.entries.items) here.0 text p.until here.1 here.2

  pub skipped : (n last count : ℕ) (first : Entry) → IsWithinLimits plan → HasHead version plan → slice_get p.entries.items 0 ≡ Some first → last ≤ first.tick
      → IsSkipped (view_at version plan n last count text) p (view_at version plan (n + length p.entries.items) p.last (count + length p.entries.items) (last_bytes p.until text))
  skipped n last count first limits head first_is after =
      let es = p.entries.items in
      let s : IsSmall plan = record { groups = limits.groups; meters = limits.meters; rounds = limits.rounds } in
      let st = starts plan last es first first_is after is.follow in
      let tick : last_tick_from last es ≡ p.last = sym (is.last ∙ st.tick) in
      let rest = last_bytes p.until text in
      let lines : text ≡ entry_lines version es ++ rest = here.1 ∙ ap (λ q. entry_lines version es ++ q) (sym behind_piece) in
      let most = room in
      let long : length rest ≡ p.until = ap length behind_piece ∙ here.2 in
      record {
        left =
            ap (λ q. entries_from version plan n last count (parts 10 q)) lines ∙ entries_ahead version plan s head n last count es rest st.follow
            ∙ ap (λ t. before es (entries_from version plan (n + length es) t (count + length es) (parts 10 rest))) tick;
        plan = refl;
        version = refl;
        text = lines;
        fits = fit_all plan 0 es is.follow;
        ticks = never_fall plan last es st.follow;
        last = sym tick;
        some = some_first es first first_is;
        fewer = omega (arith, most, long);
        goes_on = λ more.
            ap (λ q. entries_from version plan n last count (parts 10 q)) (ap (λ q. q ++ more) lines ∙ append_assoc (entry_lines version es) rest more)
            ∙ entries_ahead version plan s head n last count es (rest ++ more) st.follow
            ∙ ap (λ t. before es (entries_from version plan (n + length es) t (count + length es) (parts 10 (rest ++ more)))) tick;
      }

-- ---- pieces side by side

zip_all : (Q : Piece → Type 0) (ks : List ℕ) (ps : List Piece) → AllZip (λ k p. Q p) ks ps → All Q ps
zip_all Q ks [] are = All-nil Q
zip_all Q [] (p ∷ ps) are = absurd are
zip_all Q (k ∷ ks) (p ∷ ps) are = All-cons Q p ps are.0 (zip_all Q ks ps are.1)

pub pieces_are : (version : Version) (plan : PlanView) (text : List ℕ) (ks : List ℕ) (all : List (Result Piece AllocError)) (r : Result (Vec Piece Global) AllocError)
    → MatchResult r (λ (v : Vec Piece Global). (ps : List Piece) × (all ≡ map Ok ps) × (v.items ≡ ps)) (λ e. Contains all (Err e))
    → AllZip (λ k (p : Result Piece AllocError). IfOk p (IsPieceOf version plan text)) ks all → IfOk r (λ v. All (IsPieceOf version plan text) v.items)
pieces_are version plan text ks all r gives each = by_result r (all_there (λ k. IsPieceOf version plan text) ks all r gives each)
  where
    by_result : (r : Result (Vec Piece Global) AllocError) → IfOk r (λ v. AllZip (λ k. IsPieceOf version plan text) ks v.items) → IfOk r (λ v. All (IsPieceOf version plan text) v.items)
    by_result (Ok v) are = zip_all (IsPieceOf version plan text) ks v.items are
    by_result (Err e) are = tt

-- behind the first of some pieces, where it is skipped or not, the others are pieces still
pub still_pieces : (old : ReaderView) (p : Piece) (new : ReaderView) (all ps : List Piece) → all ≡ p ∷ ps → All (IsPieceOf old.version old.plan old.text) all → (skipped : Bool) → SkipEnds old p skipped new
    → All (IsPieceOf new.version new.plan new.text) ps
still_pieces old p new all ps is are true done =
    let old_are = All-tail (IsPieceOf old.version old.plan old.text) p ps (subst (λ (q : List Piece). All (IsPieceOf old.version old.plan old.text) q) is are) in
    rw (done.version, done.plan) (all_behind old.version old.plan old.text (entry_lines old.version p.entries.items) new.text ps done.text old_are)
still_pieces old p new all ps is are false same =
    let old_are = All-tail (IsPieceOf old.version old.plan old.text) p ps (subst (λ (q : List Piece). All (IsPieceOf old.version old.plan old.text) q) is are) in
    subst (λ (v : ReaderView). All (IsPieceOf v.version v.plan v.text) ps) (sym same) old_are
