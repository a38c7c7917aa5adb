-- The passes of a run's groups, joined one after another, and the book that its shared book leaves.
use Rattle.std.proofs.Common.{◌≡◌, ◌≢◌, ◌<◌, ◌≤◌, ◌+◌, ◌-◌, ◌==◌, ◌⊎◌, inl, inr, ℕ, zero, suc, Bool, true, false, List, [], ◌∷◌, ◌++◌, length, get_or, refl, sym, ap, ◌∙◌, subst, append-nil, arith, ⊎_elim, eq-eqb, eqb-true}
use Rattle.std.specs.List.{All, Contains, range_with_len}
use Rattle.std.proofs.lemmas.List.{length_push, get_or_push, get_or_append_left}
use Rattle.std.proofs.lemmas.List.Elements.{All-nil, All-cons, All-head, All-tail}
use Rattle.std.proofs.lemmas.List.FromFn.{length-range_with_len, get_or-range_with_len}
use mathlib.Core.Logic.{dite}
use native.Mathlib.Decide.{ℕ_discrete}
use Rattle.event_schedule.specs.declared.Line.{Line}
use Rattle.event_schedule.specs.Events.{event_of}
use Rattle.group_book.specs.declared.book.Parts.{Parts}
use Rattle.group_book.specs.Books.{BookView}
use Rattle.event_schedule.specs.ByGroup.{group_of, lines_in}
use Rattle.group_book.specs.Replay.{AreReplayed}
use Rattle.group_book.proofs.OwnLines.{groups_stay}
use Rattle.shared_book.specs.declared.parts.SharedBook.{SharedBook}
use Rattle.shared_book.specs.declared.parts.Pass.{Pass}
use Rattle.shared_book.specs.declared.turn.Turn.{Turn}
use Rattle.shared_book.specs.Ends.{opening, view, ShutEnds}
use Rattle.shared_book.specs.Passes.{PassView, JoinEnds}
use Rattle.shared_book.specs.Turns.{turn, turns_by, turns_of, lines_of, journal_after}
use Rattle.shared_book.proofs.Ledgers.{lines_of-turns}
use Rattle.tick_run.specs.declared.running.Group.{Group}
use Rattle.tick_run.specs.Sharing.{leading, JoinsGroups, HaveMade}

-- ---- join

range_more : (a n : ℕ) → range_with_len a (suc n) ≡ range_with_len a n ++ (a + n) ∷ []
range_more a zero = let same : a ≡ a + 0 = omega arith in ap (λ (k : ℕ). k ∷ []) same
range_more a (suc n) =
    let same : a + 1 + n ≡ a + suc n = omega arith in
    ap (λ (ks : List ℕ). a ∷ ks) (range_more (a + 1) n ∙ ap (λ (k : ℕ). range_with_len (a + 1) n ++ k ∷ []) same)

-- a number of a range
in_range : (n g : ℕ) → g < n → Contains (range_with_len 1 n) (g + 1)
in_range n g lt =
    let long = length-range_with_len 1 n in
    let same : 1 + g ≡ g + 1 = omega arith in
    (g, omega arith, get_or-range_with_len 1 n g (g + 1) lt ∙ same)

of_range : (n k : ℕ) → Contains (range_with_len 1 n) k → (g : ℕ) × (g < n) × (k ≡ g + 1)
of_range n k h =
    let lt : h.0 < n = (let a = h.1 in let b = length-range_with_len 1 n in omega arith) in
    let same : 1 + h.0 ≡ h.0 + 1 = omega arith in
    (h.0, lt, sym h.2 ∙ get_or-range_with_len 1 n h.0 k lt ∙ same)

pub joins-none : (n : ℕ) (w : PassView) → w ≡ leading n → JoinsGroups n [] w
joins-none n w is = subst (JoinsGroups n []) (sym is) record {
  number = refl;
  free = refl;
  mine = refl;
  own = refl;
  out = omega arith;
  joined = refl;
  turns = λ g d lt. absurd (omega arith);
}

-- one pass more
pub joins-next : (n : ℕ) (groups : List Group) (x : Group) (w w' : PassView) → JoinsGroups n groups w → (view x.pass).number ≡ length groups + 1 → JoinEnds w (view x.pass) w' → JoinsGroups n (groups ++ x ∷ []) w'
joins-next n groups x w w' old number j =
    let long = length_push groups x in
    let out = j.out in
    let was = old.out in record {
      number = j.number ∙ old.number;
      free = j.held ∙ old.free;
      mine = j.mine ∙ old.mine;
      own = ap (λ (k : ℕ). turns_by k w'.seen) (sym old.number) ∙ j.own ∙ j.mine ∙ old.mine;
      out = omega arith;
      joined = (let same : 1 + length groups ≡ length groups + 1 = omega arith in let more : suc (length groups) ≡ length (groups ++ x ∷ []) = omega arith in
          j.joined
          ∙ ap (λ (ks : List ℕ). ks ++ (view x.pass).number ∷ []) old.joined
          ∙ ap (λ (k : ℕ). range_with_len 1 (length groups) ++ k ∷ []) (number ∙ sym same)
          ∙ sym (range_more 1 (length groups))
          ∙ ap (range_with_len 1) more);
      turns = λ g d lt. dite (ℕ_discrete g (length groups))
          (λ (e : g ≡ length groups).
          let own : g + 1 ≡ (view x.pass).number = ap (λ (k : ℕ). k + 1) e ∙ sym number in
          ap (λ (k : ℕ). turns_by k w'.seen) own ∙ j.other ∙ ap (λ (y : Group). (view y.pass).mine) (sym (get_or_push groups x d g (sym e))))
          (λ (ne : g ≢ length groups).
          let before : g < length groups = omega arith in
          let apart : g + 1 ≢ (view x.pass).number = λ e. let same = e ∙ number in absurd (omega arith) in
          j.others (g + 1) (subst (λ (ks : List ℕ). Contains ks (g + 1)) (sym old.joined) (in_range (length groups) g before)) apart
          ∙ old.turns g d before
          ∙ ap (λ (y : Group). (view y.pass).mine) (sym (get_or_append_left groups (x ∷ []) d g before)));
    }

-- ---- whose line a turn has

is_bool : (b : Bool) → (b ≡ true) ⊎ (b ≡ false)
is_bool true = inl refl
is_bool false = inr refl

-- a turn is of the pass of its line's group
abbrev IsOfGroup : Turn → Type 0
IsOfGroup t = t.number ≡ group_of (event_of t.line) + 1

turn_in : (ts : List Turn) (t : Turn) → Contains ts t → Contains (turns_by t.number ts) t
turn_in [] t h = let lt = h.1 in absurd (omega arith)
turn_in (x ∷ ts) t (zero, lt, e) =
    let b : (x.number == t.number) ≡ true = eq-eqb x.number t.number (ap (λ (u : Turn). u.number) e) in
    rw b (zero, omega arith, e)
turn_in (x ∷ ts) t (suc k, lt, e) =
    let rest = turn_in ts t (k, omega arith, e) in
    ⊎_elim
    (λ (b : (x.number == t.number) ≡ true). let a = rest.1 in rw b (suc rest.0, omega arith, rest.2))
    (λ (b : (x.number == t.number) ≡ false). rw b rest)
    (is_bool (x.number == t.number))

-- the turns of one group's lines
each_of : (g : ℕ) (lines : List Line) → All IsOfGroup (turns_of (g + 1) (lines_in g lines))
each_of g [] = All-nil IsOfGroup
each_of g (l ∷ ls) = ⊎_elim
    (λ (b : (group_of (event_of l) == g) ≡ true).
    let own : g + 1 ≡ group_of (event_of l) + 1 = ap (λ (k : ℕ). k + 1) (sym (eqb-true (group_of (event_of l)) g b)) in
    rw b (All-cons IsOfGroup (turn (g + 1) l) (turns_of (g + 1) (lines_in g ls)) own (each_of g ls)))
    (λ (b : (group_of (event_of l) == g) ≡ false). rw b (each_of g ls))
    (is_bool (group_of (event_of l) == g))

-- the lines of a group are those of its pass's turns
by_group : (g : ℕ) (ts : List Turn) → ((t : Turn) → Contains ts t → IsOfGroup t) → lines_in g (lines_of ts) ≡ lines_of (turns_by (g + 1) ts)
by_group g [] each = refl
by_group g (t ∷ ts) each =
    let rest = by_group g ts (λ u h. each u (suc h.0, (let lt = h.1 in omega arith), h.2)) in
    let own : t.number ≡ group_of (event_of t.line) + 1 = each t (0, omega arith, refl) in
    ⊎_elim
    (λ (b : (group_of (event_of t.line) == g) ≡ true).
    let c : (t.number == g + 1) ≡ true = eq-eqb t.number (g + 1) (own ∙ ap (λ (k : ℕ). k + 1) (eqb-true (group_of (event_of t.line)) g b)) in
    rw c (rw b (ap (λ (ls : List Line). t.line ∷ ls) rest)))
    (λ (b : (group_of (event_of t.line) == g) ≡ false).
    ⊎_elim
    (λ (c : (t.number == g + 1) ≡ true).
    let e : group_of (event_of t.line) ≡ g = (let q = sym own ∙ eqb-true t.number (g + 1) c in omega arith) in
    let z : true ≡ false = sym (eq-eqb (group_of (event_of t.line)) g e) ∙ b in
    absurd (cc))
    (λ (c : (t.number == g + 1) ≡ false). rw c (rw b rest))
    (is_bool (t.number == g + 1)))
    (is_bool (group_of (event_of t.line) == g))

-- ---- the book

module _ (book : SharedBook) (first : Pass) (groups : List Group) (journal : List Line) (w : PassView) (parts : Parts)
    (made : HaveMade book first groups journal) (joins : JoinsGroups (length groups) groups w) (shut : ShutEnds (opening book) w parts) where
  -- the turns of a group's pass are its lines
  turns_are : (g : ℕ) → g < length groups → turns_by (g + 1) w.seen ≡ turns_of (g + 1) (lines_in g journal)
  turns_are g lt = some_group groups refl
    where
      some_group : (gs : List Group) → groups ≡ gs → turns_by (g + 1) w.seen ≡ turns_of (g + 1) (lines_in g journal)
      some_group [] e = absurd (let n = ap length e in omega arith)
      some_group (d ∷ ds) e = joins.turns g d lt ∙ (made.turns g d lt).mine

  each_is : (t : Turn) → Contains w.seen t → IsOfGroup t
  each_is t h = ⊎_elim
      (λ (z : t.number ≡ 0).
      let none : turns_by t.number w.seen ≡ [] = ap (λ (k : ℕ). turns_by k w.seen) z ∙ joins.own in
      let is = subst (λ (ts : List Turn). Contains ts t) none (turn_in w.seen t h) in
      let lt = is.1 in absurd (omega arith))
      (λ (c : Contains w.joined t.number).
      let r = of_range (length groups) t.number (subst (λ (ks : List ℕ). Contains ks t.number) joins.joined c) in
      let own : turns_by t.number w.seen ≡ turns_of (r.0 + 1) (lines_in r.0 journal) = ap (λ (k : ℕ). turns_by k w.seen) r.2 ∙ turns_are r.0 r.1 in
      let is = subst (λ (ts : List Turn). Contains ts t) own (turn_in w.seen t h) in
      subst IsOfGroup is.2 (each_of r.0 journal is.0 t is.1))
      (shut.numbers t h)

  -- the history has the same lines of each group as the journal
  pub same_lines : (g : ℕ) → g < length groups → lines_in g journal ≡ lines_in g (journal_after (opening book) w.seen)
  same_lines g lt =
      sym (ap (λ (ls : List Line). lines_in g (ls ++ lines_of w.seen)) made.empty ∙ by_group g w.seen each_is ∙ ap lines_of (turns_are g lt) ∙ lines_of-turns (g + 1) (lines_in g journal))

  pub replayed : AreReplayed (opening book).presence journal parts.groups.items
  replayed =
      let o : BookView = opening book in
      record {
        ledger = made.ledger;
        long = shut.groups.long;
        each = λ g d lt. let x = shut.groups.each g d lt in record {
          group = x.group;
          replays = groups_stay o.presence (journal_after o w.seen) journal (get_or parts.groups.items g d) made.ledger
              (subst (λ (h : ℕ). lines_in h journal ≡ lines_in h (journal_after o w.seen)) (sym x.group) (same_lines g (omega (arith, lt, made.all)))) x.replays;
        };
      }
