-- How a shared book begins and ends.
use Rattle.std.proofs.Common.{◌≡◌, ◌≢◌, ◌<◌, ◌≤◌, ◌+◌, ◌==◌, ℕ, zero, suc, true, false, List, [], ◌∷◌, ◌++◌, map, length, get_or, sym, refl, ap, ◌∙◌, subst, arith, inl, inr, ⊎_elim, replicate, eq-eqb, ne_eqb}
use mathlib.Core.Logic.{dite}
use mathlib.Core.Option.{some, some-injective, some-ne-none}
use native.Mathlib.Decide.{ℕ_discrete}
use lib.ListN.{get_elem?}
use Rattle.std.specs.Prelude.{Option, Some, None, is_some, IsTrue}
use Rattle.std.specs.List.{All, Contains}
use Rattle.std.proofs.lemmas.List.{append-nil, length-map, length-replicate}
use Rattle.std.proofs.lemmas.Bool.{cases_lt}
use Rattle.std.proofs.lemmas.List.Elements.{All-head, All-tail}
use Rattle.atomic_table.specs.Table.{State, opening, Final, Seen}
use Rattle.event_schedule.specs.declared.Line.{Line}
use Rattle.group_book.specs.Books.{BookView}
use Rattle.event_schedule.specs.ByGroup.{lines_in}
use Rattle.group_book.specs.Groups.{GroupView}
use Rattle.group_book.specs.Replay.{IsLedger, IsGroup, AreReplayed}
use Rattle.shared_book.specs.declared.turn.Turn.{Turn}
use Rattle.shared_book.specs.declared.turn.View.{View}
use Rattle.shared_book.specs.declared.handed.Handed.{Handed}
use Rattle.shared_book.specs.Slots.{pages_in, HavePages, last_in, AreNew}
use Rattle.shared_book.specs.Turns.{IsLegal, turns_by, journal_after}
use Rattle.shared_book.specs.Law.{Stands, Kept, Leads, HasAllOf, AtHome, IsOut, alive, total}
use Rattle.shared_book.specs.Opened.{newcomer}
use Rattle.shared_book.specs.Ends.{AreOfJoined}
use Rattle.shared_book.proofs.Views.{total_two, is_bool, alive_one}

only_one : (v : View) (i : ℕ) (x : View) → get_elem? (v ∷ []) i ≡ some x → (i ≡ 0) × (v ≡ x)
only_one v zero x e = (refl, some-injective v x e)
only_one v (suc i) x e = absurd (some-ne-none x (sym e))

view_same : (v w : GroupView) → ◌≡◌ {A = Option GroupView} (Some v) (Some w) → v ≡ w
view_same v w e = cc

first_same : {A : Type 0} (x y : A) (xs ys : List A) → ◌≡◌ {A = List A} (x ∷ xs) (y ∷ ys) → (x ≡ y) × (xs ≡ ys)
first_same x y xs ys e = (cc, cc)

-- the slots have pages of these groups
has_pages : (slots : List (Option Handed)) (groups : List GroupView) (g : ℕ) → HavePages slots groups → g < length groups → (h : Handed) × (get_elem? (map some slots) g ≡ some (some (Some h))) × (get_or groups g h.pages ≡ h.pages)
has_pages [] [] g same lt = absurd (omega arith)
has_pages [] (v ∷ vs) g same lt = absurd (cc)
has_pages (None ∷ ss) [] g same lt = absurd (omega arith)
has_pages (None ∷ ss) (v ∷ vs) g same lt = absurd (cc)
has_pages (Some h ∷ ss) [] g same lt = absurd (omega arith)
has_pages (Some h ∷ ss) (v ∷ vs) zero same lt = (h, refl, sym (view_same h.pages v (first_same (Some h.pages) (Some v) (map pages_in ss) (map Some vs) same).0))
has_pages (Some h ∷ ss) (v ∷ vs) (suc g) same lt = has_pages ss vs g (first_same (Some h.pages) (Some v) (map pages_in ss) (map Some vs) same).1 (omega arith)

pub pages_long : (slots : List (Option Handed)) (groups : List GroupView) → HavePages slots groups → length slots ≡ length groups
pages_long slots groups have = sym (length-map slots pages_in) ∙ ap length have ∙ length-map groups Some

none_set : (n g : ℕ) → ◌≡◌ {A = ℕ} (get_or (replicate n 0) g 0) 0
none_set zero g = refl
none_set (suc n) zero = refl
none_set (suc n) (suc g) = none_set n g

-- no pass has handed back the pages in a slot
new_at : (slots : List (Option Handed)) (g : ℕ) (h : Handed) → AreNew slots → get_elem? (map some slots) g ≡ some (some (Some h)) → h.last ≡ None
new_at [] g h new at = absurd (some-ne-none (some (Some h)) (sym at))
new_at (x ∷ ss) zero h new at = subst (λ (y : Option Handed). last_in y ≡ None) (some-injective x (Some h) (some-injective (some x) (some (Some h)) at)) (All-head (λ slot. last_in slot ≡ None) x ss new)
new_at (x ∷ ss) (suc g) h new at = new_at ss g h (All-tail (λ slot. last_in slot ≡ None) x ss new) at

pub opens : (o : BookView) (slots : List (Option Handed)) (groups : List GroupView) → AreReplayed o.presence o.journal groups → HavePages slots groups → AreNew slots
    → Kept o (opening (replicate (length o.presence.plan.groups) 0) slots (newcomer o 0 []))
opens o slots groups are have new =
    let v : View = newcomer o 0 [] in
    let only : (i : ℕ) (x : View) → get_elem? (v ∷ []) i ≡ some x → (i ≡ 0) × (v ≡ x) = only_one v in
    let none_held : (i g : ℕ) (x : View) → get_elem? (v ∷ []) i ≡ some x → x.held ≢ Some g = λ i g x e q. let k : x.held ≡ None = ap (λ (y : View). y.held) (sym (only i x e).1) in cc in record {
      log = [];
      words = length-replicate (length o.presence.plan.groups) 0;
      homes = length-map slots some ∙ pages_long slots groups have ∙ are.long;
      legal = subst (IsLedger o.presence) (sym (append-nil o.journal)) are.ledger;
      each = λ i x e. let p = only i x e in (
        λ _. record {
          opening = ap (λ (y : View). y.opening) (sym p.1);
          number = ap (λ (y : View). y.number) (sym p.1) ∙ sym p.0;
          seen = ([], ap (λ (y : View). y.seen ++ []) p.1);
          mine = ap (λ (y : View). y.mine) p.1;
          held = λ g q. absurd (none_held i g x e q);
        },
        λ q. let k : x.live ≡ true = ap (λ (y : View). y.live) (sym p.1) in absurd (cc),
      );
      out = λ i g x e q. absurd (none_held i g x e q);
      apart = λ i j g a b ea eb _ _. (only i a ea).0 ∙ sym (only j b eb).0;
      unmade = λ n l. refl;
      leads = λ x e. subst (Leads [] (v ∷ [])) (only 0 x e).1 record {
        live = refl;
        made = refl;
        out = refl;
        gone = λ n h. let lt = h.1 in absurd (omega arith);
        joined = λ i y q d. let k : y.live ≡ true = ap (λ (z : View). z.live) (sym (only i y q).1) in absurd (cc);
        whole = λ _ _. refl;
      };
      tells = λ i x e p. let q = only i x e in let k : x.pending ≡ false = ap (λ (y : View). y.pending) (sym q.1) in absurd (cc);
      slot = λ g lt.
          let found = has_pages slots groups g have (omega (arith, are.long)) in
          inl (
            none_set (length o.presence.plan.groups) g,
            found.0,
            found.1,
            subst (λ (j : List Line). IsGroup o.presence j g found.0.pages) (sym (append-nil o.journal)) (subst (IsGroup o.presence o.journal g) found.2 (are.each g found.0.pages lt)),
            subst (HasAllOf o [] (v ∷ []) g) (sym (new_at slots g found.0 new found.1)) (ap (lines_in g) (append-nil o.journal)),
          );
    }

cons≢nil : {A : Type 0} (x : A) (xs : List A) → x ∷ xs ≢ []
cons≢nil x xs e = let n : length (x ∷ xs) ≡ 0 = ap length e in absurd (omega arith)

not_out : (o : BookView) (s : State (Option Handed) View) (r : Kept o s) (id g : ℕ) (v : View) → get_elem? s.views id ≡ some v → v.live ≡ true → v.held ≡ None → total alive s.views ≡ v.out + 1 → v.out ≡ 0 → IsOut s g → ⊥
not_out o s r id g v here live free out alone h =
    let other : h.0 ≢ id = λ e. let q : some h.1 ≡ some v = sym h.2 ∙ (ap (get_elem? s.views) e ∙ here) in let x : v.held ≡ Some g = ap (λ (y : View). y.held) (sym (some-injective h.1 v q)) ∙ h.3 in cc in
    let lives : h.1.live ≡ true = ⊎_elim (λ (l : h.1.live ≡ true). l) (λ (l : h.1.live ≡ false). let k = (r.each h.0 h.1 h.2).1 l in let y = h.3 in absurd (cc)) (is_bool h.1.live) in
    let two = total_two alive s.views h.0 id h.1 v other h.2 here in
    let a = alive_one h.1 lives in
    let b = alive_one v live in
    omega arith

-- a turn that a history has is a turn of its number
has_turn : (log : List Turn) (t : Turn) (k : ℕ) → k < length log → get_or log k t ≡ t → turns_by t.number log ≢ []
has_turn [] t k lt e no_turn = absurd (omega arith)
has_turn (x ∷ xs) t zero lt e no_turn =
    let b : (x.number == t.number) ≡ true = eq-eqb x.number t.number (ap (λ (u : Turn). u.number) e) in
    let n : ◌≡◌ {A = List Turn} (x ∷ turns_by t.number xs) [] = (let h = rw b at no_turn in h) in
    cons≢nil x (turns_by t.number xs) n
has_turn (x ∷ xs) t (suc k) lt e no_turn = dite (ℕ_discrete x.number t.number)
    (λ q. let b : (x.number == t.number) ≡ true = eq-eqb x.number t.number q in
    let n : ◌≡◌ {A = List Turn} (x ∷ turns_by t.number xs) [] = (let h = rw b at no_turn in h) in
    cons≢nil x (turns_by t.number xs) n)
    (λ q. let b : (x.number == t.number) ≡ false = ne_eqb x.number t.number q in
    let n : ◌≡◌ {A = List Turn} (turns_by t.number xs) [] = (let h = rw b at no_turn in h) in
    has_turn xs t k (omega arith) e n)

there_is : (vs : List View) (n : ℕ) → n < length vs → (x : View) × (get_elem? vs n ≡ some x)
there_is [] n lt = absurd (omega arith)
there_is (x ∷ xs) zero lt = (x, refl)
there_is (x ∷ xs) (suc n) lt = there_is xs n (omega arith)

-- a turn is of a number that was made
made_number : (o : BookView) (s : State (Option Handed) View) (r : Kept o s) (t : Turn) → Contains r.log t → t.number < length s.views
made_number o s r t h = ⊎_elim (λ (lt : t.number < length s.views). lt) (λ (le : length s.views ≤ t.number). absurd (has_turn r.log t h.0 h.1 h.2 (r.unmade t.number le))) (cases_lt t.number (length s.views))

of_joined : (o : BookView) (s : State (Option Handed) View) (r : Kept o s) (id : ℕ) (v : View) → get_elem? s.views id ≡ some v → id ≡ 0 → v.live ≡ true → v.out ≡ 0 → Leads r.log s.views v → AreOfJoined r.log v.joined
of_joined o s r id v here zero_id live alone lead t h =
    let found = there_is s.views t.number (made_number o s r t h) in
    dite (ℕ_discrete t.number id)
    (λ e. inl (e ∙ zero_id))
    (λ n. ⊎_elim
    (λ (l : found.0.live ≡ true).
    let two = total_two alive s.views t.number id found.0 v n found.1 here in
    let a = alive_one found.0 l in
    let b = alive_one v live in
    let c = lead.out in
    absurd (omega arith))
    (λ (d : found.0.live ≡ false). inr (lead.joined t.number found.0 found.1 d))
    (is_bool found.0.live))

at_get : {A : Type 0} (l : List A) (k : ℕ) (a d : A) → get_elem? l k ≡ some a → get_or l k d ≡ a
at_get [] k a d e = absurd (some-ne-none a (sym e))
at_get (x ∷ xs) zero a d e = some-injective x a e
at_get (x ∷ xs) (suc k) a d e = at_get xs k a d e

-- the pages of a group are those in its slot
pages_at : (slots : List (Option Handed)) (groups : List GroupView) (g : ℕ) (d : GroupView) (h : Handed) → HavePages slots groups → get_elem? slots g ≡ some (Some h) → get_or groups g d ≡ h.pages
pages_at [] groups g d h have at = absurd (some-ne-none (Some h) (sym at))
pages_at (x ∷ ss) [] g d h have at = absurd (cons≢nil (pages_in x) (map pages_in ss) have)
pages_at (x ∷ ss) (v ∷ vs) zero d h have at = view_same v h.pages (sym (first_same (pages_in x) (Some v) (map pages_in ss) (map Some vs) have).0 ∙ ap pages_in (some-injective x (Some h) at))
pages_at (x ∷ ss) (v ∷ vs) (suc g) d h have at = pages_at ss vs g d h (first_same (pages_in x) (Some v) (map pages_in ss) (map Some vs) have).1 at

-- what a table has left, closed with the first pass and no other out
module _ (o : BookView) (id : ℕ) (v : View) (words : List ℕ) (slots : List (Option Handed)) (f : Final (Seen (Kept o) id v) words slots)
    (live : v.live ≡ true) (free : v.held ≡ None) (first : v.number ≡ 0) (alone : v.out ≡ 0) (quiet : v.pending ≡ false) where
  long : length slots ≡ length o.presence.plan.groups
  long = sym f.3 ∙ f.1.0.homes

  lead : Leads f.1.0.log f.0.views v
  lead = f.1.0.leads v (subst (λ (n : ℕ). get_elem? f.0.views n ≡ some v) (sym ((f.1.0.each id v f.1.1).0 live).number ∙ first) f.1.1)

  home : (g : ℕ) → g < length o.presence.plan.groups → AtHome o f.1.0.log f.0 g
  home g lt = ⊎_elim (λ (h : AtHome o f.1.0.log f.0 g). h) (λ (h : IsOut f.0 g). absurd (not_out o f.0 f.1.0 id g v f.1.1 live free lead.out alone h)) (f.1.0.slot g lt)

  pub closes_slot : (g : ℕ) → g < length o.presence.plan.groups → (h : Handed) × (get_elem? slots g ≡ some (Some h)) × Stands o v.seen g h.pages
  closes_slot g lt =
      let h = home g lt in
      (h.1, f.4 g (Some h.1) h.2, subst (λ (l : List Turn). Stands o l g h.1.pages) (sym (lead.whole alone quiet)) h.3)

  pub closes_full : All (λ slot. IsTrue (is_some slot)) slots
  closes_full = λ k d lt. let h = closes_slot k (omega arith) in subst (λ (x : Option Handed). IsTrue (is_some x)) (sym (at_get slots k (Some h.0) d h.1)) refl

  pub closes_groups : (groups : List GroupView) → HavePages slots groups → AreReplayed o.presence (journal_after o v.seen) groups
  closes_groups groups have = record {
    ledger = subst (IsLegal o) (sym (lead.whole alone quiet)) f.1.0.legal;
    long = sym (pages_long slots groups have) ∙ long;
    each = λ g d lt. let h = closes_slot g lt in subst (IsGroup o.presence (journal_after o v.seen) g) (sym (pages_at slots groups g d h.0 have h.1)) h.2;
  }

  pub closes_numbers : AreOfJoined v.seen v.joined
  closes_numbers = subst (λ (l : List Turn). AreOfJoined l v.joined) (sym (lead.whole alone quiet)) (of_joined o f.0 f.1.0 id v f.1.1 (sym ((f.1.0.each id v f.1.1).0 live).number ∙ first) live alone lead)
