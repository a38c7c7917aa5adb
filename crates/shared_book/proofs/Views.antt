-- What stays of the views of passes where one of them changes.
use Rattle.std.proofs.Common.{◌≡◌, ◌≢◌, ◌<◌, ◌≤◌, ◌+◌, ◌⊎◌, ℕ, zero, suc, Bool, true, false, List, [], ◌∷◌, length, set, get_or, sym, refl, ap, ◌∙◌, subst, arith, inl, inr, ⊎_elim, length-set, length-append, ◌++◌}
use Rattle.std.specs.List.{Contains}
use Rattle.std.specs.Prelude.{Option, Some, None}
use Rattle.std.proofs.lemmas.List.{append-nil}
use mathlib.Core.Logic.{dite}
use mathlib.Core.Option.{some, some-injective, some-ne-none}
use native.Mathlib.Decide.{ℕ_discrete}
use lib.ListN.{get_elem?}
use Rattle.atomic_table.specs.Table.{State}
use Rattle.atomic_table.proofs.Lists.{at_set, at_longer, set_here, set_else}
use Rattle.shared_book.specs.declared.turn.Turn.{Turn}
use Rattle.group_book.specs.Books.{BookView}
use Rattle.event_schedule.specs.ByGroup.{lines_in}
use Rattle.event_schedule.specs.declared.Line.{Line}
use Rattle.shared_book.specs.declared.turn.View.{View}
use Rattle.shared_book.specs.declared.handed.Handed.{Handed}
use Rattle.shared_book.specs.Turns.{turns_by, lines_of, journal_after, StartsWith}
use Rattle.shared_book.specs.Law.{total, alive, Fits, Holds, Leads, Tells, HasAllOf, IsOwn, IsOut, Kept}
use Rattle.shared_book.proofs.Ledgers.{SameOf, journal-append, lines_in-append}

pub is_bool : (b : Bool) → (b ≡ true) ⊎ (b ≡ false)
is_bool true = inl refl
is_bool false = inr refl

pub total_set : (f : View → ℕ) (vs : List View) (i : ℕ) (v w : View) → get_elem? vs i ≡ some v → total f (set vs i w) + f v ≡ total f vs + f w
total_set f [] i v w e = absurd (some-ne-none v (sym e))
total_set f (x ∷ xs) zero v w e = let h : f x ≡ f v = ap f (some-injective x v e) in omega arith
total_set f (x ∷ xs) (suc i) v w e = let h = total_set f xs i v w e in omega arith

pub total_one : (f : View → ℕ) (vs : List View) (i : ℕ) (v : View) → get_elem? vs i ≡ some v → f v ≤ total f vs
total_one f [] i v e = absurd (some-ne-none v (sym e))
total_one f (x ∷ xs) zero v e = let h : f x ≡ f v = ap f (some-injective x v e) in omega arith
total_one f (x ∷ xs) (suc i) v e = let h = total_one f xs i v e in omega arith

pub total_two : (f : View → ℕ) (vs : List View) (i j : ℕ) (v w : View) → i ≢ j → get_elem? vs i ≡ some v → get_elem? vs j ≡ some w → f v + f w ≤ total f vs
total_two f [] i j v w n e h = absurd (some-ne-none v (sym e))
total_two f (x ∷ xs) zero zero v w n e h = absurd (n refl)
total_two f (x ∷ xs) zero (suc j) v w n e h = let a : f x ≡ f v = ap f (some-injective x v e) in let b = total_one f xs j w h in omega arith
total_two f (x ∷ xs) (suc i) zero v w n e h = let a : f x ≡ f w = ap f (some-injective x w h) in let b = total_one f xs i v e in omega arith
total_two f (x ∷ xs) (suc i) (suc j) v w n e h = let b = total_two f xs i j v w (λ q. n (ap suc q)) e h in omega arith

pub alive_one : (v : View) → v.live ≡ true → alive v ≡ 1
alive_one v e = rw e refl

pub inside : (vs : List View) (i : ℕ) (v : View) → get_elem? vs i ≡ some v → i < length vs
inside [] i v e = absurd (some-ne-none v (sym e))
inside (x ∷ xs) zero v e = omega arith
inside (x ∷ xs) (suc i) v e = let h = inside xs i v e in omega arith

-- a fact about each view, where one view changes
pub stay : (P : ℕ → View → Type 0) (vs : List View) (me : ℕ) (w : View) → P me w → ((j : ℕ) (x : View) → j ≢ me → get_elem? vs j ≡ some x → P j x)
    → (j : ℕ) (x : View) → get_elem? (set vs me w) j ≡ some x → P j x
stay P vs me w mine others j x e = ⊎_elim (λ (t : (j ≡ me) × (w ≡ x)). subst (λ (y : ℕ × View). P y.0 y.1) (λ i. (sym t.0 i, t.1 i)) mine)
    (λ (t : (j ≢ me) × (get_elem? vs j ≡ some x)). others j x t.0 t.1) (at_set vs me j w x e)

-- a pass that has pages is not spent
pub fits_of : (o : BookView) (log : List Turn) (i g : ℕ) (v : View) → Holds o log i v → v.held ≡ Some g → Fits o log i v
fits_of o log i g v h held = ⊎_elim (λ (l : v.live ≡ true). h.0 l) (λ (d : v.live ≡ false). let n = h.1 d in absurd (cc)) (is_bool v.live)

-- a spent pass stays so, where an unspent one changes
pub spent_stays : (vs : List View) (me n : ℕ) (v w x : View) → get_elem? vs me ≡ some v → v.live ≡ true → get_elem? vs n ≡ some x → x.live ≡ false → (n ≢ me) × (get_elem? (set vs me w) n ≡ some x)
spent_stays vs me n v w x at live e d =
    let apart : n ≢ me = λ q. let h : some x ≡ some v = sym e ∙ (ap (get_elem? vs) q ∙ at) in let l : v.live ≡ false = ap (λ (y : View). y.live) (sym (some-injective x v h)) ∙ d in cc in
    (apart, set_else vs me n w apart ∙ e)

-- what the first pass knows of the others, where an unspent pass changes that keeps its counts, and that has then seen all
pub leads_stay : (log log' : List Turn) (vs : List View) (me : ℕ) (v w : View) → get_elem? vs me ≡ some v → v.live ≡ true → w.live ≡ v.live → w.made ≡ v.made → w.out ≡ v.out → w.joined ≡ v.joined → w.seen ≡ log' → ((n : ℕ) → n ≢ me → turns_by n log' ≡ turns_by n log)
    → ((x : View) → get_elem? vs 0 ≡ some x → Leads log vs x) → ((j : ℕ) (x : View) → get_elem? (set vs me w) j ≡ some x → j ≡ 0 → x.out ≡ 0 → x.pending ≡ false → x.seen ≡ log')
    → (x : View) → get_elem? (set vs me w) 0 ≡ some x → Leads log' (set vs me w) x
leads_stay log log' vs me v w at alive_v live made out joined now others old whole x e =
    let same : total alive (set vs me w) ≡ total alive vs = (let t = total_set alive vs me v w at in let a : alive w ≡ alive v = rw live refl in omega arith) in
    let long = length-set vs me w in
    let dead : (i : ℕ) (y : View) → get_elem? (set vs me w) i ≡ some y → y.live ≡ false → get_elem? vs i ≡ some y = λ i y q d.
    ⊎_elim (λ (t : (i ≡ me) × (w ≡ y)). let l : y.live ≡ true = ap (λ (z : View). z.live) (sym t.1) ∙ live ∙ alive_v in absurd (cc))
    (λ (t : (i ≢ me) × (get_elem? vs i ≡ some y)). t.1) (at_set vs me i w y q) in
    ⊎_elim (λ (t : (0 ≡ me) × (w ≡ x)).
    let l = old v (subst (λ (n : ℕ). get_elem? vs n ≡ some v) (sym t.0) at) in
    let xl : x.live ≡ v.live = ap (λ (y : View). y.live) (sym t.1) ∙ live in
    let xm : x.made ≡ v.made = ap (λ (y : View). y.made) (sym t.1) ∙ made in
    let xo : x.out ≡ v.out = ap (λ (y : View). y.out) (sym t.1) ∙ out in
    let xj : x.joined ≡ v.joined = ap (λ (y : View). y.joined) (sym t.1) ∙ joined in
    record {
      live = xl ∙ l.live;
      made = (let m = l.made in omega arith);
      out = (let m = l.out in omega arith);
      joined = λ i y q d. subst (λ (ns : List ℕ). Contains ns i) (sym xj) (l.joined i y (dead i y q d) d);
      gone = λ n h. let k = l.gone n (subst (λ (ns : List ℕ). Contains ns n) xj h) in let z = spent_stays vs me n v w k.0 at alive_v k.1 k.2 in (k.0, z.1, k.2, λ _. ap (turns_by n) (sym now ∙ ap (λ (y : View). y.seen) t.1));
      whole = whole 0 x e refl;
    })
    (λ (t : (0 ≢ me) × (get_elem? vs 0 ≡ some x)). let l = old x t.1 in record {
      live = l.live;
      made = (let m = l.made in omega arith);
      out = (let m = l.out in omega arith);
      joined = λ i y q d. l.joined i y (dead i y q d) d;
      gone = λ n h. let k = l.gone n h in let z = spent_stays vs me n v w k.0 at alive_v k.1 k.2 in (k.0, z.1, k.2, λ q. others n z.0 ∙ k.3 q);
      whole = whole 0 x e refl;
    })
    (at_set vs me 0 w x e)

-- where a view changes, no other view has the pages that it then has
pub apart_stay : (vs : List View) (me : ℕ) (w : View)
    → ((i j g : ℕ) (a b : View) → get_elem? vs i ≡ some a → get_elem? vs j ≡ some b → a.held ≡ Some g → b.held ≡ Some g → i ≡ j)
    → ((j g : ℕ) (b : View) → j ≢ me → get_elem? vs j ≡ some b → w.held ≡ Some g → b.held ≡ Some g → ⊥)
    → (i j g : ℕ) (a b : View) → get_elem? (set vs me w) i ≡ some a → get_elem? (set vs me w) j ≡ some b → a.held ≡ Some g → b.held ≡ Some g → i ≡ j
apart_stay vs me w old new i j g a b ea eb wa wb =
    ⊎_elim
    (λ (p : (i ≡ me) × (w ≡ a)). ⊎_elim (λ (q : (j ≡ me) × (w ≡ b)). p.0 ∙ sym q.0)
    (λ (q : (j ≢ me) × (get_elem? vs j ≡ some b)). absurd (new j g b q.0 q.1 (ap (λ (y : View). y.held) p.1 ∙ wa) wb))
    (at_set vs me j w b eb))
    (λ (p : (i ≢ me) × (get_elem? vs i ≡ some a)). ⊎_elim (λ (q : (j ≡ me) × (w ≡ b)). absurd (new i g a p.0 p.1 (ap (λ (y : View). y.held) q.1 ∙ wb) wa))
    (λ (q : (j ≢ me) × (get_elem? vs j ≡ some b)). old i j g a b p.1 q.1 wa wb)
    (at_set vs me j w b eb))
    (at_set vs me i w a ea)

-- what views were told stays so, where an unspent view changes that has been told the same, and the history only grows by turns of that view
pub tells_stay : (log log' : List Turn) (vs : List View) (me : ℕ) (v w : View) → get_elem? vs me ≡ some v → v.live ≡ true → (w.pending ≡ true → (v.pending ≡ true) × (w.told ≡ v.told) × (w.told_by ≡ v.told_by) × (w.told_mine ≡ v.told_mine) × (w.told_out ≡ v.told_out) × (w.out ≡ v.out))
    → ((told : List Turn) → StartsWith log told → StartsWith log' told) → ((n : ℕ) → n ≢ me → turns_by n log' ≡ turns_by n log)
    → ((i : ℕ) (x : View) → get_elem? vs i ≡ some x → x.pending ≡ true → Tells log vs x) → (i : ℕ) (x : View) → get_elem? (set vs me w) i ≡ some x → x.pending ≡ true → Tells log' (set vs me w) x
tells_stay log log' vs me v w at live same grows others old =
    let moved : (x : View) → Tells log vs x → Tells log' (set vs me w) x = λ x t.
    let apart : x.told_by ≢ me = λ e. let q : some t.view ≡ some v = sym t.at ∙ (ap (get_elem? vs) e ∙ at) in let d : v.live ≡ false = ap (λ (y : View). y.live) (sym (some-injective t.view v q)) ∙ t.spent in cc in
    record { told = grows x.told t.told; mine = others x.told_by apart ∙ t.mine; out = t.out; view = t.view; at = set_else vs me x.told_by w apart ∙ t.at; spent = t.spent } in
    stay (λ i x. x.pending ≡ true → Tells log' (set vs me w) x) vs me w
    (λ p. let k = same p in let t = moved v (old me v at k.0) in record {
      told = subst (λ (l : List Turn). StartsWith log' l) (sym k.1) t.told;
      mine = subst (λ (n : ℕ). turns_by n log' ≡ w.told_mine) (sym k.2) (t.mine ∙ sym k.3);
      out = k.4 ∙ t.out ∙ ap (λ (n : ℕ). n + 1) (sym k.5);
      view = t.view;
      at = subst (λ (n : ℕ). get_elem? (set vs me w) n ≡ some t.view) (sym k.2) t.at;
      spent = t.spent;
    })
    (λ j x other e p. moved x (old j x e p))

-- pages that are out stay out with their pass, where another view changes
pub out_stays : (s : State (Option Handed) View) (me g : ℕ) (v w : View) (words : List ℕ) → get_elem? s.views me ≡ some v → v.held ≢ Some g → IsOut s g → IsOut (record { words = words; homes = s.homes; views = set s.views me w }) g
out_stays s me g v w words at other out =
    let apart : out.0 ≢ me = λ e. let h : some out.1 ≡ some v = sym out.2 ∙ (ap (get_elem? s.views) e ∙ at) in other (ap (λ (y : View). y.held) (sym (some-injective out.1 v h)) ∙ out.3) in
    (out.0, out.1, set_else s.views me out.0 w apart ∙ out.2, out.3)

-- the word that was set, and another
pub word_here : (ws : List ℕ) (g n : ℕ) → g < length ws → get_or (set ws g n) g 0 ≡ n
word_here [] g n lt = absurd (omega arith)
word_here (w ∷ ws) zero n lt = refl
word_here (w ∷ ws) (suc g) n lt = word_here ws g n (omega arith)

pub word_else : (ws : List ℕ) (g h n : ℕ) → h ≢ g → get_or (set ws g n) h 0 ≡ get_or ws h 0
word_else [] g h n ne = refl
word_else (w ∷ ws) zero zero n ne = absurd (ne refl)
word_else (w ∷ ws) zero (suc h) n ne = refl
word_else (w ∷ ws) (suc g) zero n ne = refl
word_else (w ∷ ws) (suc g) (suc h) n ne = word_else ws g h n (λ e. ne (ap suc e))

pub held_same : {g h : ℕ} {o : Option ℕ} → o ≡ Some g → o ≡ Some h → g ≡ h
held_same {g} {h} e f = unwrapped g h (sym e ∙ f)
  where
    unwrapped : (g h : ℕ) → ◌≡◌ {A = Option ℕ} (Some g) (Some h) → g ≡ h
    unwrapped g h e = cc

pub whole_of : {o : BookView} (s : State (Option Handed) View) (r : Kept o s) (j : ℕ) (x : View) → get_elem? s.views j ≡ some x → j ≡ 0 → x.out ≡ 0 → x.pending ≡ false → x.seen ≡ r.log
whole_of s r j x e z q p = (r.leads x (subst (λ (n : ℕ). get_elem? s.views n ≡ some x) z e)).whole q p

-- ---- what is known of a group

-- a history with no more of a group than at the opening has no more of it than any that it begins with
nothing_more : (xs ys zs : List Line) → (xs ++ ys) ++ zs ≡ xs → xs ++ ys ≡ xs
nothing_more xs ys zs e =
    let all : length ((xs ++ ys) ++ zs) ≡ length xs = ap length e in
    let one = length-append (xs ++ ys) zs in
    let two = length-append xs ys in
    ap (λ (l : List Line). xs ++ l) (none_left ys (omega arith)) ∙ append-nil xs
  where
    none_left : (ys : List Line) → length ys ≡ 0 → ys ≡ []
    none_left [] z = refl
    none_left (y ∷ ys) z = absurd (omega arith)

pub none_since : (o : BookView) (g : ℕ) (log seen : List Turn) → StartsWith log seen → lines_in g (journal_after o log) ≡ lines_in g o.journal → lines_in g (journal_after o log) ≡ lines_in g (journal_after o seen)
none_since o g log seen s none =
    let here : lines_in g (journal_after o log) ≡ (lines_in g o.journal ++ lines_in g (lines_of seen)) ++ lines_in g (lines_of s.0)
    = ap (λ (l : List Turn). lines_in g (journal_after o l)) s.1 ∙ ap (lines_in g) (journal-append o seen s.0) ∙ lines_in-append g (journal_after o seen) (lines_of s.0)
    ∙ ap (λ (l : List Line). l ++ lines_in g (lines_of s.0)) (lines_in-append g o.journal (lines_of seen)) in
    none ∙ sym (lines_in-append g o.journal (lines_of seen) ∙ nothing_more (lines_in g o.journal) (lines_in g (lines_of seen)) (lines_in g (lines_of s.0)) (sym here ∙ none))

-- it stays, where the history has no more of the group, and an unspent pass changes that then has as much of it as there is, if it had
pub all_of_stays : (o : BookView) (log log' : List Turn) (vs : List View) (me g : ℕ) (v w : View) (last : Option ℕ) → get_elem? vs me ≡ some v → v.live ≡ true → SameOf o g log' log
    → (w.live ≡ true → SameOf o g log v.seen → SameOf o g log' w.seen) → HasAllOf o log vs g last → HasAllOf o log' (set vs me w) g last
all_of_stays o log log' vs me g v w None at live same mine k = same ∙ k
all_of_stays o log log' vs me g v w (Some i) at live same mine k = dite (ℕ_discrete i me)
    (λ (e : i ≡ me).
    let is : k.0 ≡ v = some-injective k.0 v (sym k.1 ∙ (ap (get_elem? vs) e ∙ at)) in
    let has : SameOf o g log v.seen = subst (λ (x : View). SameOf o g log x.seen) is (k.2 (ap (λ (x : View). x.live) is ∙ live)) in
    (w, ap (get_elem? (set vs me w)) e ∙ set_here vs me w (inside vs me v at), λ l. mine l has))
    (λ (n : i ≢ me). (k.0, set_else vs me i w n ∙ k.1, λ l. same ∙ k.2 l))

-- and where a pass is new
pub all_of_longer : (o : BookView) (log : List Turn) (vs : List View) (c : View) (g : ℕ) (last : Option ℕ) → HasAllOf o log vs g last → HasAllOf o log (vs ++ c ∷ []) g last
all_of_longer o log vs c g None k = k
all_of_longer o log vs c g (Some i) k = (k.0, at_longer vs (c ∷ []) i k.0 k.1, k.2)

-- the last pass has seen all of the group
pub own_all : (o : BookView) (log : List Turn) (vs : List View) (id g : ℕ) (v : View) (last : Option ℕ) → get_elem? vs id ≡ some v → v.live ≡ true → v.number ≡ id → StartsWith log v.seen
    → HasAllOf o log vs g last → IsOwn v.number last → SameOf o g log v.seen
own_all o log vs id g v None at live number seen k own = none_since o g log v.seen seen k
own_all o log vs id g v (Some i) at live number seen k own =
    let is : k.0 ≡ v = some-injective k.0 v (sym k.1 ∙ (ap (get_elem? vs) (own ∙ number) ∙ at)) in
    subst (λ (x : View). SameOf o g log x.seen) is (k.2 (ap (λ (x : View). x.live) is ∙ live))
