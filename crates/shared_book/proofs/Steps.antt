-- Taking pages out and handing them back keep the rule.
use Rattle.std.proofs.Common.{◌≡◌, ◌≢◌, ◌<◌, ◌≤◌, ◌==◌, ℕ, Bool, true, false, List, [], ◌∷◌, ◌++◌, length, map, get_or, set, sym, refl, ap, ◌∙◌, subst, arith, inl, inr, ⊎_elim, if◌then◌else◌, eq-eqb, ne_eqb, length-set, append_assoc}
use Rattle.std.specs.Prelude.{Option, Some, None}
use mathlib.Core.Logic.{dite}
use mathlib.Core.Option.{none, some}
use native.Mathlib.Decide.{ℕ_discrete}
use lib.ListN.{get_elem?}
use prog.Atomic.{either}
use lib.Seq.{set-get_or}
use Rattle.std.proofs.lemmas.List.{append-nil}
use Rattle.atomic_table.specs.Table.{State, Act, step, keeps, takes, gives, stepped, Allows, Valid, carried_after}
use Rattle.atomic_table.proofs.Lists.{set_here, set_else, set_again}
use Rattle.event_schedule.specs.declared.Line.{Line}
use Rattle.group_book.specs.Books.{BookView}
use Rattle.shared_book.specs.declared.turn.Turn.{Turn}
use Rattle.shared_book.specs.declared.turn.View.{View}
use Rattle.shared_book.specs.declared.handed.Handed.{Handed}
use Rattle.shared_book.specs.Turns.{StartsWith, IsLegal, turn, turns_of, turns_by}
use Rattle.shared_book.specs.Law.{alive, Stands, HasAllOf, Holds, AtHome, IsOut, Kept, Mine, holding, done_with, Takes, Tries, NextIs, added, Gives, GivesBack}
use Rattle.shared_book.specs.Rests.{IsCarried, marked, carried}
use Rattle.shared_book.proofs.Ledgers.{SameOf, legal_added, same_added, same_elsewhere, stands_same}
use Rattle.shared_book.proofs.Views.{total_two, alive_one, inside, stay, leads_stay, apart_stay, tells_stay, out_stays, whole_of, word_here, word_else, held_same, all_of_stays, own_all}

-- ---- out

-- what a step on the word of a group owes, where the word becomes n
abbrev TriesAt : BookView → ℕ → ℕ → ℕ → Mine → State (Option Handed) View → ℕ → Type 0
TriesAt o slots id g m s n = (w : View) × (a : Act (Option Handed)) × Valid s.homes m.1 a × Kept o (stepped s g n id m.1 w a)
    × Tries (step slots g 0 1 none) m (get_or s.words g 0) (w, carried_after m.1 a)

-- the pages are out
takes_nothing : (o : BookView) (slots id g : ℕ) (m : Mine) (s : State (Option Handed) View) (r : Kept o s) → get_elem? s.views id ≡ some m.0 → get_or s.words g 0 ≢ 0 → TriesAt o slots id g m s (get_or s.words g 0)
takes_nothing o slots id g m s r at n = (
  m.0,
  keeps,
  tt,
  (let P : List ℕ × List View → Type 0 = λ x. Kept o (record { words = x.0; homes = s.homes; views = x.1 }) in
      subst P (λ k. (sym (set-get_or s.words g 0) k, sym (set_again s.views id m.0 at) k)) r),
  rw (ne_eqb (get_or s.words g 0) 0 n) refl,
)

-- the pages are at home, in this slot
takes_one : (o : BookView) (slots id g : ℕ) (m : Mine) → m.0.live ≡ true → m.0.held ≡ None → m.1 ≡ [] → g < length o.presence.plan.groups → (s : State (Option Handed) View) (r : Kept o s) → get_elem? s.views id ≡ some m.0
    → get_or s.words g 0 ≡ 0 → (h : Handed) → get_elem? s.homes g ≡ some (some (Some h)) → Stands o r.log g h.pages → HasAllOf o r.log s.views g h.last → TriesAt o slots id g m s 1
takes_one o slots id g m live free none_out lt s r at now h home stands all =
    let v : View = m.0 in
    let mine = (r.each id v at).0 live in
    let w : View = holding v g r.log in
    let within : g < length s.words = (let l = r.words in omega arith) in
    let not_held : (k : ℕ) → v.held ≢ Some k = λ k e. cc in (
      w,
      takes g (Some h),
      home,
      record {
        log = r.log;
        words = length-set s.words g 1 ∙ r.words;
        homes = length-set s.homes g none ∙ r.homes;
        legal = r.legal;
        each = stay (Holds o r.log) s.views id w (
          λ _. record {
            opening = mine.opening;
            number = mine.number;
            seen = ([], sym (append-nil r.log));
            mine = mine.mine;
            held = λ k e. refl;
          },
          λ d. absurd (cc),
        )
            (λ j x _ e. r.each j x e);
        out = λ i k x e q. dite (ℕ_discrete k g)
            (λ (z : k ≡ g). subst (λ (n : ℕ). get_or (set s.words g 1) n 0 ≡ 1) (sym z) (word_here s.words g 1 within))
            (λ (n : k ≢ g). word_else s.words g k 1 n
            ∙ stay (λ j y. y.held ≡ Some k → get_or s.words k 0 ≡ 1) s.views id w (λ y. absurd (n (held_same y refl))) (λ j y _ f z. r.out j k y f z) i x e q);
        apart = apart_stay s.views id w r.apart (λ j k b other e q z.
            let same : k ≡ g = held_same q refl in
            let one : get_or s.words g 0 ≡ 1 = subst (λ (n : ℕ). get_or s.words n 0 ≡ 1) same (r.out j k b e z) in
            absurd (omega arith));
        unmade = λ n l. r.unmade n (let k = length-set s.views id w in omega arith);
        leads = leads_stay r.log r.log s.views id v w at live refl refl refl refl refl (λ _ _. refl) r.leads (stay (λ j x. j ≡ 0 → x.out ≡ 0 → x.pending ≡ false → x.seen ≡ r.log) s.views id w (λ _ _ _. refl) (λ j x _ e z. whole_of s r j x e z));
        tells = tells_stay r.log r.log s.views id v w at live (λ p. (p, refl, refl, refl, refl, refl)) (λ _ h. h) (λ _ _. refl) r.tells;
        slot = λ k kt. dite (ℕ_discrete k g)
            (λ (z : k ≡ g). inr (id, w, set_here s.views id w (inside s.views id v at), ap Some (sym z)))
            (λ (n : k ≢ g). ⊎_elim
            (λ (q : AtHome o r.log s k). inl (word_else s.words g k 1 n ∙ q.0, q.1, set_else s.homes g k none n ∙ q.2, q.3, all_of_stays o r.log r.log s.views id k v w q.1.last at live refl (λ _ _. refl) q.4))
            (λ (q : IsOut s k). inr (out_stays s id k v w (set s.words g 1) at (not_held k) q))
            (r.slot k kt));
      },
      rw (eq-eqb (get_or s.words g 0) 0 now) (
        r.log,
        h,
        ap (λ (c : List (ℕ × Option Handed)). let y : Mine = (w, (g, Some h) ∷ c) in y) none_out,
        mine.seen,
        ap (λ (n : ℕ). turns_by n r.log) mine.number ∙ mine.mine,
        subst (λ (b : BookView). Stands b r.log g h.pages) (sym mine.opening) stands,
        λ z. sym (whole_of s r id v at (sym mine.number ∙ z.0) z.1 z.2),
        λ own. subst (λ (b : BookView). SameOf b g r.log v.seen) (sym mine.opening) (own_all o r.log s.views id g v h.last at live mine.number mine.seen all own),
      ),
    )

takes_if_home : (o : BookView) (slots id g : ℕ) (m : Mine) → m.0.live ≡ true → m.0.held ≡ None → m.1 ≡ [] → g < length o.presence.plan.groups → (s : State (Option Handed) View) (r : Kept o s) → get_elem? s.views id ≡ some m.0
    → get_or s.words g 0 ≡ 0 → TriesAt o slots id g m s 1
takes_if_home o slots id g m live free none_out lt s r at now = ⊎_elim
    (λ (q : AtHome o r.log s g). takes_one o slots id g m live free none_out lt s r at now q.1 q.2 q.3 q.4)
    (λ (q : IsOut s g). let one = r.out q.0 g q.1 q.2 q.3 in absurd (omega arith))
    (r.slot g lt)

-- a pass without pages takes those of a group out, where they are at home
pub takes_out : (o : BookView) (slots id g : ℕ) (m : Mine) → m.0.live ≡ true → m.0.held ≡ None → m.1 ≡ [] → g < slots
    → Allows (Kept o) slots id m g (λ n. either (n == 0) 1 n) (Tries (step slots g 0 1 none) m)
takes_out o slots id g m live free none_out slot_lt s r slots_are at _ =
    let lt : g < length o.presence.plan.groups = (let h = r.homes in omega arith) in
    dite (ℕ_discrete (get_or s.words g 0) 0)
    (λ (e : get_or s.words g 0 ≡ 0).
    let same : 1 ≡ either (get_or s.words g 0 == 0) 1 (get_or s.words g 0) = rw (eq-eqb (get_or s.words g 0) 0 e) refl in
    subst (TriesAt o slots id g m s) same (takes_if_home o slots id g m live free none_out lt s r at e))
    (λ (n : get_or s.words g 0 ≢ 0).
    let same : get_or s.words g 0 ≡ either (get_or s.words g 0 == 0) 1 (get_or s.words g 0) = rw (ne_eqb (get_or s.words g 0) 0 n) refl in
    subst (TriesAt o slots id g m s) same (takes_nothing o slots id g m s r at n))

-- ---- turns of a pass

pub turns_by-append : (n : ℕ) (xs ys : List Turn) → turns_by n (xs ++ ys) ≡ turns_by n xs ++ turns_by n ys
turns_by-append n [] ys = refl
turns_by-append n (x ∷ xs) ys = elim (x.number == n) as (λ b. (if b then x ∷ turns_by n (xs ++ ys) else turns_by n (xs ++ ys)) ≡ (if b then x ∷ turns_by n xs else turns_by n xs) ++ turns_by n ys)
    [ true ↦ ap (λ (l : List Turn). x ∷ l) (turns_by-append n xs ys) | false ↦ turns_by-append n xs ys ]

pub own_turns : (n : ℕ) (lines : List Line) → turns_by n (turns_of n lines) ≡ turns_of n lines
own_turns n [] = refl
own_turns n (l ∷ lines) = let b : (n == n) ≡ true = eq-eqb n n refl in rw b (ap (λ (ts : List Turn). turn n l ∷ ts) (own_turns n lines))

pub other_turns : (n m : ℕ) (lines : List Line) → m ≢ n → turns_by n (turns_of m lines) ≡ []
other_turns n m [] ne = refl
other_turns n m (l ∷ lines) ne = let b : (m == n) ≡ false = ne_eqb m n ne in rw b (other_turns n m lines ne)

-- a pass has its own turns and these, and another has no more
pub turns_more : (n : ℕ) (log : List Turn) (lines : List Line) → turns_by n (log ++ turns_of n lines) ≡ turns_by n log ++ turns_of n lines
turns_more n log lines = turns_by-append n log (turns_of n lines) ∙ ap (λ (l : List Turn). turns_by n log ++ l) (own_turns n lines)

pub turns_else : (n m : ℕ) (log : List Turn) (lines : List Line) → m ≢ n → turns_by n (log ++ turns_of m lines) ≡ turns_by n log
turns_else n m log lines ne = turns_by-append n log (turns_of m lines) ∙ ap (λ (l : List Turn). turns_by n log ++ l) (other_turns n m lines ne) ∙ append-nil (turns_by n log)

pub starts_more : (a b : List Turn) (more : List Turn) → StartsWith a b → StartsWith (a ++ more) b
starts_more a b more s = (s.0 ++ more, ap (λ (l : List Turn). l ++ more) s.1 ∙ append_assoc b s.0 more)

-- ---- back

some_same : (h h' : Handed) → ◌≡◌ {A = Option Handed} (Some h) (Some h') → h ≡ h'
some_same h h' e = cc

gives_of : (o : BookView) (slots id g : ℕ) (v : View) (h : Handed) → v.live ≡ true → v.held ≡ Some g → g < slots → NextIs v g h
    → Allows (Kept o) slots id (v, (g, Some h) ∷ []) g (λ _. 0) (λ _. GivesBack (step slots g 0 0 none) (v, (g, Some h) ∷ []) 0)
gives_of o slots id g v h live held slot_lt next s r slots_are at _ =
    let lt : g < length o.presence.plan.groups = (let q = r.homes in omega arith) in
    let mine = (r.each id v at).0 live in
    let opening = mine.opening in
    let number = mine.number in
    let own : List Line = added h in
    let turns : List Turn = turns_of v.number own in
    let log : List Turn = r.log ++ turns in
    let w : View = done_with v log in
    let within : g < length s.words = (let l = r.words in omega arith) in
    let home_within : g < length s.homes = omega arith in
    let same : SameOf o g r.log v.seen = mine.held g held in
    let stands : Stands o (v.seen ++ turns) g h.pages = subst (λ (b : BookView). Stands b (v.seen ++ turns) g h.pages) opening next.1 in
    let legal : IsLegal o log = legal_added o g v.number r.log v.seen own r.legal stands.replays.ledger same next.0 in
    let elsewhere : (k : ℕ) → k ≢ g → SameOf o k log r.log = λ k n. same_elsewhere o g k v.number r.log own (λ e. n (sym e)) next.0 in
    let others : (n : ℕ) → n ≢ id → turns_by n log ≡ turns_by n r.log = λ n q. turns_else n v.number r.log own (λ e. q (sym e ∙ number)) in
    let not_mine : (j k : ℕ) (x : View) → j ≢ id → get_elem? s.views j ≡ some x → x.held ≡ Some k → k ≢ g = λ j k x other e q z. other (r.apart j id g x v e at (q ∙ ap Some z) held) in (
      w,
      gives,
      tt,
      record {
        log = log;
        words = length-set s.words g 0 ∙ r.words;
        homes = length-set s.homes g (some (Some h)) ∙ r.homes;
        legal = legal;
        each = stay (Holds o log) s.views id w (
          λ _. record {
            opening = opening;
            number = number;
            seen = ([], sym (append-nil log));
            mine = ap (λ (n : ℕ). turns_by n log) (sym number);
            held = λ k e. absurd (cc);
          },
          λ d. absurd (cc),
        )
            (λ j x other e. let q = r.each j x e in (
              λ l. let f = q.0 l in record {
                opening = f.opening;
                number = f.number;
                seen = starts_more r.log x.seen turns f.seen;
                mine = others j other ∙ f.mine;
                held = λ k z. elsewhere k (not_mine j k x other e z) ∙ f.held k z;
              },
              q.1,
            ));
        out = λ i k x e q. stay (λ j y. y.held ≡ Some k → get_or (set s.words g 0) k 0 ≡ 1) s.views id w (λ z. absurd (cc))
            (λ j y other f z. word_else s.words g k 0 (not_mine j k y other f z) ∙ r.out j k y f z) i x e q;
        apart = apart_stay s.views id w r.apart (λ j k b other e q z. absurd (cc));
        unmade = λ n l. let k : length s.views ≤ n = omega (arith, length-set s.views id w) in let i = inside s.views id v at in others n (omega arith) ∙ r.unmade n k;
        leads = leads_stay r.log log s.views id v w at live refl refl refl refl refl others r.leads (stay (λ j x. j ≡ 0 → x.out ≡ 0 → x.pending ≡ false → x.seen ≡ log) s.views id w (λ _ _ _. refl)
            (λ j x other e z q _. let lead = r.leads x (subst (λ (n : ℕ). get_elem? s.views n ≡ some x) z e) in let two = total_two alive s.views j id x v other e at in
            let a = alive_one x lead.live in let b = alive_one v live in let c = lead.out in absurd (omega arith)));
        tells = tells_stay r.log log s.views id v w at live (λ p. (p, refl, refl, refl, refl, refl)) (λ told q. starts_more r.log told turns q) others r.tells;
        slot = λ k kt. dite (ℕ_discrete k g)
            (λ (z : k ≡ g). inl (subst (AtHome o log (stepped s g 0 id ((g, Some h) ∷ []) w gives)) (sym z) (
              word_here s.words g 0 within,
              h,
              set_here s.homes g (some (Some h)) home_within,
              stands_same o g (v.seen ++ turns) log h.pages stands legal (same_added o g v.number r.log v.seen own same),
              subst (HasAllOf o log (set s.views id w) g) (sym next.2) (w, ap (get_elem? (set s.views id w)) number ∙ set_here s.views id w (inside s.views id v at), λ _. refl),
            )))
            (λ (n : k ≢ g). ⊎_elim
            (λ (q : AtHome o r.log s k). inl (word_else s.words g k 0 n ∙ q.0, q.1, set_else s.homes g k (some (Some h)) n ∙ q.2, stands_same o k r.log log q.1.pages q.3 legal (elsewhere k n), all_of_stays o r.log log s.views id k v w q.1.last at live (elsewhere k n) (λ _ _. refl) q.4))
            (λ (q : IsOut s k). inr (out_stays s id k v w (set s.words g 0) at (λ e. n (held_same e held)) q))
            (r.slot k kt));
      },
      λ h' e.
          let same_one : h ≡ h' = some_same h h' (ap (λ (c : List (ℕ × Option Handed)). (get_or c 0 (g, Some h)).1) e) in
          subst (λ (x : Handed). (before : List Turn) × (◌≡◌ {A = Mine} (w, []) (done_with v (before ++ turns_of v.number (added x)), [])) × Gives v g (added x) before) same_one (
            r.log,
            refl,
            record {
              grew = mine.seen;
              earlier = ap (λ (n : ℕ). turns_by n r.log) number ∙ mine.mine;
              group = subst (λ (b : BookView). SameOf b g r.log v.seen) (sym opening) same;
              legal = subst (λ (b : BookView). IsLegal b log) (sym opening) legal;
              alone = λ z. sym (whole_of s r id v at (sym number ∙ z.0) z.1 z.2);
            },
          ),
    )

-- a pass hands back the pages that it has, which stand for what it has seen and for its lines
pub gives_back : (o : BookView) (slots id g : ℕ) (m : Mine) (h : Handed) → m.0.live ≡ true → m.0.held ≡ Some g → g < slots → m.1 ≡ (g, Some h) ∷ [] → NextIs m.0 g h
    → Allows (Kept o) slots id m g (λ _. 0) (λ _. GivesBack (step slots g 0 0 none) m 0)
gives_back o slots id g m h live held slot_lt out next =
    subst (λ (c : List (ℕ × Option Handed)). Allows (Kept o) slots id (m.0, c) g (λ _. 0) (λ _. GivesBack (step slots g 0 0 none) (m.0, c) 0)) (sym out) (gives_of o slots id g m.0 h live held slot_lt next)

-- a pass without pages carries no slot
pub carries_none : (held : Option ℕ) (slots : List (ℕ × Option Handed)) → held ≡ None → IsCarried held slots → slots ≡ []
carries_none held [] e is = refl
carries_none held (x ∷ xs) e is = let n : length (marked x ∷ map marked xs) ≡ 0 = ap length (is ∙ ap carried e) in absurd (omega arith)

one_carried : (g : ℕ) (slots : List (ℕ × Option Handed)) → map marked slots ≡ (g, false) ∷ [] → slots ≡ (g, None) ∷ []
one_carried g [] is = let n : ◌≡◌ {A = ℕ} 0 1 = ap length is in absurd (omega arith)
one_carried g (x ∷ y ∷ xs) is = let n : length (marked x ∷ marked y ∷ map marked xs) ≡ 1 = ap length is in absurd (omega arith)
one_carried g ((k, None) ∷ []) is = ap (λ (n : ℕ). (n, None) ∷ []) (ap (λ (l : List (ℕ × Bool)). (get_or l 0 (g, false)).0) is)
one_carried g ((k, Some h) ∷ []) is = let b : true ≡ false = ap (λ (l : List (ℕ × Bool)). (get_or l 0 (g, false)).1) is in absurd (cc)

pub carries_one : (g : ℕ) (held : Option ℕ) (slots : List (ℕ × Option Handed)) → held ≡ Some g → IsCarried held slots → slots ≡ (g, None) ∷ []
carries_one g held slots e is = one_carried g slots (is ∙ ap carried e)

-- where the word was that of pages at home, the pass has them
pub tried : (slots g found : ℕ) (m m0 m' : Mine) → m ≡ m0 → found ≡ 0 → Tries (step slots g 0 1 none) m found m' → Takes m0 g m'
tried slots g found m m0 m' same home h =
    let t = rw (eq-eqb found 0 home) at h in
    subst (λ (x : Mine). Takes x g m') same t
