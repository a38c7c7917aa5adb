-- Passes that are cut in two and joined keep the rule.
use Rattle.std.proofs.Common.{◌≡◌, ◌≢◌, ◌+◌, ◌⊎◌, ℕ, zero, suc, true, false, List, [], ◌∷◌, ◌++◌, length, get_or, set, sym, refl, ap, ◌∙◌, subst, arith, inl, inr, ⊎_elim, length-set, length-append}
use Rattle.std.proofs.lemmas.List.{append-nil}
use Rattle.std.proofs.lemmas.List.Elements.{Contains-push, Contains-push_cases, Contains-append_left}
use Rattle.std.specs.List.{Contains}
use Rattle.std.specs.Prelude.{Some, None}
use mathlib.Core.Option.{none, some, some-injective, some-ne-none}
use lib.ListN.{get_elem?}
use lib.Seq.{set-get_or}
use Rattle.atomic_table.specs.Table.{step, keeps, Allows, Splits, Joins}
use Rattle.atomic_table.proofs.Lists.{set_here, set_else, at_longer}
use Rattle.group_book.specs.Books.{BookView}
use Rattle.shared_book.specs.declared.turn.View.{View}
use Rattle.shared_book.specs.Turns.{IsLegal, turns_by}
use Rattle.shared_book.specs.Law.{total, alive, Holds, Leads, Tells, AtHome, IsOut, Kept, Mine, learnt, Learns}
use Rattle.shared_book.specs.Opened.{parent, child, met, spent}
use Rattle.shared_book.proofs.Views.{total_set, total_two, alive_one, inside, stay, spent_stays, apart_stay, out_stays, tells_stay, leads_stay, whole_of, all_of_stays, all_of_longer}

at_end : (l : List View) (a : View) (j : ℕ) (b : View) → get_elem? (l ++ a ∷ []) j ≡ some b → (get_elem? l j ≡ some b) ⊎ ((j ≡ length l) × (a ≡ b))
at_end [] a zero b e = inr (refl, some-injective a b e)
at_end [] a (suc j) b e = absurd (some-ne-none b (sym e))
at_end (x ∷ xs) a zero b e = inl e
at_end (x ∷ xs) a (suc j) b e = ⊎_elim (λ (t : get_elem? xs j ≡ some b). inl t) (λ (t : (j ≡ length xs) × (a ≡ b)). inr (ap suc t.0, t.1)) (at_end xs a j b e)

total-end : (f : View → ℕ) (l : List View) (a : View) → total f (l ++ a ∷ []) ≡ total f l + f a
total-end f [] a = omega arith
total-end f (x ∷ xs) a = let h = total-end f xs a in omega arith

-- a fact about each view, where one more came
over_all : (P : ℕ → View → Type 0) (l : List View) (a : View) → ((j : ℕ) (x : View) → get_elem? l j ≡ some x → P j x) → P (length l) a → (j : ℕ) (x : View) → get_elem? (l ++ a ∷ []) j ≡ some x → P j x
over_all P l a old new j x e = ⊎_elim (λ (t : get_elem? l j ≡ some x). old j x t)
    (λ (t : (j ≡ length l) × (a ≡ x)). subst (λ (y : ℕ × View). P y.0 y.1) (λ i. (sym t.0 i, t.1 i)) new) (at_end l a j x e)

pub splits : (o : BookView) (id : ℕ) (v : View) → v.live ≡ true → v.number ≡ 0 → v.held ≡ None → v.pending ≡ false → Splits (Kept o) id v (parent v) (child v)
splits o id v live first free quiet s r at =
    let w : View = parent v in
    let c : View = child v in
    let vs : List View = set s.views id w in
    let mine = (r.each id v at).0 live in
    let zero_id : id ≡ 0 = sym mine.number ∙ first in
    let lead = r.leads v (subst (λ (n : ℕ). get_elem? s.views n ≡ some v) zero_id at) in
    let long : length vs ≡ length s.views = length-set s.views id w in
    let longer : length (vs ++ c ∷ []) ≡ length s.views + 1 = (let k = length-append vs (c ∷ []) in omega arith) in
    let none_yet : turns_by (length vs) r.log ≡ [] = r.unmade (length vs) (omega arith) in
    let not_held : (k : ℕ) → v.held ≢ Some k = λ k e. cc in
    let is_in = inside s.views id v at in record {
      log = r.log;
      words = r.words;
      homes = r.homes;
      legal = r.legal;
      each = over_all (Holds o r.log) vs c
          (stay (Holds o r.log) s.views id w
          (λ _. record { opening = mine.opening; number = mine.number; seen = mine.seen; mine = mine.mine; held = mine.held }, λ d. absurd (cc))
          (λ j x _ e. r.each j x e)) (
            λ _. record {
              opening = mine.opening;
              number = lead.made ∙ sym long;
              seen = mine.seen;
              mine = none_yet;
              held = λ k q. absurd (cc);
            },
            λ d. absurd (cc),
          );
      out = λ i k x e q. over_all (λ _ y. y.held ≡ Some k → get_or s.words k 0 ≡ 1) vs c
          (stay (λ _ y. y.held ≡ Some k → get_or s.words k 0 ≡ 1) s.views id w (λ z. absurd (not_held k z)) (λ j y _ f z. r.out j k y f z)) (λ z. absurd (cc)) i x e q;
      apart = λ i j g a b ea eb wa wb.
          ⊎_elim (λ (p : get_elem? vs i ≡ some a).
          ⊎_elim (λ (q : get_elem? vs j ≡ some b). apart_stay s.views id w r.apart (λ k h x _ _ z _. not_held h z) i j g a b p q wa wb)
          (λ (q : (j ≡ length vs) × (c ≡ b)). let z : b.held ≡ None = ap (λ (y : View). y.held) (sym q.1) in absurd (cc)) (at_end vs c j b eb))
          (λ (p : (i ≡ length vs) × (c ≡ a)). let z : a.held ≡ None = ap (λ (y : View). y.held) (sym p.1) in absurd (cc)) (at_end vs c i a ea);
      unmade = λ n l. r.unmade n (omega arith);
      leads = λ x e.
          let ends = total-end alive vs c in
          let same = total_set alive s.views id v w at in
          let out = lead.out in
          let made = lead.made in
          let one : alive w ≡ alive v = refl in
          let l : Leads r.log (vs ++ c ∷ []) w = record {
            live = live;
            made = omega arith;
            out = omega arith;
            joined = over_all (λ i y. y.live ≡ false → Contains v.joined i) vs c
                (stay (λ i y. y.live ≡ false → Contains v.joined i) s.views id w (λ d. absurd (cc)) (λ i y _ q d. lead.joined i y q d))
                (λ d. absurd (cc));
            gone = λ n h. let k = lead.gone n h in let t = spent_stays s.views id n v w k.0 at live k.1 k.2 in (k.0, at_longer vs (c ∷ []) n k.0 t.1, k.2, k.3);
            whole = λ q. absurd (omega arith);
          } in
          ⊎_elim (λ (p : get_elem? vs 0 ≡ some x).
          let q : some w ≡ some x = sym (set_here s.views id w is_in) ∙ (ap (get_elem? vs) zero_id ∙ p) in
          subst (Leads r.log (vs ++ c ∷ [])) (some-injective w x q) l)
          (λ (p : (0 ≡ length vs) × (c ≡ x)). let z = p.0 in absurd (omega arith)) (at_end vs c 0 x e);
      tells = over_all (λ i x. x.pending ≡ true → Tells r.log (vs ++ c ∷ []) x) vs c
          (λ j x e p. let t = tells_stay r.log r.log s.views id v w at live (λ q. absurd (cc)) (λ _ h. h) (λ _ _. refl) r.tells j x e p in
          record { told = t.told; mine = t.mine; out = t.out; view = t.view; at = at_longer vs (c ∷ []) x.told_by t.view t.at; spent = t.spent })
          (λ p. absurd (cc));
      slot = λ k kt. ⊎_elim (λ (q : AtHome o r.log s k). inl (q.0, q.1, q.2, q.3, all_of_longer o r.log vs c k q.1.last (all_of_stays o r.log r.log s.views id k v w q.1.last at live refl (λ _ same. same) q.4)))
          (λ (q : IsOut s k). let p = out_stays s id k v w s.words at (not_held k) q in inr (p.0, p.1, at_longer vs (c ∷ []) p.0 p.1 p.2, p.3)) (r.slot k kt);
    }

-- the first pass is told of another, which is spent
pub joins : (o : BookView) (id : ℕ) (v : View) (other : ℕ) (u : View) → v.live ≡ true → v.number ≡ 0 → v.held ≡ None → v.pending ≡ false → u.live ≡ true → u.held ≡ None
    → Joins (Kept o) id v other u (met v u) spent
joins o id v other u live first free quiet lives empty s r at ne eo =
    let b : View = met v u in
    let vs : List View = set s.views id b in
    let ws : List View = set vs other spent in
    let mine = (r.each id v at).0 live in
    let there : get_elem? s.views other ≡ some u = sym (set_else s.views id other b ne) ∙ eo in
    let theirs = (r.each other u there).0 lives in
    let zero_id : id ≡ 0 = sym mine.number ∙ first in
    let lead = r.leads v (subst (λ (n : ℕ). get_elem? s.views n ≡ some v) zero_id at) in
    let long : length vs ≡ length s.views = length-set s.views id b in
    let longer : length ws ≡ length s.views = length-set vs other spent ∙ long in
    let is_in = inside s.views id v at in
    let two = total_two alive s.views id other v u (λ e. ne (sym e)) at there in
    let not_held : (k : ℕ) → v.held ≢ Some k = λ k e. cc in
    let not_theirs : (k : ℕ) → u.held ≢ Some k = λ k e. cc in
    let one_v = alive_one v live in
    let one_u = alive_one u lives in record {
      log = r.log;
      words = r.words;
      homes = r.homes;
      legal = r.legal;
      each = stay (Holds o r.log) vs other spent (λ l. absurd (cc), λ _. refl)
          (λ j x _ e. stay (Holds o r.log) s.views id b
          (λ _. record { opening = mine.opening; number = mine.number; seen = mine.seen; mine = mine.mine; held = mine.held }, λ d. absurd (cc))
          (λ k y _ q. r.each k y q) j x e);
      out = λ i k x e q. stay (λ _ y. y.held ≡ Some k → get_or s.words k 0 ≡ 1) vs other spent (λ z. absurd (cc))
          (λ j y _ f. stay (λ _ y. y.held ≡ Some k → get_or s.words k 0 ≡ 1) s.views id b (λ z. absurd (not_held k z)) (λ j y _ f z. r.out j k y f z) j y f) i x e q;
      apart = apart_stay vs other spent (apart_stay s.views id b r.apart (λ k h x _ _ q _. not_held h q)) (λ k h x _ _ q _. absurd (cc));
      unmade = λ n l. r.unmade n (omega arith);
      leads = λ x e.
          let t = total_set alive s.views id v b at in
          let q = total_set alive vs other u spent eo in
          let out = lead.out in
          let made = lead.made in
          let same : alive b ≡ alive v = refl in
          let l : Leads r.log ws b = record {
            live = live;
            made = omega arith;
            out = omega arith;
            joined = stay (λ i y. y.live ≡ false → Contains b.joined i) vs other spent
                (λ _. subst (Contains b.joined) theirs.number (Contains-push v.joined u.number))
                (λ i y _ q. stay (λ i y. y.live ≡ false → Contains b.joined i) s.views id b
                (λ d. absurd (cc))
                (λ k z _ q2 d. Contains-append_left v.joined (u.number ∷ []) k (lead.joined k z q2 d)) i y q);
            gone = λ n h. ⊎_elim
                (λ (q : Contains v.joined n).
                let k = lead.gone n q in
                let t = spent_stays s.views id n v b k.0 at live k.1 k.2 in
                let z = spent_stays vs other n u spent k.0 eo lives t.1 k.2 in
                (k.0, z.1, k.2, λ _. k.3 (λ p. absurd (cc))))
                (λ (q : u.number ≡ n). (spent, ap (get_elem? ws) (sym q ∙ theirs.number) ∙ set_here vs other spent (inside vs other u eo), refl, λ p. absurd (p refl (sym q))))
                (Contains-push_cases v.joined u.number n h);
            whole = λ _ p. absurd (cc);
          } in
          let here : get_elem? ws id ≡ some b = set_else vs other id spent (λ e2. ne (sym e2)) ∙ set_here s.views id b is_in in
          let k : some b ≡ some x = sym here ∙ (ap (get_elem? ws) zero_id ∙ e) in
          subst (Leads r.log ws) (some-injective b x k) l;
      tells =
          let moved : (x : View) → Tells r.log s.views x → Tells r.log ws x = λ x t.
          let not_first : x.told_by ≢ id = λ e. let q : some t.view ≡ some v = sym t.at ∙ (ap (get_elem? s.views) e ∙ at) in let d : v.live ≡ false = ap (λ (y : View). y.live) (sym (some-injective t.view v q)) ∙ t.spent in cc in
          let not_other : x.told_by ≢ other = λ e. let q : some t.view ≡ some u = sym t.at ∙ (ap (get_elem? s.views) e ∙ there) in let d : u.live ≡ false = ap (λ (y : View). y.live) (sym (some-injective t.view u q)) ∙ t.spent in cc in
          record { told = t.told; mine = t.mine; out = t.out; view = t.view; at = set_else vs other x.told_by spent not_other ∙ (set_else s.views id x.told_by b not_first ∙ t.at); spent = t.spent } in
          stay (λ i x. x.pending ≡ true → Tells r.log ws x) vs other spent (λ p. absurd (cc))
          (λ j x _ e. stay (λ i y. y.pending ≡ true → Tells r.log ws y) s.views id b
          (λ _. record {
            told = theirs.seen;
            mine = ap (λ (n : ℕ). turns_by n r.log) theirs.number ∙ theirs.mine;
            out = (let t = lead.out in omega arith);
            view = spent;
            at = ap (get_elem? ws) theirs.number ∙ set_here vs other spent (inside vs other u eo);
            spent = refl;
          })
          (λ k y _ q p. moved y (r.tells k y q p)) j x e);
      slot = λ k kt. ⊎_elim (λ (q : AtHome o r.log s k). inl (
        q.0,
        q.1,
        q.2,
        q.3,
        all_of_stays o r.log r.log vs other k u spent q.1.last eo lives refl (λ l. absurd (cc)) (all_of_stays o r.log r.log s.views id k v b q.1.last at live refl (λ _ same. same) q.4),
      ))
          (λ (q : IsOut s k). inr (out_stays (record { words = s.words; homes = s.homes; views = vs }) other k u spent s.words eo (not_theirs k) (out_stays s id k v b s.words at (not_held k) q)))
          (r.slot k kt);
    }

-- the first pass learns what it was told
pub learns : (o : BookView) (slots id : ℕ) (m : Mine) → m.0.live ≡ true → m.0.number ≡ 0 → m.0.held ≡ None → m.0.pending ≡ true → Allows (Kept o) slots id m 0 (λ n. n) (Learns (step slots 0 0 0 none) m)
learns o slots id m live first free pending s r _ at _ =
    let v : View = m.0 in
    let w : View = learnt v r.log in
    let mine = (r.each id v at).0 live in
    let told = r.tells id v at pending in
    let lead = r.leads v (subst (λ (n : ℕ). get_elem? s.views n ≡ some v) (sym mine.number ∙ first) at) in
    let not_held : (k : ℕ) → v.held ≢ Some k = λ k e. cc in
    let word_same : (k n : ℕ) → get_or s.words k 0 ≡ n → get_or (set s.words 0 (get_or s.words 0 0)) k 0 ≡ n = λ k n e. subst (λ (ws : List ℕ). get_or ws k 0 ≡ n) (sym (set-get_or s.words 0 0)) e in (
      w,
      keeps,
      tt,
      record {
        log = r.log;
        words = length-set s.words 0 (get_or s.words 0 0) ∙ r.words;
        homes = r.homes;
        legal = r.legal;
        each = stay (Holds o r.log) s.views id w
            (λ _. record { opening = mine.opening; number = mine.number; seen = ([], sym (append-nil r.log)); mine = mine.mine; held = λ k e. refl }, λ d. absurd (cc))
            (λ j x _ e. r.each j x e);
        out = λ i k x e q. word_same k 1 (stay (λ _ y. y.held ≡ Some k → get_or s.words k 0 ≡ 1) s.views id w (λ z. absurd (not_held k z)) (λ j y _ f z. r.out j k y f z) i x e q);
        apart = apart_stay s.views id w r.apart (λ j h b other e q _. not_held h q);
        unmade = λ n l. r.unmade n (let k = length-set s.views id w in omega arith);
        leads = leads_stay r.log r.log s.views id v w at live refl refl refl refl refl (λ _ _. refl) r.leads (stay (λ j x. j ≡ 0 → x.out ≡ 0 → x.pending ≡ false → x.seen ≡ r.log) s.views id w (λ _ _ _. refl) (λ j x _ e z. whole_of s r j x e z));
        tells = tells_stay r.log r.log s.views id v w at live (λ p. absurd (cc)) (λ _ h. h) (λ _ _. refl) r.tells;
        slot = λ k kt. ⊎_elim (λ (q : AtHome o r.log s k). inl (word_same k 0 q.0, q.1, q.2, q.3, all_of_stays o r.log r.log s.views id k v w q.1.last at live refl (λ _ _. refl) q.4)) (λ (q : IsOut s k). inr (out_stays s id k v w (set s.words 0 (get_or s.words 0 0)) at (not_held k) q)) (r.slot k kt);
      },
      (r.log, refl, mine.seen, told.told, told.mine, ap (λ (n : ℕ). turns_by n r.log) mine.number ∙ mine.mine, subst (λ (x : BookView). IsLegal x r.log) (sym mine.opening) r.legal, told.out, λ n h ne. (lead.gone n h).3 (λ _. ne)),
    )
