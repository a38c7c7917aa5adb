-- The files of meters, name by name and file by file.
use Rattle.std.proofs.Common.{◌≡◌, ◌<◌, ℕ, zero, suc, ◌+◌, ◌-◌, List, [], ◌∷◌, ◌++◌, refl, sym, ap, ◌∙◌, subst, append_assoc, Result, Ok, Err, arith, inl, inr}
use Rattle.std.specs.List.{All, flat_map, range_with_len}
use Rattle.std.proofs.lemmas.List.{append-nil}
use Rattle.std.proofs.lemmas.List.Elements.{All-append, All-nil}
use Rattle.pair_keys.specs.Keys.{Keys as KeysOf}
use Rattle.std.specs.Prelude.{Bool}
use Rattle.desk_outside.specs.declared.desk.DeskError.{DeskError}
use Rattle.desk_outside.specs.declared.desk.DeskError.TheVariants.{Failed}
use Rattle.desk_outside.specs.Begun.{CommitEnds}
use Rattle.desk_outside.specs.Desk.{View, Step, Stored, Unstored, after_step, after_steps}
use Rattle.plan_files.proofs.WrittenRows.{written_more}
use Rattle.meter_files.specs.declared.putting.PartFailure.{PartFailure}
use Rattle.meter_files.specs.declared.putting.PartFailure.TheVariants.{Memory, Unwritable}
use Rattle.group_plan.specs.Plans.{PlanView}
use Rattle.meter_files.specs.declared.names.PartFile.TheVariants.{Keys, Journal}
use Rattle.meter_files.specs.Names.{part_name, names_at, names_below}
use Rattle.meter_files.specs.Spelling.{journal_head, meter_text}
use Rattle.meter_files.specs.Putting.{IsFree, StopsAtName, StopsAtFile, ChecksNames, PutsFiles, PutsParts, files_at, files_below}

-- ---- lists

steps_append : (v : View) (a b : List Step) → after_steps v (a ++ b) ≡ after_steps (after_steps v a) b
steps_append v [] b = refl
steps_append v (s ∷ a) b = steps_append (after_step v s) a b

-- what belongs to one number more
last_of : {X : Type 0} (f : ℕ → List X) (n : ℕ) → flat_map f (range_with_len 0 (n + 1)) ≡ flat_map f (range_with_len 0 n) ++ f n
last_of f n = sym (written_more f n [] (flat_map f (range_with_len 0 n)) (flat_map f (range_with_len 0 n) ++ f n) refl refl)

-- and to some numbers more
rest_of : {X : Type 0} (f : ℕ → List X) (n k : ℕ) → (rest : List X) × (flat_map f (range_with_len 0 (n + k)) ≡ flat_map f (range_with_len 0 n) ++ rest)
rest_of f n zero = let none : n + 0 ≡ n = omega arith in ([], ap (λ m. flat_map f (range_with_len 0 m)) none ∙ sym (append-nil (flat_map f (range_with_len 0 n))))
rest_of f n (suc k) =
    let b = rest_of f n k in
    let next : n + suc k ≡ n + k + 1 = omega arith in (
      b.0 ++ f (n + k),
      ap (λ m. flat_map f (range_with_len 0 m)) next ∙ last_of f (n + k) ∙ ap (λ l. l ++ f (n + k)) b.1 ∙ append_assoc (flat_map f (range_with_len 0 n)) b.0 (f (n + k)),
    )

-- the first ones, up to one of them, begin the list
begins : {X : Type 0} (f : ℕ → List X) (i n : ℕ) → i < n → (rest : List X) × (flat_map f (range_with_len 0 n) ≡ (flat_map f (range_with_len 0 i) ++ f i) ++ rest)
begins f i n lt =
    let all : n ≡ i + 1 + (n - (i + 1)) = omega (arith, lt) in
    let b = rest_of f (i + 1) (n - (i + 1)) in
    (b.0, ap (λ m. flat_map f (range_with_len 0 m)) all ∙ b.1 ∙ ap (λ l. l ++ b.0) (last_of f i))

-- ---- one file

-- a name that can't be written
pub name_stops : (has : List ℕ → Type 0) (has_failed : Bool) (v u w : View) (name held : List ℕ) (error : DeskError) → u ≡ v → held ≡ name → error ≡ Failed
    → CommitEnds has has_failed held u w (Err error) → StopsAtName (name ∷ []) v w name
name_stops has has_failed v u w name held error same is failed ends =
    let P : DeskError → Type 0 = λ e. CommitEnds has has_failed held u w (Err e) in
    let left : w ≡ after_step u (Unstored held) = subst P failed ends in
    record {
      front = [];
      rest = [];
      split = refl;
      free = All-nil (IsFree v);
      left = left ∙ ap (λ x. after_step x (Unstored held)) same ∙ ap (λ n. after_step v (Unstored n)) is;
    }

-- a file that can't be put
pub file_stops : (has : List ℕ → Type 0) (has_failed : Bool) (v u w : View) (name held bytes : List ℕ) (error : DeskError) → u ≡ v → held ≡ name → error ≡ Failed
    → CommitEnds has has_failed held u w (Err error) → StopsAtFile (Stored name bytes ∷ []) v w name
file_stops has has_failed v u w name held bytes error same is failed ends =
    let P : DeskError → Type 0 = λ e. CommitEnds has has_failed held u w (Err e) in
    let left : w ≡ after_step u (Unstored held) = subst P failed ends in
    record {
      front = [];
      rest = [];
      bytes = bytes;
      split = refl;
      left = left ∙ ap (λ x. after_step x (Unstored held)) same ∙ ap (λ n. after_step v (Unstored n)) is;
    }

-- ---- names

-- no name is taken among none
pub none_checked : (v : View) (prefix : List ℕ) → All (IsFree v) (names_below prefix 0)
unfolding names_below
none_checked v prefix = All-nil (IsFree v)

-- a check that stops among the first names
pub check_first : (prefix : List ℕ) (a b : List (List ℕ)) (v w : View) (failure : PartFailure) → ChecksNames prefix a v w (Err failure) → ChecksNames prefix (a ++ b) v w (Err failure)
check_first prefix a b v w Memory h = h
check_first prefix a b v w (Unwritable i file) h = record {
  front = h.front;
  rest = h.rest ++ b;
  split = ap (λ l. l ++ b) h.split ∙ append_assoc h.front (part_name prefix i file ∷ h.rest) b;
  free = h.free;
  left = h.left;
}

-- a check that goes on behind free names
pub check_next : (prefix : List ℕ) (a b : List (List ℕ)) (v u w : View) (r : Result (Unit {0}) PartFailure) → All (IsFree v) a → u ≡ v → ChecksNames prefix b u w r
    → ChecksNames prefix (a ++ b) v w r
check_next prefix a b v u w (Ok done) free same h =
    let P : View → Type 0 = λ x. ChecksNames prefix b x w (Ok done) in
    let here : ChecksNames prefix b v w (Ok done) = subst P same h in
    (All-append (IsFree v) a b free here.0, here.1)
check_next prefix a b v u w (Err Memory) free same h = h ∙ same
check_next prefix a b v u w (Err (Unwritable i file)) free same h =
    let P : View → Type 0 = λ x. StopsAtName b x w (part_name prefix i file) in
    let here : StopsAtName b v w (part_name prefix i file) = subst P same h in
    record {
      front = a ++ here.front;
      rest = here.rest;
      split = ap (λ l. a ++ l) here.split ∙ sym (append_assoc a here.front (part_name prefix i file ∷ here.rest));
      free = All-append (IsFree v) a here.front free here.free;
      left = here.left;
    }

-- the names of one meter more
pub check_more : (prefix : List ℕ) (i : ℕ) (v u w : View) → All (IsFree v) (names_below prefix i) → u ≡ v → ChecksNames prefix (names_at prefix i) u w (Ok tt)
    → ChecksNames prefix (names_below prefix (i + 1)) v w (Ok tt)
unfolding names_below
check_more prefix i v u w free same h =
    let P : List (List ℕ) → Type 0 = λ names. ChecksNames prefix names v w (Ok tt) in
    subst P (sym (last_of (names_at prefix) i)) (check_next prefix (names_below prefix i) (names_at prefix i) v u w (Ok tt) free same h)

-- a check that stops at a meter
pub check_stops : (prefix : List ℕ) (i n : ℕ) (v u w : View) (failure : PartFailure) → i < n → All (IsFree v) (names_below prefix i) → u ≡ v
    → ChecksNames prefix (names_at prefix i) u w (Err failure) → ChecksNames prefix (names_below prefix n) v w (Err failure)
unfolding names_below
check_stops prefix i n v u w failure lt free same h =
    let b = begins (names_at prefix) i n lt in
    let P : List (List ℕ) → Type 0 = λ names. ChecksNames prefix names v w (Err failure) in
    subst P (sym b.1) (check_first prefix (names_below prefix i ++ names_at prefix i) b.0 v w failure
    (check_next prefix (names_below prefix i) (names_at prefix i) v u w (Err failure) free same h))

-- ---- files

-- files of which not all are put
pub put_first : (prefix : List ℕ) (a b : List Step) (v w : View) (failure : PartFailure) → PutsFiles prefix a v w (Err failure) → PutsFiles prefix (a ++ b) v w (Err failure)
put_first prefix a b v w Memory h = record { front = h.front; rest = h.rest ++ b; split = ap (λ l. l ++ b) h.split ∙ append_assoc h.front h.rest b; left = h.left }
put_first prefix a b v w (Unwritable i file) h = record {
  front = h.front;
  rest = h.rest ++ b;
  bytes = h.bytes;
  split = ap (λ l. l ++ b) h.split ∙ append_assoc h.front (Stored (part_name prefix i file) h.bytes ∷ h.rest) b;
  left = h.left;
}

-- files that are put behind others
pub put_next : (prefix : List ℕ) (a b : List Step) (v u w : View) (r : Result (Unit {0}) PartFailure) → u ≡ after_steps v a → PutsFiles prefix b u w r → PutsFiles prefix (a ++ b) v w r
put_next prefix a b v u w (Ok done) here h = h ∙ ap (λ x. after_steps x b) here ∙ sym (steps_append v a b)
put_next prefix a b v u w (Err Memory) here h = record {
  front = a ++ h.front;
  rest = h.rest;
  split = ap (λ l. a ++ l) h.split ∙ sym (append_assoc a h.front h.rest);
  left = h.left ∙ ap (λ x. after_steps x h.front) here ∙ sym (steps_append v a h.front);
}
put_next prefix a b v u w (Err (Unwritable i file)) here h = record {
  front = a ++ h.front;
  rest = h.rest;
  bytes = h.bytes;
  split = ap (λ l. a ++ l) h.split ∙ sym (append_assoc a h.front (Stored (part_name prefix i file) h.bytes ∷ h.rest));
  left = h.left ∙ ap (λ x. after_step (after_steps x h.front) (Unstored (part_name prefix i file))) here
      ∙ ap (λ x. after_step x (Unstored (part_name prefix i file))) (sym (steps_append v a h.front));
}

-- no file is put
pub none_put : (v : View) (keys : KeysOf) (g : ℕ) (prefix : List ℕ) → v ≡ after_steps v (files_below keys g prefix 0)
unfolding files_below
none_put v keys g prefix = refl

-- the first file of a meter isn't put
pub first_fails : (keys : KeysOf) (g : ℕ) (prefix : List ℕ) (i : ℕ) (v w : View) (failure : PartFailure) (text : List ℕ) → PutsFiles prefix (Stored (part_name prefix i Keys) text ∷ []) v w (Err failure)
    → text ≡ meter_text keys g i → PutsFiles prefix (files_at keys g prefix i) v w (Err failure)
first_fails keys g prefix i v w failure text h is =
    let P : List ℕ → Type 0 = λ t. PutsFiles prefix (Stored (part_name prefix i Keys) t ∷ []) v w (Err failure) in
    put_first prefix (Stored (part_name prefix i Keys) (meter_text keys g i) ∷ []) (Stored (part_name prefix i Journal) (journal_head keys.plan g g i) ∷ []) v w failure (subst P is h)

-- the first file of a meter is put, and the second one behind it or not
pub second_ends : (keys : KeysOf) (g : ℕ) (prefix : List ℕ) (i : ℕ) (v u w : View) (r : Result (Unit {0}) PartFailure) (plan : PlanView) (text head : List ℕ)
    → u ≡ after_step v (Stored (part_name prefix i Keys) text) → PutsFiles prefix (Stored (part_name prefix i Journal) head ∷ []) u w r
    → text ≡ meter_text keys g i → head ≡ journal_head plan g g i → plan ≡ keys.plan → PutsFiles prefix (files_at keys g prefix i) v w r
second_ends keys g prefix i v u w r plan text head first h text_is head_is plan_is =
    let P : List ℕ → Type 0 = λ t. PutsFiles prefix (Stored (part_name prefix i Journal) t ∷ []) u w r in
    put_next prefix (Stored (part_name prefix i Keys) (meter_text keys g i) ∷ []) (Stored (part_name prefix i Journal) (journal_head keys.plan g g i) ∷ []) v u w r
    (first ∙ ap (λ t. after_step v (Stored (part_name prefix i Keys) t)) text_is) (subst P (head_is ∙ ap (λ p. journal_head p g g i) plan_is) h)

-- the files of one meter more
pub put_more : (keys : KeysOf) (g : ℕ) (prefix : List ℕ) (i : ℕ) (v u w : View) → u ≡ after_steps v (files_below keys g prefix i)
    → PutsFiles prefix (files_at keys g prefix i) u w (Ok tt) → w ≡ after_steps v (files_below keys g prefix (i + 1))
unfolding files_below
put_more keys g prefix i v u w here h =
    put_next prefix (files_below keys g prefix i) (files_at keys g prefix i) v u w (Ok tt) here h ∙ ap (after_steps v) (sym (last_of (files_at keys g prefix) i))

-- files of which those of a meter are not all put
pub put_stops : (keys : KeysOf) (g : ℕ) (prefix : List ℕ) (i n : ℕ) (v u w : View) (failure : PartFailure) → i < n → u ≡ after_steps v (files_below keys g prefix i)
    → PutsFiles prefix (files_at keys g prefix i) u w (Err failure) → PutsFiles prefix (files_below keys g prefix n) v w (Err failure)
unfolding files_below
put_stops keys g prefix i n v u w failure lt here h =
    let b = begins (files_at keys g prefix) i n lt in
    let P : List Step → Type 0 = λ files. PutsFiles prefix files v w (Err failure) in
    subst P (sym b.1) (put_first prefix (files_below keys g prefix i ++ files_at keys g prefix i) b.0 v w failure
    (put_next prefix (files_below keys g prefix i) (files_at keys g prefix i) v u w (Err failure) here h))

-- ---- both

-- nothing is put where a name can't be written
pub nothing_put : (prefix : List ℕ) (names : List (List ℕ)) (files : List Step) (v w : View) (failure : PartFailure) → ChecksNames prefix names v w (Err failure)
    → PutsParts prefix names files v w (Err failure)
nothing_put prefix names files v w Memory h = record { front = []; rest = files; split = refl; left = h }
nothing_put prefix names files v w (Unwritable i file) h = inl h

-- behind free names the files are put
pub parts_put : (prefix : List ℕ) (names : List (List ℕ)) (files : List Step) (v u w : View) (r : Result (Unit {0}) PartFailure) → All (IsFree v) names → u ≡ v → PutsFiles prefix files u w r
    → PutsParts prefix names files v w r
parts_put prefix names files v u w (Ok done) free same h = (free, h ∙ ap (λ x. after_steps x files) same)
parts_put prefix names files v u w (Err Memory) free same h = record { front = h.front; rest = h.rest; split = h.split; left = h.left ∙ ap (λ x. after_steps x h.front) same }
parts_put prefix names files v u w (Err (Unwritable i file)) free same h =
    let P : View → Type 0 = λ x. StopsAtFile files x w (part_name prefix i file) in
    inr (free, subst P same h)
