-- Frames that pass the lanes, one after another.
use Rattle.std.proofs.Common.{◌≡◌, ℕ, suc, ◌+◌, ◌-◌, ◌<◌, ◌≤◌, List, [], ◌∷◌, ◌++◌, length, map, take, drop, get_or, refl, sym, ap, ◌∙◌, subst, append_assoc, append-nil, arith}
use Rattle.std.specs.Prelude.{Some, slice_set}
use Rattle.std.specs.List.{All, AllZip}
use Rattle.std.proofs.lemmas.Grind.{flat_map-append}
use Rattle.std.proofs.lemmas.List.{drop_all, take_all, take_more, take_more_set, take-append-drop, drop-drop, get_or-set_other, length-map, length-set, length-append, length-drop, length-take-le, map-append}
use Rattle.std.proofs.lemmas.List.Elements.{All-nil, All-push, All-append, All-take, All-drop}
use Rattle.link_lanes.specs.declared.Post.{Post}
use Rattle.link_lanes.specs.Lanes.{Slot, after_post}
use Rattle.meter_frames.specs.declared.Frame.{Frame}
use Rattle.event_schedule.specs.declared.Entry.{Entry}
use Rattle.tick_run.specs.declared.running.Group.{Group}
use Rattle.tick_run.specs.ByGroups.{hung_after, fates_met, Passes, PassesBehind, frames_by, fates_by, Fated, IsButFates}
use Rattle.tick_run.specs.GroupRuns.{sent_with}
use Rattle.tick_run.specs.Progress.{IsDelay, sending}
use Rattle.tick_run.specs.Sending.{fate_by, post_by, passed, KeepsFates}
use Rattle.tick_run.proofs.GroupCalls.{next_of}
use Rattle.tick_run.proofs.SendingLemmas.{keeps-one}

-- the first k frames passed, and the fates that they met stand behind those before
pub record Passing (t k : ℕ) (frames : List Frame) (lanes hung : List Slot) (posts all : List Post) (before fates : List (List ℕ)) : Type 0 where
  pub met : List (List ℕ)
  pub hung_are : hung_after t hung (drop k frames) ≡ hung_after t lanes frames
  pub posts_are : all ++ passed t hung (drop k frames) ≡ posts ++ passed t lanes frames
  pub fates_are : met ++ fates_met t hung (drop k frames) ≡ fates_met t lanes frames
  pub delays : All (All IsDelay) met
  pub behind : fates ≡ before ++ met

pub passing-starts : (t : ℕ) (frames : List Frame) (lanes : List Slot) (posts : List Post) (fates : List (List ℕ)) → Passing t 0 frames lanes lanes posts posts fates fates
passing-starts t frames lanes posts fates = record { met = []; hung_are = refl; posts_are = refl; fates_are = refl; delays = All-nil (All IsDelay); behind = sym (append-nil fates) }

-- one more
pub passing-next : (t k : ℕ) (frames : List Frame) (f : Frame) (lanes now hung : List Slot) (posts some all : List Post) (fate : List ℕ) (before fates more : List (List ℕ)) → k < length frames → get_or frames k f ≡ f
    → fate ≡ fate_by t now f → hung ≡ map (after_post t) now → all ≡ some ++ record { tick = t; tag = f.tag; fate = fate } ∷ [] → more ≡ fates ++ fate ∷ [] → All IsDelay fate
    → Passing t k frames lanes now posts some before fates → Passing t (k + 1) frames lanes hung posts all before more
passing-next t k frames f lanes now hung posts some all fate before fates more lt at fate_is hung_is all_is more_is delays so_far =
    let rest : List Frame = drop (k + 1) frames in
    let met : List (List ℕ) = so_far.met in
    let next : drop k frames ≡ f ∷ rest = next_of k frames f lt at in
    let post : ◌≡◌ {A = Post} (record { tick = t; tag = f.tag; fate = fate }) (post_by t now f) = ap (λ (x : List ℕ). record { tick = t; tag = f.tag; fate = x }) fate_is in
    record {
      met = met ++ fate ∷ [];
      hung_are = ap (λ l. hung_after t l rest) hung_is ∙ sym (ap (hung_after t now) next) ∙ so_far.hung_are;
      posts_are = ap (λ l. l ++ passed t hung rest) (all_is ∙ ap (λ p. some ++ p ∷ []) post) ∙ append_assoc some (post_by t now f ∷ []) (passed t hung rest)
          ∙ ap (λ l. some ++ post_by t now f ∷ passed t l rest) hung_is ∙ sym (ap (λ fs. some ++ passed t now fs) next) ∙ so_far.posts_are;
      fates_are = ap (λ x. (met ++ x ∷ []) ++ fates_met t hung rest) fate_is ∙ append_assoc met (fate_by t now f ∷ []) (fates_met t hung rest)
          ∙ ap (λ l. met ++ fate_by t now f ∷ fates_met t l rest) hung_is ∙ sym (ap (λ fs. met ++ fates_met t now fs) next) ∙ so_far.fates_are;
      delays = All-push (All IsDelay) met fate so_far.delays delays;
      behind = more_is ∙ ap (λ l. l ++ fate ∷ []) so_far.behind ∙ append_assoc before met (fate ∷ []);
    }

pub passing-ends : (t k : ℕ) (frames : List Frame) (lanes hung : List Slot) (posts all : List Post) (before fates : List (List ℕ)) → length frames ≤ k → Passing t k frames lanes hung posts all before fates
    → PassesBehind t frames lanes hung posts all before fates
passing-ends t k frames lanes hung posts all before fates over so_far =
    let none : drop k frames ≡ [] = drop_all k frames over in
    record {
      met = so_far.met;
      passes = record {
        hung_are = sym (ap (hung_after t hung) none) ∙ so_far.hung_are;
        posts_are = sym (append-nil all) ∙ sym (ap (λ fs. all ++ passed t hung fs) none) ∙ so_far.posts_are;
        fates_are = sym (append-nil so_far.met) ∙ sym (ap (λ fs. so_far.met ++ fates_met t hung fs) none) ∙ so_far.fates_are;
        delays = so_far.delays;
      };
      behind = so_far.behind;
    }

-- with the fates that the lanes give, the entries keep them
pub keeps-passed : (slots : List Slot) (t : ℕ) (frames : List Frame) (entries : List Entry) (lanes : List Slot) (posts : List Post) → KeepsFates slots t entries lanes posts
    → KeepsFates slots t (entries ++ sent_with t frames (fates_met t lanes frames)) (hung_after t lanes frames) (posts ++ passed t lanes frames)
keeps-passed slots t [] entries lanes posts keeps =
    subst (λ (es : List Entry). KeepsFates slots t es lanes (posts ++ [])) (sym (append-nil entries)) (subst (λ (ps : List Post). KeepsFates slots t entries lanes ps) (sym (append-nil posts)) keeps)
keeps-passed slots t (f ∷ frames) entries lanes posts keeps =
    let x : Entry = sending t f.tag (Some f) (fate_by t lanes f) in
    let next : List Slot = map (after_post t) lanes in
    subst (λ (es : List Entry). KeepsFates slots t es (hung_after t next frames) (posts ++ post_by t lanes f ∷ passed t next frames)) (append_assoc entries (x ∷ []) (sent_with t frames (fates_met t next frames)))
    (subst (λ (ps : List Post). KeepsFates slots t ((entries ++ x ∷ []) ++ sent_with t frames (fates_met t next frames)) (hung_after t next frames) ps) (append_assoc posts (post_by t lanes f ∷ []) (passed t next frames))
    (keeps-passed slots t frames (entries ++ x ∷ []) next (posts ++ post_by t lanes f ∷ []) (keeps-one slots t entries lanes posts f keeps)))

pub keeps-met : (slots : List Slot) (t : ℕ) (frames : List Frame) (fates : List (List ℕ)) (entries : List Entry) (lanes hung : List Slot) (posts all : List Post) → KeepsFates slots t entries lanes posts → Passes t frames lanes hung posts all fates
    → KeepsFates slots t (entries ++ sent_with t frames fates) hung all
keeps-met slots t frames fates entries lanes hung posts all keeps passes =
    subst (λ (es : List (List ℕ)). KeepsFates slots t (entries ++ sent_with t frames es) hung all) (sym passes.fates_are)
    (subst (λ (l : List Slot). KeepsFates slots t (entries ++ sent_with t frames (fates_met t lanes frames)) l all) (sym passes.hung_are)
    (subst (λ (ps : List Post). KeepsFates slots t (entries ++ sent_with t frames (fates_met t lanes frames)) (hung_after t lanes frames) ps) (sym passes.posts_are)
    (keeps-passed slots t frames entries lanes posts keeps)))

-- ---- one group after another

hung-append : (t : ℕ) (lanes : List Slot) (xs ys : List Frame) → hung_after t lanes (xs ++ ys) ≡ hung_after t (hung_after t lanes xs) ys
hung-append t lanes [] ys = refl
hung-append t lanes (x ∷ xs) ys = hung-append t (map (after_post t) lanes) xs ys

passed-append : (t : ℕ) (lanes : List Slot) (xs ys : List Frame) → passed t lanes (xs ++ ys) ≡ passed t lanes xs ++ passed t (hung_after t lanes xs) ys
passed-append t lanes [] ys = refl
passed-append t lanes (x ∷ xs) ys = ap (λ l. post_by t lanes x ∷ l) (passed-append t (map (after_post t) lanes) xs ys)

-- some frames, and then others
pub passes-then : (t : ℕ) (xs ys : List Frame) (lanes mid hung : List Slot) (posts some all : List Post) (first then : List (List ℕ)) → Passes t xs lanes mid posts some first → Passes t ys mid hung some all then
    → Passes t (xs ++ ys) lanes hung posts all (first ++ then)
passes-then t xs ys lanes mid hung posts some all first then a b =
    let met : fates_met t mid ys ≡ fates_met t (hung_after t lanes xs) ys = ap (λ l. fates_met t l ys) a.hung_are in
    record {
      hung_are = b.hung_are ∙ ap (λ l. hung_after t l ys) a.hung_are ∙ sym (hung-append t lanes xs ys);
      posts_are = b.posts_are ∙ ap (λ l. l ++ passed t mid ys) a.posts_are ∙ append_assoc posts (passed t lanes xs) (passed t mid ys)
          ∙ ap (λ l. posts ++ l) (ap (λ l. passed t lanes xs ++ passed t l ys) a.hung_are ∙ sym (passed-append t lanes xs ys));
      fates_are = ap (λ l. l ++ then) a.fates_are ∙ ap (λ l. fates_met t lanes xs ++ l) (b.fates_are ∙ met)
          ∙ sym (ap (map (λ (p : Post). p.fate)) (passed-append t lanes xs ys) ∙ map-append (λ (p : Post). p.fate) (passed t lanes xs) (passed t (hung_after t lanes xs) ys));
      delays = All-append (All IsDelay) first then a.delays b.delays;
    }

pub passes-none : (t : ℕ) (lanes : List Slot) (posts : List Post) (fates : List (List ℕ)) → fates ≡ [] → Passes t [] lanes lanes posts posts fates
passes-none t lanes posts fates none =
    subst (λ (es : List (List ℕ)). Passes t [] lanes lanes posts posts es) (sym none) (record { hung_are = refl; posts_are = sym (append-nil posts); fates_are = refl; delays = All-nil (All IsDelay) })

one_each : (t : ℕ) (lanes : List Slot) (frames : List Frame) → length (passed t lanes frames) ≡ length frames
one_each t lanes [] = refl
one_each t lanes (f ∷ frames) = ap suc (one_each t (map (after_post t) lanes) frames)

frames-push : (works : List Group) (w : Group) → frames_by (works ++ w ∷ []) ≡ frames_by works ++ w.work.frames.items
frames-push works w = flat_map-append (λ (x : Group). x.work.frames.items) works (w ∷ []) ∙ ap (λ l. frames_by works ++ l) (append-nil w.work.frames.items)

-- one group more
pub all-next : (t k : ℕ) (works : List Group) (w : Group) (own : List Frame) (lanes mid hung : List Slot) (posts some all : List Post) (fates more : List (List ℕ)) → k < length works → get_or works k w ≡ w
    → own ≡ w.work.frames.items → PassesBehind t own mid hung some all fates more → Passes t (frames_by (take k works)) lanes mid posts some fates → Passes t (frames_by (take (k + 1) works)) lanes hung posts all more
all-next t k works w own lanes mid hung posts some all fates more lt is own_are passes so_far =
    let front : take (k + 1) works ≡ take k works ++ w ∷ [] = take_more works k w lt ∙ ap (λ x. take k works ++ x ∷ []) is in
    let theirs : Passes t w.work.frames.items mid hung some all passes.met = subst (λ fs. Passes t fs mid hung some all passes.met) own_are passes.passes in
    subst (λ fs. Passes t fs lanes hung posts all more) (sym (ap frames_by front ∙ frames-push (take k works) w))
    (subst (λ es. Passes t (frames_by (take k works) ++ w.work.frames.items) lanes hung posts all es) (sym passes.behind)
    (passes-then t (frames_by (take k works)) w.work.frames.items lanes mid hung posts some all fates passes.met so_far theirs))

pub all-ends : (t k : ℕ) (works : List Group) (lanes hung : List Slot) (posts all : List Post) (fates : List (List ℕ)) → length works ≤ k → Passes t (frames_by (take k works)) lanes hung posts all fates
    → Passes t (frames_by works) lanes hung posts all fates
all-ends t k works lanes hung posts all fates over passes = subst (λ ws. Passes t (frames_by ws) lanes hung posts all fates) (take_all k works over) passes

-- the frames that are still to pass
pub frames-left : (k : ℕ) (works : List Group) (w : Group) → k < length works → get_or works k w ≡ w → length (frames_by (drop k works)) ≡ length w.work.frames.items + length (frames_by (drop (k + 1) works))
frames-left k works w lt is = ap (λ ws. length (frames_by ws)) (next_of k works w lt is) ∙ length-append w.work.frames.items (frames_by (drop (k + 1) works))

-- each frame has its post
pub long-passed : (t : ℕ) (frames : List Frame) (lanes hung : List Slot) (posts all : List Post) (fates : List (List ℕ)) → Passes t frames lanes hung posts all fates → length all ≡ length posts + length frames
long-passed t frames lanes hung posts all fates passes = ap length passes.posts_are ∙ length-append posts (passed t lanes frames) ∙ ap (λ n. length posts + n) (one_each t lanes frames)

-- and each its fate
pub fates-long : (t : ℕ) (frames : List Frame) (lanes hung : List Slot) (posts all : List Post) (fates : List (List ℕ)) → Passes t frames lanes hung posts all fates → length fates ≡ length frames
fates-long t frames lanes hung posts all fates passes = ap length passes.fates_are ∙ length-map (passed t lanes frames) (λ (p : Post). p.fate) ∙ one_each t lanes frames

-- ---- each group gets the fates of its frames

-- the first k groups have theirs, the others are as before, and the fates from this place on are still to be given
pub record Giving (k : ℕ) (before now : List Group) (from : ℕ) (fates : List (List ℕ)) : Type 0 where
  pub same : AllZip IsButFates (take k before) (take k now)
  pub fated : All Fated (take k now)
  pub rest : (i : ℕ) (d : Group) → k ≤ i → get_or now i d ≡ get_or before i d
  pub long : length now ≡ length before
  pub given : fates_by (take k now) ++ drop from fates ≡ fates

pub giving-starts : (works : List Group) (fates : List (List ℕ)) → Giving 0 works works 0 fates
giving-starts works fates = record { same = tt; fated = All-nil Fated; rest = λ i d le. refl; long = refl; given = refl }

fates-push : (works : List Group) (w : Group) → fates_by (works ++ w ∷ []) ≡ fates_by works ++ w.work.fates.items
fates-push works w = flat_map-append (λ (x : Group). x.work.fates.items) works (w ∷ []) ∙ ap (λ l. fates_by works ++ l) (append-nil w.work.fates.items)

-- one group more
pub giving-next : (k : ℕ) (before now : List Group) (w after : Group) (from n : ℕ) (fates : List (List ℕ)) → k < length now → w ≡ get_or now k w → IsButFates w after
    → n ≡ length w.work.frames.items → after.work.fates.items ≡ take n (drop from fates) → from + n ≤ length fates → All (All IsDelay) fates → Giving k before now from fates
    → Giving (k + 1) before (slice_set now k after) (from + n) fates
giving-next k before now w after from n fates lt at same count theirs within delays so_far =
    let inside : k < length before = omega (arith, lt, so_far.long) in
    let is : get_or before k w ≡ w = sym (so_far.rest k w (omega arith)) ∙ sym at in
    let old : take (k + 1) before ≡ take k before ++ w ∷ [] = take_more before k w inside ∙ ap (λ x. take k before ++ x ∷ []) is in
    let new : take (k + 1) (slice_set now k after) ≡ take k now ++ after ∷ [] = take_more_set now k after lt in
    let left : length (drop from fates) ≡ length fates - from = length-drop from fates in
    let fated : Fated after = record {
      long = ap length theirs ∙ length-take-le n (drop from fates) (omega (arith, within, left)) ∙ count ∙ sym (ap (λ (x : Group). length x.work.frames.items) same);
      delays = subst (All (All IsDelay)) (sym theirs) (All-take (All IsDelay) n (drop from fates) (All-drop (All IsDelay) from fates delays));
    } in
    record {
      same = subst (λ xs. AllZip IsButFates xs (take (k + 1) (slice_set now k after))) (sym old) (subst (AllZip IsButFates (take k before ++ w ∷ [])) (sym new) (zip_push (take k before) (take k now) w after so_far.same same));
      fated = subst (All Fated) (sym new) (All-push Fated (take k now) after so_far.fated fated);
      rest = λ i d le. get_or-set_other now k i after d (λ e. omega arith) ∙ so_far.rest i d (omega arith);
      long = length-set now k after ∙ so_far.long;
      given = ap (λ l. l ++ drop (from + n) fates) (ap fates_by new ∙ fates-push (take k now) after ∙ ap (λ l. fates_by (take k now) ++ l) theirs)
          ∙ append_assoc (fates_by (take k now)) (take n (drop from fates)) (drop (from + n) fates)
          ∙ ap (λ l. fates_by (take k now) ++ (take n (drop from fates) ++ l)) (sym (drop-drop n from fates))
          ∙ ap (λ l. fates_by (take k now) ++ l) (take-append-drop n (drop from fates)) ∙ so_far.given;
    }
  where
    zip_push : (xs ys : List Group) (x y : Group) → AllZip IsButFates xs ys → IsButFates x y → AllZip IsButFates (xs ++ x ∷ []) (ys ++ y ∷ [])
    zip_push [] [] x y all is = (is, tt)
    zip_push [] (z ∷ ys) x y all is = absurd all
    zip_push (z ∷ xs) [] x y all is = absurd all
    zip_push (z ∷ xs) (v ∷ ys) x y all is = (all.0, zip_push xs ys x y all.1 is)

-- all groups have theirs
module _ (k : ℕ) (before now : List Group) (from : ℕ) (fates : List (List ℕ)) (over : length before ≤ k) (giving : Giving k before now from fates) where
  pub giving-same : AllZip IsButFates before now
  giving-same =
      subst (λ xs. AllZip IsButFates xs now) (take_all k before over)
      (subst (AllZip IsButFates (take k before)) (take_all k now (omega (arith, over, giving.long))) giving.same)

  pub giving-fated : All Fated now
  giving-fated = subst (All Fated) (take_all k now (omega (arith, over, giving.long))) giving.fated

  pub giving-all : from + length (frames_by (drop k before)) ≡ length fates → fates_by now ≡ fates
  giving-all here =
      let none : length (frames_by (drop k before)) ≡ 0 = ap (λ ws. length (frames_by ws)) (drop_all k before over) in
      let end : drop from fates ≡ [] = drop_all from fates (omega (arith, here, none)) in
      sym (ap (λ l. fates_by (take k now) ++ l) end ∙ append-nil (fates_by (take k now)) ∙ ap fates_by (take_all k now (omega (arith, over, giving.long)))) ∙ giving.given
