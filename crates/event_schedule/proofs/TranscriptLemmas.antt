-- When two contents give one transcript.
use Rattle.std.proofs.Common.{◌≡◌, ℕ, Bool, true, false, not, List, [], ◌∷◌, ◌++◌, refl, sym, ap, ◌∙◌}
use Rattle.std.specs.Prelude.{Some, None, if◌then◌else◌, is_some}
use Rattle.std.proofs.lemmas.Bool.{and_from}
use Rattle.group_plan.specs.declared.Kind.{Kind}
use Rattle.group_plan.specs.declared.Kind.TheVariants.{Reading, Announcement, Answer}
use Rattle.group_plan.specs.declared.Tag.{Tag}
use Rattle.event_schedule.specs.declared.Event.{Event}
use Rattle.event_schedule.specs.declared.Event.TheVariants.{Send, Take, Close, End}
use Rattle.event_schedule.specs.declared.Line.TheVariants.{Send as SendLine, End as EndLine}
use Rattle.round_machine.specs.declared.Ending.TheVariants.{Total, Lacking, Thin, Already, NotClosed}
use Rattle.event_schedule.specs.Schedule.{Shape, is_closed, is_ended, survivors, missing, reaches_floor, is_announced, is_answer_sent, all_taken, lacking, is_opened, may_send}
use Rattle.event_schedule.specs.Transcript.{Contents, word_sent, set_sent, frame, line, lines_after, shape_of_readings}
use mathlib.Core.Path.{fun_ext}
use Rattle.group_plan.specs.Plans.{Group}
use Rattle.event_schedule.specs.Tables.{Readings}
use Rattle.event_schedule.proofs.ScheduleLemmas.{after, after-keeps, is_closed-from_taken, is_closed-more, is_opened-after, is_opened-from_taken, is_opened-more, missing-after, missing-closed, once-more, once-now, survivors-after, survivors-closed}
use Rattle.event_schedule.proofs.ListLemmas.{and_first}
use Rattle.event_schedule.proofs.EventLemmas.{is_send-itself}

-- two contents say the same of all that a schedule shows: the events, the newest first, are whole
pub record Alike (s : Shape) (c d : Contents) (whole : List Event) : Type 0 where
  pub readings : (g r i : ℕ) → s.present g r i ≡ true → c.reading g r i ≡ d.reading g r i
  pub answers : (g r i : ℕ) → is_answer_sent s g r i whole ≡ true → c.answer g r i (missing s g r whole) ≡ d.answer g r i (missing s g r whole)
  pub totals : (g r : ℕ) → is_opened s g r whole ≡ true → c.total g r (survivors s g r whole) ≡ d.total g r (survivors s g r whole)

some_same : {A : Type 0} (b : Bool) (x y : A) → (b ≡ true → x ≡ y) → (if b then Some x else None) ≡ (if b then Some y else None)
some_same true x y same = ap Some (same refl)
some_same false x y same = refl

-- the word of a Send that has effect
word_sent-same : (s : Shape) (c d : Contents) (g r i : ℕ) (k : Kind) (p rest : List Event) →
    Alike s c d (after (Send (record { group = g; round = r; meter = i; kind = k }) ∷ p) rest) → may_send s k g r i p ≡ true → word_sent s c k g r i p ≡ word_sent s d k g r i p
word_sent-same s c d g r i Reading p rest alike may = alike.readings g r i may
word_sent-same s c d g r i Announcement p rest alike may = refl
word_sent-same s c d g r i Answer p rest alike may =
    let e : Event = Send (record { group = g; round = r; meter = i; kind = Answer }) in
    let whole : List Event = after (e ∷ p) rest in
    let closed : is_closed g r (e ∷ p) ≡ true = is_closed-more g r e p (is_closed-from_taken s g r i p may) in
    let sent : is_answer_sent s g r i (e ∷ p) ≡ true = once-now _ e p (and_from _ _ (is_send-itself g r i Answer) may) in
    let sent_after : is_answer_sent s g r i whole ≡ true = after-keeps (λ q. is_answer_sent s g r i q ≡ true) (λ f q u. once-more _ f q u) (e ∷ p) rest sent in
    let stays : missing s g r whole ≡ missing s g r p
    = missing-after s g r (e ∷ p) rest closed ∙ missing-closed s g r e p (is_closed-from_taken s g r i p may) in
    ap (c.answer g r i) (sym stays) ∙ alike.answers g r i sent_after ∙ ap (d.answer g r i) stays

frame-same : (s : Shape) (c d : Contents) (g r i : ℕ) (k : Kind) (p rest : List Event) →
    let tag : Tag = record { group = g; round = r; meter = i; kind = k } in
    Alike s c d (after (Send tag ∷ p) rest) → frame s c tag p ≡ frame s d tag p
frame-same s c d g r i k p rest alike =
    some_same (may_send s k g r i p) _ _ (λ may. ap (λ w. record { tag = record { group = g; round = r; meter = i; kind = k }; missing = set_sent s k g r p; word = w })
    (word_sent-same s c d g r i k p rest alike may))

-- the total of an End that has effect
total-same : (s : Shape) (c d : Contents) (g r : ℕ) (e : Event) (p rest : List Event) → Alike s c d (after (e ∷ p) rest)
    → is_announced s g r p ≡ true → all_taken s g r p ≡ true → c.total g r (survivors s g r p) ≡ d.total g r (survivors s g r p)
total-same s c d g r e p rest alike announced taken =
    let opened = is_opened-from_taken s g r p announced taken in
    let closed = and_first (is_closed g r p) (reaches_floor s g r p) announced in
    let whole : List Event = after (e ∷ p) rest in
    let stays : survivors s g r whole ≡ survivors s g r p
    = survivors-after s g r (e ∷ p) rest (is_closed-more g r e p closed) ∙ survivors-closed s g r e p closed in
    ap (c.total g r) (sym stays) ∙ alike.totals g r (is_opened-after s g r (e ∷ p) rest (is_opened-more s g r e p opened)) ∙ ap (d.total g r) stays

pub ending_cases : (closed ended announced taken : Bool) (x y : ℕ) (l : List ℕ) → (announced ≡ true → taken ≡ true → x ≡ y) →
    (if not closed then NotClosed else if ended then Already else if not announced then Thin else if taken then Total x else Lacking l)
    ≡ (if not closed then NotClosed else if ended then Already else if not announced then Thin else if taken then Total y else Lacking l)
ending_cases false ended announced taken x y l same = refl
ending_cases true true announced taken x y l same = refl
ending_cases true false false taken x y l same = refl
ending_cases true false true false x y l same = refl
ending_cases true false true true x y l same = ap Total (same refl refl)

line-same : (s : Shape) (c d : Contents) (e : Event) (p rest : List Event) → Alike s c d (after (e ∷ p) rest) → line s c p e ≡ line s d p e
line-same s c d (Send tag) p rest alike = ap (SendLine tag) (frame-same s c d tag.group tag.round tag.meter tag.kind p rest alike)
line-same s c d (Take tag) p rest alike = refl
line-same s c d (Close g r) p rest alike = refl
line-same s c d (End g r) p rest alike =
    ap (EndLine g r) (ending_cases (is_closed g r p) (is_ended g r p) (is_announced s g r p) (all_taken s g r p) _ _ (lacking s g r p)
    (λ announced taken. total-same s c d g r (End g r) p rest alike announced taken))

pub lines_after-same : (s : Shape) (c d : Contents) (p rest : List Event) → Alike s c d (after p rest) → lines_after s c p rest ≡ lines_after s d p rest
unfolding after lines_after
lines_after-same s c d p [] alike = refl
lines_after-same s c d p (e ∷ rest) alike =
    ap (λ l. l ∷ lines_after s c (e ∷ p) rest) (line-same s c d e p rest alike)
    ∙ ap (λ ls. line s d p e ∷ ls) (lines_after-same s c d (e ∷ p) rest alike)

-- one more event is one more line
pub lines_after-push : (s : Shape) (c : Contents) (p rest : List Event) (e : Event) → lines_after s c p (rest ++ e ∷ []) ≡ lines_after s c p rest ++ line s c (after p rest) e ∷ []
unfolding after lines_after
lines_after-push s c p [] e = refl
lines_after-push s c p (x ∷ rest) e = ap (λ l. line s c p x ∷ l) (lines_after-push s c (x ∷ p) rest e)

-- the same presence is the same shape
pub shape-same : (groups : List Group) (x y : Readings) → ((g r i : ℕ) → is_some (x g r i) ≡ is_some (y g r i)) → shape_of_readings groups x ≡ shape_of_readings groups y
shape-same groups x y same = ap (λ p. record { groups = groups; present = p }) (fun_ext (λ g. fun_ext (λ r. fun_ext (λ i. same g r i))))
