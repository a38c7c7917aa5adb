-- A transcript's file that is written ahead.
use Rattle.std.proofs.Common.{◌≡◌, ◌<◌, ◌-◌, List, [], ◌∷◌, ◌++◌, length, refl, arith, ◌+◌, ℕ, take, sym, subst, ◌≤◌, ◌∙◌, zero, suc, drop, ap, length-append, ◌^◌, min, append_assoc}
use Rattle.group_plan.specs.Plans.{PlanView}
use Rattle.event_schedule.specs.declared.Entry.{Entry}
use Rattle.transcript_text.specs.Writing.{begun_text, lines_text}
use Rattle.command_files.specs.Ahead.{text_ahead, IsAhead, IsPart, AreNext, reached, AreHanded, MakesMore}
use Rattle.transcript_text.proofs.BegunText.{begun_more}
use Rattle.std.proofs.lemmas.List.{length-take-le, length-drop, take-append-drop, take-append-le, drop-append-le, append-nil}
use Rattle.rtrb.specs.declared.producer.Producer.{Producer}
use Rattle.rtrb.specs.declared.consumer.Consumer.{Consumer}
use Rattle.rtrb.specs.Ring.{SameProducer, SameConsumer}
use Rattle.std.proofs.Math.Seq.{take-append-add, take-append_seam}
use Rattle.event_schedule.specs.Transcripts.{TranscriptView}
use Rattle.tick_run.specs.Runs.{RunView, MakesTicks, told_by}
use Rattle.transcript_text.specs.Spelling.{transcript_text}

-- the text ahead, once a part is written behind it
ahead-first : (plan : PlanView) (es part : List Entry) → length es ≡ 0 → 0 < length part → text_ahead plan es ++ begun_text plan part ≡ text_ahead plan (es ++ part)
ahead-first plan [] [] none some = absurd (omega (arith, some))
ahead-first plan [] (p ∷ part) none some = refl
ahead-first plan (e ∷ es) part none some = absurd (omega (arith, none))

ahead-then : (plan : PlanView) (es part : List Entry) → 0 < length es → text_ahead plan es ++ lines_text part ≡ text_ahead plan (es ++ part)
ahead-then plan [] part some = absurd (omega (arith, some))
ahead-then plan (e ∷ es) part some = begun_more plan (e ∷ es) part

-- the text of the first entries, where there are some
ahead-some : (plan : PlanView) (es : List Entry) → 0 < length es → text_ahead plan es ≡ begun_text plan es
ahead-some plan [] some = absurd (omega (arith, some))
ahead-some plan (e ∷ es) some = refl

ahead-none : (plan : PlanView) (es : List Entry) → length es ≡ 0 → text_ahead plan es ≡ []
ahead-none plan [] none = refl
ahead-none plan (e ∷ es) none = absurd (omega (arith, none))

-- ---- the file

-- it has nothing yet
pub ahead-fresh : {B : Type 0} (has : B → List ℕ → Type 0) (file : B) (t : TranscriptView) → has file [] → IsAhead has file 0 t
ahead-fresh has file t is =
    let long = length-take-le 0 t.entries (omega arith) in
    record { within = omega arith; text = subst (has file) (sym (ahead-none t.plan (take 0 t.entries) (omega (arith, long)))) is }

-- it has the text of the first entries, of which there are some
pub ahead-behind : {B : Type 0} (has : B → List ℕ → Type 0) (file : B) (entries : ℕ) (t : TranscriptView) (text : List ℕ) → has file text → 0 < entries → entries ≤ length t.entries
    → text ≡ begun_text t.plan (take entries t.entries) → IsAhead has file entries t
ahead-behind has file entries t text is some within text_is =
    let long = length-take-le entries t.entries within in
    record { within = within; text = subst (has file) (text_is ∙ sym (ahead-some t.plan (take entries t.entries) (omega (arith, long, some)))) is }

-- the first entries with those of the part behind them
part-first : (entries : ℕ) (t part : TranscriptView) → entries ≤ length t.entries → (is : IsPart entries t part)
    → take (entries + length part.entries) t.entries ≡ take entries t.entries ++ part.entries
part-first entries t part within is =
    let first = take entries t.entries in
    let long : length first ≡ entries = length-take-le entries t.entries within in
    let all : t.entries ≡ first ++ (part.entries ++ is.rest) = sym (take-append-drop entries t.entries) ∙ ap (λ es. first ++ es) is.is in
    let n : entries + length part.entries ≡ length first + length part.entries = omega (arith, long) in
    subst (λ k. take k t.entries ≡ first ++ part.entries) (sym n)
    (subst (λ es. take (length first + length part.entries) es ≡ first ++ part.entries) (sym all)
    (take-append-add first (part.entries ++ is.rest) (length part.entries) ∙ ap (λ es. first ++ es) (take-append_seam part.entries is.rest)))

-- they are entries of the transcript
pub part-within : (entries : ℕ) (t part : TranscriptView) → entries ≤ length t.entries → IsPart entries t part → entries + length part.entries ≤ length t.entries
part-within entries t part within is =
    let left = ap length is.is in
    let added = length-append part.entries is.rest in
    let long = length-drop entries t.entries in
    omega (arith, within, left, added, long)

-- a part is written behind the text ahead: the first one with the head, the others without it
next-text : (plan : PlanView) (first part : List Entry) (text : List ℕ) → 0 < length part
    → (length first ≡ 0 → text ≡ begun_text plan part) → (0 < length first → text ≡ lines_text part)
    → text_ahead plan first ++ text ≡ text_ahead plan (first ++ part)
next-text plan [] part text some head lines = ap (λ l. text_ahead plan [] ++ l) (head refl) ∙ ahead-first plan [] part refl some
next-text plan (e ∷ es) part text some head lines =
    let there : 0 < length (e ∷ es) = omega arith in
    ap (λ l. text_ahead plan (e ∷ es) ++ l) (lines there) ∙ ahead-then plan (e ∷ es) part there

pub ahead-next : {B : Type 0} (has : B → List ℕ → Type 0) (file after : B) (count more all : ℕ) (part : TranscriptView) (text : List ℕ) → more ≡ length part.entries → all ≡ min (count + more) (2 ^ 64 - 1)
    → (count ≡ 0 → text ≡ begun_text part.plan part.entries) → (0 < count → text ≡ lines_text part.entries)
    → ((bytes : List ℕ) → has file bytes → has after (bytes ++ text))
    → (t : TranscriptView) → length t.entries < 2 ^ 64 → IsPart count t part → IsAhead has file count t → IsAhead has after all t × (all ≡ count + length part.entries)
ahead-next has file after count more all part text more_is all_is head lines grows t few is ahead =
    let within = part-within count t part ahead.within is in
    let far : all ≡ count + length part.entries = omega (arith, more_is, all_is, within, few) in
    let first = take count t.entries in
    let long : length first ≡ count = length-take-le count t.entries ahead.within in
    let of_plan : text_ahead t.plan first ++ text ≡ text_ahead t.plan (first ++ part.entries) =
    next-text t.plan first part.entries text is.some
    (λ none. head (omega (arith, long, none)) ∙ ap (λ (p : PlanView). begun_text p part.entries) is.plan)
    (λ some. lines (omega (arith, long, some))) in
    let written : has after (text_ahead t.plan (take (count + length part.entries) t.entries)) =
    subst (λ es. has after (text_ahead t.plan es)) (sym (part-first count t part ahead.within is))
    (subst (has after) of_plan (grows (text_ahead t.plan first) ahead.text)) in
    (subst (λ k. IsAhead has after k t) (sym far) (record { within = within; text = written }), far)

-- entries that come behind those of a run leave it ahead
pub ahead-ticks : {B M : Type 0} (has : B → List ℕ → Type 0) (file : B) (count : ℕ) (run now : RunView M) → MakesMore run now → IsAhead has file count (told_by run) → IsAhead has file count (told_by now)
ahead-ticks has file count run now more ahead =
    let makes = more.makes in
    let within = ahead.within in
    let long = length-append run.entries makes.more in
    subst (λ (v : RunView _). IsAhead has file count (told_by v)) (sym makes.is) (record {
      within = omega (arith, within, long);
      text = subst (λ es. has file (text_ahead run.readings.plan es)) (sym (take-append-le count run.entries makes.more ahead.within)) ahead.text;
    })

-- ---- parts, one after another

-- one more part behind them
pub next-more : (entries : ℕ) (t : TranscriptView) (parts : List TranscriptView) (part : TranscriptView)
    → AreNext entries t parts → IsPart (reached entries parts) t part → AreNext entries t (parts ++ part ∷ [])
next-more entries t [] part next is = (is, tt)
next-more entries t (p ∷ parts) part next is = (next.0, next-more (entries + length p.entries) t parts part next.1 is)

-- the first ones of them
pub next-first : (entries : ℕ) (t : TranscriptView) (parts left : List TranscriptView) → AreNext entries t (parts ++ left) → AreNext entries t parts
next-first entries t [] left next = tt
next-first entries t (p ∷ parts) left next = (next.0, next-first (entries + length p.entries) t parts left next.1)

-- the last one of them
pub next-last : (entries : ℕ) (t : TranscriptView) (parts : List TranscriptView) (part : TranscriptView)
    → AreNext entries t (parts ++ part ∷ []) → IsPart (reached entries parts) t part
next-last entries t [] part next = next.0
next-last entries t (p ∷ parts) part next = next-last (entries + length p.entries) t parts part next.1

pub reached-more : (entries : ℕ) (parts : List TranscriptView) (part : TranscriptView) → reached entries (parts ++ part ∷ []) ≡ reached entries parts + length part.entries
reached-more entries [] part = refl
reached-more entries (p ∷ parts) part = reached-more (entries + length p.entries) parts part

-- the file has what came out behind what it had, once the text of one part more is appended
pub written-more : {B : Type 0} (has : B → List ℕ → Type 0) (first now after : B) (entries n m : ℕ) (parts came : List TranscriptView) (part : TranscriptView) → came ≡ parts ++ part ∷ []
    → ((t : TranscriptView) → length t.entries < 2 ^ 64 → AreNext entries t parts → IsAhead has first entries t → IsAhead has now n t × (n ≡ reached entries parts))
    → ((t : TranscriptView) → length t.entries < 2 ^ 64 → IsPart n t part → IsAhead has now n t → IsAhead has after m t × (m ≡ n + length part.entries))
    → (t : TranscriptView) → length t.entries < 2 ^ 64 → AreNext entries t came → IsAhead has first entries t → IsAhead has after m t × (m ≡ reached entries came)
written-more has first now after entries n m parts came part came_is before append t few next ahead =
    let all : AreNext entries t (parts ++ part ∷ []) = subst (AreNext entries t) came_is next in
    let was = before t few (next-first entries t parts (part ∷ []) all) ahead in
    let is : IsPart n t part = subst (λ k. IsPart k t part) (sym was.1) (next-last entries t parts part all) in
    let done = append t few is was.0 in
    (done.0, done.1 ∙ ap (λ k. k + length part.entries) was.1 ∙ sym (ap (reached entries) came_is ∙ reached-more entries parts part))

-- nothing came out yet
pub written-none : {B : Type 0} (has : B → List ℕ → Type 0) (first : B) (entries : ℕ) (came : List TranscriptView) → came ≡ [] → (t : TranscriptView) → IsAhead has first entries t → IsAhead has first entries t × (entries ≡ reached entries came)
written-none has first entries came none t ahead = (ahead, sym (ap (reached entries) none))

-- entries that come behind those of the transcript leave a part where it is
part-later : (entries : ℕ) (t part : TranscriptView) (more : List Entry) → IsPart entries t part → IsPart entries (record t { entries = t.entries ++ more }) part
part-later entries t part more is =
    let left = ap length is.is in
    let added = length-append part.entries is.rest in
    let long = length-drop entries t.entries in
    let some = is.some in
    record {
      rest = is.rest ++ more;
      is = drop-append-le entries t.entries more (omega (arith, left, added, long, some)) ∙ ap (λ es. es ++ more) is.is ∙ append_assoc part.entries is.rest more;
      plan = is.plan;
      some = is.some;
    }

next-later : (entries : ℕ) (t : TranscriptView) (parts : List TranscriptView) (more : List Entry) → AreNext entries t parts → AreNext entries (record t { entries = t.entries ++ more }) parts
next-later entries t [] more next = tt
next-later entries t (p ∷ parts) more next = (part-later entries t p more next.0, next-later (entries + length p.entries) t parts more next.1)

-- nothing was handed over yet
pub handed-none : (entries : ℕ) (t : TranscriptView) (parts : List TranscriptView) → parts ≡ [] → entries ≤ length t.entries → AreHanded entries t parts entries
handed-none entries t parts none within = record { next = subst (AreNext entries t) (sym none) tt; far = sym (ap (reached entries) none); within = within }

-- what was handed over of a run, once a tick more is made
pub handed-tick : {M : Type 0} (entries handed : ℕ) (run now : RunView M) (parts : List TranscriptView) → MakesTicks 1 run now → AreHanded entries (told_by run) parts handed → AreHanded entries (told_by now) parts handed
handed-tick entries handed run now parts makes are =
    let within = are.within in
    let long = length-append run.entries makes.more in
    subst (λ (v : RunView _). AreHanded entries (told_by v) parts handed) (sym makes.is) (record {
      next = next-later entries (told_by run) parts makes.more are.next;
      far = are.far;
      within = omega (arith, within, long);
    })

-- the newest entries are handed over as a part
pub handed-more : (entries handed now : ℕ) (t part : TranscriptView) (parts given : List TranscriptView) → given ≡ parts ++ part ∷ [] → part ≡ record t { entries = drop handed t.entries } → handed < length t.entries
    → now ≡ length t.entries → AreHanded entries t parts handed → AreHanded entries t given now
handed-more entries handed now t part parts given given_is part_is some now_is are =
    let long = length-drop handed t.entries in
    let left : length part.entries ≡ length t.entries - handed = ap (λ (p : TranscriptView). length p.entries) part_is ∙ long in
    let is : IsPart handed t part = record {
      rest = [];
      is = ap (λ (p : TranscriptView). p.entries) (sym part_is) ∙ sym (append-nil part.entries);
      plan = ap (λ (p : TranscriptView). p.plan) part_is;
      some = omega (arith, left, some);
    } in
    let far = are.far in
    let more = reached-more entries parts part in
    subst (λ ps. AreHanded entries t ps now) (sym given_is) (record {
      next = next-more entries t parts part are.next (subst (λ k. IsPart k t part) far is);
      far = omega (arith, now_is, left, some, more, far);
      within = omega (arith, now_is);
    })

-- what is left of the text behind the first entries
left-behind : (t : TranscriptView) (entries : ℕ) (rest : List ℕ) → entries ≤ length t.entries → (entries ≡ 0 → rest ≡ transcript_text t)
    → (0 < entries → begun_text t.plan (take entries t.entries) ++ rest ≡ transcript_text t) → text_ahead t.plan (take entries t.entries) ++ rest ≡ transcript_text t
left-behind t zero rest within whole left =
    let long = length-take-le 0 t.entries within in
    ap (λ l. l ++ rest) (ahead-none t.plan (take 0 t.entries) (omega (arith, long))) ∙ whole refl
left-behind t (suc n) rest within whole left =
    let long = length-take-le (suc n) t.entries within in
    ap (λ l. l ++ rest) (ahead-some t.plan (take (suc n) t.entries) (omega (arith, long))) ∙ left (omega arith)

-- with what is left behind them the file has the whole text
pub ahead-finished : {B : Type 0} (has : B → List ℕ → Type 0) (file after : B) (entries : ℕ) (t : TranscriptView) (rest : List ℕ) → IsAhead has file entries t → (entries ≡ 0 → rest ≡ transcript_text t)
    → (0 < entries → begun_text t.plan (take entries t.entries) ++ rest ≡ transcript_text t) → ((bytes : List ℕ) → has file bytes → has after (bytes ++ rest))
    → has after (transcript_text t)
ahead-finished has file after entries t rest ahead whole left grows =
    subst (has after) (left-behind t entries rest ahead.within whole left) (grows (text_ahead t.plan (take entries t.entries)) ahead.text)

-- ---- the ring

pub same_producer : {T A P : Type 0} (a b c : Producer T A P) → SameProducer a b → SameProducer b c → SameProducer a c
same_producer a b c first then = ((then.0.0 ∙ first.0.0, then.0.1 ∙ first.0.1, then.0.2 ∙ first.0.2, then.0.3 ∙ first.0.3), then.1 ∙ first.1)

pub same_consumer : {T A P : Type 0} (a b c : Consumer T A P) → SameConsumer a b → SameConsumer b c → SameConsumer a c
same_consumer a b c first then = ((then.0.0 ∙ first.0.0, then.0.1 ∙ first.0.1, then.0.2 ∙ first.0.2, then.0.3 ∙ first.0.3), then.1 ∙ first.1)
