-- What becomes of a frame, by what is posted under its tag.
use Rattle.std.proofs.Common.{◌≡◌, ◌≢◌, Bool, true, false, ◌&&◌, ◌==◌, Option, Some, None, refl, sym, ap, subst, ◌⊎◌, inl, inr, ⊎_elim, if◌then◌else◌, eq-eqb, eqb-true}
use Rattle.std.proofs.lemmas.Bool.{and_from, and_parts}
use Rattle.std.proofs.lemmas.Slice.Eq.{bytes_eq-Decides}
use Rattle.std.specs.Str.{bytes_eq}
use Rattle.group_plan.specs.declared.Tag.{Tag}
use Rattle.meter_frames.specs.declared.Frame.{Frame}
use Rattle.event_schedule.specs.declared.Event.{Event}
use Rattle.event_schedule.specs.declared.Event.TheVariants.{Send, Take, Close, End}
use Rattle.event_schedule.specs.Events.{is_tag}
use Rattle.event_schedule.proofs.EventLemmas.{is_send-itself, is_send-true}
use Rattle.group_book.specs.declared.answers.TakeError.TheVariants.{Unknown, Forged}
use Rattle.group_book.specs.Books.{BookView, knows, posted_of, IsFree}
use Rattle.shared_book.specs.declared.parcel.Request.TheVariants.{Take as TakeRequest}
use Rattle.shared_book.specs.Parcels.{Accepted, RefusedFrame, same_frame, judged_beside, judged_request}

is_bool : (b : Bool) → (b ≡ true) ⊎ (b ≡ false)
is_bool true = inl refl
is_bool false = inr refl

same_frame-itself : (f : Frame) → same_frame f f ≡ true
unfolding same_frame
same_frame-itself f = and_from _ _ (and_from _ _ (is_send-itself f.tag.group f.tag.round f.tag.meter f.tag.kind) ((bytes_eq-Decides f.missing f.missing).1 refl)) (eq-eqb f.word f.word refl)

pub same_frame-true : (p f : Frame) → same_frame p f ≡ true → p ≡ f
unfolding same_frame
same_frame-true p f h =
    let t : Bool = is_tag f.tag.group f.tag.round f.tag.meter f.tag.kind p.tag in
    let all = and_parts (t && bytes_eq p.missing f.missing) (p.word == f.word) h in
    let two = and_parts t (bytes_eq p.missing f.missing) all.0 in
    let sent : Send p.tag ≡ Send f.tag = is_send-true f.tag.group f.tag.round f.tag.meter f.tag.kind (Send p.tag) two.0 in
    let tag_in : Event → Tag = λ e. elim e [ Send tag ↦ tag | Take tag ↦ tag | Close g r ↦ f.tag | End g r ↦ f.tag ] in
    let same_tag : p.tag ≡ f.tag = ap tag_in sent in
    let same_set : p.missing ≡ f.missing = (bytes_eq-Decides p.missing f.missing).0 two.1 in
    let same_word : p.word ≡ f.word = eqb-true p.word f.word all.1 in
    λ i. record { tag = same_tag i; missing = same_set i; word = same_word i }

-- a frame beside which no other is posted is taken
pub beside-free : (found : Option Frame) (f : Frame) → IsFree found f → judged_beside found f ≡ Accepted (Take f.tag)
beside-free None f h = refl
beside-free (Some p) f h = let e : same_frame p f ≡ true = subst (λ (q : Frame). same_frame q f ≡ true) (sym h) (same_frame-itself f) in rw e refl

pub beside-other : (p f : Frame) → p ≢ f → judged_beside (Some p) f ≡ RefusedFrame (Forged p f)
beside-other p f n = ⊎_elim (λ (e : same_frame p f ≡ true). absurd (n (same_frame-true p f e))) (λ (e : same_frame p f ≡ false). rw e refl) (is_bool (same_frame p f))

pub known-judged : (b : BookView) (f : Frame) → knows b f.tag ≡ true → judged_request b.presence.plan b.journal (TakeRequest f) ≡ judged_beside (posted_of b f.tag) f
known-judged b f k = ap (λ (x : Bool). if x then judged_beside (posted_of b f.tag) f else RefusedFrame Unknown) k
