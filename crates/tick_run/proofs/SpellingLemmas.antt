-- Bytes on their way, and the posted frames that they spell.
use Rattle.std.proofs.Common.{◌≡◌, ℕ, Bool, true, false, cond, ◌&&◌, List, [], ◌∷◌, ◌++◌, refl, ap, ◌∙◌}
use Rattle.std.specs.Prelude.{if◌then◌else◌, Option, Some, None, is_some}
use Rattle.std.proofs.lemmas.Bool.{false≢true, and_parts}
use Rattle.std.proofs.lemmas.List.{map-append}
use Rattle.group_plan.specs.declared.Tag.{Tag}
use Rattle.meter_frames.specs.declared.Frame.{Frame}
use Rattle.meter_frames.specs.Frames.{spelling, IsFrame}
use Rattle.event_schedule.specs.declared.Line.{Line}
use Rattle.event_schedule.specs.declared.Line.TheVariants.{Send as SendLine}
use Rattle.event_schedule.specs.declared.Entry.{Entry}
use Rattle.event_schedule.specs.Events.{is_send, event_of, frame_of, lines_of}
use Rattle.event_schedule.proofs.EventLemmas.{is_send-itself}
use Rattle.group_book.specs.Books.{posted, posted_in, IsFree}
use Rattle.tick_run.specs.OnTheWay.{IsOfSend}

-- a posted frame stays
pub posted-append : (tag : Tag) (f : Frame) (xs ys : List Line) → posted_in tag xs ≡ Some f → posted_in tag (xs ++ ys) ≡ Some f
unfolding posted
posted-append tag f [] ys is = absurd (cc is)
posted-append tag f (l ∷ xs) ys is =
    step (is_send tag.group tag.round tag.meter tag.kind (event_of l) && is_some (frame_of l)) is (posted-append tag f xs ys)
  where
    step : (b : Bool) → cond b (frame_of l) (posted_in tag xs) ≡ Some f → (posted_in tag xs ≡ Some f → posted_in tag (xs ++ ys) ≡ Some f)
        → cond b (frame_of l) (posted_in tag (xs ++ ys)) ≡ Some f
    step true at later = at
    step false at later = later at

-- a frame that is sent stands posted, where no other does
pub posted-push : (f : Frame) (xs : List Line) → IsFree (posted_in f.tag xs) f → posted_in f.tag (xs ++ SendLine f.tag (Some f) ∷ []) ≡ Some f
unfolding posted
posted-push f [] free = ap (λ b. if b && is_some (Some f) then Some f else None) (is_send-itself f.tag.group f.tag.round f.tag.meter f.tag.kind)
posted-push f (l ∷ xs) free =
    step (is_send f.tag.group f.tag.round f.tag.meter f.tag.kind (event_of l) && is_some (frame_of l)) refl free (posted-push f xs)
  where
    some : (o : Option Frame) → is_some o ≡ true → IsFree o f → o ≡ Some f
    some None is free = absurd (false≢true is)
    some (Some p) is free = ap Some free

    step : (b : Bool) → (is_send f.tag.group f.tag.round f.tag.meter f.tag.kind (event_of l) && is_some (frame_of l)) ≡ b → IsFree (cond b (frame_of l) (posted_in f.tag xs)) f
        → (IsFree (posted_in f.tag xs) f → posted_in f.tag (xs ++ SendLine f.tag (Some f) ∷ []) ≡ Some f) → cond b (frame_of l) (posted_in f.tag (xs ++ SendLine f.tag (Some f) ∷ [])) ≡ Some f
    step true at free later = some (frame_of l) (and_parts (is_send f.tag.group f.tag.round f.tag.meter f.tag.kind (event_of l)) (is_some (frame_of l)) at).1 free
    step false at free later = later free

-- bytes stay those of a Send
pub of_send-append : (xs ys : List Entry) (bytes : List ℕ) → IsOfSend xs bytes → IsOfSend (xs ++ ys) bytes
of_send-append xs ys bytes of = record {
  frame = of.frame;
  is = of.is;
  spelled = of.spelled;
  posted = ap (posted_in of.frame.tag) (map-append (λ (e : Entry). e.line) xs ys) ∙ posted-append of.frame.tag of.frame (lines_of xs) (lines_of ys) of.posted;
}

-- the bytes of a frame that is sent are those of its Send
pub of_send-push : (xs : List Entry) (x : Entry) (f : Frame) → x.line ≡ SendLine f.tag (Some f) → IsFrame f → IsFree (posted_in f.tag (lines_of xs)) f → IsOfSend (xs ++ x ∷ []) (spelling f)
of_send-push xs x f line is free = record {
  frame = f;
  is = is;
  spelled = refl;
  posted = ap (posted_in f.tag) (map-append (λ (e : Entry). e.line) xs (x ∷ []) ∙ ap (λ (l : Line). lines_of xs ++ l ∷ []) line) ∙ posted-push f (lines_of xs) free;
}
