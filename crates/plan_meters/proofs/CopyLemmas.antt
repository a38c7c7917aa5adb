-- The copies that came, as the frames that they carry.
use Rattle.std.proofs.Common.{◌≡◌, ℕ, ◌+◌, ◌<◌, cond, List, [], ◌∷◌, ◌++◌, length, get_or, take, sym, ap, ◌∙◌}
use Rattle.std.proofs.lemmas.List.Elements.{filter_more}
use Rattle.meter_frames.specs.declared.Frame.{Frame}
use Rattle.plan_meters.specs.Meters.{is_announcement, announcements}

-- the announcements among the frames so far, with one more that may be one
pub announcements-more : (came : List Frame) (k : ℕ) (f : Frame) (before now : List Frame) → k < length came → get_or came k f ≡ f → before ≡ announcements (take k came)
    → now ≡ before ++ cond (is_announcement f.tag) (f ∷ []) [] → now ≡ announcements (take (k + 1) came)
announcements-more came k f before now within at so_far more =
    more ∙ ap (λ l. l ++ cond (is_announcement f.tag) (f ∷ []) []) so_far
    ∙ ap (λ (x : Frame). announcements (take k came) ++ cond (is_announcement x.tag) (x ∷ []) []) (sym at)
    ∙ sym (filter_more (λ (x : Frame). is_announcement x.tag) came k f within)
