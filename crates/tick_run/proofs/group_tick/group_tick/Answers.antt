use Rattle.std.proofs.Common.{◌≡◌, ◌+◌, ◌-◌, ◌++◌, ℕ, List, length, map, refl, sym, ap, ◌∙◌, subst}
use Rattle.std.specs.Prelude.{All}
use Rattle.group_plan.specs.Plans.{PlanView}
use Rattle.group_plan.specs.Tables.{PresenceView, presence_of}
use Rattle.meter_frames.specs.declared.Frame.{Frame}
use Rattle.event_schedule.specs.declared.Line.{Line}
use Rattle.transcript_log.specs.Drafts.{quiet}
use Rattle.event_schedule.specs.Events.{lines_of}
use Rattle.group_book.specs.Replay.{Replays}
use Rattle.plan_meters.specs.Came.{frames_in}
use Rattle.plan_meters.specs.Meters.{AreOfGroup, announcements}
use Rattle.plan_meters.specs.Sent.{readings_at, answers_at}
use Rattle.tick_run.specs.GroupRuns.{send_line, AreSendable, CanSendFrames, SendsAll, posted_all, book_with, past_in}
use Rattle.tick_run.specs.Jobs.{announcements_due}
use Rattle.tick_run.proofs.TakeLemmas.{all-spelled}
use Rattle.tick_run.proofs.GroupTickLemmas.{group-begun, group-took, group-shut, group-read, group-told, group-answerable, group-frames, group-can_send, group-takeable, group-ticks}
use Rattle.tick_run.proofs.group_tick.group_tick.Goals as goal

pub frames_of-requires : goal.frames_of-requires
frames_of-requires g c =
    let readings = c.args.known.now.readings.now in
    let m = g.M.Masks.table c.args.known.now.masks.now in
    let t = c.args.tick in
    let work = c.args.work.now in
    let kept = c.args.pages.now in
    let group = kept.group in
    let fates = work.fates.items in
    let entries = c.requires.can.entries in
    let at = c.requires.can.stands in
    let posted : c.post_all.new.link ≡ posted_all (t - 1) work.frames.items fates work.link
    = c.in_ok-post_all.ensures ∙ ap (λ (u : ℕ). posted_all u c.deref.result.now c.deref-2.result.now work.link) c.saturating_sub.ensures
    ∙ ap (λ (fs : List Frame). posted_all (t - 1) fs c.deref-2.result.now work.link) c.deref.ensures.value ∙ ap (λ (es : List (List ℕ)). posted_all (t - 1) work.frames.items es work.link) c.deref-2.ensures.value in
    let left = c.due.new.self in
    let copies = c.deref-3.result.now in
    let begun = group-begun readings m t entries fates kept work c.post_all.new.link left copies at posted c.in_ok-copies.ensures.1 (c.deref-3.ensures.value ∙ c.in_ok-copies.ensures.0) in
    all-spelled entries copies begun.1.spelled

pub take_all-requires-clause-can : goal.take_all-requires-clause-can
take_all-requires-clause-can g c =
    let readings = c.args.known.now.readings.now in
    let m = g.M.Masks.table c.args.known.now.masks.now in
    let t = c.args.tick in
    let work = c.args.work.now in
    let kept = c.args.pages.now in
    let group = kept.group in
    let fates = work.fates.items in
    let entries = c.requires.can.entries in
    let at = c.requires.can.stands in
    let posted : c.post_all.new.link ≡ posted_all (t - 1) work.frames.items fates work.link
    = c.in_ok-post_all.ensures ∙ ap (λ (u : ℕ). posted_all u c.deref.result.now c.deref-2.result.now work.link) c.saturating_sub.ensures
    ∙ ap (λ (fs : List Frame). posted_all (t - 1) fs c.deref-2.result.now work.link) c.deref.ensures.value ∙ ap (λ (es : List (List ℕ)). posted_all (t - 1) work.frames.items es work.link) c.deref-2.ensures.value in
    let left = c.due.new.self in
    let copies = c.deref-3.result.now in
    let begun = group-begun readings m t entries fates kept work c.post_all.new.link left copies at posted c.in_ok-copies.ensures.1 (c.deref-3.ensures.value ∙ c.in_ok-copies.ensures.0) in
    let came = c.deref-4.result.now in
    record {
      presence = presence_of readings;
      journal = lines_of entries;
      replays = at.pages;
      takeable = group-takeable readings m t group entries left copies came at.own begun.0 begun.1 (c.deref-4.ensures.value ∙ c.in_ok-came.ensures);
    }

pub close_and_end-requires-clause-can : goal.close_and_end-requires-clause-can
close_and_end-requires-clause-can g c =
    let readings = c.args.known.now.readings.now in
    let m = g.M.Masks.table c.args.known.now.masks.now in
    let t = c.args.tick in
    let work = c.args.work.now in
    let kept = c.args.pages.now in
    let group = kept.group in
    let fates = work.fates.items in
    let entries = c.requires.can.entries in
    let at = c.requires.can.stands in
    let posted : c.post_all.new.link ≡ posted_all (t - 1) work.frames.items fates work.link
    = c.in_ok-post_all.ensures ∙ ap (λ (u : ℕ). posted_all u c.deref.result.now c.deref-2.result.now work.link) c.saturating_sub.ensures
    ∙ ap (λ (fs : List Frame). posted_all (t - 1) fs c.deref-2.result.now work.link) c.deref.ensures.value ∙ ap (λ (es : List (List ℕ)). posted_all (t - 1) work.frames.items es work.link) c.deref-2.ensures.value in
    let left = c.due.new.self in
    let copies = c.deref-3.result.now in
    let begun = group-begun readings m t entries fates kept work c.post_all.new.link left copies at posted c.in_ok-copies.ensures.1 (c.deref-3.ensures.value ∙ c.in_ok-copies.ensures.0) in
    let came = c.deref-4.result.now in
    let came_is : came ≡ frames_in copies = c.deref-4.ensures.value ∙ c.in_ok-came.ensures in
    let took = group-took readings m t group entries kept left copies came c.reserve.new.self c.take_all.new.pages c.take_all.new.lines at.own refl at.pages begun.0 begun.1 came_is c.take_all.ensures in
    let one = entries ++ map (quiet t) took.takes.added in
    record { presence = presence_of readings; journal = lines_of one; replays = took.pages }

pub close_and_end-requires-clause-rounds : goal.close_and_end-requires-clause-rounds
close_and_end-requires-clause-rounds g c =
    let readings = c.args.known.now.readings.now in
    let m = g.M.Masks.table c.args.known.now.masks.now in
    let t = c.args.tick in
    let work = c.args.work.now in
    let kept = c.args.pages.now in
    let group = kept.group in
    let fates = work.fates.items in
    let entries = c.requires.can.entries in
    let at = c.requires.can.stands in
    let posted : c.post_all.new.link ≡ posted_all (t - 1) work.frames.items fates work.link
    = c.in_ok-post_all.ensures ∙ ap (λ (u : ℕ). posted_all u c.deref.result.now c.deref-2.result.now work.link) c.saturating_sub.ensures
    ∙ ap (λ (fs : List Frame). posted_all (t - 1) fs c.deref-2.result.now work.link) c.deref.ensures.value ∙ ap (λ (es : List (List ℕ)). posted_all (t - 1) work.frames.items es work.link) c.deref-2.ensures.value in
    let left = c.due.new.self in
    let copies = c.deref-3.result.now in
    let begun = group-begun readings m t entries fates kept work c.post_all.new.link left copies at posted c.in_ok-copies.ensures.1 (c.deref-3.ensures.value ∙ c.in_ok-copies.ensures.0) in
    let came = c.deref-4.result.now in
    let came_is : came ≡ frames_in copies = c.deref-4.ensures.value ∙ c.in_ok-came.ensures in
    let took = group-took readings m t group entries kept left copies came c.reserve.new.self c.take_all.new.pages c.take_all.new.lines at.own refl at.pages begun.0 begun.1 came_is c.take_all.ensures in
    let one = entries ++ map (quiet t) took.takes.added in
    took.pages.rounds ∙ ap (λ (p : PlanView). p.rounds) (sym c.plan.ensures.plan)

pub read-requires-clause-can : goal.read-requires-clause-can
read-requires-clause-can g c =
    let readings = c.args.known.now.readings.now in
    let m = g.M.Masks.table c.args.known.now.masks.now in
    let t = c.args.tick in
    let work = c.args.work.now in
    let kept = c.args.pages.now in
    let group = kept.group in
    let fates = work.fates.items in
    let entries = c.requires.can.entries in
    let at = c.requires.can.stands in
    record { past = past_in entries; are = subst (λ (k : ℕ). AreOfGroup (presence_of readings) (past_in entries) t k work.meters.meters.items) (sym c.group-group.ensures) at.meters.are }

pub hear_all-requires : goal.hear_all-requires
hear_all-requires g c =
    let readings = c.args.known.now.readings.now in
    let m = g.M.Masks.table c.args.known.now.masks.now in
    let t = c.args.tick in
    let work = c.args.work.now in
    let kept = c.args.pages.now in
    let group = kept.group in
    let fates = work.fates.items in
    let entries = c.requires.can.entries in
    let at = c.requires.can.stands in
    let posted : c.post_all.new.link ≡ posted_all (t - 1) work.frames.items fates work.link
    = c.in_ok-post_all.ensures ∙ ap (λ (u : ℕ). posted_all u c.deref.result.now c.deref-2.result.now work.link) c.saturating_sub.ensures
    ∙ ap (λ (fs : List Frame). posted_all (t - 1) fs c.deref-2.result.now work.link) c.deref.ensures.value ∙ ap (λ (es : List (List ℕ)). posted_all (t - 1) work.frames.items es work.link) c.deref-2.ensures.value in
    let left = c.due.new.self in
    let copies = c.deref-3.result.now in
    let begun = group-begun readings m t entries fates kept work c.post_all.new.link left copies at posted c.in_ok-copies.ensures.1 (c.deref-3.ensures.value ∙ c.in_ok-copies.ensures.0) in
    let came = c.deref-4.result.now in
    let came_is : came ≡ frames_in copies = c.deref-4.ensures.value ∙ c.in_ok-came.ensures in
    let took = group-took readings m t group entries kept left copies came c.reserve.new.self c.take_all.new.pages c.take_all.new.lines at.own refl at.pages begun.0 begun.1 came_is c.take_all.ensures in
    let one = entries ++ map (quiet t) took.takes.added in
    let shut = group-shut readings m t group one c.plan.result.now c.take_all.new.pages left copies c.take_all.new.lines c.close_and_end.new.pages c.close_and_end.new.lines c.plan.ensures.plan took.takes.group took.pages took.running took.come c.in_ok-close_and_end.ensures in
    let es = one ++ map (quiet t) shut.closes.added in
    let heard_from = c.deref-5.result.now in
    let heard_is : heard_from ≡ frames_in copies = c.deref-5.ensures.value ∙ c.in_ok-came.ensures in
    let same_came : came ≡ heard_from = came_is ∙ sym heard_is in
    let read = group-read readings t group c.group-group.result entries (map (quiet t) took.takes.added) (map (quiet t) shut.closes.added) c.read.new.self.meters.items c.group-group.ensures at.meters.table
    (c.read.ensures (past_in entries) (subst (λ (k : ℕ). AreOfGroup (presence_of readings) (past_in entries) t k work.meters.meters.items) (sym c.group-group.ensures) at.meters.are)) in
    let told = group-told readings m t group es left copies heard_from shut.running shut.come heard_is in
    let own = subst (All (λ (f : Frame). f.tag.group ≡ group)) same_came took.own in
    record { can = record { presence = presence_of readings; past = past_in es; until = t + 1; group = group; own = own; are = read; told = told } }

pub add_due-requires-clause-can : goal.add_due-requires-clause-can
add_due-requires-clause-can g c =
    let readings = c.args.known.now.readings.now in
    let m = g.M.Masks.table c.args.known.now.masks.now in
    let t = c.args.tick in
    let work = c.args.work.now in
    let kept = c.args.pages.now in
    let group = kept.group in
    let fates = work.fates.items in
    let entries = c.requires.can.entries in
    let at = c.requires.can.stands in
    let posted : c.post_all.new.link ≡ posted_all (t - 1) work.frames.items fates work.link
    = c.in_ok-post_all.ensures ∙ ap (λ (u : ℕ). posted_all u c.deref.result.now c.deref-2.result.now work.link) c.saturating_sub.ensures
    ∙ ap (λ (fs : List Frame). posted_all (t - 1) fs c.deref-2.result.now work.link) c.deref.ensures.value ∙ ap (λ (es : List (List ℕ)). posted_all (t - 1) work.frames.items es work.link) c.deref-2.ensures.value in
    let left = c.due.new.self in
    let copies = c.deref-3.result.now in
    let begun = group-begun readings m t entries fates kept work c.post_all.new.link left copies at posted c.in_ok-copies.ensures.1 (c.deref-3.ensures.value ∙ c.in_ok-copies.ensures.0) in
    let came = c.deref-4.result.now in
    let came_is : came ≡ frames_in copies = c.deref-4.ensures.value ∙ c.in_ok-came.ensures in
    let took = group-took readings m t group entries kept left copies came c.reserve.new.self c.take_all.new.pages c.take_all.new.lines at.own refl at.pages begun.0 begun.1 came_is c.take_all.ensures in
    let one = entries ++ map (quiet t) took.takes.added in
    let shut = group-shut readings m t group one c.plan.result.now c.take_all.new.pages left copies c.take_all.new.lines c.close_and_end.new.pages c.close_and_end.new.lines c.plan.ensures.plan took.takes.group took.pages took.running took.come c.in_ok-close_and_end.ensures in
    let es = one ++ map (quiet t) shut.closes.added in
    record { presence = presence_of readings; journal = lines_of es; replays = shut.pages }

pub add_due-requires-clause-rounds : goal.add_due-requires-clause-rounds
add_due-requires-clause-rounds g c =
    let readings = c.args.known.now.readings.now in
    let m = g.M.Masks.table c.args.known.now.masks.now in
    let t = c.args.tick in
    let work = c.args.work.now in
    let kept = c.args.pages.now in
    let group = kept.group in
    let fates = work.fates.items in
    let entries = c.requires.can.entries in
    let at = c.requires.can.stands in
    let posted : c.post_all.new.link ≡ posted_all (t - 1) work.frames.items fates work.link
    = c.in_ok-post_all.ensures ∙ ap (λ (u : ℕ). posted_all u c.deref.result.now c.deref-2.result.now work.link) c.saturating_sub.ensures
    ∙ ap (λ (fs : List Frame). posted_all (t - 1) fs c.deref-2.result.now work.link) c.deref.ensures.value ∙ ap (λ (es : List (List ℕ)). posted_all (t - 1) work.frames.items es work.link) c.deref-2.ensures.value in
    let left = c.due.new.self in
    let copies = c.deref-3.result.now in
    let begun = group-begun readings m t entries fates kept work c.post_all.new.link left copies at posted c.in_ok-copies.ensures.1 (c.deref-3.ensures.value ∙ c.in_ok-copies.ensures.0) in
    let came = c.deref-4.result.now in
    let came_is : came ≡ frames_in copies = c.deref-4.ensures.value ∙ c.in_ok-came.ensures in
    let took = group-took readings m t group entries kept left copies came c.reserve.new.self c.take_all.new.pages c.take_all.new.lines at.own refl at.pages begun.0 begun.1 came_is c.take_all.ensures in
    let one = entries ++ map (quiet t) took.takes.added in
    let shut = group-shut readings m t group one c.plan.result.now c.take_all.new.pages left copies c.take_all.new.lines c.close_and_end.new.pages c.close_and_end.new.lines c.plan.ensures.plan took.takes.group took.pages took.running took.come c.in_ok-close_and_end.ensures in
    let es = one ++ map (quiet t) shut.closes.added in
    shut.pages.rounds

pub add_due-requires-clause-group : goal.add_due-requires-clause-group
add_due-requires-clause-group g c =
    let readings = c.args.known.now.readings.now in
    let m = g.M.Masks.table c.args.known.now.masks.now in
    let t = c.args.tick in
    let work = c.args.work.now in
    let kept = c.args.pages.now in
    let group = kept.group in
    let fates = work.fates.items in
    let entries = c.requires.can.entries in
    let at = c.requires.can.stands in
    let posted : c.post_all.new.link ≡ posted_all (t - 1) work.frames.items fates work.link
    = c.in_ok-post_all.ensures ∙ ap (λ (u : ℕ). posted_all u c.deref.result.now c.deref-2.result.now work.link) c.saturating_sub.ensures
    ∙ ap (λ (fs : List Frame). posted_all (t - 1) fs c.deref-2.result.now work.link) c.deref.ensures.value ∙ ap (λ (es : List (List ℕ)). posted_all (t - 1) work.frames.items es work.link) c.deref-2.ensures.value in
    let left = c.due.new.self in
    let copies = c.deref-3.result.now in
    let begun = group-begun readings m t entries fates kept work c.post_all.new.link left copies at posted c.in_ok-copies.ensures.1 (c.deref-3.ensures.value ∙ c.in_ok-copies.ensures.0) in
    let came = c.deref-4.result.now in
    let came_is : came ≡ frames_in copies = c.deref-4.ensures.value ∙ c.in_ok-came.ensures in
    let took = group-took readings m t group entries kept left copies came c.reserve.new.self c.take_all.new.pages c.take_all.new.lines at.own refl at.pages begun.0 begun.1 came_is c.take_all.ensures in
    let one = entries ++ map (quiet t) took.takes.added in
    let shut = group-shut readings m t group one c.plan.result.now c.take_all.new.pages left copies c.take_all.new.lines c.close_and_end.new.pages c.close_and_end.new.lines c.plan.ensures.plan took.takes.group took.pages took.running took.come c.in_ok-close_and_end.ensures in
    let es = one ++ map (quiet t) shut.closes.added in
    shut.pages.inside

pub add_due-requires-clause-heard : goal.add_due-requires-clause-heard
add_due-requires-clause-heard g c =
    let readings = c.args.known.now.readings.now in
    let m = g.M.Masks.table c.args.known.now.masks.now in
    let t = c.args.tick in
    let work = c.args.work.now in
    let kept = c.args.pages.now in
    let group = kept.group in
    let fates = work.fates.items in
    let entries = c.requires.can.entries in
    let at = c.requires.can.stands in
    let posted : c.post_all.new.link ≡ posted_all (t - 1) work.frames.items fates work.link
    = c.in_ok-post_all.ensures ∙ ap (λ (u : ℕ). posted_all u c.deref.result.now c.deref-2.result.now work.link) c.saturating_sub.ensures
    ∙ ap (λ (fs : List Frame). posted_all (t - 1) fs c.deref-2.result.now work.link) c.deref.ensures.value ∙ ap (λ (es : List (List ℕ)). posted_all (t - 1) work.frames.items es work.link) c.deref-2.ensures.value in
    let left = c.due.new.self in
    let copies = c.deref-3.result.now in
    let begun = group-begun readings m t entries fates kept work c.post_all.new.link left copies at posted c.in_ok-copies.ensures.1 (c.deref-3.ensures.value ∙ c.in_ok-copies.ensures.0) in
    let came = c.deref-4.result.now in
    let came_is : came ≡ frames_in copies = c.deref-4.ensures.value ∙ c.in_ok-came.ensures in
    let took = group-took readings m t group entries kept left copies came c.reserve.new.self c.take_all.new.pages c.take_all.new.lines at.own refl at.pages begun.0 begun.1 came_is c.take_all.ensures in
    let one = entries ++ map (quiet t) took.takes.added in
    let shut = group-shut readings m t group one c.plan.result.now c.take_all.new.pages left copies c.take_all.new.lines c.close_and_end.new.pages c.close_and_end.new.lines c.plan.ensures.plan took.takes.group took.pages took.running took.come c.in_ok-close_and_end.ensures in
    let es = one ++ map (quiet t) shut.closes.added in
    let heard_from = c.deref-5.result.now in
    let heard_is : heard_from ≡ frames_in copies = c.deref-5.ensures.value ∙ c.in_ok-came.ensures in
    group-answerable readings m t group es left copies heard_from c.deref-6.result.now at.meters.table shut.running shut.come heard_is (c.deref-6.ensures.value ∙ c.in_ok-heard.ensures.answered)

pub send_all-requires-clause-can : goal.send_all-requires-clause-can
send_all-requires-clause-can g c =
    let readings = c.args.known.now.readings.now in
    let m = g.M.Masks.table c.args.known.now.masks.now in
    let t = c.args.tick in
    let work = c.args.work.now in
    let kept = c.args.pages.now in
    let group = kept.group in
    let fates = work.fates.items in
    let entries = c.requires.can.entries in
    let at = c.requires.can.stands in
    let posted : c.post_all.new.link ≡ posted_all (t - 1) work.frames.items fates work.link
    = c.in_ok-post_all.ensures ∙ ap (λ (u : ℕ). posted_all u c.deref.result.now c.deref-2.result.now work.link) c.saturating_sub.ensures
    ∙ ap (λ (fs : List Frame). posted_all (t - 1) fs c.deref-2.result.now work.link) c.deref.ensures.value ∙ ap (λ (es : List (List ℕ)). posted_all (t - 1) work.frames.items es work.link) c.deref-2.ensures.value in
    let left = c.due.new.self in
    let copies = c.deref-3.result.now in
    let begun = group-begun readings m t entries fates kept work c.post_all.new.link left copies at posted c.in_ok-copies.ensures.1 (c.deref-3.ensures.value ∙ c.in_ok-copies.ensures.0) in
    let came = c.deref-4.result.now in
    let came_is : came ≡ frames_in copies = c.deref-4.ensures.value ∙ c.in_ok-came.ensures in
    let took = group-took readings m t group entries kept left copies came c.reserve.new.self c.take_all.new.pages c.take_all.new.lines at.own refl at.pages begun.0 begun.1 came_is c.take_all.ensures in
    let one = entries ++ map (quiet t) took.takes.added in
    let shut = group-shut readings m t group one c.plan.result.now c.take_all.new.pages left copies c.take_all.new.lines c.close_and_end.new.pages c.close_and_end.new.lines c.plan.ensures.plan took.takes.group took.pages took.running took.come c.in_ok-close_and_end.ensures in
    let es = one ++ map (quiet t) shut.closes.added in
    let heard_from = c.deref-5.result.now in
    let heard_is : heard_from ≡ frames_in copies = c.deref-5.ensures.value ∙ c.in_ok-came.ensures in
    let heard = c.deref-6.result.now in
    let some = c.deref-6.ensures.value ∙ c.in_ok-heard.ensures.answered in
    let frames = c.deref-7.result.now in
    let w = c.close_and_end.new.pages in
    let r = readings_at readings m t in
    let a = announcements_due (book_with readings es) t in
    let s = answers_at readings.plan m heard in
    let made : c.add_due.new.frames.items ≡ r group ++ a group ++ s group
    = c.in_ok-add_due.ensures (presence_of readings) (lines_of es) shut.pages refl ∙ ap (λ (l : List Frame). l ++ r w.group ++ a w.group ++ s w.group) c.clear-2.ensures.items
    ∙ ap (λ (h : ℕ). r h ++ a h ++ s h) shut.closes.group in
    let due = group-frames readings m t group es left copies heard_from heard frames shut.running shut.come heard_is some (c.deref-7.ensures.value ∙ made) in
    let can = group-can_send readings m t group es left copies frames shut.running shut.come due in
    subst (λ (p : PresenceView). CanSendFrames p w frames) (sym c.requires.presence)
    (record { journal = lines_of es; replays = shut.pages; sendable = subst (λ (h : ℕ). AreSendable (presence_of readings) h (lines_of es) frames) (sym shut.closes.group) can })

pub returns : goal.returns
returns g c = λ entries at.
    let readings = c.args.known.now.readings.now in
    let m = g.M.Masks.table c.args.known.now.masks.now in
    let t = c.args.tick in
    let work = c.args.work.now in
    let kept = c.args.pages.now in
    let group = kept.group in
    let fates = work.fates.items in
    let posted : c.post_all.new.link ≡ posted_all (t - 1) work.frames.items fates work.link
    = c.in_ok-post_all.ensures ∙ ap (λ (u : ℕ). posted_all u c.deref.result.now c.deref-2.result.now work.link) c.saturating_sub.ensures
    ∙ ap (λ (fs : List Frame). posted_all (t - 1) fs c.deref-2.result.now work.link) c.deref.ensures.value ∙ ap (λ (es : List (List ℕ)). posted_all (t - 1) work.frames.items es work.link) c.deref-2.ensures.value in
    let left = c.due.new.self in
    let copies = c.deref-3.result.now in
    let begun = group-begun readings m t entries fates kept work c.post_all.new.link left copies at posted c.in_ok-copies.ensures.1 (c.deref-3.ensures.value ∙ c.in_ok-copies.ensures.0) in
    let came = c.deref-4.result.now in
    let came_is : came ≡ frames_in copies = c.deref-4.ensures.value ∙ c.in_ok-came.ensures in
    let took = group-took readings m t group entries kept left copies came c.reserve.new.self c.take_all.new.pages c.take_all.new.lines at.own refl at.pages begun.0 begun.1 came_is c.take_all.ensures in
    let one = entries ++ map (quiet t) took.takes.added in
    let shut = group-shut readings m t group one c.plan.result.now c.take_all.new.pages left copies c.take_all.new.lines c.close_and_end.new.pages c.close_and_end.new.lines c.plan.ensures.plan took.takes.group took.pages took.running took.come c.in_ok-close_and_end.ensures in
    let es = one ++ map (quiet t) shut.closes.added in
    let heard_from = c.deref-5.result.now in
    let heard_is : heard_from ≡ frames_in copies = c.deref-5.ensures.value ∙ c.in_ok-came.ensures in
    let same_came : came ≡ heard_from = came_is ∙ sym heard_is in
    let read = group-read readings t group c.group-group.result entries (map (quiet t) took.takes.added) (map (quiet t) shut.closes.added) c.read.new.self.meters.items c.group-group.ensures at.meters.table
    (c.read.ensures (past_in entries) (subst (λ (k : ℕ). AreOfGroup (presence_of readings) (past_in entries) t k work.meters.meters.items) (sym c.group-group.ensures) at.meters.are)) in
    let told = group-told readings m t group es left copies heard_from shut.running shut.come heard_is in
    let own = subst (All (λ (f : Frame). f.tag.group ≡ group)) same_came took.own in
    let heard = c.deref-6.result.now in
    let some = c.deref-6.ensures.value ∙ c.in_ok-heard.ensures.answered in
    let frames = c.deref-7.result.now in
    let w = c.close_and_end.new.pages in
    let r = readings_at readings m t in
    let a = announcements_due (book_with readings es) t in
    let s = answers_at readings.plan m heard in
    let made : c.add_due.new.frames.items ≡ r group ++ a group ++ s group
    = c.in_ok-add_due.ensures (presence_of readings) (lines_of es) shut.pages refl ∙ ap (λ (l : List Frame). l ++ r w.group ++ a w.group ++ s w.group) c.clear-2.ensures.items
    ∙ ap (λ (h : ℕ). r h ++ a h ++ s h) shut.closes.group in
    let due = group-frames readings m t group es left copies heard_from heard frames shut.running shut.come heard_is some (c.deref-7.ensures.value ∙ made) in
    let can = group-can_send readings m t group es left copies frames shut.running shut.come due in
    let call = subst (λ (p : PresenceView). (j : List Line) → Replays p j w → AreSendable p w.group j frames → SendsAll p j frames c.reserve-2.new.self w.group c.send_all.new.pages c.send_all.new.lines) c.requires.presence c.send_all.ensures in
    let sent = call (lines_of es) shut.pages (subst (λ (h : ℕ). AreSendable (presence_of readings) h (lines_of es) frames) (sym shut.closes.group) can) in
    let sends = subst (λ (fs : List Frame). SendsAll (presence_of readings) (lines_of es) fs c.reserve-2.new.self group c.send_all.new.pages c.send_all.new.lines) c.deref-7.ensures.value
    (subst (λ (h : ℕ). SendsAll (presence_of readings) (lines_of es) frames c.reserve-2.new.self h c.send_all.new.pages c.send_all.new.lines) shut.closes.group sent) in
    let takes_lines : c.take_all.new.lines.items ≡ took.takes.added = took.takes.lines ∙ ap (λ (l : List Line). l ++ took.takes.added) (c.in_ok-reserve.ensures.items ∙ c.clear.ensures) in
    let closes_lines : c.close_and_end.new.lines.items ≡ took.takes.added ++ shut.closes.added = shut.closes.lines ∙ ap (λ (l : List Line). l ++ shut.closes.added) takes_lines in
    group-ticks readings m t group entries left copies came heard c.send_all.new.pages _ c.reserve.new.self c.take_all.new.lines c.take_all.new.lines c.close_and_end.new.lines c.reserve-2.new.self c.send_all.new.lines c.take_all.new.pages w
    at.own begun.0 begun.1 came_is took.takes shut.closes (some ∙ ap announcements (sym same_came))
    (c.in_ok-heard.ensures.meters (presence_of readings) (past_in es) (t + 1) group own read told) made sends refl
    (sends.lines ∙ ap (λ (l : List Line). l ++ map send_line c.add_due.new.frames.items) (c.in_ok-reserve-2.ensures.items ∙ closes_lines))
    (c.len-work.ensures.len ∙ ap length takes_lines) (c.len-work-2.ensures.len ∙ ap length closes_lines)
