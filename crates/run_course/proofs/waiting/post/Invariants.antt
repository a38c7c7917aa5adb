use Rattle.std.proofs.Common.{◌≡◌, ◌++◌, take}
use Rattle.run_course.specs.Stages.{arrivals}
use Rattle.run_course.proofs.waiting.post.Given as goal

abbrev pub invariant-loop-delay : goal.invariant-loop-delay
invariant-loop-delay l = l.later.items ≡ l.fn.later.items ++ arrivals l.tick l.tag (take l.delay-index l.delay-items)
