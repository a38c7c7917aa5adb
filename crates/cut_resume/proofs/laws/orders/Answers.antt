use Rattle.cut_resume.proofs.Moves.{run_moved}
use Rattle.cut_resume.proofs.Replayed.{replayed_moved}
use Rattle.cut_resume.proofs.laws.orders.Goals as goal

pub returns-clause-runs : goal.returns-clause-runs
returns-clause-runs c s k slots words before after x e may is = run_moved s k before after x e may slots words is

pub returns-clause-books : goal.returns-clause-books
returns-clause-books c = replayed_moved
