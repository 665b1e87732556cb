-- Assumes nothing.
use Rattle.std.proofs.Common.{rules, ◌∙◌}
use Rattle.job.proofs.Measured.{handed-points}
use Rattle.job.proofs.ends.fitted.Goals as goal

pub returns-clause-answer : goal.returns-clause-answer
returns-clause-answer c =
    let points = handed-points c.args.b.now c.args.d.now.points c.args.out.now (search rules) c.requires.0 in
    c.fitted.ensures ∙ rw (c.min.ensures, c.loose.ensures.count, c.worst-worst.ensures, c.hand_out.ensures, points)
