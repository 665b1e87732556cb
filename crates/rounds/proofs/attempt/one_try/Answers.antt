use mathlib.Core.Path.{ap, ◌∙◌}
use Rattle.solver.specs.Reasons.{some}
use Rattle.rounds.specs.Inside.{problem_in, harder_fit}
use Rattle.rounds.specs.Problem.{state_of}
use Rattle.rounds.specs.Solve.{judged}
use Rattle.rounds.proofs.Trials.{no_trial, a_trial, trial_is}
use Rattle.rounds.proofs.attempt.one_try.Goals as goal

pub returns-in-Err : goal.returns-in-Err
returns-in-Err c =
    no_trial (problem_in c.args.p.now) _ _ c.args.x.now c.args.r.now c.step.new.y _ c.args.fit _ c.requires.0.counted c.harder.result c.in-Err.e c.in-Err.ensures (c.harder.ensures ∙ ap (λ w. harder_fit w c.args.fit) c.into.ensures)

pub returns : goal.returns
returns c =
    c.judge.ensures
    ∙ ap (λ t. judged (state_of c.args.x.now c.args.r.now c.args.fit) (some t))
    (trial_is (problem_in c.args.p.now) c.args.system.now.j.now c.args.x.now c.step.new.y c.copy_from_slice.new.self c.moved.new.x c.values.new.r _ c.moved.result
    c.requires.0.counted c.requires.0.few c.args.p.now.narrow c.requires.0.jacobian-long (c.step.auto.y ∙ c.requires.2.values-long)
    c.copy_from_slice.ensures.after c.moved.ensures c.values.ensures.values)
    ∙ a_trial (problem_in c.args.p.now) _ _ c.args.x.now c.args.r.now c.step.new.y _ c.args.fit _ c.requires.0.counted c.in_default.ensures
