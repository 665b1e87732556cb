use native.Mathlib.Omega.{arith}
use mathlib.Core.Path.{◌≡◌, ◌∙◌}
use Rattle.std.proofs.lemmas.Grind.{common_steps}
use lib.Ieee.{neg, of_bits}
use Rattle.floats.specs.Ops.{zero⁻}
use Rattle.loops.specs.Turns.{fold}
use Rattle.solver.specs.Sums.{add_square, norm2_of}
use Rattle.solver.proofs.norm2.Goals as goal

pub returns : goal.returns
unfolding norm2_of add_square neg of_bits
returns c =
    let e : c.fold.result ≡ fold add_square zero⁻ c.args.v.now = grind (arith, common_steps) in
    c.handed_out.ensures ∙ e
