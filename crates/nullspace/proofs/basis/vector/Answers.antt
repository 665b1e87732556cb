use Rattle.nullspace.proofs.basis.vector.Goals as goal

pub returns : goal.returns
returns c = cc
