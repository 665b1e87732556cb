-- Why a group's fit failed (specs/Groups.antt), from what is so of every fit (crates/rounds/proofs/Reasons.antt). Assumes nothing.
use Prim.Native.Nat.{ℕ}
use Rattle.groups.specs.declared.Grouping.{Grouping}
use Rattle.rounds.proofs.Reasons.{why-exactly, tells-why}
use Rattle.sketch.specs.declared.Build.{Build}
use Rattle.fit.specs.Frames.{start_in}
use Rattle.fit.specs.Groups.{frame_in, problem_at, slopes_at, ReasonExactly, ReasonTells}

module _ (b : Build) (gr : Grouping) (g : ℕ) where
  pub reason-exactly : ReasonExactly b gr g
  reason-exactly = why-exactly (problem_at b gr g) (slopes_at b gr g) (start_in b (frame_in b gr g))

  pub reason-tells : ReasonTells b gr g
  reason-tells = tells-why (problem_at b gr g) (slopes_at b gr g) (start_in b (frame_in b gr g))
