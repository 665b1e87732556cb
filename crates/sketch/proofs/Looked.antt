-- `looks-everywhere`: 4 and 5 over the fields of a build. Assumes nothing.
use mathlib.Core.Bool.{true, not}
use mathlib.Core.Logic.{◌↔◌}
use mathlib.Core.Path.{◌≡◌, ap}
use borrow.Author.Tests.{not-true}
use Rattle.loops.proofs.Picks.{denied}
use Rattle.sketch.specs.Check.{out_of_bounds, refers_to_nothing}
use Rattle.sketch.specs.Fields.{build_fields}
use Rattle.sketch.specs.Indices.{found_in, SomeMissing}
use Rattle.sketch.specs.Looked.{LooksEverywhere}
use Rattle.sketch.specs.Numbers.{bounded_field, SomeOut}
use Rattle.sketch.specs.declared.Build.{Build}
use Rattle.sketch.proofs.Every.{every-not, not-every}
use Rattle.sketch.proofs.Given.{given-exactly}

module _ (b : Build) where
  out-exactly : out_of_bounds b ≡ true ↔ SomeOut b
  out-exactly = (
    λ h. every-not bounded_field (build_fields b) (not-true _ h),
    λ s. ap not (not-every bounded_field (build_fields b) s.0 s.1 s.2),
  )

  missing-exactly : refers_to_nothing b ≡ true ↔ SomeMissing b
  missing-exactly = (
    λ h. every-not (found_in b) (build_fields b) (not-true _ h),
    λ s. ap not (not-every (found_in b) (build_fields b) s.0 s.1 s.2),
  )

  pub looks-everywhere : LooksEverywhere b
  looks-everywhere =
      let g = given-exactly b in
      let none = denied (out_of_bounds b) out-exactly in
      record {
        out = out-exactly;
        missing = missing-exactly;
        four = (
          λ h. let r = g.four.0 h in (r.0, out-exactly.0 r.1),
          λ s. g.four.1 (s.0, out-exactly.1 s.1),
        );
        five = (
          λ h. let r = g.five.0 h in (r.0, none.0 r.1, missing-exactly.0 r.2),
          λ s. g.five.1 (s.0, none.1 s.1, missing-exactly.1 s.2),
        );
      }
