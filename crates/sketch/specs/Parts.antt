-- What a build holds: of each array as many items as its count says. What stands past a count is no part of the build.
use Rattle.std.specs.Prelude.{List, take}
use Rattle.sketch.specs.declared.Active.{Active}
use Rattle.sketch.specs.declared.Build.{Build}
use Rattle.sketch.specs.declared.Line.{Line}
use Rattle.sketch.specs.declared.Measured.{Measured}
use Rattle.sketch.specs.declared.Point.{Point}

abbrev pub points_of : Build → List Point
points_of b = take b.point_count b.points

abbrev pub lines_of : Build → List Line
lines_of b = take b.line_count b.lines

abbrev pub equations_of : Build → List Active
equations_of b = take b.equation_count b.equations

abbrev pub measures_of : Build → List Measured
measures_of b = take b.measure_count b.measures
