use Rattle.std.proofs.Common.{◌≡◌, ◌*◌, ◌-◌, ◌≤◌}
use Rattle.job.specs.Groups.{begin, groups_from}
use Rattle.job.proofs.sweeps.all_groups.Given as goal

abbrev pub invariant-loop-g : goal.invariant-loop-g
invariant-loop-g l =
    (l.d.freedom ≤ 80 * l.g) × (groups_from l.b l.gr (l.n - l.g) l.g l.d ≡ groups_from l.b l.gr l.n 0 (begin l.b))
