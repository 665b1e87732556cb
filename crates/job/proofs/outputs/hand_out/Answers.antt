-- Assumes nothing.
use Rattle.std.proofs.Common.{◌*◌, ◌≤◌, length, refl, rules, sym, ◌∙◌}
use Rattle.loops.proofs.Parts.{front}
use Rattle.job.proofs.Handing.{handed-out}
use Rattle.job.proofs.outputs.hand_out.Goals as goal

pub returns : goal.returns
returns c =
    let a = c.args in
    let n = 2 * a.b.now.point_count in
    let fits : n ≤ length c.place_all.new.out = search rules in
    handed-out a.b.now a.fitted.now c.place_all.new.out c.level.new.points a.out.now c.copy_from_slice.new.self c.measures.new.out n refl c.requires.1 (search rules)
    c.requires.2 (c.level.auto.points ∙ sym (front n c.place_all.new.out fits)) c.place_all.ensures c.level.ensures c.copy_from_slice.ensures.after c.measures.ensures
