-- Assumes nothing.
use borrow.Author.Rules.{rules}
use lib.Ieee.{of_bits}
use Rattle.members.proofs.Backs.{put_back}
use Rattle.members.proofs.scale.unscale_to.Goals as goal

pub returns-in-Some : goal.returns-in-Some
unfolding of_bits
returns-in-Some c =
    let a = c.args in
    put_back a.points.now a.centre a.size a.x.now c.in-Some.q.now a.p a.k a.out.now _ _ _ _ _ _ _ c.in-Some.ensures.lookup.0
    (search rules) c.put-in-Some.ensures c.handed_out-in-Some.ensures c.put.ensures c.handed_out.ensures c.back-r.ensures
    c.get_or-in-Some.ensures c.get_or.ensures
