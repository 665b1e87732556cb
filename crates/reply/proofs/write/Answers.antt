-- Where there may be no room, the first pass counts and the second writes. Assumes nothing.
use native.Mathlib.Omega.{arith}
use Rattle.reply.proofs.Short.{short}
use Rattle.reply.proofs.Written.{no-room}
use Rattle.reply.proofs.write.Goals as goal

pub returns-then-reply-ge8192 : goal.returns-then-reply-ge8192
returns-then-reply-ge8192 c =
    let a = c.args in
    record { needed = c.lay.ensures.length; written = c.lay.ensures.room (omega (arith, short a.a.now a.out.now a.points a.measures)) }

pub returns-then-n-reply : goal.returns-then-n-reply
returns-then-n-reply c = record { needed = c.lay-n.ensures.length; written = c.lay-then-n-reply.ensures.room (omega arith) }

pub returns-else-n-reply : goal.returns-else-n-reply
returns-else-n-reply c = record { needed = c.lay-n.ensures.length; written = no-room _ _ _ c.lay-n.ensures.length c.if-n-reply.false }
