use Rattle.std.proofs.Common.{◌≡◌, length, drop}
use Rattle.loops.specs.Turns.{fold}
use Rattle.fit.specs.Fits.{mark, suspects_of}
use Rattle.fit.specs.Promise.{jacobian_left, product_left, copy_left}
use Rattle.fit.proofs.marks.suspects.Given as goal

abbrev pub invariant-loop-k : goal.invariant-loop-k
invariant-loop-k l =
    record {
      p : length l.p ≡ length l.initial.p;
      q : length l.q ≡ length l.initial.q;
      r : length l.r ≡ length l.initial.r;
      marks : fold (mark l.b l.f) l.marks (drop l.k-index l.k-items) ≡ suspects_of l.b l.f;
      jacobian : fold (jacobian_left l.b l.f) l.p (drop l.k-index l.k-items) ≡ fold (jacobian_left l.b l.f) l.initial.p l.k-items;
      product : fold (product_left l.b l.f) l.q (drop l.k-index l.k-items) ≡ fold (product_left l.b l.f) l.initial.q l.k-items;
      copy : fold (copy_left l.b l.f) l.r (drop l.k-index l.k-items) ≡ fold (copy_left l.b l.f) l.initial.r l.k-items;
    }
