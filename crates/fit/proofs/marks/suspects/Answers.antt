-- Assumes nothing.
use Rattle.std.proofs.Common.{refl, ◌∙◌, rules}
use Rattle.loops.proofs.Turning.{fold_next}
use Rattle.fit.specs.Fits.{mark, suspects_of}
use Rattle.fit.specs.Promise.{jacobian_left, product_left, copy_left}
use Rattle.fit.proofs.MarksLaws.{marked, jacobian-next, product-next, copy-next, still-long}
use Rattle.fit.proofs.marks.suspects.Goals as goal

pub loop-k-init : goal.loop-k-init
unfolding suspects_of
loop-k-init c = record { p = refl; q = refl; r = refl; marks = rw c.numbers-k-items.ensures.numbers; jacobian = refl; product = refl; copy = refl }

pub loop-k-preserved : goal.loop-k-preserved
loop-k-preserved c =
    let l = c.loop-k in
    let t = c.fit in
    let room = still-long c.args.p.now c.args.q.now c.args.r.now l.p l.q l.r l.invariant.p l.invariant.q l.invariant.r c.if-p-q.false in
    record {
      p = t.auto.p ∙ l.invariant.p;
      q = t.auto.q ∙ l.invariant.q;
      r = t.auto.r ∙ l.invariant.r;
      marks = fold_next 0 (mark c.args.b.now c.args.f.now) c.numbers-k-items.result.now l.k-index l.marks _ _ (search rules) (marked c.args.b.now c.args.f.now _ l.p l.q l.r _ _ _ c.without-rest.result t.result c.is_ok-fitted.result room c.without-rest.ensures t.ensures c.is_ok-fitted.ensures.value _ _ c.put.ensures) l.invariant.marks;
      jacobian = fold_next 0 (jacobian_left c.args.b.now c.args.f.now) c.numbers-k-items.result.now l.k-index l.p _ _ (search rules) (jacobian-next c.args.b.now c.args.f.now _ l.p l.q l.r _ _ _ c.without-rest.result t.result c.is_ok-fitted.result room c.without-rest.ensures t.ensures c.is_ok-fitted.ensures.value) l.invariant.jacobian;
      product = fold_next 0 (product_left c.args.b.now c.args.f.now) c.numbers-k-items.result.now l.k-index l.q _ _ (search rules) (product-next c.args.b.now c.args.f.now _ l.p l.q l.r _ _ _ c.without-rest.result t.result c.is_ok-fitted.result room c.without-rest.ensures t.ensures c.is_ok-fitted.ensures.value) l.invariant.product;
      copy = fold_next 0 (copy_left c.args.b.now c.args.f.now) c.numbers-k-items.result.now l.k-index l.r _ _ (search rules) (copy-next c.args.b.now c.args.f.now _ l.p l.q l.r _ _ _ c.without-rest.result t.result c.is_ok-fitted.result room c.without-rest.ensures t.ensures c.is_ok-fitted.ensures.value) l.invariant.copy;
    }
