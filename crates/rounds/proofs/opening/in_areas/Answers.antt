use Prim.Native.Nat.{◌*◌, ◌+◌, ◌/◌}
use mathlib.Core.Path.{◌≡◌, sym, ap, ◌∙◌}
use native.Mathlib.Omega.{arith}
use lib.ListN.{length, drop}
use lib.Seq.{take_at}
use Rattle.normal.specs.Half.{triangle}
use Rattle.rounds.specs.Inside.{rows_in, values_in}
use Rattle.rounds.proofs.Begins.{table, half_table, lent, cleared}
use Rattle.rounds.proofs.Column.{values-long}
use Rattle.rounds.proofs.opening.in_areas.Goals as goal

pub opened-ended-requires : goal.opened-ended-requires
unfolding triangle
opened-ended-requires c =
    let p = c.args.p.now in
    let rows = c.values-rows.result in
    let few = c.values-rows.ensures.few in
    let e : rows ≡ rows_in p = c.values-rows.ensures.count in
    let rectangle = table rows (length p.free.now) few p.narrow in
    let square = table rows rows few few in
    let half = half_table rows few in (
      record {
        counted = lent rows (rows_in p) c.values-rows.new.r e (omega (arith, c.values-rows.auto.r));
        few = rw (← e) few;
        jacobian-long = lent (rows * length p.free.now) _ c.args.a.now (ap (λ n. n * length p.free.now) e) (omega (arith, rectangle));
      },
      record {
        half-long = lent (rows * (rows + 1) / 2) _ c.args.b.now (ap (λ n. n * (n + 1) / 2) e) (omega (arith, half));
        work-long = lent (rows * rows) _ c.args.c.now (ap (λ n. n * n) e) (omega (arith, square));
      },
      c.requires.0,
      rw c.values-rows.ensures.values (take_at (values_in p c.args.x.now) (drop (rows_in p) _) rows (values-long p.equations.now p.lines.now p.places.now p.chosen.now c.args.x.now ∙ sym e)),
    )

pub returns : goal.returns
unfolding triangle
returns c =
    let p = c.args.p.now in
    let rows = c.values-rows.result in
    let few = c.values-rows.ensures.few in
    let e : rows ≡ rows_in p = c.values-rows.ensures.count in
    let rectangle = table rows (length p.free.now) few p.narrow in
    let square = table rows rows few few in
    let half = half_table rows few in
    record {
      outcome = c.opened-ended.ensures;
      jacobian = cleared (rows * length p.free.now) _ c.args.a.now c.opened-ended.new.j _ (ap (λ n. n * length p.free.now) e) (omega (arith, rectangle)) c.opened-ended.auto.j (c.fill.ensures.after (λ y h. h));
      product = cleared (rows * (rows + 1) / 2) _ c.args.b.now c.opened-ended.new.h _ (ap (λ n. n * (n + 1) / 2) e) (omega (arith, half)) c.opened-ended.auto.h (c.fill-2.ensures.after (λ y h. h));
      copy = cleared (rows * rows) _ c.args.c.now c.opened-ended.new.w _ (ap (λ n. n * n) e) (omega (arith, square)) c.opened-ended.auto.w (c.fill-3.ensures.after (λ y h. h));
    }
