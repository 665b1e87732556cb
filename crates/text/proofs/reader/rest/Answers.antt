-- Assumes nothing.
use Rattle.std.proofs.Common.{sym, ap, ◌∙◌}
use Rattle.sketch.specs.declared.Build.{Build}
use Rattle.text.proofs.Rest.{within, filled-by, rest-is}
use Rattle.text.proofs.reader.rest.Goals as goal

pub returns-then-at-s : goal.returns-then-at-s
returns-then-at-s c =
    let w = within c.args.n c.requires in
    let e = c.empty.ensures in
    rest-is c.args.s.now c.args.at c.args.n _ _ _ _ _ _ _ _ _ _ _ _ _ _ _
    (sym c.word.ensures ∙ c.in_ok-word.was) (sym c.vec.ensures ∙ c.in_ok-centre.was) (sym c.word-2.ensures ∙ c.in_ok-word-2.was)
    (sym c.float.ensures ∙ c.in_ok-size.was) (sym c.eat.ensures ∙ c.in_ok-at.was)
    (filled-by _ _ _ _ _ _ _ _ _ _ w.0 (ap (λ (b : Build). b.points) e) c.items.ensures.read c.items.ensures.kept c.items.auto.places c.in_ok-at-2.was)
    (filled-by _ _ _ _ _ _ _ _ _ _ w.1 (ap (λ (b : Build). b.lines) e) c.items-2.ensures.read c.items-2.ensures.kept c.items-2.auto.places c.in_ok-at-3.was)
    (filled-by _ _ _ _ _ _ _ _ _ _ w.2 (ap (λ (b : Build). b.equations) e) c.items-3.ensures.read c.items-3.ensures.kept c.items-3.auto.places c.in_ok-at-4.was)
    (filled-by _ _ _ _ _ _ _ _ _ _ w.3 (ap (λ (b : Build). b.measures) e) c.items-4.ensures.read c.items-4.ensures.kept c.items-4.auto.places c.in_ok-at-5.was)
    c.if-at-s.true
