-- Why a promise that is an equation leaves no second answer: what equals the definition equals whatever else does.
-- It holds of answers and of lent lists alike, so one lemma serves every call (docs/PROMISES.md).
use Rattle.std.specs.Prelude.{◌≡◌}
use Rattle.std.proofs.Common.{sym, ◌∙◌}

pub only-answer : {A : Type 0} {a b defined : A} → a ≡ defined → b ≡ defined → a ≡ b
only-answer p q = p ∙ sym q
