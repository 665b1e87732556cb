-- Assumes nothing.
use borrow.Author.Rules.{rules}
use Rattle.groups.proofs.Alone.{alone-made}
use Rattle.groups.proofs.Forest.{alone-falls}
use Rattle.groups.proofs.parents.Parents.alone.Goals as goal

pub invariant_of-result : goal.invariant_of-result
invariant_of-result c = record { falls = rw (alone-made _ (λ f i y q h. search rules) _ _ c.from_fn.ensures.items) alone-falls }

pub returns : goal.returns
returns c = alone-made _ (λ f i y q h. search rules) _ _ c.from_fn.ensures.items
