-- Being one point, or the two ends of a chain, is an equivalence. Assumes nothing.
use Prim.Native.Nat.{ℕ}
use mathlib.Core.List.{List, [], ◌∷◌, ◌++◌}
use mathlib.Core.Logic.{◌⊎◌, inl, inr}
use mathlib.Core.Path.{◌≡◌, sym, ◌∙◌}
use Rattle.groups.specs.Chains.{Chain, last, next, Chained}

abbrev pub Linked : (ℕ → List ℕ) → ℕ → ℕ → Type 0
Linked t p q = (p ≡ q) ⊎ Chained t p q

module _ {t : ℕ → List ℕ} where
  chain-on : {ks ls : List ℕ} {p r q : ℕ} → Chain t ks p r → Chain t ls r q → Chain t (ks ++ ls) p q
  chain-on (last a b) c = next a b c
  chain-on (next a b d) c = next a b (chain-on d c)

  pub chain_back : {ks : List ℕ} {p q : ℕ} → Chain t ks p q → Chained t q p
  chain_back (last {k} a b) = (k ∷ [], last b a)
  chain_back (next {k} a b c) = let r = chain_back c in (r.0 ++ k ∷ [], chain-on r.1 (last b a))

  -- an end may be written by another name
  chain-from : {ks : List ℕ} {p r q : ℕ} → p ≡ r → Chain t ks r q → Chain t ks p q
  chain-from e c = rw e c

  chain-to : {ks : List ℕ} {p r q : ℕ} → Chain t ks p r → r ≡ q → Chain t ks p q
  chain-to c e = rw e at c

  pub linked-back : {p q : ℕ} → Linked t p q → Linked t q p
  linked-back (inl e) = inl (sym e)
  linked-back (inr c) = inr (chain_back c.1)

  pub linked_on : {p r q : ℕ} → Linked t p r → Linked t r q → Linked t p q
  linked_on (inl e) (inl h) = inl (e ∙ h)
  linked_on (inl e) (inr d) = inr (d.0, chain-from e d.1)
  linked_on (inr c) (inl h) = inr (c.0, chain-to c.1 h)
  linked_on (inr c) (inr d) = inr (c.0 ++ d.0, chain-on c.1 d.1)
