-- Two loops side by side: what every turn keeps of the two states, the loops keep. Assumes nothing.
--     up_to-both     of a loop that counts
--     try_to-both    of one whose turns may stop it: both are stopped, or neither
--     while_to-both  of one that is left where a test fails, which is the same test in both: it holds at the turn they are left at
--     up_to-same, down_to-same   two loops whose turns do the same do the same
--     down_to-foldr  a loop over a list from its end
--     after_both    what holds of two that are stopped, and of what follows two that went on, holds of what comes after
use Prim.Native.Nat.{ℕ, zero, suc, ◌+◌, ◌-◌, ◌≤◌, ◌<◌}
use mathlib.Core.Bool.{Bool, true, false}
use mathlib.Core.List.{List, [], ◌∷◌, foldr}
use mathlib.Core.Path.{◌≡◌, refl, ap, subst, ◌∙◌}
use native.Mathlib.Nat.{le_refl}
use native.Mathlib.Omega.{arith}
use lib.ListN.{length, get_or}
use Rattle.loops.specs.Turns.{Try, go, stop, after, InStep, turns, up_to, down_to, tries, try_to, whiles, while_to}

module _ {S T : Type 0} (R : S → T → Type 0) (f : ℕ → S → S) (g : ℕ → T → T) (lo hi : ℕ) (step : (i : ℕ) (s : S) (t : T) → lo ≤ i → i < hi → R s t → R (f i s) (g i t)) where
  turns-both : (k i : ℕ) (s : S) (t : T) → lo ≤ i → k ≤ hi - i → R s t → R (turns k i f s) (turns k i g t)
  unfolding turns
  turns-both zero i s t h e r = r
  turns-both (suc k) i s t h e r = turns-both k (i + 1) (f i s) (g i t) (omega arith) (omega arith) (step i s t h (omega arith) r)

  pub up_to-both : (s : S) (t : T) → R s t → R (up_to hi lo f s) (up_to hi lo g t)
  unfolding up_to
  up_to-both s t r = turns-both (hi - lo) lo s t (le_refl lo) (le_refl (hi - lo)) r

pub up_to-same : {S : Type 0} (f g : ℕ → S → S) (lo hi : ℕ) → ((i : ℕ) (s : S) → lo ≤ i → i < hi → f i s ≡ g i s) → (s : S) → up_to hi lo f s ≡ up_to hi lo g s
up_to-same f g lo hi turn s = up_to-both (λ s t. s ≡ t) f g lo hi (λ i s t h k e. turn i s h k ∙ ap (g i) e) s s refl

module _ {A B S T : Type 0} (R : S → T → Type 0) (P : Try A → Try B → Type 0) (stopped : P stop stop) (k : S → Try A) (l : T → Try B)
    (on : (s : S) (t : T) → R s t → P (k s) (l t)) where
  pub after_both : (x : Try S) (y : Try T) → InStep R x y → P (after x k) (after y l)
  after_both (go s) (go t) r = on s t r
  after_both (go s) stop r = absurd r
  after_both stop (go t) r = absurd r
  after_both stop stop r = stopped

module _ {S T : Type 0} (R : ℕ → S → T → Type 0) (f : ℕ → S → Try S) (g : ℕ → T → Try T) (hi : ℕ)
    (step : (i : ℕ) (s : S) (t : T) → i < hi → R i s t → InStep (R (i + 1)) (f i s) (g i t)) where
  tries-both : (k i : ℕ) (s : S) (t : T) → i + k ≡ hi → R i s t → InStep (R hi) (tries k i f s) (tries k i g t)
  unfolding tries
  tries-both zero i s t e r = let h : i ≡ hi = omega arith in subst (λ n. R n s t) h r
  tries-both (suc k) i s t e r =
      after_both (R (i + 1)) (InStep (R hi)) tt (tries k (i + 1) f) (tries k (i + 1) g) (λ s t r. tries-both k (i + 1) s t (omega arith) r) (f i s) (g i t) (step i s t (omega arith) r)

  pub try_to-both : (lo : ℕ) (s : S) (t : T) → lo ≤ hi → R lo s t → InStep (R hi) (try_to hi lo f s) (try_to hi lo g t)
  unfolding try_to
  try_to-both lo s t h r = tries-both (hi - lo) lo s t (omega arith) r

module _ {S T : Type 0} (R : ℕ → S → T → Type 0) (p : ℕ → S → Bool) (q : ℕ → T → Bool) (f : ℕ → S → S) (g : ℕ → T → T) (hi : ℕ)
    (same : (i : ℕ) (s : S) (t : T) → i < hi → R i s t → p i s ≡ q i t)
    (step : (i : ℕ) (s : S) (t : T) → i < hi → R i s t → q i t ≡ true → R (i + 1) (f i s) (g i t)) where
  picked : (k i : ℕ) (s : S) (t : T) (b : Bool) → p i s ≡ b → q i t ≡ b → R i s t → (b ≡ true → (j : ℕ) × R j (whiles k (i + 1) p f (f i s)) (whiles k (i + 1) q g (g i t)))
      → (j : ℕ) × R j (whiles (suc k) i p f s) (whiles (suc k) i q g t)
  unfolding whiles
  picked k i s t true u v r on = rw (u, v) (on refl)
  picked k i s t false u v r on = rw (u, v) (i, r)

  whiles-both : (k i : ℕ) (s : S) (t : T) → i + k ≡ hi → R i s t → (j : ℕ) × R j (whiles k i p f s) (whiles k i q g t)
  unfolding whiles
  whiles-both zero i s t e r = (i, r)
  whiles-both (suc k) i s t e r =
      picked k i s t (q i t) (same i s t (omega arith) r) refl r (λ v. whiles-both k (i + 1) (f i s) (g i t) (omega arith) (step i s t (omega arith) r v))

  pub while_to-both : (s : S) (t : T) → R 0 s t → (j : ℕ) × R j (while_to hi 0 p f s) (while_to hi 0 q g t)
  unfolding while_to
  while_to-both s t r = whiles-both (hi - 0) 0 s t (omega arith) r

pub down_to-same : {S : Type 0} (f g : ℕ → S → S) (n : ℕ) → ((i : ℕ) (s : S) → i < n → f i s ≡ g i s) → (s : S) → down_to n f s ≡ down_to n g s
unfolding down_to
down_to-same f g zero turn s = refl
down_to-same f g (suc n) turn s = rw (turn n s (omega arith)) (down_to-same f g n (λ i s h. turn i s (omega arith)) (g n s))

down_to-first : {S : Type 0} (f : ℕ → S → S) (n : ℕ) (s : S) → down_to (suc n) f s ≡ f 0 (down_to n (λ i. f (suc i)) s)
unfolding down_to
down_to-first f zero s = refl
down_to-first f (suc n) s = down_to-first f n (f (suc n) s)

pub down_to-foldr : {A S : Type 0} (g : A → S → S) (d : A) (l : List A) (s : S) → down_to (length l) (λ i. g (get_or l i d)) s ≡ foldr g s l
unfolding down_to
down_to-foldr g d [] s = refl
down_to-foldr g d (x ∷ l) s = down_to-first (λ i. g (get_or (x ∷ l) i d)) (length l) s ∙ ap (g x) (down_to-foldr g d l s)
