-- Loops as definitions: a recursion on the turns that are left. A step takes the index first and the state last.
--     up_to hi lo f s        for i in lo..hi { s = f(i, s) }
--     down_to n f s          for i in (0..n).rev() { s = f(i, s) }
--     try_to hi lo f s       the same as up_to, where a turn may stop the whole
--     while_to hi lo p f s   the same as up_to, left with the state as it is where a turn's test p(i, s) fails
--     fold f s l            for x in l { s = f(s, x) }, and the iterator's own `fold`
--     every p l             whether p holds of each element, as the iterator's `all`
-- The last two are std's words, so that a chain of iterators is proved with no file. The laws of all are proofs/Turning.antt's.
use Rattle.std.specs.Prelude.{ℕ, zero, suc, ◌+◌, ◌-◌, Bool, true, false, cond, List}
use Rattle.std.specs.List.{list_all}
pub use Rattle.std.specs.List.{fold}

-- what a turn that may stop the loop gives
pub data Try (S : Type 0) : Type 0 where
  go : S → Try S
  stop : Try S

-- what comes next goes on from what there is
abbrev pub after : {S T : Type 0} → Try S → (S → Try T) → Try T
after (go s) k = k s
after stop k = stop

-- two that went on, with R between what they came to, or two that stopped
abbrev pub InStep : {S T : Type 0} → (S → T → Type 0) → Try S → Try T → Type 0
InStep R (go s) (go t) = R s t
InStep R (go s) stop = ⊥
InStep R stop (go t) = ⊥
InStep R stop stop = Unit {0}

-- what a function that answers a bool and leaves its state in lent places has come to
abbrev pub tried : {S : Type 0} → Bool → S → Try S
tried true s = go s
tried false s = stop

module _ {S : Type 0} where
  unfoldable pub turns : ℕ → ℕ → (ℕ → S → S) → S → S
  turns zero i f s = s
  turns (suc k) i f s = turns k (i + 1) f (f i s)

  unfoldable pub up_to : ℕ → ℕ → (ℕ → S → S) → S → S
  up_to hi lo f s = turns (hi - lo) lo f s

  unfoldable pub down_to : ℕ → (ℕ → S → S) → S → S
  down_to zero f s = s
  down_to (suc i) f s = down_to i f (f i s)

  unfoldable pub tries : ℕ → ℕ → (ℕ → S → Try S) → S → Try S
  tries zero i f s = go s
  tries (suc k) i f s = after (f i s) (tries k (i + 1) f)

  unfoldable pub try_to : ℕ → ℕ → (ℕ → S → Try S) → S → Try S
  try_to hi lo f s = tries (hi - lo) lo f s

  unfoldable pub whiles : ℕ → ℕ → (ℕ → S → Bool) → (ℕ → S → S) → S → S
  whiles zero i p f s = s
  whiles (suc k) i p f s = let r = whiles k (i + 1) p f (f i s) in cond (p i s) r s

  unfoldable pub while_to : ℕ → ℕ → (ℕ → S → Bool) → (ℕ → S → S) → S → S
  while_to hi lo p f s = whiles (hi - lo) lo p f s

abbrev pub every : {A : Type 0} → (A → Bool) → List A → Bool
every p l = list_all p l
