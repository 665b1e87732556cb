-- equations.rs, `Group`: the points and the constraints of a group, each a list of numbers that rises. Here a list stands at the
-- head of an array, with its length beside it.
use Rattle.std.specs.Prelude.{ℕ, ◌+◌, ◌-◌, ◌≤◌, cond, List, [], ◌∷◌, ◌++◌, ◌≡◌, eqb, length, take, set, replicate}
use Rattle.members.specs.declared.Listed.{Listed}

-- l at the head of n places, and 0 past it
abbrev pub headed : ℕ → List ℕ → List ℕ
headed n l = l ++ replicate (n - length l) 0

abbrev pub listed_in : (n : ℕ) → List ℕ → Listed n
listed_in n l = record { items = headed n l; count = length l }

abbrev pub listed_of : List ℕ → Listed 40
listed_of l = listed_in 40 l

-- the numbers that are listed: as many as the count says, and no more than there are places
abbrev pub numbers_of : {n : ℕ} → Listed n → List ℕ
numbers_of l = take l.count l.items

-- what a call that lists numbers promises: r lists ps, and there is room for them
pub record Lists {n : ℕ} (r : Listed n) (ps : List ℕ) : Type 0 where
  pub is : r ≡ listed_in n ps
  pub few : length ps ≤ n

-- no number yet, and one number more
abbrev pub none_in : (n : ℕ) → Listed n
none_in n = record { items = replicate n 0; count = 0 }

abbrev pub pushed_of : {n : ℕ} → ℕ → Listed n → Listed n
pushed_of v l = record { items = set l.items l.count v; count = l.count + 1 }

-- equations.rs, `conflicts`: `g.constraints.iter().copied().filter(|&c| c != k)`
unfoldable pub without_of : ℕ → List ℕ → List ℕ
without_of k [] = []
without_of k (c ∷ l) = cond (eqb c k) (without_of k l) (c ∷ without_of k l)
