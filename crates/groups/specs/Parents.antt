-- equations.rs, `groups`: its `parent`, its `root`, and the joining of each equation's points. The lists here are the numbers
-- of the points that an equation touches, `t k` those of equation k.
use Rattle.std.specs.Prelude.{ℕ, zero, suc, ◌≤◌, max, min, cond, List, ◌≡◌, eqb, get_or, set, drop, replicate}
use Rattle.loops.specs.Turns.{up_to, fold}

-- the parent of x; past the list x is its own
abbrev pub up : List ℕ → ℕ → ℕ
up ps x = get_or ps x x

-- no parent is above its child, so a walk up ends
abbrev pub Falls : List ℕ → Type 0
Falls ps = (x : ℕ) → up ps x ≤ x

-- what a call on the parents leaves in them, and what it answers
pub record Gives (A : Type 0) : Type 0 where
  pub parents : List ℕ
  pub answer : A

-- it leaves the parents ps and answers a
abbrev pub Leaves : {A : Type 0} → Gives A → List ℕ → A → Type 0
Leaves g ps a = (a ≡ g.answer) × (ps ≡ g.parents)

-- p[x] = p[p[x]]
abbrev pub halved : List ℕ → ℕ → List ℕ
halved ps x = set ps x (up ps (up ps x))

-- `root`, at most so many turns
unfoldable pub climb : ℕ → List ℕ → ℕ → Gives ℕ
climb zero ps x = record { parents = ps; answer = x }
climb (suc k) ps x =
    let r = climb k (halved ps x) (up (halved ps x) x) in
    cond (eqb (up ps x) x) (record { parents = ps; answer = x }) r

-- `root`: x turns are enough, since each goes to a lower point
unfoldable pub root_of : List ℕ → ℕ → Gives ℕ
root_of ps x = climb x ps x

-- one point joins the first: the larger root under the smaller
unfoldable pub join_to : ℕ → List ℕ → ℕ → List ℕ
join_to p ps q =
    let a = root_of ps p in
    let b = root_of a.parents q in
    set b.parents (max a.answer b.answer) (min a.answer b.answer)

-- the points of one equation
unfoldable pub join_all : List ℕ → List ℕ → List ℕ
join_all pts ps = fold (join_to (get_or pts 0 0)) ps (drop 1 pts)

-- every point its own parent
unfoldable pub self_at : ℕ → List ℕ → List ℕ
self_at i ps = set ps i i

abbrev pub alone : List ℕ
alone = up_to 40 0 self_at (replicate 40 0)

-- the points of every equation
unfoldable pub joined : (ℕ → List ℕ) → ℕ → List ℕ → List ℕ
joined t n ps = up_to n 0 (λ k. join_all (t k)) ps
