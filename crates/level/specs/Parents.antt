-- equations.rs, `level`: its `parent`, its `find`, and the joining of two runs. The parents of `groups` are the same, a number past
-- them its own root; only who stays a root differs.
use Rattle.std.specs.Prelude.{ℕ, Bool, true, false, not, cond, List, ltb, eqb, get_or, set}
pub use Rattle.groups.specs.Parents.{up, Gives, Leaves, alone}
unfoldable pub use Rattle.groups.specs.Parents.{self_at}
use Rattle.loops.specs.Turns.{while_to}

-- p[x] != x
abbrev pub below : ℕ → Gives ℕ → Bool
below i s = not (eqb (up s.parents s.answer) s.answer)

-- p[x] = p[p[x]]
abbrev pub skipped : List ℕ → ℕ → List ℕ
skipped ps x = set ps x (up ps (up ps x))

-- p[x] = p[p[x]]; x = p[x];
unfoldable pub halved : Gives ℕ → Gives ℕ
halved s = let ps = skipped s.parents s.answer in record { parents = ps; answer = up ps s.answer }

-- `find`: 80 turns are enough on whatever parents the sweeps come by (`walk_ends`, proofs/Roots.antt), since each goes to a point
-- that would win over the one before
unfoldable pub find_of : List ℕ → ℕ → Gives ℕ
find_of ps x = while_to 80 0 below (λ i. halved) (record { parents = ps; answer = x })

-- (f, n) > (g, m), as the Rust orders pairs
abbrev pub greater : Bool → ℕ → Bool → ℕ → Bool
greater true n true m = ltb m n
greater true n false m = true
greater false n true m = false
greater false n false m = ltb m n

-- let a_wins = (self.fixed[ra], rb) > (self.fixed[rb], ra); a number past the points is not fixed
unfoldable pub a_wins : List Bool → ℕ → ℕ → Bool
a_wins fixed ra rb = greater (get_or fixed ra false) rb (get_or fixed rb false) ra

-- the two finds, and then the child under the root
unfoldable pub join_to : List Bool → ℕ → ℕ → List ℕ → List ℕ
join_to fixed a b ps =
    let ra = find_of ps a in
    let rb = find_of ra.parents b in
    cond (a_wins fixed ra.answer rb.answer)
    (set rb.parents rb.answer ra.answer)
    (set rb.parents ra.answer rb.answer)
