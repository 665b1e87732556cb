use Rattle.std.proofs.Common.{◌≡◌, ◌≤◌, length, drop}
use Rattle.text.specs.Items.{items_at}
use Rattle.text.proofs.Filling.{left}
use Rattle.text.proofs.items.items.Given as goal

abbrev pub invariant-loop-i : goal.invariant-loop-i
invariant-loop-i g l = record {
  in_range : l.i ≤ l.n;
  as_many : length l.places ≡ length l.fn.places;
  read : left g.T.Item.reads l.s l.n l.places l.i l.next ≡ items_at g.T.Item.reads l.n l.s l.fn.at;
  kept : drop l.n l.places ≡ drop l.n l.fn.places;
}
