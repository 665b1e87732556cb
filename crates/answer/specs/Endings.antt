-- What a job answers after each ending (document 01, "The numbers a job ends in" and "The text"; document 02, K6): numbers 1 to 6
-- and 9 only themselves, 7 the lowest failing group with its reason, and its suspects, 0 the groups, the total freedom and worst.
use Rattle.std.specs.Prelude.{Bool, false, List, ◌∷◌, ℕ, Float, replicate, take}
use Rattle.floats.specs.Ops.{zero⁺}
use Rattle.sketch.specs.declared.Ending.{Ending}
use Rattle.answer.specs.declared.Answer.{Answer}
use Rattle.answer.specs.declared.GroupFit.{GroupFit}

-- what stands past the groups that count
abbrev pub blank_group : GroupFit
blank_group = record { lowest = 0; freedom = 0; iterations = 0; tries = 0; code = 0; column = 0 }

abbrev pub refused_of : Ending → Answer
refused_of e = record {
  ending = e;
  group_count = 0;
  freedom = 0;
  worst = zero⁺;
  groups = replicate 40 blank_group;
  suspects = replicate 40 false;
}

abbrev pub failed_of : GroupFit → List Bool → Answer
failed_of g suspects = record {
  ending = Ending.NotConverged;
  group_count = 1;
  freedom = 0;
  worst = zero⁺;
  groups = g ∷ replicate 39 blank_group;
  suspects = suspects;
}

abbrev pub fitted_of : ℕ → List GroupFit → ℕ → Float → Answer
fitted_of count groups freedom worst = record {
  ending = Ending.Fitted;
  group_count = count;
  freedom = freedom;
  worst = worst;
  groups = groups;
  suspects = replicate 40 false;
}

-- the groups that count
abbrev pub groups_of : Answer → List GroupFit
groups_of a = take a.group_count a.groups
