-- `demands` (specs/Demands.antt): each line by the theorem that it cites. Assumes nothing.
use Rattle.fit.proofs.Lowest.{lowest-is}
use Rattle.fit.proofs.Theorem.{own-part-alone}
use Rattle.fit.specs.Table.{both-sides}
use Rattle.grammar.proofs.Theorem.{reads-form, one-reading}
use Rattle.groups.proofs.Theorem.{groups-are-chains}
use Rattle.job.proofs.Measured.{measures-as-handed-out, worst-as-handed-out}
use Rattle.job.proofs.Sentences.{areas-after, fitted-means-fitted, failure-named}
use Rattle.job.proofs.Theorem.{given-exactly, hands-out-nothing}
use Rattle.plate.proofs.Brought.{brought-back}
use Rattle.reply.proofs.Printed.{suspects-are}
use Rattle.root.proofs.Correct.{rounded, rounded-unique}
use Rattle.sketch.proofs.Looked.{looks-everywhere}
use Rattle.run.specs.Demands.{Demands}
use Rattle.run.proofs.Failures.{failures-printed}
use Rattle.run.proofs.Theorem.{texts-answered}

pub demands : Demands
demands = record {
  texts = texts-answered;
  builds = given-exactly;
  fields = looks-everywhere;
  output = hands-out-nothing;
  areas = areas-after;
  failing = failure-named;
  printed = failures-printed;
  suspects = suspects-are;
  fitted = fitted-means-fitted;
  measured = measures-as-handed-out;
  worst = worst-as-handed-out;
  brought-back = brought-back;
  root = rounded;
  root-once = rounded-unique;
  groups = groups-are-chains;
  lowest = lowest-is;
  own-part = own-part-alone;
  form = reads-form;
  one-reading = one-reading;
  both-sides = both-sides;
}
