use Rattle.std.proofs.Common.{rules, subst}
use Rattle.std.proofs.lemmas.Result.{on_ok_weaker}
use Rattle.disk_model.proofs.MomentsLemmas.{adds_then}
use Rattle.image_model.specs.Geometry.{Geometry}
use Rattle.tag_store.specs.Store.{given_tags}
use Rattle.recalculation.specs.Position.{HasMoved}
use Rattle.recalculation.specs.Recalculation.{IsOfTagsOrHead, Moving, Settling, to_write}
use Rattle.recalculation.proofs.StepLemmas.{head_added, marked_added}
use Rattle.recalculation.proofs.recalculating.Recalculation.settle.Goals as goal

pub returns-in_err-flush-clause-through : goal.returns-in_err-flush-clause-through
returns-in_err-flush-clause-through g c = Settling c.flush.ensures.settling

pub returns-in_err-flush-clause-writes : goal.returns-in_err-flush-clause-writes
returns-in_err-flush-clause-writes g c = marked_added c.args.tags.now c.flush.ensures.moments

pub returns-clause-settled : goal.returns-clause-settled
returns-clause-settled g c = on_ok_weaker c.advance.result (λ moved. record {
  between = g.D.Disk.moments c.flush.new.disk;
  settles = c.in_ok-flush.ensures.settled;
  moves = subst (λ (x : Geometry). HasMoved (to_write c.args.self.now) x (given_tags c.flush.new.tags) c.args.self.now.position c.advance.new.self (g.D.Disk.moments c.flush.new.disk) (g.D.Disk.moments c.advance.new.disk))
      c.flush.ensures.geometry moved;
  awaiting = search rules;
}) c.advance.ensures.moved

pub returns-clause-through : goal.returns-clause-through
returns-clause-through g c = Moving (given_tags c.flush.new.tags) (g.D.Disk.moments c.flush.new.disk) c.in_ok-flush.ensures.settled c.advance.ensures.through

pub returns-clause-writes : goal.returns-clause-writes
returns-clause-writes g c =
    adds_then (IsOfTagsOrHead c.args.tags.now.geometry) (marked_added c.args.tags.now c.flush.ensures.moments) (head_added c.args.tags.now.geometry c.advance.ensures.writes)
