use Rattle.std.proofs.Common.{sym, ◌∙◌, subst, Option}
use Rattle.image_model.specs.Superblock.{Superblock}
use Rattle.recalculation.specs.Position.{MovesIn}
use Rattle.recalculation.proofs.position.Position.advance.Goals as goal

pub returns-in_err-write_fields-clause-through : goal.returns-in_err-write_fields-clause-through
returns-in_err-write_fields-clause-through g c =
    subst (λ (o : Option Superblock). MovesIn o (g.D.Disk.moments c.args.disk.now) (g.D.Disk.moments c.write_fields.new.disk)) (sym c.in-Some.is ∙ c.moved.ensures.fields) c.write_fields.ensures.through

pub returns-clause-through : goal.returns-clause-through
returns-clause-through g c =
    subst (λ (o : Option Superblock). MovesIn o (g.D.Disk.moments c.args.disk.now) (g.D.Disk.moments c.write_fields.new.disk)) (sym c.in-Some.is ∙ c.moved.ensures.fields) c.write_fields.ensures.through
