use Rattle.std.proofs.Common.{refl}
use Rattle.std.proofs.lemmas.Result.{on_ok_weaker}
use Rattle.tag_store.specs.Store.{given_tags}
use Rattle.image_model.specs.declared.flags.TheConstants.{RECALCULATING}
use Rattle.image_model.specs.Superblock.{has_flag}
use Rattle.direct_device.proofs.EndLemmas.{ends_direct, ends_fields}
use Rattle.direct_device.proofs.FieldsLemmas.{close_heads, close_writes}
use Rattle.direct_device.proofs.closing.close.Goals as goal

pub returns-clause-ends : goal.returns-clause-ends
returns-clause-ends g c =
    ends_direct c.args.parts.now c.args.recalculation.now c.settle.new.self (g.D.Disk.moments c.args.disk.now) (g.D.Disk.moments c.settle.new.disk) (given_tags c.settle.new.tags)
    c.settle.ensures.position c.settle.result c.settle.ensures.through c.settle.ensures.settled

pub returns-clause-fields : goal.returns-clause-fields
returns-clause-fields g c = on_ok_weaker c.settle.result (λ settled.
    ends_fields c.args.parts.now c.args.recalculation.now c.settle.new.self (g.D.Disk.moments c.args.disk.now) (g.D.Disk.moments c.settle.new.disk) (given_tags c.settle.new.tags)
    c.settle.ensures.position settled) c.settle.ensures.settled

pub returns-clause-heads : goal.returns-clause-heads
returns-clause-heads g c =
    close_heads c.args.parts.now c.args.recalculation.now (g.D.Disk.moments c.args.disk.now) c.settle.ensures.position (g.D.Disk.moments c.settle.new.disk) c.settle.ensures.through

pub returns-clause-writes : goal.returns-clause-writes
returns-clause-writes g c =
    close_writes c.args.parts.now.tags.geometry c.args.recalculation.now (given_tags c.args.parts.now.tags) (g.D.Disk.moments c.args.disk.now) (g.D.Disk.moments c.settle.new.disk)
    c.settle.ensures.through c.settle.ensures.writes (has_flag RECALCULATING c.args.recalculation.now.position.flags) refl
