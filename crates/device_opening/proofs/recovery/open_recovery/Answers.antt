use Rattle.std.proofs.Common.{None, ◌∙◌, ap}
use Rattle.std.proofs.lemmas.Result.{err_from_is_err_and}
use Rattle.image_model.specs.Geometry.{Shape}
use Rattle.hmac_tag.specs.TagMaker.{key_of}
use Rattle.judging_model.specs.Faults.{fault_by, format_fault_of}
use Rattle.buffer_cache.specs.declared.held.HeldSectors.{HeldSectors}
use Rattle.tag_store.specs.Store.{Store}
use Rattle.device_parts.specs.declared.parts.Parts.{Parts}
use Rattle.device_opening.specs.declared.room.TheConstants.{HELD_SECTORS}
use Rattle.device_opening.proofs.RecoveryLemmas.{opened}
use Rattle.device_opening.proofs.RefusedLemmas.{head_refuses, memory_refuses, open_refuses}
use Rattle.device_opening.proofs.recovery.open_recovery.Goals as goal

pub returns-clause-opened : goal.returns-clause-opened
returns-clause-opened g c =
    let disk = g.D.Disk.identity c.args.disk.now in
    let key = key_of c.args.hash in
    let format = c.in_ok-format.format in
    let room = c.in_ok-room.room in
    opened disk key format HELD_SECTORS _ c.requires.bound c.in_ok-format.ensures.format (record {
      tags = c.new-2.ensures
          ∙ ap (λ (held : HeldSectors). let s : Store = record { geometry = format.geometry; sectors = held } in s) c.in_ok-room.ensures.cache;
      maker = c.maker_of-maker.ensures;
      slots = c.in_ok-room.ensures.slots;
      spb = ap (λ (x : Shape). x.spb) c.shape.ensures.shape;
      buffer = c.in_ok-room.ensures.buffer;
    }) (g.D.Disk.moments c.args.disk.now) (g.D.Disk.moments c.read_format.new.disk) c.read_format.ensures.kept
    (c.in_ok-format.ensures.reads key)

pub returns-clause-refused : goal.returns-clause-refused
returns-clause-refused g c =
    let sectors = (g.D.Disk.identity c.args.disk.now).sectors in
    open_refuses (format_fault_of sectors) (g.D.Disk.moments c.args.disk.now) (g.D.Disk.moments c.read_format.new.disk) Parts _
    (λ content told. ap (fault_by (λ format. None)) (c.in_ok-format.ensures.told content told))

pub returns-in_err-room-clause-refused : goal.returns-in_err-room-clause-refused
returns-in_err-room-clause-refused g c =
    let p = err_from_is_err_and c.from_residual-in_err-room.result c.from_residual-in_err-room.ensures.1 in
    let sectors = (g.D.Disk.identity c.args.disk.now).sectors in
    rw (p.1, p.2) (memory_refuses (format_fault_of sectors) (g.D.Disk.moments c.args.disk.now) (g.D.Disk.moments c.read_format.new.disk) Parts
    c.read_format.ensures.kept)

pub returns-in_err-format-clause-refused : goal.returns-in_err-format-clause-refused
returns-in_err-format-clause-refused g c =
    let p = err_from_is_err_and c.from_residual.result c.from_residual.ensures.1 in
    let sectors = (g.D.Disk.identity c.args.disk.now).sectors in
    rw (p.1, p.2) (head_refuses (format_fault_of sectors) (g.D.Disk.moments c.args.disk.now) (g.D.Disk.moments c.read_format.new.disk) Parts sectors
    c.in_err-format.field-0.0 (λ image cause told. ap (fault_by (λ format. None)) told) c.in_err-format.ensures.refused c.read_format.ensures.kept)
