use Rattle.device.proofs.ClearTagsLemmas.{clear_tags_still}
use Rattle.device_model.specs.Progress.{Close}
use Rattle.std.proofs.Common.{refl, subst}
use Rattle.device_parts.specs.declared.condition.Condition.{Condition}
use Rattle.device.specs.Device.{IsDevice}
use Rattle.device.proofs.JudgedLemmas.{not_both}
use Rattle.device.proofs.RequestLemmas.{broken_close}
use Rattle.device.proofs.closing.close.Goals as goal

pub returns-in-Broken-clause-closed : goal.returns-in-Broken-clause-closed
returns-in-Broken-clause-closed g c w is =
    let parts = c.args.parts in
    let a = g.D.Disk.moments c.args.disk.now in
    broken_close w parts a (subst (λ (x : Condition). IsDevice w x parts a) c.in-Broken.is is)

pub returns-in-Broken-clause-writes : goal.returns-in-Broken-clause-writes
returns-in-Broken-clause-writes g c works = not_both c.args.condition works c.in-Broken.is

pub returns-in-Ok-clause-closed : goal.returns-in-Ok-clause-closed
returns-in-Ok-clause-closed g c w is =
    let parts = c.args.parts in
    let a = g.D.Disk.moments c.args.disk.now in
    c.in-Ok.ensures.ends.done w (subst (λ (x : Condition). IsDevice w x parts a) c.in-Working.is is)

pub returns-in-Ok-clause-rests : goal.returns-in-Ok-clause-rests
returns-in-Ok-clause-rests g c w is =
    let parts = c.args.parts in
    let a = g.D.Disk.moments c.args.disk.now in
    c.in-Ok.ensures.rests w (subst (λ (x : Condition). IsDevice w x parts a) c.in-Working.is is)

pub returns-in-Err-clause-closed : goal.returns-in-Err-clause-closed
returns-in-Err-clause-closed g c w is =
    let parts = c.args.parts in
    let a = g.D.Disk.moments c.args.disk.now in
    c.in-Err.ensures.ends.err w (subst (λ (x : Condition). IsDevice w x parts a) c.in-Working.is is)

pub returns-in-Broken-clause-tags : goal.returns-in-Broken-clause-tags
returns-in-Broken-clause-tags g c = clear_tags_still c.args.parts.mode c.args.parts.common Close refl
