use Rattle.std.proofs.Common.{◌<◌, refl, sym, ◌∙◌, subst}
use Rattle.device_parts.specs.Answers.{turns_left}
use Rattle.device_parts.specs.Device.{KeepsFlight}
use Rattle.device_parts.specs.declared.parts.Parts.{Parts}
use Rattle.device_parts.proofs.LeftLemmas.{fewer_read}
use Rattle.device_parts.proofs.ReadyLemmas.{keeps_read}
use Rattle.device_parts.proofs.parts.Parts.serve_read.Goals as goal

pub served-requires : goal.served-requires
served-requires c =
    let parts = c.args.self.now in
    let kept = subst (λ (p : Parts). KeepsFlight parts.slots p.slots) (sym c.put_read.ensures)
    (keeps_read c.args.ticket.now c.args.block c.args.stored parts) in
    kept.same c.args.ticket.now ∙ c.requires.there

pub returns-clause-fewer : goal.returns-clause-fewer
returns-clause-fewer c =
    let parts = c.args.self.now in
    let ticket = c.args.ticket.now in
    subst (λ (p : Parts). turns_left ticket p.slots < turns_left ticket parts.slots) (sym c.put_read.ensures)
    (fewer_read ticket parts.slots c.requires.there c.args.block c.args.stored parts c.requires.fits c.requires.turn refl)
