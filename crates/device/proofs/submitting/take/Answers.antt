use Rattle.std.proofs.Common.{ℕ, Result, sym, subst}
use Rattle.request_slots.specs.Flight.{slot_of}
use Rattle.request_slots.specs.Taking.{after_take}
use Rattle.request_slots.specs.declared.reply.Reply.{Reply}
use Rattle.device_parts.specs.Answers.{HasTaken}
use Rattle.device_parts.specs.declared.parts.Parts.{Parts}
use Rattle.device.specs.Device.{any_mode}
use Rattle.device.proofs.RequestLemmas.{is_taken, serial_each}
use Rattle.device.proofs.submitting.take.Goals as goal

pub returns-clause-done : goal.returns-clause-done
returns-clause-done c condition moments w is =
    let parts = c.args.parts.now in
    let ticket = c.args.ticket in
    let slots = parts.common.slots in
    let later : Parts = record parts.common { slots = after_take ticket (slot_of ticket slots) slots } in
    subst (λ (p : Parts). HasTaken any_mode w ticket c.take.result condition (record parts { common = p }) moments) (sym c.take.ensures.taken)
    (subst (λ (r : Result Reply ℕ). HasTaken any_mode w ticket r condition (record parts { common = later }) moments) (sym c.take.ensures.reply)
    (is_taken w condition parts moments is ticket c.requires.there).0)

pub returns-clause-serial : goal.returns-clause-serial
returns-clause-serial c condition moments =
    serial_each c.args.parts.now c.args.ticket c.requires.there c.take.result c.take.ensures.reply condition moments
