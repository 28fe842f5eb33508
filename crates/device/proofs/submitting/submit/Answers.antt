use Rattle.std.proofs.Common.{suc, Option, sym, ◌∙◌, ap}
use Rattle.request_slots.specs.Flight.{Flight}
use Rattle.request_slots.specs.Submitting.{after_submit, answer_by}
use Rattle.request_slots.specs.declared.submit_fault.SubmitFault.{SubmitFault}
use Rattle.device_parts.specs.declared.parts.Parts.{Parts}
use Rattle.device.specs.declared.mode.DeviceParts.{DeviceParts}
use Rattle.device.specs.Device.{with_slots}
use Rattle.device.proofs.RequestLemmas.{refusal_other, submitted_as}
use Rattle.device.proofs.submitting.submit.Goals as goal

pub returns-in_default : goal.returns-in_default
returns-in_default c =
    let parts = c.args.parts.now in
    let flight : Flight = parts.common.slots in
    let request = c.args.request in
    let same = sym (refusal_other parts.mode c.in_default.not-Recovery c.args.condition flight request) in
    let later =
    ap (λ (p : Parts). let d : DeviceParts = record parts { common = p } in d) c.submit-in_default.ensures.submitted
    ∙ ap (λ (fault : Option SubmitFault). with_slots parts (after_submit fault request flight)) same in
    record {
      answer = c.submit-in_default.ensures.answer
          ∙ ap (λ (fault : Option SubmitFault). answer_by fault (suc flight.submitted) request) same;
      submitted = later;
      done = λ moments w is. submitted_as w parts _ c.args.condition request moments later is;
    }
