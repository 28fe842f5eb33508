use Rattle.std.proofs.Common.{◌≡◌, ℕ, suc, ◌^◌, ◌<◌, ◌≤◌, List, length, sym, subst, ap, ◌∙◌}
use Rattle.device_parts.specs.declared.condition.Condition.{Condition}
use Rattle.request_slots.specs.declared.slot.Slot.{Slot}
use Rattle.request_slots.specs.Taking.{reply_of}
use Rattle.device.specs.declared.mode.DeviceParts.{DeviceParts}
use Rattle.device.specs.Device.{IsReady, mode_of}
use Rattle.device.proofs.CallLemmas.{works_then}
use Rattle.mirror_core.specs.Answered.{IsReplyTo}
use Rattle.mirror_core.proofs.AnsweredLemmas.{answers_it, begun_alone, kept_blocks, none_left, not_back, same_mode, same_reply, served_slot, still_one, taken_is}
use Rattle.mirror_core.proofs.WholeLemmas.{all_left, all_run, begun_device, cut_left, served_device, ticket_is}
use Rattle.mirror_core.proofs.running.run_whole.Goals as goal

pub returns-in_err-finish-clause-left : goal.returns-in_err-finish-clause-left
returns-in_err-finish-clause-left g c w rests =
    let device = c.args.device.now in
    let moments = g.D.Disk.moments in
    let counted = ticket_is _ _ c.in-Ok.ticket c.args.request c.submit.result c.requires.taken c.submit.ensures.answer c.in-Ok.is in
    let same = ap moments c.submit.ensures.disk in
    let begun = begun_device w c.args.request device.condition device.parts c.submit.new.self.parts (moments device.disk.now) (moments c.submit.new.self.disk.now)
    c.requires.leg.works.is c.requires.taken rests c.submit.ensures.done same c.in-Ok.ticket counted in
    cut_left w c.args.request device.condition device.parts c.submit.new.self.parts (moments device.disk.now) (moments c.submit.new.self.disk.now)
    c.requires.leg.works.is c.requires.taken rests c.submit.ensures.done same c.in-Ok.ticket counted
    c.finish.new.device.parts (moments c.finish.new.device.disk.now) (c.in_err-finish.ensures.runs.err _ begun)

pub unreachable-requires-in-Err-take : goal.unreachable-requires-in-Err-take
unreachable-requires-in-Err-take g c =
    let device = c.args.device.now in
    let request = c.args.request in
    let t = c.in-Ok.ticket in
    let begun = c.submit.new.self.parts.common.slots in
    let served = c.finish.new.device.parts.common.slots in
    let counted = ticket_is _ _ t request c.submit.result c.requires.taken c.submit.ensures.answer c.in-Ok.is in
    let alone = begun_alone request device.condition device.parts c.submit.new.self.parts c.requires.leg.none c.requires.taken c.submit.ensures.submitted in
    let mode = same_mode request device.condition device.parts c.submit.new.self.parts c.submit.ensures.submitted ∙ c.requires.leg.mode in
    let finishes = c.in_ok-finish.ensures.finishes mode in
    let done = served_slot request t begun served (suc device.parts.common.slots.submitted) alone counted c.in_ok-finish.ensures.runs.keeps.flight finishes.keeps finishes.done in
    not_back (reply_of done.slot) _ (sym (taken_is request t served done) ∙ sym c.take.ensures.reply ∙ c.in-Err-take.is)

pub returns-clause-ran : goal.returns-clause-ran
returns-clause-ran g c w rests =
    let device = c.args.device.now in
    let moments = g.D.Disk.moments in
    let counted = ticket_is _ _ c.in-Ok.ticket c.args.request c.submit.result c.requires.taken c.submit.ensures.answer c.in-Ok.is in
    let same = ap moments c.submit.ensures.disk in
    let begun = begun_device w c.args.request device.condition device.parts c.submit.new.self.parts (moments device.disk.now) (moments c.submit.new.self.disk.now)
    c.requires.leg.works.is c.requires.taken rests c.submit.ensures.done same c.in-Ok.ticket counted in
    let serves = c.in_ok-finish.ensures.runs.done _ begun in
    let turn = c.in_ok-finish.ensures.turn in
    let served = served_device w c.args.request device.condition device.parts c.submit.new.self.parts (moments device.disk.now) (moments c.submit.new.self.disk.now)
    c.requires.leg.works.is c.requires.taken rests c.submit.ensures.done same c.in-Ok.ticket counted c.finish.new.device.parts (moments c.finish.new.device.disk.now) serves c.finish.new.device.condition turn in
    all_run w c.args.request device.condition device.parts c.submit.new.self.parts (moments device.disk.now) (moments c.submit.new.self.disk.now)
    c.requires.leg.works.is c.requires.taken rests c.submit.ensures.done same c.in-Ok.ticket counted c.finish.new.device.parts (moments c.finish.new.device.disk.now) serves
    c.in-Ok-take.reply c.finish.new.device.condition turn c.take.new.self.parts (moments c.take.new.self.disk.now) (ap moments c.take.ensures.disk)
    (c.in-Ok-take.ensures.done _ served)
    (c.in-Ok-take.ensures.serial _ served)

pub returns-clause-leg : goal.returns-clause-leg
returns-clause-leg g c =
    let device = c.args.device.now in
    let moments = g.D.Disk.moments in
    let request = c.args.request in
    let t = c.in-Ok.ticket in
    let begun = c.submit.new.self.parts in
    let served = c.finish.new.device.parts in
    let taken = c.take.new.self.parts in
    let keeps = c.in_ok-finish.ensures.runs.keeps in
    let counted = ticket_is _ _ t request c.submit.result c.requires.taken c.submit.ensures.answer c.in-Ok.is in
    let alone = begun_alone request device.condition device.parts begun c.requires.leg.none c.requires.taken c.submit.ensures.submitted in
    let same = same_mode request device.condition device.parts begun c.submit.ensures.submitted in
    let finishes = c.in_ok-finish.ensures.finishes (same ∙ c.requires.leg.mode) in
    let done = served_slot request t begun.common.slots served.common.slots (suc device.parts.common.slots.submitted) alone counted keeps.flight finishes.keeps finishes.done in
    let one = still_one begun.common.slots served.common.slots keeps.flight (ap (λ (l : List Slot). length l) alone) in
    let works = works_then g.D.Disk.identity moments _ _ _ _ _ c.in_ok-finish.ensures.turn keeps in
    let ready = subst (λ (x : Condition). IsReady x taken (g.D.Disk.identity c.take.new.self.disk.now) (moments c.take.new.self.disk.now)) (sym c.take.ensures.condition) (c.take.ensures.ready works.ready) in
    let kept = kept_blocks request device.condition device.parts begun served taken t c.submit.ensures.submitted keeps.flight c.take.ensures.taken in
    let none = ap (λ (p : DeviceParts). p.common.slots.slots) c.take.ensures.taken ∙ none_left request t served.common.slots done one in
    record {
      works = record { ready = ready; is = c.take.ensures.condition ∙ c.in_ok-finish.ensures.turn };
      mode = ap (λ (p : DeviceParts). mode_of p.mode) c.take.ensures.taken ∙ keeps.same_mode ∙ same ∙ c.requires.leg.mode;
      none = none;
      few = subst (λ (n : ℕ). n ≤ 2 ^ 48) (sym kept.blocks) c.requires.leg.few;
      some = subst (λ (n : ℕ). 1 ≤ n) (sym kept.block_size) c.requires.leg.some;
      small = subst (λ (n : ℕ). n < 2 ^ 16) (sym kept.block_size) c.requires.leg.small;
    }

pub returns-clause-answered : goal.returns-clause-answered
returns-clause-answered g c =
    let device = c.args.device.now in
    let request = c.args.request in
    let t = c.in-Ok.ticket in
    let begun = c.submit.new.self.parts.common.slots in
    let served = c.finish.new.device.parts.common.slots in
    let counted = ticket_is _ _ t request c.submit.result c.requires.taken c.submit.ensures.answer c.in-Ok.is in
    let alone = begun_alone request device.condition device.parts c.submit.new.self.parts c.requires.leg.none c.requires.taken c.submit.ensures.submitted in
    let mode = same_mode request device.condition device.parts c.submit.new.self.parts c.submit.ensures.submitted ∙ c.requires.leg.mode in
    let finishes = c.in_ok-finish.ensures.finishes mode in
    let done = served_slot request t begun served (suc device.parts.common.slots.submitted) alone counted c.in_ok-finish.ensures.runs.keeps.flight finishes.keeps finishes.done in
    subst (IsReplyTo request)
    (same_reply (reply_of done.slot) c.in-Ok-take.reply (sym (taken_is request t served done) ∙ sym c.take.ensures.reply ∙ c.in-Ok-take.is))
    (answers_it request done.slot done.is_for)

pub returns-clause-left : goal.returns-clause-left
returns-clause-left g c w rests =
    let device = c.args.device.now in
    let moments = g.D.Disk.moments in
    let counted = ticket_is _ _ c.in-Ok.ticket c.args.request c.submit.result c.requires.taken c.submit.ensures.answer c.in-Ok.is in
    let same = ap moments c.submit.ensures.disk in
    let begun = begun_device w c.args.request device.condition device.parts c.submit.new.self.parts (moments device.disk.now) (moments c.submit.new.self.disk.now)
    c.requires.leg.works.is c.requires.taken rests c.submit.ensures.done same c.in-Ok.ticket counted in
    let serves = c.in_ok-finish.ensures.runs.done _ begun in
    let turn = c.in_ok-finish.ensures.turn in
    let served = served_device w c.args.request device.condition device.parts c.submit.new.self.parts (moments device.disk.now) (moments c.submit.new.self.disk.now)
    c.requires.leg.works.is c.requires.taken rests c.submit.ensures.done same c.in-Ok.ticket counted c.finish.new.device.parts (moments c.finish.new.device.disk.now) serves c.finish.new.device.condition turn in
    all_left w c.args.request device.condition device.parts c.submit.new.self.parts (moments device.disk.now) (moments c.submit.new.self.disk.now)
    c.requires.leg.works.is c.requires.taken rests c.submit.ensures.done same c.in-Ok.ticket counted c.finish.new.device.parts (moments c.finish.new.device.disk.now) serves
    c.in-Ok-take.reply c.finish.new.device.condition turn c.take.new.self.parts (moments c.take.new.self.disk.now) (ap moments c.take.ensures.disk)
    (c.in-Ok-take.ensures.done _ served)
