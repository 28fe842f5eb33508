use Rattle.std.proofs.Common.{ℕ, List, [], ◌∷◌, refl, sym, ◌∙◌, ap, subst, arith}
use Rattle.device_model.specs.Progress.{Take}
use Rattle.request_slots.specs.Flight.{Flight, slot_of}
use Rattle.request_slots.specs.Taking.{without}
use Rattle.disk_model.specs.Disk.{Content}
use Rattle.script_session.specs.declared.line_answer.LineAnswer.TheVariants as Lines
use Rattle.device_parts.specs.declared.condition.Condition.{Condition}
use Rattle.device.specs.Device.{IsReady, with_slots}
use Rattle.device.proofs.ModeLemmas.{flight_now}
use Rattle.device_parts.specs.declared.condition.Condition.TheVariants.{Working}
use Rattle.device.proofs.CallLemmas.{device_works}
use Rattle.script_session.specs.LineRun.{HasAnswered}
use Rattle.script_session.proofs.CallLemmas.{after_taken, own_asked, own_number, own_there, rest_asks, stays_slots, taken_told, untaken_told}
use Rattle.script_session.proofs.SplitLemmas.{place_is}
use Rattle.script_session.proofs.calling.take.Goals as goal

pub remove-ticket-requires : goal.remove-ticket-requires
remove-ticket-requires g c =
    let place = place_is c.args.number c.args.tickets.now.waiting.items c.requires.number in
    let low = place.low in
    let counted = c.args.tickets.now.waiting.ok.0 in
    let at = c.place_of-place.ensures in
    omega (arith, low, counted, at)

pub take-requires : goal.take-requires
take-requires g c = record {
  there =
      own_there c.args.tickets.now c.args.device.now.parts.common.slots c.requires.tickets c.args.number c.requires.number c.place_of-place.result c.place_of-place.ensures
      c.remove-ticket.result c.remove-ticket.ensures.value;
}

pub returns-in-Ok-clause-answered : goal.returns-in-Ok-clause-answered
returns-in-Ok-clause-answered g c w is =
    let tickets = c.args.tickets.now in
    let parts = c.args.device.now.parts in
    let own = c.remove-ticket.result in
    let before = g.D.Disk.moments c.args.device.now.disk.now in
    let after = g.D.Disk.moments c.take.new.self.disk.now in
    let number = own_number tickets parts.common.slots c.requires.tickets c.args.number c.requires.number c.place_of-place.result c.place_of-place.ensures own c.remove-ticket.ensures.value in
    let asked = own_asked tickets parts.common.slots c.requires.tickets c.args.number c.requires.number c.place_of-place.result c.place_of-place.ensures own c.remove-ticket.ensures.value w.state.progress.requests (flight_now w Working parts.mode parts.common before is).slots in
    let told = taken_told w parts before is own asked c.args.device.now.condition c.take.new.self.parts after c.requires.works.is c.in-Ok.reply c.in-Ok.ensures.reply
    (c.in-Ok.ensures.done w (device_works w _ _ _ c.requires.works.is is)) in
    subst (λ (m : List Content). HasAnswered w (Take c.args.number ∷ []) (Lines.Replied own.first own.count c.in-Ok.reply) c.take.new.self.parts m after) (ap g.D.Disk.moments c.take.ensures.disk)
    (subst (λ (t : ℕ). HasAnswered w (Take t ∷ []) (Lines.Replied own.first own.count c.in-Ok.reply) c.take.new.self.parts after after) number told)

pub returns-in-Ok-clause-stays : goal.returns-in-Ok-clause-stays
returns-in-Ok-clause-stays g c =
    let tickets = c.args.tickets.now in
    let parts = c.args.device.now.parts in
    let own = c.remove-ticket.result in
    let slots : Flight = record parts.common.slots { slots = without own.ticket parts.common.slots.slots } in
    stays_slots _ parts c.take.new.self.parts slots _ _ _ _
    (c.take.ensures.taken ∙ ap (λ (x : Flight). with_slots parts x) (after_taken own.ticket (slot_of own.ticket parts.common.slots) c.in-Ok.reply parts.common.slots c.in-Ok.ensures.reply))
    (subst (λ (x : Condition). IsReady x c.take.new.self.parts (g.D.Disk.identity c.take.new.self.disk.now) (g.D.Disk.moments c.take.new.self.disk.now))
    (sym c.take.ensures.condition) (c.take.ensures.ready c.requires.works.ready))
    (record { asks = rest_asks tickets parts.common.slots c.requires.tickets c.args.number c.requires.number c.place_of-place.result c.place_of-place.ensures own c.remove-ticket.ensures.value c.remove-ticket.new.self.items c.remove-ticket.ensures.items })
    refl refl refl (ap g.D.Disk.identity c.take.ensures.disk)

pub returns-in-Err-clause-answered : goal.returns-in-Err-clause-answered
returns-in-Err-clause-answered g c w is =
    let tickets = c.args.tickets.now in
    let parts = c.args.device.now.parts in
    let own = c.remove-ticket.result in
    let after = g.D.Disk.moments c.take.new.self.disk.now in
    let number = own_number tickets parts.common.slots c.requires.tickets c.args.number c.requires.number c.place_of-place.result c.place_of-place.ensures own c.remove-ticket.ensures.value in
    let told = untaken_told w own.ticket c.in-Err.ticket c.args.device.now.condition c.take.new.self.parts after c.requires.works.is
    (c.in-Err.ensures.done w (device_works w _ _ _ c.requires.works.is is)) in
    subst (λ (m : List Content). HasAnswered w (Take c.args.number ∷ []) Lines.NotDone c.take.new.self.parts m after) (ap g.D.Disk.moments c.take.ensures.disk)
    (subst (λ (t : ℕ). HasAnswered w (Take t ∷ []) Lines.NotDone c.take.new.self.parts after after) number told)
