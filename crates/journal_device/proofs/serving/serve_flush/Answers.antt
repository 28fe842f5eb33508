use Rattle.std.proofs.Common.{rules, refl}
use Rattle.direct_mode.proofs.ServingLemmas.{on_err_always}
use Rattle.device_model.specs.Progress.{FailedServe, Serve}
use Rattle.request_slots.specs.Serving.{with_finish}
use Rattle.device_parts.specs.declared.answers.Served.TheVariants as Serves
use Rattle.device_parts.specs.declared.condition.Condition.TheVariants.{Broken, Working}
use Rattle.device_parts.specs.declared.parts.Parts.{Parts}
use Rattle.device_parts.specs.Answers.{served_answer}
use Rattle.device_parts.proofs.ReadyLemmas.{keeps_flight, same_flight}
use Rattle.journal_device.specs.Device.{standing_of, standing_on}
use Rattle.journal_device.proofs.DoneLemmas.{stands_now}
use Rattle.journal_device.proofs.OverDisk.{done_on, is_done_on}
use Rattle.journal_device.proofs.ServingLemmas.{serve_flush_done, serve_flush_failed}
use Rattle.journal_device.proofs.TellingLemmas.{finished_told, keeps_finished}
use Rattle.journal_device.proofs.serving.serve_flush.Goals as goal

pub returns-in_err-flush-clause-next : goal.returns-in_err-flush-clause-next
returns-in_err-flush-clause-next g c =
    let parts = c.args.parts.now in
    let journal = c.args.state.now.journal in
    let recalculation = c.args.state.now.recalculation in
    let ticket = c.args.ticket.now in
    let a = g.D.Disk.moments c.args.disk.now in
    let b = g.D.Disk.moments c.flush.new.disk in
    record {
      does = record {
        done = search rules;
        err = on_err_always c.from_residual.result (λ w is.
            let v = standing_on w is.disk in
            done_on w is.disk is.format (FailedServe ticket) Broken parts c.flush.new.self recalculation a b
            (serve_flush_failed v parts journal recalculation a is.over ticket c.requires.there c.requires.turn _ _ _ refl refl
            (c.flush.ensures.left (standing_of v) (stands_now v parts journal recalculation a is.over))));
      };
      goes_on = search rules;
      waiting = search rules;
      flight = same_flight parts.slots;
    }

pub returns-clause-next : goal.returns-clause-next
returns-clause-next g c =
    let parts = c.args.parts.now in
    let journal = c.args.state.now.journal in
    let recalculation = c.args.state.now.recalculation in
    let ticket = c.args.ticket.now in
    let a = g.D.Disk.moments c.args.disk.now in
    let b = g.D.Disk.moments c.flush.new.disk in
    let new : Parts = record parts { slots = c.finish.new.self } in
    record {
      does = record {
        done = λ w is.
            let v = standing_on w is.disk in
            let stands = stands_now v parts journal recalculation a is.over in
            is_done_on w is.disk is.format (Serve ticket) (served_answer Serves.Done) Working new c.flush.new.self recalculation a b
            (serve_flush_done v parts journal recalculation a is.over ticket c.requires.there c.requires.turn _ _ _ c.finish.ensures refl refl
            (c.in_ok-flush.ensures.flushed (standing_of v) stands) (c.flush.ensures.left (standing_of v) stands));
        err = tt;
      };
      goes_on = λ did. absurd cc;
      waiting = λ waits. absurd cc;
      flight = rw c.finish.ensures (keeps_flight ticket with_finish (λ x. refl) parts.slots);
    }

-- ---- what it tells

pub returns-in_err-flush-clause-tells : goal.returns-in_err-flush-clause-tells
returns-in_err-flush-clause-tells g c = record { keeps = λ request is. is; told = search rules }

pub returns-clause-tells : goal.returns-clause-tells
returns-clause-tells g c = rw c.finish.ensures (record {
  keeps = keeps_finished c.args.ticket.now c.args.parts.now.slots c.requires.there;
  told = finished_told c.args.ticket.now c.args.parts.now.slots c.requires.there;
})
