use Rattle.std.proofs.Common.{refl, sym, ◌∙◌}
use Rattle.device_model.specs.Progress.{Serve}
use Rattle.device_parts.specs.declared.answers.Served.TheVariants as Serves
use Rattle.device_parts.specs.declared.condition.Condition.TheVariants.{Working}
use Rattle.device_parts.specs.Answers.{served_answer}
use Rattle.device_parts.proofs.ReadyLemmas.{same_flight}
use Rattle.journal_device.specs.Device.{standing_on}
use Rattle.journal_device.proofs.OverDisk.{is_done_on}
use Rattle.journal_device.proofs.ServingLemmas.{serve_finished, serve_held}
use Rattle.journal_device.proofs.serving.serve.Goals as goal

pub returns-in-Finished-clause-next : goal.returns-in-Finished-clause-next
returns-in-Finished-clause-next g c =
    let parts = c.args.parts.now in
    let journal = c.args.state.now.journal in
    let recalculation = c.args.state.now.recalculation in
    let ticket = c.args.ticket.now in
    let a = g.D.Disk.moments c.args.disk.now in
    record {
      does = record {
        done = λ w is.
            is_done_on w is.disk is.format (Serve ticket) (served_answer Serves.Done) Working parts journal recalculation a a
            (serve_finished (standing_on w is.disk) parts journal recalculation a is.over ticket _ c.requires.there
            (sym c.turn.ensures.turn ∙ c.in-Finished.is) refl);
        err = tt;
      };
      goes_on = λ did. absurd cc;
      waiting = λ waits. absurd cc;
      flight = same_flight parts.slots;
    }

pub returns-in-Held-clause-next : goal.returns-in-Held-clause-next
returns-in-Held-clause-next g c =
    let parts = c.args.parts.now in
    let journal = c.args.state.now.journal in
    let recalculation = c.args.state.now.recalculation in
    let ticket = c.args.ticket.now in
    let a = g.D.Disk.moments c.args.disk.now in
    record {
      does = record {
        done = λ w is.
            is_done_on w is.disk is.format (Serve ticket) (served_answer (Serves.Held c.in-Held.by)) Working parts journal recalculation a a
            (serve_held (standing_on w is.disk) parts journal recalculation a is.over ticket c.in-Held.by _ c.requires.there
            (sym c.turn.ensures.turn ∙ c.in-Held.is) refl);
        err = tt;
      };
      goes_on = λ did. absurd cc;
      waiting = λ waits. (refl, refl);
      flight = same_flight parts.slots;
    }

-- ---- what it tells

pub returns-in-Finished-clause-tells : goal.returns-in-Finished-clause-tells
returns-in-Finished-clause-tells g c = record { keeps = λ request is. is; told = sym c.turn.ensures.turn ∙ c.in-Finished.is }

pub returns-in-Held-clause-tells : goal.returns-in-Held-clause-tells
returns-in-Held-clause-tells g c = record { keeps = λ request is. is; told = sym c.turn.ensures.turn ∙ c.in-Held.is }
