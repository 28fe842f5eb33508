use Rattle.std.proofs.Common.{sym}
use Rattle.std.proofs.lemmas.Result.{err_from_is_err_and}
use Rattle.device_parts.specs.declared.condition.Condition.TheVariants.{Working}
use Rattle.device.proofs.ModeLemmas.{flight_now}
use Rattle.script_session.proofs.TicketLemmas.{none_in_flight}
use Rattle.workload_model.specs.Workload.{workload_asks}
use Rattle.device_exercise.proofs.ExercisingLemmas.{behind, cut_first, cut_second, has_exercised}
use Rattle.device_exercise.proofs.exercising.exercise.Goals as goal

pub run_workload-requires-clause-tickets : goal.run_workload-requires-clause-tickets
run_workload-requires-clause-tickets g c = none_in_flight _ _ c.new-tickets.ensures c.requires.requests

pub returns-in_err-tally-clause-stopped : goal.returns-in_err-tally-clause-stopped
returns-in_err-tally-clause-stopped g c =
    let p = err_from_is_err_and c.from_residual.result c.from_residual.ensures.1 in
    let parts = c.args.device.now.parts in
    rw p.1 (λ w is.
    let same = sym (flight_now w Working parts.mode parts.common _ is).blocks in
    cut_first w c.args.seed c.args.count parts.common.slots.blocks same _ _ (c.in_err-tally.ensures.stopped w is))

pub returns-in_err-read_blocks-clause-stopped : goal.returns-in_err-read_blocks-clause-stopped
returns-in_err-read_blocks-clause-stopped g c =
    let left = c.from_residual-in_err-read_blocks in
    let p = err_from_is_err_and left.result left.ensures.1 in
    let parts = c.args.device.now.parts in
    rw p.1 (λ w is.
    let same = sym (flight_now w Working parts.mode parts.common _ is).blocks in
    let first = c.in_ok-tally.ensures.ran w is in
    cut_second w c.args.seed c.args.count parts.common.slots.blocks same _ _ _ _ first _
    c.run_workload.ensures.stays.blocks _
    (c.in_err-read_blocks.ensures.stopped
    (behind w (workload_asks c.args.count c.args.seed parts.common.slots.blocks)) first.run.device))

pub returns-clause-ran : goal.returns-clause-ran
returns-clause-ran g c w is =
    let parts = c.args.device.now.parts in
    let same = sym (flight_now w Working parts.mode parts.common _ is).blocks in
    let first = c.in_ok-tally.ensures.ran w is in
    has_exercised w c.args.seed c.args.count parts.common.slots.blocks same _ _ _ _ first _
    c.run_workload.ensures.stays.blocks _ _ _
    (c.in_ok-read_blocks.ensures.ran (behind w (workload_asks c.args.count c.args.seed parts.common.slots.blocks))
    first.run.device)
