use Rattle.std.proofs.Common.{rules, sym, ◌∙◌, subst, ℕ, Option}
use Rattle.direct_mode.proofs.ServingLemmas.{on_err_always}
use Rattle.device_model.specs.Progress as Model
use Rattle.device_parts.specs.declared.answers.Moved.TheVariants as Moves
use Rattle.device_parts.specs.declared.condition.Condition.TheVariants.{Broken, Working}
use Rattle.device_parts.specs.Answers.{moved_answer}
use Rattle.bitmap_mode.specs.Cleaning.{is_held}
use Rattle.bitmap_device.specs.Answers.{WritesClean}
use Rattle.bitmap_device.specs.Device.{standing_on}
use Rattle.bitmap_device.proofs.OverDisk.{done_on, is_done_on}
use Rattle.bitmap_device.proofs.StepLemmas.{chosen_rests, clean_done, clean_failed, clean_fewer, clean_idle, clean_tags, least_held}
use Rattle.bitmap_device.proofs.stepping.clean.Goals as goal

pub returns-in_default-clause-next : goal.returns-in_default-clause-next
returns-in_default-clause-next g c =
    let parts = c.args.parts.now in
    let states = c.args.regions.now in
    let a = g.D.Disk.moments c.args.disk.now in
    record {
      done = λ w is.
          is_done_on w is.disk is.format (Model.Step Model.Clean) a a (moved_answer Moves.Idle) Working parts states
          (clean_idle (standing_on w is.disk) parts states a is.over (g.D.Disk.identity c.args.disk.now) c.requires
          (sym c.in_default.is ∙ least_held parts states c.held_spans-held.result c.held_spans-held.ensures c.least_to_clean.result c.least_to_clean.ensures));
      err = tt;
    }

pub clean-requires-clause-region : goal.clean-requires-clause-region
clean-requires-clause-region g c = (chosen_rests c.args.regions.now (is_held c.held_spans-held.result) c.in-Some.region c.least_to_clean.result c.least_to_clean.ensures c.in-Some.is).low

pub clean-requires-clause-rests : goal.clean-requires-clause-rests
clean-requires-clause-rests g c = (chosen_rests c.args.regions.now (is_held c.held_spans-held.result) c.in-Some.region c.least_to_clean.result c.least_to_clean.ensures c.in-Some.is).rests

pub returns-in_err-clean-clause-next : goal.returns-in_err-clean-clause-next
returns-in_err-clean-clause-next g c =
    let parts = c.args.parts.now in
    let states = c.args.regions.now in
    let a = g.D.Disk.moments c.args.disk.now in
    let b = g.D.Disk.moments c.clean.new.disk in
    record {
      done = search rules;
      err = on_err_always c.from_residual.result (λ w is.
          done_on w is.disk is.format (Model.FailedStep Model.Clean) a b Broken parts c.clean.new.self
          (clean_failed (standing_on w is.disk) parts states a is.over (g.D.Disk.identity c.args.disk.now) c.requires c.in-Some.region
          (sym c.in-Some.is ∙ least_held parts states c.held_spans-held.result c.held_spans-held.ensures c.least_to_clean.result c.least_to_clean.ensures)
          b c.clean.ensures.through c.clean.new.self));
    }

pub returns-in_err-clean-clause-tags : goal.returns-in_err-clean-clause-tags
returns-in_err-clean-clause-tags g c =
    let parts = c.args.parts.now in
    let states = c.args.regions.now in
    clean_tags parts states (g.D.Disk.identity c.args.disk.now) (g.D.Disk.moments c.args.disk.now) (g.D.Disk.moments c.clean.new.disk) c.requires c.in-Some.region
    (sym c.in-Some.is ∙ least_held parts states c.held_spans-held.result c.held_spans-held.ensures c.least_to_clean.result c.least_to_clean.ensures) c.clean.ensures.through

pub returns-clause-next : goal.returns-clause-next
returns-clause-next g c =
    let parts = c.args.parts.now in
    let states = c.args.regions.now in
    let a = g.D.Disk.moments c.args.disk.now in
    let b = g.D.Disk.moments c.clean.new.disk in
    record {
      done = λ w is.
          is_done_on w is.disk is.format (Model.Step Model.Clean) a b (moved_answer Moves.Did) Working parts c.clean.new.self
          (clean_done (standing_on w is.disk) parts states a is.over (g.D.Disk.identity c.args.disk.now) c.requires c.in-Some.region
          (sym c.in-Some.is ∙ least_held parts states c.held_spans-held.result c.held_spans-held.ensures c.least_to_clean.result c.least_to_clean.ensures)
          b c.clean.ensures.through c.clean.new.self c.in_ok-clean.ensures.cleaned);
      err = tt;
    }

pub returns-clause-goes_on : goal.returns-clause-goes_on
returns-clause-goes_on g c = λ did.
    clean_fewer c.args.regions.now c.clean.new.self c.in-Some.region
    (chosen_rests c.args.regions.now (is_held c.held_spans-held.result) c.in-Some.region c.least_to_clean.result c.least_to_clean.ensures c.in-Some.is)
    c.clean.ensures.stays.geometry c.in_ok-clean.ensures.counts

pub returns-clause-tags : goal.returns-clause-tags
returns-clause-tags g c =
    let parts = c.args.parts.now in
    let states = c.args.regions.now in
    clean_tags parts states (g.D.Disk.identity c.args.disk.now) (g.D.Disk.moments c.args.disk.now) (g.D.Disk.moments c.clean.new.disk) c.requires c.in-Some.region
    (sym c.in-Some.is ∙ least_held parts states c.held_spans-held.result c.held_spans-held.ensures c.least_to_clean.result c.least_to_clean.ensures) c.clean.ensures.through

pub returns-clause-writes : goal.returns-clause-writes
returns-clause-writes g c =
    let parts = c.args.parts.now in
    let states = c.args.regions.now in
    subst (λ (o : Option ℕ). WritesClean o states (g.D.Disk.moments c.args.disk.now) (g.D.Disk.moments c.clean.new.disk))
    (sym c.in-Some.is ∙ least_held parts states c.held_spans-held.result c.held_spans-held.ensures c.least_to_clean.result c.least_to_clean.ensures)
    c.clean.ensures.moments
