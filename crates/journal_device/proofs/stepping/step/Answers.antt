use Rattle.std.proofs.Common.{rules, inr, refl, ◌∙◌, sym, ap, subst}
use Rattle.std.proofs.lemmas.Result.{err_from_is_err_and}
use Rattle.image_model.specs.Geometry.{Geometry}
use Rattle.device_model.specs.Actors.{actor_of}
use Rattle.device_model.specs.Progress.{FailedStep, Step}
use Rattle.device_model.specs.declared.actor.Actor.{Actor}
use Rattle.device_parts.specs.declared.condition.Condition.TheVariants.{Broken, Working}
use Rattle.device_parts.specs.declared.parts.Parts.{Parts}
use Rattle.direct_mode.proofs.ServingLemmas.{on_err_always}
use Rattle.journal_mode.proofs.FlushLemmas.{one_is}
use Rattle.journal_mode.proofs.ClosingLemmas.{batch_geometry}
use Rattle.recalculation.specs.Recalculation.{fields_next, next_of}
use Rattle.journal_device.specs.Answers.{HasNoWork}
use Rattle.journal_device.specs.Device.{standing_of, standing_on}
use Rattle.journal_device.proofs.ConditionLemmas.{works_no_more}
use Rattle.journal_device.proofs.DoneLemmas.{stands_now}
use Rattle.journal_device.proofs.OverDisk.{IsAfter, done_on, is_done_on}
use Rattle.journal_device.proofs.RecalcLemmas.{recalc_failed}
use Rattle.journal_device.proofs.EventLemmas.{clean_step, commit_step, place_step, recalc_step, settle_step, step_failed}
use Rattle.journal_device.proofs.StepsLemmas.{commit_fewer, not_did, place_fewer, recalc_advances, recalc_fewer, settle_fewer}
use Rattle.journal_device.proofs.FieldsLemmas.{failed_still, journal_heads, region_heads, still_heads, stepped_heads, stepped_still}
use Rattle.journal_device.proofs.IdleLemmas.{idle_commit, idle_place, idle_recalc, idle_settle}
use Rattle.journal_device.proofs.TellingLemmas.{commit_due, place_due, recalc_due, settle_due}
use Rattle.journal_device.proofs.WriteLemmas.{ready_tags}
use Rattle.journal_device.proofs.stepping.step.Goals as goal
use Rattle.journal_device.proofs.stepping.step.Goals.{in-Commit+in_ok-moved-in-Commit, in-Place+in_ok-moved-in-Place, in-Settle+in_ok-moved-in-Settle, in-Clean, in-Recalc+in_ok-moved-in-Recalc}
use Rattle.recalculation.proofs.FieldsLemmas.{region_writes}

pub returns-in_err-moved-in-Commit-clause-next : goal.returns-in_err-moved-in-Commit-clause-next
returns-in_err-moved-in-Commit-clause-next g c = record {
  done = search rules;
  err = on_err_always c.from_residual.result (λ w is.
      let parts = c.args.parts.now in
      let journal = c.args.state.now.journal in
      let recalculation = c.args.state.now.recalculation in
      let a = g.D.Disk.moments c.args.disk.now in
      let v = standing_on w is.disk in
      done_on w is.disk is.format _ Broken parts c.commit.new.self recalculation a (g.D.Disk.moments c.commit.new.disk)
      (step_failed v parts journal recalculation a is.over _ parts c.commit.new.self (g.D.Disk.moments c.commit.new.disk) refl refl
      (c.commit.ensures.left (standing_of v) (stands_now v parts journal recalculation a is.over))));
}

pub returns-in_err-moved-in-Place-clause-next : goal.returns-in_err-moved-in-Place-clause-next
returns-in_err-moved-in-Place-clause-next g c = record {
  done = search rules;
  err = on_err_always c.from_residual-in_err-moved-in-Place.result (λ w is.
      let parts = c.args.parts.now in
      let journal = c.args.state.now.journal in
      let recalculation = c.args.state.now.recalculation in
      let a = g.D.Disk.moments c.args.disk.now in
      let v = standing_on w is.disk in
      let new : Parts = record parts { tags = c.place.new.tags } in
      done_on w is.disk is.format _ Broken new c.place.new.self recalculation a (g.D.Disk.moments c.place.new.disk)
      (step_failed v parts journal recalculation a is.over _ new c.place.new.self (g.D.Disk.moments c.place.new.disk) refl refl
      (c.place.ensures.left (standing_of v) (stands_now v parts journal recalculation a is.over))));
}

pub returns-in_err-moved-in-Settle-clause-next : goal.returns-in_err-moved-in-Settle-clause-next
returns-in_err-moved-in-Settle-clause-next g c = record {
  done = search rules;
  err = on_err_always c.from_residual-in_err-moved-in-Settle.result (λ w is.
      let parts = c.args.parts.now in
      let journal = c.args.state.now.journal in
      let recalculation = c.args.state.now.recalculation in
      let a = g.D.Disk.moments c.args.disk.now in
      let v = standing_on w is.disk in
      let new : Parts = record parts { tags = c.settle.new.tags } in
      done_on w is.disk is.format _ Broken new c.settle.new.self recalculation a (g.D.Disk.moments c.settle.new.disk)
      (step_failed v parts journal recalculation a is.over _ new c.settle.new.self (g.D.Disk.moments c.settle.new.disk) refl refl
      (c.settle.ensures.left (standing_of v) (stands_now v parts journal recalculation a is.over))));
}

pub returns-in_err-moved-in-Recalc-clause-next : goal.returns-in_err-moved-in-Recalc-clause-next
returns-in_err-moved-in-Recalc-clause-next g c = record {
  done = search rules;
  err = on_err_always c.from_residual-in_err-moved-in-Recalc.result (λ w is.
      let parts = c.args.parts.now in
      let journal = c.args.state.now.journal in
      let recalculation = c.args.state.now.recalculation in
      let a = g.D.Disk.moments c.args.disk.now in
      let b = g.D.Disk.moments c.recalculate.new.disk in
      let v = standing_on w is.disk in
      let through = c.in_err-moved-in-Recalc.ensures.err in
      done_on w is.disk is.format (FailedStep (actor_of c.args.actor)) Broken (record parts { tags = c.recalculate.new.tags }) journal c.recalculate.new.recalculation a b
      (subst (λ (x : Actor). IsAfter v (FailedStep (actor_of x)) Broken (record parts { tags = c.recalculate.new.tags }) journal c.recalculate.new.recalculation a b) (sym c.in-Recalc.is)
      (recalc_failed v parts journal recalculation a is.over through.region through.least c.recalculate.new.recalculation c.recalculate.new.tags b through.through)));
}

pub returns-clause-next : goal.returns-clause-next
returns-clause-next g c = record {
  done = λ w at.
      let parts = c.args.parts.now in
      let journal = c.args.state.now.journal in
      let recalculation = c.args.state.now.recalculation in
      let before = g.D.Disk.moments c.args.disk.now in
      let v = standing_on w at.disk in
      let is = at.over in
      let stands = stands_now v parts journal recalculation before is in
      is_done_on w at.disk at.format (Step (actor_of c.args.actor)) _ Working _ _ _ before _
      (elim c.match-actor.branch [
        | in-Commit+in_ok-moved-in-Commit x ↦ rw (c.moved_as.ensures, x.moved-is, x.disk-is, x.parts-is, x.state-is, x.in-Commit.is)
            (commit_step v parts journal recalculation before is _ x.commit.new.self (g.D.Disk.moments x.commit.new.disk)
            (x.in_ok-moved-in-Commit.ensures.committed (standing_of v) stands) (x.commit.ensures.left (standing_of v) stands))
        | in-Place+in_ok-moved-in-Place x ↦ rw (c.moved_as.ensures, x.moved-is, x.disk-is, x.parts-is, x.state-is, x.in-Place.is)
            (place_step v parts journal recalculation before is _ (record parts { tags = x.place.new.tags }) x.place.new.self (g.D.Disk.moments x.place.new.disk) refl refl
            (x.in_ok-moved-in-Place.ensures.placed (standing_of v) stands) (x.place.ensures.left (standing_of v) stands))
        | in-Settle+in_ok-moved-in-Settle x ↦ rw (c.moved_as.ensures, x.moved-is, x.disk-is, x.parts-is, x.state-is, x.in-Settle.is)
            (settle_step v parts journal recalculation before is _ (record parts { tags = x.settle.new.tags }) x.settle.new.self (g.D.Disk.moments x.settle.new.disk) refl refl
            (x.in_ok-moved-in-Settle.ensures.settled (standing_of v) stands) (x.settle.ensures.left (standing_of v) stands))
        | in-Clean x ↦ rw (c.moved_as.ensures, x.moved-is, x.disk-is, x.parts-is, x.state-is, x.in-Clean.is) (clean_step v parts journal recalculation before is)
        | in-Recalc+in_ok-moved-in-Recalc x ↦ rw (c.moved_as.ensures, x.moved-is, x.disk-is, x.parts-is, x.state-is, x.in-Recalc.is)
            (recalc_step v parts journal recalculation x.recalculate.new.recalculation x.recalculate.new.tags g.D.Disk.moments c.args.disk.now x.recalculate.new.disk x.in_ok-moved-in-Recalc.moved
            is x.recalculate.ensures.stays.places x.in_ok-moved-in-Recalc.ensures.stepped)
      ]);
  err = tt;
}

pub returns-clause-ready : goal.returns-clause-ready
returns-clause-ready g c =
    let parts = c.args.parts.now in
    let journal = c.args.state.now.journal in
    let recalculation = c.args.state.now.recalculation in
    let before = g.D.Disk.moments c.args.disk.now in
    let disk = g.D.Disk.identity c.args.disk.now in
    elim c.match-actor.branch [
      | in-Commit+in_ok-moved-in-Commit x ↦ rw (x.disk-is, x.parts-is, x.state-is) (record {
        parts_ = λ _. ready_tags parts parts.tags disk (g.D.Disk.identity x.commit.new.disk) before (g.D.Disk.moments x.commit.new.disk) (c.requires.parts_ refl) x.in_ok-moved-in-Commit.ensures.store refl;
        geometry = batch_geometry journal x.commit.new.self (inr (one_is journal x.commit.new.self _ _ _ _ _ x.in_ok-moved-in-Commit.ensures.moved)) ∙ c.requires.geometry;
        regions_ = c.requires.regions_;
      })
      | in-Place+in_ok-moved-in-Place x ↦ rw (x.disk-is, x.parts-is, x.state-is) (record {
        parts_ = λ _. ready_tags parts x.place.new.tags disk (g.D.Disk.identity x.place.new.disk) before (g.D.Disk.moments x.place.new.disk) (c.requires.parts_ refl) x.place.ensures.stays.store x.place.ensures.stays.geometry;
        geometry = ap (λ r. r.geometry) x.place.ensures.ring ∙ c.requires.geometry ∙ sym x.place.ensures.stays.geometry;
        regions_ = c.requires.regions_ ∙ sym x.place.ensures.stays.geometry;
      })
      | in-Settle+in_ok-moved-in-Settle x ↦ rw (x.disk-is, x.parts-is, x.state-is) (record {
        parts_ = λ _. ready_tags parts x.settle.new.tags disk (g.D.Disk.identity x.settle.new.disk) before (g.D.Disk.moments x.settle.new.disk) (c.requires.parts_ refl) x.settle.ensures.store x.settle.ensures.geometry.0;
        geometry = x.settle.ensures.geometry.1 ∙ c.requires.geometry ∙ sym x.settle.ensures.geometry.0;
        regions_ = c.requires.regions_ ∙ sym x.settle.ensures.geometry.0;
      })
      | in-Clean x ↦ rw (x.disk-is, x.parts-is, x.state-is) c.requires
      | in-Recalc+in_ok-moved-in-Recalc x ↦ rw (x.disk-is, x.parts-is, x.state-is) (record {
        parts_ = λ _. ready_tags parts x.recalculate.new.tags disk (g.D.Disk.identity x.recalculate.new.disk) before (g.D.Disk.moments x.recalculate.new.disk) (c.requires.parts_ refl) x.recalculate.ensures.stays.store_ x.recalculate.ensures.stays.places;
        geometry = c.requires.geometry ∙ sym x.recalculate.ensures.stays.places;
        regions_ = x.recalculate.ensures.stays.geometry ∙ c.requires.regions_ ∙ sym x.recalculate.ensures.stays.places;
      })
    ]

pub returns-clause-goes_on : goal.returns-clause-goes_on
returns-clause-goes_on g c =
    let journal = c.args.state.now.journal in
    let recalculation = c.args.state.now.recalculation in
    elim c.match-actor.branch [
      | in-Commit+in_ok-moved-in-Commit x ↦ rw (c.moved_as.ensures, x.moved-is, x.state-is, x.in-Commit.is)
          (λ did. commit_fewer x.in_ok-moved-in-Commit.moved journal x.commit.new.self _ _ recalculation recalculation _ _ x.commit.ensures.bounds x.in_ok-moved-in-Commit.ensures.moved did)
      | in-Place+in_ok-moved-in-Place x ↦ rw (c.moved_as.ensures, x.moved-is, x.state-is, x.in-Place.is)
          (λ did. place_fewer x.in_ok-moved-in-Place.moved journal x.place.new.self _ _ _ _ recalculation recalculation x.in_ok-moved-in-Place.ensures.moved x.place.ensures.ring did)
      | in-Settle+in_ok-moved-in-Settle x ↦ rw (c.moved_as.ensures, x.moved-is, x.state-is, x.in-Settle.is)
          (λ did. settle_fewer x.in_ok-moved-in-Settle.moved journal x.settle.new.self _ _ _ _ recalculation recalculation x.in_ok-moved-in-Settle.ensures.moved did)
      | in-Clean x ↦ rw (c.moved_as.ensures, x.moved-is) (λ did. absurd (not_did did))
      | in-Recalc+in_ok-moved-in-Recalc x ↦ rw (c.moved_as.ensures, x.moved-is, x.state-is, x.in-Recalc.is)
          (λ did. recalc_fewer x.in_ok-moved-in-Recalc.moved _ recalculation x.recalculate.new.recalculation _ _ journal journal g.D.Disk.moments _ _ x.in_ok-moved-in-Recalc.ensures.stepped did)
    ]

pub returns-clause-idle : goal.returns-clause-idle
returns-clause-idle g c =
    let parts = c.args.parts.now in
    let journal = c.args.state.now.journal in
    let recalculation = c.args.state.now.recalculation in
    let disk = c.args.disk.now in
    elim c.match-actor.branch [
      | in-Commit+in_ok-moved-in-Commit x ↦ rw (c.moved_as.ensures, x.moved-is, x.disk-is, x.parts-is, x.state-is)
          (idle_commit parts journal x.commit.new.self recalculation disk x.commit.new.disk _ _ _ x.in_ok-moved-in-Commit.ensures.moved)
      | in-Place+in_ok-moved-in-Place x ↦ rw (c.moved_as.ensures, x.moved-is, x.disk-is, x.parts-is, x.state-is)
          (idle_place parts journal x.place.new.self recalculation disk x.place.new.disk _ x.place.new.tags x.in_ok-moved-in-Place.ensures.moved x.place.ensures.ring)
      | in-Settle+in_ok-moved-in-Settle x ↦ rw (c.moved_as.ensures, x.moved-is, x.disk-is, x.parts-is, x.state-is)
          (idle_settle parts journal x.settle.new.self recalculation disk x.settle.new.disk _ x.settle.new.tags x.in_ok-moved-in-Settle.ensures.moved)
      | in-Clean x ↦ rw (x.disk-is, x.parts-is, x.state-is) (λ idle. (refl, refl))
      | in-Recalc+in_ok-moved-in-Recalc x ↦ rw (c.moved_as.ensures, x.moved-is, x.disk-is, x.parts-is, x.state-is)
          (idle_recalc parts journal recalculation x.recalculate.new.recalculation x.recalculate.new.tags _ g.D.Disk.moments disk x.recalculate.new.disk _ x.in_ok-moved-in-Recalc.ensures.stepped)
    ]

pub returns-in_err-moved-in-Commit-clause-quiet : goal.returns-in_err-moved-in-Commit-clause-quiet
returns-in_err-moved-in-Commit-clause-quiet g c rests = absurd (subst (λ (a : Actor). HasNoWork (actor_of a)) c.in-Commit.is rests)

pub returns-in_err-moved-in-Place-clause-quiet : goal.returns-in_err-moved-in-Place-clause-quiet
returns-in_err-moved-in-Place-clause-quiet g c rests = absurd (subst (λ (a : Actor). HasNoWork (actor_of a)) c.in-Place.is rests)

pub returns-in_err-moved-in-Settle-clause-quiet : goal.returns-in_err-moved-in-Settle-clause-quiet
returns-in_err-moved-in-Settle-clause-quiet g c rests = absurd (subst (λ (a : Actor). HasNoWork (actor_of a)) c.in-Settle.is rests)

pub returns-in_err-moved-in-Recalc-clause-quiet : goal.returns-in_err-moved-in-Recalc-clause-quiet
returns-in_err-moved-in-Recalc-clause-quiet g c rests = absurd (subst (λ (a : Actor). HasNoWork (actor_of a)) c.in-Recalc.is rests)

pub returns-clause-quiet : goal.returns-clause-quiet
returns-clause-quiet g c =
    elim c.match-actor.branch [
      | in-Commit+in_ok-moved-in-Commit x ↦ λ rests. absurd (subst (λ (a : Actor). HasNoWork (actor_of a)) x.in-Commit.is rests)
      | in-Place+in_ok-moved-in-Place x ↦ λ rests. absurd (subst (λ (a : Actor). HasNoWork (actor_of a)) x.in-Place.is rests)
      | in-Settle+in_ok-moved-in-Settle x ↦ λ rests. absurd (subst (λ (a : Actor). HasNoWork (actor_of a)) x.in-Settle.is rests)
      | in-Clean x ↦ λ rests. x.disk-is
      | in-Recalc+in_ok-moved-in-Recalc x ↦ λ rests. absurd (subst (λ (a : Actor). HasNoWork (actor_of a)) x.in-Recalc.is rests)
    ]

-- ---- the regions

pub recalculate-requires-clause-same : goal.recalculate-requires-clause-same
recalculate-requires-clause-same g c = sym c.requires.regions_

pub recalculate-requires-clause-size : goal.recalculate-requires-clause-size
recalculate-requires-clause-size g c = (c.requires.parts_ refl).tag_size ∙ ap (λ (y : Geometry). y.shape.tag_size) (sym c.requires.regions_)

pub returns-in_err-moved-in-Recalc-clause-ready : goal.returns-in_err-moved-in-Recalc-clause-ready
returns-in_err-moved-in-Recalc-clause-ready g c = record {
  parts_ = λ works. let failed = err_from_is_err_and c.from_residual-in_err-moved-in-Recalc.result c.from_residual-in_err-moved-in-Recalc.ensures.1 in
      works_no_more c.from_residual-in_err-moved-in-Recalc.result failed.0 failed.1 works;
  geometry = c.requires.geometry ∙ sym c.recalculate.ensures.stays.places;
  regions_ = c.recalculate.ensures.stays.geometry ∙ c.requires.regions_ ∙ sym c.recalculate.ensures.stays.places;
}

pub returns-clause-moves : goal.returns-clause-moves
returns-clause-moves g c =
    let journal = c.args.state.now.journal in
    elim c.match-actor.branch [
      | in-Commit+in_ok-moved-in-Commit x ↦ rw (c.moved_as.ensures, x.moved-is, x.state-is, x.in-Commit.is) (record {
        advances = refl;
        due = commit_due x.in_ok-moved-in-Commit.moved journal x.commit.new.self _ _ _ _ x.commit.ensures.bounds x.in_ok-moved-in-Commit.ensures.moved;
      })
      | in-Place+in_ok-moved-in-Place x ↦ rw (c.moved_as.ensures, x.moved-is, x.state-is, x.in-Place.is) (record {
        advances = refl;
        due = place_due x.in_ok-moved-in-Place.moved journal x.place.new.self _ _ _ _ x.in_ok-moved-in-Place.ensures.moved x.place.ensures.ring;
      })
      | in-Settle+in_ok-moved-in-Settle x ↦ rw (c.moved_as.ensures, x.moved-is, x.state-is, x.in-Settle.is) (record {
        advances = refl;
        due = settle_due x.in_ok-moved-in-Settle.moved journal x.settle.new.self _ _ _ _ x.in_ok-moved-in-Settle.ensures.moved;
      })
      | in-Clean x ↦ rw (c.moved_as.ensures, x.moved-is, x.state-is, x.in-Clean.is) (record { advances = refl; due = λ due. tt })
      | in-Recalc+in_ok-moved-in-Recalc x ↦ rw (c.moved_as.ensures, x.moved-is, x.state-is, x.in-Recalc.is) (record {
        advances = recalc_advances x.in_ok-moved-in-Recalc.moved _ c.args.state.now.recalculation x.recalculate.new.recalculation _ _ g.D.Disk.moments _ _ x.in_ok-moved-in-Recalc.ensures.stepped;
        due = recalc_due x.in_ok-moved-in-Recalc.moved journal;
      })
    ]

-- ---- the fields

pub returns-in_err-moved-in-Commit-clause-heads : goal.returns-in_err-moved-in-Commit-clause-heads
returns-in_err-moved-in-Commit-clause-heads g c =
    journal_heads c.args.parts.now c.args.state.now.journal c.args.state.now.recalculation (g.D.Disk.moments c.args.disk.now) (fields_next c.args.state.now.recalculation) (g.D.Disk.moments c.commit.new.disk) c.commit.ensures.left

pub returns-in_err-moved-in-Place-clause-heads : goal.returns-in_err-moved-in-Place-clause-heads
returns-in_err-moved-in-Place-clause-heads g c =
    journal_heads c.args.parts.now c.args.state.now.journal c.args.state.now.recalculation (g.D.Disk.moments c.args.disk.now) (fields_next c.args.state.now.recalculation) (g.D.Disk.moments c.place.new.disk) c.place.ensures.left

pub returns-in_err-moved-in-Settle-clause-heads : goal.returns-in_err-moved-in-Settle-clause-heads
returns-in_err-moved-in-Settle-clause-heads g c =
    journal_heads c.args.parts.now c.args.state.now.journal c.args.state.now.recalculation (g.D.Disk.moments c.args.disk.now) (fields_next c.args.state.now.recalculation) (g.D.Disk.moments c.settle.new.disk) c.settle.ensures.left

pub returns-in_err-moved-in-Recalc-clause-heads : goal.returns-in_err-moved-in-Recalc-clause-heads
returns-in_err-moved-in-Recalc-clause-heads g c =
    region_heads c.args.parts.now c.args.state.now.journal c.args.state.now.recalculation (g.D.Disk.moments c.args.disk.now) (g.D.Disk.moments c.recalculate.new.disk) c.in_err-moved-in-Recalc.ensures.err

pub returns-in_err-moved-in-Recalc-clause-writes : goal.returns-in_err-moved-in-Recalc-clause-writes
returns-in_err-moved-in-Recalc-clause-writes g c =
    let parts = c.args.parts.now in
    let recalculation = c.args.state.now.recalculation in
    let a = g.D.Disk.moments c.args.disk.now in
    let b = g.D.Disk.moments c.recalculate.new.disk in
    rw c.in-Recalc.is (region_writes (next_of recalculation) parts.tags.geometry a b (failed_still parts.maker recalculation parts.tags a b c.in_err-moved-in-Recalc.ensures.err) c.recalculate.ensures.writes)

pub returns-clause-heads : goal.returns-clause-heads
returns-clause-heads g c =
    let parts = c.args.parts.now in
    let journal = c.args.state.now.journal in
    let recalculation = c.args.state.now.recalculation in
    let a = g.D.Disk.moments c.args.disk.now in
    elim c.match-actor.branch [
      | in-Commit+in_ok-moved-in-Commit x ↦ rw x.disk-is (journal_heads parts journal recalculation a (fields_next recalculation) (g.D.Disk.moments x.commit.new.disk) x.commit.ensures.left)
      | in-Place+in_ok-moved-in-Place x ↦ rw x.disk-is (journal_heads parts journal recalculation a (fields_next recalculation) (g.D.Disk.moments x.place.new.disk) x.place.ensures.left)
      | in-Settle+in_ok-moved-in-Settle x ↦ rw x.disk-is (journal_heads parts journal recalculation a (fields_next recalculation) (g.D.Disk.moments x.settle.new.disk) x.settle.ensures.left)
      | in-Clean x ↦ rw x.disk-is (still_heads parts journal recalculation a (fields_next recalculation) a refl)
      | in-Recalc+in_ok-moved-in-Recalc x ↦ rw x.disk-is
          (stepped_heads parts journal recalculation x.recalculate.new.recalculation x.recalculate.new.tags g.D.Disk.moments c.args.disk.now x.recalculate.new.disk x.in_ok-moved-in-Recalc.moved
          x.in_ok-moved-in-Recalc.ensures.stepped)
    ]

pub returns-clause-writes : goal.returns-clause-writes
returns-clause-writes g c =
    let parts = c.args.parts.now in
    let recalculation = c.args.state.now.recalculation in
    let a = g.D.Disk.moments c.args.disk.now in
    elim c.match-actor.branch [
      | in-Commit+in_ok-moved-in-Commit x ↦ rw (x.disk-is, x.in-Commit.is) x.commit.ensures.moments
      | in-Place+in_ok-moved-in-Place x ↦ rw (x.disk-is, x.in-Place.is) x.place.ensures.moments
      | in-Settle+in_ok-moved-in-Settle x ↦ rw (x.disk-is, x.in-Settle.is) x.settle.ensures.moments
      | in-Clean x ↦ rw (x.disk-is, x.in-Clean.is) refl
      | in-Recalc+in_ok-moved-in-Recalc x ↦ rw (x.disk-is, x.in-Recalc.is)
          (region_writes (next_of recalculation) parts.tags.geometry a (g.D.Disk.moments x.recalculate.new.disk)
          (stepped_still x.in_ok-moved-in-Recalc.moved parts.maker recalculation x.recalculate.new.recalculation parts.tags x.recalculate.new.tags g.D.Disk.moments c.args.disk.now x.recalculate.new.disk
          x.in_ok-moved-in-Recalc.ensures.stepped) x.recalculate.ensures.writes)
    ]
