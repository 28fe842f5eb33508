use Rattle.std.proofs.Common.{◌≡◌, ◌^◌, List, length, Result, Ok, Err, subst, sym, ap, ◌∙◌}
use Rattle.std.specs.Prelude.{IfOk}
use Rattle.std.proofs.lemmas.Result.{IfOk-weaker}
use Rattle.disk_model.specs.Disk.{Content, last_image}
use Rattle.disk_model.specs.Moments.{HasNow}
use Rattle.disk_model.proofs.MomentsLemmas.{EachMoment-then}
use Rattle.image_model.specs.Geometry.{Geometry}
use Rattle.image_model.specs.Grid.{walk_of}
use Rattle.place_writer.proofs.StoreCalls.{reads_whole}
use Rattle.journal_model.specs.Opening.{opened_disk}
use Rattle.place_model.specs.Opened.{next_after_walk}
use Rattle.journal_model.specs.Steps.{after_settle}
use Rattle.replay.specs.declared.recovered.Recovered.{Recovered}
use Rattle.replay.specs.Recovery.{GoesOnFrom, GoesOnIn}
use Rattle.replay.specs.Replaying.{all_placed}
use Rattle.replay.specs.Writes.{OnlySyncs}
use Rattle.replay.proofs.FillingLemmas.{placing_fills, recovery_fills}
use Rattle.replay.proofs.ReplayingLemmas.{geometry_of}
use Rattle.replay.proofs.RecoveryLemmas.{cells_stay_erased, leaves_same, replayed_after}
use Rattle.replay.proofs.RestingLemmas.{placing_rests, recovery_rests, state_at_rest}
use Rattle.replay.proofs.WritesLemmas.{recovery_adds, replay_only}
use Rattle.replay.proofs.recovery.recover.Goals as goal

-- Both are told where it succeeds.
goes_on : {E : Type 0} (g : Geometry) (before : List Content) (result : Result Recovered E) → IfOk result (λ at. HasNow (λ start. at.next ≡ next_after_walk (walk_of g (last_image start))) before) → IfOk result (GoesOnIn g)
    → IfOk result (GoesOnFrom g before)
goes_on g before (Ok at) next inside = record { inside = inside; next = next }
goes_on g before (Err fault) next inside = tt

pub finish-requires : goal.finish-requires
finish-requires g c = record {
  replaying = record {
    scratch = record {
      geometry = c.requires.replaying.geometry ∙ sym c.replay_journal.ensures.keeps.geometry;
      size = c.replay_journal.auto.bytes ∙ ap length c.bytes_mut-bytes.ensures.bytes ∙ c.requires.replaying.size;
      store_is = c.replay_journal.ensures.keeps.store;
    };
    fits = c.requires.replaying.fits;
  };
}

pub returns-clause-cuts : goal.returns-clause-cuts
returns-clause-cuts g c f start told enters =
    EachMoment-then (c.replay_journal.ensures.cuts f start told enters)
    (cells_stay_erased f (last_image start) enters.no_bitmap
    (c.finish.ensures.cuts (after_settle (all_placed (opened_disk f (last_image start))))
    (replayed_after f c.args.geometry.now (g.D.Disk.identity c.args.disk.now) c.args.tags.now (g.D.Disk.moments c.args.disk.now) start c.requires.replaying.geometry told
    (reads_whole (g.D.Disk.identity c.args.disk.now) (g.D.Disk.moments c.args.disk.now) (g.met.D.Disk.reads_an_image c.args.disk.now) (g.met.D.Disk.whole_sectors c.args.disk.now) start told) enters c.args.journal.now (c.requires.journal start told))
    (c.in_ok-replay_journal.ensures.settled f start told enters)))

pub returns-clause-left : goal.returns-clause-left
returns-clause-left g c = IfOk-weaker c.finish.result _ _ (λ at left f start told enters now told_now.
    leaves_same (opened_disk f (last_image start)) at _ now
    (left c.in_ok-replay_journal.ensures.pending (after_settle (all_placed (opened_disk f (last_image start))))
    (replayed_after f c.args.geometry.now (g.D.Disk.identity c.args.disk.now) c.args.tags.now (g.D.Disk.moments c.args.disk.now) start c.requires.replaying.geometry told
    (reads_whole (g.D.Disk.identity c.args.disk.now) (g.D.Disk.moments c.args.disk.now) (g.met.D.Disk.reads_an_image c.args.disk.now) (g.met.D.Disk.whole_sectors c.args.disk.now) start told) enters c.args.journal.now (c.requires.journal start told))
    (c.in_ok-replay_journal.ensures.settled f start told enters) now told_now)) c.finish.ensures.left

pub returns-in_err-replay_journal-clause-moments : goal.returns-in_err-replay_journal-clause-moments
returns-in_err-replay_journal-clause-moments g c = replay_only c.args.geometry.now c.replay_journal.ensures.moments

pub returns-clause-moments : goal.returns-clause-moments
returns-clause-moments g c = recovery_adds c.args.geometry.now c.replay_journal.ensures.moments c.finish.ensures.moments

pub returns-clause-place : goal.returns-clause-place
returns-clause-place g c =
    let geometry = c.args.geometry.now in
    let before = g.D.Disk.moments c.args.disk.now in
    goes_on geometry before c.finish.result
    (IfOk-weaker c.finish.result _ (λ at. HasNow (λ start. at.next ≡ next_after_walk (walk_of geometry (last_image start))) before) (λ at next start told. next ∙ sym (ap next_after_walk (c.requires.journal start told).plan_)) c.finish.ensures.next)
    c.finish.ensures.place

pub returns-clause-rest : goal.returns-clause-rest
returns-clause-rest g c =
    let geometry = geometry_of c.args.geometry.now c.args.tags.now (g.D.Disk.identity c.args.disk.now) (g.D.Disk.moments c.args.disk.now) c.requires.replaying.geometry c.requires.replaying.store_is in
    recovery_rests c.args.geometry.now c.replay_journal.ensures.moments (2 ^ 48) c.args.journal.now.plan geometry (λ start told. (c.requires.journal start told).plan_)
    c.finish.ensures.rest c.finish.ensures.moments

pub returns-in_err-replay_journal-clause-rest : goal.returns-in_err-replay_journal-clause-rest
returns-in_err-replay_journal-clause-rest g c = placing_rests c.args.geometry.now c.replay_journal.ensures.moments

pub returns-in_err-replay_journal-clause-in_place : goal.returns-in_err-replay_journal-clause-in_place
returns-in_err-replay_journal-clause-in_place g c none start told already = c.replay_journal.ensures.in_place none start told already.in_place

pub returns-clause-in_place : goal.returns-clause-in_place
returns-clause-in_place g c none start told already =
    let G = c.args.geometry.now in
    let geometry = geometry_of G c.args.tags.now (g.D.Disk.identity c.args.disk.now) (g.D.Disk.moments c.args.disk.now) c.requires.replaying.geometry c.requires.replaying.store_is in
    let at = state_at_rest G (2 ^ 48) (last_image start) c.args.journal.now.plan geometry (c.requires.journal start told).plan_ already.rests in
    subst (λ (m : List Content). OnlySyncs (g.D.Disk.moments c.args.disk.now) m) (sym (c.finish.ensures.rest already.rests.next already.rests.number at))
    (c.replay_journal.ensures.in_place none start told already.in_place)

pub returns-in_err-replay_journal-clause-blank : goal.returns-in_err-replay_journal-clause-blank
returns-in_err-replay_journal-clause-blank g c =
    let geometry = geometry_of c.args.geometry.now c.args.tags.now (g.D.Disk.identity c.args.disk.now) (g.D.Disk.moments c.args.disk.now) c.requires.replaying.geometry c.requires.replaying.store_is in
    placing_fills c.args.geometry.now (2 ^ 48) c.args.journal.now geometry c.requires.journal c.replay_journal.ensures.moments

pub returns-clause-blank : goal.returns-clause-blank
returns-clause-blank g c =
    let geometry = geometry_of c.args.geometry.now c.args.tags.now (g.D.Disk.identity c.args.disk.now) (g.D.Disk.moments c.args.disk.now) c.requires.replaying.geometry c.requires.replaying.store_is in
    recovery_fills c.args.geometry.now (2 ^ 48) c.args.journal.now geometry c.requires.journal c.replay_journal.ensures.moments c.finish.ensures.blank c.finish.ensures.moments
