use Rattle.std.proofs.Common.{◌≡◌, ◌≤◌, ◌^◌, refl, sym, ◌∙◌, ap, subst}
use Rattle.image_model.specs.Geometry.{Geometry, regions}
use Rattle.device_model.specs.Regions.{written_back}
use Rattle.journal_laws.proofs.RegionLemmas.{regions_flushed}
use Rattle.bitmap_model.specs.Steps.{after_flush}
use Rattle.dirty_bitmap.proofs.BitsLemmas.{regions-few}
use Rattle.bitmap_mode.specs.States.{AreSameCounts, States, counts_of}
use Rattle.bitmap_mode.specs.Standing.{StandsAs}
use Rattle.bitmap_mode.proofs.StatesLemmas.{regions_same}
use Rattle.bitmap_mode.proofs.states.RegionStates.flush.Goals as goal

pub returns-in_err-flush_cells-clause-through : goal.returns-in_err-flush_cells-clause-through
returns-in_err-flush_cells-clause-through g c d marked stands = c.flush_cells.ensures.through d marked stands.geometry stands.now

pub rest_all-requires-clause-few : goal.rest_all-requires-clause-few
rest_all-requires-clause-few g c =
    let here : c.args.tags.now.geometry ≡ c.self.inside.geometry = c.requires.same ∙ ap (λ (s : States). s.geometry) (sym c.self.view_is) in
    rw c.self.invariant.fresh_size (subst (λ (y : Geometry). regions y ≤ 2 ^ 48) here (regions-few c.args.tags.now.geometry (g.D.Disk.identity c.args.disk.now).sectors c.requires.store.geometry))

pub returns-clause-flushed : goal.returns-clause-flushed
returns-clause-flushed g c d marked stands =
    let s : States = record { geometry = c.self.inside.geometry; bits = c.self.inside.bits; awaiting = c.self.inside.awaiting; fresh = c.self.inside.fresh } in
    let new : States = record { geometry = c.self.inside.geometry; bits = c.self.inside.bits; awaiting = c.self.inside.awaiting; fresh = c.rest_all.new.fresh } in
    let here = subst (λ (x : States). StandsAs d marked x c.args.tags.now (g.D.Disk.moments c.args.disk.now)) (sym c.self.view_is) stands in
    let counts : AreSameCounts s.geometry (counts_of new) (written_back (counts_of s)) = record {
      set_bits = λ r low. refl;
      awaiting = λ r low. refl;
      fresh = λ r low. c.rest_all.ensures.none r (rw (c.rest_all.ensures.size, c.self.invariant.fresh_size) low);
    } in
    record {
      geometry = stands.geometry ∙ sym c.flush_cells.ensures.geometry;
      regions_ = regions_same s.geometry (after_flush d) (counts_of new) (written_back (counts_of s)) (stands.geometry ∙ c.requires.same ∙ ap (λ (x : States). x.geometry) (sym c.self.view_is)) counts
          (regions_flushed (counts_of s) d here.regions_);
      now = c.in_ok-flush_cells.ensures.flushed d marked stands.geometry stands.now;
    }

pub returns-clause-through : goal.returns-clause-through
returns-clause-through g c d marked stands = c.flush_cells.ensures.through d marked stands.geometry stands.now
