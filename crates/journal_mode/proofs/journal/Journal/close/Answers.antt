use Rattle.std.proofs.Common.{refl, sym, ◌∙◌, ap}
use Rattle.disk_model.proofs.MomentsLemmas.{EachMoment-then}
use Rattle.journal_model.specs.Ring.{JournalRing}
use Rattle.journal_mode.specs.Journal.{PlacedRing}
use Rattle.journal_mode.proofs.ClosingLemmas.{batch_geometry, closed_is, flush_geometry, flushed_standing, frees_all, left_flushed, left_placed, placed_standing}
use Rattle.journal_mode.proofs.WritingLemmas.{batches_only, flushed_adds, then_entries, then_tags}
use Rattle.journal_mode.proofs.journal.Journal.close.Goals as goal

pub place_all-requires-clause-geometry : goal.place_all-requires-clause-geometry
place_all-requires-clause-geometry g c = ap (λ (j : PlacedRing). j.ring.geometry) c.in_ok-flush.ensures.committed ∙ flush_geometry c.args.self.now ∙ c.requires.geometry

pub settle-requires-clause-geometry : goal.settle-requires-clause-geometry
settle-requires-clause-geometry g c =
    ap (λ (r : JournalRing). r.geometry) c.place_all.ensures.ring ∙ ap (λ (j : PlacedRing). j.ring.geometry) c.in_ok-flush.ensures.committed
    ∙ flush_geometry c.args.self.now ∙ c.requires.geometry ∙ sym c.place_all.ensures.stays.geometry

pub returns-in_err-place_all-clause-left : goal.returns-in_err-place_all-clause-left
returns-in_err-place_all-clause-left g c w stands =
    EachMoment-then (c.flush.ensures.left w stands)
    (left_flushed w c.flush.new.self c.args.tags.now (c.in_ok-flush.ensures.flushed w stands) c.place_all.ensures.left)

pub returns-in_err-moved-clause-left : goal.returns-in_err-moved-clause-left
returns-in_err-moved-clause-left g c w stands =
    let flushed = c.in_ok-flush.ensures.flushed w stands in
    EachMoment-then (c.flush.ensures.left w stands)
    (left_flushed w c.flush.new.self c.args.tags.now flushed (λ x there.
    EachMoment-then (c.place_all.ensures.left x there)
    (left_placed x c.place_all.new.self c.args.tags.now c.place_all.new.tags (c.in_ok-place_all.ensures.placed x there) c.settle.ensures.left)))

pub returns-clause-left : goal.returns-clause-left
returns-clause-left g c w stands =
    let flushed = c.in_ok-flush.ensures.flushed w stands in
    EachMoment-then (c.flush.ensures.left w stands)
    (left_flushed w c.flush.new.self c.args.tags.now flushed (λ x there.
    EachMoment-then (c.place_all.ensures.left x there)
    (left_placed x c.place_all.new.self c.args.tags.now c.place_all.new.tags (c.in_ok-place_all.ensures.placed x there) c.settle.ensures.left)))

pub returns-clause-free : goal.returns-clause-free
returns-clause-free g c =
    frees_all c.in_ok-moved.moved c.place_all.new.self.placement c.settle.new.self.placement c.place_all.new.self.ring c.settle.new.self.ring c.place_all.new.tags c.settle.new.tags c.place_all.new.disk c.settle.new.disk
    c.in_ok-moved.ensures.moved c.in_ok-place_all.ensures.all (ap (λ (r : JournalRing). r.opened) c.place_all.ensures.ring ∙ c.in_ok-flush.ensures.all)

pub returns-clause-closed : goal.returns-clause-closed
returns-clause-closed g c w stands idle =
    let start = g.D.Disk.moments c.args.disk.now in
    let before = g.D.Disk.moments c.flush.new.disk in
    let middle = g.D.Disk.moments c.place_all.new.disk in
    let after = g.D.Disk.moments c.settle.new.disk in
    let store = c.args.tags.now in
    let then_ = c.place_all.new.tags in
    let flushed = c.in_ok-flush.ensures.flushed w stands in
    let placed = c.in_ok-place_all.ensures.placed (flushed_standing w c.flush.new.self c.place_all.new.self store then_ start before middle idle flushed) flushed.committed in
    closed_is w c.flush.new.self c.place_all.new.self store then_ start before middle idle flushed placed
    (ap (λ (r : JournalRing). r.opened) c.place_all.ensures.ring ∙ c.in_ok-flush.ensures.all) c.in_ok-place_all.ensures.all
    c.in_ok-moved.moved c.settle.new.self c.settle.new.tags after
    (c.in_ok-moved.ensures.settled (placed_standing w c.flush.new.self c.place_all.new.self store then_ start before middle idle flushed placed) placed.stands)
    (returns-clause-free g c)

pub returns-in_err-flush-clause-geometry : goal.returns-in_err-flush-clause-geometry
returns-in_err-flush-clause-geometry g c = (refl, batch_geometry c.args.self.now c.flush.new.self c.in_err-flush.ensures.err)

pub returns-in_err-place_all-clause-geometry : goal.returns-in_err-place_all-clause-geometry
returns-in_err-place_all-clause-geometry g c = (
  c.place_all.ensures.stays.geometry,
  ap (λ (r : JournalRing). r.geometry) c.place_all.ensures.ring ∙ ap (λ (j : PlacedRing). j.ring.geometry) c.in_ok-flush.ensures.committed ∙ flush_geometry c.args.self.now,
)

pub returns-in_err-moved-clause-geometry : goal.returns-in_err-moved-clause-geometry
returns-in_err-moved-clause-geometry g c = (
  c.settle.ensures.geometry.0 ∙ c.place_all.ensures.stays.geometry,
  c.settle.ensures.geometry.1 ∙ ap (λ (r : JournalRing). r.geometry) c.place_all.ensures.ring ∙ ap (λ (j : PlacedRing). j.ring.geometry) c.in_ok-flush.ensures.committed ∙ flush_geometry c.args.self.now,
)

pub returns-clause-geometry : goal.returns-clause-geometry
returns-clause-geometry g c = (
  c.settle.ensures.geometry.0 ∙ c.place_all.ensures.stays.geometry,
  c.settle.ensures.geometry.1 ∙ ap (λ (r : JournalRing). r.geometry) c.place_all.ensures.ring ∙ ap (λ (j : PlacedRing). j.ring.geometry) c.in_ok-flush.ensures.committed ∙ flush_geometry c.args.self.now,
)

pub returns-in_err-flush-clause-moments : goal.returns-in_err-flush-clause-moments
returns-in_err-flush-clause-moments g c = batches_only c.args.self.now c.flush.ensures.moments

pub returns-in_err-place_all-clause-moments : goal.returns-in_err-place_all-clause-moments
returns-in_err-place_all-clause-moments g c =
    let journal = c.args.self.now in
    let committed = c.in_ok-flush.ensures.committed in
    let same = ap (λ (j : PlacedRing). j.ring.geometry) committed ∙ flush_geometry journal in
    then_entries journal c.flush.ensures.moments (flushed_adds journal c.flush.new.self committed same c.place_all.ensures.moments)

pub returns-in_err-moved-clause-moments : goal.returns-in_err-moved-clause-moments
returns-in_err-moved-clause-moments g c =
    let journal = c.args.self.now in
    let committed = c.in_ok-flush.ensures.committed in
    let same = ap (λ (j : PlacedRing). j.ring.geometry) committed ∙ flush_geometry journal in
    then_tags journal c.place_all.new.tags (c.requires.geometry ∙ sym c.place_all.ensures.stays.geometry)
    (then_entries journal c.flush.ensures.moments (flushed_adds journal c.flush.new.self committed same c.place_all.ensures.moments))
    c.settle.ensures.moments.tags

pub returns-clause-moments : goal.returns-clause-moments
returns-clause-moments g c =
    let journal = c.args.self.now in
    let committed = c.in_ok-flush.ensures.committed in
    let same = ap (λ (j : PlacedRing). j.ring.geometry) committed ∙ flush_geometry journal in
    then_tags journal c.place_all.new.tags (c.requires.geometry ∙ sym c.place_all.ensures.stays.geometry)
    (then_entries journal c.flush.ensures.moments (flushed_adds journal c.flush.new.self committed same c.place_all.ensures.moments))
    c.settle.ensures.moments.tags
