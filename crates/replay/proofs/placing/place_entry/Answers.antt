use Rattle.std.proofs.Common.{◌≡◌, ◌*◌, ◌^◌, ◌/◌, ◌<◌, ℕ, None, Some, sym, ◌∙◌, ap, subst}
use Rattle.std.proofs.lemmas.Bool.{false≢true}
use Rattle.disk_model.specs.Disk.{last_image}
use Rattle.image_model.specs.Cells.{last_entry, replayed_entries}
use Rattle.image_model.specs.Geometry.{Geometry, Shape, data_at}
use Rattle.image_model.specs.Section.{Entry}
use Rattle.image_model.specs.Sectors.{bytes_at}
use Rattle.journal_model.specs.Entries.{cell_of}
use Rattle.journal_reading.specs.Entries.{entry_with}
use Rattle.journal_reading.specs.Index.{numbered_entry}
use Rattle.journal_reading.specs.Journal.{journal_image}
use Rattle.journal_reading.specs.Newest.{newest_in}
use Rattle.journal_reading.proofs.PlacesLemmas.{IsWalk-fits, place-inside}
use Rattle.commit_id.specs.Grid.{as_grid}
use Rattle.tag_store.specs.Store.{given_tags}
use Rattle.replay.specs.Replaying.{HasAmid, last_cell, without}
use Rattle.replay.proofs.ReplayingLemmas.{among_entries, geometry_of, numbered_read}
use Rattle.replay.proofs.TurnedLemmas.{newest_cell, newest_entry, turned_older, turned_one, turned_unused}
use Rattle.replay.proofs.WritesLemmas.{among_more}
use Rattle.replay.proofs.placing.place_entry.Goals as goal

pub entry_place-place-requires-clause-geometry : goal.entry_place-place-requires-clause-geometry
entry_place-place-requires-clause-geometry g c =
    let G = c.args.read.now.geometry.now in
    let B = c.args.read.now.bytes.now in
    let journal = c.args.read.now.journal.now in
    let replaying = c.requires.replaying in
    let geometry = geometry_of G c.args.tags.now (g.D.Disk.identity c.args.disk.now) (g.D.Disk.moments c.args.disk.now) replaying.geometry replaying.store_is in
    geometry

pub entry_place-place-requires-clause-walk : goal.entry_place-place-requires-clause-walk
entry_place-place-requires-clause-walk g c =
    let fits = c.requires.replaying.fits in
    IsWalk-fits c.args.read.now.geometry.now (as_grid c.args.read.now.journal.now.grid) c.args.read.now.journal.now.plan fits.grid_ fits.plan_

pub read_entry-requires-clause-section : goal.read_entry-requires-clause-section
read_entry-requires-clause-section g c =
    let G = c.args.read.now.geometry.now in
    let B = c.args.read.now.bytes.now in
    let journal = c.args.read.now.journal.now in
    let replaying = c.requires.replaying in
    let geometry = geometry_of G c.args.tags.now (g.D.Disk.identity c.args.disk.now) (g.D.Disk.moments c.args.disk.now) replaying.geometry replaying.store_is in
    let place = c.entry_place-place.result in
    let inside = place-inside G journal.plan.walk c.args.number place (IsWalk-fits G (as_grid journal.grid) journal.plan replaying.fits.grid_ replaying.fits.plan_) c.entry_place-place.ensures in
    inside.0

pub read_entry-requires-clause-entry : goal.read_entry-requires-clause-entry
read_entry-requires-clause-entry g c =
    let G = c.args.read.now.geometry.now in
    let B = c.args.read.now.bytes.now in
    let journal = c.args.read.now.journal.now in
    let replaying = c.requires.replaying in
    let geometry = geometry_of G c.args.tags.now (g.D.Disk.identity c.args.disk.now) (g.D.Disk.moments c.args.disk.now) replaying.geometry replaying.store_is in
    let place = c.entry_place-place.result in
    let inside = place-inside G journal.plan.walk c.args.number place (IsWalk-fits G (as_grid journal.grid) journal.plan replaying.fits.grid_ replaying.fits.plan_) c.entry_place-place.ensures in
    inside.1

pub place_view-requires-clause-block : goal.place_view-requires-clause-block
place_view-requires-clause-block g c =
    let G = c.args.read.now.geometry.now in
    let replaying = c.requires.replaying in
    let spb : c.shape.result.spb ≡ G.shape.spb = ap (λ (x : Shape). x.spb) c.shape.ensures.shape in
    let sector = c.in-Some.view.sector in
    let own = sector / c.shape.result.spb in
    let own_is : own ≡ sector / G.shape.spb = ap (λ (n : ℕ). sector / n) spb in
    let low : own < G.blocks = replaying.fits.inside own c.args.number (c.is_newest.ensures.0 c.if-is_newest.true) in
    record {
      block_ = record {
        low = subst (λ (x : Geometry). sector / x.shape.spb < x.blocks) replaying.geometry (subst (λ (n : ℕ). n < G.blocks) own_is low);
        size = c.read_entry.auto.block ∙ c.requires.block ∙ ap (λ (x : Geometry). 512 * x.shape.spb) replaying.geometry;
      };
      tag_size = c.in-Some.ensures.tag ∙ ap (λ (x : Geometry). x.shape.tag_size) replaying.geometry;
    }

pub returns-in_err-place_view-clause-stands : goal.returns-in_err-place_view-clause-stands
returns-in_err-place_view-clause-stands g c d to read has =
    let G = c.args.read.now.geometry.now in
    let B = c.args.read.now.bytes.now in
    let journal = c.args.read.now.journal.now in
    let replaying = c.requires.replaying in
    let geometry = geometry_of G c.args.tags.now (g.D.Disk.identity c.args.disk.now) (g.D.Disk.moments c.args.disk.now) replaying.geometry replaying.store_is in
    let place = c.entry_place-place.result in
    let inside = place-inside G journal.plan.walk c.args.number place (IsWalk-fits G (as_grid journal.grid) journal.plan replaying.fits.grid_ replaying.fits.plan_) c.entry_place-place.ensures in
    let entry = entry_with c.read_entry.new.block c.in-Some.view in
    let spb : c.shape.result.spb ≡ G.shape.spb = ap (λ (x : Shape). x.spb) c.shape.ensures.shape in
    let sector = c.in-Some.view.sector in
    let own = sector / c.shape.result.spb in
    let own_is : own ≡ sector / G.shape.spb = ap (λ (n : ℕ). sector / n) spb in
    let used : Some entry ≡ numbered_entry G d.journal c.args.number = c.in-Some.ensures.entry ∙ numbered_read G (2 ^ 48) B journal d.journal geometry read c.args.number place c.entry_place-place.ensures inside.0 in
    let cell = newest_cell d G (newest_in journal.newest) to read.on.newest_ c.args.number entry own used own_is (c.is_newest.ensures.0 c.if-is_newest.true) in
    let there : last_cell d (sector / c.args.tags.now.geometry.shape.spb) ≡ cell_of entry = ap (λ (x : Geometry). last_cell d (sector / x.shape.spb)) (sym replaying.geometry) ∙ ap (last_cell d) (sym own_is) ∙ cell in
    c.place_view.ensures.stands d has.ahead has.ahead there has.amid

pub returns-in_ok-place_view-clause-stands : goal.returns-in_ok-place_view-clause-stands
returns-in_ok-place_view-clause-stands g c d to read has =
    let G = c.args.read.now.geometry.now in
    let B = c.args.read.now.bytes.now in
    let journal = c.args.read.now.journal.now in
    let replaying = c.requires.replaying in
    let geometry = geometry_of G c.args.tags.now (g.D.Disk.identity c.args.disk.now) (g.D.Disk.moments c.args.disk.now) replaying.geometry replaying.store_is in
    let place = c.entry_place-place.result in
    let inside = place-inside G journal.plan.walk c.args.number place (IsWalk-fits G (as_grid journal.grid) journal.plan replaying.fits.grid_ replaying.fits.plan_) c.entry_place-place.ensures in
    let entry = entry_with c.read_entry.new.block c.in-Some.view in
    let spb : c.shape.result.spb ≡ G.shape.spb = ap (λ (x : Shape). x.spb) c.shape.ensures.shape in
    let sector = c.in-Some.view.sector in
    let own = sector / c.shape.result.spb in
    let own_is : own ≡ sector / G.shape.spb = ap (λ (n : ℕ). sector / n) spb in
    let used : Some entry ≡ numbered_entry G d.journal c.args.number = c.in-Some.ensures.entry ∙ numbered_read G (2 ^ 48) B journal d.journal geometry read c.args.number place c.entry_place-place.ensures inside.0 in
    let cell = newest_cell d G (newest_in journal.newest) to read.on.newest_ c.args.number entry own used own_is (c.is_newest.ensures.0 c.if-is_newest.true) in
    let there : last_cell d (sector / c.args.tags.now.geometry.shape.spb) ≡ cell_of entry = ap (λ (x : Geometry). last_cell d (sector / x.shape.spb)) (sym replaying.geometry) ∙ ap (last_cell d) (sym own_is) ∙ cell in
    c.place_view.ensures.stands d has.ahead has.ahead there has.amid

pub returns-in_ok-place_view-clause-placed : goal.returns-in_ok-place_view-clause-placed
returns-in_ok-place_view-clause-placed g c d to read has =
    let G = c.args.read.now.geometry.now in
    let B = c.args.read.now.bytes.now in
    let journal = c.args.read.now.journal.now in
    let replaying = c.requires.replaying in
    let geometry = geometry_of G c.args.tags.now (g.D.Disk.identity c.args.disk.now) (g.D.Disk.moments c.args.disk.now) replaying.geometry replaying.store_is in
    let place = c.entry_place-place.result in
    let inside = place-inside G journal.plan.walk c.args.number place (IsWalk-fits G (as_grid journal.grid) journal.plan replaying.fits.grid_ replaying.fits.plan_) c.entry_place-place.ensures in
    let entry = entry_with c.read_entry.new.block c.in-Some.view in
    let spb : c.shape.result.spb ≡ G.shape.spb = ap (λ (x : Shape). x.spb) c.shape.ensures.shape in
    let sector = c.in-Some.view.sector in
    let own = sector / c.shape.result.spb in
    let own_is : own ≡ sector / G.shape.spb = ap (λ (n : ℕ). sector / n) spb in
    let used : Some entry ≡ numbered_entry G d.journal c.args.number = c.in-Some.ensures.entry ∙ numbered_read G (2 ^ 48) B journal d.journal geometry read c.args.number place c.entry_place-place.ensures inside.0 in
    let cell = newest_cell d G (newest_in journal.newest) to read.on.newest_ c.args.number entry own used own_is (c.is_newest.ensures.0 c.if-is_newest.true) in
    let there : last_cell d (sector / c.args.tags.now.geometry.shape.spb) ≡ cell_of entry = ap (λ (x : Geometry). last_cell d (sector / x.shape.spb)) (sym replaying.geometry) ∙ ap (last_cell d) (sym own_is) ∙ cell in
    let new = c.place_view.new.tags in
    let moments = g.D.Disk.moments c.place_view.new.disk in
    let same : own ≡ sector / c.args.tags.now.geometry.shape.spb = own_is ∙ ap (λ (x : Geometry). sector / x.shape.spb) replaying.geometry in
    turned_one d G (newest_in journal.newest) to read.on.newest_ c.args.number entry own used own_is c.args.tags.now new (g.D.Disk.moments c.args.disk.now) moments has
    (subst (λ (n : ℕ). HasAmid d (without n has.ahead) (without n has.ahead) new moments) (sym same) (c.in_ok-place_view.ensures.placed d has.ahead has.ahead there has.amid))

pub returns-else-is_newest-clause-placed : goal.returns-else-is_newest-clause-placed
returns-else-is_newest-clause-placed g c d to read has =
    let G = c.args.read.now.geometry.now in
    let B = c.args.read.now.bytes.now in
    let journal = c.args.read.now.journal.now in
    let replaying = c.requires.replaying in
    let geometry = geometry_of G c.args.tags.now (g.D.Disk.identity c.args.disk.now) (g.D.Disk.moments c.args.disk.now) replaying.geometry replaying.store_is in
    let place = c.entry_place-place.result in
    let inside = place-inside G journal.plan.walk c.args.number place (IsWalk-fits G (as_grid journal.grid) journal.plan replaying.fits.grid_ replaying.fits.plan_) c.entry_place-place.ensures in
    let entry = entry_with c.read_entry.new.block c.in-Some.view in
    let spb : c.shape.result.spb ≡ G.shape.spb = ap (λ (x : Shape). x.spb) c.shape.ensures.shape in
    let sector = c.in-Some.view.sector in
    let own = sector / c.shape.result.spb in
    let own_is : own ≡ sector / G.shape.spb = ap (λ (n : ℕ). sector / n) spb in
    let used : Some entry ≡ numbered_entry G d.journal c.args.number = c.in-Some.ensures.entry ∙ numbered_read G (2 ^ 48) B journal d.journal geometry read c.args.number place c.entry_place-place.ensures inside.0 in
    turned_older d G (newest_in journal.newest) to read.on.newest_ c.args.number entry own used own_is c.args.tags.now (g.D.Disk.moments c.args.disk.now)
    (λ is. false≢true (sym c.if-is_newest.false ∙ c.is_newest.ensures.1 is)) has

pub returns-in_err-place_view-clause-moments : goal.returns-in_err-place_view-clause-moments
returns-in_err-place_view-clause-moments g c =
    let place = c.entry_place-place.result in
    among_more c.args.read.now.geometry.now _ _ (λ (e : Entry) is.
    among_entries c.args.read.now.geometry.now (journal_image c.args.read.now.bytes.now) c.args.read.now.journal.now.plan.walk c.args.number place e c.entry_place-place.ensures
    (sym c.in-Some.ensures.entry ∙ ap (λ (x : Entry). Some x) (sym is))) c.place_view.ensures.moments

pub returns-in_ok-place_view-clause-moments : goal.returns-in_ok-place_view-clause-moments
returns-in_ok-place_view-clause-moments g c =
    let place = c.entry_place-place.result in
    among_more c.args.read.now.geometry.now _ _ (λ (e : Entry) is.
    among_entries c.args.read.now.geometry.now (journal_image c.args.read.now.bytes.now) c.args.read.now.journal.now.plan.walk c.args.number place e c.entry_place-place.ensures
    (sym c.in-Some.ensures.entry ∙ ap (λ (x : Entry). Some x) (sym is))) c.place_view.ensures.moments

pub returns-in_err-place_view-clause-still : goal.returns-in_err-place_view-clause-still
returns-in_err-place_view-clause-still g c none start told read are =
    let G = c.args.read.now.geometry.now in
    let B = c.args.read.now.bytes.now in
    let journal = c.args.read.now.journal.now in
    let replaying = c.requires.replaying in
    let geometry = geometry_of G c.args.tags.now (g.D.Disk.identity c.args.disk.now) (g.D.Disk.moments c.args.disk.now) replaying.geometry replaying.store_is in
    let place = c.entry_place-place.result in
    let inside = place-inside G journal.plan.walk c.args.number place (IsWalk-fits G (as_grid journal.grid) journal.plan replaying.fits.grid_ replaying.fits.plan_) c.entry_place-place.ensures in
    let entry = entry_with c.read_entry.new.block c.in-Some.view in
    let spb : c.shape.result.spb ≡ G.shape.spb = ap (λ (x : Shape). x.spb) c.shape.ensures.shape in
    let sector = c.in-Some.view.sector in
    let own = sector / c.shape.result.spb in
    let own_is : own ≡ sector / G.shape.spb = ap (λ (n : ℕ). sector / n) spb in
    let used : Some entry ≡ numbered_entry G (last_image start) c.args.number = c.in-Some.ensures.entry ∙ numbered_read G (2 ^ 48) B journal (last_image start) geometry read c.args.number place c.entry_place-place.ensures inside.0 in
    let last : last_entry G (replayed_entries G (last_image start)) (sector / G.shape.spb) ≡ Some entry =
    ap (last_entry G (replayed_entries G (last_image start))) (sym own_is)
    ∙ newest_entry G (last_image start) (newest_in journal.newest) own c.args.number entry read.on.newest_ (c.is_newest.ensures.0 c.if-is_newest.true) used in
    c.place_view.ensures.still none start told
    (ap (λ (x : Geometry). bytes_at (last_image start) (data_at x (sector / x.shape.spb)) x.shape.spb) (sym replaying.geometry) ∙ are.data_ (sector / G.shape.spb) entry last)
    (ap (λ (x : Geometry). given_tags c.args.tags.now start (sector / x.shape.spb)) (sym replaying.geometry) ∙ are.tag_ (sector / G.shape.spb) entry last)

pub returns-in_ok-place_view-clause-still : goal.returns-in_ok-place_view-clause-still
returns-in_ok-place_view-clause-still g c none start told read are =
    let G = c.args.read.now.geometry.now in
    let B = c.args.read.now.bytes.now in
    let journal = c.args.read.now.journal.now in
    let replaying = c.requires.replaying in
    let geometry = geometry_of G c.args.tags.now (g.D.Disk.identity c.args.disk.now) (g.D.Disk.moments c.args.disk.now) replaying.geometry replaying.store_is in
    let place = c.entry_place-place.result in
    let inside = place-inside G journal.plan.walk c.args.number place (IsWalk-fits G (as_grid journal.grid) journal.plan replaying.fits.grid_ replaying.fits.plan_) c.entry_place-place.ensures in
    let entry = entry_with c.read_entry.new.block c.in-Some.view in
    let spb : c.shape.result.spb ≡ G.shape.spb = ap (λ (x : Shape). x.spb) c.shape.ensures.shape in
    let sector = c.in-Some.view.sector in
    let own = sector / c.shape.result.spb in
    let own_is : own ≡ sector / G.shape.spb = ap (λ (n : ℕ). sector / n) spb in
    let used : Some entry ≡ numbered_entry G (last_image start) c.args.number = c.in-Some.ensures.entry ∙ numbered_read G (2 ^ 48) B journal (last_image start) geometry read c.args.number place c.entry_place-place.ensures inside.0 in
    let last : last_entry G (replayed_entries G (last_image start)) (sector / G.shape.spb) ≡ Some entry =
    ap (last_entry G (replayed_entries G (last_image start))) (sym own_is)
    ∙ newest_entry G (last_image start) (newest_in journal.newest) own c.args.number entry read.on.newest_ (c.is_newest.ensures.0 c.if-is_newest.true) used in
    c.place_view.ensures.still none start told
    (ap (λ (x : Geometry). bytes_at (last_image start) (data_at x (sector / x.shape.spb)) x.shape.spb) (sym replaying.geometry) ∙ are.data_ (sector / G.shape.spb) entry last)
    (ap (λ (x : Geometry). given_tags c.args.tags.now start (sector / x.shape.spb)) (sym replaying.geometry) ∙ are.tag_ (sector / G.shape.spb) entry last)

pub returns-in_default-clause-placed : goal.returns-in_default-clause-placed
returns-in_default-clause-placed g c d to read has =
    let G = c.args.read.now.geometry.now in
    let B = c.args.read.now.bytes.now in
    let journal = c.args.read.now.journal.now in
    let replaying = c.requires.replaying in
    let geometry = geometry_of G c.args.tags.now (g.D.Disk.identity c.args.disk.now) (g.D.Disk.moments c.args.disk.now) replaying.geometry replaying.store_is in
    let place = c.entry_place-place.result in
    let inside = place-inside G journal.plan.walk c.args.number place (IsWalk-fits G (as_grid journal.grid) journal.plan replaying.fits.grid_ replaying.fits.plan_) c.entry_place-place.ensures in
    let none : None ≡ numbered_entry G d.journal c.args.number = c.in_default.ensures.entry ∙ numbered_read G (2 ^ 48) B journal d.journal geometry read c.args.number place c.entry_place-place.ensures inside.0 in
    turned_unused d G (newest_in journal.newest) to read.on.newest_ c.args.number c.args.tags.now (g.D.Disk.moments c.args.disk.now) none has
