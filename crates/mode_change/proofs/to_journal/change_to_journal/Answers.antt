use Rattle.std.proofs.Common.{rules, arith}
use Rattle.mode_change.specs.ToBitmap.{MarksFormat}
use Rattle.bitmap_model.proofs.BitLemmas.{bitmap_fits_at}
use Rattle.mode_change.proofs.JournalChangeLemmas.{amid_synced, amid_to_filling, amid_to_head, amid_to_rest, amid_to_zeros, opened_of, steps_of, written_of}
use Rattle.mode_change.proofs.to_journal.change_to_journal.Goals as goal

pub returns-in_err-sync-clause-moments : goal.returns-in_err-sync-clause-moments
returns-in_err-sync-clause-moments g c =
    let disk = c.args.disk.now in
    let f = c.args.format.now in
    let marks : MarksFormat (g.D.Disk.identity disk).sectors f c.journal_format-after.result = search rules in
    let empty = c.args.scratch.now in
    steps_of (g.D.Disk.identity disk).sectors f c.journal_format-after.result c.journal_format-after.ensures.format c.requires.format marks (g.D.Disk.moments disk) (g.met.D.Disk.reads_an_image disk) (g.met.D.Disk.whole_sectors disk) empty
    (amid_synced f empty c.sync.ensures.moments)

pub returns-in_err-zero_bitmap-clause-moments : goal.returns-in_err-zero_bitmap-clause-moments
returns-in_err-zero_bitmap-clause-moments g c =
    let disk = c.args.disk.now in
    let f = c.args.format.now in
    let marks : MarksFormat (g.D.Disk.identity disk).sectors f c.journal_format-after.result = search rules in
    let empty = c.zero_bitmap.new.scratch in
    steps_of (g.D.Disk.identity disk).sectors f c.journal_format-after.result c.journal_format-after.ensures.format c.requires.format marks (g.D.Disk.moments disk) (g.met.D.Disk.reads_an_image disk) (g.met.D.Disk.whole_sectors disk) empty
    (amid_to_zeros f c.journal_format-after.result c.journal_format-after.ensures.format empty c.sync.ensures.moments c.in_ok-sync.ensures.synced c.zero_bitmap.ensures.moments)

pub returns-in_err-write_rest-clause-moments : goal.returns-in_err-write_rest-clause-moments
returns-in_err-write_rest-clause-moments g c =
    let disk = c.args.disk.now in
    let f = c.args.format.now in
    let marks : MarksFormat (g.D.Disk.identity disk).sectors f c.journal_format-after.result = search rules in
    let empty = c.clear_sections.new.bytes in
    steps_of (g.D.Disk.identity disk).sectors f c.journal_format-after.result c.journal_format-after.ensures.format c.requires.format marks (g.D.Disk.moments disk) (g.met.D.Disk.reads_an_image disk) (g.met.D.Disk.whole_sectors disk) empty
    (amid_to_rest f c.journal_format-after.result c.journal_format-after.ensures.format empty c.sync.ensures.moments c.in_ok-sync.ensures.synced c.zero_bitmap.ensures.moments c.clear_sections.ensures c.in_ok-zero_bitmap.ensures.written c.write_rest.ensures.moments)

pub returns-in_err-write_head-clause-moments : goal.returns-in_err-write_head-clause-moments
returns-in_err-write_head-clause-moments g c =
    let disk = c.args.disk.now in
    let f = c.args.format.now in
    let marks : MarksFormat (g.D.Disk.identity disk).sectors f c.journal_format-after.result = search rules in
    let empty = c.clear_sections.new.bytes in
    steps_of (g.D.Disk.identity disk).sectors f c.journal_format-after.result c.journal_format-after.ensures.format c.requires.format marks (g.D.Disk.moments disk) (g.met.D.Disk.reads_an_image disk) (g.met.D.Disk.whole_sectors disk) empty
    (amid_to_head f c.journal_format-after.result c.journal_format-after.ensures.format empty c.sync.ensures.moments c.in_ok-sync.ensures.synced c.zero_bitmap.ensures.moments c.clear_sections.ensures c.in_ok-zero_bitmap.ensures.written c.write_rest.ensures.moments c.in_ok-write_rest.ensures.written c.write_head.ensures.moments)

pub returns-in_err-fill_blank-clause-moments : goal.returns-in_err-fill_blank-clause-moments
returns-in_err-fill_blank-clause-moments g c =
    let disk = c.args.disk.now in
    let f = c.args.format.now in
    let marks : MarksFormat (g.D.Disk.identity disk).sectors f c.journal_format-after.result = search rules in
    let empty = c.clear_sections.new.bytes in
    steps_of (g.D.Disk.identity disk).sectors f c.journal_format-after.result c.journal_format-after.ensures.format c.requires.format marks (g.D.Disk.moments disk) (g.met.D.Disk.reads_an_image disk) (g.met.D.Disk.whole_sectors disk) empty
    (amid_to_filling f c.journal_format-after.result c.journal_format-after.ensures.format empty c.sync.ensures.moments c.in_ok-sync.ensures.synced c.zero_bitmap.ensures.moments c.clear_sections.ensures c.in_ok-zero_bitmap.ensures.written c.write_rest.ensures.moments c.in_ok-write_rest.ensures.written c.write_head.ensures.moments c.in_ok-write_head.ensures.written c.fill_blank.ensures.moments)

pub returns-clause-moments : goal.returns-clause-moments
returns-clause-moments g c =
    let disk = c.args.disk.now in
    let f = c.args.format.now in
    let marks : MarksFormat (g.D.Disk.identity disk).sectors f c.journal_format-after.result = search rules in
    let empty = c.clear_sections.new.bytes in
    steps_of (g.D.Disk.identity disk).sectors f c.journal_format-after.result c.journal_format-after.ensures.format c.requires.format marks (g.D.Disk.moments disk) (g.met.D.Disk.reads_an_image disk) (g.met.D.Disk.whole_sectors disk) empty
    (amid_to_filling f c.journal_format-after.result c.journal_format-after.ensures.format empty c.sync.ensures.moments c.in_ok-sync.ensures.synced c.zero_bitmap.ensures.moments c.clear_sections.ensures c.in_ok-zero_bitmap.ensures.written c.write_rest.ensures.moments c.in_ok-write_rest.ensures.written c.write_head.ensures.moments c.in_ok-write_head.ensures.written c.fill_blank.ensures.moments)

pub returns-clause-written : goal.returns-clause-written
returns-clause-written g c =
    let f = c.args.format.now in
    written_of f c.journal_format-after.result c.journal_format-after.ensures.format c.clear_sections.new.bytes (g.D.Disk.moments c.args.disk.now) (g.D.Disk.moments c.sync.new.self) (g.D.Disk.moments c.zero_bitmap.new.disk) (g.D.Disk.moments c.write_rest.new.disk)
    (g.D.Disk.moments c.write_head.new.disk) (g.D.Disk.moments c.fill_blank.new.disk) c.in_ok-sync.ensures.synced c.in_ok-zero_bitmap.ensures.written c.in_ok-write_rest.ensures.written
    c.in_ok-write_head.ensures.written c.in_ok-fill_blank.ensures.written

pub returns-clause-opened : goal.returns-clause-opened
returns-clause-opened g c key =
    let disk = c.args.disk.now in
    let f = c.args.format.now in
    let marks : MarksFormat (g.D.Disk.identity disk).sectors f c.journal_format-after.result = search rules in
    let written = written_of f c.journal_format-after.result c.journal_format-after.ensures.format c.clear_sections.new.bytes (g.D.Disk.moments c.args.disk.now) (g.D.Disk.moments c.sync.new.self) (g.D.Disk.moments c.zero_bitmap.new.disk) (g.D.Disk.moments c.write_rest.new.disk)
    (g.D.Disk.moments c.write_head.new.disk) (g.D.Disk.moments c.fill_blank.new.disk) c.in_ok-sync.ensures.synced c.in_ok-zero_bitmap.ensures.written c.in_ok-write_rest.ensures.written
    c.in_ok-write_head.ensures.written c.in_ok-fill_blank.ensures.written in
    opened_of (g.D.Disk.identity disk).sectors f c.journal_format-after.result c.journal_format-after.ensures.format c.requires.format marks (g.D.Disk.moments disk) (g.met.D.Disk.reads_an_image disk) (g.met.D.Disk.whole_sectors disk) (g.D.Disk.moments c.fill_blank.new.disk) c.clear_sections.new.bytes c.clear_sections.ensures written key

pub zero_bitmap-requires-clause-fits : goal.zero_bitmap-requires-clause-fits
zero_bitmap-requires-clause-fits g c =
    let f = c.args.format.now in
    bitmap_fits_at f.fields (g.D.Disk.identity c.args.disk.now).sectors f.geometry c.requires.format.accepted.told c.requires.format.bitmap

pub zero_bitmap-requires-clause-scratch : goal.zero_bitmap-requires-clause-scratch
zero_bitmap-requires-clause-scratch g c =
    let f = c.args.format.now in
    let fits = bitmap_fits_at f.fields (g.D.Disk.identity c.args.disk.now).sectors f.geometry c.requires.format.accepted.told c.requires.format.bitmap in
    omega (arith, fits, c.requires.scratch)

pub clear_sections-requires-clause-geometry : goal.clear_sections-requires-clause-geometry
clear_sections-requires-clause-geometry g c = ((g.D.Disk.identity c.args.disk.now).sectors, c.requires.format.accepted.geometry)

pub write_rest-requires-clause-fits : goal.write_rest-requires-clause-fits
write_rest-requires-clause-fits g c =
    let f = c.args.format.now in
    bitmap_fits_at f.fields (g.D.Disk.identity c.args.disk.now).sectors f.geometry c.requires.format.accepted.told c.requires.format.bitmap

pub fill_blank-requires-clause-fits : goal.fill_blank-requires-clause-fits
fill_blank-requires-clause-fits g c =
    let f = c.args.format.now in
    bitmap_fits_at f.fields (g.D.Disk.identity c.args.disk.now).sectors f.geometry c.requires.format.accepted.told c.requires.format.bitmap
