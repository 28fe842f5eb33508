use Rattle.std.proofs.Common.{rules, ◌≡◌}
use Rattle.std.specs.Option.{option_map}
use Rattle.disk_model.specs.Moments.{content_now}
use Rattle.mode_change.specs.ToBitmap.{MarksFormat, bitmap_format, with_bitmap}
use Rattle.mode_change.proofs.ChangeLemmas.{amid_synced, amid_to_head, amid_to_zeros, opened_of, steps_of}
use Rattle.mode_change.proofs.to_bitmap.change_to_bitmap.Goals as goal

pub returns-in_err-sync-clause-moments : goal.returns-in_err-sync-clause-moments
returns-in_err-sync-clause-moments g c =
    let disk = c.args.disk.now in
    let f = c.args.format.now in
    let after_is : c.bitmap_format-after.result ≡ bitmap_format f = c.bitmap_format-after.ensures.format in
    let marks : MarksFormat (g.D.Disk.identity disk).sectors f c.bitmap_format-after.result = search rules in
    steps_of (g.D.Disk.identity disk).sectors f c.bitmap_format-after.result after_is c.requires.format marks (g.D.Disk.moments disk) (g.met.D.Disk.reads_an_image disk)
    (amid_synced f c.sync.ensures.moments)

pub returns-in_err-zero_bitmap-clause-moments : goal.returns-in_err-zero_bitmap-clause-moments
returns-in_err-zero_bitmap-clause-moments g c =
    let disk = c.args.disk.now in
    let f = c.args.format.now in
    let after_is : c.bitmap_format-after.result ≡ bitmap_format f = c.bitmap_format-after.ensures.format in
    let marks : MarksFormat (g.D.Disk.identity disk).sectors f c.bitmap_format-after.result = search rules in
    steps_of (g.D.Disk.identity disk).sectors f c.bitmap_format-after.result after_is c.requires.format marks (g.D.Disk.moments disk) (g.met.D.Disk.reads_an_image disk)
    (amid_to_zeros f c.bitmap_format-after.result after_is c.sync.ensures.moments c.in_ok-sync.ensures.synced c.zero_bitmap.ensures.moments)

pub returns-in_err-write_head-clause-moments : goal.returns-in_err-write_head-clause-moments
returns-in_err-write_head-clause-moments g c =
    let disk = c.args.disk.now in
    let f = c.args.format.now in
    let after_is : c.bitmap_format-after.result ≡ bitmap_format f = c.bitmap_format-after.ensures.format in
    let marks : MarksFormat (g.D.Disk.identity disk).sectors f c.bitmap_format-after.result = search rules in
    steps_of (g.D.Disk.identity disk).sectors f c.bitmap_format-after.result after_is c.requires.format marks (g.D.Disk.moments disk) (g.met.D.Disk.reads_an_image disk)
    (amid_to_head f c.bitmap_format-after.result after_is c.sync.ensures.moments c.in_ok-sync.ensures.synced c.zero_bitmap.ensures.moments c.in_ok-zero_bitmap.ensures.written c.write_head.ensures.moments)

pub returns-clause-moments : goal.returns-clause-moments
returns-clause-moments g c =
    let disk = c.args.disk.now in
    let f = c.args.format.now in
    let after_is : c.bitmap_format-after.result ≡ bitmap_format f = c.bitmap_format-after.ensures.format in
    let marks : MarksFormat (g.D.Disk.identity disk).sectors f c.bitmap_format-after.result = search rules in
    steps_of (g.D.Disk.identity disk).sectors f c.bitmap_format-after.result after_is c.requires.format marks (g.D.Disk.moments disk) (g.met.D.Disk.reads_an_image disk)
    (amid_to_head f c.bitmap_format-after.result after_is c.sync.ensures.moments c.in_ok-sync.ensures.synced c.zero_bitmap.ensures.moments c.in_ok-zero_bitmap.ensures.written c.write_head.ensures.moments)

pub returns-clause-opened : goal.returns-clause-opened
returns-clause-opened g c key =
    let disk = c.args.disk.now in
    let f = c.args.format.now in
    let after_is : c.bitmap_format-after.result ≡ bitmap_format f = c.bitmap_format-after.ensures.format in
    let marks : MarksFormat (g.D.Disk.identity disk).sectors f c.bitmap_format-after.result = search rules in
    let written : content_now (g.D.Disk.moments c.write_head.new.disk) ≡ option_map (with_bitmap f) (content_now (g.D.Disk.moments disk)) = search rules in
    opened_of (g.D.Disk.identity disk).sectors f c.bitmap_format-after.result after_is c.requires.format marks (g.D.Disk.moments disk) (g.met.D.Disk.reads_an_image disk) (g.D.Disk.moments c.write_head.new.disk) (g.met.D.Disk.whole_sectors disk) written key
