use Rattle.std.proofs.Common.{arith}
use Rattle.disk_model.specs.Disk.{last_image}
use Rattle.bitmap_model.proofs.BitLemmas.{bitmap_fits_at}
use Rattle.sector_window.proofs.WindowLemmas.{fresh_window}
use Rattle.dump_model.proofs.DumpLemmas.{dump_in-bitmap}
use Rattle.image_dump.proofs.dumping.show_bitmap.Goals as goal

pub count_dirty-requires-clause-geometry : goal.count_dirty-requires-clause-geometry
count_dirty-requires-clause-geometry g c =
    let format = c.args.format in
    record {
      geometry = c.requires.format.geometry;
      fits = bitmap_fits_at format.fields (g.D.Disk.identity c.args.disk.now).sectors format.geometry c.requires.format.told c.requires.bitmap;
    }

pub count_dirty-requires-clause-window : goal.count_dirty-requires-clause-window
count_dirty-requires-clause-window g c =
    fresh_window 1 128 c.in_ok-window.window (g.D.Disk.moments c.args.disk.now) c.in_ok-window.ensures (omega arith)

pub returns-clause-told : goal.returns-clause-told
returns-clause-told g c x told =
    dump_in-bitmap c.args.format (last_image x) c.in_ok-set.set c.requires.bitmap (c.in_ok-set.ensures.count x told)
