use Rattle.std.proofs.Common.{◌≡◌, ◌≤◌, true, arith}
use Rattle.std.proofs.lemmas.Result.{err_from_is_err_and}
use Rattle.image_model.specs.declared.flags.TheConstants.{DIRTY_BITMAP}
use Rattle.image_model.specs.Superblock.{has_flag}
use Rattle.layout.proofs.RoomLemmas.{last_sector_fits, geometry_of-refused, geometry_of-small, geometry_of-long_bitmap, geometry_of-room}
use Rattle.layout.proofs.layout.Layout.with_room.Goals as goal

pub returns-in_err-layout-clause-told : goal.returns-in_err-layout-clause-told
returns-in_err-layout-clause-told c =
    let p = err_from_is_err_and c.from_residual.result c.from_residual.ensures.1 in
    rw (p.1, p.2)
    (geometry_of-refused c.args.fields c.args.disk_sectors _ c.in_err-layout.ensures.fault)

pub sector_at-need-requires-clause-fits : goal.sector_at-need-requires-clause-fits
sector_at-need-requires-clause-fits c =
    let last = last_sector_fits c.args.fields _ _ c.requires.fields c.in_ok-layout.ensures.within in
    omega arith

pub overflow_add-need : goal.overflow_add-need
overflow_add-need c =
    let last = last_sector_fits c.args.fields _ _ c.requires.fields c.in_ok-layout.ensures.within in
    omega arith

pub returns-then-have-need-clause-told : goal.returns-then-have-need-clause-told
returns-then-have-need-clause-told c =
    geometry_of-small c.args.fields c.args.disk_sectors c.sector_at-need.result _
    c.in_ok-layout.ensures.within c.sector_at-need.ensures c.if-have-need.true

pub returns-then-have-need-2-clause-told : goal.returns-then-have-need-2-clause-told
returns-then-have-need-2-clause-told c =
    let flag : has_flag DIRTY_BITMAP c.args.fields.flags ≡ true = grind arith in
    geometry_of-long_bitmap c.args.fields c.args.disk_sectors c.sector_at-need.result
    c.bitmap_sectors_for-need.result c.journal_sectors-have.result _
    c.in_ok-layout.ensures.within c.sector_at-need.ensures c.if-have-need.false flag
    c.bitmap_sectors_for-need.ensures c.journal_sectors-have.ensures c.if-have-need-2.true

pub returns-clause-told : goal.returns-clause-told
returns-clause-told c =
    let short : has_flag DIRTY_BITMAP c.args.fields.flags ≡ true
    → c.bitmap_sectors_for-need.result ≤ c.journal_sectors-have.result = grind arith in
    geometry_of-room c.args.fields c.args.disk_sectors c.sector_at-need.result
    c.bitmap_sectors_for-need.result c.journal_sectors-have.result _
    c.in_ok-layout.ensures.within c.sector_at-need.ensures c.if-have-need.false
    c.bitmap_sectors_for-need.ensures c.journal_sectors-have.ensures short
