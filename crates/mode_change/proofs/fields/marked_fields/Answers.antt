use Rattle.mode_change.proofs.FormatLemmas.{bitmap_fields-is, marks_format, own_layout}
use Rattle.mode_change.proofs.fields.marked_fields.Goals as goal

pub returns-clause-fields : goal.returns-clause-fields
returns-clause-fields c =
    bitmap_fields-is c.args.format.now.fields c.recalculated_fields-fields.result c.args.format.now.geometry c.version_for.result c.fitting_log2_region.result
    c.recalculated_fields-fields.ensures.fields (own_layout c.args.disk_sectors c.args.format.now c.requires.format.accepted) c.version_for.ensures c.fitting_log2_region.ensures.log2_region

pub returns-clause-marks : goal.returns-clause-marks
returns-clause-marks c = marks_format c.args.disk_sectors c.args.format.now c.requires.format.accepted c.recalculated_fields-fields.ensures.fits
