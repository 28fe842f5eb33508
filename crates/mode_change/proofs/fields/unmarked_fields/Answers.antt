use Rattle.mode_change.proofs.FormatLemmas.{direct_format, journal_fields-is, unmarked_format}
use Rattle.mode_change.proofs.fields.unmarked_fields.Goals as goal

pub returns-clause-fields : goal.returns-clause-fields
returns-clause-fields c =
    journal_fields-is c.args.format.now.fields c.recalculated_fields-fields.result c.version_for-version.result c.recalculated_fields-fields.ensures.fields c.version_for-version.ensures

pub returns-clause-direct : goal.returns-clause-direct
returns-clause-direct c = direct_format c.args.disk_sectors c.args.format.now c.recalculated_fields-fields.ensures.fits c.requires.format

pub returns-clause-marks : goal.returns-clause-marks
returns-clause-marks c = unmarked_format c.args.disk_sectors c.args.format.now c.recalculated_fields-fields.ensures.fits c.requires.format
