use Rattle.image_model.proofs.Regions.{fitting_log2_region_is}
use Rattle.image_model.proofs.geometry_laws.fitting_log2_region_is_least.Goals as goal

pub returns : goal.returns
returns c = fitting_log2_region_is
