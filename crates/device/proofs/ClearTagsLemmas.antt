-- The tags of blocks that do not await, where no call of the disk is made.
use Rattle.std.proofs.Common.{◌≡◌, List}
use Rattle.disk_model.specs.Disk.{Content}
use Rattle.disk_model.proofs.MomentsLemmas.{EachMoment-kept}
use Rattle.device_model.specs.Progress.{Event}
use Rattle.device_parts.specs.declared.parts.Parts.{Parts}
use Rattle.device.specs.declared.mode.Mode.{Mode}
use Rattle.device.specs.declared.mode.Mode.TheVariants.{Bitmap, Direct, Journal, Recovery}
use Rattle.device.specs.Answers.{KeepsClearTags}

pub clear_tags_still : (mode : Mode) (common : Parts) (event : Event) {a b : List Content} → b ≡ a → KeepsClearTags mode common event a b
clear_tags_still (Direct recalculation) common event same = λ w is. EachMoment-kept _ same
clear_tags_still (Journal state) common event same = λ w is. EachMoment-kept _ same
clear_tags_still (Bitmap regions) common event same = λ w is. EachMoment-kept _ same
clear_tags_still Recovery common event same = tt
