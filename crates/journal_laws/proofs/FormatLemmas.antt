-- What the format of a device in journal mode says, part by part.
use Rattle.std.proofs.Common.{◌≡◌, ◌*◌, ap}
use Rattle.image_model.specs.Geometry.{section_entries}
use Rattle.device_model.specs.Mode.{DeviceFormat, Journal}
use Rattle.place_model.specs.Format.{DiskFormat, tagger_of}
use Rattle.place_model.specs.Opened.{device_format}

module _ (f : DeviceFormat) (d : DiskFormat) (is : f ≡ device_format Journal d) where
  pub mode-is : f.mode ≡ Journal
  mode-is = ap (λ (x : DeviceFormat). x.mode) is

  pub blocks-is : f.blocks.blocks ≡ d.geometry.blocks
  blocks-is = ap (λ (x : DeviceFormat). x.blocks.blocks) is

  pub block_size-is : f.blocks.block_size ≡ 512 * d.geometry.shape.spb
  block_size-is = ap (λ (x : DeviceFormat). x.blocks.block_size) is

  pub tag-is : f.blocks.tag ≡ tagger_of d
  tag-is = ap (λ (x : DeviceFormat). x.blocks.tag) is

  pub sections-is : f.sections ≡ d.geometry.sections
  sections-is = ap (λ (x : DeviceFormat). x.sections) is

  pub entries-is : f.entries ≡ section_entries d.geometry.shape
  entries-is = ap (λ (x : DeviceFormat). x.entries) is
