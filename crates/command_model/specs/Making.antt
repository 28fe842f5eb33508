-- What `format` makes and prints, or why an image is refused by it.
use Rattle.std.specs.Prelude.{ℕ, List, ◌++◌, codes, Option, Result, Ok, Err}
use Rattle.std.specs.Fmt.{decimal}
use Rattle.disk_model.specs.Disk.{Content, OnlyAdds}
use Rattle.device_model.specs.Refusals.{ByGeometry}
use Rattle.run_model.specs.Ending as runs
use Rattle.image_model.specs.declared.geom_fault.GeomFault.{GeomFault}
use Rattle.formatting_model.specs.declared.new_image.NewImage.{NewImage}
use Rattle.formatting_model.specs.Formatted.{IsLeftByFormat, IsLeftInOrder, IsNewContent, format_with, rule_with}
use Rattle.formatting_model.specs.NewImage.{provided_of}
use Rattle.formatting_model.specs.Written.{IsOfNewImage, OnlyWritesNew}
use Rattle.run_model.specs.CommandRun.{Making, Outset, RefusedBy, Makes}

-- The line that tells of an image with so many provided sectors.
abbrev pub formatted_text : (provided : ℕ) → List ℕ
formatted_text provided = codes "formatted provided " ++ decimal provided ++ codes "\n"

-- What stands while such an image is made: an image that was there at the start, one without a magic, or the whole new
-- one; and nothing is written but to the sectors that the new image has.
pub record IsLeftByMaking (key : Option (List ℕ)) (sectors : ℕ) (new : NewImage) (start later : Content) : Type 0 where
  pub images : IsLeftByFormat key sectors new start later
  pub writes : OnlyAdds (IsOfNewImage sectors new start) start later

-- It is made in its order, or as far as that came, and nothing else is ever written meanwhile.
pub record IsMadeInOrder (key : Option (List ℕ)) (sectors : ℕ) (new : NewImage) (before after : List Content)
    : Type 0 where
  pub order : IsLeftInOrder key sectors new before after
  pub writes : OnlyWritesNew sectors new before after

-- The making of such an image with this key, on a disk of so many sectors.
abbrev pub making_of : Option (List ℕ) → (sectors : ℕ) → NewImage → (provided : ℕ) → Making
making_of key sectors new provided = record {
  text = formatted_text provided;
  MayBeLeft = IsLeftByMaking key sectors new;
  IsMade = IsNewContent new.wipe (rule_with key new) (format_with new provided);
}

-- By how many sectors the image is to provide: it is made, or there is no room for it.
abbrev pub outset_by_format : Option (List ℕ) → (sectors : ℕ) → NewImage → Result ℕ GeomFault → Outset
outset_by_format key sectors new (Ok provided) = Makes (making_of key sectors new provided)
outset_by_format key sectors new (Err fault) = RefusedBy (runs.Refused (runs.ByImage (ByGeometry fault)))

-- What the making of an image starts on, whatever stands on the disk.
abbrev pub format_outset : Option (List ℕ) → (sectors : ℕ) → NewImage → Outset
format_outset key sectors new = outset_by_format key sectors new (provided_of new sectors)
