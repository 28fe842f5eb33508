-- What a line found of the tags of blocks.
use Rattle.std.specs.Prelude.{Bool, true, false}
use Rattle.script_text.specs.declared.tags_found.TagsFound.{TagsFound}
use Rattle.script_text.specs.declared.tags_found.TagsFound.TheVariants.{Matching, Differing}

-- The line tells a block whose stored tag is not the tag of its bytes.
abbrev pub finds_fault : TagsFound → Bool
finds_fault Matching = false
finds_fault Differing = true
