-- What `entry` tells of an entry.
use Rattle.image_model.specs.Section.{Entry}
use Rattle.journal_section.specs.declared.entries.EntryView.{EntryView}

-- The sector and the tag of an entry.
abbrev pub view_of : Entry → EntryView
view_of entry = record { sector = entry.sector; tag = entry.tag }
