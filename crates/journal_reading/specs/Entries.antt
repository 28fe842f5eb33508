-- An entry by its parts.
use Rattle.std.specs.Prelude.{ℕ, List}
use Rattle.image_model.specs.Section.{Entry}
use Rattle.journal_section.specs.declared.entries.EntryView.{EntryView}

-- The entry with this sector and tag, and these bytes.
abbrev pub entry_with : List ℕ → EntryView → Entry
entry_with bytes view = record { sector = view.sector; bytes = bytes; tag = view.tag }
