-- A row of the code's table, as an entry of the definition's.
use Rattle.std.specs.Prelude.{map}
use Rattle.command_words.specs.Table.{Entry, OptionEntry}
use Rattle.command_words.specs.declared.table.OptionRow.{OptionRow}
use Rattle.command_words.specs.declared.table.CommandRow.{CommandRow}

abbrev pub as_option : OptionRow → OptionEntry
as_option row = record { name = row.name.now; takes = row.takes }

abbrev pub as_entry : CommandRow → Entry
as_entry row = record {
  name = row.name.now;
  places = map (λ place. place.now) row.places.now;
  options = map as_option row.options.now;
}
