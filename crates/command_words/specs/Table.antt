-- The commands that there are, and the options of each.
use Rattle.std.specs.Prelude.{List, [], ◌∷◌, ℕ, codes}
use Rattle.command_words.specs.declared.table.Takes.{Takes}
use Rattle.command_words.specs.declared.table.Takes.TheVariants.{Value, Nothing}

abbrev pub Text : Type 0
Text = List ℕ

-- An option: its word is this behind `--`, and what it takes.
pub record OptionEntry : Type 0 where
  pub name : Text
  pub takes : Takes

-- A command: its word, what its words are that are no options, in order, and its options.
pub record Entry : Type 0 where
  pub name : Text
  pub places : List Text
  pub options : List OptionEntry

-- An option of one value.
abbrev pub valued : Text → OptionEntry
valued name = record { name = name; takes = Value }

-- A flag.
abbrev pub flag : Text → OptionEntry
flag name = record { name = name; takes = Nothing }

abbrev pub format_entry : Entry
format_entry = record {
  name = codes "format";
  places = codes "IMAGE" ∷ [];
  options = valued (codes "integrity") ∷ valued (codes "integrity-key-file") ∷ valued (codes "tag-size")
      ∷ valued (codes "sector-size") ∷ valued (codes "interleave-sectors") ∷ valued (codes "sections")
      ∷ valued (codes "log2-blocks-per-bit") ∷ valued (codes "salt") ∷ flag (codes "integrity-legacy-padding")
      ∷ valued (codes "mode") ∷ flag (codes "no-wipe") ∷ flag (codes "recalculate") ∷ [];
}

abbrev pub run_entry : Entry
run_entry = record {
  name = codes "run";
  places = codes "IMAGE" ∷ [];
  options = valued (codes "mode") ∷ valued (codes "integrity") ∷ valued (codes "integrity-key-file")
      ∷ flag (codes "integrity-legacy-recalculate") ∷ [];
}

-- A session has the options of a run.
abbrev pub nbd_entry : Entry
nbd_entry = record run_entry { name = codes "nbd" }

-- So has a mirror, of two images.
abbrev pub mirror_entry : Entry
mirror_entry = record run_entry { name = codes "mirror"; places = codes "IMAGE" ∷ codes "SECOND" ∷ [] }

abbrev pub dump_entry : Entry
dump_entry = record { name = codes "dump"; places = codes "IMAGE" ∷ []; options = [] }

abbrev pub check_entry : Entry
check_entry = record {
  name = codes "check";
  places = codes "IMAGE" ∷ [];
  options = valued (codes "integrity") ∷ valued (codes "integrity-key-file") ∷ flag (codes "placed") ∷ [];
}

abbrev pub salvage_entry : Entry
salvage_entry = record {
  name = codes "salvage";
  places = codes "IMAGE" ∷ [];
  options = valued (codes "integrity") ∷ valued (codes "integrity-key-file") ∷ [];
}

abbrev pub resize_entry : Entry
resize_entry = record {
  name = codes "resize";
  places = codes "IMAGE" ∷ [];
  options = valued (codes "integrity") ∷ valued (codes "integrity-key-file") ∷ [];
}

abbrev pub exercise_entry : Entry
exercise_entry = record {
  name = codes "exercise";
  places = codes "IMAGE" ∷ codes "SEED" ∷ codes "COUNT" ∷ [];
  options = [];
}

-- The commands.
abbrev pub table : List Entry
table = format_entry ∷ run_entry ∷ nbd_entry ∷ mirror_entry ∷ dump_entry ∷ check_entry ∷ salvage_entry
    ∷ resize_entry ∷ exercise_entry ∷ []
