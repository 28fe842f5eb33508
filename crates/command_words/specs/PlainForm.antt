-- Words in plain form, whose command is told without a word on `clap`: the command, its places in order, and then
-- options, each at most once. No place and no value begins with `-`.
use Rattle.std.specs.Prelude.{◌≡◌, ◌≢◌, List, [], ◌∷◌, ◌++◌, map, Some, None, if◌then◌else◌, codes, take}
use Rattle.std.specs.List.{All, Contains, flat_map}
use Rattle.std.specs.Str.{bytes_eq}
use Rattle.command_words.specs.declared.table.Takes.{Takes}
use Rattle.command_words.specs.declared.table.Takes.TheVariants.{Value, Nothing}
use Rattle.command_words.specs.Table.{Entry, OptionEntry, Text, flag, table, valued}
use Rattle.command_words.specs.Given.{Given}
use Rattle.command_words.specs.Judging.{command_named}
use Rattle.command_words.specs.Commands.{command_of}

-- An option in plain words: with its value in the word behind it, or a flag alone.
pub data Use : Type 0 where
  With : Text → Text → Use
  Alone : Text → Use

abbrev pub use_name : Use → Text
use_name (With name value) = name
use_name (Alone name) = name

abbrev pub use_words : Use → List Text
use_words (With name value) = (codes "--" ++ name) ∷ value ∷ []
use_words (Alone name) = (codes "--" ++ name) ∷ []

-- The word does not begin with `-`.
abbrev pub IsPlainWord : Text → Type 0
IsPlainWord word = take 1 word ≢ codes "-"

-- There is a plain word for each place.
abbrev pub ArePlaces : List Text → List Text → Type 0
ArePlaces [] [] = Unit {0}
ArePlaces (name ∷ names) (word ∷ words) = IsPlainWord word × ArePlaces names words
ArePlaces [] (word ∷ words) = ⊥
ArePlaces (name ∷ names) [] = ⊥

-- The command has the option, and its value is a plain word.
abbrev pub IsUseOf : Entry → Use → Type 0
IsUseOf entry (With name value) = Contains entry.options (valued name) × IsPlainWord value
IsUseOf entry (Alone name) = Contains entry.options (flag name)

-- They are options of the command, each at most once.
abbrev pub AreUsesOf : Entry → List Use → Type 0
AreUsesOf entry [] = Unit {0}
AreUsesOf entry (one ∷ uses) =
    IsUseOf entry one × All (λ other. use_name other ≢ use_name one) uses × AreUsesOf entry uses

-- The words behind the program's name.
abbrev pub plain_words : Entry → List Text → List Use → List Text
plain_words entry places uses = entry.name ∷ (places ++ flat_map use_words uses)

-- The text of the first pair of this name.
abbrev pub looked_up : List (Text × Text) → Given
looked_up [] name = None
looked_up (pair ∷ pairs) name = if bytes_eq pair.0 name then Some pair.1 else looked_up pairs name

-- A place's name with its word.
abbrev pub place_pairs : List Text → List Text → List (Text × Text)
place_pairs (name ∷ names) (word ∷ words) = (name, word) ∷ place_pairs names words
place_pairs _ _ = []

-- An option's name with its value; a flag has the text `true`.
abbrev pub use_pair : Use → Text × Text
use_pair (With name value) = (name, value)
use_pair (Alone name) = (name, codes "true")

abbrev pub unset_pair : Takes → Text → List (Text × Text)
unset_pair Value name = []
unset_pair Nothing name = (name, codes "false") ∷ []

-- The flags' names with the text that they have where they do not stand in the words, `false`.
abbrev pub unset_pairs : List OptionEntry → List (Text × Text)
unset_pairs [] = []
unset_pairs (option ∷ options) = unset_pair option.takes option.name ++ unset_pairs options

-- What plain words give the command.
abbrev pub plain_given : Entry → List Text → List Use → Given
plain_given entry places uses =
    looked_up (place_pairs entry.places places ++ (map use_pair uses ++ unset_pairs entry.options))

-- Plain words are the command that their values are.
abbrev pub PlainLaw : Type 0
PlainLaw = (program : Text) (entry : Entry) (places : List Text) (uses : List Use) → Contains table entry
    → ArePlaces entry.places places → AreUsesOf entry uses
    → command_of (program ∷ plain_words entry places uses) ≡ command_named entry.name (plain_given entry places uses)
