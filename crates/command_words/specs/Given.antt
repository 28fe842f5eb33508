-- What the words give a command, before any value is judged.
use Rattle.std.specs.Option.{option_map_or}
use Rattle.std.specs.Prelude.{Bool, false, Option, Some, None, codes}
use Rattle.std.specs.Str.{bytes_eq}
use Rattle.command_words.specs.Table.{Text}

-- For each place and each option its text, if it has one. A flag has the text `true` where it stands in the words, and
-- `false` where it does not.
abbrev pub Given : Type 0
Given = Text → Option Text

-- The flag stands in the words.
abbrev pub has : Given → Text → Bool
has given flag = option_map_or (λ text. bytes_eq text (codes "true")) (given flag) false

-- What a value's text says, and this where there is no value.
abbrev pub value_or : {X : Type 0} → X → (Text → Option X) → Option Text → Option X
value_or absent judged text = option_map_or judged text (Some absent)

-- The second step, where the first gives a value.
infixl 10 ◌>>=◌
abbrev pub ◌>>=◌ : {X Y : Type 0} → Option X → (X → Option Y) → Option Y
Some x >>= next = next x
None >>= next = None
