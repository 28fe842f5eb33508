-- Words that ask for help.
use Rattle.std.proofs.Common.{◌≡◌, true, false, refl, List, ◌∷◌, drop, map}
use Rattle.std.specs.List.{list_any}
use Rattle.clap.proofs.WalkLemmas.{list_any-map}
use Rattle.command_words.specs.Table.{Text}
use Rattle.command_words.specs.Commands.{asks_for_help, begins_with_help, is_question}

-- Words ask for help where one of them does, or the first is `help`.
pub asks_by_question : {X : Type 0} (text : X → Text) (word : X) (words rest : List X) → words ≡ word ∷ rest
    → list_any (λ w. is_question (text w)) rest ≡ true → asks_for_help (drop 1 (map text words)) ≡ true
asks_by_question text word words rest is asks =
    rw (is, ← list_any-map is_question text rest, asks) refl

pub asks_by_first : {X : Type 0} (text : X → Text) (word : X) (words rest : List X) → words ≡ word ∷ rest
    → list_any (λ w. is_question (text w)) rest ≡ false
    → asks_for_help (drop 1 (map text words)) ≡ begins_with_help (map text rest)
asks_by_first text word words rest is none =
    rw (is, ← list_any-map is_question text rest, none) refl
