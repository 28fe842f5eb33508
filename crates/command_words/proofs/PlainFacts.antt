-- What `clap` is told of each command of the table, as far as plain words ask for it.
use Rattle.std.proofs.Common.{◌≡◌, ◌<◌, ◌||◌, ◌+◌, ℕ, zero, suc, true, false, not, refl, arith, List, []}
use Rattle.std.proofs.Common.{◌∷◌, ◌++◌, min, length, Some, None, option_map, subst, codes}
use Rattle.std.specs.List.{Contains, find, list_all, list_any, slice_index_or}
use Rattle.std.specs.Str.{bytes_eq}
use Rattle.clap.specs.Lexer.{long_of, usize_max}
use Rattle.clap.specs.Walk.{Rule, Text, answers_to, arg_by_id, arg_by_index, arg_by_long}
use Rattle.clap.specs.Simple.{Shape, built, built_leaf, filled, inherited, label_of, marked_built, names_of}
use Rattle.clap.specs.Simple.{with_index, with_leaf_noted}
use Rattle.clap.specs.Faults.{given_default_fault}
use Rattle.clap.proofs.OnLiterals.{clap_on_literals}
use Rattle.command_words.specs.Table.{Entry, OptionEntry, check_entry, dump_entry, exercise_entry, format_entry}
use Rattle.command_words.specs.Table.{mirror_entry, nbd_entry, resize_entry, run_entry, salvage_entry, table}
use Rattle.command_words.specs.ByClap.{app, entry_app, option_rule, place_rule}
use Rattle.command_words.specs.Commands.{is_question}
use Rattle.command_words.specs.PlainForm.{unset_pairs}

-- Each element has P.
abbrev pub Each : {X : Type 0} → (X → Type 0) → List X → Type 0
Each P [] = Unit {0}
Each P (x ∷ xs) = P x × Each P xs

-- One more element has P.
infixr 4 ◌▹◌
abbrev ◌▹◌ : {A B : Type 0} → A → B → A × B
one ▹ others = (one, others)

Each-index : {X : Type 0} (P : X → Type 0) (xs : List X) (k : ℕ) (d x : X) → k < length xs → slice_index_or xs k d ≡ x
    → Each P xs → P x
Each-index P [] k d x lt at each = absurd (omega arith)
Each-index P (y ∷ ys) zero d x lt at each = subst P at each.0
Each-index P (y ∷ ys) (suc k) d x lt at each = Each-index P ys k d x (omega arith) at each.1

pub Each-at : {X : Type 0} (P : X → Type 0) (xs : List X) (x : X) → Each P xs → Contains xs x → P x
Each-at P xs x each has = Each-index P xs has.0 x x has.1 has.2 each

-- The command, built.
abbrev pub leaf : Entry → Shape
leaf entry = built_leaf (inherited (with_leaf_noted (marked_built app.top)) (entry_app entry).top)

pub record HasOption (c : List Rule) (places : List Text) (option : OptionEntry) : Type 0 where
  pub by_long : arg_by_long c option.name ≡ Some (filled (option_rule option))
  pub by_id : arg_by_id c option.name ≡ Some (filled (option_rule option))
  pub long : long_of (45 ∷ 45 ∷ option.name) ≡ Some (option.name, None)
  pub dashes : bytes_eq (45 ∷ 45 ∷ option.name) (45 ∷ 45 ∷ []) ≡ false
  pub apart : list_any (λ place. bytes_eq place option.name) places ≡ false
  pub asks : is_question (45 ∷ 45 ∷ option.name) ≡ false

-- The places from k on.
abbrev pub HasPlaces : List Rule → ℕ → List Text → Type 0
HasPlaces c k [] = Unit {0}
HasPlaces c k (name ∷ names) = (arg_by_index c k ≡ Some (with_index k (filled (place_rule name))))
    × (arg_by_id c name ≡ Some (with_index k (filled (place_rule name)))) × (min (k + 1) usize_max ≡ suc k)
    × (list_any (λ other. bytes_eq name other) names ≡ false) × HasPlaces c (suc k) names

-- the text of a rule's default
abbrev pub default_pair : Rule → List Text → List (Text × Text)
default_pair a [] = []
default_pair a (value ∷ values) = (a.id, value) ∷ []

abbrev pub default_pairs : List Rule → List (Text × Text)
default_pairs [] = []
default_pairs (a ∷ c) = default_pair a a.defaults ++ default_pairs c

pub record IsLeafOf (entry : Entry) (s : Shape) : Type 0 where
  pub options : Each (HasOption s.rules entry.places) entry.options
  pub places : HasPlaces s.rules 1 entry.places
  pub required : list_all (λ a. not a.required || list_any (λ place. bytes_eq place a.id) entry.places) s.rules ≡ true
  pub defaults : Each (λ a. given_default_fault a a.defaults ≡ []) s.rules
  pub again : s.args_override_self ≡ false
  pub helps : s.arg_required_else_help ≡ false
  pub enters : s.subcommand_required ≡ false
  pub named : s.name ≡ entry.name
  pub met : option_map (λ s. s.0) (find (answers_to entry.name) (names_of (built app))) ≡ Some entry.name
  pub found : find (λ s. answers_to entry.name (label_of s)) (built app).subs ≡ Some s
  pub asks : is_question entry.name ≡ false
  pub helpless : bytes_eq entry.name (codes "help") ≡ false
  pub unset : default_pairs s.rules ≡ unset_pairs entry.options

fact : (c : List Rule) (places : List Text) (option : OptionEntry)
    → arg_by_long c option.name ≡ Some (filled (option_rule option))
    → arg_by_id c option.name ≡ Some (filled (option_rule option))
    → long_of (45 ∷ 45 ∷ option.name) ≡ Some (option.name, None)
    → bytes_eq (45 ∷ 45 ∷ option.name) (45 ∷ 45 ∷ []) ≡ false
    → list_any (λ place. bytes_eq place option.name) places ≡ false
    → is_question (45 ∷ 45 ∷ option.name) ≡ false → HasOption c places option
fact c places option a b d e f g = record { by_long = a; by_id = b; long = d; dashes = e; apart = f; asks = g }

pub format_leaf : IsLeafOf format_entry (leaf format_entry)
unfolding clap_on_literals
format_leaf = record {
  options = fact _ _ _ refl refl refl refl refl refl ▹ fact _ _ _ refl refl refl refl refl refl
      ▹ fact _ _ _ refl refl refl refl refl refl ▹ fact _ _ _ refl refl refl refl refl refl
      ▹ fact _ _ _ refl refl refl refl refl refl ▹ fact _ _ _ refl refl refl refl refl refl
      ▹ fact _ _ _ refl refl refl refl refl refl ▹ fact _ _ _ refl refl refl refl refl refl
      ▹ fact _ _ _ refl refl refl refl refl refl ▹ fact _ _ _ refl refl refl refl refl refl
      ▹ fact _ _ _ refl refl refl refl refl refl ▹ fact _ _ _ refl refl refl refl refl refl ▹ tt;
  places = (refl, refl, refl, refl, tt);
  required = refl;
  defaults = refl ▹ refl ▹ refl ▹ refl ▹ refl ▹ refl ▹ refl ▹ refl ▹ refl ▹ refl ▹ refl ▹ refl ▹ refl ▹ tt;
  again = refl;
  helps = refl;
  enters = refl;
  named = refl;
  met = refl;
  found = refl;
  asks = refl;
  helpless = refl;
  unset = refl;
}

pub run_leaf : IsLeafOf run_entry (leaf run_entry)
unfolding clap_on_literals
run_leaf = record {
  options = fact _ _ _ refl refl refl refl refl refl ▹ fact _ _ _ refl refl refl refl refl refl
      ▹ fact _ _ _ refl refl refl refl refl refl ▹ fact _ _ _ refl refl refl refl refl refl ▹ tt;
  places = (refl, refl, refl, refl, tt);
  required = refl;
  defaults = refl ▹ refl ▹ refl ▹ refl ▹ refl ▹ tt;
  again = refl;
  helps = refl;
  enters = refl;
  named = refl;
  met = refl;
  found = refl;
  asks = refl;
  helpless = refl;
  unset = refl;
}

pub nbd_leaf : IsLeafOf nbd_entry (leaf nbd_entry)
unfolding clap_on_literals
nbd_leaf = record {
  options = fact _ _ _ refl refl refl refl refl refl ▹ fact _ _ _ refl refl refl refl refl refl
      ▹ fact _ _ _ refl refl refl refl refl refl ▹ fact _ _ _ refl refl refl refl refl refl ▹ tt;
  places = (refl, refl, refl, refl, tt);
  required = refl;
  defaults = refl ▹ refl ▹ refl ▹ refl ▹ refl ▹ tt;
  again = refl;
  helps = refl;
  enters = refl;
  named = refl;
  met = refl;
  found = refl;
  asks = refl;
  helpless = refl;
  unset = refl;
}

pub mirror_leaf : IsLeafOf mirror_entry (leaf mirror_entry)
unfolding clap_on_literals
mirror_leaf = record {
  options = fact _ _ _ refl refl refl refl refl refl ▹ fact _ _ _ refl refl refl refl refl refl
      ▹ fact _ _ _ refl refl refl refl refl refl ▹ fact _ _ _ refl refl refl refl refl refl ▹ tt;
  places = (refl, refl, refl, refl, (refl, refl, refl, refl, tt));
  required = refl;
  defaults = refl ▹ refl ▹ refl ▹ refl ▹ refl ▹ refl ▹ tt;
  again = refl;
  helps = refl;
  enters = refl;
  named = refl;
  met = refl;
  found = refl;
  asks = refl;
  helpless = refl;
  unset = refl;
}

pub dump_leaf : IsLeafOf dump_entry (leaf dump_entry)
unfolding clap_on_literals
dump_leaf = record {
  options = tt;
  places = (refl, refl, refl, refl, tt);
  required = refl;
  defaults = refl ▹ tt;
  again = refl;
  helps = refl;
  enters = refl;
  named = refl;
  met = refl;
  found = refl;
  asks = refl;
  helpless = refl;
  unset = refl;
}

pub check_leaf : IsLeafOf check_entry (leaf check_entry)
unfolding clap_on_literals
check_leaf = record {
  options = fact _ _ _ refl refl refl refl refl refl ▹ fact _ _ _ refl refl refl refl refl refl
      ▹ fact _ _ _ refl refl refl refl refl refl ▹ tt;
  places = (refl, refl, refl, refl, tt);
  required = refl;
  defaults = refl ▹ refl ▹ refl ▹ refl ▹ tt;
  again = refl;
  helps = refl;
  enters = refl;
  named = refl;
  met = refl;
  found = refl;
  asks = refl;
  helpless = refl;
  unset = refl;
}

pub salvage_leaf : IsLeafOf salvage_entry (leaf salvage_entry)
unfolding clap_on_literals
salvage_leaf = record {
  options = fact _ _ _ refl refl refl refl refl refl ▹ fact _ _ _ refl refl refl refl refl refl ▹ tt;
  places = (refl, refl, refl, refl, tt);
  required = refl;
  defaults = refl ▹ refl ▹ refl ▹ tt;
  again = refl;
  helps = refl;
  enters = refl;
  named = refl;
  met = refl;
  found = refl;
  asks = refl;
  helpless = refl;
  unset = refl;
}

pub resize_leaf : IsLeafOf resize_entry (leaf resize_entry)
unfolding clap_on_literals
resize_leaf = record {
  options = fact _ _ _ refl refl refl refl refl refl ▹ fact _ _ _ refl refl refl refl refl refl ▹ tt;
  places = (refl, refl, refl, refl, tt);
  required = refl;
  defaults = refl ▹ refl ▹ refl ▹ tt;
  again = refl;
  helps = refl;
  enters = refl;
  named = refl;
  met = refl;
  found = refl;
  asks = refl;
  helpless = refl;
  unset = refl;
}

pub exercise_leaf : IsLeafOf exercise_entry (leaf exercise_entry)
unfolding clap_on_literals
exercise_leaf = record {
  options = tt;
  places = (refl, refl, refl, refl, (refl, refl, refl, refl, (refl, refl, refl, refl, tt)));
  required = refl;
  defaults = refl ▹ refl ▹ refl ▹ tt;
  again = refl;
  helps = refl;
  enters = refl;
  named = refl;
  met = refl;
  found = refl;
  asks = refl;
  helpless = refl;
  unset = refl;
}

-- Each command of the table is a leaf.
pub leaves : Each (λ entry. IsLeafOf entry (leaf entry)) table
leaves = format_leaf ▹ run_leaf ▹ nbd_leaf ▹ mirror_leaf ▹ dump_leaf ▹ check_leaf ▹ salvage_leaf ▹ resize_leaf
    ▹ exercise_leaf ▹ tt
