-- Words in plain form: lemmas on specs/PlainForm.antt.
use Rattle.std.proofs.Common.{◌≡◌, ◌∙◌, ◌&&◌, ◌||◌, ℕ, Bool, true, false, not, refl, sym}
use Rattle.std.proofs.Common.{ap, ap₂, List, [], ◌∷◌, ◌++◌, map, fold, drop, Option, Some}
use Rattle.std.proofs.Common.{None, option_map, codes}
use Rattle.std.specs.Prelude.{option_and_then}
use Rattle.std.specs.List.{Contains, flat_map, list_any}
use Rattle.std.specs.Str.{bytes_eq}
use Rattle.std.proofs.lemmas.List.{append_assoc}
use Rattle.std.proofs.lemmas.List.Folds.{list_any-append}
use Rattle.clap.specs.Walk.{Names, Row, Rule, Text, Walk, first_of, nothing_held, rows_after}
use Rattle.clap.specs.Walk.{settled_rows, walk, walked, with_default}
use Rattle.clap.specs.Simple.{Shape, built, entered, names_of, rows_at, subcommand_of}
use Rattle.clap.specs.Takes.{is_given}
use Rattle.clap.specs.Kinds.{or_else}
use Rattle.clap.specs.Faults.{defaults_fault, fault_of, level_fault, settle_fault}
use Rattle.clap.specs.Faults.{turn_fault, walk_fault}
use Rattle.clap.proofs.OnLiterals.{clap_on_literals}
use Rattle.clap.proofs.WalkLemmas.{walk_stopped}
use Rattle.command_words.specs.Table.{Entry, OptionEntry, table, valued, flag}
use Rattle.command_words.specs.ByClap.{app}
use Rattle.command_words.specs.Given.{Given}
use Rattle.command_words.specs.Judging.{command_named}
use Rattle.command_words.specs.Commands.{asks_for_help, command_of, given_by, is_question, unless_refused}
use Rattle.command_words.specs.PlainForm.{Alone, ArePlaces, AreUsesOf, IsPlainWord, PlainLaw, Use, With, looked_up}
use Rattle.command_words.specs.PlainForm.{place_pairs, plain_given, plain_words, unset_pairs, use_pair}
use Rattle.command_words.specs.PlainForm.{use_words}
use Rattle.command_words.proofs.PlainFacts.{Each, Each-at, HasOption, IsLeafOf, leaf, leaves}
use Rattle.command_words.proofs.PlainWalk.{Fresh, FreshNames-none, Runs, first_apart, and_false}
use Rattle.command_words.proofs.PlainWalk.{has_name, held_at, places_run, row_for, standing, uses_run}
use Rattle.command_words.proofs.PlainRows.{defaults_given, defaults_pass, is_given-map, none_missing, plain_found}

-- ---- names

has_name-places : (names words : List Text) (id : Text) → ArePlaces names words
    → has_name (place_pairs names words) id ≡ list_any (λ place. bytes_eq place id) names
has_name-places [] [] id are = refl
has_name-places [] (word ∷ words) id are = absurd are
has_name-places (name ∷ names) [] id are = absurd are
has_name-places (name ∷ names) (word
    ∷ words) id are = ap (λ b. bytes_eq name id || b) (has_name-places names words id are.1)

has_name-append : (xs ys : List (Text × Text)) (id : Text) → has_name xs id ≡ true → has_name (xs ++ ys) id ≡ true
has_name-append xs ys id has = list_any-append (λ (pair : Text × Text). bytes_eq pair.0 id) xs ys
    ∙ ap (λ b. b || has_name ys id) has

level_quiet : (s : Shape) (words : List Text) (rows : List Row) (pending : Option (Text × List Text)) (k : ℕ)
    (pairs : List (Text × Text)) → s.args_override_self ≡ false → s.arg_required_else_help ≡ false
    → s.subcommand_required ≡ false
    → walk_fault s [] (standing [] None 1) words ≡ []
    → fold (walked s.rules []) (standing [] None 1) words ≡ standing rows pending k
    → settled_rows s.rules pending rows ≡ map row_for pairs → settle_fault s.rules false (held_at rows pending) ≡ []
    → defaults_fault (map row_for pairs) s.rules ≡ []
    → list_any (λ a. a.required && not (is_given a.id (fold with_default (map row_for pairs) s.rules))) s.rules ≡ false
    → level_fault s [] nothing_held words false [] ≡ []
level_quiet s words rows pending k pairs again helps enters passes ends holds quiet defaults missing =
    rw (
      passes,
      ends,
      again,
      quiet,
      holds,
      defaults,
      helps,
      enters,
      missing,
      and_false (not
          (s.subcommand_negates_reqs && false)),
    ) refl

option_apart : (c : List Rule) (places : List Text) (options : List OptionEntry) → Each (HasOption c places) options
    → (option : OptionEntry) → Contains options option → list_any (λ place. bytes_eq place option.name) places ≡ false
option_apart c places options each option has = (Each-at (HasOption c places) options option each has).apart

module _ (entry : Entry) (s : Shape) (is : IsLeafOf entry s) (places : List Text)
    (are : ArePlaces entry.places places) where
  uses_fresh : (uses : List Use) → AreUsesOf entry uses → Fresh (place_pairs entry.places places) uses
  uses_fresh [] known = tt
  uses_fresh (With name value ∷ uses) known = (
    has_name-places entry.places places name are
        ∙ option_apart s.rules entry.places entry.options is.options (valued name) known.0.0,
    uses_fresh uses known.2,
  )
  uses_fresh (Alone name ∷ uses) known = (
    has_name-places entry.places places name are
        ∙ option_apart s.rules entry.places entry.options is.options (flag name) known.0,
    uses_fresh uses known.2,
  )

  -- ---- the command's own level

  abbrev words_of : List Use → List Text
  words_of uses = places ++ flat_map use_words uses

  abbrev pairs_of : List Use → List (Text × Text)
  pairs_of uses = place_pairs entry.places places ++ map use_pair uses

  leaf_runs : (uses : List Use) → AreUsesOf entry uses → Runs s (standing [] None 1) (words_of uses) (pairs_of uses)
  leaf_runs uses known =
      places_run s is.again (flat_map use_words uses)
      (pairs_of uses) entry.places places [] None 1 [] refl refl is.places are
      (FreshNames-none entry.places)
      (λ rows pending k holds quiet. uses_run s is.again entry is.options uses rows pending k
      (place_pairs entry.places places) holds quiet
      known (uses_fresh uses known))

  leaf_rows : (uses : List Use) → AreUsesOf entry uses
      → rows_after s.rules [] (words_of uses) ≡ fold with_default (map row_for (pairs_of uses)) s.rules
  leaf_rows uses known =
      let runs = leaf_runs uses known in
      rw runs.ends (ap (λ rows. fold with_default rows s.rules) runs.holds)

  leaf_passes : (uses : List Use) → AreUsesOf entry uses → level_fault s [] nothing_held (words_of uses) false [] ≡ []
  leaf_passes uses known =
      let runs = leaf_runs uses known in
      let given : (id : Text) → list_any (λ place. bytes_eq place id) entry.places ≡ true
      → is_given id (fold with_default (map row_for (pairs_of uses)) s.rules) ≡ true =
      λ id has. defaults_given id s.rules (map row_for (pairs_of uses)) (is_given-map id (pairs_of uses)
      (has_name-append (place_pairs entry.places places) (map use_pair uses) id
      (has_name-places entry.places places id are ∙ has))) in
      let all_there = none_missing s.rules entry.places (fold with_default (map row_for
      (pairs_of uses)) s.rules) is.required given in
      level_quiet s (words_of uses) runs.rows runs.pending runs.position
      (pairs_of uses) is.again is.helps is.enters runs.passes runs.ends
      runs.holds runs.quiet (defaults_pass s.rules (map row_for (pairs_of uses)) is.defaults) all_there

-- ---- no word asks for help

plain_asks : (word : Text) → IsPlainWord word → is_question word ≡ false
plain_asks [] plain = refl
plain_asks (x ∷ xs) plain = rw (first_apart x xs plain) refl

neither : (a b : Bool) → a ≡ false → b ≡ false → (a || b) ≡ false
neither a b none other = rw (none, other) refl

places_ask : (names words : List Text) → ArePlaces names words → list_any is_question words ≡ false
places_ask [] [] are = refl
places_ask [] (word ∷ words) are = absurd are
places_ask (name ∷ names) [] are = absurd are
places_ask (name ∷ names) (word ∷ words) are =
    neither (is_question word) (list_any is_question words) (plain_asks word are.0) (places_ask names words are.1)

uses_ask : (c : List Rule) (entry : Entry) → Each (HasOption c entry.places) entry.options → (uses : List Use)
    → AreUsesOf entry uses
    → list_any is_question (flat_map use_words uses) ≡ false
uses_ask c entry facts [] known = refl
uses_ask c entry facts (With name value ∷ uses) known =
    let has = Each-at (HasOption c entry.places) entry.options (valued name) facts known.0.0 in
    neither (is_question (45 ∷ 45
    ∷ name)) (is_question value || list_any is_question (flat_map use_words uses)) has.asks
    (neither (is_question value) (list_any is_question (flat_map use_words uses)) (plain_asks value known.0.1)
    (uses_ask c entry facts uses known.2))
uses_ask c entry facts (Alone name ∷ uses) known =
    let has = Each-at (HasOption c entry.places) entry.options (flag name) facts known.0 in
    neither (is_question (45 ∷ 45 ∷ name)) (list_any is_question (flat_map use_words uses)) has.asks
    (uses_ask c entry facts uses known.2)

nothing_asked : (entry : Entry) (s : Shape) → IsLeafOf entry s → (places : List Text) → ArePlaces entry.places places
    → (uses : List Use) → AreUsesOf entry uses → asks_for_help (plain_words entry places uses) ≡ false
nothing_asked entry s is places are uses known =
    neither (list_any is_question (plain_words entry places uses)) (bytes_eq entry.name (codes "help"))
    (neither (is_question entry.name) (list_any is_question (places ++ flat_map use_words uses)) is.asks
    (list_any-append is_question places (flat_map use_words uses)
    ∙ neither (list_any is_question places) (list_any is_question (flat_map use_words uses))
    (places_ask entry.places places are)
    (uses_ask s.rules entry is.options uses known))) is.helpless

-- ---- the level above

stopped_passes : (s : Shape) (names : Names) (w : Walk) (name : Text) (seen words : List Text)
    → walk_fault s names (record w { stopped = Some (name, seen) }) words ≡ []
unfolding walk_fault walked
stopped_passes s names w name seen [] = refl
stopped_passes s names w name seen (x ∷ xs) = stopped_passes s names w name (seen ++ x ∷ []) xs

abbrev top : Shape
top = (built app).top

abbrev names : Names
names = names_of (built app)

abbrev stopped_at : Text → List Text → Walk
stopped_at name rest = record (standing [] None 1) { stopped = Some (name, rest) }

module _ (entry : Entry) (s : Shape) (is : IsLeafOf entry s) where
  top_step : walked top.rules names (standing [] None 1) entry.name ≡ stopped_at entry.name []
  unfolding walked
  top_step = rw is.met refl

  top_walk : (rest : List Text) → walk top.rules names nothing_held (entry.name ∷ rest) ≡ stopped_at entry.name rest
  top_walk rest =
      ap (λ w. fold (walked top.rules names) w rest) top_step
      ∙ sym (walk_stopped top.rules names (standing [] None 1) entry.name [] rest)

  top_turn : turn_fault top names (standing [] None 1) entry.name ≡ []
  top_turn = rw (is.met, is.helpless) refl

  top_passes : (rest : List Text) → walk_fault top names (standing [] None 1) (entry.name ∷ rest) ≡ []
  unfolding walk_fault
  top_passes rest =
      ap₂ or_else top_turn (ap (λ w. walk_fault top names w rest) top_step
      ∙ stopped_passes top names (standing [] None 1) entry.name [] rest)

  read_by : (program : Text) (rest : List Text)
      → subcommand_of app (program ∷ entry.name ∷ rest) ≡ Some (s.name, rows_after s.rules [] rest)
  read_by program rest =
      ap (λ (w : Walk). entered (built app) w.stopped) (top_walk rest)
      ∙ ap (λ found. option_map (λ leaf. rows_at leaf rest) found) is.found

  fault_by : (program : Text) (rest : List Text) → level_fault s [] nothing_held rest false [] ≡ []
      → fault_of app (program ∷ entry.name ∷ rest) ≡ []
  unfolding clap_on_literals
  fault_by program rest below = rw (top_walk rest, top_passes rest, is.found, below) refl

-- ---- the law

same_given : (rows : List Row) (given : Given) → ((id : Text) → first_of id rows ≡ given id) → given_by rows ≡ given
same_given rows given same = λ i id. same id i

judged : (words : List Text) (name : Text) (rows : List Row) → fault_of app words ≡ []
    → subcommand_of app words ≡ Some (name, rows)
    → asks_for_help (drop 1 words) ≡ false → command_of words ≡ command_named name (given_by rows)
judged words name rows passes read asks =
    rw asks (ap (λ o. option_and_then (λ reading. command_named reading.0 (given_by reading.1)) o)
    (ap (λ kinds. unless_refused kinds (subcommand_of app words)) passes ∙ read))

pub plain_law : PlainLaw
plain_law program entry places uses has are known =
    let s = leaf entry in
    let is = Each-at (λ entry. IsLeafOf entry (leaf entry)) table entry leaves has in
    let rest = words_of entry s is places are uses in
    let pairs = pairs_of entry s is places are uses in
    let rows = rows_after s.rules [] rest in
    let found : (id : Text) → first_of id rows ≡ plain_given entry places uses id =
    λ id. ap (first_of id) (leaf_rows entry s is places are uses known)
    ∙ plain_found id s.rules pairs
    ∙ ap (λ defaults. looked_up (pairs ++ defaults) id) is.unset
    ∙ ap (λ all. looked_up all id) (append_assoc (place_pairs entry.places places) (map use_pair uses)
    (unset_pairs entry.options)) in
    judged (program ∷ entry.name ∷ rest) s.name rows
    (fault_by entry s is program rest (leaf_passes entry s is places are uses known))
    (read_by entry s is program rest)
    (nothing_asked entry s is places are uses known)
    ∙ ap₂ command_named is.named (same_given rows (plain_given entry places uses) found)
