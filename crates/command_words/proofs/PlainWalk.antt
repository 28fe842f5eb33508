-- The walk over plain words: what is held after each of them, and that none is refused.
use Rattle.std.proofs.Common.{◌≡◌, ◌≢◌, ◌∙◌, ◌&&◌, ◌||◌, ◌+◌, ℕ, suc, Bool, true, false, refl}
use Rattle.std.proofs.Common.{sym, ap, ap₂, subst, arith, List, [], ◌∷◌, ◌++◌, map, fold, min, Option}
use Rattle.std.proofs.Common.{Some, None, codes, true≢false}
use Rattle.std.specs.Prelude.{nat_eq}
use Rattle.std.specs.List.{All, flat_map, list_any}
use Rattle.std.proofs.lemmas.List.{append-nil, append_assoc}
use Rattle.std.specs.Str.{bytes_eq}
use Rattle.std.proofs.lemmas.Slice.Eq.{bytes_eq-Decides}
use Rattle.clap.specs.Lexer.{long_of, short_of, usize_max}
use Rattle.clap.specs.Walk.{Held, Row, Rule, Text, Walk, arg_by_id, arg_by_index, arg_by_long, has_row, idle}
use Rattle.clap.specs.Walk.{more_values, option, settled_rows, used, walked, with_values}
use Rattle.clap.specs.Walk.{without, at_row}
use Rattle.clap.specs.Simple.{Shape, filled, with_index}
use Rattle.clap.specs.Kinds.{or_else}
use Rattle.clap.specs.Faults.{settle_fault, turn_fault, use_fault, walk_fault}
use Rattle.clap.specs.declared.parser.matches.ValueSource.TheVariants.{CommandLine}
use Rattle.clap.specs.declared.builder.value_parser.Reading.TheVariants.{AsWritten}
use Rattle.command_words.specs.Table.{Entry, flag, valued}
use Rattle.command_words.specs.ByClap.{option_rule, place_rule}
use Rattle.command_words.specs.PlainForm.{AreUsesOf, ArePlaces, IsPlainWord, Use, With, Alone, use_name}
use Rattle.command_words.specs.PlainForm.{use_pair, use_words, place_pairs}
use Rattle.command_words.proofs.PlainFacts.{Each, Each-at, HasOption, HasPlaces}

-- ---- words

-- What `clap` sees of a word that does not begin with `-`.
pub record NoFlag (word : Text) : Type 0 where
  pub dashes : bytes_eq word (45 ∷ 45 ∷ []) ≡ false
  pub long : long_of word ≡ None
  pub short : short_of word ≡ None

pub first_apart : (x : ℕ) (xs : Text) → IsPlainWord (x ∷ xs) → nat_eq x 45 ≡ false
first_apart x xs plain = go (nat_eq x 45) refl
  where
    go : (b : Bool) → nat_eq x 45 ≡ b → nat_eq x 45 ≡ false
    go false e = e
    go true e = absurd (plain ((bytes_eq-Decides (x ∷ []) (45 ∷ [])).0 (rw e refl)))

pub no_flag : (word : Text) → IsPlainWord word → NoFlag word
no_flag [] plain = record { dashes = refl; long = refl; short = refl }
no_flag (x ∷ xs) plain =
    let e = first_apart x xs plain in
    record { dashes = rw e refl; long = rw e refl; short = rw e refl }

-- ---- rows

-- The row of a place or an option that the words have.
abbrev pub row_for : Text × Text → Row
row_for pair = record {
  id = pair.0;
  values = pair.1 ∷ [];
  count = None;
  source = Some CommandLine;
  reading = AsWritten;
}

abbrev pub has_name : List (Text × Text) → Text → Bool
has_name pairs name = list_any (λ pair. bytes_eq pair.0 name) pairs

pub has_row-map : (pairs : List (Text × Text)) (name : Text) → has_row name (map row_for pairs) ≡ has_name pairs name
has_row-map [] name = refl
has_row-map (pair ∷ pairs) name = ap (λ b. bytes_eq pair.0 name || b) (has_row-map pairs name)

-- ---- standing between two words

abbrev pub held_at : List Row → Option (Text × List Text) → Held
held_at rows pending = record { rows = rows; pending = pending; skip = 0 }

abbrev pub standing : List Row → Option (Text × List Text) → ℕ → Walk
standing rows pending position = record {
  held = held_at rows pending;
  waiting = idle;
  position = position;
  is_trailing = false;
  stopped = None;
}

-- the same, where an option waits for its value
abbrev pub waiting_for : Text → List Row → ℕ → Walk
waiting_for name rows position = record {
  held = held_at rows (Some (name, []));
  waiting = option name;
  position = position;
  is_trailing = false;
  stopped = None;
}

abbrev place_at : ℕ → Text → Rule
place_at k name = with_index k (filled (place_rule name))

abbrev valued_at : Text → Rule
valued_at name = filled (option_rule (valued name))

abbrev flag_at : Text → Rule
flag_at name = filled (option_rule (flag name))

pub and_false : (b : Bool) → (b && false) ≡ false
and_false true = refl
and_false false = refl

module _ (c : List Rule) where
  place_step : (rows : List Row) (pending : Option (Text × List Text)) (k : ℕ) (name word : Text) → NoFlag word
      → arg_by_index c k ≡ Some (place_at k name) → min (k + 1) usize_max ≡ suc k
      → walked c [] (standing rows pending k) word
      ≡ standing (settled_rows c pending rows) (Some (name, word ∷ [])) (suc k)
  unfolding walked
  place_step rows pending k name word none by next =
      rw (none.dashes, none.long, none.short, by, next, and_false) refl

  option_step : (rows : List Row) (pending : Option (Text × List Text)) (k : ℕ) (name : Text)
      → bytes_eq (45 ∷ 45 ∷ name) (45 ∷ 45 ∷ []) ≡ false → long_of (45 ∷ 45 ∷ name) ≡ Some (name, None)
      → arg_by_long c name ≡ Some (valued_at name)
      → walked c [] (standing rows pending k) (45 ∷ 45 ∷ name) ≡ waiting_for name (settled_rows c pending rows) k
  unfolding walked
  option_step rows pending k name dashes long by = rw (dashes, long, by) refl

  flag_step : (rows : List Row) (pending : Option (Text × List Text)) (k : ℕ) (name : Text)
      → bytes_eq (45 ∷ 45 ∷ name) (45 ∷ 45 ∷ []) ≡ false → long_of (45 ∷ 45 ∷ name) ≡ Some (name, None)
      → arg_by_long c name ≡ Some (flag_at name)
      → walked c [] (standing rows pending k) (45 ∷ 45 ∷ name)
      ≡ standing (used (flag_at name) [] (settled_rows c pending rows)) None k
  unfolding walked
  flag_step rows pending k name dashes long by = rw (dashes, long, by) refl

  value_step : (rows : List Row) (k : ℕ) (name word : Text) → NoFlag word → arg_by_id c name ≡ Some (valued_at name)
      → walked c [] (waiting_for name rows k) word ≡ standing rows (Some (name, word ∷ [])) k
  unfolding walked
  value_step rows k name word none by =
      let same : bytes_eq name name ≡ true = (bytes_eq-Decides name name).1 refl in
      rw (none.dashes, none.long, none.short, by, same) refl

-- ---- what a use leaves

without_absent : (rows : List Row) (id : Text) → has_row id rows ≡ false → without id rows ≡ rows
without_absent [] id absent = refl
without_absent (r ∷ rs) id absent = go (bytes_eq r.id id) refl (without_absent rs id)
  where
    go : (b : Bool) → bytes_eq r.id id ≡ b → (has_row id rs ≡ false → without id rs ≡ rs) → without id (r ∷ rs) ≡ r ∷ rs
    go true e rest = absurd (true≢false (rw e at absent))
    go false e rest = rw e (ap (λ xs. r ∷ xs) (rest (rw e at absent)))

pub added_absent : (change : Row → List Row) (missing rows : List Row) (id : Text) → has_row id rows ≡ false
    → at_row id change missing rows ≡ rows ++ missing
added_absent change missing [] id absent = refl
added_absent change missing (r ∷ rs) id absent = go (bytes_eq r.id id) refl (added_absent change missing rs id)
  where
    go : (b : Bool) → bytes_eq r.id id ≡ b → (has_row id rs ≡ false → at_row id change missing rs ≡ rs ++ missing)
        → at_row id change missing (r ∷ rs) ≡ r ∷ (rs ++ missing)
    go true e rest = absurd (true≢false (rw e at absent))
    go false e rest = rw e (ap (λ xs. r ∷ xs) (rest (rw e at absent)))

map-push : (pairs : List (Text × Text)) (pair : Text × Text)
    → map row_for pairs ++ row_for pair ∷ [] ≡ map row_for (pairs ++ pair ∷ [])
map-push [] pair = refl
map-push (p ∷ pairs) pair = ap (λ rows. row_for p ∷ rows) (map-push pairs pair)

with_values-map : (pairs : List (Text × Text)) (name value : Text) → has_name pairs name ≡ false
    → with_values name AsWritten CommandLine (value ∷ []) (without name (map row_for pairs))
    ≡ map row_for (pairs ++ (name, value) ∷ [])
with_values-map pairs name value apart =
    let absent = has_row-map pairs name ∙ apart in
    ap (with_values name AsWritten CommandLine (value ∷ [])) (without_absent (map row_for pairs) name absent)
    ∙ added_absent (more_values CommandLine (value ∷ [])) (row_for (name, value)
    ∷ []) (map row_for pairs) name absent ∙ map-push pairs (name, value)

place_used : (k : ℕ) (pairs : List (Text × Text)) (name value : Text) → has_name pairs name ≡ false
    → used (place_at k name) (value ∷ []) (map row_for pairs) ≡ map row_for (pairs ++ (name, value) ∷ [])
place_used k pairs name value apart = with_values-map pairs name value apart

valued_used : (pairs : List (Text × Text)) (name value : Text) → has_name pairs name ≡ false
    → used (valued_at name) (value ∷ []) (map row_for pairs) ≡ map row_for (pairs ++ (name, value) ∷ [])
valued_used pairs name value apart = with_values-map pairs name value apart

flag_used : (pairs : List (Text × Text)) (name : Text) → has_name pairs name ≡ false
    → used (flag_at name) [] (map row_for pairs) ≡ map row_for (pairs ++ (name, codes "true") ∷ [])
flag_used pairs name apart = with_values-map pairs name (codes "true") apart

-- ---- no use and no word is refused

place_quiet : (c : List Rule) (k : ℕ) (pairs : List (Text × Text)) (name value : Text)
    → arg_by_id c name ≡ Some (place_at k name)
    → has_name pairs name ≡ false → settle_fault c false (held_at (map row_for pairs) (Some (name, value ∷ []))) ≡ []
place_quiet c k pairs name value by apart =
    let absent : has_row name (map row_for pairs) ≡ false = has_row-map pairs name ∙ apart in
    rw (by, absent) refl

valued_quiet : (c : List Rule) (pairs : List (Text × Text)) (name value : Text)
    → arg_by_id c name ≡ Some (valued_at name)
    → has_name pairs name ≡ false → settle_fault c false (held_at (map row_for pairs) (Some (name, value ∷ []))) ≡ []
valued_quiet c pairs name value by apart =
    let absent : has_row name (map row_for pairs) ≡ false = has_row-map pairs name ∙ apart in
    rw (by, absent) refl

flag_quiet : (pairs : List (Text × Text)) (name : Text) → has_name pairs name ≡ false
    → use_fault false (flag_at name) [] (map row_for pairs) ≡ []
flag_quiet pairs name apart =
    let absent : has_row name (map row_for pairs) ≡ false = has_row-map pairs name ∙ apart in
    rw absent refl

module _ (s : Shape) (again : s.args_override_self
    ≡ false) (rows : List Row) (pending : Option (Text × List Text)) (k : ℕ)
    (quiet : settle_fault s.rules false (held_at rows pending) ≡ []) where
  place_turn : (name word : Text) → NoFlag word → arg_by_index s.rules k ≡ Some (place_at k name)
      → turn_fault s [] (standing rows pending k) word ≡ []
  place_turn name word none by = rw (again, none.dashes, none.long, none.short, by, and_false, quiet) refl

  option_turn : (name : Text) → bytes_eq (45 ∷ 45 ∷ name) (45 ∷ 45 ∷ []) ≡ false
      → long_of (45 ∷ 45 ∷ name) ≡ Some (name, None)
      → arg_by_long s.rules name ≡ Some (valued_at name)
      → turn_fault s [] (standing rows pending k) (45 ∷ 45 ∷ name) ≡ []
  option_turn name dashes long by = rw (again, dashes, long, by, quiet) refl

  flag_turn : (name : Text) → bytes_eq (45 ∷ 45 ∷ name) (45 ∷ 45 ∷ []) ≡ false
      → long_of (45 ∷ 45 ∷ name) ≡ Some (name, None)
      → arg_by_long s.rules name ≡ Some (flag_at name)
      → use_fault false (flag_at name) [] (settled_rows s.rules pending rows) ≡ []
      → turn_fault s [] (standing rows pending k) (45 ∷ 45 ∷ name) ≡ []
  flag_turn name dashes long by use_quiet = rw (again, dashes, long, by, quiet, use_quiet) refl

value_turn : (s : Shape) (rows : List Row) (k : ℕ) (name word : Text) → NoFlag word
    → turn_fault s [] (waiting_for name rows k) word ≡ []
value_turn s rows k name word none = rw (none.dashes, none.long, none.short) refl

-- ---- walks

-- The words are walked over, and leave a standing walk that holds the pairs.
pub record Runs (s : Shape) (w : Walk) (words : List Text) (pairs : List (Text × Text)) : Type 0 where
  pub rows : List Row
  pub pending : Option (Text × List Text)
  pub position : ℕ
  pub ends : fold (walked s.rules []) w words ≡ standing rows pending position
  pub holds : settled_rows s.rules pending rows ≡ map row_for pairs
  pub quiet : settle_fault s.rules false (held_at rows pending) ≡ []
  pub passes : walk_fault s [] w words ≡ []

runs_next : (s : Shape) (w next : Walk) (word : Text) (words : List Text) (pairs : List (Text × Text))
    → walked s.rules [] w word ≡ next → turn_fault s [] w word ≡ [] → Runs s next words pairs
    → Runs s w (word ∷ words) pairs
unfolding walk_fault
runs_next s w next word words pairs step turn runs = record {
  rows = runs.rows;
  pending = runs.pending;
  position = runs.position;
  ends = ap (λ v. fold (walked s.rules []) v words) step ∙ runs.ends;
  holds = runs.holds;
  quiet = runs.quiet;
  passes = ap₂ or_else turn (ap (λ v. walk_fault s [] v words) step ∙ runs.passes);
}

-- ---- the uses

or_false : (a b : Bool) → (a || b) ≡ false → (a ≡ false) × (b ≡ false)
or_false true b e = absurd (true≢false e)
or_false false b e = (refl, e)

has_name-push : (pairs : List (Text × Text)) (pair : Text × Text) (name : Text) → has_name pairs name ≡ false
    → bytes_eq pair.0 name ≡ false → has_name (pairs ++ pair ∷ []) name ≡ false
has_name-push [] pair name none apart = rw apart refl
has_name-push (p ∷ pairs) pair name none apart =
    let parts = or_false (bytes_eq p.0 name) (has_name pairs name) none in
    rw parts.0 (has_name-push pairs pair name parts.1 apart)

names_apart : (a b : Text) → b ≢ a → bytes_eq a b ≡ false
names_apart a b ne = go (bytes_eq a b) refl
  where
    go : (t : Bool) → bytes_eq a b ≡ t → bytes_eq a b ≡ false
    go false e = e
    go true e = absurd (ne (sym ((bytes_eq-Decides a b).0 e)))

-- No pair has the name of one of the uses.
abbrev pub Fresh : List (Text × Text) → List Use → Type 0
Fresh pairs [] = Unit {0}
Fresh pairs (one ∷ uses) = (has_name pairs (use_name one) ≡ false) × Fresh pairs uses

Fresh-push : (pairs : List (Text × Text)) (pair : Text × Text) (uses : List Use) → Fresh pairs uses
    → All (λ other. use_name other ≢ pair.0) uses → Fresh (pairs ++ pair ∷ []) uses
Fresh-push pairs pair [] fresh apart = tt
Fresh-push pairs pair (one ∷ uses) fresh apart = (
  has_name-push pairs pair (use_name one) fresh.0 (names_apart pair.0 (use_name one) (apart 0 one (omega arith))),
  Fresh-push pairs pair uses fresh.1 (λ k d lt. apart (suc k) d (omega arith)),
)

joined : (s : Shape) (w : Walk) (words : List Text) (pairs more : List (Text × Text)) (pair : Text × Text)
    → Runs s w words ((pairs ++ pair ∷ []) ++ more) → Runs s w words (pairs ++ pair ∷ more)
joined s w words pairs more pair runs = subst (λ all. Runs s w words all) (append_assoc pairs (pair ∷ []) more) runs

module _ (s : Shape) (again : s.args_override_self ≡ false) (entry : Entry)
    (facts : Each (HasOption s.rules entry.places) entry.options) where
  pub uses_run : (uses : List Use) (rows : List Row) (pending : Option (Text × List Text)) (k : ℕ) (pairs : List
      (Text × Text))
      → settled_rows s.rules pending rows ≡ map row_for pairs → settle_fault s.rules false (held_at rows pending) ≡ []
      → AreUsesOf entry uses → Fresh pairs uses
      → Runs s (standing rows pending k) (flat_map use_words uses) (pairs ++ map use_pair uses)
  unfolding walk_fault
  uses_run [] rows pending k pairs holds quiet are fresh = record {
    rows = rows;
    pending = pending;
    position = k;
    ends = refl;
    holds = holds ∙ ap (map row_for) (sym (append-nil pairs));
    quiet = quiet;
    passes = refl;
  }
  uses_run (With name value ∷ uses) rows pending k pairs holds quiet are fresh =
      let has = Each-at (HasOption s.rules entry.places) entry.options (valued name) facts are.0.0 in
      let none = no_flag value are.0.1 in
      joined s (standing rows pending k) (flat_map use_words (With name value
      ∷ uses)) pairs (map use_pair uses) (name, value)
      (runs_next s (standing rows pending k) (waiting_for name (map row_for pairs) k) (45 ∷ 45 ∷ name) (value
      ∷ flat_map use_words uses) _
      (option_step s.rules rows pending k name has.dashes has.long has.by_long ∙ ap (λ r. waiting_for name r k) holds)
      (option_turn s again rows pending k quiet name has.dashes has.long has.by_long)
      (runs_next s (waiting_for name (map row_for pairs) k) (standing (map row_for pairs) (Some (
        name,
        value
            ∷ [],
      )) k) value (flat_map use_words uses) _
      (value_step s.rules (map row_for pairs) k name value none has.by_id)
      (value_turn s (map row_for pairs) k name value none)
      (uses_run uses (map row_for pairs) (Some (name, value ∷ [])) k (pairs ++ (name, value) ∷ [])
      (rw has.by_id (valued_used pairs name value fresh.0)) (valued_quiet s.rules pairs name value has.by_id fresh.0)
      are.2 (Fresh-push pairs (name, value) uses fresh.1 are.1))))
  uses_run (Alone name ∷ uses) rows pending k pairs holds quiet are fresh =
      let has = Each-at (HasOption s.rules entry.places) entry.options (flag name) facts are.0 in
      let use_quiet = flag_quiet pairs name fresh.0 in
      joined s (standing rows pending k) (flat_map use_words (Alone name
      ∷ uses)) pairs (map use_pair uses) (name, codes "true")
      (runs_next s (standing rows pending k) (standing (map row_for (pairs ++ (name, codes "true")
      ∷ [])) None k) (45 ∷ 45 ∷ name) (flat_map use_words uses) _
      (flag_step s.rules rows pending k name has.dashes has.long has.by_long
      ∙ ap (λ r. standing r None k) (ap (used (flag_at name) []) holds ∙ flag_used pairs name fresh.0))
      (flag_turn s again rows pending k quiet name has.dashes has.long has.by_long
      (ap (use_fault false (flag_at name) []) holds ∙ use_quiet))
      (uses_run uses (map row_for (pairs ++ (name, codes "true") ∷ [])) None k (pairs ++ (name, codes "true")
      ∷ []) refl refl
      are.2 (Fresh-push pairs (name, codes "true") uses fresh.1 are.1)))

-- ---- the places

-- No pair has one of the names.
abbrev pub FreshNames : List (Text × Text) → List Text → Type 0
FreshNames pairs [] = Unit {0}
FreshNames pairs (name ∷ names) = (has_name pairs name ≡ false) × FreshNames pairs names

FreshNames-push : (pairs : List (Text × Text)) (pair : Text × Text) (names : List Text) → FreshNames pairs names
    → list_any (λ other. bytes_eq pair.0 other) names ≡ false → FreshNames (pairs ++ pair ∷ []) names
FreshNames-push pairs pair [] fresh apart = tt
FreshNames-push pairs pair (name ∷ names) fresh apart =
    let parts = or_false (bytes_eq pair.0 name) (list_any (λ other. bytes_eq pair.0 other) names) apart in (
      has_name-push pairs pair name fresh.0 parts.0,
      FreshNames-push pairs pair names fresh.1 parts.1,
    )

pub FreshNames-none : (names : List Text) → FreshNames [] names
FreshNames-none [] = tt
FreshNames-none (name ∷ names) = (refl, FreshNames-none names)

-- What holds from a standing walk on.
abbrev pub Continues : Shape → List Text → List (Text × Text) → List (Text × Text) → Type 0
Continues s words pairs all = (rows : List Row) (pending : Option (Text × List Text)) (k : ℕ)
    → settled_rows s.rules pending rows ≡ map row_for pairs → settle_fault s.rules false (held_at rows pending) ≡ []
    → Runs s (standing rows pending k) words all

module _ (s : Shape) (again : s.args_override_self ≡ false) (rest : List Text) (all : List (Text × Text)) where
  pub places_run : (names words : List Text) (rows : List Row) (pending : Option (Text × List Text)) (k : ℕ)
      (pairs : List (Text × Text))
      → settled_rows s.rules pending rows ≡ map row_for pairs → settle_fault s.rules false (held_at rows pending) ≡ []
      → HasPlaces s.rules k names → ArePlaces names words → FreshNames pairs names
      → Continues s rest (pairs ++ place_pairs names words) all
      → Runs s (standing rows pending k) (words ++ rest) all
  places_run [] [] rows pending k pairs holds quiet has are fresh go =
      go rows pending k (holds ∙ ap (map row_for) (sym (append-nil pairs))) quiet
  places_run [] (word ∷ words) rows pending k pairs holds quiet has are fresh go = absurd are
  places_run (name ∷ names) [] rows pending k pairs holds quiet has are fresh go = absurd are
  places_run (name ∷ names) (word ∷ words) rows pending k pairs holds quiet has are fresh go =
      let none = no_flag word are.0 in
      runs_next s (standing rows pending k) (standing (map row_for pairs) (Some (
        name,
        word
            ∷ [],
      )) (suc k)) word (words ++ rest) all
      (place_step s.rules rows pending k name word none has.0 has.2
      ∙ ap (λ r. standing r (Some (name, word ∷ [])) (suc k)) holds)
      (place_turn s again rows pending k quiet name word none has.0)
      (places_run names words (map row_for pairs) (Some (name, word ∷ [])) (suc k) (pairs ++ (name, word) ∷ [])
      (rw has.1 (place_used k pairs name word fresh.0)) (place_quiet s.rules k pairs name word has.1 fresh.0)
      has.4 are.1 (FreshNames-push pairs (name, word) names fresh.1 has.3)
      (λ rows2 pending2 k2 holds2 quiet2. go rows2 pending2 k2
      (holds2 ∙ ap (map row_for) (append_assoc pairs ((name, word) ∷ []) (place_pairs names words))) quiet2))
