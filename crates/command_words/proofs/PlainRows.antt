-- What is read of the rows that plain words leave, with the defaults behind them.
use Rattle.std.proofs.Common.{◌≡◌, ◌∙◌, ◌&&◌, ◌||◌, Bool, true, false, not, refl, sym, ap, ap₂, subst, List, [], ◌∷◌}
use Rattle.std.proofs.Common.{◌++◌, map, fold, Option, Some, None, is_some, true≢false}
use Rattle.std.specs.Prelude.{if◌then◌else◌, slice_get}
use Rattle.std.specs.List.{list_all, list_any}
use Rattle.std.specs.Str.{bytes_eq}
use Rattle.std.proofs.lemmas.Slice.Eq.{bytes_eq-Decides}
use Rattle.clap.proofs.WalkLemmas.{both}
use Rattle.clap.specs.Walk.{Row, Rule, Text, first_of, has_row, is_empty, more_values, reading_by, with_default}
use Rattle.clap.specs.Takes.{is_given}
use Rattle.clap.specs.Faults.{defaults_fault, given_default_fault}
use Rattle.clap.specs.Kinds.{Kinds, or_else}
use Rattle.clap.specs.declared.parser.matches.ValueSource.TheVariants.{DefaultValue}
use Rattle.command_words.specs.PlainForm.{looked_up}
use Rattle.command_words.proofs.PlainFacts.{Each, default_pair, default_pairs}
use Rattle.command_words.proofs.PlainWalk.{added_absent, has_name, row_for}

abbrev pub or_some : {X : Type 0} → Option X → Option X → Option X
or_some None other = other
or_some (Some x) other = Some x

or_some-assoc : {X : Type 0} (a b c : Option X) → or_some (or_some a b) c ≡ or_some a (or_some b c)
or_some-assoc None b c = refl
or_some-assoc (Some x) b c = refl

or_some-told : {X : Type 0} (a b c : Option X) → is_some a ≡ true → or_some a b ≡ or_some a c
or_some-told None b c told = absurd (true≢false (sym told))
or_some-told (Some x) b c told = refl

-- Each row has a value.
abbrev pub Valued : List Row → Type 0
Valued [] = Unit {0}
Valued (r ∷ rs) = (is_some (slice_get r.values 0) ≡ true) × Valued rs

-- what a row has for an id
abbrev pub row_value : Text → Row → Option Text
row_value id r = if bytes_eq r.id id then slice_get r.values 0 else None

first_of-more : (id : Text) (r : Row) (rs : List Row) → is_some (slice_get r.values 0) ≡ true
    → first_of id (r ∷ rs) ≡ or_some (row_value id r) (first_of id rs)
first_of-more id r rs valued = go (bytes_eq r.id id) refl (slice_get r.values 0) refl valued
  where
    go : (b : Bool) → bytes_eq r.id id ≡ b → (v : Option Text) → slice_get r.values 0 ≡ v → is_some v ≡ true
        → first_of id (r ∷ rs) ≡ or_some (row_value id r) (first_of id rs)
    go true e (Some v) is told = rw (e, is) refl
    go true e None is told = absurd (true≢false (sym told))
    go false e v is told = rw e refl

first_of-push : (id : Text) (rows : List Row) (r : Row) → Valued rows → is_some (slice_get r.values 0) ≡ true
    → first_of id (rows ++ r ∷ []) ≡ or_some (first_of id rows) (row_value id r)
first_of-push id [] r valued one = first_of-more id r [] one ∙ ends (row_value id r)
  where
    ends : {X : Type 0} (o : Option X) → or_some o None ≡ o
    ends None = refl
    ends (Some x) = refl
first_of-push id (x ∷ xs) r valued one =
    first_of-more id x (xs ++ r ∷ []) valued.0
    ∙ ap (or_some (row_value id x)) (first_of-push id xs r valued.1 one)
    ∙ sym (or_some-assoc (row_value id x) (first_of id xs) (row_value id r))
    ∙ ap (λ o. or_some o (row_value id r)) (sym (first_of-more id x xs valued.0))

Valued-push : (rows : List Row) (r : Row) → Valued rows → is_some (slice_get r.values 0) ≡ true
    → Valued (rows ++ r ∷ [])
Valued-push [] r valued one = (one, tt)
Valued-push (x ∷ xs) r valued one = (valued.0, Valued-push xs r valued.1 one)

has_row-told : (id : Text) (rows : List Row) → Valued rows → has_row id rows ≡ true → is_some (first_of id rows) ≡ true
has_row-told id [] valued has = absurd (true≢false (sym has))
has_row-told id (r ∷ rs) valued has = go (bytes_eq r.id id) refl (has_row-told id rs valued.1)
  where
    go : (b : Bool) → bytes_eq r.id id ≡ b → (has_row id rs ≡ true → is_some (first_of id rs) ≡ true)
        → is_some (first_of id (r ∷ rs)) ≡ true
    go true e rest = rw e valued.0
    go false e rest = rw e (rest (rw e at has))

-- ---- defaults

abbrev default_row : Rule → Text → List Text → Row
default_row a value values = record {
  id = a.id;
  values = value ∷ values;
  count = None;
  source = Some DefaultValue;
  reading = reading_by a;
}

-- A default comes where there is no row, and changes nothing else.
data Defaulted (rows : List Row) (a : Rule) : List Row → Type 0 where
  stays : has_row a.id rows ≡ true → Defaulted rows a rows
  none : a.defaults ≡ [] → Defaulted rows a rows
  added : (value : Text) (values : List Text) → a.defaults ≡ value ∷ values → has_row a.id rows ≡ false
      → Defaulted rows a (rows ++ default_row a value values ∷ [])

defaulted : (rows : List Row) (a : Rule) → Defaulted rows a (with_default rows a)
defaulted rows a = go (has_row a.id rows) refl a.defaults refl
  where
    go : (b : Bool) → has_row a.id rows ≡ b → (values : List Text) → a.defaults ≡ values
        → Defaulted rows a (with_default rows a)
    go true e values is =
        let same : with_default rows a ≡ rows = rw e refl in
        subst (λ all. Defaulted rows a all) (sym same) (stays e)
    go false e [] is =
        let same : with_default rows a ≡ rows = rw (e, is) refl in
        subst (λ all. Defaulted rows a all) (sym same) (none is)
    go false e (v ∷ vs) is =
        let same : with_default rows a ≡ rows ++ default_row a v vs ∷ [] =
        rw (e, is) (added_absent (more_values DefaultValue (v ∷ vs)) (default_row a v vs ∷ []) rows a.id e) in
        subst (λ all. Defaulted rows a all) (sym same) (added v vs is e)

looked_up-append : (xs ys : List (Text × Text)) (id : Text)
    → looked_up (xs ++ ys) id ≡ or_some (looked_up xs id) (looked_up ys id)
looked_up-append [] ys id = refl
looked_up-append (x ∷ xs) ys id = go (bytes_eq x.0 id) refl (looked_up-append xs ys id)
  where
    go : (b : Bool) → bytes_eq x.0 id ≡ b → looked_up (xs ++ ys) id ≡ or_some (looked_up xs id) (looked_up ys id)
        → looked_up (x ∷ (xs ++ ys)) id ≡ or_some (looked_up (x ∷ xs) id) (looked_up ys id)
    go true e rest = rw e refl
    go false e rest = rw e rest

-- what a default adds to what is found
default_found : (id : Text) (rows : List Row) (a : Rule) (next : List Row) → Valued rows → Defaulted rows a next
    → Valued next × ((more : Option Text)
    → or_some (first_of id next) more
    ≡ or_some (first_of id rows) (or_some (looked_up (default_pair a a.defaults) id) more))
default_found id rows a next valued (stays has) = (valued, λ more. go (bytes_eq a.id id) refl more)
  where
    go : (b : Bool) → bytes_eq a.id id ≡ b → (more : Option Text)
        → or_some (first_of id rows) more
        ≡ or_some (first_of id rows) (or_some (looked_up (default_pair a a.defaults) id) more)
    go true e more =
        let same : a.id ≡ id = (bytes_eq-Decides a.id id).0 e in
        or_some-told (first_of id rows) _ _ (has_row-told id rows valued (subst (λ name. has_row name rows
        ≡ true) same has))
    go false e more = ap (λ o. or_some (first_of id rows) (or_some o more)) (sym (apart a.defaults))
      where
        apart : (values : List Text) → looked_up (default_pair a values) id ≡ None
        apart [] = refl
        apart (v ∷ vs) = rw e refl
default_found id rows a next valued (none is) = (
  valued,
  λ more. ap (λ values. or_some (first_of id rows) (or_some (looked_up
      (default_pair a values) id) more)) (sym is),
)
default_found id rows a next valued (added v vs is has) = (
  Valued-push rows (default_row a v vs) valued refl,
  λ more. ap (λ o. or_some o more) (first_of-push id rows (default_row a v vs) valued refl)
      ∙ or_some-assoc (first_of id rows) (row_value id (default_row a v vs)) more
      ∙ ap (λ values. or_some (first_of id rows) (or_some (looked_up (default_pair a values) id) more)) (sym is),
)

-- What is found at the end: what the rows have, and the defaults behind them.
pub first_of-defaults : (id : Text) (c : List Rule) (rows : List Row) → Valued rows
    → first_of id (fold with_default rows c) ≡ or_some (first_of id rows) (looked_up (default_pairs c) id)
first_of-defaults id [] rows valued = ends (first_of id rows)
  where
    ends : {X : Type 0} (o : Option X) → o ≡ or_some o None
    ends None = refl
    ends (Some x) = refl
first_of-defaults id (a ∷ c) rows valued =
    let found = default_found id rows a (with_default rows a) valued (defaulted rows a) in
    first_of-defaults id c (with_default rows a) found.0
    ∙ found.1 (looked_up (default_pairs c) id)
    ∙ ap (or_some (first_of id rows)) (sym (looked_up-append (default_pair a a.defaults) (default_pairs c) id))

pub Valued-map : (pairs : List (Text × Text)) → Valued (map row_for pairs)
Valued-map [] = tt
Valued-map (pair ∷ pairs) = (refl, Valued-map pairs)

pub first_of-map : (id : Text) (pairs : List (Text × Text)) → first_of id (map row_for pairs) ≡ looked_up pairs id
first_of-map id [] = refl
first_of-map id (pair ∷ pairs) = go (bytes_eq pair.0 id) refl (first_of-map id pairs)
  where
    go : (b : Bool) → bytes_eq pair.0 id ≡ b → first_of id (map row_for pairs) ≡ looked_up pairs id
        → first_of id (map row_for (pair ∷ pairs)) ≡ looked_up (pair ∷ pairs) id
    go true e rest = rw e refl
    go false e rest = rw e rest

-- The pairs, and the defaults behind them.
pub plain_found : (id : Text) (c : List Rule) (pairs : List (Text × Text))
    → first_of id (fold with_default (map row_for pairs) c) ≡ looked_up (pairs ++ default_pairs c) id
plain_found id c pairs =
    first_of-defaults id c (map row_for pairs) (Valued-map pairs)
    ∙ ap (λ o. or_some o (looked_up (default_pairs c) id)) (first_of-map id pairs)
    ∙ sym (looked_up-append pairs (default_pairs c) id)

-- ---- no default and no last check refuses

chosen : (b : Bool) (kinds : Kinds) → kinds ≡ [] → (if b then [] else kinds) ≡ []
chosen true kinds is = refl
chosen false kinds is = is

pub defaults_pass : (c : List Rule) (rows : List Row) → Each (λ a. given_default_fault a a.defaults ≡ []) c
    → defaults_fault rows c ≡ []
unfolding defaults_fault
defaults_pass [] rows each = refl
defaults_pass (a ∷ c) rows each =
    ap₂ or_else (chosen (has_row a.id rows || is_empty a.defaults) (given_default_fault a a.defaults) each.0)
    (defaults_pass c (with_default rows a) each.1)

is_given-append : (id : Text) (rows more : List Row) → is_given id rows ≡ true → is_given id (rows ++ more) ≡ true
is_given-append id [] more given = absurd (true≢false (sym given))
is_given-append id (r ∷ rs) more given = go (bytes_eq r.id id) refl (is_given-append id rs more)
  where
    go : (b : Bool) → bytes_eq r.id id ≡ b → (is_given id rs ≡ true → is_given id (rs ++ more) ≡ true)
        → is_given id (r ∷ (rs ++ more)) ≡ true
    go true e rest = rw e (rw e at given)
    go false e rest = rw e (rest (rw e at given))

default_given : (id : Text) (rows : List Row) (a : Rule) (next : List Row) → Defaulted rows a next
    → is_given id rows ≡ true → is_given id next ≡ true
default_given id rows a next (stays has) given = given
default_given id rows a next (none is) given = given
default_given id rows a next (added v vs is has) given = is_given-append id rows (default_row a v vs ∷ []) given

pub defaults_given : (id : Text) (c : List Rule) (rows : List Row) → is_given id rows ≡ true
    → is_given id (fold with_default rows c) ≡ true
defaults_given id [] rows given = given
defaults_given id (a ∷ c) rows given =
    defaults_given id c (with_default rows a) (default_given id rows a (with_default rows a) (defaulted rows a) given)

pub is_given-map : (id : Text) (pairs : List (Text × Text)) → has_name pairs id ≡ true
    → is_given id (map row_for pairs) ≡ true
is_given-map id [] has = absurd (true≢false (sym has))
is_given-map id (pair ∷ pairs) has = go (bytes_eq pair.0 id) refl (is_given-map id pairs)
  where
    go : (b : Bool) → bytes_eq pair.0 id ≡ b → (has_name pairs id ≡ true → is_given id (map row_for pairs) ≡ true)
        → is_given id (map row_for (pair ∷ pairs)) ≡ true
    go true e rest = rw e refl
    go false e rest = rw e (rest (rw e at has))

-- Where each required rule is one of the places, and each place is given, nothing is missing.
pub none_missing : (c : List Rule) (places : List Text) (rows : List Row)
    → list_all (λ a. not a.required || list_any (λ place. bytes_eq place a.id) places) c ≡ true
    → ((id : Text) → list_any (λ place. bytes_eq place id) places ≡ true → is_given id rows ≡ true)
    → list_any (λ a. a.required && not (is_given a.id rows)) c ≡ false
none_missing [] places rows required given = refl
none_missing (a ∷ c) places rows required given =
    let parts = both (not a.required || list_any (λ place. bytes_eq place a.id) places) _ required in
    go a.required refl parts.0 (none_missing c places rows parts.1 given)
  where
    go : (b : Bool) → a.required ≡ b → (not a.required || list_any (λ place. bytes_eq place a.id) places) ≡ true
        → list_any (λ a. a.required && not (is_given a.id rows)) c ≡ false
        → list_any (λ a. a.required && not (is_given a.id rows)) (a ∷ c) ≡ false
    go true e here rest =
        let is : is_given a.id rows ≡ true = given a.id (rw e at here) in
        rw (e, is) rest
    go false e here rest = rw e rest
