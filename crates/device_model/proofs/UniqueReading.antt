-- That bytes are read in one way: as one line, or with one fault.
use Rattle.std.proofs.Common.{◌≡◌, ◌≢◌, ◌⊎◌, ℕ, ◌+◌, ◌/◌, ◌%◌, ◌==◌, ◌<◌, ◌≤◌, Bool, true, false, if◌then◌else◌, List, [], ◌∷◌, length, take, drop, map, sym, ◌∙◌, ap, subst, arith, refl, All, true≢false, ne_eqb, codes, bytes_eq, slice_index, Option, Some, None, inl, inr}
use Rattle.std.specs.Fmt.{decimal}
use Rattle.std.specs.List.{join_with_byte, slice_split}
use Rattle.hex.specs.Hex.{encode_with, encode_lower, decode_of, lower_digits, hex_digit_value}
use Rattle.hex.proofs.HexLemmas.{decode_of-encode_lower, IsDigits-lower_digits}
use Rattle.std.proofs.lemmas.Fmt.{decimal_injective}
use Rattle.std.proofs.lemmas.List.Elements.{All-nil, All-cons, All-head, All-tail}
use Rattle.std.proofs.lemmas.List.Splits.{slice_split_none, slice_split_at}
use Rattle.std.proofs.lemmas.Option.{same_Some}
use Rattle.device_model.specs.Grammar.{most_line, words_in, stretches_word, actor_word, fua_words, ask_words, IsNumber, AreStretches, HasValues, IsWritable, IsText, IsSkipped, Says, IsLine, WordPlace, NumberPlace, BytePlace, StretchesPlace, ActorPlace, FuaPlace, Fits, IsFaultAt, Verb, FillVerb, WriteVerb, ReadVerb, FlushVerb, ServeVerb, TakeVerb, StepVerb, verb_word, places_of, is_asking, IsFirstWord, IsFaultOfStart, IsFaultOfWords, IsFaultOf, ReadLine, Means, Refused, IsReadAs}
use Rattle.device_model.specs.LineFault.{WordsFault, TooLong, NotText}
use Rattle.device_model.specs.Progress.{Actor, Commit, Place, Settle, Clean, Recalc}
use Rattle.device_model.specs.Stretches.{Stretch, stretch_text}
use Rattle.device_model.specs.Script.{Ask, Fill, Write, Read, Flush, ScriptLine, Skip, AskLine, ServeLine, TakeLine, StepLine}
use Rattle.device_model.proofs.GrammarLemmas.{All-decimal, one_byte, differ}

-- ---- bytes, stretches and actors are told by their words

same_byte : (byte other : ℕ) → byte < 256 → other < 256 → encode_lower (byte ∷ []) ≡ encode_lower (other ∷ []) → byte ≡ other
same_byte byte other fits fits' same =
    let told = sym (decode_of-encode_lower (byte ∷ []) (one_byte byte fits)) ∙ ap decode_of same ∙ decode_of-encode_lower (other ∷ []) (one_byte other fits') in
    cc

-- Digits in lower case are no comma.
no_comma-digit : (digit : ℕ) → digit < 16 → slice_index lower_digits digit ≢ 44
no_comma-digit digit low is = let told = sym (IsDigits-lower_digits digit low) ∙ ap hex_digit_value is in absurd (cc)

abbrev IsStretch : Stretch → Type 0
IsStretch stretch = (stretch.byte < 256) × (1 ≤ stretch.count) × IsNumber stretch.count

abbrev NoComma : ℕ → Type 0
NoComma byte = (byte == 44) ≡ false

no_comma : (stretch : Stretch) → stretch.byte < 256 → IsNumber stretch.count → All NoComma (stretch_text stretch)
unfolding encode_with
no_comma stretch fits small =
    let hex : (digit : ℕ) → digit < 16 → NoComma (slice_index lower_digits digit) = λ digit low. ne_eqb (slice_index lower_digits digit) 44 (no_comma-digit digit low) in
    All-cons NoComma (slice_index lower_digits (stretch.byte / 16)) (slice_index lower_digits (stretch.byte % 16) ∷ 42 ∷ decimal stretch.count) (hex (stretch.byte / 16) (omega arith))
    (All-cons NoComma (slice_index lower_digits (stretch.byte % 16)) (42 ∷ decimal stretch.count) (hex (stretch.byte % 16) (omega arith))
    (All-cons NoComma 42 (decimal stretch.count) refl (All-decimal NoComma (λ digit low. ne_eqb (48 + digit) 44 (λ is. omega (arith, is))) stretch.count small)))

-- A stretch is told by its text.
same_stretch : (stretch other : Stretch) → IsStretch stretch → IsStretch other → stretch_text stretch ≡ stretch_text other → stretch ≡ other
unfolding encode_with
same_stretch stretch other (byte, some, count) (byte', some', count') same =
    let bytes : encode_lower (stretch.byte ∷ []) ≡ encode_lower (other.byte ∷ []) = ap (take 2) same in
    let counts : decimal stretch.count ≡ decimal other.count = ap (drop 3) same in
    let same_bytes = same_byte stretch.byte other.byte byte byte' bytes in
    let same_counts = decimal_injective stretch.count other.count count count' counts in
    ap (λ (b : ℕ). record { byte = b; count = stretch.count }) same_bytes ∙ ap (λ (c : ℕ). record { byte = other.byte; count = c }) same_counts

same_stretches_in : (stretches others : List Stretch) → All IsStretch stretches → All IsStretch others → map stretch_text stretches ≡ map stretch_text others → stretches ≡ others
same_stretches_in [] [] each each' same = refl
same_stretches_in [] (other ∷ others) each each' same = absurd (cc)
same_stretches_in (stretch ∷ stretches) [] each each' same = absurd (cc)
same_stretches_in (stretch ∷ stretches) (other ∷ others) each each' same =
    let first = same_stretch stretch other (All-head IsStretch stretch stretches each) (All-head IsStretch other others each') (cc) in
    let rest = same_stretches_in stretches others (All-tail IsStretch stretch stretches each) (All-tail IsStretch other others each') (cc) in
    cc

-- Parts without the byte that joins them are told by the joined bytes.
parts_of_joined : (part : List ℕ) (parts : List (List ℕ)) → All (λ bytes. All NoComma bytes) (part ∷ parts) → slice_split (λ b. b == 44) (join_with_byte 44 (part ∷ parts)) ≡ part ∷ parts
parts_of_joined part [] plain = slice_split_none (λ b. b == 44) part (All-head (λ bytes. All NoComma bytes) part [] plain)
parts_of_joined part (next ∷ parts) plain =
    slice_split_at (λ b. b == 44) part 44 (join_with_byte 44 (next ∷ parts)) (All-head (λ bytes. All NoComma bytes) part (next ∷ parts) plain) refl
    ∙ ap (λ (rest : List (List ℕ)). part ∷ rest) (parts_of_joined next parts (All-tail (λ bytes. All NoComma bytes) part (next ∷ parts) plain))

no_commas : (stretches : List Stretch) → All IsStretch stretches → All (λ bytes. All NoComma bytes) (map stretch_text stretches)
no_commas [] each = All-nil (λ bytes. All NoComma bytes)
no_commas (stretch ∷ stretches) each =
    let here = All-head IsStretch stretch stretches each in
    All-cons (λ bytes. All NoComma bytes) (stretch_text stretch) (map stretch_text stretches) (no_comma stretch here.0 here.2) (no_commas stretches (All-tail IsStretch stretch stretches each))

parts_of_stretches : (stretches : List Stretch) → AreStretches stretches → slice_split (λ b. b == 44) (stretches_word stretches) ≡ map stretch_text stretches
parts_of_stretches [] (some, each) = absurd (some refl)
parts_of_stretches (stretch ∷ stretches) (some, each) = parts_of_joined (stretch_text stretch) (map stretch_text stretches) (no_commas (stretch ∷ stretches) each)

-- Runs are told by their word.
same_stretches : (stretches others : List Stretch) → AreStretches stretches → AreStretches others → stretches_word stretches ≡ stretches_word others → stretches ≡ others
same_stretches stretches others are are' same =
    same_stretches_in stretches others are.1 are'.1 (sym (parts_of_stretches stretches are) ∙ ap (slice_split (λ b. b == 44)) same ∙ parts_of_stretches others are')

actor_by : List ℕ → Option Actor
actor_by word =
    if bytes_eq word (codes "commit") then Some Commit
    else if bytes_eq word (codes "place") then Some Place
    else if bytes_eq word (codes "settle") then Some Settle
    else if bytes_eq word (codes "clean") then Some Clean
    else if bytes_eq word (codes "recalc") then Some Recalc
    else None

actor_by-actor_word : (actor : Actor) → actor_by (actor_word actor) ≡ Some actor
unfolding actor_by
actor_by-actor_word Commit = refl
actor_by-actor_word Place = refl
actor_by-actor_word Settle = refl
actor_by-actor_word Clean = refl
actor_by-actor_word Recalc = refl

same_actor : (actor other : Actor) → actor_word actor ≡ actor_word other → actor ≡ other
same_actor actor other same = same_Some actor other (sym (actor_by-actor_word actor) ∙ ap actor_by same ∙ actor_by-actor_word other)

same_fua : (fua other : Bool) → fua_words fua ≡ fua_words other → fua ≡ other
same_fua true true same = refl
same_fua false false same = refl
same_fua true false same = absurd (cc)
same_fua false true same = absurd (cc)

verb_by : List ℕ → Option Verb
verb_by word =
    if bytes_eq word (codes "fill") then Some FillVerb
    else if bytes_eq word (codes "write") then Some WriteVerb
    else if bytes_eq word (codes "read") then Some ReadVerb
    else if bytes_eq word (codes "flush") then Some FlushVerb
    else if bytes_eq word (codes "serve") then Some ServeVerb
    else if bytes_eq word (codes "take") then Some TakeVerb
    else if bytes_eq word (codes "step") then Some StepVerb
    else None

verb_by-verb_word : (verb : Verb) → verb_by (verb_word verb) ≡ Some verb
unfolding verb_by
verb_by-verb_word FillVerb = refl
verb_by-verb_word WriteVerb = refl
verb_by-verb_word ReadVerb = refl
verb_by-verb_word FlushVerb = refl
verb_by-verb_word ServeVerb = refl
verb_by-verb_word TakeVerb = refl
verb_by-verb_word StepVerb = refl

same_verb : (verb other : Verb) → verb_word verb ≡ verb_word other → verb ≡ other
same_verb verb other same = same_Some verb other (sym (verb_by-verb_word verb) ∙ ap verb_by same ∙ verb_by-verb_word other)

no_start : (verb : Verb) → codes "start" ≢ verb_word verb
no_start FillVerb = differ (codes "start") (codes "fill") refl
no_start WriteVerb = differ (codes "start") (codes "write") refl
no_start ReadVerb = differ (codes "start") (codes "read") refl
no_start FlushVerb = differ (codes "start") (codes "flush") refl
no_start ServeVerb = differ (codes "start") (codes "serve") refl
no_start TakeVerb = differ (codes "start") (codes "take") refl
no_start StepVerb = differ (codes "start") (codes "step") refl

-- ---- a line is told by its words

abbrev verb_of_ask : Ask → Verb
verb_of_ask (Fill first count byte fua) = FillVerb
verb_of_ask (Write first stretches fua) = WriteVerb
verb_of_ask (Read first count) = ReadVerb
verb_of_ask Flush = FlushVerb

-- What stands behind the verb.
abbrev values_of_ask : Ask → List (List ℕ)
values_of_ask (Fill first count byte fua) = decimal first ∷ decimal count ∷ encode_lower (byte ∷ []) ∷ fua_words fua
values_of_ask (Write first stretches fua) = decimal first ∷ stretches_word stretches ∷ fua_words fua
values_of_ask (Read first count) = decimal first ∷ decimal count ∷ []
values_of_ask Flush = []

ask_words-parts : (ask : Ask) → ask_words ask ≡ verb_word (verb_of_ask ask) ∷ values_of_ask ask
ask_words-parts (Fill first count byte fua) = refl
ask_words-parts (Write first stretches fua) = refl
ask_words-parts (Read first count) = refl
ask_words-parts Flush = refl

same_ask : (ask other : Ask) → HasValues ask → HasValues other → verb_of_ask ask ≡ verb_of_ask other → values_of_ask ask ≡ values_of_ask other → ask ≡ other
same_ask (Fill first count byte fua) (Fill first' count' byte' fua') (a, b, c) (a', b', c') verbs values =
    let firsts = decimal_injective first first' a a' (cc) in
    let counts = decimal_injective count count' b b' (cc) in
    let bytes = same_byte byte byte' c c' (cc) in
    let fuas = same_fua fua fua' (cc) in
    cc
same_ask (Write first stretches fua) (Write first' stretches' fua') (a, b) (a', b') verbs values =
    let firsts = decimal_injective first first' a a' (cc) in
    let all_runs = same_stretches stretches stretches' b b' (cc) in
    let fuas = same_fua fua fua' (cc) in
    cc
same_ask (Read first count) (Read first' count') (a, b) (a', b') verbs values =
    let firsts = decimal_injective first first' a a' (cc) in
    let counts = decimal_injective count count' b b' (cc) in
    cc
same_ask Flush Flush a a' verbs values = refl
same_ask ask other a a' verbs values = absurd (cc)

-- ---- words fit their places, or have one fault

-- Each word fits its place, and there is one for each place but that of `fua`.
AllFit : List WordPlace → List (List ℕ) → Type 0
AllFit [] [] = Unit {0}
AllFit [] (word ∷ words) = ⊥
AllFit (FuaPlace ∷ places) [] = Unit {0}
AllFit (NumberPlace ∷ places) [] = ⊥
AllFit (BytePlace ∷ places) [] = ⊥
AllFit (StretchesPlace ∷ places) [] = ⊥
AllFit (ActorPlace ∷ places) [] = ⊥
AllFit (place ∷ places) (word ∷ words) = Fits place word × AllFit places words

no_fault : (places : List WordPlace) (words : List (List ℕ)) (fault : WordsFault) → AllFit places words → ¬ IsFaultAt places words fault
unfolding AllFit
no_fault [] [] fault fit bad = bad
no_fault [] (word ∷ words) fault fit bad = fit
no_fault (FuaPlace ∷ places) [] fault fit bad = bad
no_fault (NumberPlace ∷ places) [] fault fit bad = fit
no_fault (BytePlace ∷ places) [] fault fit bad = fit
no_fault (StretchesPlace ∷ places) [] fault fit bad = fit
no_fault (ActorPlace ∷ places) [] fault fit bad = fit
no_fault (place ∷ places) (word ∷ words) fault (fits, fit) bad = elim bad [
  | inl (fits', later) ↦ no_fault places words fault fit later
  | inr (unfit, is) ↦ unfit fits
]

one_fault : (places : List WordPlace) (words : List (List ℕ)) (fault other : WordsFault) → IsFaultAt places words fault → IsFaultAt places words other → fault ≡ other
one_fault [] [] fault other bad bad' = absurd bad
one_fault [] (word ∷ words) fault other bad bad' = bad ∙ sym bad'
one_fault (FuaPlace ∷ places) [] fault other bad bad' = absurd bad
one_fault (NumberPlace ∷ places) [] fault other bad bad' = bad ∙ sym bad'
one_fault (BytePlace ∷ places) [] fault other bad bad' = bad ∙ sym bad'
one_fault (StretchesPlace ∷ places) [] fault other bad bad' = bad ∙ sym bad'
one_fault (ActorPlace ∷ places) [] fault other bad bad' = bad ∙ sym bad'
one_fault (place ∷ places) (word ∷ words) fault other (inl (fits, later)) (inl (fits', later')) = one_fault places words fault other later later'
one_fault (place ∷ places) (word ∷ words) fault other (inl (fits, later)) (inr (unfit, is)) = absurd (unfit fits)
one_fault (place ∷ places) (word ∷ words) fault other (inr (unfit, is)) (inl (fits, later)) = absurd (unfit fits)
one_fault (place ∷ places) (word ∷ words) fault other (inr (unfit, is)) (inr (unfit', is')) = is ∙ sym is'

-- The values of a line fit.
fua_fits : (fua : Bool) → AllFit (FuaPlace ∷ []) (fua_words fua)
unfolding AllFit
fua_fits true = (refl, tt)
fua_fits false = tt

values_fit : (ask : Ask) → HasValues ask → AllFit (places_of (verb_of_ask ask)) (values_of_ask ask)
unfolding AllFit
values_fit (Fill first count byte fua) (a, b, c) = ((first, a, refl), ((count, b, refl), ((byte, c, refl), fua_fits fua)))
values_fit (Write first stretches fua) (a, b) = ((first, a, refl), ((stretches, b, refl), fua_fits fua))
values_fit (Read first count) (a, b) = ((first, a, refl), ((count, b, refl), tt))
values_fit Flush a = tt

asks : (ask : Ask) → is_asking (verb_of_ask ask) ≡ true
asks (Fill first count byte fua) = refl
asks (Write first stretches fua) = refl
asks (Read first count) = refl
asks Flush = refl

-- ---- lines

abbrev starts_of : ScriptLine → Bool
starts_of (AskLine start ask) = start
starts_of line = false

abbrev verb_of : ScriptLine → Verb
verb_of Skip = FlushVerb
verb_of (AskLine start ask) = verb_of_ask ask
verb_of (ServeLine ticket) = ServeVerb
verb_of (TakeLine ticket) = TakeVerb
verb_of (StepLine actor) = StepVerb

abbrev values_of : ScriptLine → List (List ℕ)
values_of Skip = []
values_of (AskLine start ask) = values_of_ask ask
values_of (ServeLine ticket) = decimal ticket ∷ []
values_of (TakeLine ticket) = decimal ticket ∷ []
values_of (StepLine actor) = actor_word actor ∷ []

abbrev words_of : Bool → Verb → List (List ℕ) → List (List ℕ)
words_of start verb values = if start then codes "start" ∷ verb_word verb ∷ values else verb_word verb ∷ values

-- A line is told by these, unless it is skipped.
same_line : (line other : ScriptLine) → line ≢ Skip → other ≢ Skip → IsWritable line → IsWritable other
    → starts_of line ≡ starts_of other → verb_of line ≡ verb_of other → values_of line ≡ values_of other → line ≡ other
same_line Skip other unskipped unskipped' a a' starts verbs values = absurd (unskipped refl)
same_line line Skip unskipped unskipped' a a' starts verbs values = absurd (unskipped' refl)
same_line (AskLine start ask) (AskLine start' ask') unskipped unskipped' a a' starts verbs values =
    let same = same_ask ask ask' a a' verbs values in
    cc
same_line (AskLine start ask) (ServeLine ticket) unskipped unskipped' a a' starts verbs values = absurd (true≢false (sym (asks ask) ∙ ap is_asking verbs))
same_line (AskLine start ask) (TakeLine ticket) unskipped unskipped' a a' starts verbs values = absurd (true≢false (sym (asks ask) ∙ ap is_asking verbs))
same_line (AskLine start ask) (StepLine actor) unskipped unskipped' a a' starts verbs values = absurd (true≢false (sym (asks ask) ∙ ap is_asking verbs))
same_line (ServeLine ticket) (AskLine start ask) unskipped unskipped' a a' starts verbs values = absurd (true≢false (sym (asks ask) ∙ ap is_asking (sym verbs)))
same_line (TakeLine ticket) (AskLine start ask) unskipped unskipped' a a' starts verbs values = absurd (true≢false (sym (asks ask) ∙ ap is_asking (sym verbs)))
same_line (StepLine actor) (AskLine start ask) unskipped unskipped' a a' starts verbs values = absurd (true≢false (sym (asks ask) ∙ ap is_asking (sym verbs)))
same_line (ServeLine ticket) (ServeLine ticket') unskipped unskipped' a a' starts verbs values =
    let same = decimal_injective ticket ticket' a a' (cc) in
    cc
same_line (TakeLine ticket) (TakeLine ticket') unskipped unskipped' a a' starts verbs values =
    let same = decimal_injective ticket ticket' a a' (cc) in
    cc
same_line (StepLine actor) (StepLine actor') unskipped unskipped' a a' starts verbs values =
    let same = same_actor actor actor' (cc) in
    cc
same_line line other unskipped unskipped' a a' starts verbs values = absurd (cc)

-- The words of a line that is not skipped, and that they fit.
record HasWords (words : List (List ℕ)) (line : ScriptLine) : Type 0 where
  pub unskipped : line ≢ Skip
  pub writable : IsWritable line
  pub words_are : words ≡ words_of (starts_of line) (verb_of line) (values_of line)
  pub fit : AllFit (places_of (verb_of line)) (values_of line)
  pub asking : starts_of line ≡ true → is_asking (verb_of line) ≡ true

-- What bytes say is skipped, or has their words.
said : (bytes : List ℕ) (line : ScriptLine) → Says bytes line → ((line ≡ Skip) × IsSkipped bytes) ⊎ ((¬ IsSkipped bytes) × HasWords (words_in bytes) line)
unfolding AllFit
said bytes Skip says = inl (refl, says)
said bytes (AskLine true ask) (kept, words, writable) = inr (
  kept,
  record {
    unskipped = λ is. cc;
    writable = writable;
    words_are = words ∙ ap (λ (rest : List (List ℕ)). codes "start" ∷ rest) (ask_words-parts ask);
    fit = values_fit ask writable;
    asking = λ starts. asks ask;
  },
)
said bytes (AskLine false ask) (kept, words, writable) = inr (
  kept,
  record {
    unskipped = λ is. cc;
    writable = writable;
    words_are = words ∙ ask_words-parts ask;
    fit = values_fit ask writable;
    asking = λ starts. asks ask;
  },
)
said bytes (ServeLine ticket) (kept, words, writable) = inr (
  kept,
  record {
    unskipped = λ is. cc;
    writable = writable;
    words_are = words;
    fit = ((ticket, writable, refl), tt);
    asking = λ starts. absurd (true≢false (sym starts));
  },
)
said bytes (TakeLine ticket) (kept, words, writable) = inr (
  kept,
  record {
    unskipped = λ is. cc;
    writable = writable;
    words_are = words;
    fit = ((ticket, writable, refl), tt);
    asking = λ starts. absurd (true≢false (sym starts));
  },
)
said bytes (StepLine actor) (kept, words, writable) = inr (
  kept,
  record {
    unskipped = λ is. cc;
    writable = writable;
    words_are = words;
    fit = ((actor, refl), tt);
    asking = λ starts. absurd (true≢false (sym starts));
  },
)

-- The first words tell whether a request is started, and by which verb.
same_words : (start start' : Bool) (verb verb' : Verb) (values values' : List (List ℕ)) → words_of start verb values ≡ words_of start' verb' values'
    → (start ≡ start') × (verb ≡ verb') × (values ≡ values')
same_words true true verb verb' values values' same = (refl, same_verb verb verb' (cc), cc)
same_words false false verb verb' values values' same = (refl, same_verb verb verb' (cc), cc)
same_words true false verb verb' values values' same = absurd (no_start verb' (cc))
same_words false true verb verb' values values' same = absurd (no_start verb (cc))

one_line : (words : List (List ℕ)) (line other : ScriptLine) → HasWords words line → HasWords words other → line ≡ other
one_line words line other has has' =
    let same = same_words (starts_of line) (starts_of other) (verb_of line) (verb_of other) (values_of line) (values_of other) (sym has.words_are ∙ has'.words_are) in
    same_line line other has.unskipped has'.unskipped has.writable has'.writable same.0 same.1 same.2

-- ---- faults of words

-- The words of a line begin with a first word.
first_word : (start : Bool) (verb : Verb) → (word : List ℕ) (words values : List (List ℕ)) → word ∷ words ≡ words_of start verb values → IsFirstWord word
first_word true verb word words values is = inl (cc)
first_word false verb word words values is = inr (verb, cc)

-- Behind `start` stands what asks, and fits.
no_fault_of_start : (words : List (List ℕ)) (fault : WordsFault) (verb : Verb) (values : List (List ℕ)) → words ≡ verb_word verb ∷ values
    → is_asking verb ≡ true → AllFit (places_of verb) values → ¬ IsFaultOfStart words fault
no_fault_of_start [] fault verb values is asking fit bad = cc
no_fault_of_start (word ∷ words) fault verb values is asking fit (inl (verb', asking', word_is, later)) =
    let same : verb' ≡ verb = same_verb verb' verb (cc) in
    let rest : words ≡ values = cc in
    no_fault (places_of verb) values fault fit (subst (λ (v : Verb). IsFaultAt (places_of v) values fault) same (subst (λ (ws : List (List ℕ)). IsFaultAt (places_of verb') ws fault) rest later))
no_fault_of_start (word ∷ words) fault verb values is asking fit (inr (other, wrong)) = other (verb, asking, cc)

no_fault_of_words : (words : List (List ℕ)) (fault : WordsFault) (start : Bool) (verb : Verb) (values : List (List ℕ)) → words ≡ words_of start verb values
    → (start ≡ true → is_asking verb ≡ true) → AllFit (places_of verb) values → ¬ IsFaultOfWords words fault
no_fault_of_words [] fault start verb values is asking fit bad = bad
no_fault_of_words (word ∷ words) fault true verb values is asking fit (inl (starts, bad)) = no_fault_of_start words fault verb values (cc) (asking refl) fit bad
no_fault_of_words (word ∷ words) fault false verb values is asking fit (inl (starts, bad)) = no_start verb (cc)
no_fault_of_words (word ∷ words) fault true verb values is asking fit (inr (inl (verb', word_is, bad))) = no_start verb' (cc)
no_fault_of_words (word ∷ words) fault false verb values is asking fit (inr (inl (verb', word_is, bad))) =
    let same : verb' ≡ verb = same_verb verb' verb (cc) in
    let rest : words ≡ values = cc in
    no_fault (places_of verb) values fault fit (subst (λ (v : Verb). IsFaultAt (places_of v) values fault) same (subst (λ (ws : List (List ℕ)). IsFaultAt (places_of verb') ws fault) rest bad))
no_fault_of_words (word ∷ words) fault start verb values is asking fit (inr (inr (other, wrong))) = other (first_word start verb word words values is)

one_fault_behind : (verb verb' : Verb) (words : List (List ℕ)) (fault other : WordsFault) → verb_word verb ≡ verb_word verb'
    → IsFaultAt (places_of verb) words fault → IsFaultAt (places_of verb') words other → fault ≡ other
one_fault_behind verb verb' words fault other same bad bad' =
    one_fault (places_of verb') words fault other (subst (λ (v : Verb). IsFaultAt (places_of v) words fault) (same_verb verb verb' same) bad) bad'

one_fault_of_start : (words : List (List ℕ)) (fault other : WordsFault) → IsFaultOfStart words fault → IsFaultOfStart words other → fault ≡ other
one_fault_of_start [] fault other bad bad' = bad ∙ sym bad'
one_fault_of_start (word ∷ words) fault other (inl (verb, asking, is, bad)) (inl (verb', asking', is', bad')) = one_fault_behind verb verb' words fault other (sym is ∙ is') bad bad'
one_fault_of_start (word ∷ words) fault other (inl (verb, asking, is, bad)) (inr (none, wrong)) = absurd (none (verb, asking, is))
one_fault_of_start (word ∷ words) fault other (inr (none, wrong)) (inl (verb, asking, is, bad)) = absurd (none (verb, asking, is))
one_fault_of_start (word ∷ words) fault other (inr (none, wrong)) (inr (none', wrong')) = wrong ∙ sym wrong'

one_fault_of_words : (words : List (List ℕ)) (fault other : WordsFault) → IsFaultOfWords words fault → IsFaultOfWords words other → fault ≡ other
one_fault_of_words [] fault other bad bad' = absurd bad
one_fault_of_words (word ∷ words) fault other (inl (starts, bad)) (inl (starts', bad')) = one_fault_of_start words fault other bad bad'
one_fault_of_words (word ∷ words) fault other (inl (starts, bad)) (inr (inl (verb, is, bad'))) = absurd (no_start verb (sym starts ∙ is))
one_fault_of_words (word ∷ words) fault other (inl (starts, bad)) (inr (inr (none, wrong))) = absurd (none (inl starts))
one_fault_of_words (word ∷ words) fault other (inr (inl (verb, is, bad))) (inl (starts, bad')) = absurd (no_start verb (sym starts ∙ is))
one_fault_of_words (word ∷ words) fault other (inr (inl (verb, is, bad))) (inr (inl (verb', is', bad'))) = one_fault_behind verb verb' words fault other (sym is ∙ is') bad bad'
one_fault_of_words (word ∷ words) fault other (inr (inl (verb, is, bad))) (inr (inr (none, wrong))) = absurd (none (inr (verb, is)))
one_fault_of_words (word ∷ words) fault other (inr (inr (none, wrong))) (inl (starts, bad)) = absurd (none (inl starts))
one_fault_of_words (word ∷ words) fault other (inr (inr (none, wrong))) (inr (inl (verb, is, bad))) = absurd (none (inr (verb, is)))
one_fault_of_words (word ∷ words) fault other (inr (inr (none, wrong))) (inr (inr (none', wrong'))) = wrong ∙ sym wrong'

-- ---- bytes

-- What a fault of some bytes says: they are too many; or few, and one is no text; or few and text, with words that have the fault.
HasFault : List ℕ → WordsFault → Type 0
HasFault bytes fault =
    ((fault ≡ TooLong) × (most_line < length bytes))
    ⊎ (((fault ≡ NotText) × (length bytes ≤ most_line) × (¬ IsText bytes))
    ⊎ ((length bytes ≤ most_line) × IsText bytes × (¬ IsSkipped bytes) × IsFaultOfWords (words_in bytes) fault))

has_fault : (bytes : List ℕ) (fault : WordsFault) → IsFaultOf bytes fault → HasFault bytes fault
unfolding HasFault
has_fault bytes TooLong bad = inl (refl, bad)
has_fault bytes NotText bad = inr (inl (refl, bad.0, bad.1))
has_fault bytes fault bad = inr (inr bad)

one_fault_of : (bytes : List ℕ) (fault other : WordsFault) → HasFault bytes fault → HasFault bytes other → fault ≡ other
unfolding HasFault
one_fault_of bytes fault other (inl (is, long)) (inl (is', long')) = is ∙ sym is'
one_fault_of bytes fault other (inl (is, long)) (inr (inl (is', short, no_text))) = absurd (omega (arith, long, short))
one_fault_of bytes fault other (inl (is, long)) (inr (inr (short, text, kept, bad))) = absurd (omega (arith, long, short))
one_fault_of bytes fault other (inr (inl (is, short, no_text))) (inl (is', long)) = absurd (omega (arith, long, short))
one_fault_of bytes fault other (inr (inl (is, short, no_text))) (inr (inl (is', short', no_text'))) = is ∙ sym is'
one_fault_of bytes fault other (inr (inl (is, short, no_text))) (inr (inr (short', text, kept, bad))) = absurd (no_text text)
one_fault_of bytes fault other (inr (inr (short, text, kept, bad))) (inl (is', long)) = absurd (omega (arith, long, short))
one_fault_of bytes fault other (inr (inr (short, text, kept, bad))) (inr (inl (is', short', no_text))) = absurd (no_text text)
one_fault_of bytes fault other (inr (inr (short, text, kept, bad))) (inr (inr (short', text', kept', bad'))) = one_fault_of_words (words_in bytes) fault other bad bad'

line_or_fault : (bytes : List ℕ) (line : ScriptLine) (fault : WordsFault) → IsLine bytes line → ¬ HasFault bytes fault
unfolding HasFault
line_or_fault bytes line fault is (inl (too, long)) = omega (arith, long, is.short)
line_or_fault bytes line fault is (inr (inl (is_no_text, short, no_text))) = no_text is.text
line_or_fault bytes line fault is (inr (inr (short, text, kept, bad))) = elim (said bytes line is.says) [
  | inl (skip, skipped) ↦ kept skipped
  | inr (kept', has) ↦ no_fault_of_words (words_in bytes) fault (starts_of line) (verb_of line) (values_of line) has.words_are has.asking has.fit bad
]

same_reading : (bytes : List ℕ) (line other : ScriptLine) → IsLine bytes line → IsLine bytes other → line ≡ other
same_reading bytes line other is is' = by_cases (said bytes line is.says) (said bytes other is'.says)
  where
    by_cases : ((line ≡ Skip) × IsSkipped bytes) ⊎ ((¬ IsSkipped bytes) × HasWords (words_in bytes) line)
        → ((other ≡ Skip) × IsSkipped bytes) ⊎ ((¬ IsSkipped bytes) × HasWords (words_in bytes) other) → line ≡ other
    by_cases (inl (skip, skipped)) (inl (skip', skipped')) = skip ∙ sym skip'
    by_cases (inl (skip, skipped)) (inr (kept, has)) = absurd (kept skipped)
    by_cases (inr (kept, has)) (inl (skip, skipped)) = absurd (kept skipped)
    by_cases (inr (kept, has)) (inr (kept', has')) = one_line (words_in bytes) line other has has'

-- ---- for callers

pub read_once : (bytes : List ℕ) (one other : ReadLine) → IsReadAs bytes one → IsReadAs bytes other → one ≡ other
read_once bytes (Means line) (Means other) is is' = ap Means (same_reading bytes line other is is')
read_once bytes (Means line) (Refused fault) is bad = absurd (line_or_fault bytes line fault is (has_fault bytes fault bad))
read_once bytes (Refused fault) (Means line) bad is = absurd (line_or_fault bytes line fault is (has_fault bytes fault bad))
read_once bytes (Refused fault) (Refused other) bad bad' = ap Refused (one_fault_of bytes fault other (has_fault bytes fault bad) (has_fault bytes other bad'))
