-- What a word is, decided: whether it fits a place, and which verb it names.
use Rattle.std.proofs.Common.{◌≡◌, ◌≢◌, ◌⊎◌, ℕ, ◌^◌, ◌<◌, List, [], ◌∷◌, sym, ◌∙◌, ap, subst, arith, refl}
use Rattle.std.proofs.Common.{All, codes, true, false, inl, inr, bytes_eq, Bool}
use Rattle.std.specs.Fmt.{decimal}
use Rattle.std.specs.Str.Parse.{digits_value}
use Rattle.std.proofs.lemmas.Fmt.{decimal_is_IsNumeral}
use Rattle.std.proofs.lemmas.Bool.{cases_lt}
use Rattle.std.proofs.lemmas.List.Elements.{All-nil, All-cons, All-head, All-tail}
use Rattle.std.proofs.lemmas.Slice.Eq.{bytes_eq-Decides}
use Rattle.hex.specs.Hex.{encode_lower}
use Rattle.device_model.specs.Grammar.{WordPlace, NumberPlace, BytePlace, StretchesPlace, ActorPlace}
use Rattle.device_model.specs.Grammar.{FuaPlace, Fits, IsNumber, IsAskingWord, Verb, FillVerb, WriteVerb}
use Rattle.device_model.specs.Grammar.{ReadVerb, FlushVerb, ServeVerb, TakeVerb, StepVerb, verb_word}
use Rattle.device_model.specs.Grammar.{is_asking, actor_word}
use Rattle.device_model.specs.Progress.{Actor, Commit, Place, Settle, Clean, Recalc}
use Rattle.device_model.specs.Stretches.{Stretch, stretch_text}
use Rattle.device_model.proofs.GrammarLemmas.{differ}
use Rattle.script_text.specs.Runs.{byte_in, stretch_in, stretches_in, parts_in, IsStretch, IsRunText}
use Rattle.script_text.proofs.RunLemmas.{byte_in-encode_lower, runs_of_word, word_is_runs}

-- It holds or it does not.
abbrev pub Decided : Type 0 → Type 0
Decided P = P ⊎ (¬ P)

-- ---- numbers, equations and lists

pub less_or_not : (a b : ℕ) → Decided (a < b)
less_or_not a b = elim (cases_lt a b) [
  | inl below ↦ inl below
  | inr above ↦ inr (λ below. omega (arith, above, below))
]

pub same_or_not : (xs ys : List ℕ) → Decided (xs ≡ ys)
same_or_not xs ys = by_test (bytes_eq xs ys) refl
  where
    by_test : (b : Bool) → bytes_eq xs ys ≡ b → Decided (xs ≡ ys)
    by_test true is = inl ((bytes_eq-Decides xs ys).0 is)
    by_test false is = inr (differ xs ys is)

pub all_or_not : {X : Type 0} (P : X → Type 0) → ((x : X) → Decided (P x)) → (xs : List X) → Decided (All P xs)
all_or_not P holds [] = inl (All-nil P)
all_or_not P holds (x ∷ xs) = both (holds x) (all_or_not P holds xs)
  where
    both : Decided (P x) → Decided (All P xs) → Decided (All P (x ∷ xs))
    both (inl here) (inl later) = inl (All-cons P x xs here later)
    both (inl here) (inr later) = inr (λ all. later (All-tail P x xs all))
    both (inr here) later = inr (λ all. here (All-head P x xs all))

-- ---- places

-- A word is a number where it is the decimal of its value.
number_or_not : (word : List ℕ) → Decided (Fits NumberPlace word)
number_or_not word =
    by_value (less_or_not (digits_value 10 word) (2 ^ 64)) (same_or_not word (decimal (digits_value 10 word)))
  where
    value : (n : ℕ) → IsNumber n → word ≡ decimal n → digits_value 10 word ≡ n
    value n fits is = ap (digits_value 10) is ∙ (decimal_is_IsNumeral n fits).1

    by_value : Decided (digits_value 10 word < 2 ^ 64) → Decided (word ≡ decimal (digits_value 10 word))
        → Decided (Fits NumberPlace word)
    by_value (inl small) (inl is) = inl (digits_value 10 word, small, is)
    by_value (inl small) (inr other) = inr (λ (n, fits, is). other (is ∙ ap decimal (sym (value n fits is))))
    by_value (inr large) is = inr (λ (n, fits, is). large (subst IsNumber (sym (value n fits is)) fits))

byte_or_not : (word : List ℕ) → Decided (Fits BytePlace word)
byte_or_not word =
    by_value (less_or_not (byte_in word) 256) (same_or_not word (encode_lower (byte_in word ∷ [])))
  where
    value : (b : ℕ) → b < 256 → word ≡ encode_lower (b ∷ []) → byte_in word ≡ b
    value b fits is = ap byte_in is ∙ byte_in-encode_lower b fits

    digits : (b : ℕ) → byte_in word ≡ b → encode_lower (b ∷ []) ≡ encode_lower (byte_in word ∷ [])
    digits b is = ap (λ (d : ℕ). encode_lower (d ∷ [])) (sym is)

    by_value : Decided (byte_in word < 256) → Decided (word ≡ encode_lower (byte_in word ∷ []))
        → Decided (Fits BytePlace word)
    by_value (inl small) (inl is) = inl (byte_in word, small, is)
    by_value (inl small) (inr other) = inr (λ (b, fits, is). other (is ∙ digits b (value b fits is)))
    by_value (inr large) is = inr (λ (b, fits, is). large (omega (arith, fits, value b fits is)))

stretch_or_not : (s : Stretch) → Decided (IsStretch s)
stretch_or_not s = all_of (less_or_not s.byte 256) (less_or_not 0 s.count) (less_or_not s.count (2 ^ 64))
  where
    all_of : Decided (s.byte < 256) → Decided (0 < s.count) → Decided (s.count < 2 ^ 64) → Decided (IsStretch s)
    all_of (inl low) (inl some) (inl small) = inl (low, omega (arith, some), small)
    all_of (inr high) some small = inr (λ is. high is.0)
    all_of (inl low) (inr none) small = inr (λ is. none (omega (arith, is.1)))
    all_of (inl low) (inl some) (inr large) = inr (λ is. large is.2)

run_text_or_not : (text : List ℕ) → Decided (IsRunText text)
run_text_or_not text =
    both (stretch_or_not (stretch_in text)) (same_or_not text (stretch_text (stretch_in text)))
  where
    both : Decided (IsStretch (stretch_in text)) → Decided (text ≡ stretch_text (stretch_in text))
        → Decided (IsRunText text)
    both (inl ok) (inl is) = inl (record { ok = ok; is = is })
    both (inl ok) (inr other) = inr (λ run. other run.is)
    both (inr bad) is = inr (λ run. bad run.ok)

stretches_or_not : (word : List ℕ) → Decided (Fits StretchesPlace word)
stretches_or_not word = elim (all_or_not IsRunText run_text_or_not (parts_in word)) [
  | inl runs ↦ let fits = runs_of_word word runs in inl (stretches_in word, fits.0, fits.1)
  | inr others ↦ inr (λ fits. others (word_is_runs word fits))
]

actor_or_not : (word : List ℕ) → Decided (Fits ActorPlace word)
actor_or_not word =
    by_words (same_or_not word (codes "commit")) (same_or_not word (codes "place"))
    (same_or_not word (codes "settle")) (same_or_not word (codes "clean")) (same_or_not word (codes "recalc"))
  where
    by_words : Decided (word ≡ codes "commit") → Decided (word ≡ codes "place")
        → Decided (word ≡ codes "settle") → Decided (word ≡ codes "clean")
        → Decided (word ≡ codes "recalc") → Decided (Fits ActorPlace word)
    by_words (inl is) b c d e = inl (Commit, is)
    by_words (inr a) (inl is) c d e = inl (Place, is)
    by_words (inr a) (inr b) (inl is) d e = inl (Settle, is)
    by_words (inr a) (inr b) (inr c) (inl is) e = inl (Clean, is)
    by_words (inr a) (inr b) (inr c) (inr d) (inl is) = inl (Recalc, is)
    by_words (inr a) (inr b) (inr c) (inr d) (inr e) = inr (λ (actor, is). none actor is)
      where
        none : (actor : Actor) → word ≢ actor_word actor
        none Commit = a
        none Place = b
        none Settle = c
        none Clean = d
        none Recalc = e

-- A word fits a place or it does not.
pub fits_or_not : (place : WordPlace) (word : List ℕ) → Decided (Fits place word)
fits_or_not NumberPlace word = number_or_not word
fits_or_not BytePlace word = byte_or_not word
fits_or_not StretchesPlace word = stretches_or_not word
fits_or_not ActorPlace word = actor_or_not word
fits_or_not FuaPlace word = same_or_not word (codes "fua")

-- ---- verbs

-- A word is a verb's or no verb's.
pub verb_or_none : (word : List ℕ) → Decided ((verb : Verb) × (word ≡ verb_word verb))
verb_or_none word =
    by_words (same_or_not word (codes "fill")) (same_or_not word (codes "write"))
    (same_or_not word (codes "read")) (same_or_not word (codes "flush"))
    (same_or_not word (codes "serve")) (same_or_not word (codes "take")) (same_or_not word (codes "step"))
  where
    by_words : Decided (word ≡ codes "fill") → Decided (word ≡ codes "write") → Decided (word ≡ codes "read")
        → Decided (word ≡ codes "flush")
        → Decided (word ≡ codes "serve") → Decided (word ≡ codes "take") → Decided (word ≡ codes "step")
        → Decided ((verb : Verb) × (word ≡ verb_word verb))
    by_words (inl is) b c d e f g = inl (FillVerb, is)
    by_words (inr a) (inl is) c d e f g = inl (WriteVerb, is)
    by_words (inr a) (inr b) (inl is) d e f g = inl (ReadVerb, is)
    by_words (inr a) (inr b) (inr c) (inl is) e f g = inl (FlushVerb, is)
    by_words (inr a) (inr b) (inr c) (inr d) (inl is) f g = inl (ServeVerb, is)
    by_words (inr a) (inr b) (inr c) (inr d) (inr e) (inl is) g = inl (TakeVerb, is)
    by_words (inr a) (inr b) (inr c) (inr d) (inr e) (inr f) (inl is) = inl (StepVerb, is)
    by_words (inr a) (inr b) (inr c) (inr d) (inr e) (inr f) (inr g) = inr (λ (verb, is). none verb is)
      where
        none : (verb : Verb) → word ≢ verb_word verb
        none FillVerb = a
        none WriteVerb = b
        none ReadVerb = c
        none FlushVerb = d
        none ServeVerb = e
        none TakeVerb = f
        none StepVerb = g

-- A word asks for a request or it does not.
pub asks_or_not : (word : List ℕ) → Decided (IsAskingWord word)
asks_or_not word =
    by_words (same_or_not word (codes "fill")) (same_or_not word (codes "write"))
    (same_or_not word (codes "read")) (same_or_not word (codes "flush"))
  where
    by_words : Decided (word ≡ codes "fill") → Decided (word ≡ codes "write") → Decided (word ≡ codes "read")
        → Decided (word ≡ codes "flush") → Decided (IsAskingWord word)
    by_words (inl is) b c d = inl (FillVerb, refl, is)
    by_words (inr a) (inl is) c d = inl (WriteVerb, refl, is)
    by_words (inr a) (inr b) (inl is) d = inl (ReadVerb, refl, is)
    by_words (inr a) (inr b) (inr c) (inl is) = inl (FlushVerb, refl, is)
    by_words (inr a) (inr b) (inr c) (inr d) = inr (λ (verb, asking, is). none verb asking is)
      where
        none : (verb : Verb) → is_asking verb ≡ true → word ≢ verb_word verb
        none FillVerb asking = a
        none WriteVerb asking = b
        none ReadVerb asking = c
        none FlushVerb asking = d
        none ServeVerb asking = absurd (cc)
        none TakeVerb asking = absurd (cc)
        none StepVerb asking = absurd (cc)
