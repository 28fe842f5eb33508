-- Words that fit the places of a verb are a line, and others have a fault.
use Rattle.std.proofs.Common.{◌≡◌, ◌⊎◌, ℕ, true, false, List, [], ◌∷◌, sym, ap, subst, refl, codes, inl, inr}
use Rattle.device_model.specs.Grammar.{WordPlace, NumberPlace, BytePlace, StretchesPlace, ActorPlace}
use Rattle.device_model.specs.Grammar.{FuaPlace, Fits, HasValues, IsFaultAt, IsFaultOfStart, IsFaultOfWords}
use Rattle.device_model.specs.Grammar.{IsFirstWord, IsWritable, Verb, FillVerb, WriteVerb, ReadVerb, FlushVerb}
use Rattle.device_model.specs.Grammar.{ServeVerb, TakeVerb, StepVerb, ask_words, line_words, misfit, places_of}
use Rattle.device_model.specs.Grammar.{verb_word, is_asking}
use Rattle.device_model.specs.LineFault.{WordsFault, MissingWord, ExtraWord, WrongWord}
use Rattle.device_model.specs.Script.{Ask, Fill, Write, Read, Flush, ScriptLine, Skip, AskLine, ServeLine}
use Rattle.device_model.specs.Script.{TakeLine, StepLine}
use Rattle.script_text.proofs.DecideLemmas.{Decided, same_or_not, fits_or_not, verb_or_none, asks_or_not}

-- Each word fits its place, and there is one for each place but that of `fua`.
abbrev AllFit : List WordPlace → List (List ℕ) → Type 0
AllFit [] [] = Unit {0}
AllFit [] (word ∷ words) = ⊥
AllFit (FuaPlace ∷ places) [] = Unit {0}
AllFit (NumberPlace ∷ places) [] = ⊥
AllFit (BytePlace ∷ places) [] = ⊥
AllFit (StretchesPlace ∷ places) [] = ⊥
AllFit (ActorPlace ∷ places) [] = ⊥
AllFit (place ∷ places) (word ∷ words) = Fits place word × AllFit places words

abbrev HasFaultAt : List WordPlace → List (List ℕ) → Type 0
HasFaultAt places words = (fault : WordsFault) × IsFaultAt places words fault

-- Words fit their places, or one of them does not.
fit_or_fault : (places : List WordPlace) (words : List (List ℕ)) → AllFit places words ⊎ HasFaultAt places words
fit_or_fault [] [] = inl tt
fit_or_fault [] (word ∷ words) = inr (ExtraWord word, refl)
fit_or_fault (FuaPlace ∷ places) [] = inl tt
fit_or_fault (NumberPlace ∷ places) [] = inr (MissingWord, refl)
fit_or_fault (BytePlace ∷ places) [] = inr (MissingWord, refl)
fit_or_fault (StretchesPlace ∷ places) [] = inr (MissingWord, refl)
fit_or_fault (ActorPlace ∷ places) [] = inr (MissingWord, refl)
fit_or_fault (place ∷ places) (word ∷ words) = first (fits_or_not place word) (fit_or_fault places words)
  where
    first : Decided (Fits place word) → (AllFit places words ⊎ HasFaultAt places words)
        → AllFit (place ∷ places) (word ∷ words) ⊎ HasFaultAt (place ∷ places) (word ∷ words)
    first (inl fits) (inl fit) = inl (fits, fit)
    first (inl fits) (inr (fault, bad)) = inr (fault, inl (fits, bad))
    first (inr unfit) later = inr (misfit place word, inr (unfit, refl))

-- ---- lines

-- The words are those of a request that can be written down.
abbrev pub AreAsk : List (List ℕ) → Type 0
AreAsk words = (ask : Ask) × (words ≡ ask_words ask) × HasValues ask

-- The words are those of a line that can be written down.
abbrev pub AreLine : List (List ℕ) → Type 0
AreLine words = (line : ScriptLine) × (words ≡ line_words line) × IsWritable line

fill_line : (words : List (List ℕ)) → AllFit (places_of FillVerb) words → AreAsk (codes "fill" ∷ words)
fill_line (a ∷ b ∷ c ∷ []) ((first, fits, is), ((count, fits', is'), ((byte, low, is''), end))) =
    (Fill first count byte false, (cc), (fits, fits', low))
fill_line (a ∷ b ∷ c ∷ d ∷ []) ((first, fits, is), ((count, fits', is'), ((byte, low, is''), (fua, end)))) =
    (Fill first count byte true, (cc), (fits, fits', low))
fill_line (a ∷ b ∷ c ∷ d ∷ e ∷ words) (fits, (fits', (fits'', (fua, end)))) = absurd end
fill_line [] fit = absurd fit
fill_line (a ∷ []) (fits, fit) = absurd fit
fill_line (a ∷ b ∷ []) (fits, (fits', fit)) = absurd fit

write_line : (words : List (List ℕ)) → AllFit (places_of WriteVerb) words → AreAsk (codes "write" ∷ words)
write_line (a ∷ b ∷ []) ((first, fits, is), ((stretches, are, is'), end)) =
    (Write first stretches false, (cc), (fits, are))
write_line (a ∷ b ∷ c ∷ []) ((first, fits, is), ((stretches, are, is'), (fua, end))) =
    (Write first stretches true, (cc), (fits, are))
write_line (a ∷ b ∷ c ∷ d ∷ words) (fits, (fits', (fua, end))) = absurd end
write_line [] fit = absurd fit
write_line (a ∷ []) (fits, fit) = absurd fit

read_line : (words : List (List ℕ)) → AllFit (places_of ReadVerb) words → AreAsk (codes "read" ∷ words)
read_line (a ∷ b ∷ []) ((first, fits, is), ((count, fits', is'), end)) = (Read first count, (cc), (fits, fits'))
read_line (a ∷ b ∷ c ∷ words) (fits, (fits', end)) = absurd end
read_line [] fit = absurd fit
read_line (a ∷ []) (fits, fit) = absurd fit

flush_line : (words : List (List ℕ)) → AllFit (places_of FlushVerb) words → AreAsk (codes "flush" ∷ words)
flush_line [] fit = (Flush, refl, tt)
flush_line (a ∷ words) fit = absurd fit

-- Words that fit a verb that asks are a request.
ask_line : (verb : Verb) (words : List (List ℕ)) → is_asking verb ≡ true → AllFit (places_of verb) words
    → AreAsk (verb_word verb ∷ words)
ask_line FillVerb words asking fit = fill_line words fit
ask_line WriteVerb words asking fit = write_line words fit
ask_line ReadVerb words asking fit = read_line words fit
ask_line FlushVerb words asking fit = flush_line words fit
ask_line ServeVerb words asking fit = absurd (cc)
ask_line TakeVerb words asking fit = absurd (cc)
ask_line StepVerb words asking fit = absurd (cc)

asked : (words : List (List ℕ)) → AreAsk words → AreLine words
asked words (ask, is, values) = (AskLine false ask, is, values)

started : (words : List (List ℕ)) → AreAsk words → AreLine (codes "start" ∷ words)
started words (ask, is, values) =
    (AskLine true ask, ap (λ (rest : List (List ℕ)). codes "start" ∷ rest) is, values)

serve_line : (words : List (List ℕ)) → AllFit (NumberPlace ∷ []) words → AreLine (codes "serve" ∷ words)
serve_line (a ∷ []) ((ticket, fits, is), end) = (ServeLine ticket, (cc), fits)
serve_line (a ∷ b ∷ words) (fits, end) = absurd end
serve_line [] fit = absurd fit

take_line : (words : List (List ℕ)) → AllFit (NumberPlace ∷ []) words → AreLine (codes "take" ∷ words)
take_line (a ∷ []) ((ticket, fits, is), end) = (TakeLine ticket, (cc), fits)
take_line (a ∷ b ∷ words) (fits, end) = absurd end
take_line [] fit = absurd fit

step_line : (words : List (List ℕ)) → AllFit (ActorPlace ∷ []) words → AreLine (codes "step" ∷ words)
step_line (a ∷ []) ((actor, is), end) = (StepLine actor, (cc), tt)
step_line (a ∷ b ∷ words) (fits, end) = absurd end
step_line [] fit = absurd fit

-- Words that fit a verb are a line.
verb_line : (verb : Verb) (words : List (List ℕ)) → AllFit (places_of verb) words
    → AreLine (verb_word verb ∷ words)
verb_line FillVerb words fit = asked (codes "fill" ∷ words) (fill_line words fit)
verb_line WriteVerb words fit = asked (codes "write" ∷ words) (write_line words fit)
verb_line ReadVerb words fit = asked (codes "read" ∷ words) (read_line words fit)
verb_line FlushVerb words fit = asked (codes "flush" ∷ words) (flush_line words fit)
verb_line ServeVerb words fit = serve_line words fit
verb_line TakeVerb words fit = take_line words fit
verb_line StepVerb words fit = step_line words fit

-- ---- for callers

abbrev pub HasFaultOfStart : List (List ℕ) → Type 0
HasFaultOfStart words = (fault : WordsFault) × IsFaultOfStart words fault

abbrev pub HasFaultOfWords : List (List ℕ) → Type 0
HasFaultOfWords words = (fault : WordsFault) × IsFaultOfWords words fault

-- What stands behind `start` is a request or has a fault.
pub ask_or_fault : (words : List (List ℕ)) → AreAsk words ⊎ HasFaultOfStart words
ask_or_fault [] = inr (MissingWord, refl)
ask_or_fault (word ∷ words) = elim (asks_or_not word) [
  | inl (verb, asking, is) ↦ elim (fit_or_fault (places_of verb) words) [
    | inl fit ↦
        inl (subst (λ (first : List ℕ). AreAsk (first ∷ words)) (sym is) (ask_line verb words asking fit))
    | inr (fault, bad) ↦ inr (fault, inl (verb, asking, is, bad))
  ]
  | inr none ↦ inr (WrongWord word, inr (none, refl))
]

start_or_fault : (word : List ℕ) (words : List (List ℕ)) → word ≡ codes "start"
    → AreLine (word ∷ words) ⊎ HasFaultOfWords (word ∷ words)
start_or_fault word words is = elim (ask_or_fault words) [
  | inl ask ↦ inl (subst (λ (first : List ℕ). AreLine (first ∷ words)) (sym is) (started words ask))
  | inr (fault, bad) ↦ inr (fault, inl (is, bad))
]

verb_or_fault : (word : List ℕ) (words : List (List ℕ)) (verb : Verb) → word ≡ verb_word verb
    → AreLine (word ∷ words) ⊎ HasFaultOfWords (word ∷ words)
verb_or_fault word words verb is = elim (fit_or_fault (places_of verb) words) [
  | inl fit ↦ inl (subst (λ (first : List ℕ). AreLine (first ∷ words)) (sym is) (verb_line verb words fit))
  | inr (fault, bad) ↦ inr (fault, inr (inl (verb, is, bad)))
]

-- Words are a line or have a fault.
pub line_or_fault : (words : List (List ℕ)) → AreLine words ⊎ HasFaultOfWords words
line_or_fault [] = inl (Skip, refl, tt)
line_or_fault (word ∷ words) = by_first (same_or_not word (codes "start")) (verb_or_none word)
  where
    by_first : Decided (word ≡ codes "start") → Decided ((verb : Verb) × (word ≡ verb_word verb))
        → AreLine (word ∷ words) ⊎ HasFaultOfWords (word ∷ words)
    by_first (inl is) verb = start_or_fault word words is
    by_first (inr other) (inl (verb, is)) = verb_or_fault word words verb is
    by_first (inr other) (inr none) = inr (WrongWord word, inr (inr (neither, refl)))
      where
        neither : ¬ IsFirstWord word
        neither (inl starts) = other starts
        neither (inr named) = none named
