-- That the bytes of a line of requests alone are read, and in one way.
use Rattle.std.proofs.Common.{◌≡◌, ◌≢◌, ◌⊎◌, ℕ, ◌<◌, ◌≤◌, false, List, [], ◌∷◌, length, Option, None, Some, Ok, Err, inl, inr, refl, sym, ◌∙◌, subst, arith}
use Rattle.device_model.specs.Grammar.{FillVerb, FlushVerb, IsAskingWord, IsFaultAt, IsFaultOf, IsFaultOfStart, IsFaultOfWords, IsLine, IsSkipped, IsText, Means, ReadVerb, Refused, Verb, WriteVerb, ask_words, most_line, places_of, verb_word, words_in}
use Rattle.device_model.specs.LineFault.{NotText, TooLong, WordsFault}
use Rattle.device_model.specs.Script.{Ask, AskLine, Fill, Flush, Read, Skip, Write}
use Rattle.device_model.proofs.UniqueReading.{read_once}
use Rattle.script_text.specs.AskLine.{AskReading, IsAskFaultOf, IsAskLine, IsAskReading}
use Rattle.script_text.specs.Laws.{AskOnceLaw, AskTotalLaw}
use Rattle.script_text.proofs.DecideLemmas.{Decided, all_or_not, less_or_not}
use Rattle.script_text.proofs.FitLemmas.{ask_or_fault}
use Rattle.script_text.proofs.ReadLemmas.{ask_refused_by_words, first_word, line_by_words, refused_by_words}
use Rattle.script_text.proofs.TotalLemmas.{IsComment, IsTextByte, comment, text_byte}

-- ---- in one way

-- What a fault says: they are too many; or few, and one is no text; or few and text, with words that have it.
abbrev HasFault : List ℕ → WordsFault → Type 0
HasFault bytes fault =
    ((fault ≡ TooLong) × (most_line < length bytes))
    ⊎ (((fault ≡ NotText) × (length bytes ≤ most_line) × (¬ IsText bytes))
    ⊎ ((length bytes ≤ most_line) × IsText bytes × (¬ IsSkipped bytes) × IsFaultOfStart (words_in bytes) fault))

has_fault : (bytes : List ℕ) (fault : WordsFault) → IsAskFaultOf bytes fault → HasFault bytes fault
has_fault bytes TooLong bad = inl (refl, bad)
has_fault bytes NotText bad = inr (inl (refl, bad.0, bad.1))
has_fault bytes fault bad = inr (inr bad)

-- A request begins with a word that asks.
asking_word : (ask : Ask) (word : List ℕ) (rest : List (List ℕ)) → word ∷ rest ≡ ask_words ask → IsAskingWord word
asking_word (Fill first count byte fua) word rest is = (FillVerb, refl, (cc))
asking_word (Write first stretches fua) word rest is = (WriteVerb, refl, (cc))
asking_word (Read first count) word rest is = (ReadVerb, refl, (cc))
asking_word Flush word rest is = (FlushVerb, refl, (cc))

module _ (bytes : List ℕ) (short : length bytes ≤ most_line) (text : IsText bytes) (kept : ¬ IsSkipped bytes) where
  -- A fault behind a verb is one of the line without `start`.
  line_fault : (word : List ℕ) (words : List (List ℕ)) (verb : Verb) (fault : WordsFault) → words_in bytes ≡ word ∷ words → word ≡ verb_word verb
      → IsFaultAt (places_of verb) words fault → IsFaultOf bytes fault
  line_fault word words verb fault are is bad =
      refused_by_words bytes fault short text (λ tail hash. kept (inr (tail, hash)))
      (subst (λ (ws : List (List ℕ)). IsFaultOfWords ws fault) (sym are) (inr (inl (verb, is, bad))))

  one_fault : (ws : List (List ℕ)) (fault other : WordsFault) → words_in bytes ≡ ws → IsFaultOfStart ws fault → IsFaultOfStart ws other → fault ≡ other
  one_fault [] fault other are bad bad' = bad ∙ sym bad'
  one_fault (word ∷ words) fault other are (inl (verb, asking, is, bad)) (inl (verb', asking', is', bad')) =
      let same = read_once bytes (Refused fault) (Refused other) (line_fault word words verb fault are is bad) (line_fault word words verb' other are is' bad') in
      cc
  one_fault (word ∷ words) fault other are (inl (verb, asking, is, bad)) (inr (none, wrong)) = absurd (none (verb, asking, is))
  one_fault (word ∷ words) fault other are (inr (none, wrong)) (inl (verb, asking, is, bad)) = absurd (none (verb, asking, is))
  one_fault (word ∷ words) fault other are (inr (none, wrong)) (inr (none', wrong')) = wrong ∙ sym wrong'

  no_fault : (ws : List (List ℕ)) (ask : Ask) (fault : WordsFault) → IsLine bytes (AskLine false ask) → words_in bytes ≡ ws → ws ≡ ask_words ask
      → ¬ IsFaultOfStart ws fault
  no_fault [] ask fault line are words bad = first_word ask (sym words)
  no_fault (word ∷ rest) ask fault line are words (inl (verb, asking, is, bad)) =
      let same = read_once bytes (Means (AskLine false ask)) (Refused fault) line (line_fault word rest verb fault are is bad) in
      cc
  no_fault (word ∷ rest) ask fault line are words (inr (none, wrong)) = none (asking_word ask word rest words)

one_fault_of : (bytes : List ℕ) (fault other : WordsFault) → HasFault bytes fault → HasFault bytes other → fault ≡ other
one_fault_of bytes fault other (inl (is, long)) (inl (is', long')) = is ∙ sym is'
one_fault_of bytes fault other (inl (is, long)) (inr (inl (is', short, no_text))) = absurd (omega (arith, long, short))
one_fault_of bytes fault other (inl (is, long)) (inr (inr (short, text, kept, bad))) = absurd (omega (arith, long, short))
one_fault_of bytes fault other (inr (inl (is, short, no_text))) (inl (is', long)) = absurd (omega (arith, long, short))
one_fault_of bytes fault other (inr (inl (is, short, no_text))) (inr (inl (is', short', no_text'))) = is ∙ sym is'
one_fault_of bytes fault other (inr (inl (is, short, no_text))) (inr (inr (short', text, kept, bad))) = absurd (no_text text)
one_fault_of bytes fault other (inr (inr (short, text, kept, bad))) (inl (is', long)) = absurd (omega (arith, long, short))
one_fault_of bytes fault other (inr (inr (short, text, kept, bad))) (inr (inl (is', short', no_text))) = absurd (no_text text)
one_fault_of bytes fault other (inr (inr (short, text, kept, bad))) (inr (inr (short', text', kept', bad'))) =
    one_fault bytes short text kept (words_in bytes) fault other refl bad bad'

line_or_fault : (bytes : List ℕ) (asks : Option Ask) (fault : WordsFault) → IsAskLine bytes asks → ¬ HasFault bytes fault
line_or_fault bytes None fault is (inl (too, long)) = omega (arith, long, is.short)
line_or_fault bytes None fault is (inr (inl (is_no, short, no_text))) = no_text is.text
line_or_fault bytes None fault is (inr (inr (short, text, kept, bad))) = kept is.says
line_or_fault bytes (Some ask) fault is (inl (too, long)) = omega (arith, long, is.short)
line_or_fault bytes (Some ask) fault is (inr (inl (is_no, short, no_text))) = no_text is.text
line_or_fault bytes (Some ask) fault is (inr (inr (short, text, kept, bad))) =
    no_fault bytes short text kept (words_in bytes) ask fault is refl is.says.1 bad

same_asks : (bytes : List ℕ) (one other : Option Ask) → IsAskLine bytes one → IsAskLine bytes other → one ≡ other
same_asks bytes None None is is' = refl
same_asks bytes None (Some ask) is is' = let same = read_once bytes (Means Skip) (Means (AskLine false ask)) is is' in cc
same_asks bytes (Some ask) None is is' = let same = read_once bytes (Means (AskLine false ask)) (Means Skip) is is' in cc
same_asks bytes (Some ask) (Some ask') is is' =
    let same = read_once bytes (Means (AskLine false ask)) (Means (AskLine false ask')) is is' in
    cc

-- ---- any bytes

abbrev HasReading : List ℕ → Type 0
HasReading bytes = (read : AskReading) × IsAskReading bytes read

some_words : (first : List ℕ) (rest : List (List ℕ)) → first ∷ rest ≢ []
some_words first rest is = cc

by_words : (bytes : List ℕ) (ws : List (List ℕ)) → length bytes ≤ most_line → IsText bytes → ((rest : List ℕ) → bytes ≢ 35 ∷ rest) → words_in bytes ≡ ws
    → HasReading bytes
by_words bytes [] short text other are = (Ok None, line_by_words bytes Skip short text other are tt)
by_words bytes (word ∷ words) short text other are = elim (ask_or_fault (word ∷ words)) [
  | inl (ask, is, values) ↦ (Ok (Some ask), line_by_words bytes (AskLine false ask) short text other (are ∙ is) values)
  | inr (fault, bad) ↦ (
    Err fault,
    ask_refused_by_words bytes bytes fault short text other refl
        ((λ none. some_words word words (sym are ∙ none)), subst (λ (ws : List (List ℕ)). IsFaultOfStart ws fault) (sym are) bad),
  )
]

by_text : (bytes : List ℕ) → length bytes ≤ most_line → Decided (IsText bytes) → Decided (IsComment bytes) → HasReading bytes
by_text bytes short (inl text) (inl is) = (Ok None, record { short = short; text = text; says = inr is })
by_text bytes short (inl text) (inr other) = by_words bytes (words_in bytes) short text (λ rest is. other (rest, is)) refl
by_text bytes short (inr none) is = (Err NotText, (short, none))

by_length : (bytes : List ℕ) → Decided (most_line < length bytes) → HasReading bytes
by_length bytes (inl long) = (Err TooLong, long)
by_length bytes (inr short) = by_text bytes (omega (arith, short)) (all_or_not IsTextByte text_byte bytes) (comment bytes)

-- ---- for callers

pub has_ask_reading : AskTotalLaw
has_ask_reading bytes = by_length bytes (less_or_not most_line (length bytes))

pub ask_read_once : AskOnceLaw
ask_read_once bytes (Ok one) (Ok other) is is' = let same = same_asks bytes one other is is' in cc
ask_read_once bytes (Ok asks) (Err fault) is bad = absurd (line_or_fault bytes asks fault is (has_fault bytes fault bad))
ask_read_once bytes (Err fault) (Ok asks) bad is = absurd (line_or_fault bytes asks fault is (has_fault bytes fault bad))
ask_read_once bytes (Err fault) (Err other) bad bad' =
    let same = one_fault_of bytes fault other (has_fault bytes fault bad) (has_fault bytes other bad') in
    cc
