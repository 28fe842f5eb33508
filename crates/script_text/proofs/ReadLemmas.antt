-- What the words of a line say, and its bytes with them.
use Rattle.std.proofs.Common.{◌≡◌, ◌≢◌, ℕ, ◌≤◌, List, [], ◌∷◌, length, inl, inr, refl, true, false, sym, ◌∙◌, subst, Option, None, Some, Result, Ok, Err}
use Rattle.std.specs.Prelude.{IfOk, IfErr}
use Rattle.device_model.specs.Grammar.{WordPlace, NumberPlace, BytePlace, StretchesPlace, ActorPlace, FuaPlace, IsFaultAt, IsFaultOf, IsFaultOfStart, IsFaultOfWords, IsReadAs, IsLine, IsText, IsSkipped, IsWritable, Says, misfit, most_line, line_words, ask_words, places_of, words_in}
use Rattle.device_model.specs.LineFault.{WordsFault, TooLong, NotText}
use Rattle.device_model.specs.Script.{ScriptLine, Skip, AskLine, ServeLine, TakeLine, StepLine, Ask, Fill, Write, Read, Flush}
use Rattle.script_text.specs.declared.line.Ask as asked
use Rattle.script_text.specs.declared.line.Line.{Line}
use Rattle.script_text.specs.declared.line.LineFault.{LineFault}
use Rattle.script_text.specs.AskLine.{AreAskWords, HasAskFault, IsAskFaultOf, IsAskLine, IsAskReading, ask_reading_of, asks_of}
use Rattle.script_text.specs.Line.{line_of, fault_of, read_of}

-- The fault is told by words.
IsByWords : WordsFault → Type 0
IsByWords TooLong = ⊥
IsByWords NotText = ⊥
IsByWords fault = Unit {0}

by_misfit : (place : WordPlace) (word : List ℕ) → IsByWords (misfit place word)
unfolding IsByWords
by_misfit NumberPlace word = tt
by_misfit BytePlace word = tt
by_misfit StretchesPlace word = tt
by_misfit ActorPlace word = tt
by_misfit FuaPlace word = tt

by_place : (places : List WordPlace) (words : List (List ℕ)) (fault : WordsFault) → IsFaultAt places words fault → IsByWords fault
unfolding IsByWords
by_place [] [] fault bad = absurd bad
by_place [] (word ∷ words) fault bad = subst IsByWords (sym bad) tt
by_place (FuaPlace ∷ places) [] fault bad = absurd bad
by_place (NumberPlace ∷ places) [] fault bad = subst IsByWords (sym bad) tt
by_place (BytePlace ∷ places) [] fault bad = subst IsByWords (sym bad) tt
by_place (StretchesPlace ∷ places) [] fault bad = subst IsByWords (sym bad) tt
by_place (ActorPlace ∷ places) [] fault bad = subst IsByWords (sym bad) tt
by_place (place ∷ places) (word ∷ words) fault (inl (fits, later)) = by_place places words fault later
by_place (place ∷ places) (word ∷ words) fault (inr (unfit, is)) = subst IsByWords (sym is) (by_misfit place word)

by_start : (words : List (List ℕ)) (fault : WordsFault) → IsFaultOfStart words fault → IsByWords fault
unfolding IsByWords
by_start [] fault bad = subst IsByWords (sym bad) tt
by_start (word ∷ words) fault (inl (verb, asks, is, bad)) = by_place (places_of verb) words fault bad
by_start (word ∷ words) fault (inr (none, is)) = subst IsByWords (sym is) tt

by_words : (words : List (List ℕ)) (fault : WordsFault) → IsFaultOfWords words fault → IsByWords fault
unfolding IsByWords
by_words [] fault bad = absurd bad
by_words (word ∷ words) fault (inl (starts, bad)) = by_start words fault bad
by_words (word ∷ words) fault (inr (inl (verb, is, bad))) = by_place (places_of verb) words fault bad
by_words (word ∷ words) fault (inr (inr (none, is))) = subst IsByWords (sym is) tt

-- Few bytes, all of them text, that have words with a fault have that fault.
fault_by_words : (bytes : List ℕ) (fault : WordsFault) → length bytes ≤ most_line → IsText bytes → ¬ IsSkipped bytes → IsFaultOfWords (words_in bytes) fault
    → IsByWords fault → IsFaultOf bytes fault
unfolding IsByWords
fault_by_words bytes TooLong short text kept bad by = absurd by
fault_by_words bytes NotText short text kept bad by = absurd by
fault_by_words bytes fault short text kept bad by = (short, text, kept, bad)

some_fault : (words : List (List ℕ)) (fault : WordsFault) → IsFaultOfWords words fault → words ≢ []
some_fault [] fault bad is = bad
some_fault (word ∷ words) fault bad is = cc

-- Words of a line are some, but where it is skipped.
pub first_word : (ask : Ask) → ask_words ask ≢ []
first_word (Fill first count byte fua) is = cc
first_word (Write first stretches fua) is = cc
first_word (Read first count) is = cc
first_word Flush is = cc

kept : (bytes : List ℕ) (words : List (List ℕ)) → ((rest : List ℕ) → bytes ≢ 35 ∷ rest) → words_in bytes ≡ words → words ≢ [] → ¬ IsSkipped bytes
kept bytes words other is some (inl none) = some (sym is ∙ none)
kept bytes words other is some (inr (rest, hash)) = other rest hash

says : (bytes : List ℕ) (line : ScriptLine) → ((rest : List ℕ) → bytes ≢ 35 ∷ rest) → words_in bytes ≡ line_words line → IsWritable line → Says bytes line
says bytes Skip other words writable = inl words
says bytes (AskLine true ask) other words writable = (kept bytes (line_words (AskLine true ask)) other words (λ is. cc), words, writable)
says bytes (AskLine false ask) other words writable = (kept bytes (ask_words ask) other words (first_word ask), words, writable)
says bytes (ServeLine ticket) other words writable = (kept bytes (line_words (ServeLine ticket)) other words (λ is. cc), words, writable)
says bytes (TakeLine ticket) other words writable = (kept bytes (line_words (TakeLine ticket)) other words (λ is. cc), words, writable)
says bytes (StepLine actor) other words writable = (kept bytes (line_words (StepLine actor)) other words (λ is. cc), words, writable)

-- ---- for callers

-- Few bytes, all of them text, that are no comment are the line of their words,
pub line_by_words : (bytes : List ℕ) (line : ScriptLine) → length bytes ≤ most_line → IsText bytes → ((tail : List ℕ) → bytes ≢ 35 ∷ tail)
    → words_in bytes ≡ line_words line → IsWritable line → IsLine bytes line
line_by_words bytes line short text other words writable = record { short = short; text = text; says = says bytes line other words writable }

-- or have the fault of their words.
pub refused_by_words : (bytes : List ℕ) (fault : WordsFault) → length bytes ≤ most_line → IsText bytes → ((tail : List ℕ) → bytes ≢ 35 ∷ tail)
    → IsFaultOfWords (words_in bytes) fault → IsFaultOf bytes fault
refused_by_words bytes fault short text other bad =
    let some = kept bytes (words_in bytes) other refl (some_fault (words_in bytes) fault bad) in
    fault_by_words bytes fault short text some bad (by_words (words_in bytes) fault bad)

-- What few bytes, all of them text, are read as where they are no comment.
pub read_by_words : (bytes rest : List ℕ) (result : Result Line LineFault) → length bytes ≤ most_line → IsText bytes → ((tail : List ℕ) → bytes ≢ 35 ∷ tail)
    → rest ≡ bytes → IfOk result (λ line. (words_in rest ≡ line_words (line_of line)) × IsWritable (line_of line))
    → IfErr result (λ fault. IsFaultOfWords (words_in rest) (fault_of fault)) → IsReadAs bytes (read_of result)
read_by_words bytes rest (Ok line) short text other same (words, writable) fault =
    line_by_words bytes (line_of line) short text other (subst (λ (bs : List ℕ). words_in bs ≡ line_words (line_of line)) same words) writable
read_by_words bytes rest (Err fault) short text other same line bad =
    refused_by_words bytes (fault_of fault) short text other (subst (λ (bs : List ℕ). IsFaultOfWords (words_in bs) (fault_of fault)) same bad)

-- What is read says what it is.
pub line_from_read : (bytes : List ℕ) (result : Result Line LineFault) → IsReadAs bytes (read_of result) → IfOk result (λ line. IsLine bytes (line_of line))
line_from_read bytes (Ok line) is = is
line_from_read bytes (Err fault) is = tt

pub fault_from_read : (bytes : List ℕ) (result : Result Line LineFault) → IsReadAs bytes (read_of result) → IfErr result (λ fault. IsFaultOf bytes (fault_of fault))
fault_from_read bytes (Ok line) is = tt
fault_from_read bytes (Err fault) is = is

-- ---- requests alone

-- What few bytes, all of them text, ask for where they are no comment.
pub ask_by_words : (bytes rest : List ℕ) (asks : Option Ask) → length bytes ≤ most_line → IsText bytes → ((tail : List ℕ) → bytes ≢ 35 ∷ tail)
    → rest ≡ bytes → AreAskWords (words_in rest) asks → IsAskLine bytes asks
ask_by_words bytes rest None short text other same are =
    line_by_words bytes Skip short text other (subst (λ (bs : List ℕ). words_in bs ≡ []) same are) tt
ask_by_words bytes rest (Some ask) short text other same (words, values) =
    line_by_words bytes (AskLine false ask) short text other (subst (λ (bs : List ℕ). words_in bs ≡ ask_words ask) same words) values

ask_fault_by : (bytes : List ℕ) (fault : WordsFault) → length bytes ≤ most_line → IsText bytes → ¬ IsSkipped bytes → IsFaultOfStart (words_in bytes) fault
    → IsByWords fault → IsAskFaultOf bytes fault
unfolding IsByWords
ask_fault_by bytes TooLong short text kept bad by = absurd by
ask_fault_by bytes NotText short text kept bad by = absurd by
ask_fault_by bytes fault short text kept bad by = (short, text, kept, bad)

-- Or they have the fault of their words.
pub ask_refused_by_words : (bytes rest : List ℕ) (fault : WordsFault) → length bytes ≤ most_line → IsText bytes → ((tail : List ℕ) → bytes ≢ 35 ∷ tail)
    → rest ≡ bytes → HasAskFault (words_in rest) fault → IsAskFaultOf bytes fault
ask_refused_by_words bytes rest fault short text other same has =
    let own = subst (λ (bs : List ℕ). HasAskFault (words_in bs) fault) same has in
    ask_fault_by bytes fault short text (kept bytes (words_in bytes) other refl own.0) own.1 (by_start (words_in bytes) fault own.1)

-- So they are read.
pub ask_read_by_words : (bytes rest : List ℕ) (result : Result (Option asked.Ask) LineFault) → length bytes ≤ most_line → IsText bytes
    → ((tail : List ℕ) → bytes ≢ 35 ∷ tail) → rest ≡ bytes → IfOk result (λ asks. AreAskWords (words_in rest) (asks_of asks))
    → IfErr result (λ fault. HasAskFault (words_in rest) (fault_of fault)) → IsAskReading bytes (ask_reading_of result)
ask_read_by_words bytes rest (Ok asks) short text other same are fault = ask_by_words bytes rest (asks_of asks) short text other same are
ask_read_by_words bytes rest (Err fault) short text other same asks bad =
    ask_refused_by_words bytes rest (fault_of fault) short text other same bad

-- What is read says what it is.
pub asks_from_reading : (bytes : List ℕ) (result : Result (Option asked.Ask) LineFault) → IsAskReading bytes (ask_reading_of result)
    → IfOk result (λ asks. IsAskLine bytes (asks_of asks))
asks_from_reading bytes (Ok asks) is = is
asks_from_reading bytes (Err fault) is = tt

pub ask_fault_from_reading : (bytes : List ℕ) (result : Result (Option asked.Ask) LineFault) → IsAskReading bytes (ask_reading_of result)
    → IfErr result (λ fault. IsAskFaultOf bytes (fault_of fault))
ask_fault_from_reading bytes (Ok asks) is = tt
ask_fault_from_reading bytes (Err fault) is = is
