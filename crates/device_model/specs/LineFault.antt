-- Why a line of a script is refused, and what is printed of it.
-- Own: the faults and their texts.
use Rattle.std.specs.Prelude.{ℕ, List, ◌++◌, codes}

-- Why bytes are no line. They are too many; one of them is none that may be printed; and by words: another word has to stand
-- there, or a number, a byte, or stretches of bytes, which a script calls RUNS; a word is missing; or one stands behind the last place.
pub data WordsFault : Type 0 where
  TooLong : WordsFault
  NotText : WordsFault
  WrongWord : (word : List ℕ) → WordsFault
  WrongNumber : (word : List ℕ) → WordsFault
  WrongByte : (word : List ℕ) → WordsFault
  WrongStretches : (word : List ℕ) → WordsFault
  MissingWord : WordsFault
  ExtraWord : (word : List ℕ) → WordsFault

abbrev pub words_fault_text : WordsFault → List ℕ
words_fault_text TooLong = codes "long"
words_fault_text NotText = codes "text"
words_fault_text (WrongWord word) = codes "word " ++ word
words_fault_text (WrongNumber word) = codes "number " ++ word
words_fault_text (WrongByte word) = codes "byte " ++ word
words_fault_text (WrongStretches word) = codes "runs " ++ word
words_fault_text MissingWord = codes "missing"
words_fault_text (ExtraWord word) = codes "extra " ++ word
