-- The grammar of a script: which bytes are which line, and of bytes that are none the first fault.
-- Own: words separated by spaces, decimal numbers without leading zeros, bytes as two lower-case hexadecimal digits.
use Rattle.std.specs.Prelude.{◌≡◌, ◌≢◌, ◌⊎◌, ℕ, ◌^◌, ◌==◌, ◌<◌, ◌≤◌, Bool, true, false, not, if◌then◌else◌, List, [], ◌∷◌, length, map, codes, All, filter}
use Rattle.std.specs.Fmt.{decimal}
use Rattle.std.specs.List.{join_with_byte, slice_split}
use Rattle.hex.specs.Hex.{encode_lower}
use Rattle.device_model.specs.LineFault.{WordsFault, TooLong, NotText, WrongWord, WrongNumber, WrongByte, WrongStretches, MissingWord, ExtraWord}
use Rattle.device_model.specs.Progress.{Actor, Commit, Place, Settle, Clean, Recalc}
use Rattle.device_model.specs.Stretches.{Stretch, stretch_text}
use Rattle.device_model.specs.Script.{Ask, Fill, Write, Read, Flush, ScriptLine, Skip, AskLine, ServeLine, TakeLine, StepLine}

-- ---- words

-- The words of a line: what stands between its spaces.
abbrev pub words_in : List ℕ → List (List ℕ)
words_in bytes = filter (λ word. not (length word == 0)) (slice_split (λ byte. byte == 32) bytes)

-- The word of some stretches of bytes.
abbrev pub stretches_word : List Stretch → List ℕ
stretches_word stretches = join_with_byte 44 (map stretch_text stretches)

abbrev pub actor_word : Actor → List ℕ
actor_word Commit = codes "commit"
actor_word Place = codes "place"
actor_word Settle = codes "settle"
actor_word Clean = codes "clean"
actor_word Recalc = codes "recalc"

abbrev pub fua_words : Bool → List (List ℕ)
fua_words fua = if fua then codes "fua" ∷ [] else []

abbrev pub ask_words : Ask → List (List ℕ)
ask_words (Fill first count byte fua) =
    codes "fill" ∷ decimal first ∷ decimal count ∷ encode_lower (byte ∷ []) ∷ fua_words fua
ask_words (Write first stretches fua) = codes "write" ∷ decimal first ∷ stretches_word stretches ∷ fua_words fua
ask_words (Read first count) = codes "read" ∷ decimal first ∷ decimal count ∷ []
ask_words Flush = codes "flush" ∷ []

-- The words of a line. One that is skipped may have others: it is known by its bytes.
abbrev pub line_words : ScriptLine → List (List ℕ)
line_words Skip = []
line_words (AskLine true ask) = codes "start" ∷ ask_words ask
line_words (AskLine false ask) = ask_words ask
line_words (ServeLine ticket) = codes "serve" ∷ decimal ticket ∷ []
line_words (TakeLine ticket) = codes "take" ∷ decimal ticket ∷ []
line_words (StepLine actor) = codes "step" ∷ actor_word actor ∷ []

-- ---- values

-- A number of a script fits in 64 bits.
abbrev pub IsNumber : ℕ → Type 0
IsNumber n = n < 2 ^ 64

-- One stretch or more, each of at least one byte.
abbrev pub AreStretches : List Stretch → Type 0
AreStretches stretches = (stretches ≢ []) × All (λ stretch. (stretch.byte < 256) × (1 ≤ stretch.count) × IsNumber stretch.count) stretches

abbrev pub HasValues : Ask → Type 0
HasValues (Fill first count byte fua) = IsNumber first × IsNumber count × (byte < 256)
HasValues (Write first stretches fua) = IsNumber first × AreStretches stretches
HasValues (Read first count) = IsNumber first × IsNumber count
HasValues Flush = Unit {0}

-- The line can be written down: its numbers and bytes are numbers and bytes of a script.
abbrev pub IsWritable : ScriptLine → Type 0
IsWritable Skip = Unit {0}
IsWritable (AskLine start ask) = HasValues ask
IsWritable (ServeLine ticket) = IsNumber ticket
IsWritable (TakeLine ticket) = IsNumber ticket
IsWritable (StepLine actor) = Unit {0}

-- ---- lines

-- A line has at most so many bytes,
abbrev pub most_line : ℕ
most_line = 65536

-- and each of them is one that may be printed, a space or another.
abbrev pub IsText : List ℕ → Type 0
IsText bytes = All (λ byte. (32 ≤ byte) × (byte ≤ 126)) bytes

-- A line is skipped that has no word, or whose first byte is `#`.
abbrev pub IsSkipped : List ℕ → Type 0
IsSkipped bytes = (words_in bytes ≡ []) ⊎ ((rest : List ℕ) × (bytes ≡ 35 ∷ rest))

abbrev pub Says : List ℕ → ScriptLine → Type 0
Says bytes Skip = IsSkipped bytes
Says bytes line = (¬ IsSkipped bytes) × (words_in bytes ≡ line_words line) × IsWritable line

-- The bytes are this line.
pub record IsLine (bytes : List ℕ) (line : ScriptLine) : Type 0 where
  pub short : length bytes ≤ most_line
  pub text : IsText bytes
  pub says : Says bytes line

-- ---- faults

-- What may stand at a place of a line.
pub data WordPlace : Type 0 where
  NumberPlace : WordPlace
  BytePlace : WordPlace
  StretchesPlace : WordPlace
  ActorPlace : WordPlace
  FuaPlace : WordPlace

abbrev pub Fits : WordPlace → List ℕ → Type 0
Fits NumberPlace word = (n : ℕ) × IsNumber n × (word ≡ decimal n)
Fits BytePlace word = (byte : ℕ) × (byte < 256) × (word ≡ encode_lower (byte ∷ []))
Fits StretchesPlace word = (stretches : List Stretch) × AreStretches stretches × (word ≡ stretches_word stretches)
Fits ActorPlace word = (actor : Actor) × (word ≡ actor_word actor)
Fits FuaPlace word = word ≡ codes "fua"

-- The fault of a word that does not fit its place.
abbrev pub misfit : WordPlace → List ℕ → WordsFault
misfit NumberPlace word = WrongNumber word
misfit BytePlace word = WrongByte word
misfit StretchesPlace word = WrongStretches word
misfit ActorPlace word = WrongWord word
misfit FuaPlace word = WrongWord word

-- The first fault of some words at these places, from left to right. The word `fua` may be left out.
abbrev pub IsFaultAt : List WordPlace → List (List ℕ) → WordsFault → Type 0
IsFaultAt [] [] fault = ⊥
IsFaultAt [] (word ∷ words) fault = fault ≡ ExtraWord word
IsFaultAt (FuaPlace ∷ places) [] fault = ⊥
IsFaultAt (place ∷ places) [] fault = fault ≡ MissingWord
IsFaultAt (place ∷ places) (word ∷ words) fault =
    (Fits place word × IsFaultAt places words fault) ⊎ ((¬ Fits place word) × (fault ≡ misfit place word))

-- The word with which a line begins, or what it starts.
pub data Verb : Type 0 where
  FillVerb : Verb
  WriteVerb : Verb
  ReadVerb : Verb
  FlushVerb : Verb
  ServeVerb : Verb
  TakeVerb : Verb
  StepVerb : Verb

abbrev pub verb_word : Verb → List ℕ
verb_word FillVerb = codes "fill"
verb_word WriteVerb = codes "write"
verb_word ReadVerb = codes "read"
verb_word FlushVerb = codes "flush"
verb_word ServeVerb = codes "serve"
verb_word TakeVerb = codes "take"
verb_word StepVerb = codes "step"

-- The places behind it.
abbrev pub places_of : Verb → List WordPlace
places_of FillVerb = NumberPlace ∷ NumberPlace ∷ BytePlace ∷ FuaPlace ∷ []
places_of WriteVerb = NumberPlace ∷ StretchesPlace ∷ FuaPlace ∷ []
places_of ReadVerb = NumberPlace ∷ NumberPlace ∷ []
places_of FlushVerb = []
places_of ServeVerb = NumberPlace ∷ []
places_of TakeVerb = NumberPlace ∷ []
places_of StepVerb = ActorPlace ∷ []

-- A request is asked for by it, so that `start` may stand before it.
abbrev pub is_asking : Verb → Bool
is_asking FillVerb = true
is_asking WriteVerb = true
is_asking ReadVerb = true
is_asking FlushVerb = true
is_asking ServeVerb = false
is_asking TakeVerb = false
is_asking StepVerb = false

-- The word is `start` or a verb.
abbrev pub IsFirstWord : List ℕ → Type 0
IsFirstWord word = (word ≡ codes "start") ⊎ ((verb : Verb) × (word ≡ verb_word verb))

abbrev pub IsAskingWord : List ℕ → Type 0
IsAskingWord word = (verb : Verb) × (is_asking verb ≡ true) × (word ≡ verb_word verb)

-- What stands behind `start` has this fault.
abbrev pub IsFaultOfStart : List (List ℕ) → WordsFault → Type 0
IsFaultOfStart [] fault = fault ≡ MissingWord
IsFaultOfStart (word ∷ words) fault =
    ((verb : Verb) × (is_asking verb ≡ true) × (word ≡ verb_word verb) × IsFaultAt (places_of verb) words fault)
    ⊎ ((¬ IsAskingWord word) × (fault ≡ WrongWord word))

-- The words of a line have this fault.
abbrev pub IsFaultOfWords : List (List ℕ) → WordsFault → Type 0
IsFaultOfWords [] fault = ⊥
IsFaultOfWords (word ∷ words) fault =
    ((word ≡ codes "start") × IsFaultOfStart words fault)
    ⊎ (((verb : Verb) × (word ≡ verb_word verb) × IsFaultAt (places_of verb) words fault)
    ⊎ ((¬ IsFirstWord word) × (fault ≡ WrongWord word)))

-- The first fault of some bytes that are no line: their number, what is no text, and then by words.
abbrev pub IsFaultOf : List ℕ → WordsFault → Type 0
IsFaultOf bytes TooLong = most_line < length bytes
IsFaultOf bytes NotText = (length bytes ≤ most_line) × (¬ IsText bytes)
IsFaultOf bytes fault =
    (length bytes ≤ most_line) × IsText bytes × (¬ IsSkipped bytes) × IsFaultOfWords (words_in bytes) fault

-- ---- what is read

-- A line, or why it is none.
pub data ReadLine : Type 0 where
  Means : (line : ScriptLine) → ReadLine
  Refused : (fault : WordsFault) → ReadLine

abbrev pub IsReadAs : List ℕ → ReadLine → Type 0
IsReadAs bytes (Means line) = IsLine bytes line
IsReadAs bytes (Refused fault) = IsFaultOf bytes fault
