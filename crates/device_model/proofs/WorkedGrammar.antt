-- Lines of a script, read by the grammar, and scripts as lines.
use Rattle.std.proofs.Common.{◌≡◌, ◌≢◌, ◌<◌, ◌≤◌, true, false, [], ◌∷◌, refl, arith, codes, All, inl, inr, sym, true≢false}
use Rattle.std.specs.Fmt.{digits}
use Rattle.hex.specs.Hex.{encode_with, decode_pairs}
use Rattle.hex.specs.declared.error.FromHexError.TheVariants.{InvalidHexCharacter}
use Rattle.std.proofs.lemmas.List.Elements.{All-nil, All-cons}
use Rattle.device_model.specs.Grammar.{IsNumber, IsLine, IsFaultOf, IsFirstWord, actor_word, verb_word, is_asking, Verb, FillVerb, WriteVerb, ReadVerb, FlushVerb, ServeVerb, TakeVerb, StepVerb}
use Rattle.device_model.specs.LineFault.{WrongNumber, WrongByte, WrongWord, ExtraWord, MissingWord}
use Rattle.device_model.specs.Stretches.{Stretch}
use Rattle.device_model.specs.Progress.{Actor, Commit, Place, Settle, Clean, Recalc}
use Rattle.device_model.specs.Script.{Skip, AskLine, ServeLine, TakeLine, StepLine, Fill, Write, Read, Flush}
use Rattle.device_model.specs.ScriptBytes.{lines_of}
use Rattle.device_model.proofs.GrammarLemmas.{IsLine-by, IsText-by, not_skipped, no_number-first, no_number-zero, no_byte, differ}

-- ---- words that are none of those that may stand

no_asking : (verb : Verb) → is_asking verb ≡ true → codes "serve" ≢ verb_word verb
no_asking FillVerb asks is = differ (codes "serve") (codes "fill") refl is
no_asking WriteVerb asks is = differ (codes "serve") (codes "write") refl is
no_asking ReadVerb asks is = differ (codes "serve") (codes "read") refl is
no_asking FlushVerb asks is = differ (codes "serve") (codes "flush") refl is
no_asking ServeVerb asks is = absurd (true≢false (sym asks))
no_asking TakeVerb asks is = absurd (true≢false (sym asks))
no_asking StepVerb asks is = absurd (true≢false (sym asks))

no_actor : (actor : Actor) → codes "frob" ≢ actor_word actor
no_actor Commit is = differ (codes "frob") (codes "commit") refl is
no_actor Place is = differ (codes "frob") (codes "place") refl is
no_actor Settle is = differ (codes "frob") (codes "settle") refl is
no_actor Clean is = differ (codes "frob") (codes "clean") refl is
no_actor Recalc is = differ (codes "frob") (codes "recalc") refl is

no_verb : (verb : Verb) → codes "#" ≢ verb_word verb
no_verb FillVerb is = differ (codes "#") (codes "fill") refl is
no_verb WriteVerb is = differ (codes "#") (codes "write") refl is
no_verb ReadVerb is = differ (codes "#") (codes "read") refl is
no_verb FlushVerb is = differ (codes "#") (codes "flush") refl is
no_verb ServeVerb is = differ (codes "#") (codes "serve") refl is
no_verb TakeVerb is = differ (codes "#") (codes "take") refl is
no_verb StepVerb is = differ (codes "#") (codes "step") refl is

no_first : ¬ IsFirstWord (codes "#")
no_first (inl is) = differ (codes "#") (codes "start") refl is
no_first (inr (verb, is)) = no_verb verb is

abbrev IsStretch : Stretch → Type 0
IsStretch stretch = (stretch.byte < 256) × (1 ≤ stretch.count) × IsNumber stretch.count

two_stretches : All IsStretch (record { byte = 170; count = 300 } ∷ record { byte = 187; count = 212 } ∷ [])
two_stretches =
    All-cons IsStretch (record { byte = 170; count = 300 }) (record { byte = 187; count = 212 } ∷ []) (omega arith, omega arith, omega arith)
    (All-cons IsStretch (record { byte = 187; count = 212 }) [] (omega arith, omega arith, omega arith) (All-nil IsStretch))

-- ---- lines

-- More spaces than one, and at the end.
line-start_fill : IsLine (codes "start  fill 0 8 aa fua ") (AskLine true (Fill 0 8 170 true))
unfolding digits encode_with
line-start_fill = IsLine-by (codes "start  fill 0 8 aa fua ") (AskLine true (Fill 0 8 170 true)) refl refl
    (not_skipped (codes "start  fill 0 8 aa fua ") (λ none. cc) (λ rest same. cc), refl, (omega arith, omega arith, omega arith))

line-fill : IsLine (codes " fill 3 1 cc") (AskLine false (Fill 3 1 204 false))
unfolding digits encode_with
line-fill = IsLine-by (codes " fill 3 1 cc") (AskLine false (Fill 3 1 204 false)) refl refl
    (not_skipped (codes " fill 3 1 cc") (λ none. cc) (λ rest same. cc), refl, (omega arith, omega arith, omega arith))

line-write : IsLine (codes "write 0 aa*300,bb*212 fua") (AskLine false (Write 0 (record { byte = 170; count = 300 } ∷ record { byte = 187; count = 212 } ∷ []) true))
unfolding digits encode_with
line-write = IsLine-by (codes "write 0 aa*300,bb*212 fua") (AskLine false (Write 0 (record { byte = 170; count = 300 } ∷ record { byte = 187; count = 212 } ∷ []) true)) refl refl
    (not_skipped (codes "write 0 aa*300,bb*212 fua") (λ none. cc) (λ rest same. cc), refl, (omega arith, ((λ none. cc), two_stretches)))

line-read : IsLine (codes "start read 4 8") (AskLine true (Read 4 8))
unfolding digits encode_with
line-read = IsLine-by (codes "start read 4 8") (AskLine true (Read 4 8)) refl refl
    (not_skipped (codes "start read 4 8") (λ none. cc) (λ rest same. cc), refl, (omega arith, omega arith))

line-flush : IsLine (codes "flush") (AskLine false Flush)
unfolding digits encode_with
line-flush = IsLine-by (codes "flush") (AskLine false Flush) refl refl
    (not_skipped (codes "flush") (λ none. cc) (λ rest same. cc), refl, tt)

line-serve : IsLine (codes "serve 1") (ServeLine 1)
unfolding digits encode_with
line-serve = IsLine-by (codes "serve 1") (ServeLine 1) refl refl
    (not_skipped (codes "serve 1") (λ none. cc) (λ rest same. cc), refl, omega arith)

line-take : IsLine (codes "take 18446744073709551615") (TakeLine 18446744073709551615)
unfolding digits encode_with
line-take = IsLine-by (codes "take 18446744073709551615") (TakeLine 18446744073709551615) refl refl
    (not_skipped (codes "take 18446744073709551615") (λ none. cc) (λ rest same. cc), refl, omega arith)

line-step : IsLine (codes "step settle") (StepLine Settle)
unfolding digits encode_with
line-step = IsLine-by (codes "step settle") (StepLine Settle) refl refl
    (not_skipped (codes "step settle") (λ none. cc) (λ rest same. cc), refl, tt)

-- No word, and a first byte that is `#`.
line-blank : IsLine (codes "  ") Skip
line-blank = IsLine-by (codes "  ") Skip refl refl (inl refl)

line-comment : IsLine (codes "# fill") Skip
line-comment = IsLine-by (codes "# fill") Skip refl refl (inr (codes " fill", refl))

-- ---- faults

-- The first word that is wrong is told, before any that is missing.
fault-number : IsFaultOf (codes "fill x") (WrongNumber (codes "x"))
unfolding digits encode_with decode_pairs
fault-number = (omega arith, IsText-by (codes "fill x") refl, not_skipped (codes "fill x") (λ none. cc) (λ rest same. cc), inr (inl (FillVerb, refl, inr (no_number-first 120 [] (λ digit. omega (arith, digit.0, digit.1)), refl))))

fault-leading_zero : IsFaultOf (codes "take 01") (WrongNumber (codes "01"))
unfolding digits encode_with decode_pairs
fault-leading_zero = (omega arith, IsText-by (codes "take 01") refl, not_skipped (codes "take 01") (λ none. cc) (λ rest same. cc), inr (inl (TakeVerb, refl, inr (no_number-zero 49 [], refl))))

fault-missing : IsFaultOf (codes "read 0") (MissingWord)
unfolding digits encode_with decode_pairs
fault-missing = (omega arith, IsText-by (codes "read 0") refl, not_skipped (codes "read 0") (λ none. cc) (λ rest same. cc), inr (inl (ReadVerb, refl, inl ((0, omega arith, refl), refl))))

fault-byte : IsFaultOf (codes "fill 0 0 zz q") (WrongByte (codes "zz"))
unfolding digits encode_with decode_pairs
fault-byte = (omega arith, IsText-by (codes "fill 0 0 zz q") refl, not_skipped (codes "fill 0 0 zz q") (λ none. cc) (λ rest same. cc), inr (inl (FillVerb, refl, inl ((0, omega arith, refl), inl ((0, omega arith, refl), inr (no_byte (codes "zz") (InvalidHexCharacter 122 0) refl, refl))))))

fault-fua : IsFaultOf (codes "fill 0 0 aa q") (WrongWord (codes "q"))
unfolding digits encode_with decode_pairs
fault-fua = (omega arith, IsText-by (codes "fill 0 0 aa q") refl, not_skipped (codes "fill 0 0 aa q") (λ none. cc) (λ rest same. cc), inr (inl (FillVerb, refl, inl ((0, omega arith, refl), inl ((0, omega arith, refl), inl ((170, omega arith, refl), inr (differ (codes "q") (codes "fua") refl, refl)))))))

fault-extra : IsFaultOf (codes "fill 0 0 aa fua q") (ExtraWord (codes "q"))
unfolding digits encode_with decode_pairs
fault-extra = (omega arith, IsText-by (codes "fill 0 0 aa fua q") refl, not_skipped (codes "fill 0 0 aa fua q") (λ none. cc) (λ rest same. cc), inr (inl (FillVerb, refl, inl ((0, omega arith, refl), inl ((0, omega arith, refl), inl ((170, omega arith, refl), inl (refl, refl)))))))

fault-extra_fua : IsFaultOf (codes "flush fua") (ExtraWord (codes "fua"))
unfolding digits encode_with decode_pairs
fault-extra_fua = (omega arith, IsText-by (codes "flush fua") refl, not_skipped (codes "flush fua") (λ none. cc) (λ rest same. cc), inr (inl (FlushVerb, refl, refl)))

fault-start : IsFaultOf (codes "start") (MissingWord)
unfolding digits encode_with decode_pairs
fault-start = (omega arith, IsText-by (codes "start") refl, not_skipped (codes "start") (λ none. cc) (λ rest same. cc), inl (refl, refl))

fault-start_serve : IsFaultOf (codes "start serve 1") (WrongWord (codes "serve"))
unfolding digits encode_with decode_pairs
fault-start_serve = (omega arith, IsText-by (codes "start serve 1") refl, not_skipped (codes "start serve 1") (λ none. cc) (λ rest same. cc), inl (refl, inr ((λ (verb, asks, is). no_asking verb asks is), refl)))

fault-step : IsFaultOf (codes "step") (MissingWord)
unfolding digits encode_with decode_pairs
fault-step = (omega arith, IsText-by (codes "step") refl, not_skipped (codes "step") (λ none. cc) (λ rest same. cc), inr (inl (StepVerb, refl, refl)))

fault-actor : IsFaultOf (codes "step frob x") (WrongWord (codes "frob"))
unfolding digits encode_with decode_pairs
fault-actor = (omega arith, IsText-by (codes "step frob x") refl, not_skipped (codes "step frob x") (λ none. cc) (λ rest same. cc), inr (inl (StepVerb, refl, inr ((λ (actor, is). no_actor actor is), refl))))

-- Behind a space it begins no comment.
fault-hash : IsFaultOf (codes " # x") (WrongWord (codes "#"))
unfolding digits encode_with decode_pairs
fault-hash = (omega arith, IsText-by (codes " # x") refl, not_skipped (codes " # x") (λ none. cc) (λ rest same. cc), inr (inr (no_first, refl)))

-- ---- scripts

lines_of-ended : lines_of (codes "flush\n\nread 0 1\n") ≡ codes "flush" ∷ [] ∷ codes "read 0 1" ∷ []
lines_of-ended = refl

lines_of-open : lines_of (codes "flush\nflush") ≡ codes "flush" ∷ codes "flush" ∷ []
lines_of-open = refl

lines_of-none : lines_of [] ≡ []
lines_of-none = refl
