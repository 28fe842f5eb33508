-- A word of runs, taken from the front.
use Rattle.std.proofs.Common.{◌≡◌, ◌≢◌, ◌⊎◌, ℕ, ◌+◌, ◌*◌, ◌^◌, ◌==◌, ◌<◌, ◌≤◌, Bool, false, List, [], ◌∷◌, ◌++◌, length, replicate, map, sym, ◌∙◌, ap, subst, arith, refl, All, inl, inr}
use Rattle.std.specs.List.{position_or_len, before_first, after_first}
use Rattle.std.proofs.Math.ListN.{drop_of_length-le}
use Rattle.std.proofs.lemmas.Bool.{cases_lt}
use Rattle.std.proofs.lemmas.List.{take_all, length-map}
use Rattle.std.proofs.lemmas.List.Elements.{All-head, All-tail, All-from_get_or, All-weaker}
use Rattle.std.proofs.lemmas.List.Splits.{slice_split_none, slice_split_first, length-slice_split}
use Rattle.std.proofs.lemmas.List.Sums.{fails_before_first, sum_by-le, sum_by-cons, count_by-le-length}
use Rattle.std.proofs.lemmas.List.Concat.{flat_map-cons}
use Rattle.device_model.specs.Script.{stretches_length, bytes_of_stretches}
use Rattle.device_model.specs.Stretches.{Stretch, stretch_text}
use Rattle.script_text.specs.Runs.{AreRuns, IsRunText, IsStretch, parts_in, stretch_in, stretches_in}
use Rattle.script_text.proofs.RunLemmas.{IsTextOf-stretch_text, some_bytes, stretches_of_parts}

abbrev is_comma : ℕ → Bool
is_comma byte = byte == 44

-- The first part of a word, and the parts of what stands behind it.
data FirstPart (word : List ℕ) : Type 0 where
  Before : parts_in word ≡ before_first is_comma word ∷ parts_in (after_first is_comma word) → FirstPart word
  Whole : parts_in word ≡ before_first is_comma word ∷ [] → after_first is_comma word ≡ [] → FirstPart word

first_part : (word : List ℕ) → FirstPart word
first_part word = by_place (cases_lt (position_or_len is_comma word) (length word))
  where
    by_place : ((position_or_len is_comma word < length word) ⊎ (length word ≤ position_or_len is_comma word)) → FirstPart word
    by_place (inl within) = Before (slice_split_first is_comma word 0 within)
    by_place (inr past) =
        let plain : All (λ byte. is_comma byte ≡ false) word = All-from_get_or (λ byte. is_comma byte ≡ false) word 0 (λ k below. fails_before_first is_comma word k 0 (omega (arith, past, below))) in
        Whole (slice_split_none is_comma word plain ∙ ap (λ (part : List ℕ). part ∷ []) (sym (take_all (position_or_len is_comma word) word past)))
        (drop_of_length-le word (omega (arith, past)))

-- Where the parts are runs there are as many stretches.
stretches_in-parts : (word : List ℕ) → All IsRunText (parts_in word) → stretches_in word ≡ map stretch_in (parts_in word)
stretches_in-parts [] each = let long = some_bytes [] (All-head IsRunText [] [] each) in absurd (omega (arith, long))
stretches_in-parts (byte ∷ bytes) each = refl

-- ---- for callers

-- The first part of runs is one.
pub first_is_run : (word : List ℕ) → word ≢ [] → AreRuns word → IsRunText (before_first is_comma word)
first_is_run word some runs = elim (first_part word) [
  | Before parts ↦ All-head IsRunText (before_first is_comma word) (parts_in (after_first is_comma word)) (subst (All IsRunText) parts (runs.each some))
  | Whole parts none ↦ All-head IsRunText (before_first is_comma word) [] (subst (All IsRunText) parts (runs.each some))
]

-- What stands behind the first part of runs is runs.
pub rest_is_runs : (word : List ℕ) → word ≢ [] → AreRuns word → AreRuns (after_first is_comma word)
rest_is_runs word some runs = elim (first_part word) [
  | Before parts ↦ record { each = λ more. All-tail IsRunText (before_first is_comma word) (parts_in (after_first is_comma word)) (subst (All IsRunText) parts (runs.each some)) }
  | Whole parts none ↦ record { each = λ more. absurd (more none) }
]

-- The stretches of runs are the first and those behind it.
pub first_stretch : (word : List ℕ) → word ≢ [] → AreRuns word
    → stretches_in word ≡ stretch_in (before_first is_comma word) ∷ stretches_in (after_first is_comma word)
first_stretch word some runs = elim (first_part word) [
  | Before parts ↦
      let each = subst (All IsRunText) parts (runs.each some) in
      let rest = All-tail IsRunText (before_first is_comma word) (parts_in (after_first is_comma word)) each in
      stretches_in-parts word (runs.each some) ∙ ap (map stretch_in) parts
      ∙ ap (λ (stretches : List Stretch). stretch_in (before_first is_comma word) ∷ stretches) (sym (stretches_in-parts (after_first is_comma word) rest))
  | Whole parts none ↦
      stretches_in-parts word (runs.each some) ∙ ap (map stretch_in) parts
      ∙ ap (λ (rest : List ℕ). stretch_in (before_first is_comma word) ∷ stretches_in rest) (sym none)
]

-- Where a first run is found there are bytes.
pub some_word : (word : List ℕ) (stretch : Stretch) → IsStretch stretch → before_first is_comma word ≡ stretch_text stretch → word ≢ []
some_word word stretch ok is none =
    let short = (IsTextOf-stretch_text (before_first is_comma word) stretch is).long in
    let long : 3 ≤ 0 = subst (λ (bytes : List ℕ). 3 ≤ length (before_first is_comma bytes)) none short in
    omega (arith, long)

-- Where none is found there are none.
pub no_stretches : (word part : List ℕ) → AreRuns word → part ≡ before_first is_comma word → ((stretch : Stretch) → IsStretch stretch → part ≢ stretch_text stretch)
    → stretches_in word ≡ []
no_stretches [] part runs is none = refl
no_stretches (byte ∷ bytes) part runs is none =
    let run = first_is_run (byte ∷ bytes) (λ empty. cc) runs in
    absurd (none (stretch_in (before_first is_comma (byte ∷ bytes))) run.ok (is ∙ run.is))

-- Runs are fewer bytes than 2^128, since a word has fewer than 2^64.
pub stretches_length-lt : (word : List ℕ) → AreRuns word → length word < 2 ^ 64 → stretches_length (stretches_in word) < 2 ^ 128
stretches_length-lt [] runs short = omega arith
stretches_length-lt (byte ∷ bytes) runs short =
    let word = byte ∷ bytes in
    let each = runs.each (λ empty. cc) in
    let stretches = map stretch_in (parts_in word) in
    let few : length stretches ≤ length word + 1 = omega (arith, length-map (parts_in word) stretch_in, length-slice_split is_comma word, count_by-le-length is_comma word) in
    let small : All (λ stretch. stretch.count ≤ 18446744073709551615) stretches =
    All-weaker IsStretch (λ stretch. stretch.count ≤ 18446744073709551615) (λ stretch ok. omega (arith, ok.2)) stretches (stretches_of_parts (parts_in word) each) in
    let all : stretches_length stretches ≤ length stretches * 18446744073709551615 = sum_by-le (λ stretch. stretch.count) 18446744073709551615 stretches small in
    omega (arith, all, few, short)

-- What the first stretch adds to the length, and to the bytes.
pub stretches_length-first : (stretches rest : List Stretch) (stretch : Stretch) → stretches ≡ stretch ∷ rest → stretches_length stretches ≡ stretch.count + stretches_length rest
stretches_length-first stretches rest stretch is = ap stretches_length is ∙ sum_by-cons (λ s. s.count) stretch rest

pub bytes_of_stretches-first : (stretches rest : List Stretch) (stretch : Stretch) → stretches ≡ stretch ∷ rest
    → bytes_of_stretches stretches ≡ replicate stretch.count stretch.byte ++ bytes_of_stretches rest
bytes_of_stretches-first stretches rest stretch is = ap bytes_of_stretches is ∙ flat_map-cons (λ s. replicate s.count s.byte) stretch rest
