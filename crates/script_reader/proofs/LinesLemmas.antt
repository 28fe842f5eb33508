-- The lines that are left of a script, by the bytes in front of it.
use Rattle.std.proofs.Common.{◌≡◌, ◌≢◌, ◌⊎◌, ⊎_elim, ℕ, suc, ◌+◌, ◌-◌, ◌<◌, ◌≤◌, Bool, true, false, List, [], ◌∷◌, ◌++◌, length, take, refl, sym, ◌∙◌, ap, inl, inr, arith, append_assoc, length-append}
use Rattle.std.specs.Prelude.{ltb, ◌==◌}
use Rattle.std.proofs.lemmas.Bool.{ne_eqb, le-ltb, lt-ltb, lt-leb, le-leb}
use Rattle.std.proofs.lemmas.Bool.Decides.{eqb_tells}
use Rattle.std.proofs.lemmas.List.{take_all}
use Rattle.std.proofs.Math.Seq.{take-append_seam, take-append-add}
use Rattle.std.specs.List.{All}
use Rattle.std.proofs.lemmas.List.Elements.{All-weaker, All-nil, All-cons, All-append}
use Rattle.std.proofs.lemmas.List.Splits.{slice_split_none, slice_split_at, length-slice_split}
use Rattle.device_model.specs.Grammar.{most_line}
use Rattle.device_model.specs.ScriptBytes.{most_script, parts_of, ended_parts, open_part, open_line, is_too_long, lines_of, HasNoNewline}
use Rattle.script_reader.specs.Lines.{lines_left}

-- ---- parts

plain_tests : (bytes : List ℕ) → HasNoNewline bytes → All (λ byte. (byte == 10) ≡ false) bytes
plain_tests bytes plain = All-weaker (λ byte. byte ≢ 10) (λ byte. (byte == 10) ≡ false)
    (λ byte other. ne_eqb byte 10 other) bytes plain

parts_of-plain : (bytes : List ℕ) → HasNoNewline bytes → parts_of bytes ≡ bytes ∷ []
parts_of-plain bytes plain = slice_split_none (λ byte. byte == 10) bytes (plain_tests bytes plain)

parts_of-ended : (line after : List ℕ) → HasNoNewline line
    → parts_of (line ++ 10 ∷ after) ≡ line ∷ parts_of after
parts_of-ended line after plain =
    slice_split_at (λ byte. byte == 10) line 10 after (plain_tests line plain) refl

parts_of-some : (bytes : List ℕ) → 0 < length (parts_of bytes)
parts_of-some bytes = omega (arith, length-slice_split (λ byte. byte == 10) bytes)

-- ---- the lines of some parts

abbrev lines_in : Bool → List (List ℕ) → List (List ℕ)
lines_in too_long parts = ended_parts parts ++ open_line too_long (open_part parts)

lines_in-cons : (too_long : Bool) (part : List ℕ) (parts : List (List ℕ)) → 0 < length parts
    → lines_in too_long (part ∷ parts) ≡ part ∷ lines_in too_long parts
lines_in-cons too_long part [] some = absurd (omega (arith, some))
lines_in-cons too_long part (next ∷ parts) some = refl

lines_in-ended : (too_long : Bool) (line after : List ℕ) → HasNoNewline line
    → lines_in too_long (parts_of (line ++ 10 ∷ after)) ≡ line ∷ lines_in too_long (parts_of after)
lines_in-ended too_long line after plain =
    ap (lines_in too_long) (parts_of-ended line after plain)
    ∙ lines_in-cons too_long line (parts_of after) (parts_of-some after)

lines_in-plain : (too_long : Bool) (bytes : List ℕ) → HasNoNewline bytes
    → lines_in too_long (parts_of bytes) ≡ open_line too_long bytes
lines_in-plain too_long bytes plain = ap (lines_in too_long) (parts_of-plain bytes plain)

-- ---- the line that no newline ends

open_line-none : (too_long : Bool) → open_line too_long [] ≡ []
open_line-none too_long = refl

open_line-some : (bytes : List ℕ) → 0 < length bytes → open_line false bytes ≡ bytes ∷ []
open_line-some bytes some =
    let test : (length bytes == 0) ≡ false = ne_eqb (length bytes) 0 (λ none. omega (arith, some, none)) in
    rw test refl

open_line-short : (bytes : List ℕ) → length bytes ≤ most_line → open_line true bytes ≡ []
open_line-short [] short = refl
open_line-short (x ∷ xs) short =
    let some : (length (x ∷ xs) == 0) ≡ false = ne_eqb (length (x ∷ xs)) 0 (λ none. omega (arith, none)) in
    let test = le-leb (length (x ∷ xs)) most_line short in
    rw (some, test) refl

open_line-long : (too_long : Bool) (bytes : List ℕ) → most_line < length bytes
    → open_line too_long bytes ≡ bytes ∷ []
open_line-long false bytes long = open_line-some bytes (omega (arith, long))
open_line-long true bytes long =
    let some : (length bytes == 0) ≡ false = ne_eqb (length bytes) 0 (λ none. omega (arith, long, none)) in
    let test = lt-leb (length bytes) most_line long in
    rw (some, test) refl

-- ---- a line that is longer than a line may be

-- Some bytes have a first newline, and this is what stands before it and behind it.
abbrev HasFirst : List ℕ → Type 0
HasFirst bytes = (front : List ℕ) × (back : List ℕ) × (bytes ≡ front ++ 10 ∷ back) × HasNoNewline front

first_newline : (bytes : List ℕ) → HasNoNewline bytes ⊎ HasFirst bytes
first_newline [] = inl (All-nil (λ byte. byte ≢ 10))
first_newline (x ∷ xs) = ⊎_elim
    (λ same. inr ([], xs, ap (λ (y : ℕ). y ∷ xs) same.1, All-nil (λ byte. byte ≢ 10)))
    (λ other. ⊎_elim
    (λ plain. inl (All-cons (λ byte. byte ≢ 10) x xs other.1 plain))
    (λ found.
    let plain = All-cons (λ byte. byte ≢ 10) x found.0 other.1 found.3 in
    inr (x ∷ found.0, found.1, ap (λ (l : List ℕ). x ∷ l) found.2, plain))
    (first_newline xs))
    (eqb_tells x 10)

-- The first of some lines is longer than a line may be, and begins with these bytes.
pub record BeginsLong (line : List ℕ) (lines : List (List ℕ)) : Type 0 where
  pub behind : List ℕ
  pub others : List (List ℕ)
  pub lines_are : lines ≡ (line ++ behind) ∷ others

lines_in-long : (too_long : Bool) (line rest : List ℕ) → HasNoNewline line → most_line < length line
    → BeginsLong line (lines_in too_long (parts_of (line ++ rest)))
lines_in-long too_long line rest plain long = ⊎_elim
    (λ none. record {
      behind = rest;
      others = [];
      lines_are = lines_in-plain too_long (line ++ rest) (All-append (λ byte. byte ≢ 10) line rest plain none)
          ∙ open_line-long too_long (line ++ rest) (omega (arith, long, length-append line rest));
    })
    (λ found. record {
      behind = found.0;
      others = lines_in too_long (parts_of found.1);
      lines_are = ap (λ (l : List ℕ). lines_in too_long (parts_of l))
          (ap (λ (l : List ℕ). line ++ l) found.2 ∙ sym (append_assoc line found.0 (10 ∷ found.1)))
          ∙ lines_in-ended too_long (line ++ found.0) found.1
          (All-append (λ byte. byte ≢ 10) line found.0 plain found.3);
    })
    (first_newline rest)

-- ---- the bytes within the bound

take-long : (n : ℕ) (line rest : List ℕ) → length line ≤ n
    → take n (line ++ rest) ≡ line ++ take (n - length line) rest
take-long n line rest fits =
    ap (λ (k : ℕ). take k (line ++ rest)) (omega (arith, fits)) ∙ take-append-add line rest (n - length line)

take-ended : (n : ℕ) (line after : List ℕ) → length line < n
    → take n (line ++ 10 ∷ after) ≡ line ++ 10 ∷ take (n - (length line + 1)) after
take-ended n line after fits =
    let rest : n - length line ≡ suc (n - (length line + 1)) = omega (arith, fits) in
    take-long n line (10 ∷ after) (omega (arith, fits)) ∙ ap (λ (k : ℕ). line ++ take k (10 ∷ after)) rest

-- The lines that are left, by a bound of any size.
abbrev left_within : ℕ → ℕ → List ℕ → List (List ℕ)
left_within most taken rest = lines_in (ltb most (taken + length rest)) (parts_of (take (most - taken) rest))

left_within-are : (most taken : ℕ) (rest within : List ℕ) (too_long : Bool) → take (most - taken) rest ≡ within
    → ltb most (taken + length rest) ≡ too_long
    → left_within most taken rest ≡ lines_in too_long (parts_of within)
left_within-are most taken rest within too_long bytes test =
    ap (λ (l : List ℕ). lines_in (ltb most (taken + length rest)) (parts_of l)) bytes
    ∙ ap (λ (b : Bool). lines_in b (parts_of within)) test

left_within-ended : (most taken : ℕ) (line after : List ℕ) → HasNoNewline line → taken + length line + 1 ≤ most
    → left_within most taken (line ++ 10 ∷ after) ≡ line ∷ left_within most (taken + length line + 1) after
left_within-ended most taken line after plain fits =
    left_within-are most taken (line ++ 10 ∷ after) (line ++ 10 ∷ take (most - (taken + length line + 1)) after)
    (ltb most (taken + length line + 1 + length after))
    (take-ended (most - taken) line after (omega (arith, fits))
    ∙ ap (λ (k : ℕ). line ++ 10 ∷ take k after) (omega (arith, fits)))
    (ap (ltb most) (omega (arith, length-append line (10 ∷ after))))
    ∙ lines_in-ended (ltb most (taken + length line + 1 + length after)) line
    (take (most - (taken + length line + 1)) after) plain

left_within-last : (most taken : ℕ) (line : List ℕ) → HasNoNewline line → taken + length line ≤ most
    → left_within most taken line ≡ open_line false line
left_within-last most taken line plain fits =
    left_within-are most taken line line false (take_all (most - taken) line (omega (arith, fits)))
    (le-ltb most (taken + length line) fits)
    ∙ lines_in-plain false line plain

left_within-bound : (most taken : ℕ) (line after : List ℕ) → HasNoNewline line → taken + length line ≡ most
    → 0 < length after
    → left_within most taken (line ++ after) ≡ open_line true line
left_within-bound most taken line after plain bound more =
    left_within-are most taken (line ++ after) line true
    (ap (λ (k : ℕ). take k (line ++ after)) (omega (arith, bound)) ∙ take-append_seam line after)
    (lt-ltb most (taken + length (line ++ after)) (omega (arith, bound, more, length-append line after)))
    ∙ lines_in-plain true line plain

left_within-long : (most taken : ℕ) (line after : List ℕ) → HasNoNewline line → taken + length line ≤ most
    → most_line < length line
    → BeginsLong line (left_within most taken (line ++ after))
left_within-long most taken line after plain fits long =
    let test = ltb most (taken + length (line ++ after)) in
    let rest = take (most - taken - length line) after in
    let same = left_within-are most taken (line ++ after) (line ++ rest) test
    (take-long (most - taken) line after (omega (arith, fits))) refl in
    let begins = lines_in-long test line rest plain long in
    record { behind = begins.behind; others = begins.others; lines_are = same ∙ begins.lines_are }

-- ---- for callers

-- Before the first call the lines that are left are those of the script,
pub lines_left-script : (script : List ℕ) → lines_left 0 script ≡ lines_of script
lines_left-script script = ap (λ (n : ℕ). lines_in (ltb most_script n) (parts_of (take most_script script)))
    (omega arith)

-- and it is too long where it reaches beyond the bound.
pub is_too_long-script : (script : List ℕ) → is_too_long script ≡ ltb most_script (0 + length script)
is_too_long-script script = ap (ltb most_script) (omega arith)

-- The next line ends at a newline.
pub lines_left-ended : (taken : ℕ) (line after : List ℕ) → HasNoNewline line
    → taken + length line + 1 ≤ most_script
    → lines_left taken (line ++ 10 ∷ after) ≡ line ∷ lines_left (taken + length line + 1) after
lines_left-ended = left_within-ended most_script

-- The script ends with it.
pub lines_left-last : (taken : ℕ) (line : List ℕ) → HasNoNewline line → taken + length line ≤ most_script
    → lines_left taken line ≡ open_line false line
lines_left-last = left_within-last most_script

pub lines_left-some : (taken : ℕ) (line : List ℕ) → HasNoNewline line → taken + length line ≤ most_script
    → 0 < length line → lines_left taken line ≡ line ∷ []
lines_left-some taken line plain fits some = lines_left-last taken line plain fits ∙ open_line-some line some

pub lines_left-none : (taken : ℕ) → taken ≤ most_script → lines_left taken [] ≡ []
lines_left-none taken fits = lines_left-last taken [] (All-nil (λ byte. byte ≢ 10)) (omega (arith, fits))

-- The bound comes before it has ended, and it is no longer than a line may be.
pub lines_left-bound : (taken : ℕ) (line after : List ℕ) → HasNoNewline line → taken + length line ≡ most_script
    → length line ≤ most_line → 0 < length after
    → lines_left taken (line ++ after) ≡ []
lines_left-bound taken line after plain bound short more =
    left_within-bound most_script taken line after plain bound more ∙ open_line-short line short

-- It is longer than a line may be.
pub lines_left-long : (taken : ℕ) (line after : List ℕ) → HasNoNewline line → taken + length line ≤ most_script
    → most_line < length line
    → BeginsLong line (lines_left taken (line ++ after))
lines_left-long = left_within-long most_script
