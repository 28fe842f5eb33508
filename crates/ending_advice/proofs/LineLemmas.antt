-- How a line that is kept goes on.
use Rattle.std.proofs.Common.{◌≡◌, inl, inr, true, false, ℕ, ◌+◌, ◌≤◌, min, List, ◌++◌, length, length-take, take, sym, ◌∙◌, ap, arith, ◌↔◌, Result, Ok, Err, IsOk, OnOk}
use Rattle.std.proofs.lemmas.Bool.{cases_lt}
use Rattle.std.proofs.lemmas.List.{take_all}
use Rattle.std.proofs.Math.Seq.{take-append-add}

-- Of a list the first so many are all that it has, or so many.
take-least : (room : ℕ) (bytes : List ℕ) → take (min room (length bytes)) bytes ≡ take room bytes
take-least room bytes = elim (cases_lt (length bytes) room) [
  | inl short ↦
      let is : min room (length bytes) ≡ length bytes = omega (arith, short) in
      ap (λ (n : ℕ). take n bytes) is ∙ take_all (length bytes) bytes (omega arith) ∙ sym (take_all room bytes (omega (arith, short)))
  | inr long ↦
      let is : min room (length bytes) ≡ room = omega (arith, long) in
      ap (λ (n : ℕ). take n bytes) is
]

-- What an answer gives that is good, where it is.
ok_gives : {T E P Q : Type 0} (r : Result T E) → (IsOk r ↔ P) → P → OnOk r Q → Q
ok_gives (Ok done) iff p q = q
ok_gives (Err fault) iff p q = let no : false ≡ true = iff.1 p in absurd (cc)

-- What has room behind a line is all that is kept of both.
pub kept_behind : (line bytes : List ℕ) (most room : ℕ) → room + length line ≡ most → line ++ take (min room (length bytes)) bytes ≡ take most (line ++ bytes)
kept_behind line bytes most room fits =
    let split : length line + room ≡ most = omega (arith, fits) in
    ap (λ (x : List ℕ). line ++ x) (take-least room bytes)
    ∙ sym (take-append-add line bytes room)
    ∙ ap (λ (n : ℕ). take n (line ++ bytes)) split

-- So a line goes on, where so much was put behind it as there is room for.
pub goes_on : {T E : Type 0} (line bytes kept : List ℕ) (most room count : ℕ) → room + length line ≡ most → count ≡ min room (length bytes) → (r : Result T E)
    → (IsOk r ↔ (length line + length (take count bytes) ≤ most)) → OnOk r (kept ≡ line ++ take count bytes)
    → kept ≡ take most (line ++ bytes)
goes_on line bytes kept most room count fits is r iff put =
    let size : length (take count bytes) ≡ min count (length bytes) = length-take count bytes in
    ok_gives r iff (omega (arith, fits, is, size)) put
    ∙ ap (λ (n : ℕ). line ++ take n bytes) is
    ∙ kept_behind line bytes most room fits
