-- Eight runs of five bytes are forty.
use Rattle.std.proofs.Common.{◌≡◌, ℕ, List, ◌++◌, ◌∙◌, ap, take, refl, sym}
use Rattle.std.specs.Fmt.{digits}
use Rattle.std.specs.List.{flat_map}
use Rattle.std.specs.Simd.Lanes.{pick_l}
use Rattle.hex.specs.Hex.{encode_with, encode_lower}
use Rattle.script_text.specs.Singles.{single_text}
use Rattle.script_text.proofs.LaneLemmas.{bytes_from, bytes_from-whole}
use Rattle.script_text.specs.declared.singles.TheConstants.{PLACES, MARKS}
use Rattle.script_text.proofs.singles.put_singles.Goals as goal

-- The text that is taken from these digits and the marks.
abbrev runs_of : List ℕ → List ℕ
runs_of text = take 40 (pick_l 0 (text ++ MARKS) PLACES)

runs_of_eight : (bytes : List ℕ) → runs_of (encode_lower (bytes_from bytes 0 8)) ≡ flat_map single_text (bytes_from bytes 0 8)
unfolding digits encode_with
runs_of_eight bytes = refl

pub returns-clause-written : goal.returns-clause-written
returns-clause-written c =
    let bytes = c.args.bytes.now in
    let text = c.args.text.now.items in
    let all = bytes_from-whole bytes 8 c.told-bytes in
    c.put_bytes.ensures.written
    ∙ ap (λ (put : List ℕ). text ++ runs_of put) c.digits_of_eight-digits.ensures
    ∙ ap (λ (xs : List ℕ). text ++ runs_of (encode_lower xs)) all
    ∙ ap (λ (put : List ℕ). text ++ put) (runs_of_eight bytes)
    ∙ ap (λ (xs : List ℕ). text ++ flat_map single_text xs) (sym all)
