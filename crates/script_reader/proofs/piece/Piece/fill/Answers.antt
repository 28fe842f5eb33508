use Rattle.std.proofs.Common.{◌≡◌, ◌≤◌, ℕ, List, [], ◌++◌, length, take, drop, sym, ◌∙◌, ap, subst, arith, rules}
use Rattle.std.proofs.lemmas.List.{take-take, take-append-le, length-take}
use Rattle.std.specs.Option.{IsSomeAnd}
use Rattle.script_reader.proofs.ToldLemmas.{some_weaker}
use Rattle.script_reader.proofs.piece.Piece.fill.Goals as goal

-- The bytes that a read put into the front of a buffer stand there.
front_same : (n len : ℕ) (buffer behind : List ℕ) → n ≤ length buffer → n ≤ len
    → take n (take len (buffer ++ behind)) ≡ take n buffer
front_same n len buffer behind fits within = take-take n len (buffer ++ behind) within
    ∙ take-append-le n buffer behind fits

-- None of them stand there where there are none.
no_front : (n : ℕ) (buffer : List ℕ) → n ≤ length buffer → take n buffer ≡ [] → n ≡ 0
no_front n buffer fits none = omega (arith, fits, ap length none, length-take n buffer)

pub returns-clause-read : goal.returns-clause-read
returns-clause-read g c left told =
    let n = c.in_ok-self-inside.field-0 in
    let buffer = c.read_front.new.buffer in
    let behind = drop (length buffer) c.self.inside.bytes.items in
    let len = c.self.inside.bytes.len in
    let fits : n ≤ length buffer = search rules in
    let within : n ≤ len = search rules in
    let same = front_same n len buffer behind fits within in
    let last = g.S.Source.left c.read_front.new.source in
    let Q : List ℕ → Type 0 = λ bytes. IsSomeAnd last
    (λ later. (left ≡ bytes ++ later) × (bytes ≡ [] → later ≡ [])) in
    subst Q (sym same)
    (some_weaker (λ later. (left ≡ take n buffer ++ later) × (n ≡ 0 → later ≡ []))
    (λ later. (left ≡ take n buffer ++ later) × (take n buffer ≡ [] → later ≡ []))
    last (c.in_ok-self-inside.ensures.read left told)
    (λ later goes. (goes.0, λ none. goes.1 (no_front n buffer fits none))))
