-- The pieces of a stream: their bytes, how large they are, and a stream that comes byte by byte.
use Rattle.std.proofs.Common.{◌≡◌, ℕ, zero, suc, ◌<◌, ◌≤◌, List, [], ◌∷◌, ◌++◌, length, flat_map, All, refl, sym, ◌∙◌, ap, arith, append_assoc}
use Rattle.std.proofs.lemmas.List.Elements.{All-append}
use Rattle.nbd_model.specs.Stream as streams
use Rattle.nbd_model.specs.Stream.{requests_of, stream_from}
use Rattle.nbd_model.specs.Session.{most_piece}

abbrev pub whole_of : List (List ℕ) → List ℕ
whole_of pieces = flat_map (λ (piece : List ℕ). piece) pieces

abbrev pub AreSmall : List (List ℕ) → Type 0
AreSmall pieces = All (λ (piece : List ℕ). length piece ≤ most_piece) pieces

pub whole-append : (a b : List (List ℕ)) → whole_of (a ++ b) ≡ whole_of a ++ whole_of b
whole-append [] b = refl
whole-append (x ∷ a) b = ap (λ (l : List ℕ). x ++ l) (whole-append a b) ∙ sym (append_assoc x (whole_of a) (whole_of b))

-- ---- byte by byte

abbrev pub singles : List ℕ → List (List ℕ)
singles [] = []
singles (b ∷ bytes) = (b ∷ []) ∷ singles bytes

pub whole-singles : (bytes : List ℕ) → whole_of (singles bytes) ≡ bytes
whole-singles [] = refl
whole-singles (b ∷ bytes) = ap (λ (l : List ℕ). b ∷ l) (whole-singles bytes)

pub small-none : AreSmall []
small-none k d low = absurd (omega (arith, low))

pub small-one : (piece : List ℕ) → length piece ≤ most_piece → AreSmall (piece ∷ [])
small-one piece few zero d low = few
small-one piece few (suc k) d low = absurd (omega (arith, low))

pub small-append : (a b : List (List ℕ)) → AreSmall a → AreSmall b → AreSmall (a ++ b)
small-append a b first second = All-append (λ (piece : List ℕ). length piece ≤ most_piece) a b first second

pub small-singles : (bytes : List ℕ) → AreSmall (singles bytes)
small-singles [] = small-none
small-singles (b ∷ bytes) = small-append ((b ∷ []) ∷ []) (singles bytes) (small-one (b ∷ []) (omega arith)) (small-singles bytes)

-- Nothing ends the requests in no bytes.
pub none_unended : (requests_of []).ending ≡ streams.Ended
unfolding stream_from
none_unended = refl
