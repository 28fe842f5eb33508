-- The requests that end in a piece are those that a session takes with it.
use Rattle.std.proofs.Common.{◌≡◌, ℕ, false, List, [], ◌∷◌, ◌++◌, length, drop, refl, sym, ◌∙◌, ap, append_assoc, append-nil}
use Rattle.std.specs.Prelude.{flat_map}
use Rattle.nbd_model.specs.Session.{ending_in}
use Rattle.nbd_model.specs.Stream.{Message, Stream, requests_in, stream_of}
use Rattle.nbd_wire.specs.CuttingLaws.{Told, tell, tell_all, joined, groups_told, GroupLaw}
use Rattle.nbd_wire.specs.Splitting.{Place, InHead}
use Rattle.nbd_wire.proofs.CuttingLemmas.{cuttings_tell}

-- What is told of one piece more.
record TellsMore (place : Place) (front : List (List ℕ)) (piece : List ℕ) : Type 0 where
  pub told : (tell_all place (front ++ piece ∷ [])).told ≡ (tell_all place front).told ++ (tell (tell_all place front).place piece).told
  pub at : (tell_all place (front ++ piece ∷ [])).place ≡ (tell (tell_all place front).place piece).place

tells_more : (place : Place) (front : List (List ℕ)) (piece : List ℕ) → TellsMore place front piece
tells_more place [] piece = record { told = append-nil (tell place piece).told; at = refl }
tells_more place (first ∷ front) piece =
    let here = tell place first in
    let rest = tells_more here.place front piece in
    record {
      told = ap (λ (l : List Told). here.told ++ l) rest.told
          ∙ sym (append_assoc here.told (tell_all here.place front).told (tell (tell_all here.place front).place piece).told);
      at = rest.at;
    }

abbrev bytes_of : List (List ℕ) → List ℕ
bytes_of pieces = flat_map (λ (piece : List ℕ). piece) pieces

bytes_of-more : (front : List (List ℕ)) (piece : List ℕ) → bytes_of (front ++ piece ∷ []) ≡ bytes_of front ++ piece
bytes_of-more [] piece = append-nil piece
bytes_of-more (first ∷ front) piece = ap (λ (l : List ℕ). first ++ l) (bytes_of-more front piece) ∙ sym (append_assoc first (bytes_of front) piece)

abbrev asked_in : Stream → List Message
asked_in s = (requests_in false s.wrong s.messages).asked

-- Behind some pieces.
groups : (front pieces : List (List ℕ)) (told : List Told) (place : Place) (before : List ℕ) (asked : ℕ) → told ≡ (tell_all (InHead []) front).told
    → place ≡ (tell_all (InHead []) front).place → before ≡ bytes_of front → groups_told told place asked pieces ≡ ending_in before asked pieces
groups front [] told place before asked told_is place_is before_is = refl
groups front (piece ∷ pieces) told place before asked told_is place_is before_is =
    let next = tell place piece in
    let more = tells_more (InHead []) front piece in
    let now : told ++ next.told ≡ (tell_all (InHead []) (front ++ piece ∷ [])).told =
    ap (λ (l : List Told). l ++ next.told) told_is
    ∙ ap (λ (at : Place). (tell_all (InHead []) front).told ++ (tell at piece).told) place_is ∙ sym more.told in
    let then : next.place ≡ (tell_all (InHead []) (front ++ piece ∷ [])).place = ap (λ (at : Place). (tell at piece).place) place_is ∙ sym more.at in
    let bytes : before ++ piece ≡ bytes_of (front ++ piece ∷ []) = ap (λ (l : List ℕ). l ++ piece) before_is ∙ sym (bytes_of-more front piece) in
    let same : joined (told ++ next.told) ≡ stream_of (before ++ piece) =
    ap joined now ∙ cuttings_tell (front ++ piece ∷ []) ∙ ap stream_of (sym bytes) in
    ap (λ (s : Stream). drop asked (asked_in s) ∷ groups_told (told ++ next.told) next.place (length (asked_in s)) pieces) same
    ∙ ap (λ (l : List (List Message)). drop asked (asked_in (stream_of (before ++ piece))) ∷ l)
    (groups (front ++ piece ∷ []) pieces (told ++ next.told) next.place (before ++ piece) (length (asked_in (stream_of (before ++ piece)))) now then bytes)

-- ---- for callers

-- It is so from the beginning of a stream on.
pub group_law : GroupLaw
group_law pieces = groups [] pieces [] (InHead []) [] 0 refl refl refl
