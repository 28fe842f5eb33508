-- A stream and its pieces: those that were read, and the rest of it byte by byte.
use Rattle.std.proofs.Common.{◌≡◌, ℕ, zero, suc, ◌+◌, ◌≤◌, List, [], ◌∷◌, ◌++◌, length, drop, take, flat_map, Option, None, Some, option_map, All, refl, sym, ◌∙◌, ap, arith, append_assoc, take-append-drop, take-take}
use Rattle.std.specs.Option.{ForSome}
use Rattle.std.proofs.lemmas.List.Elements.{All-append}
use Rattle.std.proofs.lemmas.Option.{none-some, same_Some}
use Rattle.stream_io.specs.Stream.{Gives}
use Rattle.nbd_model.specs.Stream.{most_stream}
use Rattle.nbd_model.specs.Session.{most_piece}
use Rattle.nbd_model.proofs.CuttingLemmas.{whole_of, AreSmall, whole-append, singles, whole-singles, small-append, small-singles}
use Rattle.nbd_session.specs.Session.{Course}

-- ---- what a source gives

-- What it had left is what it gave, or the first of that, and the rest.
pub left_given : (left : Option (List ℕ)) (n within : ℕ) (buffer : List ℕ) → within ≤ n → ForSome left (Gives n buffer)
    → left ≡ option_map (λ (rest : List ℕ). take within buffer ++ rest) (option_map (drop within) left)
left_given None n within buffer low gives = refl
left_given (Some bytes) n within buffer low gives =
    let given : Gives n buffer bytes = gives bytes refl in
    let same : take within buffer ≡ take within bytes = sym (take-take within n buffer low) ∙ ap (take within) given.next ∙ take-take within n bytes low in
    ap (λ (l : List ℕ). Some l) (sym (take-append-drop within bytes) ∙ ap (λ (l : List ℕ). l ++ drop within bytes) (sym same))

-- Some bytes come before what is left.
pub left_none : (left : Option (List ℕ)) → left ≡ option_map (λ (rest : List ℕ). [] ++ rest) left
left_none None = refl
left_none (Some bytes) = refl

pub left_more : (left next later : Option (List ℕ)) (a b : List ℕ) → left ≡ option_map (λ (rest : List ℕ). a ++ rest) next
    → next ≡ option_map (λ (rest : List ℕ). b ++ rest) later → left ≡ option_map (λ (rest : List ℕ). (a ++ b) ++ rest) later
left_more left next None a b first second = first ∙ ap (option_map (λ (rest : List ℕ). a ++ rest)) second
left_more left next (Some rest) a b first second =
    first ∙ ap (option_map (λ (l : List ℕ). a ++ l)) second ∙ ap (λ (l : List ℕ). Some l) (sym (append_assoc a b rest))

-- ---- the course

-- The bytes that are left, where they are told, or these.
abbrev pub rest_in : (other : List ℕ) → Option (List ℕ) → List ℕ
rest_in other None = other
rest_in other (Some bytes) = bytes

take-append : (a b : List ℕ) (n : ℕ) → take (length a + n) (a ++ b) ≡ a ++ take n b
take-append [] b n = ap (λ (k : ℕ). take k b) (none n)
  where
    none : (n : ℕ) → 0 + n ≡ n
    none n = omega arith
take-append (x ∷ a) b n = ap (λ (k : ℕ). take k (x ∷ (a ++ b))) (shift (length a) n) ∙ ap (λ (l : List ℕ). x ∷ l) (take-append a b n)
  where
    shift : (k n : ℕ) → suc k + n ≡ suc (k + n)
    shift k n = omega arith

pub is_stream : (left then_ : Option (List ℕ)) (front other : List ℕ) → left ≡ option_map (λ (rest : List ℕ). front ++ rest) then_
    → ForSome left (λ bytes. front ++ rest_in other then_ ≡ bytes)
is_stream left None front other is bytes told = absurd (none-some bytes (sym is ∙ told))
is_stream left (Some rest) front other is bytes told = same_Some (front ++ rest) bytes (sym is ∙ told)

pub cut_is : (pieces : List (List ℕ)) (rest : List ℕ) (room : ℕ) → room + length (whole_of pieces) ≡ most_stream
    → whole_of (pieces ++ singles (take room rest)) ≡ take most_stream (whole_of pieces ++ rest)
cut_is pieces rest room size =
    whole-append pieces (singles (take room rest)) ∙ ap (λ (l : List ℕ). whole_of pieces ++ l) (whole-singles (take room rest))
    ∙ sym (take-append (whole_of pieces) rest room)
    ∙ ap (λ (k : ℕ). take k (whole_of pieces ++ rest)) (swap (length (whole_of pieces)) room ∙ size)
  where
    swap : (i j : ℕ) → i + j ≡ j + i
    swap i j = omega arith

module _ (left then_ : Option (List ℕ)) (pieces : List (List ℕ)) (room : ℕ) (other : List ℕ) (small : AreSmall pieces)
    (size : room + length (whole_of pieces) ≡ most_stream) (is : left ≡ option_map (λ (rest : List ℕ). whole_of pieces ++ rest) then_) where
  -- The pieces of the rest, which are not read.
  abbrev pub unread : List (List ℕ)
  unread = singles (take room (rest_in other then_))

  abbrev pub course : Course left
  course = record {
    stream = whole_of pieces ++ rest_in other then_;
    is = is_stream left then_ (whole_of pieces) other is;
    pieces = pieces ++ unread;
    cut = cut_is pieces (rest_in other then_) room size;
    small = small-append pieces unread small (small-singles (take room (rest_in other then_)));
  }
