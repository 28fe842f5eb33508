-- What a read gives of some blocks, each block in its place in the buffer.
use Rattle.std.proofs.Common.{◌≡◌, ℕ, zero, suc, ◌+◌, ◌-◌, ◌*◌, ◌<◌, ◌≤◌, Bool, true, false, if◌then◌else◌, List, [], ◌++◌, length, take, drop, refl, sym, ◌∙◌, ap, subst, arith, append_assoc, length-append}
use Rattle.std.specs.Str.{bytes_eq}
use Rattle.std.proofs.Math.Seq.{take-append_seam, drop-append-add}
use Rattle.image_model.specs.Cells.{Cell}
use Rattle.device_model.specs.History.{Tagger}
use Rattle.device_model.specs.Reply.{Reply, Bytes, TagFault, block_reply, bytes_of, good_bytes, good_with, join_replies, read_reply}
use Rattle.mirror_calls.specs.Leg.{HasBlocks, bytes_at}

-- ---- replies

-- All bytes are those of both parts,
record AreBoth (first rest : Reply) (bytes : List ℕ) : Type 0 where
  front : List ℕ
  back : List ℕ
  first_is : first ≡ Bytes front
  rest_is : rest ≡ Bytes back
  all : bytes ≡ front ++ back

both : (first rest : Reply) (bytes : List ℕ) → join_replies first rest ≡ Bytes bytes → AreBoth first rest bytes
both (TagFault b stored computed) rest bytes same = absurd (cc)
both (Bytes x) (TagFault b stored computed) bytes same = absurd (cc)
both (Bytes x) (Bytes y) bytes same = record { front = x; back = y; first_is = refl; rest_is = refl; all = ap bytes_of (sym same) }

-- and a fault is that of the first, or of what comes behind bytes.
data FaultIn (first rest : Reply) (block : ℕ) (stored computed : List ℕ) : Type 0 where
  Here : first ≡ TagFault block stored computed → FaultIn first rest block stored computed
  Behind : (front : List ℕ) → first ≡ Bytes front → rest ≡ TagFault block stored computed → FaultIn first rest block stored computed

fault_in : (first rest : Reply) (block : ℕ) (stored computed : List ℕ) → join_replies first rest ≡ TagFault block stored computed
    → FaultIn first rest block stored computed
fault_in (TagFault b s c) rest block stored computed same = Here same
fault_in (Bytes x) (TagFault b s c) block stored computed same = Behind x refl same
fault_in (Bytes x) (Bytes y) block stored computed same = absurd (cc)

module _ (tag : Tagger) where
  abbrev reply_by : Bool → ℕ → Cell → Reply
  reply_by good b cell = if good then Bytes cell.bytes else TagFault b cell.tag (tag b cell.bytes)

  -- What a block gives are its bytes,
  block_bytes : (b : ℕ) (cell : Cell) (bytes : List ℕ) → block_reply tag b cell ≡ Bytes bytes → bytes ≡ cell.bytes
  block_bytes b cell bytes is = by (bytes_eq cell.tag (tag b cell.bytes)) is
    where
      by : (good : Bool) → reply_by good b cell ≡ Bytes bytes → bytes ≡ cell.bytes
      by true same = ap bytes_of (sym same)
      by false same = absurd (cc)

  -- and its fault tells it.
  block_fault : (b : ℕ) (cell : Cell) (block : ℕ) (stored computed : List ℕ) → block_reply tag b cell ≡ TagFault block stored computed → b ≡ block
  block_fault b cell block stored computed is = by (bytes_eq cell.tag (tag b cell.bytes)) is
    where
      by : (good : Bool) → reply_by good b cell ≡ TagFault block stored computed → b ≡ block
      by true same = absurd (cc)
      by false same = cc

-- ---- places in the buffer

module _ (tag : Tagger) (cells : ℕ → Cell) (size : ℕ) where
  none_given : (first : ℕ) (buffer : List ℕ) → HasBlocks tag cells size first 0 buffer
  none_given first buffer = record { each = λ k below. absurd (none k below) }
    where
      none : (k : ℕ) → k < 0 → ⊥
      none k below = omega (arith, below)

  -- A block in front of others.
  in_front : (first count : ℕ) (front buffer : List ℕ) → block_reply tag first (cells first) ≡ Bytes front → length front ≡ size
      → HasBlocks tag cells size (suc first) count buffer → HasBlocks tag cells size first (suc count) (front ++ buffer)
  in_front first count front buffer gives long rest = record { each = at }
    where
      at : (k : ℕ) → k < suc count → block_reply tag (first + k) (cells (first + k)) ≡ Bytes (bytes_at size k (front ++ buffer))
      at zero below =
          let here : first + 0 ≡ first = omega arith in
          let start : 0 ≡ 0 * size = omega arith in
          ap (λ (b : ℕ). block_reply tag b (cells b)) here ∙ gives
          ∙ ap Bytes (sym (take-append_seam front buffer) ∙ ap (λ (n : ℕ). take n (front ++ buffer)) long
          ∙ ap (λ (n : ℕ). take size (drop n (front ++ buffer))) start)
      at (suc k) below =
          let place : first + suc k ≡ suc first + k = omega arith in
          let low : k < count = omega (arith, below) in
          let further : length front + k * size ≡ suc k * size = omega (arith, long) in
          ap (λ (b : ℕ). block_reply tag b (cells b)) place ∙ rest.each k low
          ∙ ap Bytes (ap (take size) (sym (drop-append-add front buffer (k * size)) ∙ ap (λ (n : ℕ). drop n (front ++ buffer)) further))

  -- Each cell of some blocks has so many bytes.
  abbrev pub AreSized : (first count : ℕ) → Type 0
  AreSized first count = (b : ℕ) → first ≤ b → b < first + count → length (cells b).bytes ≡ size

  sized_front : (first count : ℕ) → AreSized first (suc count) → length (cells first).bytes ≡ size
  sized_front first count sized = sized first (omega arith) (omega arith)

  sized_rest : (first count : ℕ) → AreSized first (suc count) → AreSized (suc first) count
  sized_rest first count sized b from below = sized b (omega (arith, from)) (omega (arith, below))

  front_long : (first count : ℕ) (front : List ℕ) → AreSized first (suc count) → block_reply tag first (cells first) ≡ Bytes front → length front ≡ size
  front_long first count front sized gives =
      ap (λ (l : List ℕ). length l) (block_bytes tag first (cells first) front gives) ∙ sized_front first count sized

  -- All blocks were read.
  pub all_given : (first count : ℕ) (buffer : List ℕ) → AreSized first count → read_reply tag cells first count ≡ Bytes buffer
      → HasBlocks tag cells size first count buffer
  all_given first zero buffer sized is = none_given first buffer
  all_given first (suc count) buffer sized is =
      let are = both (block_reply tag first (cells first)) (read_reply tag cells (suc first) count) buffer is in
      subst (λ (l : List ℕ). HasBlocks tag cells size first (suc count) l) (sym are.all)
      (in_front first count are.front are.back are.first_is (front_long first count are.front sized are.first_is)
      (all_given (suc first) count are.back (sized_rest first count sized) are.rest_is))

  pub all_long : (first count : ℕ) (buffer : List ℕ) → AreSized first count → read_reply tag cells first count ≡ Bytes buffer
      → length buffer ≡ count * size
  all_long first zero buffer sized is =
      let none : 0 ≡ 0 * size = omega arith in
      ap (λ (r : Reply). length (bytes_of r)) (sym is) ∙ none
  all_long first (suc count) buffer sized is =
      let are = both (block_reply tag first (cells first)) (read_reply tag cells (suc first) count) buffer is in
      let front : length are.front ≡ size = front_long first count are.front sized are.first_is in
      let back : length are.back ≡ count * size = all_long (suc first) count are.back (sized_rest first count sized) are.rest_is in
      let whole : length buffer ≡ length are.front + length are.back = ap (λ (l : List ℕ). length l) are.all ∙ length-append are.front are.back in
      let more : suc count * size ≡ size + count * size = omega arith in
      omega (arith, front, back, whole, more)

  -- A block is at fault: it is one of them, the blocks before it were read, and nothing else.
  pub record IsFaulty (first count block : ℕ) (stored computed : List ℕ) : Type 0 where
    pub from : first ≤ block
    pub below : block < first + count
    pub reply_ : block_reply tag block (cells block) ≡ TagFault block stored computed
    pub before : (more : List ℕ) → HasBlocks tag cells size first (block - first) (good_bytes tag cells first count ++ more)
    pub long : length (good_bytes tag cells first count) ≡ (block - first) * size

  pub faulty : (first count block : ℕ) (stored computed : List ℕ) → AreSized first count
      → read_reply tag cells first count ≡ TagFault block stored computed → IsFaulty first count block stored computed
  faulty first zero block stored computed sized is = absurd (cc)
  faulty first (suc count) block stored computed sized is =
      elim (fault_in (block_reply tag first (cells first)) (read_reply tag cells (suc first) count) block stored computed is) [
        | Here here ↦
            let own : first ≡ block = block_fault tag first (cells first) block stored computed here in
            let none : 0 ≡ block - first = omega (arith, own) in
            let empty : good_bytes tag cells first (suc count) ≡ [] = ap (λ (r : Reply). good_with r (good_bytes tag cells (suc first) count)) here in
            let bare : 0 ≡ (block - first) * size = nothing size (block - first) none in
            record {
              from = omega (arith, own);
              below = omega (arith, own);
              reply_ = subst (λ (b : ℕ). block_reply tag b (cells b) ≡ TagFault block stored computed) own here;
              before = λ more. subst (λ (n : ℕ). HasBlocks tag cells size first n (good_bytes tag cells first (suc count) ++ more)) none
                  (none_given first (good_bytes tag cells first (suc count) ++ more));
              long = ap (λ (l : List ℕ). length l) empty ∙ bare;
            }
        | Behind front gives rest ↦
            let later = faulty (suc first) count block stored computed (sized_rest first count sized) rest in
            let good = good_bytes tag cells (suc first) count in
            let all : good_bytes tag cells first (suc count) ≡ front ++ good = ap (λ (r : Reply). good_with r good) gives in
            let from : suc first ≤ block = later.from in
            let below : block < suc first + count = later.below in
            let n : suc (block - suc first) ≡ block - first = omega (arith, from) in
            let long : length front ≡ size = front_long first count front sized gives in
            let rest_long : length good ≡ (block - suc first) * size = later.long in
            let product : suc (block - suc first) * size ≡ size + (block - suc first) * size = omega arith in
            record {
              from = omega (arith, from);
              below = omega (arith, below);
              reply_ = later.reply_;
              before = λ more.
                  subst (λ (m : ℕ). HasBlocks tag cells size first m (good_bytes tag cells first (suc count) ++ more)) n
                  (subst (λ (l : List ℕ). HasBlocks tag cells size first (suc (block - suc first)) l)
                  (sym (ap (λ (l : List ℕ). l ++ more) all ∙ append_assoc front good more))
                  (in_front first (block - suc first) front (good ++ more) gives long (later.before more)));
              long =
                  ap (λ (l : List ℕ). length l) all ∙ length-append front good
                  ∙ (let sum : length front + length good ≡ suc (block - suc first) * size = omega (arith, long, rest_long, product) in sum)
                  ∙ ap (λ (m : ℕ). m * size) n;
            }
      ]
    where
      nothing : (size n : ℕ) → 0 ≡ n → 0 ≡ n * size
      nothing size n none =
          let start : 0 ≡ 0 * size = omega arith in
          start ∙ ap (λ (m : ℕ). m * size) none

-- ---- the same cells

module _ (tag : Tagger) (cells others : ℕ → Cell) (size : ℕ) (same : (b : ℕ) → cells b ≡ others b) where
  -- They give the same before the first fault,
  pub good_bytes-same : (first count : ℕ) → good_bytes tag cells first count ≡ good_bytes tag others first count
  good_bytes-same first zero = refl
  good_bytes-same first (suc count) =
      ap (λ (cell : Cell). good_with (block_reply tag first cell) (good_bytes tag cells (suc first) count)) (same first)
      ∙ ap (good_with (block_reply tag first (others first))) (good_bytes-same (suc first) count)

  -- and the same blocks.
  pub HasBlocks-same : (first count : ℕ) (buffer : List ℕ) → HasBlocks tag cells size first count buffer → HasBlocks tag others size first count buffer
  HasBlocks-same first count buffer has = record {
    each = λ k below. ap (λ (cell : Cell). block_reply tag (first + k) cell) (sym (same (first + k))) ∙ has.each k below;
  }
