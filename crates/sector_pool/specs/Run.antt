-- What a contract sees of a run of a region's sectors.
use Rattle.std.specs.Prelude.{◌≡◌, ℕ, ◌+◌, ◌-◌, ◌*◌, ◌/◌, ◌%◌, ◌<◌, ◌≤◌, ◌^◌, List, ◌++◌, length, take, drop}
use Rattle.std.specs.Borrow.{MutBor}

-- A place in memory: a block, and a byte in it.
abbrev pub Address : Type 0
Address = ℕ × ℕ

-- The address n bytes on.
abbrev pub bytes_on : ℕ → Address → Address
bytes_on n a = (a.0, a.1 + n)

-- The sectors of a region from a place on. A region is known by where it begins in memory.
pub record Piece : Type 0 where
  pub region : Address
  pub place : ℕ
  pub bytes : List ℕ

-- How many sectors a piece has.
abbrev pub sectors_of : Piece → ℕ
sectors_of piece = length piece.bytes / 512

-- The first k sectors of a piece.
abbrev pub front_of : ℕ → Piece → Piece
front_of k piece = record { region = piece.region; place = piece.place; bytes = take (k * 512) piece.bytes }

-- The sectors of a piece behind the first k.
abbrev pub back_of : ℕ → Piece → Piece
back_of k piece = record { region = piece.region; place = piece.place + k; bytes = drop (k * 512) piece.bytes }

-- The second piece begins where the first ends.
abbrev pub Touches : Piece → Piece → Type 0
Touches front back = back.place ≡ front.place + sectors_of front

-- Two pieces that touch, as one.
abbrev pub both_of : Piece → Piece → Piece
both_of front back = record { region = front.region; place = front.place; bytes = front.bytes ++ back.bytes }

-- A piece with other bytes.
abbrev pub with_bytes : Piece → List ℕ → Piece
with_bytes piece bytes = record { region = piece.region; place = piece.place; bytes = bytes }

-- A slice, as the sectors of its region from a place on.
abbrev pub piece_at : ℕ → MutBor (List ℕ) → Piece
piece_at place slice = record {
  region = (slice.ref_ptr.0, slice.ref_ptr.1 - place * 512);
  place = place;
  bytes = slice.now;
}

-- The slice has whole sectors, and stands behind the sectors before it.
pub record IsPiece (place : ℕ) (slice : MutBor (List ℕ)) : Type 0 where
  pub whole : length slice.now % 512 ≡ 0
  pub behind : place * 512 ≤ slice.ref_ptr.1
  pub room : place * 512 + length slice.now < 2 ^ 63
