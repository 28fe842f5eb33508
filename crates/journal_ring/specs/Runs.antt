-- Runs of the sections in memory, one behind the other.
use Rattle.std.specs.Prelude.{◌≡◌, ℕ, ◌+◌, ◌*◌, ◌^◌, ◌≤◌, List, [], ◌∷◌, ◌++◌, length, Option, Some, None, ⊤, slice_index_or, slice_set}
use Rattle.image_model.specs.Geometry.{Geometry, Shape, section_entries, section_sectors, IsGeometry}
use Rattle.image_model.specs.Section.{Entry}
use Rattle.image_model.specs.Sectors.{piece}
use Rattle.sector_pool.specs.Run.{with_bytes, Piece, Touches}
use Rattle.journal_section.specs.Pieces.{with_pieces, HasPieces, PutsEntry}

-- The bytes of some runs, in their order.
abbrev pub bytes_of : List Piece → List ℕ
bytes_of [] = []
bytes_of (run ∷ runs) = run.bytes ++ bytes_of runs

-- The second run lies in the first one's region, right behind it.
abbrev pub IsNext : Piece → Piece → Type 0
IsNext run next = (next.region ≡ run.region) × Touches run next

-- Each run is followed by the next in the list.
abbrev pub FollowOn : List Piece → Type 0
FollowOn [] = ⊤
FollowOn (run ∷ []) = ⊤
FollowOn (run ∷ next ∷ runs) = IsNext run next × FollowOn (next ∷ runs)

-- Each run has so many bytes.
abbrev pub HaveSize : ℕ → List Piece → Type 0
HaveSize size [] = ⊤
HaveSize size (run ∷ runs) = (length run.bytes ≡ size) × HaveSize size runs

-- All sections are one run.
pub record IsOne (before behind : List Piece) : Type 0 where
  pub all : Piece
  pub before_are : before ≡ all ∷ []
  pub none_behind : behind ≡ []

-- A section is cut: its metadata sectors and the data sectors of each entry are runs of their own, between what lies
-- before it and what lies behind it.
pub record IsCut (shape : Shape) (section : ℕ) (before behind : List Piece) : Type 0 where
  pub front : Piece
  pub metadata : Piece
  pub entries : List Piece
  pub back : Piece
  pub before_are : before ≡ front ∷ metadata ∷ []
  pub behind_are : behind ≡ entries ++ back ∷ []
  pub front_size : length front.bytes ≡ 512 * (section * section_sectors shape)
  pub metadata_size : length metadata.bytes ≡ 4096
  pub count_is : length entries ≡ section_entries shape
  pub sizes : HaveSize (512 * shape.spb) entries

-- The runs where this section is cut, or none is.
abbrev pub IsAsCut : Shape → Option ℕ → List Piece → List Piece → Type 0
IsAsCut shape None before behind = IsOne before behind
IsAsCut shape (Some section) before behind = IsCut shape section before behind

-- A run was cut into so many of this many sectors, which are put behind the runs that were there, and a rest.
pub record CutsUp (each count : ℕ) (old new : List Piece) (run rest : Piece) : Type 0 where
  pub entries : List Piece
  pub new_are : new ≡ old ++ entries
  pub count_is : length entries ≡ count
  pub sizes : HaveSize (512 * each) entries
  pub follow : (prior : List Piece) → FollowOn (prior ++ (old ++ run ∷ []))
      → FollowOn (prior ++ (new ++ rest ∷ []))
  pub bytes_are : bytes_of (new ++ rest ∷ []) ≡ bytes_of (old ++ run ∷ [])

-- ---- the sections, as a contract sees them

-- Their bytes, and which of them is cut.
pub record Sections : Type 0 where
  pub geometry : Geometry
  pub bytes : List ℕ
  pub cut : Option ℕ

-- The runs are those of a journal's sections, and there is room for as many as a cut makes.
pub record IsPieces (g : Geometry) (before behind : List Piece) (capacity_before capacity_behind : ℕ) (cut : Option ℕ)
    : Type 0 where
  pub geometry : IsGeometry g (2 ^ 48)
  pub size : length (bytes_of (before ++ behind)) ≡ 512 * (g.sections * section_sectors g.shape)
  pub room_before : 2 ≤ capacity_before
  pub room_behind : section_entries g.shape + 1 ≤ capacity_behind
  pub follow : FollowOn (before ++ behind)
  pub as_cut : IsAsCut g.shape cut before behind

-- The sections that these runs are.
abbrev pub sections_of : Geometry → List Piece → List Piece → Option ℕ → Sections
sections_of g before behind cut = record { geometry = g; bytes = bytes_of (before ++ behind); cut = cut }

-- The sections where this one is cut, or none is.
abbrev pub with_cut : Sections → Option ℕ → Sections
with_cut sections cut = record { geometry = sections.geometry; bytes = sections.bytes; cut = cut }

-- The bytes of so many sections from one on.
abbrev pub batch_in : Sections → ℕ → ℕ → List ℕ
batch_in sections from count =
    piece sections.bytes (512 * (from * section_sectors sections.geometry.shape))
    (512 * (count * section_sectors sections.geometry.shape))

-- Entry n is put by other bytes in the run of the metadata sectors, the second of those before the entries, and in the run
-- of its data sectors. No other run changes.
pub record PutsInRuns (shape : Shape) (n : ℕ) (entry : Entry) (before behind new_before new_behind : List Piece)
    : Type 0 where
  pub meta : List ℕ
  pub parts : List ℕ
  pub meta_size : length meta ≡ 4096
  pub parts_size : length parts ≡ 512 * shape.spb
  pub before_are : (none : Piece) → new_before ≡ slice_set before 1 (with_bytes (slice_index_or before 1 none) meta)
  pub behind_are : (none : Piece) → new_behind ≡ slice_set behind n (with_bytes (slice_index_or behind n none) parts)
  pub puts : (none : Piece) → (bytes : List ℕ)
      → HasPieces shape n (slice_index_or before 1 none).bytes (slice_index_or behind n none).bytes bytes
      → PutsEntry shape n entry bytes (with_pieces shape n meta parts bytes)
