-- A section that is cut, and those before and behind it.
use Rattle.std.proofs.Common.{◌≡◌, inl, inr, ℕ, zero, suc, ◌+◌, ◌-◌, ◌*◌, ◌<◌, ◌≤◌, List, [], ◌∷◌, ◌++◌, length, take, drop, get_or, set, refl, sym, ◌∙◌, ap, subst, arith, append_assoc, append-nil, length-append, length-drop, ◌/◌, ◌^◌, Option, Some}
use Rattle.std.proofs.lemmas.Bool.{cases_lt}
use Rattle.std.proofs.lemmas.List.{drop-append-le, drop-drop, drop_at, length-take-le, take-append-le, take_at}
use Rattle.image_model.proofs.Bounds.{has_entries}
use Rattle.image_model.specs.Geometry.{Geometry, Shape, section_entries, section_sectors, IsGeometry}
use Rattle.image_model.specs.Section.{Entry, parts_of, section_bytes}
use Rattle.sector_pool.specs.Run.{with_bytes, Piece}
use Rattle.journal_section.specs.Pieces.{with_piece, with_pieces, HasPieces, PutsEntry}
use Rattle.journal_ring.specs.Runs.{bytes_of, sections_of, FollowOn, HaveSize, IsAsCut, IsCut, IsPieces, PutsInRuns, Sections}
use Rattle.journal_ring.specs.Sections.{ChangesSection}
use Rattle.journal_ring.proofs.RunsLemmas.{bytes_of-append}

-- ---- runs of one size

pub length-sized : (size : ℕ) (runs : List Piece) → HaveSize size runs → length (bytes_of runs) ≡ length runs * size
length-sized size [] sizes = let none : 0 ≡ 0 * size = omega arith in none
length-sized size (run ∷ runs) sizes =
    let more = length-sized size runs sizes.1 in
    let first = sizes.0 in
    omega (arith, length-append run.bytes (bytes_of runs), more, first)

-- The bytes of one of them.
pub sized-at : (size : ℕ) (runs behind : List Piece) (n : ℕ) (none : Piece) → HaveSize size runs → n < length runs
    → take size (drop (n * size) (bytes_of runs)) ≡ (get_or (runs ++ behind) n none).bytes
sized-at size [] behind n none sizes low = absurd (omega arith)
sized-at size (run ∷ runs) behind zero none sizes low =
    ap (λ (k : ℕ). take size (drop k (run.bytes ++ bytes_of runs))) (let begin : 0 * size ≡ 0 = omega arith in begin)
    ∙ take_at run.bytes (bytes_of runs) size sizes.0
sized-at size (run ∷ runs) behind (suc n) none sizes low =
    let first = sizes.0 in
    let more : suc n * size ≡ size + n * size = omega arith in
    ap (λ (k : ℕ). take size (drop k (run.bytes ++ bytes_of runs))) more
    ∙ ap (take size) (sym (drop-drop (n * size) size (run.bytes ++ bytes_of runs)) ∙ ap (drop (n * size)) (drop_at run.bytes (bytes_of runs) size first))
    ∙ sized-at size runs behind n none sizes.1 (omega arith)

pub size-at : (size : ℕ) (runs behind : List Piece) (n : ℕ) (none : Piece) → HaveSize size runs → n < length runs
    → length (get_or (runs ++ behind) n none).bytes ≡ size
size-at size [] behind n none sizes low = absurd (omega arith)
size-at size (run ∷ runs) behind zero none sizes low = sizes.0
size-at size (run ∷ runs) behind (suc n) none sizes low = size-at size runs behind n none sizes.1 (omega arith)

-- One of them has other bytes.
pub set-before : (runs behind : List Piece) (n : ℕ) (run : Piece) → n < length runs → set (runs ++ behind) n run ≡ set runs n run ++ behind
set-before [] behind n run low = absurd (omega arith)
set-before (first ∷ runs) behind zero run low = refl
set-before (first ∷ runs) behind (suc n) run low = ap (λ (l : List Piece). first ∷ l) (set-before runs behind n run (omega arith))

pub HaveSize-set : (size : ℕ) (runs : List Piece) (n : ℕ) (run : Piece) → HaveSize size runs → length run.bytes ≡ size → HaveSize size (set runs n run)
HaveSize-set size [] n run sizes is = tt
HaveSize-set size (first ∷ runs) zero run sizes is = (is, sizes.1)
HaveSize-set size (first ∷ runs) (suc n) run sizes is = (sizes.0, HaveSize-set size runs n run sizes.1 is)

pub length-set_run : (runs : List Piece) (n : ℕ) (run : Piece) → length (set runs n run) ≡ length runs
length-set_run [] n run = refl
length-set_run (first ∷ runs) zero run = refl
length-set_run (first ∷ runs) (suc n) run = ap (λ (k : ℕ). suc k) (length-set_run runs n run)

pub bytes_of-set : (size : ℕ) (runs : List Piece) (n : ℕ) (run : Piece) → HaveSize size runs → length run.bytes ≡ size → n < length runs
    → bytes_of (set runs n run) ≡ with_piece (n * size) run.bytes (bytes_of runs)
bytes_of-set size [] n run sizes is low = absurd (omega arith)
bytes_of-set size (first ∷ runs) zero run sizes is low =
    let one = sizes.0 in
    let long : length first.bytes ≡ 0 + length run.bytes = omega (arith, one, is) in
    ap (λ (xs : List ℕ). run.bytes ++ xs) (sym (drop_at first.bytes (bytes_of runs) (0 + length run.bytes) long))
    ∙ ap (λ (k : ℕ). with_piece k run.bytes (first.bytes ++ bytes_of runs)) (let begin : 0 ≡ 0 * size = omega arith in begin)
bytes_of-set size (first ∷ runs) (suc n) run sizes is low =
    let more : size + n * size ≡ suc n * size = omega arith in
    let one = sizes.0 in
    let rest : List ℕ = bytes_of runs in
    let begin : first.bytes ++ take (n * size) rest ≡ take (suc n * size) (first.bytes ++ rest) =
    sym (ap (λ (k : ℕ). take k (first.bytes ++ rest)) (sym more) ∙ take-more first.bytes rest size (n * size) one) in
    let end : drop (n * size + length run.bytes) rest ≡ drop (suc n * size + length run.bytes) (first.bytes ++ rest) =
    sym (ap (λ (k : ℕ). drop k (first.bytes ++ rest)) (let e : suc n * size + length run.bytes ≡ size + (n * size + length run.bytes) = omega arith in e)
    ∙ sym (drop-drop (n * size + length run.bytes) size (first.bytes ++ rest))
    ∙ ap (drop (n * size + length run.bytes)) (drop_at first.bytes rest size one)) in
    ap (λ (xs : List ℕ). first.bytes ++ xs) (bytes_of-set size runs n run sizes.1 is (omega arith))
    ∙ sym (append_assoc first.bytes (take (n * size) rest) (run.bytes ++ drop (n * size + length run.bytes) rest))
    ∙ ap (λ (xs : List ℕ). xs ++ (run.bytes ++ drop (n * size + length run.bytes) rest)) begin
    ∙ ap (λ (xs : List ℕ). take (suc n * size) (first.bytes ++ rest) ++ (run.bytes ++ xs)) end
  where
    take-more : (xs ys : List ℕ) (k more : ℕ) → length xs ≡ k → take (k + more) (xs ++ ys) ≡ xs ++ take more ys
    take-more [] ys k more is = ap (λ (n : ℕ). take n ys) (let e : k + more ≡ more = omega (arith, is) in e)
    take-more (x ∷ xs) ys zero more is = absurd (omega arith)
    take-more (x ∷ xs) ys (suc k) more is =
        ap (λ (n : ℕ). take n (x ∷ (xs ++ ys))) (let e : suc k + more ≡ suc (k + more) = omega arith in e)
        ∙ ap (λ (l : List ℕ). x ∷ l) (take-more xs ys k more (omega (arith, is)))

-- Runs follow on if one of them has other bytes, as many.
pub FollowOn-set : (runs : List Piece) (n : ℕ) (none : Piece) (bytes : List ℕ) → length bytes ≡ length (get_or runs n none).bytes
    → FollowOn runs → FollowOn (set runs n (with_bytes (get_or runs n none) bytes))
FollowOn-set [] n none bytes is follow = tt
FollowOn-set (run ∷ []) zero none bytes is follow = tt
FollowOn-set (run ∷ []) (suc n) none bytes is follow = tt
FollowOn-set (run ∷ next ∷ runs) zero none bytes is follow =
    ((follow.0.0, follow.0.1 ∙ ap (λ (k : ℕ). run.place + k / 512) (sym is)), follow.1)
FollowOn-set (run ∷ next ∷ runs) (suc zero) none bytes is follow =
    ((follow.0.0, follow.0.1), FollowOn-set (next ∷ runs) zero none bytes is follow.1)
FollowOn-set (run ∷ next ∷ runs) (suc (suc n)) none bytes is follow =
    (follow.0, FollowOn-set (next ∷ runs) (suc n) none bytes is follow.1)

-- ---- the sections, where one is cut

module _ (s : Shape) (section : ℕ) (before behind : List Piece) (cut : IsCut s section before behind)
    (width : section_sectors s ≡ 8 + section_entries s * s.spb) where
  abbrev parts : List ℕ
  parts = bytes_of cut.entries

  abbrev own : List ℕ
  own = cut.metadata.bytes ++ parts

  pub all_bytes : bytes_of (before ++ behind) ≡ cut.front.bytes ++ (own ++ cut.back.bytes)
  all_bytes =
      ap (λ (l : List Piece). bytes_of (l ++ behind)) cut.before_are
      ∙ ap (λ (l : List Piece). cut.front.bytes ++ (cut.metadata.bytes ++ bytes_of l)) cut.behind_are
      ∙ ap (λ (xs : List ℕ). cut.front.bytes ++ (cut.metadata.bytes ++ xs)) (bytes_of-append cut.entries (cut.back ∷ []) ∙ ap (λ (xs : List ℕ). parts ++ xs) (append-nil cut.back.bytes))
      ∙ ap (λ (xs : List ℕ). cut.front.bytes ++ xs) (sym (append_assoc cut.metadata.bytes parts cut.back.bytes))

  pub own_size : length own ≡ 512 * section_sectors s
  own_size =
      let long = length-sized (512 * s.spb) cut.entries cut.sizes in
      let count : length cut.entries * (512 * s.spb) ≡ 512 * (section_entries s * s.spb) = ap (λ (n : ℕ). n * (512 * s.spb)) cut.count_is ∙ omega arith in
      omega (arith, length-append cut.metadata.bytes parts, cut.metadata_size, width)

  -- It has its own runs' bytes,
  pub section-own : section_bytes s (bytes_of (before ++ behind)) section ≡ own
  section-own =
      ap (λ (xs : List ℕ). section_bytes s xs section) all_bytes
      ∙ ap (take (512 * section_sectors s)) (drop_at cut.front.bytes (own ++ cut.back.bytes) (512 * (section * section_sectors s)) cut.front_size)
      ∙ take_at own cut.back.bytes (512 * section_sectors s) own_size

  -- those before it lie in the front,
  pub section-before : (i : ℕ) → i < section → section_bytes s (bytes_of (before ++ behind)) i ≡ section_bytes s cut.front.bytes i
  section-before i low =
      let size = cut.front_size in
      let k : ℕ = section - i - 1 in
      let scaled : section * section_sectors s ≡ (i + 1 + k) * section_sectors s = ap (λ (n : ℕ). n * section_sectors s) (let e : section ≡ i + 1 + k = omega arith in e) in
      let from : ℕ = 512 * (i * section_sectors s) in
      let enough : from ≤ length cut.front.bytes = omega arith in
      ap (λ (xs : List ℕ). section_bytes s xs i) all_bytes
      ∙ ap (take (512 * section_sectors s)) (drop-append-le from cut.front.bytes (own ++ cut.back.bytes) enough)
      ∙ take-append-le (512 * section_sectors s) (drop from cut.front.bytes) (own ++ cut.back.bytes) (omega (arith, length-drop from cut.front.bytes))

  -- and those behind it in the back.
  pub section-behind : (i : ℕ) → section < i → section_bytes s (bytes_of (before ++ behind)) i ≡ section_bytes s cut.back.bytes (i - section - 1)
  section-behind i high =
      let size = cut.front_size in
      let k : ℕ = i - section - 1 in
      let scaled : i * section_sectors s ≡ (section + 1 + k) * section_sectors s = ap (λ (n : ℕ). n * section_sectors s) (let e : i ≡ section + 1 + k = omega arith in e) in
      let end : ℕ = length (cut.front.bytes ++ own) in
      let long = length-append cut.front.bytes own in
      let place : 512 * (i * section_sectors s) ≡ end + 512 * (k * section_sectors s) = omega (arith, own_size) in
      let whole : bytes_of (before ++ behind) ≡ (cut.front.bytes ++ own) ++ cut.back.bytes = all_bytes ∙ sym (append_assoc cut.front.bytes own cut.back.bytes) in
      ap (λ (xs : List ℕ). section_bytes s xs i) whole
      ∙ ap (λ (n : ℕ). take (512 * section_sectors s) (drop n ((cut.front.bytes ++ own) ++ cut.back.bytes))) place
      ∙ ap (take (512 * section_sectors s))
      (sym (drop-drop (512 * (k * section_sectors s)) end ((cut.front.bytes ++ own) ++ cut.back.bytes))
      ∙ ap (drop (512 * (k * section_sectors s))) (drop_at (cut.front.bytes ++ own) cut.back.bytes end refl))

  pub back-size : length (bytes_of (before ++ behind)) ≡ 512 * ((section + 1) * section_sectors s) + length cut.back.bytes
  back-size =
      let size = cut.front_size in
      omega (arith, ap length all_bytes, length-append cut.front.bytes (own ++ cut.back.bytes), length-append own cut.back.bytes, own_size)

  -- Its metadata sectors and the data sectors of an entry.
  pub metadata-own : cut.metadata.bytes ≡ take 4096 (section_bytes s (bytes_of (before ++ behind)) section)
  metadata-own = sym (ap (take 4096) section-own ∙ take_at cut.metadata.bytes parts 4096 cut.metadata_size)

  pub parts-own : (n : ℕ) (none : Piece) → n < section_entries s → (get_or behind n none).bytes ≡ parts_of s (section_bytes s (bytes_of (before ++ behind)) section) n
  parts-own n none low =
      let count = cut.count_is in
      let place : 512 * (8 + n * s.spb) ≡ 4096 + n * (512 * s.spb) = omega arith in
      sym (ap (λ (xs : List ℕ). parts_of s xs n) section-own
      ∙ ap (λ (k : ℕ). take (512 * s.spb) (drop k own)) place
      ∙ ap (take (512 * s.spb)) (sym (drop-drop (n * (512 * s.spb)) 4096 own) ∙ ap (drop (n * (512 * s.spb))) (drop_at cut.metadata.bytes parts 4096 cut.metadata_size))
      ∙ sized-at (512 * s.spb) cut.entries (cut.back ∷ []) n none cut.sizes (omega arith)
      ∙ ap (λ (l : List Piece). (get_or l n none).bytes) (sym cut.behind_are))

-- ---- an entry is put

pub record IsPut (s : Shape) (section n : ℕ) (entry : Entry) (before behind new_before new_behind : List Piece) : Type 0 where
  pub cut : IsCut s section new_before new_behind
  pub follow : FollowOn (new_before ++ new_behind)
  pub put : PutsEntry s n entry (section_bytes s (bytes_of (before ++ behind)) section) (section_bytes s (bytes_of (new_before ++ new_behind)) section)
  pub others : ChangesSection s section (bytes_of (before ++ behind)) (bytes_of (new_before ++ new_behind))

pub put_from : (s : Shape) (section n : ℕ) (entry : Entry) (before behind new_before new_behind : List Piece) → IsCut s section before behind
    → section_sectors s ≡ 8 + section_entries s * s.spb → n < section_entries s → FollowOn (before ++ behind)
    → PutsInRuns s n entry before behind new_before new_behind → IsPut s section n entry before behind new_before new_behind
put_from s section n entry before behind new_before new_behind cut width low follow puts =
    record { cut = now; follow = follows; put = put; others = changes }
  where
    size : ℕ
    size = 512 * s.spb

    none : Piece
    none = cut.front

    here : n < length cut.entries
    here = let count = cut.count_is in omega arith

    old_run : Piece
    old_run = get_or behind n none

    metadata_now : Piece
    metadata_now = with_bytes cut.metadata puts.meta

    run_now : Piece
    run_now = with_bytes old_run puts.parts

    before_is : new_before ≡ cut.front ∷ metadata_now ∷ []
    before_is = puts.before_are none ∙ ap (λ (l : List Piece). set l 1 (with_bytes (get_or l 1 none) puts.meta)) cut.before_are

    behind_is : new_behind ≡ set cut.entries n run_now ++ cut.back ∷ []
    behind_is = puts.behind_are none ∙ ap (λ (l : List Piece). set l n run_now) cut.behind_are ∙ set-before cut.entries (cut.back ∷ []) n run_now here

    now : IsCut s section new_before new_behind
    now = record {
      front = cut.front;
      metadata = metadata_now;
      entries = set cut.entries n run_now;
      back = cut.back;
      before_are = before_is;
      behind_are = behind_is;
      front_size = cut.front_size;
      metadata_size = puts.meta_size;
      count_is = length-set_run cut.entries n run_now ∙ cut.count_is;
      sizes = HaveSize-set size cut.entries n run_now cut.sizes puts.parts_size;
    }

    run_size : length old_run.bytes ≡ size
    run_size = ap (λ (l : List Piece). length (get_or l n none).bytes) cut.behind_are ∙ size-at size cut.entries (cut.back ∷ []) n none cut.sizes here

    follows : FollowOn (new_before ++ new_behind)
    follows =
        let whole : FollowOn (cut.front ∷ cut.metadata ∷ behind) = subst (λ (l : List Piece). FollowOn (l ++ behind)) cut.before_are follow in
        let one : FollowOn (cut.front ∷ metadata_now ∷ behind) = FollowOn-set (cut.front ∷ cut.metadata ∷ behind) 1 none puts.meta (puts.meta_size ∙ sym cut.metadata_size) whole in
        let both : FollowOn (cut.front ∷ metadata_now ∷ set behind n run_now) = FollowOn-set (cut.front ∷ metadata_now ∷ behind) (suc (suc n)) none puts.parts (puts.parts_size ∙ sym run_size) one in
        subst (λ (l : List Piece). FollowOn (l ++ new_behind)) (sym before_is) (subst (λ (l : List Piece). FollowOn (cut.front ∷ metadata_now ∷ l)) (sym (puts.behind_are none)) both)

    old_section : section_bytes s (bytes_of (before ++ behind)) section ≡ cut.metadata.bytes ++ bytes_of cut.entries
    old_section = section-own s section before behind cut width

    has : HasPieces s n cut.metadata.bytes old_run.bytes (section_bytes s (bytes_of (before ++ behind)) section)
    has = record {
      size = ap length old_section ∙ own_size s section before behind cut width;
      meta_are = sym (metadata-own s section before behind cut width);
      parts_are = sym (parts-own s section before behind cut width n none low);
    }

    has_there : HasPieces s n (get_or before 1 none).bytes old_run.bytes (section_bytes s (bytes_of (before ++ behind)) section)
    has_there = subst (λ (l : List Piece). HasPieces s n (get_or l 1 none).bytes old_run.bytes (section_bytes s (bytes_of (before ++ behind)) section)) (sym cut.before_are) has

    new_section : with_pieces s n puts.meta puts.parts (section_bytes s (bytes_of (before ++ behind)) section) ≡ section_bytes s (bytes_of (new_before ++ new_behind)) section
    new_section =
        let place : 512 * (n * s.spb) ≡ n * size = omega arith in
        ap (λ (xs : List ℕ). puts.meta ++ with_piece (512 * (n * s.spb)) puts.parts (drop 4096 xs)) old_section
        ∙ ap (λ (xs : List ℕ). puts.meta ++ with_piece (512 * (n * s.spb)) puts.parts xs) (drop_at cut.metadata.bytes (bytes_of cut.entries) 4096 cut.metadata_size)
        ∙ ap (λ (k : ℕ). puts.meta ++ with_piece k puts.parts (bytes_of cut.entries)) place
        ∙ ap (λ (xs : List ℕ). puts.meta ++ xs) (sym (bytes_of-set size cut.entries n run_now cut.sizes puts.parts_size here))
        ∙ sym (section-own s section new_before new_behind now width)

    put : PutsEntry s n entry (section_bytes s (bytes_of (before ++ behind)) section) (section_bytes s (bytes_of (new_before ++ new_behind)) section)
    put = subst (PutsEntry s n entry (section_bytes s (bytes_of (before ++ behind)) section)) new_section
        (puts.puts none (section_bytes s (bytes_of (before ++ behind)) section) has_there)

    changes : ChangesSection s section (bytes_of (before ++ behind)) (bytes_of (new_before ++ new_behind))
    changes = record {
      size = back-size s section new_before new_behind now width ∙ sym (back-size s section before behind cut width);
      others = λ j other inside. elim (cases_lt j section) [
        | inl low ↦ section-before s section new_before new_behind now width j low ∙ sym (section-before s section before behind cut width j low)
        | inr high ↦
            let above : section < j = omega (arith, other) in
            section-behind s section new_before new_behind now width j above ∙ sym (section-behind s section before behind cut width j above)
      ];
    }

-- ---- for callers

pub width_of : (g : Geometry) → IsGeometry g (2 ^ 48) → section_sectors g.shape ≡ 8 + section_entries g.shape * g.shape.spb
width_of g is = (has_entries g.shape is.spb.0 is.spb.1 is.tag_size.0 is.tag_size.1).sectors_is

-- The section that a contract sees as cut is.
pub cut_here : (g : Geometry) (before behind : List Piece) (capacity_before capacity_behind : ℕ) (cut : Option ℕ) (view : Sections) (i : ℕ)
    → IsPieces g before behind capacity_before capacity_behind cut → sections_of g before behind cut ≡ view → view.cut ≡ Some i
    → IsCut g.shape i before behind
cut_here g before behind capacity_before capacity_behind cut view i is told cut_is =
    subst (λ (o : Option ℕ). IsAsCut g.shape o before behind) (ap (λ (x : Sections). x.cut) told ∙ cut_is) is.as_cut

-- What a put needs of the runs.
pub parts_there : (s : Shape) (section n : ℕ) (before behind : List Piece) → IsCut s section before behind → n < section_entries s
    → (none : Piece) → length (get_or behind n none).bytes ≡ 512 * s.spb
parts_there s section n before behind cut low none =
    let count = cut.count_is in
    ap (λ (l : List Piece). length (get_or l n none).bytes) cut.behind_are ∙ size-at (512 * s.spb) cut.entries (cut.back ∷ []) n none cut.sizes (omega arith)

-- An entry is put.
pub record IsPutThere (view : Sections) (g : Geometry) (n : ℕ) (entry : Entry) (new_before new_behind : List Piece) (capacity_before capacity_behind : ℕ)
    (cut : Option ℕ) : Type 0 where
  pub pieces : IsPieces g new_before new_behind capacity_before capacity_behind cut
  pub put : (i : ℕ) → view.cut ≡ Some i → PutsEntry view.geometry.shape n entry (section_bytes view.geometry.shape view.bytes i)
      (section_bytes view.geometry.shape (bytes_of (new_before ++ new_behind)) i)
  pub others : (i : ℕ) → view.cut ≡ Some i → ChangesSection view.geometry.shape i view.bytes (bytes_of (new_before ++ new_behind))

pub put_there : (g : Geometry) (before behind new_before new_behind : List Piece) (capacity_before capacity_behind now_before now_behind : ℕ) (cut : Option ℕ)
    (view : Sections) (s : Shape) (n : ℕ) (entry : Entry) → IsPieces g before behind capacity_before capacity_behind cut → sections_of g before behind cut ≡ view
    → ((i : ℕ) × (view.cut ≡ Some i)) → s ≡ g.shape → n < section_entries view.geometry.shape → PutsInRuns s n entry before behind new_before new_behind
    → now_before ≡ capacity_before → now_behind ≡ capacity_behind → IsPutThere view g n entry new_before new_behind now_before now_behind cut
put_there g before behind new_before new_behind capacity_before capacity_behind now_before now_behind cut view s n entry is told some shape_is low puts room_before room_behind =
    let inside : n < section_entries g.shape = subst (λ (x : Sections). n < section_entries x.geometry.shape) (sym told) low in
    let all : (i : ℕ) → view.cut ≡ Some i → IsPut g.shape i n entry before behind new_before new_behind =
    λ i here. put_from g.shape i n entry before behind new_before new_behind (cut_here g before behind capacity_before capacity_behind cut view i is told here)
    (width_of g is.geometry) inside is.follow (subst (λ (t : Shape). PutsInRuns t n entry before behind new_before new_behind) shape_is puts) in
    let one = all some.0 some.1 in
    record {
      pieces = record {
        geometry = is.geometry;
        size = one.others.size ∙ is.size;
        room_before = rw room_before is.room_before;
        room_behind = rw room_behind is.room_behind;
        follow = one.follow;
        as_cut = subst (λ (o : Option ℕ). IsAsCut g.shape o new_before new_behind) (sym (ap (λ (x : Sections). x.cut) told ∙ some.1)) one.cut;
      };
      put = λ i here. subst (λ (x : Sections). PutsEntry x.geometry.shape n entry (section_bytes x.geometry.shape x.bytes i)
          (section_bytes x.geometry.shape (bytes_of (new_before ++ new_behind)) i)) told (all i here).put;
      others = λ i here. subst (λ (x : Sections). ChangesSection x.geometry.shape i x.bytes (bytes_of (new_before ++ new_behind))) told (all i here).others;
    }

back_at : (runs : List Piece) (back none : Piece) → get_or (runs ++ back ∷ []) (length runs) none ≡ back
back_at [] back none = refl
back_at (run ∷ runs) back none = back_at runs back none

-- A section behind the one that is cut lies in the last run.
pub behind_shown : (g : Geometry) (before behind : List Piece) (capacity_before capacity_behind : ℕ) (o : Option ℕ) (view : Sections) (cut i entries : ℕ)
    (s : Shape) (run : Piece) (bytes : List ℕ) → IsPieces g before behind capacity_before capacity_behind o → sections_of g before behind o ≡ view
    → o ≡ Some cut → s ≡ g.shape → entries ≡ section_entries s → cut < i → i < view.geometry.sections
    → run ≡ get_or behind entries run → bytes ≡ run.bytes
    → (512 * ((i - cut - 1 + 1) * section_sectors s) ≤ length bytes)
    × (section_bytes s bytes (i - cut - 1) ≡ section_bytes view.geometry.shape view.bytes i)
behind_shown g before behind capacity_before capacity_behind o view cut i entries s run bytes is told cut_is shape_is entries_are high low run_is bytes_are =
    let here : IsCut g.shape cut before behind = subst (λ (x : Option ℕ). IsAsCut g.shape x before behind) cut_is is.as_cut in
    let width = width_of g is.geometry in
    let count : entries ≡ length here.entries = entries_are ∙ ap section_entries shape_is ∙ sym here.count_is in
    let back : run ≡ here.back =
    run_is ∙ ap (λ (n : ℕ). get_or behind n run) count ∙ ap (λ (l : List Piece). get_or l (length here.entries) run) here.behind_are
    ∙ back_at here.entries here.back run in
    let inside : i < g.sections = subst (λ (x : Sections). i < x.geometry.sections) (sym told) low in
    let k : ℕ = g.sections - i - 1 in
    let w : ℕ = section_sectors g.shape in
    let count_all : g.sections * w ≡ (cut + 1 + (i - cut - 1 + 1) + k) * w = ap (λ (n : ℕ). n * w) (let e : g.sections ≡ cut + 1 + (i - cut - 1 + 1) + k = omega arith in e) in
    let all = back-size g.shape cut before behind here width in
    let size = is.size in
    let enough : 512 * ((i - cut - 1 + 1) * w) ≤ length here.back.bytes = omega arith in
    let long : length here.back.bytes ≡ length bytes = ap (λ (r : Piece). length r.bytes) (sym back) ∙ ap length (sym bytes_are) in (
      subst (λ (t : Shape). 512 * ((i - cut - 1 + 1) * section_sectors t) ≤ length bytes) (sym shape_is)
          (subst (λ (n : ℕ). 512 * ((i - cut - 1 + 1) * section_sectors g.shape) ≤ n) long enough),
      ap (λ (t : Shape). section_bytes t bytes (i - cut - 1)) shape_is
          ∙ ap (λ (xs : List ℕ). section_bytes g.shape xs (i - cut - 1)) (bytes_are ∙ ap (λ (r : Piece). r.bytes) back)
          ∙ sym (section-behind g.shape cut before behind here width i high)
          ∙ ap (λ (x : Sections). section_bytes x.geometry.shape x.bytes i) told,
    )

-- What a look at the section that is cut finds.
pub metadata_shown : (g : Geometry) (before behind : List Piece) (capacity_before capacity_behind : ℕ) (o : Option ℕ) (view : Sections) (i : ℕ) (run : Piece)
    → IsPieces g before behind capacity_before capacity_behind o → sections_of g before behind o ≡ view → o ≡ Some i
    → run ≡ get_or before 1 run → run.bytes ≡ take 4096 (section_bytes view.geometry.shape view.bytes i)
metadata_shown g before behind capacity_before capacity_behind o view i run is told cut_is run_is =
    let here : IsCut g.shape i before behind = subst (λ (x : Option ℕ). IsAsCut g.shape x before behind) cut_is is.as_cut in
    ap (λ (r : Piece). r.bytes) (run_is ∙ ap (λ (l : List Piece). get_or l 1 run) here.before_are)
    ∙ metadata-own g.shape i before behind here (width_of g is.geometry)
    ∙ ap (λ (x : Sections). take 4096 (section_bytes x.geometry.shape x.bytes i)) told

pub parts_shown : (g : Geometry) (before behind : List Piece) (capacity_before capacity_behind : ℕ) (o : Option ℕ) (view : Sections) (i n : ℕ) (run : Piece)
    → IsPieces g before behind capacity_before capacity_behind o → sections_of g before behind o ≡ view → o ≡ Some i → n < section_entries view.geometry.shape
    → run ≡ get_or behind n run → run.bytes ≡ parts_of view.geometry.shape (section_bytes view.geometry.shape view.bytes i) n
parts_shown g before behind capacity_before capacity_behind o view i n run is told cut_is low run_is =
    let here : IsCut g.shape i before behind = subst (λ (x : Option ℕ). IsAsCut g.shape x before behind) cut_is is.as_cut in
    ap (λ (r : Piece). r.bytes) run_is
    ∙ parts-own g.shape i before behind here (width_of g is.geometry) n run (subst (λ (x : Sections). n < section_entries x.geometry.shape) (sym told) low)
    ∙ ap (λ (x : Sections). parts_of x.geometry.shape (section_bytes x.geometry.shape x.bytes i) n) told

-- A section has metadata sectors.
pub metadata_long : (g : Geometry) (before behind : List Piece) (capacity_before capacity_behind : ℕ) (o : Option ℕ) (view : Sections) (i : ℕ) (bytes : List ℕ)
    → IsPieces g before behind capacity_before capacity_behind o → sections_of g before behind o ≡ view → i < view.geometry.sections
    → bytes ≡ section_bytes view.geometry.shape view.bytes i → length (take 4096 bytes) ≡ 4096
metadata_long g before behind capacity_before capacity_behind o view i bytes is told low bytes_are =
    let inside : i < g.sections = subst (λ (x : Sections). i < x.geometry.sections) (sym told) low in
    let k : ℕ = g.sections - i - 1 in
    let w : ℕ = section_sectors g.shape in
    let all : List ℕ = bytes_of (before ++ behind) in
    let rows : g.sections * w ≡ (i + 1 + k) * w = ap (λ (n : ℕ). n * w) (let e : g.sections ≡ i + 1 + k = omega arith in e) in
    let width = width_of g is.geometry in
    let size = is.size in
    let own : length (section_bytes g.shape all i) ≡ 512 * w = length-take-le (512 * w) (drop (512 * (i * w)) all)
    (let rest = length-drop (512 * (i * w)) all in let e : 512 * w ≤ length (drop (512 * (i * w)) all) = omega arith in e) in
    let long : length bytes ≡ 512 * w = ap length (bytes_are ∙ ap (λ (x : Sections). section_bytes x.geometry.shape x.bytes i) (sym told)) ∙ own in
    length-take-le 4096 bytes (let e : 4096 ≤ length bytes = omega arith in e)
