-- What a history without tickets tells is what it told with them.
use Rattle.std.proofs.Common.{◌≡◌, ℕ, zero, suc, ◌≤◌, ◌==◌, Bool, if◌then◌else◌, List, [], ◌∷◌, ◌++◌, length, take, map, find, reverse, inl, inr, Option, None, Some, refl, sym, ◌∙◌, ap, subst}
use Rattle.std.specs.Option.{option_map, option_to_list, unwrap_or}
use Rattle.std.proofs.lemmas.Bool.{cases_Bool}
use Rattle.std.proofs.lemmas.List.{map-append, length-map, reverse-append}
use Rattle.image_model.specs.Cells.{Cell}
use Rattle.device_model.specs.Cut.{MayBeLeftJournal, all_writes}
use Rattle.device_model.specs.History.{Tagger, BlockWrite, Change, Begun, Written, Flushed, History, written_cell, cells_after, cells_now, with_change, with_changes}
use Rattle.device_model.specs.Request.{Request, Read, Write, Flush, block_writes}
use Rattle.mirror_model.specs.Mirror.{request_changes, whole_writes}
use Rattle.mirror_core.specs.Untold.{untold, untold_change, untold_history, IsLike, AreLike}

-- ---- lists

reverse-map : (writes : List BlockWrite) → reverse (map untold writes) ≡ map untold (reverse writes)
reverse-map [] = refl
reverse-map (w ∷ writes) =
    reverse-append (untold w ∷ []) (map untold writes)
    ∙ ap (λ (l : List BlockWrite). l ++ untold w ∷ []) (reverse-map writes)
    ∙ sym (map-append untold (reverse writes) (w ∷ []))
    ∙ ap (map untold) (sym (reverse-append (w ∷ []) writes))

take-map : (n : ℕ) (writes : List BlockWrite) → take n (map untold writes) ≡ map untold (take n writes)
take-map zero writes = refl
take-map (suc n) [] = refl
take-map (suc n) (w ∷ writes) = ap (λ (l : List BlockWrite). untold w ∷ l) (take-map n writes)

find-map : (b : ℕ) (writes : List BlockWrite)
    → find (λ write. write.block == b) (map untold writes) ≡ option_map untold (find (λ write. write.block == b) writes)
find-map b [] = refl
find-map b (w ∷ writes) = elim (cases_Bool (w.block == b)) [
  | inl same ↦ ap (λ (t : Bool). here t (find (λ write. write.block == b) (map untold writes)) (untold w)) same
      ∙ sym (ap (λ (t : Bool). option_map untold (here t (find (λ write. write.block == b) writes) w)) same)
  | inr other ↦ ap (λ (t : Bool). here t (find (λ write. write.block == b) (map untold writes)) (untold w)) other ∙ find-map b writes
      ∙ sym (ap (λ (t : Bool). option_map untold (here t (find (λ write. write.block == b) writes) w)) other)
]
  where
    here : Bool → Option BlockWrite → BlockWrite → Option BlockWrite
    here found rest write = if found then Some write else rest

-- ---- what blocks hold

module _ (tag : Tagger) where
  cell-untold : (base : Cell) (found : Option BlockWrite)
      → unwrap_or (option_map (written_cell tag) (option_map untold found)) base ≡ unwrap_or (option_map (written_cell tag) found) base
  cell-untold base None = refl
  cell-untold base (Some write) = refl

  pub cells_after-untold : (base : ℕ → Cell) (writes : List BlockWrite) (b : ℕ) → cells_after tag base (map untold writes) b ≡ cells_after tag base writes b
  cells_after-untold base writes b =
      ap (λ (l : List BlockWrite). unwrap_or (option_map (written_cell tag) (find (λ write. write.block == b) l)) (base b)) (reverse-map writes)
      ∙ ap (λ (o : Option BlockWrite). unwrap_or (option_map (written_cell tag) o) (base b)) (find-map b (reverse writes))
      ∙ cell-untold (base b) (find (λ write. write.block == b) (reverse writes))

  -- Alike histories hold the same in each block.
  pub cells_now-like : (g h : History) → IsLike g h → (b : ℕ) → cells_now tag g b ≡ cells_now tag h b
  cells_now-like g h like b =
      sym (cells_after-untold g.base g.writes b)
      ∙ ap (λ (k : History). cells_after tag k.base k.writes b) like
      ∙ cells_after-untold h.base h.writes b

  -- ---- what a cut may leave

  all_writes-untold : (h : History) → all_writes (untold_history h) ≡ map untold (all_writes h)
  all_writes-untold h =
      ap (λ (l : List BlockWrite). map untold h.writes ++ l) (pending h.pending) ∙ sym (map-append untold h.writes (option_to_list h.pending))
    where
      pending : (o : Option BlockWrite) → option_to_list (option_map untold o) ≡ map untold (option_to_list o)
      pending None = refl
      pending (Some write) = refl

  left-told : (blocks : ℕ) (h : History) (left : ℕ → Cell) → MayBeLeftJournal tag blocks (untold_history h) left → MayBeLeftJournal tag blocks h left
  left-told blocks h left may = record {
    kept = may.kept;
    has_flushed = may.has_flushed;
    has_no_more = subst (λ (n : ℕ). may.kept ≤ n) (ap (λ (l : List BlockWrite). length l) (all_writes-untold h) ∙ length-map (all_writes h) untold) may.has_no_more;
    each = λ b low. may.each b low
        ∙ ap (λ (l : List BlockWrite). cells_after tag h.base (take may.kept l) b) (all_writes-untold h)
        ∙ ap (λ (l : List BlockWrite). cells_after tag h.base l b) (take-map may.kept (all_writes h))
        ∙ cells_after-untold h.base (take may.kept (all_writes h)) b;
  }

  left-untold : (blocks : ℕ) (h : History) (left : ℕ → Cell) → MayBeLeftJournal tag blocks h left → MayBeLeftJournal tag blocks (untold_history h) left
  left-untold blocks h left may = record {
    kept = may.kept;
    has_flushed = may.has_flushed;
    has_no_more = subst (λ (n : ℕ). may.kept ≤ n) (sym (ap (λ (l : List BlockWrite). length l) (all_writes-untold h) ∙ length-map (all_writes h) untold)) may.has_no_more;
    each = λ b low. may.each b low
        ∙ sym (ap (λ (l : List BlockWrite). cells_after tag h.base (take may.kept l) b) (all_writes-untold h)
        ∙ ap (λ (l : List BlockWrite). cells_after tag h.base l b) (take-map may.kept (all_writes h))
        ∙ cells_after-untold h.base (take may.kept (all_writes h)) b);
  }

  -- The same may be left of alike histories.
  pub MayBeLeftJournal-like : (blocks : ℕ) (g h : History) (left : ℕ → Cell) → IsLike g h → MayBeLeftJournal tag blocks g left → MayBeLeftJournal tag blocks h left
  MayBeLeftJournal-like blocks g h left like may =
      left-told blocks h left (subst (λ (k : History). MayBeLeftJournal tag blocks k left) like (left-untold blocks g left may))

-- ---- changes

with_change-untold : (h : History) (change : Change) → untold_history (with_change h change) ≡ with_change (untold_history h) (untold_change change)
with_change-untold h (Begun write) = refl
with_change-untold h (Written write) =
    ap (λ (l : List BlockWrite). record (untold_history h) { writes = l; pending = None }) (map-append untold h.writes (write ∷ []))
with_change-untold h Flushed = ap (λ (n : ℕ). record (untold_history h) { flushed = n }) (sym (length-map h.writes untold))

with_changes-untold : (changes : List Change) (h : History)
    → untold_history (with_changes changes h) ≡ with_changes (map untold_change changes) (untold_history h)
with_changes-untold [] h = refl
with_changes-untold (change ∷ changes) h =
    with_changes-untold changes (with_change h change)
    ∙ ap (with_changes (map untold_change changes)) (with_change-untold h change)

-- Alike changes make alike histories of alike ones.
pub IsLike-changes : (ours theirs : List Change) (g h : History) → AreLike ours theirs → IsLike g h → IsLike (with_changes ours g) (with_changes theirs h)
IsLike-changes ours theirs g h changes like =
    with_changes-untold ours g
    ∙ ap (λ (l : List Change). with_changes l (untold_history g)) changes
    ∙ ap (with_changes (map untold_change theirs)) like
    ∙ sym (with_changes-untold theirs h)

-- The first of alike changes are alike.
pub AreLike-take : (n : ℕ) (ours theirs : List Change) → AreLike ours theirs → AreLike (take n ours) (take n theirs)
AreLike-take n ours theirs like = sym (take-changes n ours) ∙ ap (take n) like ∙ take-changes n theirs
  where
    take-changes : (n : ℕ) (changes : List Change) → take n (map untold_change changes) ≡ map untold_change (take n changes)
    take-changes zero changes = refl
    take-changes (suc n) [] = refl
    take-changes (suc n) (change ∷ changes) = ap (λ (l : List Change). untold_change change ∷ l) (take-changes n changes)

-- So are those of a request, whatever its ticket.
writes-like : (t u first : ℕ) (blocks : List (List ℕ))
    → map untold_change (whole_writes (block_writes t first blocks)) ≡ map untold_change (whole_writes (block_writes u first blocks))
writes-like t u first [] = refl
writes-like t u first (bytes ∷ blocks) =
    let write : BlockWrite = record { ticket = 0; block = first; bytes = bytes } in
    ap (λ (l : List Change). Begun write ∷ Written write ∷ l) (writes-like t u (suc first) blocks)

pub request_changes-like : (t u : ℕ) (request : Request) → AreLike (request_changes t request) (request_changes u request)
request_changes-like t u (Read first count) = refl
request_changes-like t u (Write first blocks fua) =
    let last = if fua then Flushed ∷ [] else [] in
    map-append untold_change (whole_writes (block_writes t first blocks)) last
    ∙ ap (λ (l : List Change). l ++ map untold_change last) (writes-like t u first blocks)
    ∙ sym (map-append untold_change (whole_writes (block_writes u first blocks)) last)
request_changes-like t u Flush = refl
