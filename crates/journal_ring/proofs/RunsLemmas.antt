-- Runs that are joined and cut.
use Rattle.std.proofs.Common.{◌≡◌, ℕ, ◌+◌, ◌*◌, ◌≤◌, List, [], ◌∷◌, ◌++◌, length, refl, sym, ◌∙◌, ap, append_assoc, append-nil, get_or, length-append, arith}
use Rattle.std.proofs.Common.{subst}
use Rattle.std.proofs.lemmas.List.{length-take-le}
use Rattle.image_model.specs.Geometry.{Shape, section_entries, section_sectors}
use Rattle.sector_pool.specs.Run.{Piece, back_of, both_of, front_of, sectors_of}
use Rattle.sector_pool.proofs.RunLemmas.{both_of-split, sectors_of-back, Touches-split}
use Rattle.journal_ring.specs.Runs.{bytes_of, CutsUp, FollowOn, HaveSize, IsCut, IsNext, IsOne}

-- The bytes of runs that stand behind others.
pub bytes_of-append : (runs more : List Piece) → bytes_of (runs ++ more) ≡ bytes_of runs ++ bytes_of more
bytes_of-append [] more = refl
bytes_of-append (run ∷ runs) more = ap (λ (xs : List ℕ). run.bytes ++ xs) (bytes_of-append runs more) ∙ sym (append_assoc run.bytes (bytes_of runs) (bytes_of more))

-- The last two, joined, have the same bytes,
pub bytes_of-last : (runs : List Piece) (last end : Piece) → bytes_of ((runs ++ last ∷ []) ++ end ∷ []) ≡ bytes_of (runs ++ both_of last end ∷ [])
bytes_of-last [] last end = sym (append_assoc last.bytes end.bytes [])
bytes_of-last (run ∷ runs) last end = ap (λ (xs : List ℕ). run.bytes ++ xs) (bytes_of-last runs last end)

-- and follow on.
pub FollowOn-last : (runs : List Piece) (last end : Piece) → FollowOn ((runs ++ last ∷ []) ++ end ∷ []) → IsNext last end × FollowOn (runs ++ both_of last end ∷ [])
FollowOn-last [] last end follow = (follow.0, tt)
FollowOn-last (run ∷ []) last end follow = (follow.1.0, (follow.0, tt))
FollowOn-last (run ∷ next ∷ runs) last end follow =
    let more = FollowOn-last (next ∷ runs) last end follow.1 in
    (more.0, (follow.0, more.1))

-- The last one, cut in two.
pub FollowOn-cut : (runs : List Piece) (last end : Piece) → IsNext last end → FollowOn (runs ++ both_of last end ∷ []) → FollowOn ((runs ++ last ∷ []) ++ end ∷ [])
FollowOn-cut [] last end next follow = (next, tt)
FollowOn-cut (run ∷ []) last end next follow = (follow.0, (next, tt))
FollowOn-cut (run ∷ second ∷ runs) last end next follow = (follow.0, FollowOn-cut (second ∷ runs) last end next follow.1)

-- One more of the size.
pub HaveSize-push : (size : ℕ) (runs : List Piece) (run : Piece) → HaveSize size runs → length run.bytes ≡ size → HaveSize size (runs ++ run ∷ [])
HaveSize-push size [] run sizes is = (is, tt)
HaveSize-push size (first ∷ runs) run sizes is = (sizes.0, HaveSize-push size runs run sizes.1 is)

-- The first sectors of a run.
pub size_of-front : (k : ℕ) (run : Piece) → k ≤ sectors_of run → length (front_of k run).bytes ≡ 512 * k
size_of-front k run low =
    let long = length-take-le (k * 512) run.bytes (let enough : k * 512 ≤ length run.bytes = omega arith in enough) in
    omega (arith, long)

-- The last run is cut in two, and the first part stands behind the others.
pub FollowOn-split : (k : ℕ) (runs : List Piece) (run : Piece) → k ≤ sectors_of run → FollowOn (runs ++ run ∷ [])
    → FollowOn ((runs ++ front_of k run ∷ []) ++ back_of k run ∷ [])
FollowOn-split k runs run low follow =
    FollowOn-cut runs (front_of k run) (back_of k run) (refl, Touches-split k run low)
    (subst (λ (r : Piece). FollowOn (runs ++ r ∷ [])) (sym (both_of-split k run)) follow)

pub bytes_of-split : (k : ℕ) (runs : List Piece) (run : Piece)
    → bytes_of ((runs ++ front_of k run ∷ []) ++ back_of k run ∷ []) ≡ bytes_of (runs ++ run ∷ [])
bytes_of-split k runs run =
    bytes_of-last runs (front_of k run) (back_of k run) ∙ ap (λ (r : Piece). bytes_of (runs ++ r ∷ [])) (both_of-split k run)

-- One more run is cut off.
pub CutsUp-more : (each count : ℕ) (old new : List Piece) (run rest : Piece) → CutsUp each count old new run rest → each ≤ sectors_of rest
    → CutsUp each (count + 1) old (new ++ front_of each rest ∷ []) run (back_of each rest)
CutsUp-more each count old new run rest cuts low = record {
  entries = cuts.entries ++ front_of each rest ∷ [];
  new_are = ap (λ (l : List Piece). l ++ front_of each rest ∷ []) cuts.new_are ∙ append_assoc old cuts.entries (front_of each rest ∷ []);
  count_is = length-append cuts.entries (front_of each rest ∷ []) ∙ ap (λ (n : ℕ). n + 1) cuts.count_is;
  sizes = HaveSize-push (512 * each) cuts.entries (front_of each rest) cuts.sizes (size_of-front each rest low);
  follow = λ prior follow.
      let all : FollowOn ((prior ++ new) ++ rest ∷ []) = subst FollowOn (sym (append_assoc prior new (rest ∷ []))) (cuts.follow prior follow) in
      subst FollowOn
      (append_assoc (prior ++ new) (front_of each rest ∷ []) (back_of each rest ∷ [])
      ∙ append_assoc prior new (front_of each rest ∷ back_of each rest ∷ [])
      ∙ ap (λ (l : List Piece). prior ++ l) (sym (append_assoc new (front_of each rest ∷ []) (back_of each rest ∷ []))))
      (FollowOn-split each (prior ++ new) rest low all);
  bytes_are = bytes_of-split each new rest ∙ cuts.bytes_are;
}

-- One run alone is the last one.
pub last-one : (runs : List Piece) (last one : Piece) → one ∷ [] ≡ runs ++ last ∷ [] → (runs ≡ []) × (one ≡ last)
last-one [] last one is = (refl, ap (λ (l : List Piece). get_or l 0 one) is)
last-one (run ∷ runs) last one is = absurd (let long = ap length is in omega (arith, long, length-append runs (last ∷ [])))

-- The sectors of a section lie in the run: those before it, its own, and the data sectors of its entries.
pub record HasRoom (s : Shape) (section : ℕ) (all : Piece) : Type 0 where
  pub before : section * section_sectors s ≤ sectors_of all
  pub metadata : 8 ≤ sectors_of (back_of (section * section_sectors s) all)
  pub entries : section_entries s * s.spb ≤ sectors_of (back_of 8 (back_of (section * section_sectors s) all))

pub has_room : (s : Shape) (section : ℕ) (all : Piece) → section_sectors s ≡ 8 + section_entries s * s.spb
    → 512 * ((section + 1) * section_sectors s) ≤ length all.bytes → HasRoom s section all
has_room s section all sectors inside =
    let k : ℕ = section * section_sectors s in
    let end : (section + 1) * section_sectors s ≡ k + section_sectors s = omega arith in
    let before : k ≤ sectors_of all = omega arith in
    let left = sectors_of-back k all before in
    let more : 8 ≤ sectors_of (back_of k all) = omega arith in
    let rest = sectors_of-back 8 (back_of k all) more in
    record { before = before; metadata = more; entries = omega arith }

-- ---- for callers

-- What is known of the run of all, popped from its list, before a section is cut out of it.
pub record IsAll (s : Shape) (section : ℕ) (runs popped : List Piece) (all : Piece) : Type 0 where
  pub none : popped ≡ []
  pub bytes_are : bytes_of (all ∷ []) ≡ bytes_of runs
  pub room : HasRoom s section all

pub all_from : (s : Shape) (section sectors : ℕ) (before behind popped : List Piece) (all : Piece) → IsOne before behind → before ≡ popped ++ all ∷ []
    → sectors ≡ section_sectors s → section_sectors s ≡ 8 + section_entries s * s.spb
    → 512 * ((section + 1) * sectors) ≤ length (bytes_of (before ++ behind)) → IsAll s section (before ++ behind) popped all
all_from s section sectors before behind popped all one items is shape inside =
    let last = last-one popped all one.all (sym one.before_are ∙ items) in
    let runs : before ++ behind ≡ all ∷ [] = ap (λ (l : List Piece). before ++ l) one.none_behind ∙ append-nil before ∙ one.before_are ∙ ap (λ (r : Piece). r ∷ []) last.1 in
    let bytes : bytes_of (all ∷ []) ≡ bytes_of (before ++ behind) = sym (ap bytes_of runs) in
    let long : length all.bytes ≡ length (bytes_of (before ++ behind)) = ap length (sym (append-nil all.bytes) ∙ bytes) in
    let scaled : (section + 1) * sectors ≡ (section + 1) * section_sectors s = ap (λ (n : ℕ). (section + 1) * n) is in
    record { none = last.0; bytes_are = bytes; room = has_room s section all shape (omega arith) }

-- The runs before the entries, and the run of all that is behind them.
pub record IsBegun (s : Shape) (section : ℕ) (all : Piece) (before : List Piece) (run : Piece) : Type 0 where
  pub before_are : before ≡ front_of (section * section_sectors s) all ∷ front_of 8 (back_of (section * section_sectors s) all) ∷ []
  pub run_is : run ≡ back_of 8 (back_of (section * section_sectors s) all)

pub begun_from : (s : Shape) (section sectors : ℕ) (all front metadata back run : Piece) (popped one before : List Piece) → popped ≡ []
    → sectors ≡ section_sectors s → front ≡ front_of (section * sectors) all → back ≡ back_of (section * sectors) all
    → metadata ≡ front_of 8 back → run ≡ back_of 8 back → one ≡ popped ++ front ∷ [] → before ≡ one ++ metadata ∷ []
    → IsBegun s section all before run
begun_from s section sectors all front metadata back run popped one before none is front_is back_is metadata_is run_is first second =
    let k : section * sectors ≡ section * section_sectors s = ap (λ (n : ℕ). section * n) is in
    let front_all : front ≡ front_of (section * section_sectors s) all = front_is ∙ ap (λ (n : ℕ). front_of n all) k in
    let back_all : back ≡ back_of (section * section_sectors s) all = back_is ∙ ap (λ (n : ℕ). back_of n all) k in
    record {
      before_are =
          second ∙ ap (λ (l : List Piece). l ++ metadata ∷ []) (first ∙ ap (λ (l : List Piece). l ++ front ∷ []) none)
          ∙ ap (λ (r : Piece). r ∷ metadata ∷ []) front_all
          ∙ ap (λ (r : Piece). front_of (section * section_sectors s) all ∷ r ∷ []) (metadata_is ∙ ap (front_of 8) back_all);
      run_is = run_is ∙ ap (back_of 8) back_all;
    }

begun-follow : (s : Shape) (section : ℕ) (all : Piece) (before : List Piece) (run : Piece) → IsBegun s section all before run
    → HasRoom s section all → FollowOn (before ++ run ∷ [])
begun-follow s section all before run begun room =
    let k : ℕ = section * section_sectors s in
    rw (begun.before_are, begun.run_is) (FollowOn-split 8 (front_of k all ∷ []) (back_of k all) room.metadata (FollowOn-split k [] all room.before tt))

begun-bytes : (s : Shape) (section : ℕ) (all : Piece) (before : List Piece) (run : Piece) → IsBegun s section all before run
    → bytes_of (before ++ run ∷ []) ≡ bytes_of (all ∷ [])
begun-bytes s section all before run begun =
    let k : ℕ = section * section_sectors s in
    rw (begun.before_are, begun.run_is) (bytes_of-split 8 (front_of k all ∷ []) (back_of k all) ∙ bytes_of-split k [] all)

-- The section is cut out.
pub record IsCutOut (s : Shape) (section : ℕ) (all : Piece) (before behind : List Piece) : Type 0 where
  pub cut : IsCut s section before behind
  pub follow : FollowOn (before ++ behind)
  pub bytes_are : bytes_of (before ++ behind) ≡ bytes_of (all ∷ [])

pub cut_from : (s : Shape) (section entries : ℕ) (all : Piece) (before none new behind : List Piece) (run back : Piece) → IsBegun s section all before run
    → HasRoom s section all → entries ≡ section_entries s → none ≡ [] → CutsUp s.spb entries none new run back → behind ≡ new ++ back ∷ []
    → IsCutOut s section all before behind
cut_from s section entries all before none new behind run back begun room is empty cuts behind_are =
    let k : ℕ = section * section_sectors s in
    let only : none ++ run ∷ [] ≡ run ∷ [] = ap (λ (l : List Piece). l ++ run ∷ []) empty in
    record {
      cut = record {
        front = front_of k all;
        metadata = front_of 8 (back_of k all);
        entries = cuts.entries;
        back = back;
        before_are = begun.before_are;
        behind_are = behind_are ∙ ap (λ (l : List Piece). l ++ back ∷ []) (cuts.new_are ∙ ap (λ (l : List Piece). l ++ cuts.entries) empty);
        front_size = size_of-front k all room.before;
        metadata_size = size_of-front 8 (back_of k all) room.metadata;
        count_is = cuts.count_is ∙ is;
        sizes = cuts.sizes;
      };
      follow = subst (λ (l : List Piece). FollowOn (before ++ l)) (sym behind_are)
          (cuts.follow before (subst (λ (l : List Piece). FollowOn (before ++ l)) (sym only) (begun-follow s section all before run begun room)));
      bytes_are =
          bytes_of-append before behind
          ∙ ap (λ (xs : List ℕ). bytes_of before ++ xs) (ap bytes_of behind_are ∙ cuts.bytes_are ∙ ap bytes_of only)
          ∙ sym (bytes_of-append before (run ∷ []))
          ∙ begun-bytes s section all before run begun;
    }
