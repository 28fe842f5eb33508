-- Blocks that a leg gives at once, as blocks that are read or levelled one by one.
use Rattle.std.proofs.Common.{◌≡◌, ℕ, zero, suc, ◌+◌, ◌*◌, ◌<◌, ◌≤◌, Bool, true, if◌then◌else◌, List, [], ◌∷◌, ◌++◌, take, drop, refl, sym, ◌∙◌, ap, subst, arith, append-nil, inl, inr}
use Rattle.std.specs.Str.{bytes_eq}
use Rattle.std.proofs.lemmas.Bool.{cases_Bool}
use Rattle.std.proofs.lemmas.List.{take_all}
use Rattle.std.proofs.lemmas.Slice.Eq.{bytes_eq-Decides}
use Rattle.disk_model.specs.Disk.{Image}
use Rattle.image_model.specs.Cells.{Cell}
use Rattle.device_model.specs.History.{Change, History, Tagger, cells_now, with_changes}
use Rattle.device_model.specs.Reply.{Reply, block_reply}
use Rattle.device_model.specs.Transcript.{Session}
use Rattle.mirror_model.specs.Calls.{MirrorReply, MirrorResult, read_by, read_block, join_mirror_replies, mirror_read, level_by, level_block, level_blocks}
use Rattle.mirror_model.specs.Mirror.{MirrorFormat, MirrorState, MirrorChange, a_cells, b_cells, matches, with_mirror_changes, changes_on_first, changes_on_second}
use Rattle.mirror_model.proofs.ChangeLemmas.{changes_on_first-is, changes_on_second-is, changes_on_first-append, changes_on_second-append}
use Rattle.mirror_laws.proofs.BlockLemmas.{HasReadTo, HasReadTo-begin, HasReadTo-given, HasLevelledTo, HasLevelledTo-begin, HasLevelledTo-more, read_block-first, level_block-same}
use Rattle.mirror_laws.proofs.MomentLemmas.{after-append}
use Rattle.mirror_calls.specs.Leg.{AreAlike, HasBlocks, IsLeftSince, LegOn, bytes_at}
use Rattle.mirror_calls.specs.State.{format_of, HasDone}
use Rattle.mirror_calls.proofs.LoopLemmas.{LegsNow, Are, AreLeft, AreLeft-then}

-- ---- lists

pub take-plus : (n m : ℕ) (xs : List ℕ) → take n xs ++ take m (drop n xs) ≡ take (n + m) xs
take-plus zero m xs = let on : m ≡ zero + m = omega arith in ap (λ (k : ℕ). take k xs) on
take-plus (suc n) m [] = take_all m [] (omega arith) ∙ sym (take_all (suc n + m) [] (omega arith))
take-plus (suc n) m (x ∷ xs) =
    let on : suc (n + m) ≡ suc n + m = omega arith in
    ap (λ (l : List ℕ). x ∷ l) (take-plus n m xs) ∙ ap (λ (k : ℕ). take k (x ∷ xs)) on

-- ---- changes that no history has

pub record IsIdle (done : List MirrorChange) : Type 0 where
  pub first : changes_on_first done ≡ []
  pub second : changes_on_second done ≡ []

IsIdle-more : (xs ys : List MirrorChange) → IsIdle xs → IsIdle ys → IsIdle (xs ++ ys)
IsIdle-more xs ys one two = record {
  first = changes_on_first-append xs ys ∙ ap (λ (l : List Change). l ++ changes_on_first ys) one.first ∙ two.first;
  second = changes_on_second-append xs ys ∙ ap (λ (l : List Change). l ++ changes_on_second ys) one.second ∙ two.second;
}

a_history : (done : List MirrorChange) (m : MirrorState) → IsIdle done → (with_mirror_changes done m).a.history ≡ m.a.history
a_history done m idle = changes_on_first-is done m ∙ ap (λ (l : List Change). with_changes l m.a.history) idle.first

b_history : (done : List MirrorChange) (m : MirrorState) → IsIdle done → (with_mirror_changes done m).b.history ≡ m.b.history
b_history done m idle = changes_on_second-is done m ∙ ap (λ (l : List Change). with_changes l m.b.history) idle.second

-- ---- a block that matches

record Gives (tag : Tagger) (block : ℕ) (cell : Cell) (bytes : List ℕ) : Type 0 where
  is : matches tag block cell ≡ true
  same : bytes ≡ cell.bytes

abbrev bytes_in : Reply → List ℕ
bytes_in (Reply.Bytes bytes) = bytes
bytes_in (Reply.TagFault block stored computed) = []

not_bytes : (bytes : List ℕ) (block : ℕ) (s t : List ℕ) → Reply.TagFault block s t ≡ Reply.Bytes bytes → ⊥
not_bytes bytes block s t same = cc

Gives-of : (tag : Tagger) (block : ℕ) (cell : Cell) (bytes : List ℕ) → block_reply tag block cell ≡ Reply.Bytes bytes → Gives tag block cell bytes
Gives-of tag block cell bytes is = elim (cases_Bool (matches tag block cell)) [
  | inl good ↦ record { is = good; same = sym (ap bytes_in (sym (ap by good) ∙ is)) }
  | inr bad ↦ absurd (not_bytes bytes block cell.tag (tag block cell.bytes) (sym (ap by bad) ∙ is))
]
  where
    by : Bool → Reply
    by good = if good then Reply.Bytes cell.bytes else Reply.TagFault block cell.tag (tag block cell.bytes)

module _ (f : MirrorFormat) (m : MirrorState) (block : ℕ) where
  read_block-idle : (x : List ℕ) → block_reply f.a_tag block (a_cells f m block) ≡ Reply.Bytes x → IsIdle (read_block f m block).changes
  read_block-idle x gives =
      let a = Gives-of f.a_tag block (a_cells f m block) x gives in
      let other = matches f.b_tag block (b_cells f m block) in
      record {
        first = ap (λ (t : Bool). changes_on_first (read_by f m block t other).changes) a.is;
        second = ap (λ (t : Bool). changes_on_second (read_by f m block t other).changes) a.is;
      }

  same_bytes : (x y : List ℕ) → x ≡ y → bytes_eq x y ≡ true
  same_bytes x y same = (bytes_eq-Decides x y).1 same

  level_block-idle : (x y : List ℕ) → block_reply f.a_tag block (a_cells f m block) ≡ Reply.Bytes x
      → block_reply f.b_tag block (b_cells f m block) ≡ Reply.Bytes y → x ≡ y → IsIdle (level_block f m block).changes
  level_block-idle x y a_gives b_gives same =
      let a = Gives-of f.a_tag block (a_cells f m block) x a_gives in
      let b = Gives-of f.b_tag block (b_cells f m block) y b_gives in
      let alike : bytes_eq (a_cells f m block).bytes (b_cells f m block).bytes ≡ true =
      same_bytes (a_cells f m block).bytes (b_cells f m block).bytes (sym a.same ∙ same ∙ b.same) in
      let is : level_block f m block ≡ level_by f m block true true true =
      ap (λ (t : Bool). level_by f m block t (matches f.b_tag block (b_cells f m block)) (bytes_eq (a_cells f m block).bytes (b_cells f m block).bytes)) a.is
      ∙ ap (λ (t : Bool). level_by f m block true t (bytes_eq (a_cells f m block).bytes (b_cells f m block).bytes)) b.is
      ∙ ap (level_by f m block true true) alike in
      record {
        first = ap (λ (r : MirrorResult ℕ). changes_on_first r.changes) is;
        second = ap (λ (r : MirrorResult ℕ). changes_on_second r.changes) is;
      }

-- ---- blocks that match, one after the other

module _ (f : MirrorFormat) (m : MirrorState) where
  -- So many blocks that match are read, and no history has changed.
  pub record HasPassed (size first count passed left : ℕ) (buffer : List ℕ) : Type 0 where
    pub done : List MirrorChange
    pub has : HasReadTo f m first count (first + passed) left (take (passed * size) buffer) done
    pub idle : IsIdle done

  pub HasPassed-all : (size first count passed left : ℕ) (buffer : List ℕ) → passed + left ≡ count
      → HasBlocks f.a_tag (a_cells f m) size first passed buffer → HasPassed size first count passed left buffer
  HasPassed-all size first count zero left buffer all blocks =
      let at : first ≡ first + 0 = omega arith in
      let rest : count ≡ left = omega (arith, all) in
      let none : 0 ≡ 0 * size = omega arith in
      record {
        done = [];
        has = subst (λ (n : ℕ). HasReadTo f m first count (first + 0) left (take n buffer) []) none
            (subst (λ (n : ℕ). HasReadTo f m first count n left [] []) at
            (subst (λ (n : ℕ). HasReadTo f m first count first n [] []) rest (HasReadTo-begin f m first count)));
        idle = record { first = refl; second = refl };
      }
  HasPassed-all size first count (suc k) left buffer all blocks =
      let less : k + suc left ≡ count = omega (arith, all) in
      let before = HasPassed-all size first count k (suc left) buffer less (record { each = λ j lt. blocks.each j (omega (arith, lt)) }) in
      let n = with_mirror_changes before.done m in
      let block = first + k in
      let x = bytes_at size k buffer in
      let here : block_reply f.a_tag block (a_cells f n block) ≡ Reply.Bytes x =
      subst (λ (h : History). block_reply f.a_tag block (cells_now f.a_tag h block) ≡ Reply.Bytes x) (sym (a_history before.done m before.idle)) (blocks.each k (omega arith)) in
      let gives = read_block-first f n block x here in
      let next = HasReadTo-given f m first count block left (take (k * size) buffer) x before.done before.has gives.answers in
      let changes = before.done ++ (read_block f n block).changes in
      let at : suc block ≡ first + suc k = omega arith in
      let more : k * size + size ≡ suc k * size = omega arith in
      let got : take (k * size) buffer ++ x ≡ take (suc k * size) buffer =
      take-plus (k * size) size buffer ∙ ap (λ (l : ℕ). take l buffer) more in
      record {
        done = changes;
        has = subst (λ (l : List ℕ). HasReadTo f m first count (first + suc k) left l changes) got
            (subst (λ (l : ℕ). HasReadTo f m first count l left (take (k * size) buffer ++ x) changes) at next);
        idle = IsIdle-more before.done (read_block f n block).changes before.idle (read_block-idle f n block x here);
      }

  -- So many blocks that are alike on both legs are levelled, which writes none of them.
  pub record HasFoundAlike (first count alike left : ℕ) : Type 0 where
    pub done : List MirrorChange
    pub has : HasLevelledTo f m first count (first + alike) left 0 done
    pub idle : IsIdle done

  pub HasFoundAlike-all : (size first count alike left : ℕ) (x y : List ℕ) → alike + left ≡ count
      → HasBlocks f.a_tag (a_cells f m) size first alike x → HasBlocks f.b_tag (b_cells f m) size first alike y
      → AreAlike size alike x y → HasFoundAlike first count alike left
  HasFoundAlike-all size first count zero left x y all ours theirs same =
      let at : first ≡ first + 0 = omega arith in
      let rest : count ≡ left = omega (arith, all) in
      record {
        done = [];
        has = subst (λ (n : ℕ). HasLevelledTo f m first count n left 0 []) at
            (subst (λ (n : ℕ). HasLevelledTo f m first count first n 0 []) rest (HasLevelledTo-begin f m first count));
        idle = record { first = refl; second = refl };
      }
  HasFoundAlike-all size first count (suc k) left x y all ours theirs same =
      let less : k + suc left ≡ count = omega (arith, all) in
      let before = HasFoundAlike-all size first count k (suc left) x y less
      (record { each = λ j lt. ours.each j (omega (arith, lt)) }) (record { each = λ j lt. theirs.each j (omega (arith, lt)) })
      (λ j lt. same j (omega (arith, lt))) in
      let n = with_mirror_changes before.done m in
      let block = first + k in
      let u = bytes_at size k x in
      let v = bytes_at size k y in
      let low : k < suc k = omega arith in
      let a_here : block_reply f.a_tag block (a_cells f n block) ≡ Reply.Bytes u =
      subst (λ (h : History). block_reply f.a_tag block (cells_now f.a_tag h block) ≡ Reply.Bytes u) (sym (a_history before.done m before.idle)) (ours.each k low) in
      let b_here : block_reply f.b_tag block (b_cells f n block) ≡ Reply.Bytes v =
      subst (λ (h : History). block_reply f.b_tag block (cells_now f.b_tag h block) ≡ Reply.Bytes v) (sym (b_history before.done m before.idle)) (theirs.each k low) in
      let done = level_block-same f n block u v a_here b_here (same_bytes f n block u v (same k low)) in
      let next = HasLevelledTo-more f m first count block left 0 before.done before.has in
      let changes = before.done ++ (level_block f n block).changes in
      let at : suc block ≡ first + suc k = omega arith in
      let none : 0 + 0 ≡ 0 = omega arith in
      record {
        done = changes;
        has = subst (λ (l : ℕ). HasLevelledTo f m first count l left 0 changes) at
            (subst (λ (w : ℕ). HasLevelledTo f m first count (suc block) left w changes) none
            (subst (λ (w : ℕ). HasLevelledTo f m first count (suc block) left (0 + w) changes) done.answers next));
        idle = IsIdle-more before.done (level_block f n block).changes before.idle (level_block-idle f n block u v a_here b_here (same k low));
      }

-- ---- of legs

-- A leg that stood for a history stands for it yet, however many requests it is told of.
abbrev pub KeepsHistory : (old new : LegOn → Session → Type 0) → Type 0
KeepsHistory old new = (on : LegOn) (s : Session) (n : ℕ) → old on s → new on (record s { submitted = n })

same_leg : (P : Session → Type 0) (s t : Session) → ((n : ℕ) → P (record s { submitted = n })) → t.history ≡ s.history → P t
same_leg P s t any same =
    subst (λ (h : History). P (record { history = h; submitted = t.submitted })) (sym same) (any t.submitted)

module _ (a_left b_left : LegOn → History → Image → Type 0) where
  -- Both legs have only been read.
  pub record KeepsLegs (old now : LegsNow) : Type 1 where
    pub a_keeps : KeepsHistory old.a_stands now.a_stands
    pub b_keeps : KeepsHistory old.b_stands now.b_stands
    pub a_quiet : (a : LegOn) (s : Session) → old.a_stands a s → IsLeftSince (a_left a) s.history [] old.a_moments now.a_moments
    pub b_quiet : (b : LegOn) (s : Session) → old.b_stands b s → IsLeftSince (b_left b) s.history [] old.b_moments now.b_moments

  Are-idle : (old now : LegsNow) (a b : LegOn) (m : MirrorState) (done : List MirrorChange) → KeepsLegs old now → IsIdle done → Are old a b m
      → Are now a b (with_mirror_changes done m)
  Are-idle old now a b m done keeps idle legs =
      let n = with_mirror_changes done m in
      record {
        first = same_leg (now.a_stands a) m.a n.a (λ k. keeps.a_keeps a m.a k legs.first) (a_history done m idle);
        second = same_leg (now.b_stands b) m.b n.b (λ k. keeps.b_keeps b m.b k legs.second) (b_history done m idle);
      }

  AreLeft-idle : (old now : LegsNow) (a b : LegOn) (m : MirrorState) (done : List MirrorChange) → KeepsLegs old now → IsIdle done → Are old a b m
      → AreLeft a_left b_left old now a b m done
  AreLeft-idle old now a b m done keeps idle legs = record {
    first = subst (λ (l : List Change). IsLeftSince (a_left a) m.a.history l old.a_moments now.a_moments) (sym idle.first) (keeps.a_quiet a m.a legs.first);
    second = subst (λ (l : List Change). IsLeftSince (b_left b) m.b.history l old.b_moments now.b_moments) (sym idle.second) (keeps.b_quiet b m.b legs.second);
  }

  -- ---- for callers

  -- The first leg has given blocks before some, and the rest was read block by block.
  pub HasDone-passed : (old now end : LegsNow) (size first count passed left : ℕ) (buffer : List ℕ) (rest whole : MirrorReply) → KeepsLegs old now
      → passed + left ≡ count
      → ((a : LegOn) (s : Session) → old.a_stands a s → HasBlocks a.format.tag (cells_now a.format.tag s.history) size first passed buffer)
      → join_mirror_replies (MirrorReply.Bytes (take (passed * size) buffer)) rest ≡ whole
      → ((a b : LegOn) (m : MirrorState) → Are now a b m → HasDone end.a_stands end.b_stands a b m (mirror_read (format_of a b) m (first + passed) left) rest)
      → (a b : LegOn) (m : MirrorState) → Are old a b m → HasDone end.a_stands end.b_stands a b m (mirror_read (format_of a b) m first count) whole
  HasDone-passed old now end size first count passed left buffer rest whole keeps all passes is next_ a b m legs =
      let f = format_of a b in
      let p = HasPassed-all f m size first count passed left buffer all (passes a m.a legs.first) in
      let n = with_mirror_changes p.done m in
      let behind = mirror_read f n (first + passed) left in
      let d = next_ a b n (Are-idle old now a b m p.done keeps p.idle legs) in
      record {
        answers = p.has.answer ∙ ap (join_mirror_replies (MirrorReply.Bytes (take (passed * size) buffer))) d.answers ∙ is;
        legs = subst (Are end a b) (sym (ap (λ (l : List MirrorChange). with_mirror_changes l m) p.has.changes ∙ after-append p.done behind.changes m)) d.legs;
      }

  -- It leaves this of both legs.
  pub AreLeft-passed : (old now end : LegsNow) (size first count passed left : ℕ) (buffer : List ℕ) → KeepsLegs old now
      → passed + left ≡ count
      → ((a : LegOn) (s : Session) → old.a_stands a s → HasBlocks a.format.tag (cells_now a.format.tag s.history) size first passed buffer)
      → ((a b : LegOn) (m : MirrorState) → Are now a b m → AreLeft a_left b_left now end a b m (mirror_read (format_of a b) m (first + passed) left).changes)
      → (a b : LegOn) (m : MirrorState) → Are old a b m → AreLeft a_left b_left old end a b m (mirror_read (format_of a b) m first count).changes
  AreLeft-passed old now end size first count passed left buffer keeps all passes next_ a b m legs =
      let f = format_of a b in
      let p = HasPassed-all f m size first count passed left buffer all (passes a m.a legs.first) in
      let n = with_mirror_changes p.done m in
      let behind = (mirror_read f n (first + passed) left).changes in
      AreLeft-then a_left b_left old now end a b m p.done behind (mirror_read f m first count).changes []
      (p.has.changes ∙ sym (append-nil (p.done ++ behind)))
      (AreLeft-idle old now a b m p.done keeps p.idle legs) (next_ a b n (Are-idle old now a b m p.done keeps p.idle legs))

  -- Both legs have given blocks that are alike, and the rest was levelled block by block.
  pub HasDone-alike : (old now end : LegsNow) (size first count alike left written : ℕ) (x y : List ℕ) → KeepsLegs old now → alike + left ≡ count
      → ((a : LegOn) (s : Session) → old.a_stands a s → HasBlocks a.format.tag (cells_now a.format.tag s.history) size first alike x)
      → ((b : LegOn) (s : Session) → old.b_stands b s → HasBlocks b.format.tag (cells_now b.format.tag s.history) size first alike y)
      → AreAlike size alike x y
      → ((a b : LegOn) (m : MirrorState) → Are now a b m → HasDone end.a_stands end.b_stands a b m (level_blocks (format_of a b) m (first + alike) left) written)
      → (a b : LegOn) (m : MirrorState) → Are old a b m → HasDone end.a_stands end.b_stands a b m (level_blocks (format_of a b) m first count) written
  HasDone-alike old now end size first count alike left written x y keeps all ours theirs same next_ a b m legs =
      let f = format_of a b in
      let p = HasFoundAlike-all f m size first count alike left x y all (ours a m.a legs.first) (theirs b m.b legs.second) same in
      let n = with_mirror_changes p.done m in
      let behind = level_blocks f n (first + alike) left in
      let d = next_ a b n (Are-idle old now a b m p.done keeps p.idle legs) in
      let none : 0 + behind.answer ≡ behind.answer = omega arith in
      record {
        answers = p.has.answer ∙ none ∙ d.answers;
        legs = subst (Are end a b) (sym (ap (λ (l : List MirrorChange). with_mirror_changes l m) p.has.changes ∙ after-append p.done behind.changes m)) d.legs;
      }

  -- It leaves this of both legs.
  pub AreLeft-alike : (old now end : LegsNow) (size first count alike left : ℕ) (x y : List ℕ) → KeepsLegs old now → alike + left ≡ count
      → ((a : LegOn) (s : Session) → old.a_stands a s → HasBlocks a.format.tag (cells_now a.format.tag s.history) size first alike x)
      → ((b : LegOn) (s : Session) → old.b_stands b s → HasBlocks b.format.tag (cells_now b.format.tag s.history) size first alike y)
      → AreAlike size alike x y
      → ((a b : LegOn) (m : MirrorState) → Are now a b m → AreLeft a_left b_left now end a b m (level_blocks (format_of a b) m (first + alike) left).changes)
      → (a b : LegOn) (m : MirrorState) → Are old a b m → AreLeft a_left b_left old end a b m (level_blocks (format_of a b) m first count).changes
  AreLeft-alike old now end size first count alike left x y keeps all ours theirs same next_ a b m legs =
      let f = format_of a b in
      let p = HasFoundAlike-all f m size first count alike left x y all (ours a m.a legs.first) (theirs b m.b legs.second) same in
      let n = with_mirror_changes p.done m in
      let behind = (level_blocks f n (first + alike) left).changes in
      AreLeft-then a_left b_left old now end a b m p.done behind (level_blocks f m first count).changes []
      (p.has.changes ∙ sym (append-nil (p.done ++ behind)))
      (AreLeft-idle old now a b m p.done keeps p.idle legs) (next_ a b n (Are-idle old now a b m p.done keeps p.idle legs))

-- Fewer blocks stand in a buffer, too.
pub HasBlocks-fewer : (tag : Tagger) (cells : ℕ → Cell) (size first count fewer : ℕ) (buffer : List ℕ) → fewer ≤ count
    → HasBlocks tag cells size first count buffer → HasBlocks tag cells size first fewer buffer
HasBlocks-fewer tag cells size first count fewer buffer le blocks = record { each = λ k lt. blocks.each k (omega (arith, lt, le)) }
