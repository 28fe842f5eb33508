-- What a cache and a disk give together, after each step.
use Rattle.std.proofs.Common.{◌≡◌, ◌≢◌, ◌⊎◌, inl, inr, ⊎_elim, ℕ, ◌+◌, ◌-◌, ◌/◌, ◌<◌, ◌≤◌, Bool, true, false, nat_eq, if◌then◌else◌, List, [], ◌∷◌, ◌++◌, length, take, refl, sym, ◌∙◌, ap, subst, arith, length-append, length-take, length-drop, Option, Some, None}
use Rattle.std.specs.List.{Contains, AllByRecursion}
use Rattle.std.specs.Map.{lookup}
use Rattle.lru.specs.LruCache.{IsValid}
use Rattle.std.specs.Option.{IfSome, is_some, option_map, option_or}
use Rattle.std.proofs.lemmas.Bool.{cases_Bool, cases_eq, cases_lt, eq-eqb, ne_eqb, false≢true, true≢false}
use Rattle.std.proofs.lemmas.List.Elements.{Contains-push_cases}
use Rattle.std.proofs.lemmas.Option.{none-some, same_Some}
use Rattle.disk_model.specs.Disk.{Content, OnlyAdds, AddsSome, last_image, last_candidate, with_run}
use Rattle.disk_model.specs.Identity.{DiskIdentity}
use Rattle.disk_model.specs.Moments.{EachMoment, EachSince, FromStart, HasNow, IsChangedBy, content_now}
use Rattle.disk_model.proofs.DiskLemmas.{last_image-with_one, last_image-with_other, sector_in-one, with_run-other, with_sectors-in}
use Rattle.disk_model.proofs.MomentsLemmas.{EachMoment-weaker, FromStart-weaker, adds_wider}
use Rattle.buffer_cache.specs.declared.held.Held.{Held}
use Rattle.buffer_cache.specs.declared.held.HeldSectors.{HeldSectors}
use Rattle.buffer_cache.specs.declared.held.Scratch.{Scratch}
use Rattle.buffer_cache.specs.HeldSectors.{held_in, in_scratch, changed_scratch, in_front, with_change, with_held_piece, with_piece, with_recent, no_sectors, unmarked, CanPutOut, HoldsAlso, IsFree, IsLast}
use Rattle.buffer_cache.specs.Cached.{Changes, IsAmidWriteBack, IsWrittenBack, held_or, cached, piece_of, with_given_piece, marked_of, is_marked, Agrees, IsOfDisk, Keeps, with_marked, IsOfMarked, IsAmidMarked, IsLeastRecent, IsMarkedSector, IsPutOut, IsRead, IsScratch, HasNoMark}
use Rattle.buffer_cache.proofs.HeldLemmas.{held_in-with_change, held_in-with_change_other, held_in-in_front, held_in-recent, held_in-scratch, in_scratch-here, in_scratch-other, last_goes_out, lookup-changed_at, lookup-changed_other, lookup-last, lookup-promoted, lookup-take, lookup-with_recent, lookup-with_recent_other, missed_in_both}

-- ---- moments

-- The content at the end, and what relates it to that at the start.
pub record Told (P : Content → Content → Type 0) (a b : List Content) : Type 0 where
  pub each : (d : Content) → content_now b ≡ Some d → (c : Content) × (content_now a ≡ Some c) × P c d

pub told_at_end : {a b : List Content} (P : Content → Content → Type 0) → ((c : Content) → P c c) → EachMoment a b (FromStart a P) → Told P a b
told_at_end {a} {b} P same m = record { each = λ d told. at_end a m.since m.each d (subst (λ (h : List Content). content_now h ≡ Some d) m.grows told) }
  where
    from_start : (h : List Content) (d : Content) → FromStart h P d → (c : Content) × (content_now h ≡ Some c) × P c d
    from_start [] d p = absurd p
    from_start (c ∷ h) d p = (c, refl, p)

    at_end : (h since : List Content) → AllByRecursion (FromStart h P) since → (d : Content) → content_now (since ++ h) ≡ Some d → (c : Content) × (content_now h ≡ Some c) × P c d
    at_end h [] each d told = (d, told, same d)
    at_end h (x ∷ since) each d told = let e : x ≡ d = same_Some _ _ told in from_start h d (subst (FromStart h P) e each.0)

-- ---- one sector that is written

-- What it holds at other sectors.
with_marked-other : (at s : ℕ) (o : Option Held) (c : Content) → ((held : Held) → o ≡ Some held → length held.bytes ≡ 512) → s ≢ at → last_image (with_marked at o c) s ≡ last_image c s
with_marked-other at s None c whole ne = refl
with_marked-other at s (Some held) c whole ne = elim (cases_Bool held.marked) [
  | inl y ↦ ap (λ (b : Bool). last_image (if b then with_run at held.bytes c else c) s) y ∙ last_image-with_other at held.bytes c s (whole held refl) ne
  | inr n ↦ ap (λ (b : Bool). last_image (if b then with_run at held.bytes c else c) s) n
]

-- Behind the write the disk reads what was held.
with_marked-here : (at : ℕ) (o : Option Held) (c : Content) → ((held : Held) → o ≡ Some held → length held.bytes ≡ 512)
    → (marked_of o ≡ false → held_or o (last_image c at) ≡ last_image c at) → held_or o (last_image c at) ≡ last_image (with_marked at o c) at
with_marked-here at None c whole agrees = refl
with_marked-here at (Some held) c whole agrees = elim (cases_Bool held.marked) [
  | inl y ↦ sym (ap (λ (b : Bool). last_image (if b then with_run at held.bytes c else c) at) y ∙ last_image-with_one at held.bytes c (whole held refl))
  | inr n ↦ agrees n ∙ sym (ap (λ (b : Bool). last_image (if b then with_run at held.bytes c else c) at) n)
]

unmarked_bytes : (o : Option Held) (read : List ℕ) → held_or (option_map unmarked o) read ≡ held_or o read
unmarked_bytes None read = refl
unmarked_bytes (Some held) read = refl

unmarked_mark : (o : Option Held) → marked_of (option_map unmarked o) ≡ false
unmarked_mark None = refl
unmarked_mark (Some held) = refl

held_or_read : (o : Option Held) (x y : List ℕ) → (o ≡ None → x ≡ y) → held_or o x ≡ held_or o y
held_or_read None x y same = same refl
held_or_read (Some held) x y same = refl

-- What the cache gives is the same, once a sector is written.
pub cached-written : (sectors : HeldSectors) (at : ℕ) (c : Content) → ((s : ℕ) (held : Held) → held_in sectors s ≡ Some held → length held.bytes ≡ 512) → Agrees sectors c
    → (s : ℕ) → cached (with_change at unmarked sectors) (with_marked at (held_in sectors at) c) s ≡ cached sectors c s
cached-written sectors at c whole agrees s = elim (cases_eq s at) [
  | inl same ↦ subst (λ (k : ℕ). cached (with_change at unmarked sectors) (with_marked at (held_in sectors at) c) k ≡ cached sectors c k) (sym same) (
      ap (λ (o : Option Held). held_or o (last_image (with_marked at (held_in sectors at) c) at)) (held_in-with_change at unmarked sectors)
      ∙ unmarked_bytes (held_in sectors at) (last_image (with_marked at (held_in sectors at) c) at)
      ∙ held_or_read (held_in sectors at) (last_image (with_marked at (held_in sectors at) c) at) (last_image c at) (λ missed. ap (λ (o : Option Held). last_image (with_marked at o c) at) missed))
  | inr ne ↦
      ap (λ (o : Option Held). held_or o (last_image (with_marked at (held_in sectors at) c) s)) (held_in-with_change_other at s unmarked sectors ne)
      ∙ ap (held_or (held_in sectors s)) (with_marked-other at s (held_in sectors at) c (whole at) ne)
]

-- And the disk agrees with it.
pub Agrees-written : (sectors : HeldSectors) (at : ℕ) (c : Content) → ((s : ℕ) (held : Held) → held_in sectors s ≡ Some held → length held.bytes ≡ 512) → Agrees sectors c
    → Agrees (with_change at unmarked sectors) (with_marked at (held_in sectors at) c)
Agrees-written sectors at c whole agrees = record {
  each = λ s clear. cached-written sectors at c whole agrees s ∙ elim (cases_eq s at) [
    | inl same ↦ subst (λ (k : ℕ). cached sectors c k ≡ last_image (with_marked at (held_in sectors at) c) k) (sym same)
        (with_marked-here at (held_in sectors at) c (whole at) (agrees.each at))
    | inr ne ↦
        agrees.each s (ap marked_of (sym (held_in-with_change_other at s unmarked sectors ne)) ∙ clear)
        ∙ sym (with_marked-other at s (held_in sectors at) c (whole at) ne)
  ];
}

-- ---- a change of one sector

option_map-some : (f : Held → Held) (o : Option Held) (held : Held) → option_map f o ≡ Some held → (was : Held) × (o ≡ Some was) × (held ≡ f was)
option_map-some f None held e = absurd (none-some held e)
option_map-some f (Some was) held e = (was, refl, sym (same_Some _ _ e))

-- What holds of all that is held, and of a changed one, holds after a change.
pub each-with_change : (P : ℕ → Held → Type 0) (sectors : HeldSectors) (at : ℕ) (f : Held → Held) → ((held : Held) → P at held → P at (f held))
    → ((s : ℕ) (held : Held) → held_in sectors s ≡ Some held → P s held) → (s : ℕ) (held : Held) → held_in (with_change at f sectors) s ≡ Some held → P s held
each-with_change P sectors at f keeps each s held e = elim (cases_eq s at) [
  | inl same ↦
      let was = option_map-some f (held_in sectors at) held (sym (held_in-with_change at f sectors) ∙ ap (held_in (with_change at f sectors)) (sym same) ∙ e) in
      subst (λ (k : ℕ). P k held) (sym same) (subst (P at) (sym was.2) (keeps was.0 (each at was.0 was.1)))
  | inr ne ↦ each s held (sym (held_in-with_change_other at s f sectors ne) ∙ e)
]

-- The sector of the scratch buffer stays.
scratch-changed : (at : ℕ) (f : Held → Held) (o : Option Scratch) (scratch : Scratch) → changed_scratch at f o ≡ Some scratch → (was : Scratch) × (o ≡ Some was) × (scratch.at ≡ was.at)
scratch-changed at f None scratch e = absurd (none-some scratch e)
scratch-changed at f (Some was) scratch e = elim (cases_Bool (nat_eq was.at at)) [
  | inl y ↦ (was, refl, sym (ap (λ (s : Scratch). s.at) (same_Some _ _ (sym (ap (λ (b : Bool). if b then Some (record was { held = f was.held }) else Some was) y) ∙ e))))
  | inr n ↦ (was, refl, sym (ap (λ (s : Scratch). s.at) (same_Some _ _ (sym (ap (λ (b : Bool). if b then Some (record was { held = f was.held }) else Some was) n) ∙ e))))
]

-- Each sector stands in one place, as before.
pub apart-with_change : (sectors : HeldSectors) (at : ℕ) (f : Held → Held) → ((scratch : Scratch) → sectors.scratch ≡ Some scratch → lookup (nat_eq scratch.at) sectors.recent.entries ≡ None)
    → (scratch : Scratch) → (with_change at f sectors).scratch ≡ Some scratch → lookup (nat_eq scratch.at) (with_change at f sectors).recent.entries ≡ None
apart-with_change sectors at f apart scratch e =
    let was = scratch-changed at f sectors.scratch scratch e in
    let absent : lookup (nat_eq scratch.at) sectors.recent.entries ≡ None = ap (λ (k : ℕ). lookup (nat_eq k) sectors.recent.entries) was.2 ∙ apart was.0 was.1 in
    elim (cases_eq scratch.at at) [
      | inl same ↦
          ap (λ (k : ℕ). lookup (nat_eq k) (with_change at f sectors).recent.entries) same
          ∙ lookup-changed_at at f sectors.recent.entries
          ∙ ap (option_map f) (ap (λ (k : ℕ). lookup (nat_eq k) sectors.recent.entries) (sym same) ∙ absent)
      | inr ne ↦ lookup-changed_other at scratch.at f sectors.recent.entries ne ∙ absent
    ]

-- ---- writing what is held of a sector

-- The content now is that after the write of the content before.
pub changed_now : (f : Content → Content) (old new : Option Content) → new ≡ option_map f old → (d : Content) → new ≡ Some d → (c : Content) × (old ≡ Some c) × (d ≡ f c)
changed_now f None new e d told = absurd (none-some d (sym e ∙ told))
changed_now f (Some c) new e d told = (c, refl, sym (same_Some _ _ (sym e ∙ told)))

-- The sector was written, and its mark is cleared.
pub IsOfDisk-written : (disk : DiskIdentity) {a b : List Content} (sectors : HeldSectors) (at : ℕ) → IsOfDisk sectors disk a → IsChangedBy (with_marked at (held_in sectors at)) a b → IsOfDisk (with_change at unmarked sectors) disk b
IsOfDisk-written disk {a} {b} sectors at is written = record {
  within = each-with_change (λ s held. s < disk.sectors) sectors at unmarked (λ held low. low) is.within;
  whole = each-with_change (λ s held. length held.bytes ≡ 512) sectors at unmarked (λ held size. size) is.whole;
  apart = apart-with_change sectors at unmarked is.apart;
  agrees = λ d told.
      let start = changed_now (with_marked at (held_in sectors at)) (content_now a) (content_now b) written d told in
      subst (Agrees (with_change at unmarked sectors)) (sym start.2) (Agrees-written sectors at start.0 is.whole (is.agrees start.0 start.1));
}

pub Keeps-written : (disk : DiskIdentity) {a b : List Content} (sectors : HeldSectors) (at : ℕ) → IsOfDisk sectors disk a → IsChangedBy (with_marked at (held_in sectors at)) a b → Keeps sectors (with_change at unmarked sectors) a b
Keeps-written disk {a} {b} sectors at is written = record {
  given = λ c told d told_end s.
      let start = changed_now (with_marked at (held_in sectors at)) (content_now a) (content_now b) written d told_end in
      let same : start.0 ≡ c = same_Some _ _ (sym start.1 ∙ told) in
      ap (λ (x : Content). cached (with_change at unmarked sectors) x s) (start.2 ∙ ap (with_marked at (held_in sectors at)) same)
      ∙ cached-written sectors at c is.whole (is.agrees c told) s;
  marked = λ s marked. elim (cases_eq s at) [
    | inl same ↦ absurd (false≢true (sym (ap marked_of (held_in-with_change at unmarked sectors) ∙ unmarked_mark (held_in sectors at)) ∙ ap (is_marked (with_change at unmarked sectors)) (sym same) ∙ marked))
    | inr ne ↦ held_in-with_change_other at s unmarked sectors ne
  ];
  slots = refl;
}

-- The write failed: the sector has its bytes as one more candidate, or not.
pub amid_same : (at : ℕ) (o : Option Held) (c : Content) → IsAmidMarked at o c c
amid_same at o c = record { each = λ s. inl refl }

pub Agrees-amid : (sectors : HeldSectors) (at : ℕ) (c d : Content) → Agrees sectors c → IsAmidMarked at (held_in sectors at) c d → Agrees sectors d
Agrees-amid sectors at c d agrees amid = record {
  each = λ s clear. elim (amid.each s) [
    | inl same ↦ ap (λ (xs : List (List ℕ)). held_or (held_in sectors s) (last_candidate xs)) same ∙ agrees.each s clear ∙ sym (ap last_candidate same)
    | inr more ↦ absurd (false≢true (sym clear ∙ ap (is_marked sectors) more.0 ∙ ap marked_of more.2.is ∙ more.2.marked))
  ];
}

pub cached-amid : (sectors : HeldSectors) (at : ℕ) (c d : Content) → IsAmidMarked at (held_in sectors at) c d → (s : ℕ) → cached sectors d s ≡ cached sectors c s
cached-amid sectors at c d amid s = elim (amid.each s) [
  | inl same ↦ ap (λ (xs : List (List ℕ)). held_or (held_in sectors s) (last_candidate xs)) same
  | inr more ↦
      let found : held_in sectors s ≡ Some more.2.held = ap (held_in sectors) more.0 ∙ more.2.is in
      ap (λ (o : Option Held). held_or o (last_image d s)) found ∙ sym (ap (λ (o : Option Held). held_or o (last_image c s)) found)
]

pub IsOfDisk-amid : (disk : DiskIdentity) {a b : List Content} (sectors : HeldSectors) (at : ℕ) → IsOfDisk sectors disk a → EachSince (IsAmidMarked at (held_in sectors at)) a b → IsOfDisk sectors disk b
IsOfDisk-amid disk sectors at is moments = record {
  within = is.within;
  whole = is.whole;
  apart = is.apart;
  agrees = λ d told.
      let start = (told_at_end (IsAmidMarked at (held_in sectors at)) (amid_same at (held_in sectors at)) moments).each d told in
      Agrees-amid sectors at start.0 d (is.agrees start.0 start.1) start.2;
}

pub Keeps-amid : {a b : List Content} (sectors : HeldSectors) (at : ℕ) → EachSince (IsAmidMarked at (held_in sectors at)) a b → Keeps sectors sectors a b
Keeps-amid sectors at moments = record {
  given = λ c told d told_end s.
      let start = (told_at_end (IsAmidMarked at (held_in sectors at)) (amid_same at (held_in sectors at)) moments).each d told_end in
      let same : start.0 ≡ c = same_Some _ _ (sym start.1 ∙ told) in
      cached-amid sectors at c d (subst (λ (x : Content). IsAmidMarked at (held_in sectors at) x d) same start.2) s;
  marked = λ s marked. refl;
  slots = refl;
}

-- What is written of a marked sector, told by the candidates.
pub amid_adds : {a b : List Content} (W : ℕ → List ℕ → Type 0) (at : ℕ) (o : Option Held) → ((x : List ℕ) → IsOfMarked o x → W at x) → EachSince (IsAmidMarked at o) a b → EachSince (OnlyAdds W) a b
amid_adds {a} W at o allowed moments = EachMoment-weaker (FromStart-weaker a (IsAmidMarked at o) (OnlyAdds W) (λ start c told amid. record {
  among = λ s x has. elim (amid.each s) [
    | inl same ↦ inl (subst (λ (xs : List (List ℕ)). Contains xs x) same has)
    | inr more ↦ ⊎_elim inl
        (λ e. inr (subst (λ (k : ℕ). W k x) (sym more.0) (subst (W at) e (allowed more.1 more.2))))
        (Contains-push_cases (start s) more.1 x (subst (λ (xs : List (List ℕ)). Contains xs x) more.3 has))
  ];
})) moments

-- A write of one marked sector is such.
pub write_amid : {a b : List Content} (at : ℕ) (held : Held) → length held.bytes ≡ 512 → held.marked ≡ true → EachSince (AddsSome at held.bytes) a b → EachSince (IsAmidMarked at (Some held)) a b
write_amid {a} at held size marked moments = EachMoment-weaker (FromStart-weaker a (AddsSome at held.bytes) (IsAmidMarked at (Some held)) (λ start c told adds. record {
  each = λ s. elim (adds s) [
    | inl same ↦ inl same
    | inr more ↦ elim (cases_eq s at) [
      | inl here ↦
          let grown : with_run at held.bytes start at ≡ start at ++ held.bytes ∷ [] =
          with_sectors-in (length held.bytes / 512) at held.bytes start at (omega arith) (omega (arith, size))
          ∙ ap (λ (x : List ℕ). start at ++ x ∷ []) (sector_in-one held.bytes at size) in
          inr (
            here,
            held.bytes,
            record { held = held; is = refl; marked = marked; bytes = refl },
            more ∙ ap (with_run at held.bytes start) here ∙ grown ∙ ap (λ (k : ℕ). start k ++ held.bytes ∷ []) (sym here),
          )
      | inr ne ↦ inl (more ∙ with_run-other at held.bytes start s size ne)
    ]
  ];
})) moments

-- ---- another sector comes in

-- One sector comes in, and each other one stays as it is held, or goes, where it is not marked.
pub record Replaces (at : ℕ) (held : Held) (old new : HeldSectors) : Type 0 where
  pub in_ : held_in new at ≡ Some held
  pub others : (s : ℕ) → s ≢ at → (held_in new s ≡ held_in old s) ⊎ ((held_in new s ≡ None) × (is_marked old s ≡ false))
  pub slots : new.recent.cap ≡ old.recent.cap

each-replaced : (P : ℕ → Held → Type 0) (at : ℕ) (held : Held) (old new : HeldSectors) → Replaces at held old new → P at held
    → ((s : ℕ) (h : Held) → held_in old s ≡ Some h → P s h) → (s : ℕ) (h : Held) → held_in new s ≡ Some h → P s h
each-replaced P at held old new replaces one each s h e = elim (cases_eq s at) [
  | inl same ↦
      let is : held ≡ h = same_Some _ _ (sym replaces.in_ ∙ ap (held_in new) (sym same) ∙ e) in
      subst (λ (k : ℕ). P k h) (sym same) (subst (P at) is one)
  | inr ne ↦ elim (replaces.others s ne) [
    | inl stays ↦ each s h (sym stays ∙ e)
    | inr goes ↦ absurd (none-some h (sym goes.0 ∙ e))
  ]
]

cached-replaced : (at : ℕ) (held : Held) (old new : HeldSectors) (c : Content) → Replaces at held old new → held_in old at ≡ None → held.bytes ≡ last_image c at → Agrees old c
    → (s : ℕ) → cached new c s ≡ cached old c s
cached-replaced at held old new c replaces missed read agrees s = elim (cases_eq s at) [
  | inl same ↦ subst (λ (k : ℕ). cached new c k ≡ cached old c k) (sym same)
      (ap (λ (o : Option Held). held_or o (last_image c at)) replaces.in_ ∙ read ∙ sym (ap (λ (o : Option Held). held_or o (last_image c at)) missed))
  | inr ne ↦ elim (replaces.others s ne) [
    | inl stays ↦ ap (λ (o : Option Held). held_or o (last_image c s)) stays
    | inr goes ↦ ap (λ (o : Option Held). held_or o (last_image c s)) goes.0 ∙ sym (agrees.each s goes.1)
  ]
]

Agrees-replaced : (at : ℕ) (held : Held) (old new : HeldSectors) (c : Content) → Replaces at held old new → held_in old at ≡ None → held.bytes ≡ last_image c at → Agrees old c → Agrees new c
Agrees-replaced at held old new c replaces missed read agrees = record {
  each = λ s clear. cached-replaced at held old new c replaces missed read agrees s ∙ elim (cases_eq s at) [
    | inl same ↦ agrees.each s (ap (is_marked old) same ∙ ap marked_of missed)
    | inr ne ↦ elim (replaces.others s ne) [
      | inl stays ↦ agrees.each s (ap marked_of (sym stays) ∙ clear)
      | inr goes ↦ agrees.each s goes.1
    ]
  ];
}

pub IsOfDisk-replaced : (disk : DiskIdentity) (m : List Content) (at : ℕ) (held : Held) (old new : HeldSectors) → IsOfDisk old disk m → at < disk.sectors → held_in old at ≡ None → IsRead at held m → Replaces at held old new
    → ((scratch : Scratch) → new.scratch ≡ Some scratch → lookup (nat_eq scratch.at) new.recent.entries ≡ None) → IsOfDisk new disk m
IsOfDisk-replaced disk m at held old new is low missed read replaces apart = record {
  within = each-replaced (λ s h. s < disk.sectors) at held old new replaces low is.within;
  whole = each-replaced (λ s h. length h.bytes ≡ 512) at held old new replaces read.whole is.whole;
  apart = apart;
  agrees = λ c told. Agrees-replaced at held old new c replaces missed (read.read c told) (is.agrees c told);
}

pub Keeps-replaced : (disk : DiskIdentity) (m : List Content) (at : ℕ) (held : Held) (old new : HeldSectors) → IsOfDisk old disk m → held_in old at ≡ None → IsRead at held m → Replaces at held old new → Keeps old new m m
Keeps-replaced disk m at held old new is missed read replaces = record {
  given = λ c told d told_end s.
      let same : d ≡ c = same_Some _ _ (sym told_end ∙ told) in
      ap (λ (x : Content). cached new x s) same ∙ cached-replaced at held old new c replaces missed (read.read c told) (is.agrees c told) s;
  marked = λ s marked. elim (cases_eq s at) [
    | inl same ↦ absurd (false≢true (sym read.marked ∙ sym (ap marked_of replaces.in_) ∙ ap (is_marked new) (sym same) ∙ marked))
    | inr ne ↦ elim (replaces.others s ne) [
      | inl stays ↦ stays
      | inr goes ↦ absurd (false≢true (sym (ap marked_of goes.0) ∙ marked))
    ]
  ];
  slots = replaces.slots;
}

pub HoldsAlso-replaced : (at : ℕ) (held : Held) (old new : HeldSectors) → Replaces at held old new → HoldsAlso at old new
HoldsAlso-replaced at held old new replaces = record { each = λ s ne missed. ⊎_elim (λ stays. stays ∙ missed) (λ goes. goes.0) (replaces.others s ne) }

-- A sector comes in among the recent ones.
pub Replaces-recent : (at : ℕ) (held : Held) (sectors : HeldSectors) → CanPutOut sectors → held_in sectors at ≡ None
    → ((scratch : Scratch) → sectors.scratch ≡ Some scratch → lookup (nat_eq scratch.at) sectors.recent.entries ≡ None) → Replaces at held sectors (with_recent at held sectors)
Replaces-recent at held sectors can missed apart = record {
  in_ = held_in-recent (with_recent at held sectors) at held (lookup-with_recent at held sectors missed);
  others = λ s ne.
      let now : held_in (with_recent at held sectors) s ≡ option_or (lookup (nat_eq s) (take (sectors.recent.cap - 1) sectors.recent.entries)) (in_scratch sectors.scratch s) =
      ap (λ (o : Option Held). option_or o (in_scratch sectors.scratch s)) (lookup-with_recent_other at s held sectors missed ne) in
      elim (lookup-take s (sectors.recent.cap - 1) sectors.recent.entries) [
        | inl same ↦ inl (now ∙ ap (λ (o : Option Held). option_or o (in_scratch sectors.scratch s)) same)
        | inr behind ↦ inr (
          now ∙ ap (λ (o : Option Held). option_or o (in_scratch sectors.scratch s)) behind.4 ∙ out_of_scratch sectors.scratch s behind.1 apart behind.5,
          ap marked_of (held_in-recent sectors s behind.1 behind.5) ∙ last_goes_out sectors s behind.0 behind.1 can behind.2 behind.3,
        )
      ];
  slots = refl;
}
  where
    out_of_scratch : (o : Option Scratch) (s : ℕ) (h : Held) → ((scratch : Scratch) → o ≡ Some scratch → lookup (nat_eq scratch.at) sectors.recent.entries ≡ None)
        → lookup (nat_eq s) sectors.recent.entries ≡ Some h → in_scratch o s ≡ None
    out_of_scratch None s h apart found = refl
    out_of_scratch (Some scratch) s h apart found = in_scratch-other scratch s (λ same. none-some h (sym (apart scratch refl) ∙ ap (λ (k : ℕ). lookup (nat_eq k) sectors.recent.entries) (sym same) ∙ found))

pub apart-recent : (at : ℕ) (held : Held) (sectors : HeldSectors) → held_in sectors at ≡ None
    → ((scratch : Scratch) → sectors.scratch ≡ Some scratch → lookup (nat_eq scratch.at) sectors.recent.entries ≡ None)
    → (scratch : Scratch) → sectors.scratch ≡ Some scratch → lookup (nat_eq scratch.at) (with_recent at held sectors).recent.entries ≡ None
apart-recent at held sectors missed apart scratch is =
    let ne : scratch.at ≢ at = λ same. none-some scratch.held (
    sym (missed_in_both sectors at missed).1 ∙ ap (λ (o : Option Scratch). in_scratch o at) is ∙ ap (in_scratch (Some scratch)) (sym same) ∙ in_scratch-here scratch) in
    lookup-with_recent_other at scratch.at held sectors missed ne ∙ elim (lookup-take scratch.at (sectors.recent.cap - 1) sectors.recent.entries) [
      | inl same ↦ same ∙ apart scratch is
      | inr behind ↦ behind.4
    ]

-- A sector comes into the scratch buffer.
pub Replaces-scratch : (at : ℕ) (held : Held) (sectors : HeldSectors) → IsFree sectors → held_in sectors at ≡ None → Replaces at held sectors (record { recent = sectors.recent; scratch = Some (record { at = at; held = held }) })
Replaces-scratch at held sectors free missed = record {
  in_ = held_in-scratch (record { recent = sectors.recent; scratch = Some (record { at = at; held = held }) }) at (missed_in_both sectors at missed).0 ∙ in_scratch-here (record { at = at; held = held });
  others = λ s ne.
      let off : in_scratch (Some (record { at = at; held = held })) s ≡ None = in_scratch-other (record { at = at; held = held }) s ne in
      others_of s (lookup (nat_eq s) sectors.recent.entries) sectors.scratch (in_scratch (Some (record { at = at; held = held })) s) off free.free;
  slots = refl;
}
  where
    others_of : (s : ℕ) (a : Option Held) (o : Option Scratch) (now : Option Held) → now ≡ None → ((scratch : Scratch) → o ≡ Some scratch → scratch.held.marked ≡ false)
        → (option_or a now ≡ option_or a (in_scratch o s)) ⊎ ((option_or a now ≡ None) × (marked_of (option_or a (in_scratch o s)) ≡ false))
    others_of s (Some h) o now off free = inl refl
    others_of s None None now off free = inl off
    others_of s None (Some scratch) now off free = elim (cases_Bool (nat_eq scratch.at s)) [
      | inl y ↦ inr (off, ap (λ (b : Bool). marked_of (if b then Some scratch.held else None)) y ∙ free scratch refl)
      | inr n ↦ inl (off ∙ sym (ap (λ (b : Bool). if b then Some scratch.held else None) n))
    ]

pub apart-scratch : (at : ℕ) (held : Held) (sectors : HeldSectors) → held_in sectors at ≡ None
    → (scratch : Scratch) → Some (record { at = at; held = held }) ≡ Some scratch → lookup (nat_eq scratch.at) sectors.recent.entries ≡ None
apart-scratch at held sectors missed scratch is =
    ap (λ (s : Scratch). lookup (nat_eq s.at) sectors.recent.entries) (sym (same_Some _ _ is)) ∙ (missed_in_both sectors at missed).0

-- What is marked now was so before.
marked_of_before : {a b : List Content} (old new : HeldSectors) (s : ℕ) (x : List ℕ) → Keeps old new a b → IsMarkedSector new s x → IsMarkedSector old s x
marked_of_before old new s x keeps of = record { held = of.held; is = sym (keeps.marked s (ap marked_of of.is ∙ of.marked)) ∙ of.is; marked = of.marked; bytes = of.bytes }

-- What was read of a sector that is not held, a later read gives too.
pub read_later : {a b : List Content} (P : Content → Content → Type 0) (at : ℕ) (bytes : List ℕ) (old new : HeldSectors) → ((c : Content) → P c c) → EachMoment a b (FromStart a P)
    → Keeps old new a b → held_in old at ≡ None → held_in new at ≡ None → HasNow (λ c. bytes ≡ last_image c at) a → HasNow (λ c. bytes ≡ last_image c at) b
read_later P at bytes old new same moments keeps missed missed_now read d told =
    let start = (told_at_end P same moments).each d told in
    read start.0 start.1
    ∙ sym (ap (λ (o : Option Held). held_or o (last_image start.0 at)) missed)
    ∙ sym (keeps.given start.0 start.1 d told at)
    ∙ ap (λ (o : Option Held). held_or o (last_image d at)) missed_now

pub IsRead-later : {a b : List Content} (P : Content → Content → Type 0) (at : ℕ) (held : Held) (old new : HeldSectors) → ((c : Content) → P c c) → EachMoment a b (FromStart a P)
    → Keeps old new a b → held_in old at ≡ None → held_in new at ≡ None → IsRead at held a → IsRead at held b
IsRead-later P at held old new same moments keeps missed missed_now read = record {
  whole = read.whole;
  marked = read.marked;
  read = read_later P at held.bytes old new same moments keeps missed missed_now read.read;
}

-- The scratch buffer is as it was.
pub scratch_of_before : {a b : List Content} (old new : HeldSectors) (s : ℕ) (x : List ℕ) → Keeps old new a b → new.scratch ≡ old.scratch → IsScratch new s x → IsScratch old s x
scratch_of_before old new s x keeps same out = record {
  there = ap (λ (o : Option Scratch). is_some (in_scratch o s)) (sym same) ∙ out.there;
  marked = marked_of_before old new s x keeps out.marked;
}

-- ---- steps in a row

pub Keeps-same : (sectors : HeldSectors) (m : List Content) → Keeps sectors sectors m m
Keeps-same sectors m = record {
  given = λ c told d told_end s. ap (λ (x : Content). cached sectors x s) (same_Some _ _ (sym told_end ∙ told));
  marked = λ s marked. refl;
  slots = refl;
}

pub Keeps-then : {a b c : List Content} (P : Content → Content → Type 0) (r s t : HeldSectors) → ((x : Content) → P x x) → EachMoment b c (FromStart b P) → Keeps r s a b → Keeps s t b c → Keeps r t a c
Keeps-then P r s t same moments first second = record {
  given = λ x told z told_end sector.
      let middle = (told_at_end P same moments).each z told_end in
      second.given middle.0 middle.1 z told_end sector ∙ first.given x told middle.0 middle.1 sector;
  marked = λ sector marked.
      let before = second.marked sector marked in
      before ∙ first.marked sector (ap marked_of (sym before) ∙ marked);
  slots = second.slots ∙ first.slots;
}

-- What is held is the same in each sector.
pub IsOfDisk-in_front : (disk : DiskIdentity) (m : List Content) (at : ℕ) (sectors : HeldSectors) → IsOfDisk sectors disk m → IsOfDisk (in_front at sectors) disk m
IsOfDisk-in_front disk m at sectors is = record {
  within = λ s held e. is.within s held (sym (held_in-in_front at s sectors) ∙ e);
  whole = λ s held e. is.whole s held (sym (held_in-in_front at s sectors) ∙ e);
  apart = λ scratch e. lookup-promoted at scratch.at sectors.recent.entries ∙ is.apart scratch e;
  agrees = λ c told. record {
    each = λ s clear.
        ap (λ (o : Option Held). held_or o (last_image c s)) (held_in-in_front at s sectors)
        ∙ (is.agrees c told).each s (ap marked_of (sym (held_in-in_front at s sectors)) ∙ clear);
  };
}

pub Keeps-in_front : (m : List Content) (at : ℕ) (sectors : HeldSectors) → Keeps sectors (in_front at sectors) m m
Keeps-in_front m at sectors = record {
  given = λ c told d told_end s.
      ap (λ (o : Option Held). held_or o (last_image d s)) (held_in-in_front at s sectors)
      ∙ ap (λ (x : Content). cached sectors x s) (same_Some _ _ (sym told_end ∙ told));
  marked = λ s marked. held_in-in_front at s sectors;
  slots = refl;
}

-- ---- the sectors that go out

-- The least recently used sector is found.
pub last_is_held : (sectors : HeldSectors) (at : ℕ) → IsValid nat_eq sectors.recent → (last : IsLast sectors.recent at) → held_in sectors at ≡ Some last.held
last_is_held sectors at valid last = held_in-recent sectors at last.held (lookup-last sectors.recent at last.held valid.0 last.is)

-- Where it goes out, the scratch buffer stays.
pub scratch_stays : (sectors : HeldSectors) (at : ℕ) → ((scratch : Scratch) → sectors.scratch ≡ Some scratch → lookup (nat_eq scratch.at) sectors.recent.entries ≡ None)
    → IsValid nat_eq sectors.recent → IsLast sectors.recent at → changed_scratch at unmarked sectors.scratch ≡ sectors.scratch
scratch_stays sectors at apart valid last = stays sectors.scratch apart
  where
    stays : (o : Option Scratch) → ((scratch : Scratch) → o ≡ Some scratch → lookup (nat_eq scratch.at) sectors.recent.entries ≡ None) → changed_scratch at unmarked o ≡ o
    stays None apart = refl
    stays (Some scratch) apart =
        let off : nat_eq scratch.at at ≡ false = ne_eqb scratch.at at (λ same. none-some last.held (sym (apart scratch refl) ∙ ap (λ (k : ℕ). lookup (nat_eq k) sectors.recent.entries) same ∙ lookup-last sectors.recent at last.held valid.0 last.is)) in
        ap (λ (b : Bool). if b then Some (record scratch { held = unmarked scratch.held }) else Some scratch) off

pub adds_least_recent : {a b : List Content} (sectors : HeldSectors) (at : ℕ) → IsLast sectors.recent at → EachSince (IsAmidMarked at (held_in sectors at)) a b → EachSince (OnlyAdds (IsLeastRecent sectors)) a b
adds_least_recent sectors at last moments = amid_adds (IsLeastRecent sectors) at (held_in sectors at) (λ x of. record { last = last; marked = of }) moments

-- Which sector stands in the scratch buffer.
pub scratch_told : (at : ℕ) (o : Option Scratch) → Some at ≡ option_map (λ (s : Scratch). s.at) o → (scratch : Scratch) × (o ≡ Some scratch) × (scratch.at ≡ at)
scratch_told at None e = absurd (none-some at (sym e))
scratch_told at (Some scratch) e = (scratch, refl, sym (same_Some _ _ e))

pub no_scratch : (sectors : HeldSectors) → None ≡ option_map (λ (s : Scratch). s.at) sectors.scratch → IsFree sectors
no_scratch sectors e = record { free = λ scratch is. absurd (none-some scratch.at (e ∙ ap (option_map (λ (s : Scratch). s.at)) is)) }

pub scratch_is_held : (sectors : HeldSectors) (scratch : Scratch) → sectors.scratch ≡ Some scratch → lookup (nat_eq scratch.at) sectors.recent.entries ≡ None → held_in sectors scratch.at ≡ Some scratch.held
scratch_is_held sectors scratch is apart = held_in-scratch sectors scratch.at apart ∙ ap (λ (o : Option Scratch). in_scratch o scratch.at) is ∙ in_scratch-here scratch

pub IsFree-unmarked : (sectors : HeldSectors) (at : ℕ) (scratch : Scratch) → sectors.scratch ≡ Some scratch → scratch.at ≡ at → IsFree (with_change at unmarked sectors)
IsFree-unmarked sectors at scratch is place = record {
  free = λ now e.
      let test : nat_eq scratch.at at ≡ true = eq-eqb scratch.at at place in
      let cleared : Some (record scratch { held = unmarked scratch.held }) ≡ Some now =
      sym (ap (changed_scratch at unmarked) is ∙ ap (λ (b : Bool). if b then Some (record scratch { held = unmarked scratch.held }) else Some scratch) test) ∙ e in
      ap (λ (s : Scratch). s.held.marked) (sym (same_Some _ _ cleared));
}

pub adds_scratch : {a b : List Content} (sectors : HeldSectors) (at : ℕ) (scratch : Scratch) → sectors.scratch ≡ Some scratch → scratch.at ≡ at
    → EachSince (IsAmidMarked at (held_in sectors at)) a b → EachSince (OnlyAdds (IsScratch sectors)) a b
adds_scratch sectors at scratch is place moments =
    let there : is_some (in_scratch sectors.scratch at) ≡ true =
    ap (λ (o : Option Scratch). is_some (in_scratch o at)) is ∙ ap (λ (k : ℕ). is_some (in_scratch (Some scratch) k)) (sym place) ∙ ap is_some (in_scratch-here scratch) in
    amid_adds (IsScratch sectors) at (held_in sectors at) (λ x of. record { there = there; marked = of }) moments

-- A step that leaves the disk as it is, after one that may not.
pub Keeps-after : {a b : List Content} (r s t : HeldSectors) → Keeps r s a b → Keeps s t b b → Keeps r t a b
Keeps-after {a} {b} r s t first second = Keeps-then (λ c d. d ≡ c) r s t (λ c. refl) (record { since = []; grows = refl; each = tt }) first second

-- A step before it that leaves the disk as it is.
pub Keeps-before : {a b : List Content} (r s t : HeldSectors) → Keeps r s a a → Keeps s t a b → Keeps r t a b
Keeps-before {a} {b} r s t first second = record {
  given = λ x told z told_end sector. second.given x told z told_end sector ∙ first.given x told x told sector;
  marked = λ sector marked.
      let before = second.marked sector marked in
      before ∙ first.marked sector (ap marked_of (sym before) ∙ marked);
  slots = second.slots ∙ first.slots;
}

-- ---- marks

-- What is not marked is not marked after a step.
pub stays_unmarked : {a b : List Content} (old new : HeldSectors) (s : ℕ) → Keeps old new a b → is_marked old s ≡ false → is_marked new s ≡ false
stays_unmarked old new s keeps clear = elim (cases_Bool (is_marked new s)) [
  | inl y ↦ absurd (false≢true (sym clear ∙ ap marked_of (sym (keeps.marked s y)) ∙ y))
  | inr n ↦ n
]

-- A sector that is written is not marked.
pub written_unmarked : (sectors : HeldSectors) (at : ℕ) → is_marked (with_change at unmarked sectors) at ≡ false
written_unmarked sectors at = ap marked_of (held_in-with_change at unmarked sectors) ∙ unmarked_mark (held_in sectors at)

-- ---- for the calls of a cache

-- The content at the end is told where that at the start is.
pub told_on : {a b : List Content} {P : Content → Type 0} → EachMoment a b P → (c : Content) → content_now a ≡ Some c → (d : Content) × (content_now b ≡ Some d)
told_on {a} {b} m c told = at_end m.since m.grows
  where
    at_end : (since : List Content) → b ≡ since ++ a → (d : Content) × (content_now b ≡ Some d)
    at_end [] grows = (c, ap content_now grows ∙ told)
    at_end (x ∷ since) grows = (x, ap content_now grows)

-- What is copied of a sector that is held is what the cache gave before.
pub read_is_given : {a b : List Content} {P : Content → Type 0} (at from size : ℕ) (out : List ℕ) (old new : HeldSectors) → EachMoment a b P → Keeps old new a b → is_some (held_in new at) ≡ true
    → IfSome (held_in new at) (λ held. out ≡ piece_of from size held.bytes) → HasNow (λ c. out ≡ piece_of from size (cached old c at)) a
read_is_given at from size out old new moments keeps found copied c told =
    let end = told_on moments c told in
    by_held (held_in new at) found copied end.0 ∙ ap (piece_of from size) (keeps.given c told end.0 end.1 at)
  where
    by_held : (o : Option Held) → is_some o ≡ true → IfSome o (λ held. out ≡ piece_of from size held.bytes) → (d : Content) → out ≡ piece_of from size (held_or o (last_image d at))
    by_held None found copied d = absurd (false≢true found)
    by_held (Some held) found copied d = copied

some_of : (o : Option Held) → is_some o ≡ true → (held : Held) × (o ≡ Some held)
some_of None found = absurd (false≢true found)
some_of (Some held) found = (held, refl)

-- A piece of a sector that was brought is changed.
pub changes_piece : {a b : List Content} (at from : ℕ) (piece : List ℕ) (old new : HeldSectors) → Keeps old new a b → is_some (held_in new at) ≡ true
    → Changes at from piece old (with_change at (with_held_piece from piece) new) a b
changes_piece at from piece old new keeps found =
    let held = some_of (held_in new at) found in
    let now : held_in (with_change at (with_held_piece from piece) new) at ≡ Some (with_held_piece from piece held.0) = held_in-with_change at (with_held_piece from piece) new ∙ ap (option_map (with_held_piece from piece)) held.1 in
    record {
      given = λ c told d told_end s. elim (cases_eq s at) [
        | inl same ↦ subst (λ (k : ℕ). cached (with_change at (with_held_piece from piece) new) d k ≡ with_given_piece at from piece (cached old c) k) (sym same) (
            ap (λ (o : Option Held). held_or o (last_image d at)) now
            ∙ ap (with_piece from piece) (sym (ap (λ (o : Option Held). held_or o (last_image d at)) held.1) ∙ keeps.given c told d told_end at)
            ∙ sym (ap (λ (t : Bool). if t then with_piece from piece (cached old c at) else cached old c at) (eq-eqb at at refl)))
        | inr ne ↦
            ap (λ (o : Option Held). held_or o (last_image d s)) (held_in-with_change_other at s (with_held_piece from piece) new ne)
            ∙ keeps.given c told d told_end s
            ∙ sym (ap (λ (t : Bool). if t then with_piece from piece (cached old c s) else cached old c s) (ne_eqb at s (λ e. ne (sym e))))
      ];
      marked = ap marked_of now;
      others = λ s ne marked.
          let same = held_in-with_change_other at s (with_held_piece from piece) new ne in
          same ∙ keeps.marked s (ap marked_of (sym same) ∙ marked);
      slots = keeps.slots;
    }

length-with_piece : (from : ℕ) (piece bytes : List ℕ) → from + length piece ≤ 512 → length bytes ≡ 512 → length (with_piece from piece bytes) ≡ 512
length-with_piece from piece bytes fits size = simp (length-append, length-take, length-drop) (omega arith)

pub IsOfDisk-piece : (disk : DiskIdentity) (m : List Content) (at from : ℕ) (piece : List ℕ) (sectors : HeldSectors) → from + length piece ≤ 512 → is_some (held_in sectors at) ≡ true
    → IsOfDisk sectors disk m → IsOfDisk (with_change at (with_held_piece from piece) sectors) disk m
IsOfDisk-piece disk m at from piece sectors fits found is = record {
  within = each-with_change (λ s held. s < disk.sectors) sectors at (with_held_piece from piece) (λ held low. low) is.within;
  whole = each-with_change (λ s held. length held.bytes ≡ 512) sectors at (with_held_piece from piece) (λ held size. length-with_piece from piece held.bytes fits size) is.whole;
  apart = apart-with_change sectors at (with_held_piece from piece) is.apart;
  agrees = λ c told. record {
    each = λ s clear. elim (cases_eq s at) [
      | inl same ↦
          let held = some_of (held_in sectors at) found in
          let now : held_in (with_change at (with_held_piece from piece) sectors) at ≡ Some (with_held_piece from piece held.0) = held_in-with_change at (with_held_piece from piece) sectors ∙ ap (option_map (with_held_piece from piece)) held.1 in
          absurd (true≢false (sym (ap marked_of now) ∙ ap (is_marked (with_change at (with_held_piece from piece) sectors)) (sym same) ∙ clear))
      | inr ne ↦
          let same = held_in-with_change_other at s (with_held_piece from piece) sectors ne in
          ap (λ (o : Option Held). held_or o (last_image c s)) same ∙ (is.agrees c told).each s (ap marked_of (sym same) ∙ clear)
    ];
  };
}

-- Where no sector is marked, the disk reads what the cache gave.
pub IsWrittenBack-none : (disk : DiskIdentity) {a b : List Content} (old new : HeldSectors) → IsOfDisk new disk b → Keeps old new a b → ((s : ℕ) → is_marked new s ≡ false) → IsWrittenBack old new a b
IsWrittenBack-none disk old new is keeps clear = record {
  read = λ c told d told_end s. sym ((is.agrees d told_end).each s (clear s)) ∙ keeps.given c told d told_end s;
  unmarked = clear;
}

-- A cache that holds none is of any disk.
pub IsOfDisk-none : (disk : DiskIdentity) (m : List Content) (slots : ℕ) → IsOfDisk (no_sectors slots) disk m
IsOfDisk-none disk m slots = record {
  within = λ s held e. absurd (none-some held e);
  whole = λ s held e. absurd (none-some held e);
  apart = λ scratch e. refl;
  agrees = λ c told. record { each = λ s clear. refl };
}

-- Another call wrote to the disk no sector that is held.
pub IsOfDisk-elsewhere : (disk : DiskIdentity) {a b : List Content} (sectors : HeldSectors) → IsOfDisk sectors disk a
    → ((d : Content) → content_now b ≡ Some d → (c : Content) × (content_now a ≡ Some c) × ((s : ℕ) (held : Held) → held_in sectors s ≡ Some held → last_image d s ≡ last_image c s)) → IsOfDisk sectors disk b
IsOfDisk-elsewhere disk {a} {b} sectors is elsewhere = record {
  within = is.within;
  whole = is.whole;
  apart = is.apart;
  agrees = λ d told.
      let start = elsewhere d told in
      record { each = λ s clear. by_held d start.0 s (held_in sectors s) (start.2 s) ((is.agrees start.0 start.1).each s clear) };
}
  where
    by_held : (d c : Content) (s : ℕ) (o : Option Held) → ((held : Held) → o ≡ Some held → last_image d s ≡ last_image c s) → held_or o (last_image c s) ≡ last_image c s → held_or o (last_image d s) ≡ last_image d s
    by_held d c s None same agrees = refl
    by_held d c s (Some held) same agrees = agrees ∙ sym (same held refl)

-- Once each sector that was marked is unmarked, none is marked.
pub none_is_marked : {a b : List Content} (old new : HeldSectors) (xs ys : List ℕ) → Keeps old new a b → ((s : ℕ) → is_marked old s ≡ true → Contains xs s) → ys ≡ xs → ((s : ℕ) → Contains ys s → is_marked new s ≡ false) → (s : ℕ) → is_marked new s ≡ false
none_is_marked old new xs ys keeps listed same written s = elim (cases_Bool (is_marked new s)) [
  | inl y ↦ written s (subst (λ (zs : List ℕ). Contains zs s) (sym same) (listed s (ap marked_of (sym (keeps.marked s y)) ∙ y)))
  | inr n ↦ n
]

-- ---- for callers

-- What a use of a sector brings, is what was marked.
pub IsMarkedSector-put_out : (at : ℕ) (sectors : HeldSectors) (s : ℕ) (x : List ℕ) → IsPutOut at sectors s x → IsMarkedSector sectors s x
IsMarkedSector-put_out at sectors s x out = ⊎_elim (λ recent. recent.marked) (λ scratch. scratch.marked) out.out

pub adds_marked : {a b : List Content} (at : ℕ) (sectors : HeldSectors) → EachSince (OnlyAdds (IsPutOut at sectors)) a b → EachSince (OnlyAdds (IsMarkedSector sectors)) a b
adds_marked at sectors moments = adds_wider (IsPutOut at sectors) (IsMarkedSector sectors) (IsMarkedSector-put_out at sectors) moments

-- So is what a write-back brings.
OnlyAdds-write_back : (sectors : HeldSectors) (c d : Content) → IsAmidWriteBack sectors c d → OnlyAdds (IsMarkedSector sectors) c d
OnlyAdds-write_back sectors c d amid = record {
  among = λ s x has. elim (cases_lt s amid.end) [
    | inl low ↦ of_written s x (held_in sectors s) refl (subst (λ (xs : List (List ℕ)). Contains xs x) (amid.below s low) has)
    | inr high ↦ inl (subst (λ (xs : List (List ℕ)). Contains xs x) (amid.above s high) has)
  ];
}
  where
    of_written : (s : ℕ) (x : List ℕ) (o : Option Held) → held_in sectors s ≡ o → Contains (if marked_of o then c s ++ held_or o (last_image c s) ∷ [] else c s) x → Contains (c s) x ⊎ IsMarkedSector sectors s x
    of_written s x None is has = inl has
    of_written s x (Some held) is has = elim (cases_Bool held.marked) [
      | inl y ↦ ⊎_elim inl (λ e. inr (record { held = held; is = is; marked = y; bytes = sym e }))
          (Contains-push_cases (c s) held.bytes x (subst (λ (xs : List (List ℕ)). Contains xs x) (ap (λ (b : Bool). if b then c s ++ held.bytes ∷ [] else c s) y) has))
      | inr n ↦ inl (subst (λ (xs : List (List ℕ)). Contains xs x) (ap (λ (b : Bool). if b then c s ++ held.bytes ∷ [] else c s) n) has)
    ]

pub write_back_adds : {a b : List Content} (sectors : HeldSectors) → EachSince (IsAmidWriteBack sectors) a b → EachSince (OnlyAdds (IsMarkedSector sectors)) a b
write_back_adds {a} sectors moments = EachMoment-weaker (FromStart-weaker a (IsAmidWriteBack sectors) (OnlyAdds (IsMarkedSector sectors)) (λ start c told amid. OnlyAdds-write_back sectors start c amid)) moments

-- Where none is marked none is after a step that keeps what is given.
pub HasNoMark-kept : {a b : List Content} (old new : HeldSectors) → Keeps old new a b → HasNoMark old → HasNoMark new
HasNoMark-kept old new keeps none = record { none = λ sector. stays_unmarked old new sector keeps (none.none sector) }
