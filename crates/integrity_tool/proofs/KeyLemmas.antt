-- The key that the first bytes of a file are.
use Rattle.std.proofs.Common.{◌≡◌, ◌≢◌, ◌⊎◌, inl, inr, ℕ, ◌<◌, ◌≤◌, ◌==◌, Bool, true, false, if◌then◌else◌, List, length, take, ltb, refl, sym, ap, subst, ◌∙◌, arith, rules, Option, None, Some, Result, Ok, Err}
use Rattle.std.proofs.lemmas.Bool.{lt-ltb, ne_eqb}
use Rattle.std.proofs.lemmas.List.{length-take, take_all}
use Rattle.run_model.specs.Ending.{status_of}
use Rattle.run_model.specs.declared.key_refusal.KeyRefusal.{KeyRefusal}
use Rattle.run_model.specs.declared.key_refusal.KeyRefusal.TheVariants.{Empty, Long}
use Rattle.command_words.specs.declared.values.HashChoice.{HashChoice}
use Rattle.command_words.specs.declared.values.HashChoice.TheVariants.{HmacSha256, Sha256}
use Rattle.command_task.specs.declared.asked.Asking.{Asking}
use Rattle.command_task.specs.Words.{asking_of, key_file_of, key_file_of_asking}
use Rattle.command_ending.specs.Ended.{ending_of}
use Rattle.command_ending.specs.declared.ended.Ended.{Ended}
use Rattle.command_ending.specs.declared.ended.Ended.TheVariants as Endings
use Rattle.integrity_tool.specs.KeyFile.{HasKeyRead, ReadsKey}
use Rattle.command_model.specs.KeyFile.{HasFile}
use Rattle.command_model.specs.Outset.{key_by, key_in, keyed}
use Rattle.run_model.specs.declared.outer.Outer.TheVariants as outers
use Rattle.command_ending.specs.declared.refusal.Refusal.TheVariants as refusals

by_tests : (bytes : List ℕ) (empty long : Bool) → (length bytes == 0) ≡ empty → ltb 4096 (length bytes) ≡ long
    → key_in bytes ≡ (if empty then Err Empty else if long then Err Long else Ok bytes)
by_tests bytes empty long is_empty is_long =
    ap (λ (b : Bool). if b then Err Empty else if ltb 4096 (length bytes) then Err Long else Ok bytes) is_empty
    ∙ ap (λ (b : Bool). if empty then Err Empty else if b then Err Long else Ok bytes) is_long

-- Where no more than the bound was read and not all of it, the file is that.
pub read_whole : (all : List ℕ) → length (take 4097 all) ≤ 4096 → take 4097 all ≡ all
read_whole all short = take_all 4097 all (omega (arith, short, length-take 4097 all))

pub key_is : (bytes all : List ℕ) → bytes ≡ take 4097 all → length bytes ≢ 0 → length bytes ≤ 4096 → key_in all ≡ Ok bytes
key_is bytes all read some short =
    let is : all ≡ bytes = sym (read_whole all (omega (arith, short, ap length read))) ∙ sym read in
    ap key_in is ∙ by_tests bytes false false (search (rules, some)) (search (rules, short))

pub is_empty : (bytes all : List ℕ) → bytes ≡ take 4097 all → length bytes ≡ 0 → key_in all ≡ Err Empty
is_empty bytes all read none =
    let size : length all ≡ 0 = omega (arith, none, ap length read, length-take 4097 all) in
    by_tests all true (ltb 4096 (length all)) (ap (λ (n : ℕ). n == 0) size) refl

not_zero : (n : ℕ) → 4096 < n → (n == 0) ≡ false
not_zero n big = ne_eqb n 0 (λ is. absurd (omega (arith, big, is)))

pub is_long : (bytes all : List ℕ) → bytes ≡ take 4097 all → 4096 < length bytes → key_in all ≡ Err Long
is_long bytes all read long =
    let size : 4096 < length all = omega (arith, long, ap length read, length-take 4097 all) in
    by_tests all false true (not_zero (length all) size) (lt-ltb 4096 (length all) size)

-- ---- by the choice of a hash

pub file_bytes : (choice : HashChoice) (file name : List ℕ) (named : List ℕ → Option (List ℕ)) (bytes : List ℕ) → choice ≡ HmacSha256 file → name ≡ file
    → HasFile (key_file_of choice) named bytes → named name ≡ Some bytes
file_bytes choice file name named bytes is same has =
    ap named same ∙ subst (λ (x : HashChoice). HasFile (key_file_of x) named bytes) is has

pub key_told : (choice : HashChoice) (file bytes : List ℕ) (told : Result (List ℕ) KeyRefusal) → choice ≡ HmacSha256 file → key_in bytes ≡ told
    → key_by (key_file_of choice) bytes ≡ keyed told
key_told choice file bytes told is in_ = ap (λ (x : HashChoice). key_by (key_file_of x) bytes) is ∙ ap keyed in_

pub at_most : (n : ℕ) → ¬ (4096 < n) → n ≤ 4096
at_most n not_more = omega (arith, not_more)

-- ---- what is read

-- Where no file is chosen the source is the same.
pub read_no_key : {K : Type 0} (choice : HashChoice) (named : K → List ℕ → Option (List ℕ))
    (left : K → Option (List ℕ)) (key used : K) (is_read : Type 0) → choice ≡ Sha256 → used ≡ key
    → ReadsKey (key_file_of choice) named left key used is_read
read_no_key choice named left key used is_read is same =
    subst (λ (x : HashChoice). ReadsKey (key_file_of x) named left key used is_read) (sym is) same

-- Where one is, what is read of the file of that name.
pub read_key : {K : Type 0} (choice : HashChoice) (file name : List ℕ) (named : K → List ℕ → Option (List ℕ))
    (left : K → Option (List ℕ)) (key used : K) (is_read : Type 0) → choice ≡ HmacSha256 file → name ≡ file
    → ReadsKey (Some name) named left key used is_read → ReadsKey (key_file_of choice) named left key used is_read
read_key choice file name named left key used is_read is same read =
    subst (λ (x : HashChoice). ReadsKey (key_file_of x) named left key used is_read) (sym is)
    (subst (λ (n : List ℕ). ReadsKey (Some n) named left key used is_read) same read)

-- What was read of the same file, where it is read then too.
pub read_as : {K : Type 0} (file other : Option (List ℕ)) (named : K → List ℕ → Option (List ℕ))
    (left : K → Option (List ℕ)) (key used : K) (is_read was_read : Type 0) → other ≡ file → (is_read → was_read)
    → ReadsKey file named left key used was_read → ReadsKey other named left key used is_read
read_as file other named left key used is_read was_read is weaker read =
    subst (λ (f : Option (List ℕ)). ReadsKey f named left key used is_read) (sym is) (by file read)
  where
    by : (f : Option (List ℕ)) → ReadsKey f named left key used was_read → ReadsKey f named left key used is_read
    by None same = same
    by (Some f) told = λ bytes has. ((told bytes has).0, λ now. (told bytes has).1 (weaker now))

-- Where the source is the same and no file is read.
pub not_read : {K : Type 0} (file : Option (List ℕ)) (named : K → List ℕ → Option (List ℕ))
    (left : K → Option (List ℕ)) (key used : K) (is_read : Type 0) → used ≡ key → (is_read → ⊥)
    → ReadsKey file named left key used is_read
not_read None named left key used is_read same none = same
not_read (Some file) named left key used is_read same none = λ bytes has. (
  record {
    count = 0;
    within = omega arith;
    rest = ap (λ (k : _). named k file) same ∙ has;
  },
  λ now. absurd (none now),
)

-- Where words are no command no key file is named, and where there is no memory for them none is read.
pub words_unread : {K : Type 0} (words : List (List ℕ)) (named : K → List ℕ → Option (List ℕ))
    (left : K → Option (List ℕ)) (key : K) (ended : Ended) → (ended ≡ Endings.Refused refusals.Words) ⊎ (ended ≡ Endings.Memory)
    → (ended ≡ Endings.Refused refusals.Words → asking_of words ≡ None)
    → ReadsKey (key_file_of_asking (asking_of words)) named left key key (HasKeyRead ended)
words_unread words named left key ended (inl is) none =
    subst (λ (a : Option Asking). ReadsKey (key_file_of_asking a) named left key key (HasKeyRead ended)) (sym (none is)) refl
words_unread words named left key ended (inr is) none =
    not_read (key_file_of_asking (asking_of words)) named left key key (HasKeyRead ended) refl
    (λ read. subst HasKeyRead is read)

-- Where neither status 5 nor 7 tells of it, the key file was read.
pub was_read : (ended : Ended) → (status_of (ending_of ended) ≢ 5) × (status_of (ending_of ended) ≢ 7)
    → HasKeyRead ended
was_read (Endings.Refused refusal) is = tt
was_read (Endings.Failed outers.Disk) is = tt
was_read (Endings.Failed outers.Key) is = is.0 refl
was_read (Endings.Failed outers.Script) is = tt
was_read (Endings.Failed outers.Sink) is = tt
was_read Endings.Memory is = is.1 refl
